use Rattle.std.proofs.Common.{◌≡◌, refl, sym, ap, subst, ◌∙◌, ◌+◌, arith}
use Rattle.flow_slots.specs.declared.cell.Cell.TheVariants.{Empty, Fixed}
use Rattle.std.proofs.lemmas.List.{drop-set-lt}
use Rattle.flow_slots.specs.Row.{cell_at, flight_of}
use Rattle.flow_slots.specs.Walk.{AllFollow}
use Rattle.flow_slots.proofs.Following.{AllFollow-drop}
use Rattle.flow_slots.proofs.Gained.{gained-pushed}
use Rattle.flow_slots.proofs.Steps.{push-empty, open_is_empty}
use Rattle.flow_slots.proofs.Tied.{IsTied-put, IsTied-replace, IsTied-absent, IsTied-known, IsTied-some}
use Rattle.flow_slots.proofs.cells.Cells.put_fixed.Goals as goal

pub index_mut-requires-in-Waiting : goal.index_mut-requires-in-Waiting
index_mut-requires-in-Waiting g c =
    let s = c.args.self.now in
    omega (arith, IsTied-known c.args.places.now.items s.row c.args.k c.in-Waiting.held.flight c.requires.tied (ap flight_of (sym c.in-Waiting.ensures.value)))

pub displace-requires-clause-tied : goal.displace-requires-clause-tied
displace-requires-clause-tied g c =
    let s = c.args.self.now in
    let away = IsTied-absent c.args.places.now.items s.row c.args.flight c.requires.tied c.requires.absent in
    rw (c.write.ensures.cells, c.of.ensures, c.none.ensures) (IsTied-replace c.args.places.now.items s.row c.args.k c.args.flight (Fixed c.args.flight) c.in-Waiting.held away c.requires.slot c.requires.some (omega arith) refl c.in-Waiting.ensures.value)

pub displace-requires-clause-order : goal.displace-requires-clause-order
displace-requires-clause-order g c =
    let s = c.args.self.now in
    let beyond = drop-set-lt (c.args.k + 1) s.row c.args.k (Fixed c.args.flight) (omega arith) in
    rw c.write.ensures.cells (subst AllFollow (sym beyond) (AllFollow-drop (c.args.k + 1) s.row c.requires.order))

pub displace-requires-clause-some : goal.displace-requires-clause-some
displace-requires-clause-some g c =
    let s = c.args.self.now in
    IsTied-some c.args.places.now.items s.row c.args.k c.in-Waiting.held.flight c.requires.tied (ap flight_of (sym c.in-Waiting.ensures.value))

pub displace-requires-clause-number : goal.displace-requires-clause-number
displace-requires-clause-number g c =
    let s = c.args.self.now in
    omega (arith, IsTied-known c.args.places.now.items s.row c.args.k c.in-Waiting.held.flight c.requires.tied (ap flight_of (sym c.in-Waiting.ensures.value)))

pub returns-in_default : goal.returns-in_default
returns-in_default g c =
    let s = c.args.self.now in
    let empty : cell_at s.row c.args.k ≡ Empty =
    open_is_empty _ (λ w e. c.in_default.not-Waiting w (c.cell-cell.ensures.value ∙ e)) c.requires.open in
    record {
      tied = rw (c.write.ensures.cells, c.of.ensures) (IsTied-put c.args.places.now.items s.row c.args.k c.args.flight (Fixed c.args.flight) c.requires.tied c.requires.slot c.requires.some (omega arith) (ap flight_of empty) c.requires.absent refl);
      start = ap (λ v. v.start) c.write.ensures.cells;
      row = ap (λ v. v.row) c.write.ensures.cells ∙ push-empty s.row c.args.k c.args.flight c.requires.slot empty;
      len = omega arith;
      writes = rw c.write.ensures.cells (omega arith);
      more = c.write.ensures.more;
    }

pub returns-in-Waiting-clause-writes : goal.returns-in-Waiting-clause-writes
returns-in-Waiting-clause-writes g c =
    let s = c.args.self.now in
    let row = rw c.write.ensures.cells at c.displace.ensures.row in
    let writes = rw c.write.ensures.cells at c.displace.ensures.writes in
    omega (arith, writes, gained-pushed s.row _ c.displace.new.self.row c.args.k (Fixed c.args.flight) c.requires.slot row)
