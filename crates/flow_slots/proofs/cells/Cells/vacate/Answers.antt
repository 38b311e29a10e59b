use Rattle.std.proofs.Common.{◌≡◌, ◌+◌, ◌++◌, length, map, take, drop, sym, ap, subst, ◌∙◌, arith}
use Rattle.std.proofs.lemmas.List.{with_items_is}
use Rattle.std.specs.Vec.{with_items}
use Rattle.flow_slots.specs.Changed.{gained}
use Rattle.flow_slots.specs.PackedCell.{from_start}
use Rattle.flow_slots.specs.Period.{first_slot}
use Rattle.flow_slots.specs.Row.{flight_at, IsTied, EntriesWithin}
use Rattle.flow_slots.specs.Walk.{close}
use Rattle.flow_slots.proofs.Behind.{EntriesWithin-made, closed-lifted}
use Rattle.flow_slots.proofs.Lifted.{IsTied-made, IsTied-lifted, flight_at-lifted, gained-lifted}
use Rattle.flow_slots.proofs.Started.{started}
use Rattle.flow_slots.proofs.Tied.{flight_at-within}
use Rattle.flow_slots.proofs.cells.Cells.vacate.Goals as goal

pub vacate_in-moved-requires-clause-tied : goal.vacate_in-moved-requires-clause-tied
vacate_in-moved-requires-clause-tied g c =
    let s = c.self.inside in
    rw (c.deref_mut.ensures.value, c.deref_mut-2.ensures.value) (IsTied-made c.args.places.now.items s.start s.row.items s.len (subst (λ v. IsTied c.args.places.now.items v.row) (sym c.self.view_is) c.requires.tied))

pub vacate_in-moved-requires-clause-stands : goal.vacate_in-moved-requires-clause-stands
vacate_in-moved-requires-clause-stands g c =
    let s = c.self.inside in
    rw c.deref_mut.ensures.value (sym (flight_at-lifted s.start s.row.items s.len c.args.k) ∙ (ap (λ v. flight_at v.row c.args.k) c.self.view_is ∙ c.requires.stands))

pub vacate_in-moved-requires-clause-entries : goal.vacate_in-moved-requires-clause-entries
vacate_in-moved-requires-clause-entries g c =
    let s = c.self.inside in
    let from : s.start ≡ c.args.shape.now.start = ap (λ v. v.start) c.self.view_is ∙ c.requires.start in
    rw (c.deref_mut.ensures.value, c.by_ref.ensures) (subst (λ i. EntriesWithin c.args.shape.now (map (from_start i) s.row.items)) from (EntriesWithin-made c.args.shape.now s.start s.row.items s.len (subst (λ v. EntriesWithin c.args.shape.now v.row) (sym c.self.view_is) c.requires.entries)))

pub returns-clause-tied : goal.returns-clause-tied
returns-clause-tied g c =
    let s = c.self.inside in
    let new = c.vacate_in-moved.new.cells in
    let same : length new ≡ length s.row.items = c.vacate_in-moved.auto.cells ∙ ap length c.deref_mut.ensures.value in
    let is = with_items_is s.row new (omega (arith, same, s.row.ok.0)) in
    let seats = c.vacate_in-moved.new.places in
    let put = with_items_is c.args.places.now seats (omega (arith, c.vacate_in-moved.auto.places, ap length c.deref_mut-2.ensures.value, c.args.places.now.ok.0)) in
    rw (is, put) (IsTied-lifted seats s.start new s.len c.vacate_in-moved.ensures.tied)

pub returns-clause-row : goal.returns-clause-row
returns-clause-row g c =
    let s = c.self.inside in
    let cells = s.row.items in
    let k = c.args.k in
    let new = c.vacate_in-moved.new.cells in
    let same : length new ≡ length cells = c.vacate_in-moved.auto.cells ∙ ap length c.deref_mut.ensures.value in
    let is = with_items_is s.row new (omega (arith, same, s.row.ok.0)) in
    let stands = sym (flight_at-lifted s.start cells s.len k) ∙ (ap (λ v. flight_at v.row k) c.self.view_is ∙ c.requires.stands) in
    let from : s.start ≡ c.args.shape.now.start = ap (λ v. v.start) c.self.view_is ∙ c.requires.start in
    let closed = subst (λ i. map (from_start i) new ≡ take k (map (from_start i) cells) ++ close (λ e. first_slot c.args.shape.now e) k (drop (k + 1) (map (from_start i) cells))) (sym from) (rw (c.deref_mut.ensures.value, c.by_ref.ensures) at c.vacate_in-moved.ensures.cells) in
    let lifted = closed-lifted (λ e. first_slot c.args.shape.now e) s.start cells new s.len k (flight_at-within cells k c.args.flight stands) same closed in
    ap (λ v. started s.start v s.len) is ∙ (lifted ∙ ap (λ v. take k v.row ++ close (λ e. first_slot c.args.shape.now e) k (drop (k + 1) v.row)) c.self.view_is)

pub returns-clause-writes : goal.returns-clause-writes
returns-clause-writes g c =
    let s = c.self.inside in
    let cells = s.row.items in
    let new = c.vacate_in-moved.new.cells in
    let same : length new ≡ length cells = c.vacate_in-moved.auto.cells ∙ ap length c.deref_mut.ensures.value in
    let is = with_items_is s.row new (omega (arith, same, s.row.ok.0)) in
    let written = rw c.deref_mut.ensures.value at c.vacate_in-moved.ensures.written in
    let more : gained c.args.self.now.row (started s.start (with_items s.row new).items s.len) + 1 ≡ c.vacate_in-moved.result =
    ap (λ v. gained v.row (started s.start (with_items s.row new).items s.len) + 1) (sym c.self.view_is) ∙ (ap (λ v. gained (started s.start cells s.len) (started s.start v s.len) + 1) is ∙ (ap (λ n. n + 1) (gained-lifted s.start cells new s.len same) ∙ sym written)) in
    omega (arith, more, ap (λ v. v.writes) c.self.view_is, c.saturating_add-self-inside.ensures)
