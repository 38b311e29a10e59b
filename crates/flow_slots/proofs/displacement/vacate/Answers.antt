use Rattle.std.proofs.Common.{◌≡◌, ◌+◌, ◌-◌, refl, length, map, set, sym, ap, subst, ◌∙◌, arith}
use Rattle.std.proofs.lemmas.List.{length-map, length-set, map-set}
use Rattle.flow_slots.specs.declared.cell.Cell.TheVariants.{Empty}
use Rattle.flow_slots.specs.PackedCell.{from_start, flight_from, planned_in}
use Rattle.flow_slots.specs.Period.{first_slot}
use Rattle.flow_slots.specs.Changed.{gained}
use Rattle.flow_slots.specs.Row.{IsTied}
use Rattle.flow_slots.proofs.Behind.{IsTied-row, IsTied-cells, flight_at-row, gained-row}
use Rattle.flow_slots.proofs.MovingUp.{Closing-put, Closing-start, close-stays, Closing-end}
use Rattle.flow_slots.proofs.Tied.{IsTied-known, IsTied-other, flight_at-within}
use Rattle.flow_slots.proofs.displacement.vacate.Goals as goal

pub bounds-places-flight : goal.bounds-places-flight
bounds-places-flight c =
    omega (arith, IsTied-known c.args.places.now c.args.row.now.cells.now c.args.row.now.at c.args.flight c.requires.tied c.requires.stands)

pub bounds-places-flight-in-Some : goal.bounds-places-flight-in-Some
bounds-places-flight-in-Some c =
    let start = c.args.shape.now.start in
    let row = c.loop-next.row in
    let m = c.in-Some.ensures.found in
    omega (arith, IsTied-other c.loop-next.places (map (from_start start) row.cells.now) row.at c.in-Some.next.slot (flight_from start (planned_in c.in-Some.next.held)) c.loop-next.invariant.walk.tied m.after m.stands, c.flight.ensures)

pub bounds-places-flight-in-Some-follower : goal.bounds-places-flight-in-Some-follower
bounds-places-flight-in-Some-follower c =
    let start = c.args.shape.now.start in
    let row = c.loop-held.row in
    let m = c.in-Some-follower.ensures.found in
    omega (arith, IsTied-other c.loop-held.places (map (from_start start) row.cells.now) row.at (row.at + 1) (flight_from start (planned_in c.in-Some-follower.held)) c.loop-held.invariant.walk.tied m.after m.stands, c.flight-in-Some-follower.ensures)

pub loop-next-init : goal.loop-next-init
loop-next-init c =
    let start = c.args.shape.now.start in
    let cells = c.args.row.now.cells.now in
    let k = c.args.row.now.at in
    rw (c.none.ensures, c.requires.fresh) (record {
      same_reference = refl;
      walk = Closing-start c.args.shape.now (map (from_start start) cells) k c.args.places.now k c.args.flight (IsTied-row c.args.places.now start cells c.requires.tied) (flight_at-row start cells k ∙ c.requires.stands) c.requires.entries;
      within = flight_at-within cells k c.args.flight c.requires.stands;
    })

pub loop-held-init : goal.loop-held-init
loop-held-init c =
    let row = c.loop-next.row in
    let next = c.in-Some.next in
    let more = next.slot - row.at - 1 in
    let after = c.in-Some.ensures.found.after in
    let is : row.at + 1 + more ≡ next.slot = omega (arith, after) in
    rw (c.pass.ensures.cells, c.pass.ensures.at, c.pass.ensures.passed, c.put.ensures.cells, c.put.ensures.at, c.put.ensures.passed, c.of.ensures, c.flight.ensures, c.at-hole.ensures, is) (record {
      same_reference = c.pass.ensures.same_reference ∙ (c.put.ensures.same_reference ∙ c.loop-next.invariant.same_reference);
      walk = Closing-put c.args.shape.now c.args.shape.now.start _ _ row.passed _ row.cells.now c.loop-next.places row.at next.slot (row.passed + more) next.held c.loop-next.invariant.walk c.in-Some.ensures.found c.in-Some.ensures.waits (omega (arith, is));
      within = omega (arith, c.in-Some.ensures.within, length-set row.cells.now row.at next.held);
      later = omega arith;
    })

pub loop-held-preserved : goal.loop-held-preserved
loop-held-preserved c =
    let row = c.loop-held.row in
    let held = c.in-Some-follower.held in
    rw (c.put-in-Some-follower.ensures.cells, c.put-in-Some-follower.ensures.at, c.put-in-Some-follower.ensures.passed, c.of-in-Some-follower.ensures, c.flight-in-Some-follower.ensures, c.at-hole-in-Some-follower.ensures) (record {
      same_reference = c.put-in-Some-follower.ensures.same_reference ∙ c.loop-held.invariant.same_reference;
      walk = Closing-put c.args.shape.now c.args.shape.now.start _ _ row.passed _ row.cells.now c.loop-held.places row.at (row.at + 1) row.passed held c.loop-held.invariant.walk c.in-Some-follower.ensures.found c.in-Some-follower.ensures.waits (omega arith);
      within = omega (arith, c.in-Some-follower.ensures.within, length-set row.cells.now row.at held);
      later = omega (arith, c.loop-held.invariant.later);
    })

pub loop-next-preserved : goal.loop-next-preserved
loop-next-preserved c = record {
  same_reference = c.loop-held.invariant.same_reference;
  walk = c.loop-held.invariant.walk;
  within = c.loop-held.invariant.within;
}

pub loop-next-smaller : goal.loop-next-smaller
loop-next-smaller c =
    omega (arith, c.loop-held.invariant.later, c.pass.ensures.at, c.put.ensures.at, c.loop-next.invariant.walk.within, length-map c.args.row.now.cells.now (from_start c.args.shape.now.start))

pub returns-clause-tied : goal.returns-clause-tied
returns-clause-tied c =
    let start = c.args.shape.now.start in
    let row = c.loop-next.row in
    let put = map-set (from_start start) row.cells.now row.at Empty in
    rw (c.put-2.ensures.cells, c.empty.ensures) (IsTied-cells c.loop-next.places start (set row.cells.now row.at Empty) (subst (IsTied c.loop-next.places) (sym put) c.loop-next.invariant.walk.tied))

pub returns-clause-cells : goal.returns-clause-cells
returns-clause-cells c =
    let start = c.args.shape.now.start in
    let row = c.loop-next.row in
    let put = map-set (from_start start) row.cells.now row.at Empty in
    let stays = close-stays (λ e. first_slot c.args.shape.now e) row.at (map (from_start start) row.cells.now) (omega (arith, c.loop-next.invariant.within, length-map row.cells.now (from_start start))) c.in_default.ensures.none in
    rw (c.put-2.ensures.cells, c.empty.ensures) (put ∙ (sym stays ∙ c.loop-next.invariant.walk.target))

pub returns-clause-written : goal.returns-clause-written
returns-clause-written c =
    let start = c.args.shape.now.start in
    let first = c.args.row.now.cells.now in
    let row = c.loop-next.row in
    let new = set row.cells.now row.at Empty in
    let put = map-set (from_start start) row.cells.now row.at Empty in
    let end = Closing-end _ _ _ _ _ _ row.at _ row.at c.loop-next.invariant.walk in
    let same : length new ≡ length first = length-set row.cells.now row.at Empty ∙ (sym (length-map row.cells.now (from_start start)) ∙ (c.loop-next.invariant.walk.len ∙ length-map first (from_start start))) in
    let raw = ap (gained (map (from_start start) first)) (sym put) ∙ gained-row start first new same in
    rw (c.put-2.ensures.at, c.put-2.ensures.passed, c.put-2.ensures.cells, c.empty.ensures) (omega (arith, end, raw))
