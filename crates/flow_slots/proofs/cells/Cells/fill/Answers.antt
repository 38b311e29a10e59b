use Rattle.std.proofs.Common.{◌≡◌, ◌-◌, max, length, get_or, refl, ◌∙◌, arith}
use Rattle.flow_slots.specs.declared.cell.Planned.{Planned}
use Rattle.flow_slots.specs.Period.{first_slot}
use Rattle.flow_slots.proofs.Filling.{Filling-start, Filling-step, Filling-within, comes_next}
use Rattle.flow_slots.proofs.Storing.{stored-waiting}
use Rattle.flow_slots.proofs.cells.Cells.fill.Goals as goal

pub loop-planned-init : goal.loop-planned-init
loop-planned-init g c =
    let s = c.args.self.now in
    record {
      walk = Filling-start c.args.shape.now (length c.args.places.now.items - 1) c.args.flights.now s.row c.args.places.now.items c.requires.kept c.requires.may.none_waiting c.requires.may.none_fixed;
      start = refl;
      writes = refl;
    }

pub put-requires-clause-slot : goal.put-requires-clause-slot
put-requires-clause-slot g c =
    let none : Planned = record { entry = 0; flight = 0 } in
    let s = c.loop-planned.self in
    let x : Planned = get_or c.args.flights.now c.loop-planned.planned-index none in
    let comes = comes_next _ c.args.flights.now c.loop-planned.planned-index none c.requires.may c.loop-planned-test.true in
    let slot : c.max-k.result ≡ max (first_slot c.args.shape.now x.entry) c.loop-planned.next = omega (arith, c.max-k.ensures, c.at.ensures) in
    Filling-within _ _ _ _ c.loop-planned.next c.max-k.result s.row c.loop-planned.places.items x c.loop-planned.invariant.walk comes slot

pub loop-planned-preserved : goal.loop-planned-preserved
loop-planned-preserved g c =
    let none : Planned = record { entry = 0; flight = 0 } in
    let s = c.loop-planned.self in
    let x : Planned = get_or c.args.flights.now c.loop-planned.planned-index none in
    let comes = comes_next _ c.args.flights.now c.loop-planned.planned-index none c.requires.may c.loop-planned-test.true in
    let slot : c.max-k.result ≡ max (first_slot c.args.shape.now x.entry) c.loop-planned.next = omega (arith, c.max-k.ensures, c.at.ensures) in
    rw (c.put.ensures.row, c.of.ensures) (record {
      walk = Filling-step _ _ _ _ c.loop-planned.next c.max-k.result s.row c.loop-planned.places.items x c.loop-planned.invariant.walk comes slot;
      start = c.put.ensures.start ∙ c.loop-planned.invariant.start;
      writes = c.put.ensures.writes ∙ c.loop-planned.invariant.writes;
    })

pub put-requires-clause-kept : goal.put-requires-clause-kept
put-requires-clause-kept g c =
    let none : Planned = record { entry = 0; flight = 0 } in
    let s = c.args.self.now in
    let x : Planned = get_or c.args.flights.now c.loop-planned.planned-index none in
    let comes = comes_next _ c.args.flights.now c.loop-planned.planned-index none c.requires.may c.loop-planned-test.true in
    stored-waiting c.loop-planned.self.start c.args.shape.now (length c.args.places.now.items - 1) x (c.loop-planned.invariant.start ∙ c.requires.start) c.requires.kept.regular comes.within comes.most c.requires.kept.flights

pub returns-clause-start : goal.returns-clause-start
returns-clause-start g c = c.count.ensures.start ∙ c.loop-planned.invariant.start
