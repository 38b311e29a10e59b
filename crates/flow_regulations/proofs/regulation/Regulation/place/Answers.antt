use Rattle.std.proofs.Common.{Some, ap, ◌∙◌}
use Rattle.std.specs.Prelude.{IsSome}
use Rattle.flow_slots.specs.Lineup.{held_slot}
use Rattle.flow_regulations.specs.Listing.{RegulationView, with_lineup, placed}
use Rattle.flow_regulations.proofs.Placing.{held-waiting, not-fixed, fixed-is, placed-fixed, keeps-open}
use Rattle.flow_regulations.proofs.regulation.Regulation.place.Goals as goal

pub fix-requires-clause-held : goal.fix-requires-clause-held
fix-requires-clause-held g c = rw c.insert.ensures.lineup (held-waiting (record { entry = c.args.entry; flight = c.args.number }) c.self.inside.list.lineup)

pub fix-requires-clause-waits : goal.fix-requires-clause-waits
fix-requires-clause-waits g c =
    rw c.insert.ensures.lineup (not-fixed c.self.inside.list.lineup c.args.number (ap (λ v. held_slot v.lineup c.args.number) c.self.view_is ∙ c.requires.absent))

pub invariant_of-self : goal.invariant_of-self
invariant_of-self g c =
    let s = c.self.inside in
    let w = c.insert.ensures.lineup in
    let l = c.insert.new.self.lineup in
    let held : IsSome (held_slot l c.args.number) = rw w (held-waiting (record { entry = c.args.entry; flight = c.args.number }) s.list.lineup) in
    let there = fixed-is (held_slot l c.args.number) c.args.number l c.fix.new.self.lineup held c.fix.ensures.lineup in
    keeps-open (held_slot l c.args.number) c.args.number s.list.lineup l c.fix.new.self.lineup (record { entry = c.args.entry; flight = c.args.number }) w there c.self.invariant

pub returns-then-due : goal.returns-then-due
returns-then-due g c =
    let s = c.self.inside in
    let m : RegulationView = record { id = s.id; spot = s.spot; lineup = s.list.lineup } in
    let w = c.insert.ensures.lineup in
    let l = c.insert.new.self.lineup in
    let held : IsSome (held_slot l c.args.number) = rw w (held-waiting (record { entry = c.args.entry; flight = c.args.number }) s.list.lineup) in
    let there = fixed-is (held_slot l c.args.number) c.args.number l c.fix.new.self.lineup held c.fix.ensures.lineup in
    placed-fixed m c.args.entry c.args.number c.args.due l c.fix.new.self.lineup c.if-due.true w there ∙ ap (λ v. with_lineup (placed (Some c.args.entry) c.args.due c.args.number v.lineup) v) c.self.view_is
