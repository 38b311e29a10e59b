use Rattle.std.proofs.Common.{arith}
use Rattle.flow_plans.specs.Plans.{plan_at}
use Rattle.flow_regulations.specs.Listing.{RegulationView}
use Rattle.flow_regulations.proofs.Delays.{IsDelay-none, IsDelay-no_entry, IsDelay-some, delay-bound}
use Rattle.flow_regulations.proofs.telling.delay_in.Goals as goal

pub returns-in_err-slot-clause-value : goal.returns-in_err-slot-clause-value
returns-in_err-slot-clause-value g c =
    let s = c.regulation.inside in
    let v : RegulationView = record { id = s.id; spot = s.spot; lineup = s.list.lineup } in
    IsDelay-none c.args.plans.now.taxi c.args.number (plan_at c.args.plans.now.plans c.args.number) v c.args.regulation.now c.fixed_moment.result c.from_residual.result
    c.regulation.view_is c.fixed_moment.ensures c.in_err-slot.was c.from_residual.ensures

pub returns-in_err-entry-clause-value : goal.returns-in_err-entry-clause-value
returns-in_err-entry-clause-value g c =
    let s = c.regulation.inside in
    let v : RegulationView = record { id = s.id; spot = s.spot; lineup = s.list.lineup } in
    IsDelay-no_entry c.args.plans.now.taxi c.args.number c.in_ok-slot.slot (plan_at c.args.plans.now.plans c.args.number) v c.args.regulation.now c.fixed_moment.result c.entry.result c.from_residual-in_err-entry.result
    c.regulation.view_is c.fixed_moment.ensures c.in_ok-slot.was c.entry.ensures c.in_err-entry.was c.from_residual-in_err-entry.ensures

pub returns-clause-value : goal.returns-clause-value
returns-clause-value g c =
    let s = c.regulation.inside in
    let v : RegulationView = record { id = s.id; spot = s.spot; lineup = s.list.lineup } in
    rw (c.saturating_sub.ensures, c.minutes.ensures.value, c.minutes-2.ensures.value)
    (IsDelay-some c.args.plans.now.taxi c.args.number c.in_ok-slot.slot c.in_ok-entry.entry (plan_at c.args.plans.now.plans c.args.number) v c.args.regulation.now c.fixed_moment.result c.entry.result
    c.regulation.view_is c.fixed_moment.ensures c.in_ok-slot.was c.entry.ensures c.in_ok-entry.was)

pub returns-clause-bound : goal.returns-clause-bound
returns-clause-bound g c =
    let s = c.regulation.inside in
    rw (c.saturating_sub.ensures, c.minutes.ensures.value, c.minutes-2.ensures.value)
    (delay-bound c.args.plans.now.taxi c.in_ok-slot.slot c.in_ok-entry.entry 100_000_000 (plan_at c.args.plans.now.plans c.args.number) s.spot c.entry.result
    c.entry.ensures c.in_ok-entry.was (omega (arith, c.minutes.ensures)) (omega (arith, c.minutes-2.ensures)))
