use Rattle.std.proofs.Common.{sym, ap, ◌∙◌, refl, arith}
use Rattle.flow_regulations.proofs.Queues.{covers-none}
use Rattle.flow_traffic.specs.State.{TrafficState}
use Rattle.flow_traffic.specs.Undoing.{has_changed}
use Rattle.flow_traffic.proofs.TakenBack.{kept-with-nothing}
use Rattle.flow_traffic.proofs.traffic.Traffic.new.Goals as goal

pub invariant_of-result : goal.invariant_of-result
invariant_of-result g c =
    let s : TrafficState = record { time = c.start.result; store = c.new.result; listing = c.new-2.result; queue = c.new-3.result } in
    kept-with-nothing c.new-6.result s c.new-4.result.items (ap has_changed c.new-6.ensures)
    (rw (c.new-2.ensures.lists, c.new.ensures.plans, c.new-4.ensures.items) record {
      desk_time = c.start.ensures.years;
      limit = c.new-2.ensures.limit ∙ c.max_plans-max_plans.ensures.value ∙ sym c.new.ensures.limit;
      few = omega arith;
      room = omega arith;
      most = omega (arith, c.max_plans-max_plans.ensures.value, c.max_plans-max_plans.ensures.bound, c.new.ensures.limit);
      each = refl;
      listed = tt;
      settled_in = tt;
      covers = covers-none c.start.result c.new-3.result.flights;
      quiet = λ number some. tt;
    })
