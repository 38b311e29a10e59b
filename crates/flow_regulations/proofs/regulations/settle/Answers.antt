use Rattle.std.proofs.Common.{ℕ, ◌+◌, ◌≤◌, length, arith}
use Rattle.std.proofs.lemmas.Bool.{le-ltb}
use Rattle.flow_regulations.specs.Listing.{RegulationView, is_below}
use Rattle.flow_regulations.proofs.Advances.{advancing-start, advancing-due, advancing-out, advancing-fewer, advancing-none, below-more}
use Rattle.flow_regulations.proofs.regulations.settle.Goals as goal

pub loop-number-init : goal.loop-number-init
loop-number-init g c =
    let plans = c.args.plans.now.plans in
    let o : RegulationView = c.args.regulation.now in
    let start = advancing-start (is_below 1) c.args.plans.now.taxi c.args.now plans o (λ f h. le-ltb f 1 (omega (arith, h))) in
    record {
      some = omega (arith, c.next_held-number.ensures.from);
      advancing = advancing-out 1 c.next_held-number.result c.args.plans.now.taxi c.args.now plans o o c.next_held-number.ensures.passed start;
    }

pub loop-number-preserved : goal.loop-number-preserved
loop-number-preserved g c =
    let plans = c.args.plans.now.plans in
    let taxi = c.args.plans.now.taxi in
    let o : RegulationView = c.args.regulation.now in
    let m : RegulationView = c.loop-number.regulation in
    let x : RegulationView = c.fix_due.new.self in
    let n : ℕ = c.loop-number.number in
    let e = c.fix_due.ensures in
    let next = c.next_held-number-in-loop-number in
    let one = advancing-due n (is_below n) (is_below (n + 1)) taxi c.args.now plans o m x (below-more n) c.loop-number.invariant.some c.loop-number.invariant.advancing e.due e.other in
    record {
      some = omega (arith, next.ensures.from);
      advancing = advancing-out (n + 1) next.result taxi c.args.now plans o x next.ensures.passed one;
    }

pub returns-then-not-due : goal.returns-then-not-due
returns-then-not-due g c =
    let plans = c.args.plans.now.plans in
    advancing-none (is_below (length plans + 1)) c.args.plans.now.taxi c.args.now plans c.args.regulation.now (c.requires c.if-not-due.true)

pub returns : goal.returns
returns g c =
    let plans = c.args.plans.now.plans in
    let past : length plans + 1 ≤ c.loop-number.number = omega (arith, c.loop-number-test.false, c.count-count.ensures.count) in
    advancing-fewer c.loop-number.number (length plans + 1) c.args.plans.now.taxi c.args.now plans c.args.regulation.now c.loop-number.regulation past c.loop-number.invariant.advancing
