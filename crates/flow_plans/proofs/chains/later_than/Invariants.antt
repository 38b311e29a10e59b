use Rattle.std.proofs.Common.{◌≡◌, ℕ, ◌<◌, ◌≤◌, Bool, true, length}
use Rattle.flow_plans.specs.Chains.{AreLinks, IsNewest}
use Rattle.flow_plans.proofs.chains.later_than.Given as goal

abbrev pub invariant-loop-later : goal.invariant-loop-later
invariant-loop-later l = record {
  within : l.later < length l.older;
  later : l.number ≤ l.later;
  held : (test : ℕ → Bool) → AreLinks test l.older → IsNewest test l.fn.newest → test l.later ≡ true;
}

abbrev pub decreases-loop-later : goal.decreases-loop-later
decreases-loop-later l = l.later
