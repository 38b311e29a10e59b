use Rattle.std.proofs.Common.{◌≡◌, ◌≤◌, ◌+◌, ◌-◌, slice_index, ◌∙◌, sym, arith}
use Rattle.flow_plans.proofs.LastNumbers.{last-passes}
use Rattle.flow_plans.proofs.chains.later_than.Goals as goal

pub loop-later-preserved : goal.loop-later-preserved
loop-later-preserved c =
    let next = slice_index c.args.older.now c.loop-later.later in
    let down : next ≤ c.loop-later.later = c.requires.down c.loop-later.later in
    record {
      within = omega (arith, down, c.loop-later.invariant.within);
      later = omega (arith, c.loop-later-test.true);
      held = λ test links first.
          (let here : next ≡ (next - 1) + 1 = omega (arith, c.loop-later-test.true) in
          last-passes test c.loop-later.later (next - 1) (sym (links c.loop-later.later (c.loop-later.invariant.held test links first)) ∙ here));
    }
