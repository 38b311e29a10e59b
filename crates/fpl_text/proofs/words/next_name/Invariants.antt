use Rattle.std.proofs.Common.{◌≡◌, ◌<◌, ◌≤◌, ◌-◌, ℕ, false, length}
use Rattle.fpl_text.specs.Words.{may_begin}
use Rattle.fpl_text.proofs.words.next_name.Given as goal

abbrev pub invariant-looks : goal.invariant-looks
invariant-looks l = record {
  low : l.from ≤ l.place;
  within : l.place ≤ length l.text;
  none : (k : ℕ) → l.from ≤ k → k < l.place → may_begin l.a l.b l.c l.text k ≡ false;
}

abbrev pub decreases-looks : goal.decreases-looks
decreases-looks l = length l.text - l.place
