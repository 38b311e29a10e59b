use Rattle.std.proofs.Common.{◌≡◌, ◌<◌, ◌≤◌, ◌-◌, ℕ, false, length}
use Rattle.fpl_text.specs.Words.{may_begin}
use Rattle.fpl_text.proofs.words.name_among_few.Given as goal

abbrev pub invariant-bytes : goal.invariant-bytes
invariant-bytes l = record {
  low : l.from ≤ l.place;
  within : l.place ≤ length l.text;
  none : (k : ℕ) → l.from ≤ k → k < l.place → may_begin l.a l.b l.c l.text k ≡ false;
}

abbrev pub decreases-bytes : goal.decreases-bytes
decreases-bytes l = length l.text - l.place
