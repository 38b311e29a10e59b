use Rattle.std.proofs.Common.{◌≡◌, ◌<◌, ◌≤◌, ◌-◌, ℕ, true, drop, length}
use Rattle.fpl_text.specs.Words.{begins_word, is_one_of}
use Rattle.fpl_text.proofs.words.named_word.Given as goal

abbrev pub invariant-names : goal.invariant-names
invariant-names l = record {
  low : l.from ≤ l.place;
  within : l.place ≤ length l.text;
  none : (k : ℕ) → l.from ≤ k → k < l.place → begins_word l.text l.from k ≡ true → is_one_of l.a l.b l.c (drop k l.text) ≡ true → ⊥;
}

abbrev pub decreases-names : goal.decreases-names
decreases-names l = length l.text - l.place
