use Rattle.std.proofs.Common.{◌≡◌, ◌<◌, ◌≤◌, ◌-◌, ℕ, eqb, false, get_or, length}
use Rattle.fpl_text.proofs.words.first_space.Given as goal

abbrev pub invariant-lanes : goal.invariant-lanes
invariant-lanes l = record {
  within : l.place ≤ length l.text;
  none : (k : ℕ) → k < l.place → eqb (get_or l.text k 0) 32 ≡ false;
}

abbrev pub decreases-lanes : goal.decreases-lanes
decreases-lanes l = length l.text - l.place

abbrev pub invariant-bytes : goal.invariant-bytes
invariant-bytes l = record {
  within : l.place ≤ length l.text;
  none : (k : ℕ) → k < l.place → eqb (get_or l.text k 0) 32 ≡ false;
}

abbrev pub decreases-bytes : goal.decreases-bytes
decreases-bytes l = length l.text - l.place
