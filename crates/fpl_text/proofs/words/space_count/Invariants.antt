use Rattle.std.proofs.Common.{◌≡◌, ◌-◌, ◌≤◌, eqb, length, take}
use Rattle.std.specs.List.{count_by}
use Rattle.fpl_text.proofs.words.space_count.Given as goal

abbrev pub invariant-lanes : goal.invariant-lanes
invariant-lanes l = record {
  counted : l.count ≡ count_by (λ b. eqb b 32) (take l.place l.text);
  within : l.place ≤ length l.text;
  few : l.count ≤ l.place;
}

abbrev pub decreases-lanes : goal.decreases-lanes
decreases-lanes l = length l.text - l.place

abbrev pub invariant-bytes : goal.invariant-bytes
invariant-bytes l = record {
  counted : l.count ≡ count_by (λ b. eqb b 32) (take l.place l.text);
  within : l.place ≤ length l.text;
  few : l.count ≤ l.place;
}

abbrev pub decreases-bytes : goal.decreases-bytes
decreases-bytes l = length l.text - l.place
