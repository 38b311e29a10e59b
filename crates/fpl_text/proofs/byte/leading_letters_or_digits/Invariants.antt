use Rattle.std.proofs.Common.{◌≡◌, ◌≤◌, ◌+◌, ◌-◌, length, drop}
use Rattle.std.specs.List.{prefix_len}
use Rattle.fpl_text.specs.Bytes.{is_letter_or_digit}
use Rattle.fpl_text.proofs.byte.leading_letters_or_digits.Given as goal

abbrev pub invariant-lanes : goal.invariant-lanes
invariant-lanes l = record {
  within : l.place ≤ length l.text;
  so_far : prefix_len is_letter_or_digit l.text ≡ l.place + prefix_len is_letter_or_digit (drop l.place l.text);
}

abbrev pub decreases-lanes : goal.decreases-lanes
decreases-lanes l = length l.text - l.place
