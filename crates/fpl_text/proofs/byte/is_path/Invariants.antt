use Rattle.std.proofs.Common.{◌≡◌, ◌+◌, ◌<◌, ◌-◌, ℕ, true, slice_index}
use Rattle.fpl_text.specs.Bytes.{is_path_byte}
use Rattle.fpl_text.proofs.byte.is_path.Given as goal

abbrev pub invariant-looks : goal.invariant-looks
invariant-looks l = record {
  within : l.place < l.last + 16;
  all : (k : ℕ) → k < l.place → is_path_byte (slice_index l.text k) ≡ true;
}

abbrev pub decreases-looks : goal.decreases-looks
decreases-looks l = l.last + 16 - l.place
