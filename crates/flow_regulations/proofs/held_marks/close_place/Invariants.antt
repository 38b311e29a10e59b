use Rattle.std.proofs.Common.{◌≡◌, ℕ, ◌<◌, ◌≤◌}
use Rattle.flow_regulations.specs.Marks.{mask_of, MaskMovesUp}
use Rattle.flow_regulations.proofs.held_marks.close_place.Given as goal

abbrev pub invariant-loop-word : goal.invariant-loop-word
invariant-loop-word l = record {
  done : (f : ℕ) → f < l.word-index → MaskMovesUp l.index (mask_of l.initial.words f) (mask_of l.words f);
  rest : (f : ℕ) → l.word-index ≤ f → mask_of l.words f ≡ mask_of l.initial.words f;
}
