use Rattle.std.proofs.Common.{◌≡◌, ◌+◌, ℕ, take, slice_get}
use Rattle.std.specs.Prelude.{fold}
use Rattle.std.specs.Option.{option_map}
use Rattle.flow_view.specs.Delays.{worse_by}
use Rattle.flow_view.proofs.delay.note_rows.Given as goal

abbrev pub invariant-loop-row : goal.invariant-loop-row
invariant-loop-row g l = (n : ℕ) → slice_get l.greatest n ≡ option_map (λ most. fold (worse_by (n + 1) l.opening) most (take l.row-index l.opening.rows)) (slice_get l.fn.greatest n)
