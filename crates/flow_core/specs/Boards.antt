-- The rows of plans as a board of fixed size shows them, and what changes do to it.
use Rattle.std.specs.Prelude.{ℕ, zero, suc, ◌-◌, ◌≡◌, ◌≤◌, List, [], ◌∷◌, length, Option, Some, None, fold, slice_set}
use Rattle.flow_core.specs.declared.row.Row.{Row}
use Rattle.flow_core.specs.declared.change.Change.{Change}
use Rattle.flow_core.specs.Changes.{changes_between}

-- a board of this size, of which the first rows are these, and the others none
abbrev pub padded : ℕ → List Row → List (Option Row)
padded zero rows = []
padded (suc m) [] = None ∷ padded m []
padded (suc m) (r ∷ rs) = Some r ∷ padded m rs

-- the rows of the plans numbered from n, with one of them replaced
abbrev pub put_from : ℕ → List (Option Row) → Change → List (Option Row)
put_from n places c = slice_set places (c.plan - n) (Some c.row)

-- the rows with each change applied
abbrev pub put_all : List (Option Row) → List Change → List (Option Row)
put_all places cs = fold (put_from 1) places cs

-- A board that is large enough and applies the changes between two lists of rows shows the later
-- ones, if these are no fewer.
abbrev pub TakesInChanges : Type 0
TakesInChanges = (m : ℕ) (before after : List Row) → length before ≤ length after → length after ≤ m
    → put_all (padded m before) (changes_between before after) ≡ padded m after
