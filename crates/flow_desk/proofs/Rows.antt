-- The rows of a board.
use Rattle.std.proofs.Common.{◌≡◌, ◌≤◌, ℕ, zero, suc, ◌+◌, ◌-◌, ◌==◌, if◌then◌else◌, List, [], ◌∷◌, ◌++◌, length, slice_get, Option, Some, None, refl, ap, subst, ◌∙◌, sym, arith}
use Rattle.std.specs.Option.{option_flatten}
use Rattle.std.proofs.lemmas.List.Sums.{fold-append}
use native.Mathlib.Numerals.{unary_clauses}
use Rattle.flow_core.specs.declared.row.Row.{Row}
use Rattle.flow_plans.specs.Settings.{SetupView}
use Rattle.flow_core.specs.declared.change.Change.{Change}
use Rattle.flow_core.specs.State.{Input, EntryView}
use Rattle.flow_core.specs.Steps.{run}
use Rattle.flow_core.specs.History.{History, state_of}
use Rattle.flow_core.specs.Changes.{rows_in, rows_at}
use Rattle.flow_core.specs.Boards.{padded, put_from, put_all}
use Rattle.flow_core.specs.CoreView.{inputs}
use Rattle.flow_core.proofs.Growing.{rows-few}
use Rattle.flow_desk.proofs.Journals.{rows-are}
use Rattle.flow_desk.specs.Histories.{rows_after, row_at}
use Rattle.flow_desk.specs.Boards.{BoardView, IsBoard, LeadTo, shown_row}

padded-suc : (n : ℕ) (rows : List Row) → padded (suc n) rows ≡ padded n rows ++ slice_get rows n ∷ []
padded-suc zero [] = refl
padded-suc zero (r ∷ rs) = refl
padded-suc (suc n) [] = ap (λ (l : List (Option Row)). None ∷ l) (padded-suc n [])
padded-suc (suc n) (r ∷ rs) = ap (λ (l : List (Option Row)). Some r ∷ l) (padded-suc n rs)

-- capacity for one more
pub padded-next : (n : ℕ) (rows : List Row) → padded (n + 1) rows ≡ padded n rows ++ slice_get rows n ∷ []
padded-next n rows = simp unary_clauses (padded-suc n rows)

within : (m : ℕ) (rows : List Row) (i : ℕ) → length rows ≤ m → option_flatten (slice_get (padded m rows) i) ≡ slice_get rows i
within zero [] i few = refl
within zero (r ∷ rs) i few = absurd (omega (arith, few))
within (suc m) [] zero few = refl
within (suc m) [] (suc i) few = within m [] i (omega arith)
within (suc m) (r ∷ rs) zero few = refl
within (suc m) (r ∷ rs) (suc i) few = within m rs i (omega (arith, few))

-- the row that a board shows of a plan is the plan's
pub shown-is : (b : BoardView) → IsBoard b → (plan : ℕ) → shown_row b.rows plan ≡ row_at b.setup b.entries plan
shown-is b is plan =
    ap (λ (rows : List (Option Row)). shown_row rows plan) is.rows
    ∙ ap (λ (row : Option Row). if plan == 0 then None else row) (within b.setup.max_plans (rows_after b.setup b.entries) (plan - 1) (rows-few b.setup (inputs b.entries)))

-- a board with the rows before a filing absorbs those that it changed
pub rows-taken_in : (old new : History) (i : Input) (cs ds : List Change) → new.setup ≡ old.setup → new.filed ≡ old.filed ++ i ∷ [] → ds ≡ cs
    → ((before : List Input) (last : Input) → new.filed ≡ before ++ last ∷ [] → put_all (padded new.setup.max_plans (rows_in (run new.setup before).traffic)) cs ≡ padded new.setup.max_plans (rows_at new))
    → put_all (padded old.setup.max_plans (rows_after old.setup (state_of old).journal)) ds ≡ padded old.setup.max_plans (rows_after old.setup (state_of new).journal)
rows-taken_in old new i cs ds setup filed copied taken_in =
    let there : put_all (padded new.setup.max_plans (rows_in (run new.setup old.filed).traffic)) cs ≡ padded new.setup.max_plans (rows_after new.setup (state_of new).journal) =
    taken_in old.filed i filed ∙ ap (padded new.setup.max_plans) (rows-are new) in
    let here : put_all (padded old.setup.max_plans (rows_at old)) cs ≡ padded old.setup.max_plans (rows_after old.setup (state_of new).journal) =
    subst (λ (s : SetupView). put_all (padded s.max_plans (rows_in (run s old.filed).traffic)) cs ≡ padded s.max_plans (rows_after s (state_of new).journal)) setup there in
    ap (λ (rows : List Row). put_all (padded old.setup.max_plans rows) ds) (sym (rows-are old)) ∙ (ap (put_all (padded old.setup.max_plans (rows_at old))) copied ∙ here)

-- changes that lead on from those before
pub lead-more : (s : SetupView) (es later more : List EntryView) (cs ds all : List Change) → LeadTo s es later cs → LeadTo s later more ds → all ≡ cs ++ ds → LeadTo s es more all
lead-more s es later more cs ds all first next is =
    let rows : List (Option Row) = padded s.max_plans (rows_after s es) in
    ap (put_all rows) is ∙ (fold-append (put_from 1) rows cs ds ∙ (ap (λ (rs : List (Option Row)). put_all rs ds) first ∙ next))
