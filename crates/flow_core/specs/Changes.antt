-- Which rows a step changed.
use Rattle.std.specs.Prelude.{ℕ, ◌+◌, ◌-◌, Bool, true, false, ◌&&◌, ◌==◌, if◌then◌else◌, List, [], ◌∷◌, length, take, slice_get, Option, Some, None}
use Rattle.std.specs.Option.{option_and_then}
use Rattle.std.specs.List.{cons_option}
use Rattle.std.specs.Str.{bytes_eq}
use Rattle.flow_plans.specs.declared.plan.PlanState.{PlanState}
use Rattle.flow_plans.specs.declared.plan.PlanState.TheVariants as state
use Rattle.flow_plans.specs.declared.plan.Status.{Status}
use Rattle.flow_regulations.specs.declared.notice.Told.{Told}
use Rattle.flow_traffic.specs.Traffic.{Traffic}
use Rattle.flow_core.specs.declared.row.Row.{Row}
use Rattle.flow_core.specs.declared.change.Change.{Change}
use Rattle.flow_core.specs.State.{rows_of}
use Rattle.flow_core.specs.History.{History, state_of}

abbrev pub same_state : PlanState → PlanState → Bool
same_state state.Filed state.Filed = true
same_state state.Departed state.Departed = true
same_state state.Cancelled state.Cancelled = true
same_state _ _ = false

-- the same CTOT, caused by the same regulation, or none issued
abbrev pub same_told : Option Told → Option Told → Bool
same_told None None = true
same_told None (Some u) = false
same_told (Some t) None = false
same_told (Some t) (Some u) = (t.ctot == u.ctot) && bytes_eq t.regulation u.regulation

unfoldable pub same_row : Row → Row → Bool
same_row r s = same_state r.state s.state && ((r.off_block == s.off_block) && same_told r.told s.told)

-- the row of a plan with this status and issued slot
abbrev pub row_with : Option Told → Status → Row
row_with told status = record { state = status.state; off_block = status.off_block; told = told }

-- the change of the plan of this number to this row; the row of a new plan is a change, and an
-- equal row is none
abbrev pub change_to : ℕ → Option Row → Row → Option Change
change_to number None row = Some (record { plan = number; row = row })
change_to number (Some before) row = if same_row before row then None else Some (record { plan = number; row = row })

-- the changes of the plans numbered from n
abbrev pub changes_from : ℕ → List Row → List Row → List Change
changes_from n before [] = []
changes_from n [] (r ∷ rs) = cons_option (change_to n None r) (changes_from (n + 1) [] rs)
changes_from n (b ∷ bs) (r ∷ rs) = cons_option (change_to n (Some b) r) (changes_from (n + 1) bs rs)

-- the changes of rows, by plan number: exactly those that are new or differ
abbrev pub changes_between : List Row → List Row → List Change
changes_between before after = changes_from 1 before after

-- the change of the plan of this number
abbrev pub change_at : List Row → List Row → ℕ → Option Change
change_at before after number = option_and_then (change_to number (slice_get before (number - 1))) (slice_get after (number - 1))

-- the rows of the plans
abbrev pub rows_in : Traffic → List Row
rows_in t = rows_of t.plans t.told

-- without the last filing
abbrev pub without_last_filing : History → History
without_last_filing h = record h { filed = take (length h.filed - 1) h.filed }

abbrev pub rows_at : History → List Row
rows_at h = rows_in (state_of h).traffic
