-- The CTOT last issued to a plan is that of its row.
use Rattle.std.proofs.Common.{◌≡◌, ℕ, zero, suc, List, [], ◌∷◌, refl, Option, Some, None, slice_get}
use Rattle.std.specs.Option.{option_map_or}
use Rattle.flow_plans.specs.Plans.{PlanView}
use Rattle.flow_regulations.specs.declared.notice.Told.{Told}
use Rattle.flow_core.specs.State.{rows_of}

pub told-in-row : (ps : List PlanView) (ts : List (Option Told)) (i : ℕ) (p : PlanView) → slice_get ps i ≡ Some p
    → option_map_or (λ r. r.told) (slice_get (rows_of ps ts) i) None ≡ option_map_or (λ t. t) (slice_get ts i) None
told-in-row [] ts i p a = cc
told-in-row (q ∷ ps) [] i p a = refl
told-in-row (q ∷ ps) (u ∷ ts) zero p a = refl
told-in-row (q ∷ ps) (u ∷ ts) (suc i) p a = told-in-row ps ts i p a
