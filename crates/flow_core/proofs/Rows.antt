-- The row of one plan.
use Rattle.std.proofs.Common.{◌≡◌, ℕ, zero, suc, List, [], ◌∷◌, refl, ap, ◌∙◌, Option, Some, None, slice_get}
use Rattle.flow_plans.specs.Plans.{PlanView}
use Rattle.flow_regulations.specs.declared.notice.Told.{Told}
use Rattle.flow_traffic.specs.Same.{Standing, standing_of, standings}
use Rattle.flow_core.specs.declared.row.Row.{Row}
use Rattle.flow_core.specs.State.{row_of, rows_of}

pub rows-at : (ps : List PlanView) (ts : List (Option Told)) (i : ℕ) (p : PlanView) (t : Option Told) → slice_get ps i ≡ Some p → slice_get ts i ≡ Some t
    → slice_get (rows_of ps ts) i ≡ Some (row_of p t)
rows-at [] ts i p t a b = cc
rows-at (q ∷ ps) [] i p t a b = cc
rows-at (q ∷ ps) (u ∷ ts) zero p t a b = cc
rows-at (q ∷ ps) (u ∷ ts) (suc i) p t a b = rows-at ps ts i p t a b

pub rows-beyond : (ps : List PlanView) (ts : List (Option Told)) (i : ℕ) → slice_get ps i ≡ None → slice_get (rows_of ps ts) i ≡ None
rows-beyond [] ts i a = refl
rows-beyond (q ∷ ps) [] i a = refl
rows-beyond (q ∷ ps) (u ∷ ts) zero a = cc
rows-beyond (q ∷ ps) (u ∷ ts) (suc i) a = rows-beyond ps ts i a

-- the row of a plan with this status
abbrev told_to : Standing → Option Told → Row
told_to s told = record { state = s.state; off_block = s.off_block; told = told }

-- equal plans with equal issued slots have equal rows
pub rows-alike : (ps qs : List PlanView) (ts : List (Option Told)) → standings ps ≡ standings qs → rows_of ps ts ≡ rows_of qs ts
rows-alike [] [] ts e = refl
rows-alike [] (q ∷ qs) ts e = cc
rows-alike (p ∷ ps) [] ts e = cc
rows-alike (p ∷ ps) (q ∷ qs) [] e = refl
rows-alike (p ∷ ps) (q ∷ qs) (t ∷ ts) e =
    let same : standing_of p ≡ standing_of q = cc in
    let others : standings ps ≡ standings qs = cc in
    ap (λ s. told_to s t ∷ rows_of ps ts) same ∙ ap (λ rs. row_of q t ∷ rs) (rows-alike ps qs ts others)
