-- The longest of some estimates.
use Rattle.std.proofs.Common.{ℕ, ◌≤◌, arith, max, Bool, true, false, if◌then◌else◌, List, [], ◌∷◌, Option, Some}
use Rattle.std.specs.Prelude.{IfSome}
use Rattle.fpl_items.specs.declared.estimate.Estimate.{Estimate}
use Rattle.fpl_items.specs.Estimates.{is_for, first_for}

-- the longest of these, after others
abbrev pub longest_after : ℕ → List Estimate → ℕ
longest_after longest [] = longest
longest_after longest (e ∷ es) = longest_after (max longest e.minutes) es

pub longest-grows : (longest : ℕ) (es : List Estimate) → longest ≤ longest_after longest es
longest-grows longest [] = omega arith
longest-grows longest (e ∷ es) = omega (arith, longest-grows (max longest e.minutes) es)

-- either way of a test
either : (P : ℕ → Type 0) (x : ℕ) (o : Option ℕ) (b : Bool) → P x → IfSome o P → IfSome (if b then Some x else o) P
either P x o true p q = p
either P x o false p q = q

-- what is found is one of them
pub longest-found : (place : List ℕ) (longest : ℕ) (es : List Estimate) → IfSome (first_for place es) (λ minutes. minutes ≤ longest_after longest es)
longest-found place longest [] = tt
longest-found place longest (e ∷ es) =
    either (λ minutes. minutes ≤ longest_after (max longest e.minutes) es) e.minutes (first_for place es) (is_for place e)
    (omega (arith, longest-grows (max longest e.minutes) es)) (longest-found place (max longest e.minutes) es)
