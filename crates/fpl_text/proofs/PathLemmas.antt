-- Whether all of a list passes a test, from what its elements do.
use Rattle.std.proofs.Common.{◌≡◌, ℕ, zero, suc, ◌<◌, Bool, true, false, ◌&&◌, List, [], ◌∷◌, length, get_or, refl, ap, ◌∙◌, arith}
use Rattle.std.specs.List.{list_all}

and-false : (b : Bool) → b && false ≡ false
and-false true = refl
and-false false = refl

-- one that doesn't
pub all-false : (p : ℕ → Bool) (xs : List ℕ) (k : ℕ) → k < length xs → p (get_or xs k 0) ≡ false → list_all p xs ≡ false
all-false p [] k within not_it = absurd (omega (arith, within))
all-false p (x ∷ xs) zero within not_it = rw not_it refl
all-false p (x ∷ xs) (suc k) within not_it = ap (λ (b : Bool). p x && b) (all-false p xs k (omega (arith, within)) not_it) ∙ and-false (p x)

-- all of them do
pub all-true : (p : ℕ → Bool) (xs : List ℕ) → ((k : ℕ) → k < length xs → p (get_or xs k 0) ≡ true) → list_all p xs ≡ true
all-true p [] each = refl
all-true p (x ∷ xs) each =
    let it : p x ≡ true = each 0 (omega arith) in
    rw it (all-true p xs (λ k l. each (suc k) (omega (arith, l))))
