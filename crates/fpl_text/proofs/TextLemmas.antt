-- A list of few elements, followed by the same blank one.
use Rattle.std.proofs.Common.{◌≡◌, ℕ, zero, suc, ◌-◌, List, [], ◌∷◌, ◌++◌, length, drop, replicate, refl, ap, ◌∙◌, arith}

as-many : {A : Type 0} (x : A) (n m : ℕ) → n ≡ m → replicate n x ≡ replicate m x
as-many x n m e = ap (λ (k : ℕ). replicate k x) e

pub drop-blanks : {A : Type 0} (x : A) (n k : ℕ) → drop k (replicate n x) ≡ replicate (n - k) x
drop-blanks x n zero = as-many x n (n - 0) (omega arith)
drop-blanks x zero (suc k) = as-many x 0 (0 - suc k) (omega arith)
drop-blanks x (suc n) (suc k) = drop-blanks x n k ∙ as-many x (n - k) (suc n - suc k) (omega arith)

pub drop-front : {A : Type 0} (xs ys : List A) → drop (length xs) (xs ++ ys) ≡ ys
drop-front [] ys = refl
drop-front (x ∷ xs) ys = drop-front xs ys
