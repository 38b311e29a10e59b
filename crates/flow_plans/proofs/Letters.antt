-- Places of four letters are the same where their letters are as one number.
use Rattle.std.proofs.Common.{◌≡◌, ℕ, zero, ◌+◌, ◌*◌, ◌<◌, List, length, get_or, nat_eq, suc, refl, sym, ap, ◌∙◌, arith}
use Rattle.std.specs.Str.{bytes_eq}
use Rattle.std.proofs.lemmas.Bool.{eqb-true, eq-eqb}
use Rattle.std.proofs.lemmas.Bool.Decides.{same_from_decides}
use Rattle.std.proofs.lemmas.List.{ext_get_or}
use lib.Pointwise.{bytes_decides}
use Rattle.flow_plans.specs.Letters.{letters_of, AreBytes}

-- the first four as one number
abbrev number_at : List ℕ → ℕ
number_at xs = 16_777_216 * get_or xs 0 0 + 65_536 * get_or xs 1 0 + 256 * get_or xs 2 0 + get_or xs 3 0

letters-are : (xs : List ℕ) → length xs ≡ 4 → letters_of xs ≡ number_at xs
unfolding letters_of
letters-are xs four = rw four refl

numbers-same : (xs ys : List ℕ) → AreBytes xs → AreBytes ys → number_at xs ≡ number_at ys → (i : ℕ) → i < 4 → get_or xs i 0 ≡ get_or ys i 0
numbers-same xs ys a b e zero h = omega (arith, e, a 0, a 1, a 2, a 3, b 0, b 1, b 2, b 3)
numbers-same xs ys a b e (suc zero) h = omega (arith, e, a 0, a 1, a 2, a 3, b 0, b 1, b 2, b 3)
numbers-same xs ys a b e (suc (suc zero)) h = omega (arith, e, a 0, a 1, a 2, a 3, b 0, b 1, b 2, b 3)
numbers-same xs ys a b e (suc (suc (suc zero))) h = omega (arith, e, a 0, a 1, a 2, a 3, b 0, b 1, b 2, b 3)
numbers-same xs ys a b e (suc (suc (suc (suc i)))) h = absurd (omega (arith, h))

pub letters-same : (xs ys : List ℕ) → length xs ≡ 4 → length ys ≡ 4 → AreBytes xs → AreBytes ys → letters_of xs ≡ letters_of ys → xs ≡ ys
letters-same xs ys m n a b e =
    ext_get_or 0 xs ys (m ∙ sym n) (λ i h. numbers-same xs ys a b (sym (letters-are xs m) ∙ e ∙ letters-are ys n) i (omega (arith, h, m)))

pub letters-tell : (xs ys : List ℕ) → length xs ≡ 4 → length ys ≡ 4 → AreBytes xs → AreBytes ys → nat_eq (letters_of xs) (letters_of ys) ≡ bytes_eq xs ys
letters-tell xs ys m n a b =
    same_from_decides (nat_eq (letters_of xs) (letters_of ys)) (bytes_eq xs ys)
    (λ e. letters-same xs ys m n a b (eqb-true _ _ e), λ e. eq-eqb _ _ (ap letters_of e))
    (bytes_decides xs ys)
