-- Bit sets of points.
use Rattle.std.proofs.Common.{◌≡◌, ℕ, ◌<◌, ◌*◌, ◌%◌, ◌^◌, true, List, sym, ◌∙◌, ⊎_elim, eqb}
use Rattle.std.specs.Int.{w64}
use Rattle.std.specs.Prelude.{bit_or}
use Rattle.std.proofs.lemmas.Bool.{cases_Bool, false≢true, eqb-true, eq-eqb}
use Rattle.std.proofs.lemmas.Nat.Bits.{bit_at_set_same, bit_at_set_other}
use Rattle.fpl_items.specs.Points.{bit_of, may_have}

-- a point whose bit was set
pub place-added : (places k : ℕ) (place : List ℕ) → k ≡ bit_of place → k < 64 → may_have (bit_or places (1 * 2 ^ k % 18446744073709551616)) place ≡ true
place-added places k place e within = eq-eqb _ _ (rw (← e) (bit_at_set_same w64 places k within))

-- the points from before stay
pub place-kept : (places k : ℕ) (other : List ℕ) → k < 64 → may_have places other ≡ true → may_have (bit_or places (1 * 2 ^ k % 18446744073709551616)) other ≡ true
place-kept places k other within h =
    ⊎_elim
    (λ same. place-added places k other (sym (eqb-true _ _ same)) within)
    (λ no. rw (bit_at_set_other w64 places k within (bit_of other) (λ e. false≢true (sym no ∙ eq-eqb _ _ e))) h)
    (cases_Bool (eqb (bit_of other) k))
