-- The filings among frames.
use Rattle.std.proofs.Common.{◌≡◌, ℕ, Bool, true, false, cond, leb, List, [], ◌∷◌, ◌++◌, length, Some, None, refl, ap}
use Rattle.fpl_message.specs.Filings.{FilingView}
use Rattle.flow_input.specs.NextFrame.{second, filing_of}
use Rattle.flow_input.specs.Filings.{filings}

pub filings-append : (xs ys : List (List ℕ)) → filings (xs ++ ys) ≡ filings xs ++ filings ys
unfolding filings
filings-append [] ys = refl
filings-append (x ∷ xs) ys = by (leb (length x) 2000) (filings-append xs ys)
  where
    by : (b : Bool) → filings (xs ++ ys) ≡ filings xs ++ filings ys → cond b (second x ∷ filings (xs ++ ys)) (filings (xs ++ ys)) ≡ cond b (second x ∷ filings xs) (filings xs) ++ filings ys
    by true e = ap (λ (q : List FilingView). second x ∷ q) e
    by false e = e

-- a frame that isn't too long is one
pub one-whole : (x : List ℕ) → leb (length x) 2000 ≡ true → filings (x ∷ []) ≡ second x ∷ []
unfolding filings
one-whole x e = rw e refl

-- and one that is too long is none
pub one-long : (x : List ℕ) → leb (length x) 2000 ≡ false → filings (x ∷ []) ≡ []
unfolding filings
one-long x e = rw e refl

pub is-long : (x : List ℕ) → None ≡ filing_of x → leb (length x) 2000 ≡ false
is-long x e = by (leb (length x) 2000) e
  where
    by : (b : Bool) → None ≡ cond b (Some (second x)) None → b ≡ false
    by true h = absurd (cc)
    by false h = refl

pub is-whole : (x : List ℕ) (f : FilingView) → Some f ≡ filing_of x → leb (length x) 2000 ≡ true
is-whole x f e = by (leb (length x) 2000) e
  where
    by : (b : Bool) → Some f ≡ cond b (Some (second x)) None → b ≡ true
    by true h = refl
    by false h = absurd (cc)

pub whole-is : (x : List ℕ) (f : FilingView) → Some f ≡ filing_of x → f ≡ second x
whole-is x f e = by (leb (length x) 2000) e
  where
    by : (b : Bool) → Some f ≡ cond b (Some (second x)) None → f ≡ second x
    by true h = cc
    by false h = absurd (cc)
