-- Runs of bytes that don't stop.
use Rattle.std.proofs.Common.{◌≡◌, ℕ, ◌+◌, ◌<◌, ◌≤◌, zero, suc, Option, get_or, Bool, true, false, cond, not, List, [], ◌∷◌, ◌++◌, length, refl, sym, ap, ◌∙◌, subst, arith, take, drop, Some, None, unwrap_or, ltb, position}
use Rattle.std.specs.List.{position_or_len, prefix_len}
use Rattle.std.proofs.lemmas.Bool.{ltb-false, ltb-true}
use Rattle.std.proofs.lemmas.List.{take-append-drop}
use Rattle.flow_input.specs.Frames.{until, since, is_not_blank}
use Rattle.flow_input.specs.Reader.{NoneStops, BeginsWithStop}

prefix-le : (p : ℕ → Bool) (xs : List ℕ) → prefix_len p xs ≤ length xs
prefix-le p [] = omega arith
prefix-le p (x ∷ xs) = by (p x) (prefix-le p xs)
  where
    by : (t : Bool) → prefix_len p xs ≤ length xs → cond t (1 + prefix_len p xs) 0 ≤ suc (length xs)
    by true h = omega arith
    by false h = omega arith

-- where a search stops, or else the length
pub stop-is : (stops : ℕ → Bool) (xs : List ℕ) → unwrap_or (position stops xs) (length xs) ≡ position_or_len stops xs
stop-is stops xs = by (ltb (position_or_len stops xs) (length xs)) refl
  where
    by : (t : Bool) → ltb (position_or_len stops xs) (length xs) ≡ t → unwrap_or (cond t (Some (position_or_len stops xs)) None) (length xs) ≡ position_or_len stops xs
    by true e = refl
    by false e = omega (arith, prefix-le (λ x. not (stops x)) xs, ltb-false (position_or_len stops xs) (length xs) e)

pub stop-within : (stops : ℕ → Bool) (xs : List ℕ) → position_or_len stops xs ≤ length xs
stop-within stops xs = prefix-le (λ x. not (stops x)) xs

pub none-before : (stops : ℕ → Bool) (xs : List ℕ) → NoneStops stops (take (position_or_len stops xs) xs)
none-before stops [] = tt
none-before stops (x ∷ xs) = by (stops x) refl (none-before stops xs)
  where
    by : (t : Bool) → stops x ≡ t → NoneStops stops (take (position_or_len stops xs) xs) → NoneStops stops (take (cond (not t) (1 + position_or_len stops xs) 0) (x ∷ xs))
    by true e h = tt
    by false e h = let n : 1 + position_or_len stops xs ≡ suc (position_or_len stops xs) = omega arith in rw n (e, h)

pub stop-behind : (stops : ℕ → Bool) (xs : List ℕ) → BeginsWithStop stops (drop (position_or_len stops xs) xs)
stop-behind stops [] = tt
stop-behind stops (x ∷ xs) = by (stops x) refl (stop-behind stops xs)
  where
    by : (t : Bool) → stops x ≡ t → BeginsWithStop stops (drop (position_or_len stops xs) xs) → BeginsWithStop stops (drop (cond (not t) (1 + position_or_len stops xs) 0) (x ∷ xs))
    by true e h = e
    by false e h = let n : 1 + position_or_len stops xs ≡ suc (position_or_len stops xs) = omega arith in rw n h

pub NoneStops-append : (stops : ℕ → Bool) (xs ys : List ℕ) → NoneStops stops xs → NoneStops stops ys → NoneStops stops (xs ++ ys)
NoneStops-append stops [] ys h k = k
NoneStops-append stops (x ∷ xs) ys h k = (h.0, NoneStops-append stops xs ys h.1 k)

pub since-run : (stops : ℕ → Bool) (run new : List ℕ) → NoneStops stops run → BeginsWithStop stops new → since stops (run ++ new) ≡ new
since-run stops [] [] none at = refl
since-run stops [] (b ∷ bs) none at = rw at refl
since-run stops (x ∷ xs) new none at = rw none.0 (since-run stops xs new none.1 at)

pub until-run : (stops : ℕ → Bool) (run new : List ℕ) → NoneStops stops run → BeginsWithStop stops new → until stops (run ++ new) ≡ run
until-run stops [] [] none at = refl
until-run stops [] (b ∷ bs) none at = rw at refl
until-run stops (x ∷ xs) new none at = rw none.0 (ap (λ (ys : List ℕ). x ∷ ys) (until-run stops xs new none.1 at))

-- what a search leaves
module _ (stops : ℕ → Bool) (xs : List ℕ) (count : ℕ) (found : count ≡ unwrap_or (position stops xs) (length xs)) where
  pub none-before-found : NoneStops stops (take count xs)
  none-before-found = subst (λ (n : ℕ). NoneStops stops (take n xs)) (sym (found ∙ stop-is stops xs)) (none-before stops xs)

  pub stop-behind-found : BeginsWithStop stops (drop count xs)
  stop-behind-found = subst (λ (n : ℕ). BeginsWithStop stops (drop n xs)) (sym (found ∙ stop-is stops xs)) (stop-behind stops xs)

  pub found-within : count ≤ length xs
  found-within = omega (arith, found, stop-is stops xs, stop-within stops xs)

-- where a search finds its byte
pub text-at : (bytes : List ℕ) (k : ℕ) → position is_not_blank bytes ≡ Some k → since is_not_blank bytes ≡ drop k bytes
text-at bytes k e =
    let found : k ≡ unwrap_or (position is_not_blank bytes) (length bytes) = sym (ap (λ (o : Option ℕ). unwrap_or o (length bytes)) e) in
    ap (since is_not_blank) (sym (take-append-drop k bytes)) ∙ since-run is_not_blank (take k bytes) (drop k bytes) (none-before-found is_not_blank bytes k found) (stop-behind-found is_not_blank bytes k found)

pub position-within : (test : ℕ → Bool) (bytes : List ℕ) (k : ℕ) → position test bytes ≡ Some k → k < length bytes
position-within test bytes k e = by (ltb (position_or_len test bytes) (length bytes)) refl e
  where
    by : (t : Bool) → ltb (position_or_len test bytes) (length bytes) ≡ t → cond t (Some (position_or_len test bytes)) None ≡ Some k → k < length bytes
    by true l e = let is : position_or_len test bytes ≡ k = cc in omega (arith, is, ltb-true (position_or_len test bytes) (length bytes) l)
    by false l e = absurd (cc)

pub drop-at : (bytes : List ℕ) (k : ℕ) → k < length bytes → drop k bytes ≡ get_or bytes k 0 ∷ drop (k + 1) bytes
drop-at [] k l = absurd (omega arith)
drop-at (x ∷ xs) zero l = refl
drop-at (x ∷ xs) (suc k) l = let n : suc k + 1 ≡ suc (k + 1) = omega arith in rw n (drop-at xs k (omega arith))
