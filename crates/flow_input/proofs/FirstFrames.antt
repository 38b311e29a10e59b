-- The first frame of bytes that show its end.
use Rattle.std.proofs.Common.{◌≡◌, ℕ, ◌+◌, ◌-◌, ◌<◌, ◌≤◌, zero, suc, Bool, true, false, not, cond, ltb, None, List, [], ◌∷◌, ◌++◌, length, refl, sym, ap, subst, ◌∙◌, arith, take, drop, get_or, Option, Some, unwrap_or, position}
use Rattle.std.proofs.lemmas.Bool.{ne_eqb, ltb-false}
use Rattle.std.proofs.lemmas.List.{take-append-drop, take_rest, drop-drop, length-drop}
use Rattle.std.specs.List.{position_or_len}
use Rattle.std.specs.Prelude.{IfSome}
use Rattle.flow_input.specs.Frames.{until, since, closed, order_cut, cut, first_cut, is_not_blank, is_parenthesis, ends_order}
use Rattle.flow_input.specs.FirstFrame.{EndsAt, Shows}
use Rattle.flow_input.proofs.Runs.{since-run, until-run, none-before-found, stop-behind-found, text-at, position-within, drop-at}

take-next : (bytes : List ℕ) (k : ℕ) → k < length bytes → take (k + 1) bytes ≡ take k bytes ++ get_or bytes k 0 ∷ []
take-next [] k l = absurd (omega arith)
take-next (x ∷ xs) zero l = refl
take-next (x ∷ xs) (suc k) l = let n : suc k + 1 ≡ suc (k + 1) = omega arith in rw n (ap (λ (ys : List ℕ). x ∷ ys) (take-next xs k (omega arith)))

-- the bytes before the first that stops, and those from it on
module _ (stops : ℕ → Bool) (bytes : List ℕ) (at : ℕ) (found : position stops bytes ≡ Some at) where
  is-found : at ≡ unwrap_or (position stops bytes) (length bytes)
  is-found = sym (ap (λ (o : Option ℕ). unwrap_or o (length bytes)) found)

  until-at : until stops bytes ≡ take at bytes
  until-at = ap (until stops) (sym (take-append-drop at bytes)) ∙ until-run stops (take at bytes) (drop at bytes) (none-before-found stops bytes at is-found) (stop-behind-found stops bytes at is-found)

  since-at : since stops bytes ≡ get_or bytes at 0 ∷ drop (at + 1) bytes
  since-at = ap (since stops) (sym (take-append-drop at bytes)) ∙ since-run stops (take at bytes) (drop at bytes) (none-before-found stops bytes at is-found) (stop-behind-found stops bytes at is-found) ∙ drop-at bytes at (position-within stops bytes at found)

-- a message that a bracket closes, and one that ends before the next
module _ (behind : List ℕ) (at : ℕ) (found : position is_parenthesis behind ≡ Some at) where
  cut-at : (b : ℕ) → get_or behind at 0 ≡ b → cut (40 ∷ behind) ≡ Some (closed (take at behind) (b ∷ drop (at + 1) behind))
  cut-at b is = ap Some (ap (λ (body : List ℕ). closed body (since is_parenthesis behind)) (until-at is_parenthesis behind at found) ∙ ap (closed (take at behind)) (since-at is_parenthesis behind at found ∙ ap (λ (x : ℕ). x ∷ drop (at + 1) behind) is))

  message-closed : get_or behind at 0 ≡ 41 → EndsAt (40 ∷ behind) (at + 2)
  message-closed is =
      let within : at < length behind = position-within is_parenthesis behind at found in
      let n : at + 2 ≡ suc (at + 1) = omega arith in
      let tail : take (at + 1) behind ≡ take at behind ++ 41 ∷ [] = take-next behind at within ∙ ap (λ (b : ℕ). take at behind ++ b ∷ []) is in
      rw n (record { some = omega arith; within = omega arith; is = cut-at 41 is ∙ ap (λ (body : List ℕ). Some (record { frame = 40 ∷ body; rest = drop (at + 1) behind; ended = true })) (sym tail) })

  message-open : (get_or behind at 0 ≡ 41 → ⊥) → EndsAt (40 ∷ behind) (at + 1)
  message-open other =
      let within : at < length behind = position-within is_parenthesis behind at found in
      let n : at + 1 ≡ suc at = omega arith in
      record {
        some = omega arith;
        within = omega arith;
        is = rw n (cut-at (get_or behind at 0) refl ∙ rw (ne_eqb (get_or behind at 0) 41 other) (ap (λ (rest : List ℕ). Some (record { frame = 40 ∷ take at behind; rest = rest; ended = true })) (sym (drop-at behind at within))));
      }

-- an order
order-ended : (first : ℕ) (behind : List ℕ) (at : ℕ) → (first ≡ 40 → ⊥) → position ends_order behind ≡ Some at → EndsAt (first ∷ behind) (at + 1)
order-ended first behind at other found =
    let within : at < length behind = position-within ends_order behind at found in
    let n : at + 1 ≡ suc at = omega arith in
    let rest = since-at ends_order behind at found ∙ sym (drop-at behind at within) in
    record {
      some = omega arith;
      within = omega arith;
      is = rw (n, ne_eqb first 40 other) (ap (λ (body : List ℕ). Some (order_cut (first ∷ body) (since ends_order behind))) (until-at ends_order behind at found) ∙ ap (λ (bs : List ℕ). Some (order_cut (first ∷ take at behind) bs)) (since-at ends_order behind at found)
          ∙ ap (λ (bs : List ℕ). Some (record { frame = first ∷ take at behind; rest = bs; ended = true })) (sym (drop-at behind at within)));
    }

-- the same of bytes as they are read, after the first
pub order-in : (bytes : List ℕ) (at : ℕ) → (get_or bytes 0 0 ≡ 40 → ⊥) → position ends_order (take (length bytes - 1) (drop 1 bytes)) ≡ Some at → EndsAt bytes (at + 1)
order-in [] at other found = absurd (cc)
order-in (b ∷ bs) at other found = order-ended b bs at other (rw (take_rest (b ∷ bs) 1) at found)

pub closed-in : (bytes : List ℕ) (at : ℕ) → get_or bytes 0 0 ≡ 40 → position is_parenthesis (take (length bytes - 1) (drop 1 bytes)) ≡ Some at → get_or (take (length bytes - 1) (drop 1 bytes)) at 0 ≡ 41
    → EndsAt bytes (at + 2)
closed-in [] at is found close = absurd (cc)
closed-in (b ∷ bs) at is found close =
    subst (λ (x : ℕ). EndsAt (x ∷ bs) (at + 2)) (sym is) (message-closed bs at (rw (take_rest (b ∷ bs) 1) at found) (rw (take_rest (b ∷ bs) 1) at close))

pub open-in : (bytes : List ℕ) (at : ℕ) → get_or bytes 0 0 ≡ 40 → position is_parenthesis (take (length bytes - 1) (drop 1 bytes)) ≡ Some at → (get_or (take (length bytes - 1) (drop 1 bytes)) at 0 ≡ 41 → ⊥)
    → EndsAt bytes (at + 1)
open-in [] at is found other = absurd (cc)
open-in (b ∷ bs) at is found other =
    subst (λ (x : ℕ). EndsAt (x ∷ bs) (at + 1)) (sym is) (message-open bs at (rw (take_rest (b ∷ bs) 1) at found) (rw (take_rest (b ∷ bs) 1) at other))

-- past the blanks
pub shown : (bytes : List ℕ) (begin len : ℕ) → position is_not_blank bytes ≡ Some begin → EndsAt (take (length bytes - begin) (drop begin bytes)) len → Shows bytes begin (begin + len)
unfolding first_cut
shown bytes begin len text here =
    let ends : EndsAt (drop begin bytes) len = rw (take_rest bytes begin) at here in
    let within : begin < length bytes = position-within is_not_blank bytes begin text in
    let n : begin + len - begin ≡ len = omega arith in
    record {
      some = omega (arith, ends.some);
      within = omega (arith, ends.within, within, length-drop begin bytes);
      is = ap cut (text-at bytes begin text) ∙ ends.is ∙ rw (n, drop-drop len begin bytes) refl;
    }

-- ---- where the bytes don't show the end of a frame

since-past : (stops : ℕ → Bool) (bytes : List ℕ) → length bytes ≤ position_or_len stops bytes → since stops bytes ≡ []
since-past stops [] h = refl
since-past stops (b ∷ bs) h = by (stops b) h (λ l. since-past stops bs l)
  where
    by : (t : Bool) → length (b ∷ bs) ≤ cond (not t) (1 + position_or_len stops bs) 0 → (length bs ≤ position_or_len stops bs → since stops bs ≡ []) → cond t (b ∷ bs) (since stops bs) ≡ []
    by true l behind = absurd (omega (arith, l))
    by false l behind = behind (omega (arith, l))

since-none : (stops : ℕ → Bool) (bytes : List ℕ) → position stops bytes ≡ None → since stops bytes ≡ []
since-none stops bytes none = by (ltb (position_or_len stops bytes) (length bytes)) refl none
  where
    by : (t : Bool) → ltb (position_or_len stops bytes) (length bytes) ≡ t → cond t (Some (position_or_len stops bytes)) None ≡ None → since stops bytes ≡ []
    by true l e = absurd (cc)
    by false l e = since-past stops bytes (ltb-false (position_or_len stops bytes) (length bytes) l)

pub none-in : (bytes : List ℕ) → position is_not_blank bytes ≡ None → IfSome (first_cut bytes) (λ c. c.ended ≡ false)
unfolding first_cut
none-in bytes none = rw (since-none is_not_blank bytes none) tt

pub message-going : (bytes : List ℕ) → get_or bytes 0 0 ≡ 40 → position is_parenthesis (take (length bytes - 1) (drop 1 bytes)) ≡ None → IfSome (cut bytes) (λ c. c.ended ≡ false)
message-going [] is none = tt
message-going (b ∷ bs) is none =
    let nothing : since is_parenthesis bs ≡ [] = since-none is_parenthesis bs (rw (take_rest (b ∷ bs) 1) at none) in
    subst (λ (x : ℕ). IfSome (cut (x ∷ bs)) (λ c. c.ended ≡ false)) (sym is) (rw nothing refl)

pub order-going : (bytes : List ℕ) → (get_or bytes 0 0 ≡ 40 → ⊥) → position ends_order (take (length bytes - 1) (drop 1 bytes)) ≡ None → IfSome (cut bytes) (λ c. c.ended ≡ false)
order-going [] other none = tt
order-going (b ∷ bs) other none = rw (ne_eqb b 40 other, since-none ends_order bs (rw (take_rest (b ∷ bs) 1) at none)) refl

pub going-past : (bytes : List ℕ) (begin : ℕ) → position is_not_blank bytes ≡ Some begin → IfSome (cut (take (length bytes - begin) (drop begin bytes))) (λ c. c.ended ≡ false) → IfSome (first_cut bytes) (λ c. c.ended ≡ false)
unfolding first_cut
going-past bytes begin text here = rw (text-at bytes begin text) (rw (take_rest bytes begin) at here)
