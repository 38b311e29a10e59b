-- Freezing a flight in its provisional slot moves nobody.
use Rattle.std.proofs.Common.{◌≡◌, ◌≢◌, ℕ, ◌||◌, Bool, true, false, not, cond, eqb, ltb, List, [], ◌∷◌, None, Some, refl, sym, ap, subst, ◌∙◌}
use Rattle.std.proofs.lemmas.Bool.{eqb-true, eqb-false, ne_eqb}
use Rattle.flow_slots.specs.declared.cell.Planned.{Planned}
use Rattle.flow_slots.specs.Period.{first_slot}
use Rattle.flow_slots.specs.Order.{without}
use Rattle.flow_slots.specs.Assignment.{Placed, is_in, above, first_free, greedy, slots}
use Rattle.flow_slots.specs.Lineup.{Lineup, NoneIs, NoneFixed, WaitingApart, slot_in, held_slot, without_fixed, insert_fixed, fixed_at}
use Rattle.flow_slots.specs.LineupLaws.{IsSound, Waits}
use Rattle.flow_slots.proofs.Fresh.{first_free-is}
use Rattle.flow_slots.proofs.Held.{first_of, slot_in-append, slot_in-other, slot_in-here}
use Rattle.flow_slots.proofs.Optimal.{first_free_within-from}
use Rattle.flow_slots.proofs.Served.{pair, slot_in-in, not_taken, first_free-free, greedy-free, is_in-before}
use Rattle.flow_slots.proofs.TakenBack.{entry_in-one}
use Rattle.flow_slots.proofs.Undone.{without-none, without_fixed-none}

-- the same slots are taken
abbrev TakenAlike : List ℕ → List ℕ → Type 0
TakenAlike xs ys = (j : ℕ) → is_in j xs ≡ is_in j ys

swapped : (a b c : Bool) → (a || (b || c)) ≡ (b || (a || c))
swapped true true c = refl
swapped true false c = refl
swapped false b c = refl

-- slot `k` is taken too, and the first free one is another
first_free-other : (k from : ℕ) (taken more : List ℕ) → TakenAlike more (k ∷ taken) → first_free taken from ≢ k → first_free more from ≡ first_free taken from
first_free-other k from taken more same other =
    let j = first_free taken from in
    let free : is_in j more ≡ false = same j ∙ (ap (λ b. b || is_in j taken) (ne_eqb k j (λ q. other (sym q))) ∙ first_free-free taken from) in
    first_free-is more from j (first_free_within-from (above taken) from taken) (λ i l h. same i ∙ (ap (λ b. eqb k i || b) (is_in-before i from taken l h (is_in i taken) refl) ∙ either (eqb k i))) free where
      either : (b : Bool) → (b || true) ≡ true
      either true = refl
      either false = refl

first_free-same : (from : ℕ) (taken more : List ℕ) → TakenAlike more taken → first_free more from ≡ first_free taken from
first_free-same from taken more same =
    let j = first_free taken from in
    first_free-is more from j (first_free_within-from (above taken) from taken) (λ i l h. same i ∙ is_in-before i from taken l h (is_in i taken) refl) (same j ∙ first_free-free taken from)

greedy-same : (first : ℕ → ℕ) (taken more : List ℕ) (ws : List Planned) → TakenAlike more taken → greedy first more ws ≡ greedy first taken ws
greedy-same first taken more [] same = refl
greedy-same first taken more (w ∷ ws) same =
    let j = first_free taken (first w.entry) in
    let here : first_free more (first w.entry) ≡ j = first_free-same (first w.entry) taken more same in
    ap (λ i. let a : Placed = record { flight = w.flight; slot = i } in a ∷ greedy first (i ∷ more) ws) here
    ∙ ap (λ v. let a : Placed = record { flight = w.flight; slot = j } in a ∷ v) (greedy-same first (j ∷ taken) (j ∷ more) ws (λ i. ap (λ b. eqb j i || b) (same i)))

none_served : (first : ℕ → ℕ) (f : ℕ) (taken : List ℕ) (ws : List Planned) → NoneIs f ws → NoneFixed f (greedy first taken ws)
none_served first f taken [] n = tt
none_served first f taken (w ∷ ws) n = (n.0, none_served first f (first_free taken (first w.entry) ∷ taken) ws n.1)

-- a provisional flight goes, and its slot is taken: all others get the slots that they had
greedy-without : (first : ℕ → ℕ) (f k : ℕ) (fixed : List Placed) (taken more : List ℕ) (ws : List Planned) → WaitingApart fixed ws → TakenAlike more (k ∷ taken) → slot_in f (greedy first taken ws) ≡ Some k → greedy first more (without f ws) ≡ without_fixed f (greedy first taken ws)
greedy-without first f k fixed taken more [] apart same e = cc
greedy-without first f k fixed taken more (w ∷ ws) apart same e = cases (λ old new alike later. greedy-without first f k fixed old new ws apart.2 alike later) (eqb w.flight f) refl where
  j : ℕ
  j = first_free taken (first w.entry)

  others : List Placed
  others = greedy first (j ∷ taken) ws

  here : Placed
  here = record { flight = w.flight; slot = j }

  cases : ((old new : List ℕ) → TakenAlike new (k ∷ old) → slot_in f (greedy first old ws) ≡ Some k → greedy first new (without f ws) ≡ without_fixed f (greedy first old ws)) → (b : Bool) → eqb w.flight f ≡ b → greedy first more (cond (not b) (w ∷ without f ws) (without f ws)) ≡ cond (not b) (here ∷ without_fixed f others) (without_fixed f others)
  cases again true q =
      let number : w.flight ≡ f = eqb-true w.flight f q in
      let none : NoneIs f ws = subst (λ g. NoneIs g ws) number apart.1 in
      let found : Some j ≡ Some k = sym (slot_in-here f here others number) ∙ e in
      let slot : j ≡ k = cc in
      let alike : TakenAlike more (j ∷ taken) = subst (λ i. TakenAlike more (i ∷ taken)) (sym slot) same in
      ap (greedy first more) (without-none f ws none)
      ∙ (greedy-same first (j ∷ taken) more ws alike ∙ sym (without_fixed-none f others (none_served first f (j ∷ taken) ws none)))
  cases again false q =
      let apart_too : w.flight ≡ f → ⊥ = eqb-false w.flight f q in
      let later : slot_in f others ≡ Some k = sym (slot_in-other f here others apart_too) ∙ e in
      let free : is_in k (j ∷ taken) ≡ false = greedy-free first (j ∷ taken) ws (pair f k) (slot_in-in f k others later) in
      let stays : first_free more (first w.entry) ≡ j = first_free-other k (first w.entry) taken more same (λ i. not_taken k j taken free (sym i)) in
      let alike : TakenAlike (j ∷ more) (k ∷ j ∷ taken) = (λ i. ap (λ b. eqb j i || b) (same i) ∙ swapped (eqb j i) (eqb k i) (is_in i taken)) in
      ap (λ i. let a : Placed = record { flight = w.flight; slot = i } in a ∷ greedy first (i ∷ more) (without f ws)) stays
      ∙ ap (λ v. here ∷ v) (again (j ∷ taken) (j ∷ more) alike later)

-- if one more flight is frozen
taken-insert_fixed : (a : Placed) (xs : List Placed) → TakenAlike (slots (insert_fixed a xs)) (a.slot ∷ slots xs)
taken-insert_fixed a [] = λ j. refl
taken-insert_fixed a (x ∷ xs) = λ j. cases j (taken-insert_fixed a xs j) (ltb x.slot a.slot) where
  cases : (j : ℕ) → is_in j (slots (insert_fixed a xs)) ≡ is_in j (a.slot ∷ slots xs) → (b : Bool) → is_in j (slots (cond b (x ∷ insert_fixed a xs) (a ∷ x ∷ xs))) ≡ is_in j (a.slot ∷ x.slot ∷ slots xs)
  cases j again true = ap (λ b. eqb x.slot j || b) again ∙ swapped (eqb x.slot j) (eqb a.slot j) (is_in j (slots xs))
  cases j again false = refl

slot_in-insert_fixed : (f : ℕ) (a : Placed) (xs : List Placed) → NoneFixed a.flight xs → slot_in f (insert_fixed a xs) ≡ slot_in f (a ∷ xs)
slot_in-insert_fixed f a [] n = refl
slot_in-insert_fixed f a (x ∷ xs) n = cases (slot_in-insert_fixed f a xs n.1) (ltb x.slot a.slot) (eqb x.flight f) refl where
  cases : slot_in f (insert_fixed a xs) ≡ slot_in f (a ∷ xs) → (b c : Bool) → eqb x.flight f ≡ c → slot_in f (cond b (x ∷ insert_fixed a xs) (a ∷ x ∷ xs)) ≡ slot_in f (a ∷ x ∷ xs)
  cases again false c q = refl
  cases again true true q =
      let number : x.flight ≡ f = eqb-true x.flight f q in
      let other : a.flight ≡ f → ⊥ = (λ e. n.0 (number ∙ sym e)) in
      slot_in-here f x (insert_fixed a xs) number ∙ sym (slot_in-other f a (x ∷ xs) other ∙ slot_in-here f x xs number)
  cases again true false q =
      let other : x.flight ≡ f → ⊥ = eqb-false x.flight f q in
      slot_in-other f x (insert_fixed a xs) other
      ∙ (again ∙ ap (λ v. cond (eqb a.flight f) (Some a.slot) v) (sym (slot_in-other f x xs other)))

slot_in-left : (f g : ℕ) (xs : List Placed) → (f ≡ g → ⊥) → slot_in g (without_fixed f xs) ≡ slot_in g xs
slot_in-left f g [] ne = refl
slot_in-left f g (x ∷ xs) ne = cases (slot_in-left f g xs ne) (eqb x.flight f) refl where
  cases : slot_in g (without_fixed f xs) ≡ slot_in g xs → (b : Bool) → eqb x.flight f ≡ b → slot_in g (cond (not b) (x ∷ without_fixed f xs) (without_fixed f xs)) ≡ slot_in g (x ∷ xs)
  cases again true q = again ∙ sym (slot_in-other g x xs (λ e. ne (sym (eqb-true x.flight f q) ∙ e)))
  cases again false q = ap (λ v. cond (eqb x.flight g) (Some x.slot) v) again

slot_in-none : (f : ℕ) (xs : List Placed) → NoneFixed f xs → slot_in f xs ≡ None
slot_in-none f [] n = refl
slot_in-none f (x ∷ xs) n = slot_in-other f x xs n.0 ∙ slot_in-none f xs n.1

pub fixing-moves_nobody : (l : Lineup) (w : Planned) (k flight : ℕ) → IsSound l → Waits l w → held_slot l w.flight ≡ Some k → held_slot (fixed_at (record { flight = w.flight; slot = k }) l) flight ≡ held_slot l flight
fixing-moves_nobody l w k flight sound waits e = cases (eqb f flight) refl where
  first : ℕ → ℕ
  first m = first_slot l.period m

  f : ℕ
  f = w.flight

  a : Placed
  a = record { flight = f; slot = k }

  served : List Placed
  served = greedy first (slots l.fixed) l.waiting

  more : List ℕ
  more = slots (insert_fixed a l.fixed)

  none : NoneFixed f l.fixed
  none = (entry_in-one l.fixed w l.waiting sound.lined.waiting_apart waits).1

  later : slot_in f served ≡ Some k
  later = sym (slot_in-append f l.fixed served ∙ ap (λ o. first_of o (slot_in f served)) (slot_in-none f l.fixed none)) ∙ e

  rest : greedy first more (without f l.waiting) ≡ without_fixed f served
  rest = greedy-without first f k l.fixed (slots l.fixed) more l.waiting sound.lined.waiting_apart (taken-insert_fixed a l.fixed) later

  now : held_slot (fixed_at a l) flight ≡ first_of (slot_in flight (a ∷ l.fixed)) (slot_in flight (without_fixed f served))
  now =
      slot_in-append flight (insert_fixed a l.fixed) (greedy first more (without f l.waiting))
      ∙ (ap (λ o. first_of o (slot_in flight (greedy first more (without f l.waiting)))) (slot_in-insert_fixed flight a l.fixed none)
      ∙ ap (λ v. first_of (slot_in flight (a ∷ l.fixed)) (slot_in flight v)) rest)

  cases : (b : Bool) → eqb f flight ≡ b → held_slot (fixed_at a l) flight ≡ held_slot l flight
  cases true q =
      let number : f ≡ flight = eqb-true f flight q in
      now ∙ (ap (λ o. first_of o (slot_in flight (without_fixed f served))) (slot_in-here flight a l.fixed number) ∙ (sym e ∙ ap (held_slot l) number))
  cases false q =
      let other : f ≡ flight → ⊥ = eqb-false f flight q in
      now ∙ (ap (λ o. first_of o (slot_in flight (without_fixed f served))) (slot_in-other flight a l.fixed other)
      ∙ (ap (λ o. first_of (slot_in flight l.fixed) o) (slot_in-left f flight served other) ∙ sym (slot_in-append flight l.fixed served)))
