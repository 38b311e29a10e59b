-- First planned, first served has the least sum of delays.
use Rattle.std.proofs.Common.{◌≡◌, ℕ, zero, suc, ◌+◌, ◌<◌, ◌≤◌, ◌⊎◌, inl, inr, ◌||◌, Bool, true, false, cond, eqb, List, [], ◌∷◌, map, refl, sym, ap, ◌∙◌, arith}
use Rattle.std.proofs.lemmas.Bool.{eq-eqb, ne_eqb, cases_eq, cases_lt, false≢true, or_right, or_left}
use Rattle.flow_slots.specs.declared.cell.Planned.{Planned}
use Rattle.flow_slots.specs.Period.{Period, IsRegular, first_slot, slot_time}
use Rattle.flow_slots.specs.Assignment.{is_in, above, first_free_within, first_free, greedy, slots}
use Rattle.flow_slots.specs.Row.{AllWithin}
use Rattle.flow_slots.specs.Lineup.{Lineup}
use Rattle.flow_slots.specs.FirstServed.{AreFirstServed, IsFirstServed}
use Rattle.flow_slots.specs.Delay.{total_delay, IsChoice, waiting_slots, HasLeastDelay}
use Rattle.flow_slots.proofs.Fresh.{is_in-above}
use Rattle.flow_slots.proofs.Periods.{first_slot-first, slot_time-later}

pub first_slot-least : (p : Period) (e k : ℕ) → IsRegular p → p.start ≤ e → e ≤ slot_time p k → first_slot p e ≤ k
first_slot-least p e k r h l = cases (cases_lt k (first_slot p e)) where
  cases : (k < first_slot p e) ⊎ (first_slot p e ≤ k) → first_slot p e ≤ k
  cases (inr q) = q
  cases (inl q) = absurd (omega (arith, (first_slot-first p e r h).1 k q))

-- the first free number, by its meaning
is_in-cases : (k : ℕ) (xs : List ℕ) (b : Bool) → is_in k xs ≡ b → (above xs ≤ k → b ≡ false)
is_in-cases k xs true e h = absurd (omega (arith, is_in-above k xs e))
is_in-cases k xs false e h = refl

pub first_free_within-free : (n k : ℕ) (taken : List ℕ) → above taken ≤ k + n → is_in (first_free_within n taken k) taken ≡ false
first_free_within-free zero k taken h = (let e : is_in k taken ≡ false = is_in-cases k taken (is_in k taken) refl (omega arith) in e)
first_free_within-free (suc n) k taken h = cases (first_free_within-free n (k + 1) taken (omega arith)) (is_in k taken) refl where
  cases : is_in (first_free_within n taken (k + 1)) taken ≡ false → (b : Bool) → is_in k taken ≡ b → is_in (cond b (first_free_within n taken (k + 1)) k) taken ≡ false
  cases again true e = again
  cases again false e = e

pub first_free_within-from : (n k : ℕ) (taken : List ℕ) → k ≤ first_free_within n taken k
first_free_within-from zero k taken = omega arith
first_free_within-from (suc n) k taken = cases (first_free_within-from n (k + 1) taken) (is_in k taken) where
  cases : k + 1 ≤ first_free_within n taken (k + 1) → (b : Bool) → k ≤ cond b (first_free_within n taken (k + 1)) k
  cases again true = omega arith
  cases again false = omega arith

pub first_free_within-least : (n k j : ℕ) (taken : List ℕ) → k ≤ j → is_in j taken ≡ false → first_free_within n taken k ≤ j
first_free_within-least zero k j taken h f = h
first_free_within-least (suc n) k j taken h f = cases (λ q. first_free_within-least n (k + 1) j taken q f) (is_in k taken) refl where
  cases : (k + 1 ≤ j → first_free_within n taken (k + 1) ≤ j) → (b : Bool) → is_in k taken ≡ b → cond b (first_free_within n taken (k + 1)) k ≤ j
  cases again false e = h
  cases again true e = again (other (cases_eq k j)) where
    other : (k ≡ j) ⊎ (k ≡ j → ⊥) → k + 1 ≤ j
    other (inl q) = absurd (false≢true (sym f ∙ (ap (λ i. is_in i taken) (sym q) ∙ e)))
    other (inr q) = omega arith

-- g and k are exchanged
abbrev exchange : ℕ → ℕ → ℕ → ℕ
exchange g k x = cond (eqb x g) k (cond (eqb x k) g x)

exchange-first : (g k : ℕ) → exchange g k g ≡ k
exchange-first g k = ap (λ b. cond b k (cond (eqb g k) g g)) (eq-eqb g g refl)

exchange-second : (g k : ℕ) → exchange g k k ≡ g
exchange-second g k = cases (cases_eq k g) where
  cases : (k ≡ g) ⊎ (k ≡ g → ⊥) → exchange g k k ≡ g
  cases (inl q) = ap (λ b. cond b k (cond (eqb k k) g k)) (eq-eqb k g q) ∙ q
  cases (inr q) = ap (λ b. cond b k (cond (eqb k k) g k)) (ne_eqb k g q) ∙ ap (λ b. cond b g k) (eq-eqb k k refl)

exchange-other : (g k x : ℕ) → (x ≡ g → ⊥) → (x ≡ k → ⊥) → exchange g k x ≡ x
exchange-other g k x a b = ap (λ t. cond t k (cond (eqb x k) g x)) (ne_eqb x g a) ∙ ap (λ t. cond t g x) (ne_eqb x k b)

exchange-exchange : (g k x : ℕ) → exchange g k (exchange g k x) ≡ x
exchange-exchange g k x = cases (cases_eq x g) (cases_eq x k) where
  cases : (x ≡ g) ⊎ (x ≡ g → ⊥) → (x ≡ k) ⊎ (x ≡ k → ⊥) → exchange g k (exchange g k x) ≡ x
  cases (inl q) _ = ap (λ v. exchange g k (exchange g k v)) q ∙ (ap (exchange g k) (exchange-first g k) ∙ (exchange-second g k ∙ sym q))
  cases (inr a) (inl q) = ap (λ v. exchange g k (exchange g k v)) q ∙ (ap (exchange g k) (exchange-second g k) ∙ (exchange-first g k ∙ sym q))
  cases (inr a) (inr b) = ap (exchange g k) (exchange-other g k x a b) ∙ exchange-other g k x a b

exchange-eqb : (g k x j : ℕ) → eqb (exchange g k j) x ≡ eqb j (exchange g k x)
exchange-eqb g k x j = cases (cases_eq (exchange g k j) x) where
  cases : (exchange g k j ≡ x) ⊎ (exchange g k j ≡ x → ⊥) → eqb (exchange g k j) x ≡ eqb j (exchange g k x)
  cases (inl q) = eq-eqb (exchange g k j) x q ∙ sym (eq-eqb j (exchange g k x) (sym (exchange-exchange g k j) ∙ ap (exchange g k) q))
  cases (inr q) = ne_eqb (exchange g k j) x q ∙ sym (ne_eqb j (exchange g k x) (λ e. q (ap (exchange g k) e ∙ exchange-exchange g k x)))

abbrev Exchanged : ℕ → ℕ → List ℕ → List ℕ → Type 0
Exchanged g k old new = (x : ℕ) → is_in x new ≡ is_in (exchange g k x) old

Exchanged-more : (g k j : ℕ) (old new : List ℕ) → Exchanged g k old new → Exchanged g k (j ∷ old) (exchange g k j ∷ new)
Exchanged-more g k j old new s x =
    ap (λ b. b || is_in x new) (exchange-eqb g k x j) ∙ ap (λ b. eqb j (exchange g k x) || b) (s x)

not_in : (j k : ℕ) (old : List ℕ) → is_in k old ≡ true → is_in j old ≡ false → j ≡ k → ⊥
not_in j k old e f q = false≢true (sym f ∙ (ap (λ i. is_in i old) q ∙ e))

-- a choice with `k` taken is one with `g` taken in its place
choice-exchange : (p : Period) (g k : ℕ) (ws : List Planned) (ks old new : List ℕ) → IsRegular p → g ≤ k → Exchanged g k old new → is_in k old ≡ true → IsChoice p old ws ks → IsChoice p new ws (map (exchange g k) ks)
choice-exchange p g k [] [] old new r l s e c = tt
choice-exchange p g k [] (j ∷ ks) old new r l s e c = c
choice-exchange p g k (w ∷ ws) [] old new r l s e c = c
choice-exchange p g k (w ∷ ws) (j ∷ ks) old new r l s e c =
    (late (cases_eq j g), s (exchange g k j) ∙ (ap (λ i. is_in i old) (exchange-exchange g k j) ∙ c.1), choice-exchange p g k ws ks (j ∷ old) (exchange g k j ∷ new) r l (Exchanged-more g k j old new s) (or_right (eqb j k) (is_in k old) e) c.2) where
      late : (j ≡ g) ⊎ (j ≡ g → ⊥) → w.entry ≤ slot_time p (exchange g k j)
      late (inl q) =
          let here : exchange g k j ≡ k = ap (exchange g k) q ∙ exchange-first g k in
          let more = slot_time-later p j k r (omega arith) in
          rw here (omega (arith, more, c.0))
      late (inr q) = rw (exchange-other g k j q (not_in j k old e c.1)) c.0

abbrev times : Period → List ℕ → ℕ
times p [] = 0
times p (k ∷ ks) = slot_time p k + times p ks

times-same : (p : Period) (g k : ℕ) (ws : List Planned) (ks old : List ℕ) → is_in g old ≡ true → is_in k old ≡ true → IsChoice p old ws ks → times p (map (exchange g k) ks) ≡ times p ks
times-same p g k [] [] old a b c = refl
times-same p g k [] (j ∷ ks) old a b c = absurd c
times-same p g k (w ∷ ws) [] old a b c = refl
times-same p g k (w ∷ ws) (j ∷ ks) old a b c =
    let here : exchange g k j ≡ j = exchange-other g k j (not_in j g old a c.1) (not_in j k old b c.1) in
    let again = times-same p g k ws ks (j ∷ old) (or_right (eqb j g) (is_in g old) a) (or_right (eqb j k) (is_in k old) b) c.2 in
    ap (λ i. slot_time p i + times p (map (exchange g k) ks)) here ∙ ap (λ t. slot_time p j + t) again

times-exchange : (p : Period) (g k : ℕ) (ws : List Planned) (ks old : List ℕ) → IsRegular p → g ≤ k → is_in k old ≡ true → IsChoice p old ws ks → slot_time p g + times p (map (exchange g k) ks) ≤ slot_time p k + times p ks
times-exchange p g k [] [] old r l e c = omega (arith, slot_time-later p g k r l)
times-exchange p g k [] (j ∷ ks) old r l e c = absurd c
times-exchange p g k (w ∷ ws) [] old r l e c = omega (arith, slot_time-later p g k r l)
times-exchange p g k (w ∷ ws) (j ∷ ks) old r l e c =
    cases (times-exchange p g k ws ks (j ∷ old) r l (or_right (eqb j k) (is_in k old) e) c.2) (cases_eq j g) where
      cases : slot_time p g + times p (map (exchange g k) ks) ≤ slot_time p k + times p ks → (j ≡ g) ⊎ (j ≡ g → ⊥) → slot_time p g + (slot_time p (exchange g k j) + times p (map (exchange g k) ks)) ≤ slot_time p k + (slot_time p j + times p ks)
      cases again (inl q) =
          let here : exchange g k j ≡ k = ap (exchange g k) q ∙ exchange-first g k in
          let seen : is_in g (j ∷ old) ≡ true = or_left (eqb j g) (is_in g old) (eq-eqb j g q) in
          let rest = times-same p g k ws ks (j ∷ old) seen (or_right (eqb j k) (is_in k old) e) c.2 in
          let same = ap (slot_time p) here in
          let as_g = ap (slot_time p) q in
          omega (arith, rest, same, as_g)
      cases again (inr q) =
          let here = ap (slot_time p) (exchange-other g k j q (not_in j k old e c.1)) in
          omega (arith, again, here)

Exchanged-start : (g k : ℕ) (taken : List ℕ) → is_in g taken ≡ false → is_in k taken ≡ false → Exchanged g k (k ∷ taken) (g ∷ taken)
Exchanged-start g k taken a b x = cases (cases_eq x g) (cases_eq x k) where
  cases : (x ≡ g) ⊎ (x ≡ g → ⊥) → (x ≡ k) ⊎ (x ≡ k → ⊥) → is_in x (g ∷ taken) ≡ is_in (exchange g k x) (k ∷ taken)
  cases (inl q) _ =
      or_left (eqb g x) (is_in x taken) (eq-eqb g x (sym q)) ∙ sym (ap (λ v. is_in (exchange g k v) (k ∷ taken)) q ∙ (ap (λ v. is_in v (k ∷ taken)) (exchange-first g k) ∙ or_left (eqb k k) (is_in k taken) (eq-eqb k k refl)))
  cases (inr u) (inl q) =
      let new : is_in x (g ∷ taken) ≡ false = ap (λ t. t || is_in x taken) (ne_eqb g x (λ v. u (sym v))) ∙ (ap (λ v. is_in v taken) q ∙ b) in
      let old : is_in (exchange g k x) (k ∷ taken) ≡ false = ap (λ v. is_in (exchange g k v) (k ∷ taken)) q ∙ (ap (λ v. is_in v (k ∷ taken)) (exchange-second g k) ∙ (ap (λ t. t || is_in g taken) (ne_eqb k g (λ v. u (q ∙ v))) ∙ a)) in
      new ∙ sym old
  cases (inr u) (inr v) =
      ap (λ t. t || is_in x taken) (ne_eqb g x (λ e. u (sym e))) ∙ sym (ap (λ i. is_in i (k ∷ taken)) (exchange-other g k x u v) ∙ ap (λ t. t || is_in x taken) (ne_eqb k x (λ e. v (sym e))))

-- the assigned slots are a choice
greedy-choice : (p : Period) (taken : List ℕ) (ws : List Planned) → IsRegular p → AllWithin p ws → IsChoice p taken ws (slots (greedy (λ e. first_slot p e) taken ws))
greedy-choice p taken [] r a = tt
greedy-choice p taken (w ∷ ws) r a =
    let k = first_free taken (first_slot p w.entry) in
    let from = first_free_within-from (above taken) (first_slot p w.entry) taken in
    let late = slot_time-later p (first_slot p w.entry) k r from in
    (omega (arith, late, (first_slot-first p w.entry r a.0.0).0), first_free_within-free (above taken) (first_slot p w.entry) taken (omega arith), greedy-choice p (k ∷ taken) ws r a.1)

-- no choice has a smaller sum of slot times
greedy-times : (p : Period) (taken : List ℕ) (ws : List Planned) (ks : List ℕ) → IsRegular p → AllWithin p ws → IsChoice p taken ws ks → times p (slots (greedy (λ e. first_slot p e) taken ws)) ≤ times p ks
greedy-times p taken [] [] r a c = omega arith
greedy-times p taken [] (k ∷ ks) r a c = absurd c
greedy-times p taken (w ∷ ws) [] r a c = absurd c
greedy-times p taken (w ∷ ws) (k ∷ ks) r a c =
    let g = first_free taken (first_slot p w.entry) in
    let early : g ≤ k = first_free_within-least (above taken) (first_slot p w.entry) k taken (first_slot-least p w.entry k r a.0.0 c.0) c.1 in
    let free : is_in g taken ≡ false = first_free_within-free (above taken) (first_slot p w.entry) taken (omega arith) in
    let now : is_in k (k ∷ taken) ≡ true = or_left (eqb k k) (is_in k taken) (eq-eqb k k refl) in
    let other = choice-exchange p g k ws ks (k ∷ taken) (g ∷ taken) r early (Exchanged-start g k taken free c.1) now c.2 in
    let again = greedy-times p (g ∷ taken) ws (map (exchange g k) ks) r a.1 other in
    let swap = times-exchange p g k ws ks (k ∷ taken) r early now c.2 in
    omega (arith, again, swap)

abbrev entries : List Planned → ℕ
entries [] = 0
entries (w ∷ ws) = w.entry + entries ws

delay-times : (p : Period) (taken : List ℕ) (ws : List Planned) (ks : List ℕ) → IsChoice p taken ws ks → total_delay p ws ks + entries ws ≡ times p ks
delay-times p taken [] [] c = refl
delay-times p taken [] (k ∷ ks) c = absurd c
delay-times p taken (w ∷ ws) [] c = absurd c
delay-times p taken (w ∷ ws) (k ∷ ks) c = omega (arith, delay-times p (k ∷ taken) ws ks c.2, c.0)

-- first planned, first served has the least sum of delays
pub least_delay : (l : Lineup) → IsRegular l.period → AllWithin l.period l.waiting → HasLeastDelay l
least_delay l r a =
    let p = l.period in
    let taken = slots l.fixed in
    let mine = greedy-choice p taken l.waiting r a in
    record {
      choice = mine;
      least = λ ks c. omega (arith, greedy-times p taken l.waiting ks r a c, delay-times p taken l.waiting (waiting_slots l) mine, delay-times p taken l.waiting ks c);
    }

-- the definition by recursion is first planned, first served
are_first_served : (p : Period) (taken : List ℕ) (ws : List Planned) → IsRegular p → AllWithin p ws → AreFirstServed p taken ws (greedy (λ e. first_slot p e) taken ws)
are_first_served p taken [] r a = tt
are_first_served p taken (w ∷ ws) r a =
    let k = first_free taken (first_slot p w.entry) in
    let late = slot_time-later p (first_slot p w.entry) k r (first_free_within-from (above taken) (first_slot p w.entry) taken) in (
      refl,
      record {
        not_before = omega (arith, late, (first_slot-first p w.entry r a.0.0).0);
        free = first_free_within-free (above taken) (first_slot p w.entry) taken (omega arith);
        least = λ j h f. first_free_within-least (above taken) (first_slot p w.entry) j taken (first_slot-least p w.entry j r a.0.0 h) f;
      },
      are_first_served p (k ∷ taken) ws r a.1,
    )

pub first_served : (l : Lineup) → IsRegular l.period → AllWithin l.period l.waiting → IsFirstServed l
first_served l r a = are_first_served l.period (slots l.fixed) l.waiting r a
