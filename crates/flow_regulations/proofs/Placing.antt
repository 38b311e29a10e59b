-- One flight is removed from a slot list, inserted, and frozen.
use Rattle.std.proofs.Common.{◌≡◌, ℕ, ◌≤◌, ◌++◌, ◌⊎◌, inl, inr, Bool, true, false, cond, List, [], ◌∷◌, Option, Some, None, refl, sym, ap, subst, ◌∙◌}
use Rattle.std.specs.Prelude.{IsSome, IfSome}
use Rattle.std.specs.Option.{is_some}
use Rattle.std.proofs.lemmas.Bool.{cases_eq, false≢true}
use Rattle.flow_slots.specs.declared.cell.Planned.{Planned}
use Rattle.flow_slots.specs.Period.{IsRegular, first_slot}
use Rattle.flow_slots.specs.Order.{stands_before, insert}
use Rattle.flow_slots.specs.Assignment.{Placed, first_free, greedy, slots}
use Rattle.flow_slots.specs.Lineup.{Lineup, slot_in, held_slot, fixed_slot, without_fixed, with_waiting, without_flight, fixed_at}
use Rattle.flow_slots.specs.ChangeList.{fixed_there}
use Rattle.flow_slots.proofs.Absent.{absent-fixed, absent-waiting}
use Rattle.flow_regulations.specs.Listing.{RegulationView, with_lineup, placed, fixed_waiting}
use Rattle.flow_regulations.proofs.Waiting.{without-none}
use Rattle.flow_regulations.proofs.FixedOnes.{without_fixed-none}
use Rattle.flow_regulations.proofs.Served.{slot_in-here, slot_in-other}
use Rattle.flow_regulations.proofs.Looks.{slot_in-before}

some-here : (f : ℕ) (a : Placed) (others : List Placed) → (a.flight ≡ f) ⊎ IsSome (slot_in f others) → IsSome (slot_in f (a ∷ others))
some-here f a others (inl e) = (let S : Option ℕ → Type 0 = λ o. IsSome o in subst S (sym (slot_in-here f a others e)) refl)
some-here f a others (inr h) = cases (cases_eq a.flight f) where
  cases : (a.flight ≡ f) ⊎ (a.flight ≡ f → ⊥) → IsSome (slot_in f (a ∷ others))
  cases (inl e) = (let S : Option ℕ → Type 0 = λ o. IsSome o in subst S (sym (slot_in-here f a others e)) refl)
  cases (inr ne) = (let S : Option ℕ → Type 0 = λ o. IsSome o in subst S (sym (slot_in-other f a others ne)) h)

some-after : (f : ℕ) (xs ys : List Placed) → IsSome (slot_in f ys) → IsSome (slot_in f (xs ++ ys))
some-after f [] ys h = h
some-after f (x ∷ xs) ys h = some-here f x (xs ++ ys) (inr (some-after f xs ys h))

some-inserted : (first : ℕ → ℕ) (taken : List ℕ) (x : Planned) (ws : List Planned) → IsSome (slot_in x.flight (greedy first taken (insert x ws)))
some-inserted first taken x [] = some-here x.flight (record { flight = x.flight; slot = first_free taken (first x.entry) }) [] (inl refl)
some-inserted first taken x (w ∷ ws) = cases (some-inserted first (first_free taken (first w.entry) ∷ taken) x ws) (stands_before w x) where
  cases : IsSome (slot_in x.flight (greedy first (first_free taken (first w.entry) ∷ taken) (insert x ws))) → (b : Bool) → IsSome (slot_in x.flight (greedy first taken (cond b (w ∷ insert x ws) (x ∷ w ∷ ws))))
  cases again true = some-here x.flight (record { flight = w.flight; slot = first_free taken (first w.entry) }) (greedy first (first_free taken (first w.entry) ∷ taken) (insert x ws)) (inr again)
  cases again false = some-here x.flight (record { flight = x.flight; slot = first_free taken (first x.entry) }) (greedy first (first_free taken (first x.entry) ∷ taken) (w ∷ ws)) (inl refl)

-- a flight that came in is held
pub held-waiting : (w : Planned) (l : Lineup) → IsSome (held_slot (with_waiting w l) w.flight)
held-waiting w l = some-after w.flight l.fixed _ (some-inserted (λ e. first_slot l.period e) (slots l.fixed) w l.waiting)

-- a flight that isn't held isn't fixed
pub not-fixed : (l : Lineup) (f : ℕ) → held_slot l f ≡ None → fixed_slot l f ≡ None
not-fixed l f h = cases (fixed_slot l f) refl where
  cases : (o : Option ℕ) → fixed_slot l f ≡ o → o ≡ None
  cases None e = refl
  cases (Some k) e = (let no = sym (slot_in-before f k l.fixed _ e) ∙ h in absurd cc)

pub fixed-is : (o : Option ℕ) (f : ℕ) (l m : Lineup) → IsSome o → IfSome o (λ k. m ≡ fixed_at (record { flight = f; slot = k }) l) → m ≡ fixed_there o f l
fixed-is None f l m s h = absurd (false≢true s)
fixed-is (Some k) f l m s h = h

-- removing a flight that isn't held changes nothing
pub without-absent : (f : ℕ) (l : Lineup) → held_slot l f ≡ None → without_flight f l ≡ l
without-absent f l h =
    ap (λ ws. let m : Lineup = record { period = l.period; capacity = l.capacity; waiting = ws; fixed = without_fixed f l.fixed } in m) (without-none f l.waiting (absent-waiting l f h))
    ∙ ap (λ fs. let m : Lineup = record { period = l.period; capacity = l.capacity; waiting = l.waiting; fixed = fs } in m) (without_fixed-none f l.fixed (absent-fixed l f h))

pub placed-fixed : (m : RegulationView) (e n : ℕ) (d : Bool) (waits fixes : Lineup) → d ≡ true → waits ≡ with_waiting (record { entry = e; flight = n }) m.lineup → fixes ≡ fixed_there (held_slot waits n) n waits → with_lineup fixes m ≡ with_lineup (placed (Some e) d n m.lineup) m
placed-fixed m e n d waits fixes de w f =
    ap (λ v. with_lineup v m) (f ∙ (ap (λ v. fixed_there (held_slot v n) n v) w ∙ sym (ap (λ b. placed (Some e) b n m.lineup) de)))

pub is_none-from : (o : Option ℕ) (b : Bool) → b ≡ is_some o → b ≡ false → o ≡ None
is_none-from None b e f = refl
is_none-from (Some k) b e f = absurd (false≢true (sym f ∙ e))

there-period : (o : Option ℕ) (f : ℕ) (l : Lineup) → (fixed_there o f l).period ≡ l.period
there-period None f l = refl
there-period (Some k) f l = refl

there-capacity : (o : Option ℕ) (f : ℕ) (l : Lineup) → (fixed_there o f l).capacity ≡ l.capacity
there-capacity None f l = refl
there-capacity (Some k) f l = refl

-- the period and the greatest flight number stay
pub keeps-open : (o : Option ℕ) (f : ℕ) (l m n : Lineup) (w : Planned) → m ≡ with_waiting w l → n ≡ fixed_there o f m → IsRegular l.period × (l.capacity ≤ 20000) → IsRegular n.period × (n.capacity ≤ 20000)
keeps-open o f l m n w a b h =
    let p : l.period ≡ n.period = sym (ap (λ v. v.period) b ∙ (there-period o f m ∙ ap (λ v. v.period) a)) in
    let c : l.capacity ≡ n.capacity = sym (ap (λ v. v.capacity) b ∙ (there-capacity o f m ∙ ap (λ v. v.capacity) a)) in
    let C : ℕ → Type 0 = λ k. k ≤ 20000 in
    (subst IsRegular p h.0, subst C c h.1)

pub fixes-there : (f : ℕ) (l : Lineup) (o : Option ℕ) → fixed_slot l f ≡ None → held_slot l f ≡ o → fixed_waiting f l ≡ fixed_there o f l
fixes-there f l o a b = ap (λ v. cond (is_some v) l (fixed_there (held_slot l f) f l)) a ∙ ap (λ v. fixed_there v f l) b
