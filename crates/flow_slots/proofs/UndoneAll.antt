-- The undoing of a list of changes may be done after it, and leads back.
use Rattle.std.proofs.Common.{◌≡◌, ℕ, ◌<◌, ◌⊎◌, inl, inr, ◌||◌, true, false, cond, eqb, ltb, List, [], ◌∷◌, ◌++◌, Option, None, Some, IfSome, refl, sym, ap, subst, ◌∙◌}
use Rattle.std.specs.Option.{is_some, IsSome}
use Rattle.std.proofs.lemmas.Bool.{eq-eqb, false≢true, or_right}
use Rattle.flow_slots.specs.declared.cell.Planned.{Planned}
use Rattle.flow_slots.specs.declared.change_list.Change.{Change}
use Rattle.flow_slots.specs.declared.change_list.Change.TheVariants.{Insert, Remove, Fix, Release, PutFixed}
use Rattle.flow_slots.specs.Period.{IsWithin, first_slot}
use Rattle.flow_slots.specs.Order.{stands_before, insert}
use Rattle.flow_slots.specs.Assignment.{Placed, slots}
use Rattle.flow_slots.specs.Lineup.{Lineup, len_of, NoneFixed, slot_in, flight_in, entry_in, held_slot, held_flight, fixed_slot, waiting_entry, with_waiting, with_fixed, without_flight, without_fixed, insert_fixed, assigned}
use Rattle.flow_slots.specs.ChangeList.{May, MayAll, changed, changed_by, fixed_there}
use Rattle.flow_slots.specs.LineupLaws.{IsNumber, IsSound}
use Rattle.flow_slots.specs.Undoings.{comes_back, waits_again, undoing, undoing_all}
use Rattle.flow_slots.proofs.Absent.{insert-undone, put_fixed-undone}
use Rattle.flow_slots.proofs.Held.{held_slot-without, held_slot-fixed, slot_in-other}
use Rattle.flow_slots.proofs.Served.{In, all-in, in-all, in-either, pair, planned, slot_in-in, flight_in-in, entry_in-in, in-flight_in, waiting_not_fixed, greedy-serves, NoneTwice-fixed}
use Rattle.flow_slots.proofs.Sound.{served, is_some-held, fixed_held}
use Rattle.flow_slots.proofs.StaysSound.{all-without_fixed, sound-remove, sound-changed}
use Rattle.flow_slots.proofs.TakenBack.{without_fixed-gone, removed-inserted, removed-put_fixed, fixed-released}

-- what undoes a change: it may be done, and leads back
record Undoes (cs : List Change) (now before : Lineup) : Type 0 where
  may : MayAll cs now
  back : changed_by cs now ≡ before

Undoes-append : (cs ds : List Change) (now between before : Lineup) → Undoes cs now between → Undoes ds between before → Undoes (cs ++ ds) now before
Undoes-append cs ds now between before u v = record { may = both cs now u.may (subst (MayAll ds) (sym u.back) v.may); back = after cs now ∙ (ap (changed_by ds) u.back ∙ v.back) } where
  both : (xs : List Change) (l : Lineup) → MayAll xs l → MayAll ds (changed_by xs l) → MayAll (xs ++ ds) l
  both [] l m n = n
  both (x ∷ xs) l m n = (m.0, both xs (changed x l) m.1 n)

  after : (xs : List Change) (l : Lineup) → changed_by (xs ++ ds) l ≡ changed_by ds (changed_by xs l)
  after [] l = refl
  after (x ∷ xs) l = after xs (changed x l)

-- a flight that came in is held
entry_in-some : (f : ℕ) (ws : List Planned) (w : Planned) → In w ws → w.flight ≡ f → IsSome (entry_in f ws)
entry_in-some f [] w i q = absurd i
entry_in-some f (x ∷ xs) w (inl e) q =
    ap (λ b. is_some (cond b (Some x.entry) (entry_in f xs))) (eq-eqb x.flight f (ap (λ v. v.flight) e ∙ q))
entry_in-some f (x ∷ xs) w (inr i) q =
    elim (eqb x.flight f) as (λ b. is_some (cond b (Some x.entry) (entry_in f xs)) ≡ true) [ true ↦ refl | false ↦ entry_in-some f xs w i q ]

in-insert : (w : Planned) (ws : List Planned) → In w (insert w ws)
in-insert w [] = inl refl
in-insert w (v ∷ ws) =
    elim (stands_before v w) as (λ b. In w (cond b (v ∷ insert w ws) (w ∷ v ∷ ws))) [ true ↦ inr (in-insert w ws) | false ↦ inl refl ]

slot_in-some : (f : ℕ) (xs : List Placed) (a : Placed) → In a xs → a.flight ≡ f → IsSome (slot_in f xs)
slot_in-some f [] a i q = absurd i
slot_in-some f (x ∷ xs) a (inl e) q =
    ap (λ b. is_some (cond b (Some x.slot) (slot_in f xs))) (eq-eqb x.flight f (ap (λ v. v.flight) e ∙ q))
slot_in-some f (x ∷ xs) a (inr i) q =
    elim (eqb x.flight f) as (λ b. is_some (cond b (Some x.slot) (slot_in f xs)) ≡ true) [ true ↦ refl | false ↦ slot_in-some f xs a i q ]

in-insert_fixed : (a : Placed) (xs : List Placed) → In a (insert_fixed a xs)
in-insert_fixed a [] = inl refl
in-insert_fixed a (x ∷ xs) =
    elim (ltb x.slot a.slot) as (λ b. In a (cond b (x ∷ insert_fixed a xs) (a ∷ x ∷ xs))) [ true ↦ inr (in-insert_fixed a xs) | false ↦ inl refl ]

inserted-held : (w : Planned) (l : Lineup) → IsSome (held_slot (with_waiting w l) w.flight)
inserted-held w l =
    let some = entry_in-some w.flight (insert w l.waiting) w (in-insert w l.waiting) refl in
    is_some-held (with_waiting w l) w.flight ∙ or_right (is_some (fixed_slot (with_waiting w l) w.flight)) (is_some (entry_in w.flight (insert w l.waiting))) some

put-held : (a : Placed) (l : Lineup) → IsSome (held_slot (with_fixed a l) a.flight)
put-held a l =
    held_slot-fixed a.flight (with_fixed a l) (slot_in-some a.flight (insert_fixed a l.fixed) a (in-insert_fixed a l.fixed) refl)

-- a slot that its frozen flight leaves isn't frozen
none_fixed-found : (f : ℕ) (xs : List Placed) → NoneFixed f xs → slot_in f xs ≡ None
none_fixed-found f [] n = refl
none_fixed-found f (x ∷ xs) n = slot_in-other f x xs n.0 ∙ none_fixed-found f xs n.1

in-without_fixed : (f : ℕ) (xs : List Placed) (a : Placed) → In a (without_fixed f xs) → In a xs
in-without_fixed f xs a i =
    all-in (λ b. In b xs) (without_fixed f xs) a (all-without_fixed (λ b. In b xs) f xs (in-all (λ b. In b xs) xs (λ b j. j))) i

left-unkept : (l : Lineup) (f k : ℕ) → IsSound l → fixed_slot l f ≡ Some k → IfSome (held_flight (without_flight f l) k) (λ holder. fixed_slot (without_flight f l) holder ≡ None)
left-unkept l f k s e = cases (held_flight m k) refl where
  m : Lineup
  m = without_flight f l

  sound : IsSound m
  sound = sound-remove l f s

  same : (g : ℕ) → In (pair g k) m.fixed → ⊥
  same g i =
      let n = NoneTwice-fixed l.fixed s.lined.by_slot s.lined.fixed_apart in
      let here : flight_in k l.fixed ≡ Some f = in-flight_in (pair f k) l.fixed n (slot_in-in f k l.fixed e) in
      let there : flight_in k l.fixed ≡ Some g = in-flight_in (pair g k) l.fixed n (in-without_fixed f l.fixed (pair g k) i) in
      let is : g ≡ f = cc in
      all-in (λ b. b.flight ≡ f → ⊥) m.fixed (pair g k) (without_fixed-gone f l.fixed) i is

  waits : (g : ℕ) → In (pair g k) (served m) → fixed_slot m g ≡ None
  waits g i =
      let r = greedy-serves (λ t. first_slot l.period t) (slots m.fixed) m.waiting (pair g k) i in
      none_fixed-found g m.fixed (in-all (λ b. b.flight ≡ g → ⊥) m.fixed (λ b j q. waiting_not_fixed m.fixed m.waiting r.waits b sound.lined.waiting_apart r.one j (q ∙ sym r.flight)))

  either : (g : ℕ) → In (pair g k) m.fixed ⊎ In (pair g k) (served m) → fixed_slot m g ≡ None
  either g (inl i) = absurd (same g i)
  either g (inr i) = waits g i

  cases : (o : Option ℕ) → held_flight m k ≡ o → IfSome o (λ holder. fixed_slot m holder ≡ None)
  cases None h = tt
  cases (Some g) h = either g (in-either (pair g k) m.fixed (served m) (flight_in-in g k (assigned m) h))

-- a flight that was taken out comes back
waited-back : (l : Lineup) (f e : ℕ) → IsSound l → waiting_entry l f ≡ Some e → Undoes (Insert f e ∷ []) (without_flight f l) l
waited-back l f e s h =
    let one = entry_in-in f e l.waiting h in
    let number = all-in (λ w. IsNumber l w.flight) l.waiting (planned e f) s.waiting_numbers one in
    let within = all-in (λ w. IsWithin l.period w.entry) l.waiting (planned e f) s.entries one in
    record {
      may = ((record { absent = held_slot-without f l; first = number.0; last = number.1 }, within), tt);
      back = removed-inserted l (planned e f) s.lined h;
    }

kept-back : (l : Lineup) (f k : ℕ) → IsSound l → fixed_slot l f ≡ Some k → Undoes (PutFixed f k ∷ []) (without_flight f l) l
kept-back l f k s h =
    let one = slot_in-in f k l.fixed h in
    let number = all-in (λ a. IsNumber l a.flight) l.fixed (pair f k) s.fixed_numbers one in
    let slot = all-in (λ a. a.slot < len_of l) l.fixed (pair f k) s.fixed_slots one in
    record {
      may = ((record { absent = held_slot-without f l; first = number.0; last = number.1 }, slot, left-unkept l f k s h), tt);
      back = removed-put_fixed l (pair f k) s.lined (fixed_held l f k h) (ap is_some h);
    }

comes-back : (l : Lineup) (f : ℕ) (o q : Option ℕ) → IsSound l → IsSome (held_slot l f) → waiting_entry l f ≡ o → fixed_slot l f ≡ q → Undoes (comes_back f o q) (without_flight f l) l
comes-back l f (Some e) q s h a b = waited-back l f e s a
comes-back l f None (Some k) s h a b = kept-back l f k s b
comes-back l f None None s h a b =
    absurd (false≢true (sym (is_some-held l f ∙ (ap (λ o. is_some o || is_some (waiting_entry l f)) b ∙ ap is_some a)) ∙ h))

kept-again : (l : Lineup) (f : ℕ) (q : Option ℕ) → IsSound l → IsSome (fixed_slot l f) → fixed_slot l f ≡ q → Undoes (comes_back f None q) (without_flight f l) l
kept-again l f (Some k) s h b = kept-back l f k s b
kept-again l f None s h b = absurd (false≢true (sym (ap is_some b) ∙ h))

waits-again : (l : Lineup) (f : ℕ) (o q : Option ℕ) → IsSound l → IsSome (held_slot l f) → fixed_slot l f ≡ None → held_slot l f ≡ o → waiting_entry l f ≡ q → Undoes (waits_again f q) (fixed_there o f l) l
waits-again l f None q s h n a b = absurd (false≢true (sym (ap is_some a) ∙ h))
waits-again l f (Some k) None s h n a b =
    absurd (false≢true (sym (is_some-held l f ∙ (ap (λ o. is_some o || is_some (waiting_entry l f)) n ∙ ap is_some b)) ∙ h))
waits-again l f (Some k) (Some e) s h n a b =
    let one = entry_in-in f e l.waiting b in
    let within = all-in (λ w. IsWithin l.period w.entry) l.waiting (planned e f) s.entries one in
    record {
      may = ((slot_in-some f (insert_fixed (pair f k) l.fixed) (pair f k) (in-insert_fixed (pair f k) l.fixed) refl, within), tt);
      back = fixed-released l (planned e f) k s.lined b;
    }

came-out : (l : Lineup) (f e : ℕ) → held_slot l f ≡ None → Undoes (Remove f ∷ []) (with_waiting (planned e f) l) l
came-out l f e h = record { may = (inserted-held (planned e f) l, tt); back = insert-undone (planned e f) l h }

one-undone : (c : Change) (l : Lineup) → IsSound l → May c l → Undoes (undoing c l) (changed c l) l
one-undone (Insert f e) l s m = came-out l f e m.0.absent
one-undone (Remove f) l s m = comes-back l f (waiting_entry l f) (fixed_slot l f) s m refl refl
one-undone (Fix f) l s m = waits-again l f (held_slot l f) (waiting_entry l f) s m.0 m.1 refl refl
one-undone (Release f e) l s m =
    Undoes-append (Remove f ∷ []) (comes_back f None (fixed_slot l f)) (with_waiting (planned e f) (without_flight f l)) (without_flight f l) l (came-out (without_flight f l) f e (held_slot-without f l)) (kept-again l f (fixed_slot l f) s m.0 refl)
one-undone (PutFixed f k) l s m =
    record { may = (put-held (pair f k) l, tt); back = put_fixed-undone (pair f k) l m.0.absent }

all-undone : (cs : List Change) (l : Lineup) → IsSound l → MayAll cs l → Undoes (undoing_all cs l) (changed_by cs l) l
all-undone [] l s m = record { may = tt; back = refl }
all-undone (c ∷ cs) l s m =
    Undoes-append (undoing_all cs (changed c l)) (undoing c l) (changed_by cs (changed c l)) (changed c l) l (all-undone cs (changed c l) (sound-changed c l s m.0) m.1) (one-undone c l s m.0)

pub undoing-may : (cs : List Change) (l : Lineup) → IsSound l → MayAll cs l → MayAll (undoing_all cs l) (changed_by cs l)
undoing-may cs l s m = (all-undone cs l s m).may

pub undoing-back : (cs : List Change) (l : Lineup) → IsSound l → MayAll cs l → changed_by (undoing_all cs l) (changed_by cs l) ≡ l
undoing-back cs l s m = (all-undone cs l s m).back
