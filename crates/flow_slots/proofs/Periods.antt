-- The slots of a period, sub-period after sub-period: what the theory of the row asks of them.
use Rattle.std.proofs.Common.{◌≡◌, ℕ, ◌+◌, ◌-◌, ◌*◌, ◌/◌, ◌<◌, ◌≤◌, ◌⊎◌, inl, inr, Bool, true, false, cond, ltb, List, [], ◌∷◌, drop, sym, ap, subst, ◌∙◌, arith}
use Rattle.std.proofs.Math.Nat.{le-div_iff_mul-le, div-lt_iff_lt-mul, mul-le-mul_left, mul-le-mul_right}
use Rattle.std.proofs.lemmas.Bool.{lt-ltb, le-ltb, cases_lt}
use Rattle.fpl_text.specs.declared.part.Part.{Part}
use Rattle.flow_slots.specs.Period.{Period, AreSubperiods, IsRegular, slots_in, time_from, slot_from, slot_time, first_slot, slots_before_end, IsFirstSlot}
use Rattle.flow_slots.proofs.Chain.{IsMonotone}

slots_in-more : (q a b : ℕ) → a ≤ b → slots_in q a ≤ slots_in q b
slots_in-more q a b h =
    let m : a * q ≤ b * q = mul-le-mul_right q h in omega arith

-- within one sub-period
within-late : (s q x k : ℕ) → 0 < q → slots_in q x ≤ k → x ≤ 60 * k / q
within-late s q x k r h = (le-div_iff_mul-le r).1 (omega arith)

within-early : (q x j : ℕ) → j < slots_in q x → 60 * j / q < x
within-early q x j h = cases (cases_lt 0 q) where
  cases : (0 < q) ⊎ (q ≤ 0) → 60 * j / q < x
  cases (inl r) = (div-lt_iff_lt-mul r).1 (omega arith)
  cases (inr z) =
      let none : x * q ≡ 0 = (let q0 : q ≡ 0 = omega arith in ap (λ v. x * v) q0 ∙ omega arith) in
      absurd (omega arith)

within-rate : (q x j : ℕ) → j < slots_in q x → 0 < q
within-rate q x j h = cases (cases_lt 0 q) where
  cases : (0 < q) ⊎ (q ≤ 0) → 0 < q
  cases (inl r) = r
  cases (inr z) =
      let none : x * q ≡ 0 = (let q0 : q ≡ 0 = omega arith in ap (λ v. x * v) q0 ∙ omega arith) in
      absurd (omega arith)

-- no slot is before the start
start-time_from : (e s q : ℕ) (ps : List Part) (k : ℕ) → AreSubperiods e s q ps → s ≤ time_from s q ps k
start-time_from e s q [] k a = omega arith
start-time_from e s q (p ∷ ps) k a =
    cases (start-time_from e p.from p.rate ps (k - slots_in q (p.from - s)) a.2) (ltb k (slots_in q (p.from - s))) where
      cases : p.from ≤ time_from p.from p.rate ps (k - slots_in q (p.from - s)) → (b : Bool) → s ≤ cond b (s + 60 * k / q) (time_from p.from p.rate ps (k - slots_in q (p.from - s)))
      cases again true = omega arith
      cases again false = omega (arith, a.0)

-- of a later time the first slot isn't earlier
pub slot_from-monotone : (s q : ℕ) (ps : List Part) → IsMonotone (slot_from s q ps)
slot_from-monotone s q [] a b h = slots_in-more q (a - s) (b - s) (omega arith)
slot_from-monotone s q (p ∷ ps) a b h =
    cases (slot_from-monotone p.from p.rate ps a b h) (cases_lt a p.from) (cases_lt b p.from) where
      n : ℕ
      n = slots_in q (p.from - s)

      cases : slot_from p.from p.rate ps a ≤ slot_from p.from p.rate ps b → (a < p.from) ⊎ (p.from ≤ a) → (b < p.from) ⊎ (p.from ≤ b) → slot_from s q (p ∷ ps) a ≤ slot_from s q (p ∷ ps) b
      cases again (inl u) (inl v) =
          rw (lt-ltb a p.from u, lt-ltb b p.from v) (slots_in-more q (a - s) (b - s) (omega arith))
      cases again (inl u) (inr v) =
          rw (lt-ltb a p.from u, le-ltb b p.from v) (omega (arith, slots_in-more q (a - s) (p.from - s) (omega arith)))
      cases again (inr u) (inl v) = absurd (omega arith)
      cases again (inr u) (inr v) = rw (le-ltb a p.from u, le-ltb b p.from v) (omega (arith, again))

abbrev IsFirst : ℕ → ℕ → List Part → ℕ → ℕ → Type 0
IsFirst s q ps m k = (m ≤ time_from s q ps k) × ((j : ℕ) → j < k → time_from s q ps j < m)

-- the first slot, by its meaning
pub slot_from-first : (e s q : ℕ) (ps : List Part) (m : ℕ) → AreSubperiods e s q ps → s ≤ m → IsFirst s q ps m (slot_from s q ps m)
slot_from-first e s q [] m a h = (
  omega (arith, within-late s q (m - s) (slots_in q (m - s)) a.2 (omega arith)),
  (λ j l. omega (arith, within-early q (m - s) j l)),
)
slot_from-first e s q (p ∷ ps) m a h =
    cases (λ u. slot_from-first e p.from p.rate ps m a.2 u) (cases_lt m p.from) where
      time_low : (k : ℕ) → k < slots_in q (p.from - s) → time_from s q (p ∷ ps) k ≡ s + 60 * k / q
      time_low k l = ap (λ b. cond b (s + 60 * k / q) (time_from p.from p.rate ps (k - slots_in q (p.from - s)))) (lt-ltb k (slots_in q (p.from - s)) l)

      time_high : (k : ℕ) → slots_in q (p.from - s) ≤ k → time_from s q (p ∷ ps) k ≡ time_from p.from p.rate ps (k - slots_in q (p.from - s))
      time_high k l = ap (λ b. cond b (s + 60 * k / q) (time_from p.from p.rate ps (k - slots_in q (p.from - s)))) (le-ltb k (slots_in q (p.from - s)) l)

      low : m < p.from → IsFirst s q (p ∷ ps) m (slots_in q (m - s))
      low u =
          let k = slots_in q (m - s) in
          let n = slots_in q (p.from - s) in
          let few : k ≤ n = slots_in-more q (m - s) (p.from - s) (omega arith) in
          (reach few (cases_lt k n), (λ j l. omega (arith, time_low j (omega arith), within-early q (m - s) j l))) where
            reach : slots_in q (m - s) ≤ slots_in q (p.from - s) → (slots_in q (m - s) < slots_in q (p.from - s)) ⊎ (slots_in q (p.from - s) ≤ slots_in q (m - s)) → m ≤ time_from s q (p ∷ ps) (slots_in q (m - s))
            reach few (inl l) =
                omega (arith, time_low (slots_in q (m - s)) l, within-late s q (m - s) (slots_in q (m - s)) (within-rate q (p.from - s) (slots_in q (m - s)) l) (omega arith))
            reach few (inr l) =
                omega (arith, time_high (slots_in q (m - s)) l, start-time_from e p.from p.rate ps (slots_in q (m - s) - slots_in q (p.from - s)) a.2)

      high : p.from ≤ m → IsFirst p.from p.rate ps m (slot_from p.from p.rate ps m) → IsFirst s q (p ∷ ps) m (slots_in q (p.from - s) + slot_from p.from p.rate ps m)
      high u f =
          let n = slots_in q (p.from - s) in
          let k = slot_from p.from p.rate ps m in
          let back : n + k - n ≡ k = omega arith in
          let there = ap (time_from p.from p.rate ps) back in
          (omega (arith, time_high (n + k) (omega arith), there, f.0), (λ j l. earlier j l (cases_lt j n))) where
            earlier : (j : ℕ) → j < slots_in q (p.from - s) + slot_from p.from p.rate ps m → (j < slots_in q (p.from - s)) ⊎ (slots_in q (p.from - s) ≤ j) → time_from s q (p ∷ ps) j < m
            earlier j l (inl v) = omega (arith, time_low j v, within-early q (p.from - s) j v, a.0)
            earlier j l (inr v) = omega (arith, time_high j v, f.1 (j - slots_in q (p.from - s)) (omega arith))

      cases : (p.from ≤ m → IsFirst p.from p.rate ps m (slot_from p.from p.rate ps m)) → (m < p.from) ⊎ (p.from ≤ m) → IsFirst s q (p ∷ ps) m (slot_from s q (p ∷ ps) m)
      cases again (inl u) = subst (IsFirst s q (p ∷ ps) m) (sym (ap (λ b. cond b (slots_in q (m - s)) (slots_in q (p.from - s) + slot_from p.from p.rate ps m)) (lt-ltb m p.from u))) (low u)
      cases again (inr u) = subst (IsFirst s q (p ∷ ps) m) (sym (ap (λ b. cond b (slots_in q (m - s)) (slots_in q (p.from - s) + slot_from p.from p.rate ps m)) (le-ltb m p.from u))) (high u (again u))

within-later : (q j k : ℕ) → 0 < q → j ≤ k → 60 * j / q ≤ 60 * k / q
within-later q j k r h = (le-div_iff_mul-le r).1 (omega (arith, (le-div_iff_mul-le {x = 60 * j / q} {y = 60 * j} r).0 (omega arith)))

-- later slots are not earlier
pub time_from-later : (e s q : ℕ) (ps : List Part) (j k : ℕ) → AreSubperiods e s q ps → j ≤ k → time_from s q ps j ≤ time_from s q ps k
time_from-later e s q [] j k a h = omega (arith, within-later q j k a.2 h)
time_from-later e s q (p ∷ ps) j k a h =
    cases (λ u. time_from-later e p.from p.rate ps (j - slots_in q (p.from - s)) (k - slots_in q (p.from - s)) a.2 (omega arith)) (cases_lt j (slots_in q (p.from - s))) (cases_lt k (slots_in q (p.from - s))) where
      time_low : (i : ℕ) → i < slots_in q (p.from - s) → time_from s q (p ∷ ps) i ≡ s + 60 * i / q
      time_low i l = ap (λ b. cond b (s + 60 * i / q) (time_from p.from p.rate ps (i - slots_in q (p.from - s)))) (lt-ltb i (slots_in q (p.from - s)) l)

      time_high : (i : ℕ) → slots_in q (p.from - s) ≤ i → time_from s q (p ∷ ps) i ≡ time_from p.from p.rate ps (i - slots_in q (p.from - s))
      time_high i l = ap (λ b. cond b (s + 60 * i / q) (time_from p.from p.rate ps (i - slots_in q (p.from - s)))) (le-ltb i (slots_in q (p.from - s)) l)

      cases : (ℕ → time_from p.from p.rate ps (j - slots_in q (p.from - s)) ≤ time_from p.from p.rate ps (k - slots_in q (p.from - s))) → (j < slots_in q (p.from - s)) ⊎ (slots_in q (p.from - s) ≤ j) → (k < slots_in q (p.from - s)) ⊎ (slots_in q (p.from - s) ≤ k) → time_from s q (p ∷ ps) j ≤ time_from s q (p ∷ ps) k
      cases again (inl u) (inl v) =
          omega (arith, time_low j u, time_low k v, within-later q j k (within-rate q (p.from - s) j u) h)
      cases again (inl u) (inr v) =
          omega (arith, time_low j u, time_high k v, within-early q (p.from - s) j u, start-time_from e p.from p.rate ps (k - slots_in q (p.from - s)) a.2, a.0)
      cases again (inr u) (inl v) = absurd (omega arith)
      cases again (inr u) (inr v) = omega (arith, time_high j u, time_high k v, again 0)

-- at most four slots a minute
slots_in-at_most : (q x : ℕ) → q ≤ 240 → slots_in q x ≤ 4 * x
slots_in-at_most q x h =
    let most : x * q ≤ x * 240 = mul-le-mul_left x h in omega arith

pub slot_from-at_most : (e s q : ℕ) (ps : List Part) (m : ℕ) → AreSubperiods e s q ps → s ≤ m → slot_from s q ps m ≤ 4 * (m - s)
slot_from-at_most e s q [] m a h = slots_in-at_most q (m - s) a.1
slot_from-at_most e s q (p ∷ ps) m a h =
    cases (λ u. slot_from-at_most e p.from p.rate ps m a.2 u) (cases_lt m p.from) where
      cases : (p.from ≤ m → slot_from p.from p.rate ps m ≤ 4 * (m - p.from)) → (m < p.from) ⊎ (p.from ≤ m) → slot_from s q (p ∷ ps) m ≤ 4 * (m - s)
      cases again (inl u) = rw (lt-ltb m p.from u) (slots_in-at_most q (m - s) a.1)
      cases again (inr u) = rw (le-ltb m p.from u) (omega (arith, slots_in-at_most q (p.from - s) a.1, again u, a.0))

-- a period is not empty
pub start-end : (e s q : ℕ) (ps : List Part) → AreSubperiods e s q ps → s ≤ e
start-end e s q [] a = omega (arith, a.0)
start-end e s q (p ∷ ps) a = omega (arith, a.0, start-end e p.from p.rate ps a.2)

pub part-end : (e s q i : ℕ) (p : Part) (ps rest : List Part) → drop i ps ≡ p ∷ rest → AreSubperiods e s q (drop i ps) → p.from ≤ e
part-end e s q i p ps rest is a =
    let b : AreSubperiods e s q (p ∷ rest) = rw is at a in start-end e p.from p.rate rest b.2

-- of a whole period
pub first_slot-monotone : (p : Period) → IsMonotone (λ e. first_slot p e)
first_slot-monotone p = slot_from-monotone p.start p.rate p.parts

pub first_slot-first : (p : Period) (m : ℕ) → IsRegular p → p.start ≤ m → IsFirstSlot p m (first_slot p m)
first_slot-first p m r h = slot_from-first p.end p.start p.rate p.parts m r.subperiods h

pub slot_time-later : (p : Period) (j k : ℕ) → IsRegular p → j ≤ k → slot_time p j ≤ slot_time p k
slot_time-later p j k r h = time_from-later p.end p.start p.rate p.parts j k r.subperiods h

pub start-before_end : (p : Period) → IsRegular p → p.start ≤ p.end
start-before_end p r = start-end p.end p.start p.rate p.parts r.subperiods

pub slots_before_end-at_most : (p : Period) → IsRegular p → slots_before_end p ≤ 5760
slots_before_end-at_most p r =
    omega (arith, slot_from-at_most p.end p.start p.rate p.parts p.end r.subperiods (start-end p.end p.start p.rate p.parts r.subperiods), r.at_most_a_day)
