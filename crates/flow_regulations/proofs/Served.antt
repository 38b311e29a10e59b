-- The fresh assignment, of which one flight or none is picked out.
use Rattle.std.proofs.Common.{◌≡◌, ℕ, zero, suc, ◌+◌, ◌≤◌, ◌++◌, Bool, true, false, cond, List, [], ◌∷◌, Some, refl, ap, ◌∙◌, arith}
use Rattle.std.specs.List.{AllByRecursion, filter}
use Rattle.std.proofs.lemmas.Bool.{eq-eqb, ne_eqb}
use Rattle.flow_slots.specs.declared.cell.Planned.{Planned}
use Rattle.flow_slots.specs.Order.{stands_before, insert}
use Rattle.flow_slots.specs.Assignment.{Placed, is_in, above, first_free_within, first_free, greedy}
use Rattle.flow_slots.specs.Lineup.{NoneIs, NoneFixed, slot_in}

pub first_free_within-from : (n k : ℕ) (taken : List ℕ) → k ≤ first_free_within n taken k
first_free_within-from zero k taken = omega arith
first_free_within-from (suc n) k taken = cases (first_free_within-from n (k + 1) taken) (is_in k taken) where
  cases : k + 1 ≤ first_free_within n taken (k + 1) → (b : Bool) → k ≤ cond b (first_free_within n taken (k + 1)) k
  cases again true = omega arith
  cases again false = omega arith

-- none of them is picked out
pub greedy-none : (P : ℕ → Bool) (first : ℕ → ℕ) (taken : List ℕ) (ws : List Planned) → AllByRecursion (λ w. P w.flight ≡ false) ws → filter (λ a. P a.flight) (greedy first taken ws) ≡ []
greedy-none P first taken [] h = refl
greedy-none P first taken (w ∷ ws) h =
    let k = first_free taken (first w.entry) in
    let rest = filter (λ a. P a.flight) (greedy first (k ∷ taken) ws) in
    ap (λ b. cond b (record { flight = w.flight; slot = k } ∷ rest) rest) h.0 ∙ greedy-none P first (k ∷ taken) ws h.1

-- the one that is picked out, with its slot
pub record IsFound (P : ℕ → Bool) (first : ℕ → ℕ) (taken : List ℕ) (x : Planned) (ws : List Planned) (slot : ℕ) : Type 0 where
  pub picked : filter (λ a. P a.flight) (greedy first taken ws) ≡ record { flight = x.flight; slot = slot } ∷ []
  pub held : slot_in x.flight (greedy first taken ws) ≡ Some slot
  pub not_before : first x.entry ≤ slot

pub slot_in-here : (f : ℕ) (a : Placed) (others : List Placed) → a.flight ≡ f → slot_in f (a ∷ others) ≡ Some a.slot
slot_in-here f a others e = ap (λ b. cond b (Some a.slot) (slot_in f others)) (eq-eqb a.flight f e)

pub slot_in-other : (f : ℕ) (a : Placed) (others : List Placed) → (a.flight ≡ f → ⊥) → slot_in f (a ∷ others) ≡ slot_in f others
slot_in-other f a others ne = ap (λ b. cond b (Some a.slot) (slot_in f others)) (ne_eqb a.flight f ne)

found-first : (P : ℕ → Bool) (first : ℕ → ℕ) (taken : List ℕ) (x : Planned) (ws : List Planned) → P x.flight ≡ true → AllByRecursion (λ w. P w.flight ≡ false) ws → IsFound P first taken x (x ∷ ws) (first_free taken (first x.entry))
found-first P first taken x ws does none_due =
    let k = first_free taken (first x.entry) in
    let a : Placed = record { flight = x.flight; slot = k } in
    let rest = filter (λ a. P a.flight) (greedy first (k ∷ taken) ws) in
    record {
      picked = ap (λ b. cond b (a ∷ rest) rest) does ∙ ap (λ v. a ∷ v) (greedy-none P first (k ∷ taken) ws none_due);
      held = slot_in-here x.flight a (greedy first (k ∷ taken) ws) refl;
      not_before = first_free_within-from (above taken) (first x.entry) taken;
    }

pub found : (P : ℕ → Bool) (first : ℕ → ℕ) (taken : List ℕ) (x : Planned) (ws : List Planned) → P x.flight ≡ true → NoneIs x.flight ws → AllByRecursion (λ w. P w.flight ≡ false) ws → (slot : ℕ) × IsFound P first taken x (insert x ws) slot
found P first taken x [] does none none_due = (first_free taken (first x.entry), found-first P first taken x [] does tt)
found P first taken x (w ∷ ws) does none none_due =
    cases (found P first (first_free taken (first w.entry) ∷ taken) x ws does none.1 none_due.1) (stands_before w x) where
      cases : (slot : ℕ) × IsFound P first (first_free taken (first w.entry) ∷ taken) x (insert x ws) slot → (b : Bool) → (slot : ℕ) × IsFound P first taken x (cond b (w ∷ insert x ws) (x ∷ w ∷ ws)) slot
      cases again false = (first_free taken (first x.entry), found-first P first taken x (w ∷ ws) does none_due)
      cases again true =
          let k = first_free taken (first w.entry) in
          let a : Placed = record { flight = w.flight; slot = k } in
          let others = greedy first (k ∷ taken) (insert x ws) in
          let rest = filter (λ a. P a.flight) others in (
            again.0,
            record {
              picked = ap (λ b. cond b (a ∷ rest) rest) none_due.0 ∙ again.1.picked;
              held = slot_in-other x.flight a others none.0 ∙ again.1.held;
              not_before = again.1.not_before;
            },
          )

pub slot_in-after : (f : ℕ) (fs others : List Placed) → NoneFixed f fs → slot_in f (fs ++ others) ≡ slot_in f others
slot_in-after f [] others h = refl
slot_in-after f (a ∷ fs) others h = slot_in-other f a (fs ++ others) h.0 ∙ slot_in-after f fs others h.1
