-- Tables of the greatest delays so far.
use Rattle.std.proofs.Common.{◌≡◌, ◌≤◌, ◌<◌, ◌+◌, ◌-◌, ◌++◌, ◌∷◌, ◌∙◌, [], ℕ, zero, suc, Bool, List, Option, None, Some, length, take, get_or, refl, ap, sym, arith, slice_get}
use Rattle.std.specs.Prelude.{slice_set, slice_index_or, flat_map, if◌then◌else◌}
use Rattle.std.specs.Option.{option_map, option_to_list}
use Rattle.std.proofs.Math.Seq.{take-suc}
use Rattle.std.proofs.lemmas.Bool.{eq-eqb, ne_eqb}
use Rattle.std.proofs.lemmas.List.{flat_map_more}
use Rattle.std.proofs.lemmas.Option.{get_or_from_slice_get}
use Rattle.flow_view.specs.declared.delay.FlightDelay.{FlightDelay}
use Rattle.flow_view.specs.declared.slot_row.SlotRow.{SlotRow}
use Rattle.flow_view.specs.Openings.{OpeningView}
use Rattle.flow_view.specs.Delays.{row_delay, worse_flight, worse_by, delay_of_flight, delays}

kept : {X : Type 0} (f : X → X) (o : Option X) → ((x : X) → f x ≡ x) → o ≡ option_map f o
kept f None same = refl
kept f (Some x) same = ap (λ y. Some y) (sym (same x))

-- one index is changed by what changes no other
set-one : {X : Type 0} (f : ℕ → X → X) (xs : List X) (i : ℕ) (d v : X) → i < length xs → v ≡ f i (slice_index_or xs i d)
    → ((n : ℕ) (x : X) → (n ≡ i → ⊥) → f n x ≡ x) → (n : ℕ) → slice_get (slice_set xs i v) n ≡ option_map (f n) (slice_get xs n)
set-one f [] i d v lt e other n = absurd (omega (arith, lt))
set-one f (x ∷ xs) zero d v lt e other zero = ap (λ y. Some y) e
set-one f (x ∷ xs) zero d v lt e other (suc n) = kept (f (suc n)) (slice_get xs n) (λ y. other (suc n) y (λ q. absurd (omega (arith, q))))
set-one f (x ∷ xs) (suc i) d v lt e other zero = ap (λ y. Some y) (sym (other zero x (λ q. absurd (omega (arith, q)))))
set-one f (x ∷ xs) (suc i) d v lt e other (suc n) =
    let less : i < length xs = omega (arith, lt) in
    set-one (λ m. f (suc m)) xs i d v less e (λ m y ne. other (suc m) y (λ q. ne (omega (arith, q)))) n

unchanged : {X : Type 0} (f : ℕ → X → X) (xs : List X) → ((n : ℕ) (x : X) → n < length xs → f n x ≡ x) → (n : ℕ) → slice_get xs n ≡ option_map (f n) (slice_get xs n)
unchanged f [] same n = refl
unchanged f (x ∷ xs) same zero = ap (λ y. Some y) (sym (same zero x (omega arith)))
unchanged f (x ∷ xs) same (suc n) = unchanged (λ m. f (suc m)) xs (λ m y lt. same (suc m) y (omega (arith, lt))) n

of-plan : (plan : ℕ) (o : OpeningView) (most : Option FlightDelay) (r : SlotRow) → r.plan ≡ plan → worse_by plan o most r ≡ worse_flight most (row_delay o r)
of-plan plan o most r e = ap (λ (b : Bool). if b then worse_flight most (row_delay o r) else most) (eq-eqb r.plan plan e)

of-another : (plan : ℕ) (o : OpeningView) (most : Option FlightDelay) (r : SlotRow) → (r.plan ≡ plan → ⊥) → worse_by plan o most r ≡ most
of-another plan o most r e = ap (λ (b : Bool). if b then worse_flight most (row_delay o r) else most) (ne_eqb r.plan plan e)

-- a row changes the delay of its flight
pub noted : (o : OpeningView) (r : SlotRow) (table : List (Option FlightDelay)) (d v : Option FlightDelay) → (r.plan ≡ 0 → ⊥) → r.plan - 1 < length table
    → v ≡ worse_flight (slice_index_or table (r.plan - 1) d) (row_delay o r)
    → (n : ℕ) → slice_get (slice_set table (r.plan - 1) v) n ≡ option_map (λ most. worse_by (n + 1) o most r) (slice_get table n)
noted o r table d v some lt e n =
    let own : r.plan ≡ r.plan - 1 + 1 = omega (arith, some) in
    set-one (λ m most. worse_by (m + 1) o most r) table (r.plan - 1) d v lt
    (e ∙ sym (of-plan (r.plan - 1 + 1) o (slice_index_or table (r.plan - 1) d) r own))
    (λ m most ne. of-another (m + 1) o most r (λ q. ne (omega (arith, q)))) n

-- and none of a plan that has no index
pub beyond : (o : OpeningView) (r : SlotRow) (table : List (Option FlightDelay)) → (r.plan ≡ 0 → ⊥) → length table ≤ r.plan - 1
    → (n : ℕ) → slice_get table n ≡ option_map (λ most. worse_by (n + 1) o most r) (slice_get table n)
beyond o r table some le n =
    unchanged (λ m most. worse_by (m + 1) o most r) table (λ m most lt. of-another (m + 1) o most r (λ q. absurd (omega (arith, q, le, lt)))) n

-- the delays that are in the table
pub all-delays : (k : ℕ) (os : List OpeningView) (table : List (Option FlightDelay)) → k ≤ length table
    → ((n : ℕ) → n < k → slice_get table n ≡ Some (delay_of_flight os (n + 1)))
    → flat_map (λ d. option_to_list d) (take k table) ≡ delays k os
all-delays zero os table le each = refl
all-delays (suc k) os table le each =
    let less : k < length table = omega (arith, le) in
    let here : get_or table k None ≡ delay_of_flight os (k + 1) = get_or_from_slice_get table k (delay_of_flight os (k + 1)) None (each k (omega arith)) in
    let before : flat_map (λ d. option_to_list d) (take k table) ≡ delays k os = all-delays k os table (omega (arith, le)) (λ n lt. each n (omega (arith, lt))) in
    ap (λ (ds : List (Option FlightDelay)). flat_map (λ d. option_to_list d) ds) (take-suc table k None less)
    ∙ (sym (flat_map_more (λ d. option_to_list d) [] (take k table) (get_or table k None))
    ∙ (ap (λ (ds : List FlightDelay). ds ++ option_to_list (get_or table k None)) before
    ∙ ap (λ (d : Option FlightDelay). delays k os ++ option_to_list d) here))
