-- The flights with frozen slots in the regulation of a name.
use Rattle.std.proofs.Common.{◌≡◌, ℕ, ◌-◌, ◌<◌, ◌≤◌, Bool, true, false, cond, eqb, List, [], ◌∷◌, length, Option, Some, None, refl, sym, ap, subst, ◌∙◌, arith}
use Rattle.std.specs.Prelude.{IsSome}
use Rattle.std.specs.List.{AllByRecursion, Contains, list_any}
use Rattle.std.specs.Option.{option_map_or}
use Rattle.std.specs.Str.{bytes_eq}
use Rattle.std.proofs.lemmas.Bool.{or_parts, eqb-true, true≢false, false≢true}
use Rattle.std.proofs.lemmas.Slice.Eq.{bytes_eq-Decides}
use Rattle.flow_plans.specs.Plans.{PlanView, plan_at}
use Rattle.flow_slots.specs.Assignment.{Placed, is_in}
use Rattle.flow_slots.specs.Lineup.{Lineup, slot_in, fixed_slot}
use Rattle.flow_regulations.specs.Settling.{keeps, keeps_pair, pairs_of}
use Rattle.flow_regulations.specs.Listing.{RegulationView, regulation_of, IsSettled, is_named, lineup_named, names_in, AreApart}
use Rattle.flow_regulations.proofs.FixedOnes.{slot_in-none}
use Rattle.flow_regulations.proofs.Fixes.{pairs-none}
use Rattle.flow_regulations.proofs.Names.{none-names}
use Rattle.flow_regulations.proofs.Queues.{at-within, contains-in}

-- if the flights with frozen slots are all among these, another flight has no pair
pub no-pairs : (f : ℕ) (l : Lineup) (v : List ℕ) → ((n : ℕ) → IsSome (fixed_slot l n) → Contains v n) → is_in f v ≡ false → pairs_of f l.fixed ≡ []
no-pairs f l v all out = cases (fixed_slot l f) refl where
  cases : (o : Option ℕ) → fixed_slot l f ≡ o → pairs_of f l.fixed ≡ []
  cases None e = pairs-none f l.fixed (slot_in-none f l.fixed e)
  cases (Some k) e = (let S : Option ℕ → Type 0 = λ o. IsSome o in absurd (true≢false (sym (contains-in v f (all f (subst S (sym e) refl))) ∙ out)))

none-named : (f : ℕ) (id : List ℕ) (ls : List RegulationView) → list_any (is_named id) ls ≡ false → AllByRecursion (λ l. is_named id l ≡ true → pairs_of f l.lineup.fixed ≡ []) ls
none-named f id [] e = tt
none-named f id (l ∷ ls) e =
    let parts = or_parts (is_named id l) (list_any (is_named id) ls) e in
    (λ q. absurd (true≢false (sym q ∙ parts.0)), none-named f id ls parts.1)

-- what holds of the regulation of a name
pub named-pairs : (f : ℕ) (id : List ℕ) (lu : Lineup) (ls : List RegulationView) → AreApart (names_in ls) → lineup_named id ls ≡ Some lu → pairs_of f lu.fixed ≡ [] → AllByRecursion (λ l. is_named id l ≡ true → pairs_of f l.lineup.fixed ≡ []) ls
named-pairs f id lu [] a e h = tt
named-pairs f id lu (l ∷ ls) a e h = cases (named-pairs f id lu ls a.1) (is_named id l) refl e where
  cases : (lineup_named id ls ≡ Some lu → pairs_of f lu.fixed ≡ [] → AllByRecursion (λ l. is_named id l ≡ true → pairs_of f l.lineup.fixed ≡ []) ls) → (b : Bool) → is_named id l ≡ b → cond b (Some l.lineup) (lineup_named id ls) ≡ Some lu
      → AllByRecursion (λ l. is_named id l ≡ true → pairs_of f l.lineup.fixed ≡ []) (l ∷ ls)
  cases again true q k =
      let same : l.lineup ≡ lu = cc in
      let others : list_any (is_named id) ls ≡ false = none-names id ls ∙ (ap (λ x. list_any (λ y. bytes_eq y x) (names_in ls)) (sym ((bytes_eq-Decides l.id id).0 q)) ∙ a.0) in
      (λ _. ap (λ v. pairs_of f v.fixed) same ∙ h, none-named f id ls others)
  cases again false q k = (λ t. absurd (true≢false (sym t ∙ q)), again k h)

pub unnamed-pairs : (f : ℕ) (id : List ℕ) (ls : List RegulationView) → lineup_named id ls ≡ None → AllByRecursion (λ l. is_named id l ≡ true → pairs_of f l.lineup.fixed ≡ []) ls
unnamed-pairs f id [] e = tt
unnamed-pairs f id (l ∷ ls) e = cases (unnamed-pairs f id ls) (is_named id l) refl e where
  cases : (lineup_named id ls ≡ None → AllByRecursion (λ l. is_named id l ≡ true → pairs_of f l.lineup.fixed ≡ []) ls) → (b : Bool) → is_named id l ≡ b → cond b (Some l.lineup) (lineup_named id ls) ≡ None
      → AllByRecursion (λ l. is_named id l ≡ true → pairs_of f l.lineup.fixed ≡ []) (l ∷ ls)
  cases again true q k = absurd cc
  cases again false q k = (λ t. absurd (true≢false (sym t ∙ q)), again k)

-- a flight that may keep its slot has a plan
has-plan : (taxi now n : ℕ) (plans : List PlanView) (l : RegulationView) (xs : List Placed) → AllByRecursion (λ a. (0 < a.flight) × (keeps_pair taxi now plans (regulation_of l) a ≡ true)) xs → IsSome (slot_in n xs) → (0 < n) × (n ≤ length plans)
has-plan taxi now n plans l [] a h = absurd (false≢true h)
has-plan taxi now n plans l (x ∷ xs) a h = cases (has-plan taxi now n plans l xs a.1) (eqb x.flight n) refl h where
  within : (o : Option PlanView) → plan_at plans x.flight ≡ o → option_map_or (keeps taxi now (regulation_of l) x.slot) o false ≡ true → x.flight - 1 < length plans
  within None at e = absurd (false≢true e)
  within (Some p) at e = at-within plans (x.flight - 1) p at

  cases : (IsSome (slot_in n xs) → (0 < n) × (n ≤ length plans)) → (b : Bool) → eqb x.flight n ≡ b → IsSome (cond b (Some x.slot) (slot_in n xs)) → (0 < n) × (n ≤ length plans)
  cases again true q k =
      let same = eqb-true x.flight n q in
      let inside = within (plan_at plans x.flight) refl a.0.1 in
      (omega (arith, same, a.0.0), omega (arith, same, inside, a.0.0))
  cases again false q k = again k

pub fixed-numbers : (taxi now n : ℕ) (plans : List PlanView) (id : List ℕ) (lu : Lineup) (ls : List RegulationView) → IsSettled taxi now plans ls → lineup_named id ls ≡ Some lu → IsSome (fixed_slot lu n) → (0 < n) × (n ≤ length plans)
fixed-numbers taxi now n plans id lu [] s e h = absurd cc
fixed-numbers taxi now n plans id lu (l ∷ ls) s e h = cases (fixed-numbers taxi now n plans id lu ls s.1) (is_named id l) e where
  cases : (lineup_named id ls ≡ Some lu → IsSome (fixed_slot lu n) → (0 < n) × (n ≤ length plans)) → (b : Bool) → cond b (Some l.lineup) (lineup_named id ls) ≡ Some lu → (0 < n) × (n ≤ length plans)
  cases again true k =
      let same : l.lineup ≡ lu = cc in
      let S : Lineup → Type 0 = λ v. IsSome (fixed_slot v n) in
      has-plan taxi now n plans l l.lineup.fixed s.0.fixed (subst S (sym same) h)
  cases again false k = again k h
