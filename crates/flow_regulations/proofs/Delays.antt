-- The delays of a flight, regulation by regulation.
use Rattle.std.proofs.Common.{◌≡◌, ℕ, ◌+◌, ◌-◌, ◌≤◌, cond, Bool, eqb, true, false, List, [], ◌∷◌, ◌++◌, Option, None, Some, IfSome, refl, sym, ap, ◌∙◌, arith, ltb, nat_le, subst}
use Rattle.std.specs.Str.{bytes_eq}
use Rattle.std.proofs.lemmas.Bool.{false≢true}
use Rattle.std.proofs.lemmas.Bool.Decides.{nat_tests}
use Rattle.std.specs.Option.{IsSome, option_map, option_and_then}
use Rattle.fpl_text.specs.Moments.{moment_within}
use Rattle.fpl_message.specs.declared.order.Spot.{Spot}
use Rattle.fpl_message.specs.declared.order.Spot.TheVariants.{Dep, Arr, Via}
use Rattle.flow_plans.specs.Plans.{PlanView}
use Rattle.flow_plans.specs.Entries.{take_off, entry_at}
use Rattle.flow_slots.specs.Period.{slot_time}
use Rattle.flow_slots.specs.Assignment.{Placed}
use Rattle.flow_slots.specs.Lineup.{Lineup, slot_in, held_slot, fixed_slot}
use Rattle.flow_regulations.specs.declared.telling.Delay.{Delay}
use Rattle.flow_regulations.specs.Regulations.{Regulation}
use Rattle.flow_regulations.specs.Listing.{RegulationView, regulation_of}
use Rattle.flow_regulations.specs.Advice.{delay_among, delay_in, caused_by, worse}

-- the slot of a fixed flight is that of the whole assignment
pub slot_in-first : (f : ℕ) (xs ys : List Placed) → IsSome (slot_in f xs) → slot_in f (xs ++ ys) ≡ slot_in f xs
slot_in-first f [] ys = λ s. absurd (false≢true s)
slot_in-first f (x ∷ xs) ys =
    elim (eqb x.flight f) as (λ b. IsSome (cond b (Some x.slot) (slot_in f xs)) → cond b (Some x.slot) (slot_in f (xs ++ ys)) ≡ cond b (Some x.slot) (slot_in f xs))
    [ true ↦ (λ s. refl) | false ↦ (λ s. slot_in-first f xs ys s) ]

pub fixed-held : (l : Lineup) (f : ℕ) (o : Option ℕ) → IsSome (fixed_slot l f) → o ≡ held_slot l f → o ≡ fixed_slot l f
fixed-held l f o s e = e ∙ slot_in-first f l.fixed _ s

-- a flight's delay is that of its fixed slot
pub delay_among-slot : (taxi f : ℕ) (p : PlanView) (r : Regulation) (fixed : List Placed)
    → delay_among taxi f p r fixed ≡ option_and_then (λ k. option_map (λ e. slot_time r.period k - e) (entry_at taxi r.spot p)) (slot_in f fixed)
delay_among-slot taxi f p r [] = refl
delay_among-slot taxi f p r (a ∷ others) =
    elim (eqb a.flight f)
    as (λ b. cond b (option_map (λ e. slot_time r.period a.slot - e) (entry_at taxi r.spot p)) (delay_among taxi f p r others)
    ≡ option_and_then (λ k. option_map (λ e. slot_time r.period k - e) (entry_at taxi r.spot p)) (cond b (Some a.slot) (slot_in f others)))
    [ true ↦ refl | false ↦ delay_among-slot taxi f p r others ]

-- a test that gives a value
if-some : (b : Bool) (o : Option ℕ) (e : ℕ) → cond b o None ≡ Some e → o ≡ Some e
if-some true o e is = is
if-some false o e is = cc

moment-is : (m e : ℕ) → moment_within m ≡ Some e → m ≡ e
unfolding moment_within
moment-is m e is = let at : Some m ≡ Some e = if-some (nat_le m 100_000_000) (Some m) e is in cc

later-is : (from e : ℕ) (o : Option ℕ) → option_and_then (λ elapsed. moment_within (from + elapsed)) o ≡ Some e → from ≤ e
later-is from e None is = cc
later-is from e (Some elapsed) is = let at : from + elapsed ≡ e = moment-is _ _ is in omega arith

-- no flight enters a point before its take-off
pub entry-after : (taxi e : ℕ) (spot : Spot) (p : PlanView) → entry_at taxi spot p ≡ Some e → take_off taxi p ≤ e
unfolding entry_at
entry-after taxi e (Dep place) p is = let at : Some (take_off taxi p) ≡ Some e = if-some (bytes_eq p.key.dep place) (Some (take_off taxi p)) e is in let same : take_off taxi p ≡ e = cc in omega arith
entry-after taxi e (Arr place) p is = let at : take_off taxi p + p.elapsed ≡ e = moment-is _ _ (if-some (bytes_eq p.key.dest place) (moment_within (take_off taxi p + p.elapsed)) e is) in omega arith
entry-after taxi e (Via place) p is = later-is _ _ _ is

pub worse-none : (a : Option Delay) → worse a None ≡ a
worse-none None = refl
worse-none (Some a) = refl

-- the first of three greatest delays is found from either side
pub worse-joins : (a b c : Option Delay) → worse (worse a b) c ≡ worse a (worse b c)
worse-joins None b c = refl
worse-joins (Some a) None c = refl
worse-joins (Some a) (Some b) None = worse-none (worse (Some a) (Some b))
worse-joins (Some a) (Some b) (Some c) = grind (arith, nat_tests)

-- the bound of both delays is one of the worse one
pub worse-keeps : (from limit : ℕ) (a b : Option Delay) → IfSome a (λ d. from + d.minutes ≤ limit) → IfSome b (λ d. from + d.minutes ≤ limit)
    → IfSome (worse a b) (λ d. from + d.minutes ≤ limit)
worse-keeps from limit None b ha hb = hb
worse-keeps from limit (Some a) None ha hb = ha
worse-keeps from limit (Some a) (Some b) ha hb = elim (ltb a.minutes b.minutes) as (λ t. IfSome (cond t (Some b) (Some a)) (λ d. from + d.minutes ≤ limit)) [ true ↦ hb | false ↦ ha ]

-- the delay that the time of a slot and an entry make
pub delay-in : (taxi f : ℕ) (p : PlanView) (r : Regulation) (slot : Option ℕ) → slot ≡ option_map (slot_time r.period) (slot_in f r.fixed)
    → delay_in taxi f p r ≡ option_and_then (λ at. option_map (λ e. at - e) (entry_at taxi r.spot p)) slot
delay-in taxi f p r slot is = delay_among-slot taxi f p r r.fixed ∙ (both (slot_in f r.fixed) ∙ ap (λ o. option_and_then (λ at. option_map (λ e. at - e) (entry_at taxi r.spot p)) o) (sym is))
  where
    both : (o : Option ℕ) → option_and_then (λ k. option_map (λ e. slot_time r.period k - e) (entry_at taxi r.spot p)) o ≡ option_and_then (λ at. option_map (λ e. at - e) (entry_at taxi r.spot p)) (option_map (slot_time r.period) o)
    both None = refl
    both (Some k) = refl

pub delay-none : (taxi f : ℕ) (p : PlanView) (r : Regulation) (slot : Option ℕ) (d : Option Delay) → slot ≡ option_map (slot_time r.period) (slot_in f r.fixed)
    → slot ≡ None → d ≡ None → d ≡ option_map (caused_by r) (delay_in taxi f p r)
delay-none taxi f p r slot d is none e =
    e ∙ ap (λ o. option_map (caused_by r) (option_and_then (λ at. option_map (λ e. at - e) (entry_at taxi r.spot p)) o)) (sym none) ∙ ap (option_map (caused_by r)) (sym (delay-in taxi f p r slot is))

pub delay-no_entry : (taxi f at : ℕ) (p : PlanView) (r : Regulation) (d : Option Delay) → Some at ≡ option_map (slot_time r.period) (slot_in f r.fixed)
    → None ≡ entry_at taxi r.spot p → d ≡ None → d ≡ option_map (caused_by r) (delay_in taxi f p r)
delay-no_entry taxi f at p r d is none e =
    e ∙ ap (λ o. option_map (caused_by r) (option_map (λ e. at - e) o)) none ∙ ap (option_map (caused_by r)) (sym (delay-in taxi f p r (Some at) is))

pub delay-some : (taxi f at entry : ℕ) (p : PlanView) (r : Regulation) → Some at ≡ option_map (slot_time r.period) (slot_in f r.fixed)
    → Some entry ≡ entry_at taxi r.spot p → Some (caused_by r (at - entry)) ≡ option_map (caused_by r) (delay_in taxi f p r)
delay-some taxi f at entry p r is enters =
    ap (λ o. option_map (caused_by r) (option_map (λ e. at - e) o)) enters ∙ ap (option_map (caused_by r)) (sym (delay-in taxi f p r (Some at) is))

each-some : (o : Option PlanView) (Q : PlanView → Type 0) → ((p : PlanView) → Q p) → IfSome o Q
each-some None Q q = tt
each-some (Some p) Q q = q p

with-some : (o : Option PlanView) (P Q : PlanView → Type 0) → ((p : PlanView) → P p → Q p) → IfSome o P → IfSome o Q
with-some None P Q q h = tt
with-some (Some p) P Q q h = q p h

-- this is the delay of the flight of a plan in a regulation
abbrev pub IsDelay : ℕ → ℕ → Option PlanView → Option Delay → RegulationView → Type 0
IsDelay taxi f o d l = IfSome o (λ p. d ≡ option_map (caused_by (regulation_of l)) (delay_in taxi f p (regulation_of l)))

abbrev pub Enters : ℕ → Option PlanView → Option ℕ → Spot → Type 0
Enters taxi o entry spot = IfSome o (λ p. entry ≡ entry_at taxi spot p)

pub IsDelay-none : (taxi f : ℕ) (o : Option PlanView) (v l : RegulationView) (slot : Option ℕ) (d : Option Delay) → v ≡ l
    → slot ≡ option_map (slot_time v.lineup.period) (fixed_slot v.lineup f) → slot ≡ None → d ≡ None → IsDelay taxi f o d l
IsDelay-none taxi f o v l slot d is at none e =
    subst (λ (w : RegulationView). IsDelay taxi f o d w) is
    (each-some o (λ p. d ≡ option_map (caused_by (regulation_of v)) (delay_in taxi f p (regulation_of v))) (λ p. delay-none taxi f p (regulation_of v) slot d at none e))

pub IsDelay-no_entry : (taxi f at : ℕ) (o : Option PlanView) (v l : RegulationView) (slot entry : Option ℕ) (d : Option Delay) → v ≡ l
    → slot ≡ option_map (slot_time v.lineup.period) (fixed_slot v.lineup f) → slot ≡ Some at → Enters taxi o entry v.spot → entry ≡ None → d ≡ None
    → IsDelay taxi f o d l
IsDelay-no_entry taxi f at o v l slot entry d is fixed slot-at enters none e =
    subst (λ (w : RegulationView). IsDelay taxi f o d w) is
    (with-some o (λ p. entry ≡ entry_at taxi v.spot p) (λ p. d ≡ option_map (caused_by (regulation_of v)) (delay_in taxi f p (regulation_of v)))
    (λ p h. delay-no_entry taxi f at p (regulation_of v) d (sym slot-at ∙ fixed) (sym none ∙ h) e) enters)

pub IsDelay-some : (taxi f at e : ℕ) (o : Option PlanView) (v l : RegulationView) (slot entry : Option ℕ) → v ≡ l
    → slot ≡ option_map (slot_time v.lineup.period) (fixed_slot v.lineup f) → slot ≡ Some at → Enters taxi o entry v.spot → entry ≡ Some e
    → IsDelay taxi f o (Some (record { minutes = at - e; regulation = v.id })) l
IsDelay-some taxi f at e o v l slot entry is fixed slot-at enters entry-at =
    subst (λ (w : RegulationView). IsDelay taxi f o (Some (record { minutes = at - e; regulation = v.id })) w) is
    (with-some o (λ p. entry ≡ entry_at taxi v.spot p)
    (λ p. Some (record { minutes = at - e; regulation = v.id }) ≡ option_map (caused_by (regulation_of v)) (delay_in taxi f p (regulation_of v)))
    (λ p h. delay-some taxi f at e p (regulation_of v) (sym slot-at ∙ fixed) (sym entry-at ∙ h)) enters)

-- with which take-off is not later than the slot, or than itself
pub delay-bound : (taxi at e limit : ℕ) (o : Option PlanView) (spot : Spot) (entry : Option ℕ) → Enters taxi o entry spot → entry ≡ Some e
    → at ≤ limit → e ≤ limit → IfSome o (λ p. take_off taxi p + (at - e) ≤ limit)
delay-bound taxi at e limit o spot entry enters entry-at h k =
    with-some o (λ p. entry ≡ entry_at taxi spot p) (λ p. take_off taxi p + (at - e) ≤ limit)
    (λ p is. (let after : take_off taxi p ≤ e = entry-after taxi e spot p (sym is ∙ entry-at) in omega arith)) enters
