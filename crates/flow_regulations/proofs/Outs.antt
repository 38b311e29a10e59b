-- A flight that isn't held in an open regulation, which need not be asked.
use Rattle.std.proofs.Common.{◌≡◌, ℕ, ◌+◌, ◌<◌, ◌≤◌, ◌⊎◌, inl, inr, Bool, true, false, not, cond, eqb, List, [], ◌∷◌, length, Option, Some, None, refl, sym, ap, subst, ◌∙◌}
use Rattle.std.specs.Prelude.{IfSome}
use Rattle.std.specs.Option.{is_some, option_map}
use Rattle.std.proofs.lemmas.Bool.{cases_eq, eqb-true, true≢false}
use Rattle.flow_plans.specs.Plans.{PlanView, plan_at}
use Rattle.flow_slots.specs.declared.cell.Planned.{Planned}
use Rattle.flow_plans.specs.Entries.{take_off}
use Rattle.flow_slots.specs.Period.{slot_time}
use Rattle.flow_slots.specs.Lineup.{Lineup, NoneIs, held_slot, fixed_slot, entry_in, without_fixed, without_flight, with_waiting}
use Rattle.flow_slots.specs.ChangeList.{fixed_there}
use Rattle.flow_slots.proofs.Held.{held_slot-without}
use Rattle.flow_regulations.specs.declared.telling.Delay.{Delay}
use Rattle.flow_regulations.specs.declared.slot_state.Place.TheVariants as place
use Rattle.flow_regulations.specs.SlotStates.{IsPlaceOf}
use Rattle.flow_regulations.specs.Regulations.{subject_to}
use Rattle.flow_regulations.specs.Listing.{RegulationView, regulation_of, with_lineup, without_in, fixed_waiting, released, IsFixedWaiting, IsReleased, IsLookedAgain}
use Rattle.flow_regulations.specs.Marks.{IsOut}
use Rattle.flow_regulations.proofs.Delays.{IsDelay, IsDelay-none}
use Rattle.flow_regulations.proofs.Waiting.{without-none}
use Rattle.flow_regulations.proofs.FixedOnes.{without_fixed-none}
use Rattle.flow_regulations.proofs.PutBack.{stands-nowhere}
use Rattle.flow_regulations.proofs.Looked.{plan-there, out-renewed}
use Rattle.flow_regulations.proofs.Marking.{out-alone}
use Rattle.flow_regulations.proofs.Standing.{none-slot, alone-fixed_waiting, alone-twice, alone-waiting}

pub out-unfixed : (f : ℕ) (l : RegulationView) → IsOut f l → fixed_slot l.lineup f ≡ None
out-unfixed f l h = none-slot f l.lineup.fixed h.0

none-entry : (f : ℕ) (ws : List Planned) → NoneIs f ws → entry_in f ws ≡ None
none-entry f [] h = refl
none-entry f (w ∷ ws) h = cases (none-entry f ws h.1) (eqb w.flight f) refl where
  cases : entry_in f ws ≡ None → (b : Bool) → eqb w.flight f ≡ b → cond b (Some w.entry) (entry_in f ws) ≡ None
  cases again true q = absurd (h.0 (eqb-true w.flight f q))
  cases again false q = again

-- it is out already
pub out-same : (f : ℕ) (l : RegulationView) → IsOut f l → without_flight f l.lineup ≡ l.lineup
out-same f l h =
    ap (λ ws. let m : Lineup = record { period = l.lineup.period; capacity = l.lineup.capacity; waiting = ws; fixed = without_fixed f l.lineup.fixed } in m) (without-none f l.lineup.waiting h.1)
    ∙ ap (λ fs. let m : Lineup = record { period = l.lineup.period; capacity = l.lineup.capacity; waiting = l.lineup.waiting; fixed = fs } in m) (without_fixed-none f l.lineup.fixed h.0)

out-held : (f : ℕ) (l : RegulationView) → IsOut f l → held_slot l.lineup f ≡ None
out-held f l h = ap (λ v. held_slot v f) (sym (out-same f l h)) ∙ held_slot-without f l.lineup

pub out-place : (f : ℕ) (l : RegulationView) → IsOut f l → IsPlaceOf f place.Absent l
out-place f l h = stands-nowhere f l (out-unfixed f l h) (none-entry f l.lineup.waiting h.1)

-- nothing is fixed
out-waiting : (f : ℕ) (l : RegulationView) → IsOut f l → fixed_waiting f l.lineup ≡ l.lineup
out-waiting f l h =
    ap (λ o. cond (is_some o) l.lineup (fixed_there (held_slot l.lineup f) f l.lineup)) (out-unfixed f l h) ∙ ap (λ o. fixed_there o f l.lineup) (out-held f l h)

pub out-fixes : (f : ℕ) (l : RegulationView) → IsOut f l → IsFixedWaiting f l l
out-fixes f l h =
    let unheld : is_some (held_slot l.lineup f) ≡ false = ap is_some (out-held f l h) in
    record {
      same = ap (λ v. with_lineup v l) (sym (out-waiting f l h));
      capacity = refl;
      lined = λ s. absurd (true≢false (sym s ∙ unheld));
      regular = λ s. absurd (true≢false (sym s ∙ unheld));
    }

-- a flight that isn't held isn't held after another is frozen, or has a provisional slot again
pub out-fixed : (n f : ℕ) (l m : RegulationView) → IsFixedWaiting n l m → IsOut f l → IsOut f m
out-fixed n f l m r h = cases (cases_eq f n) where
  cases : (f ≡ n) ⊎ (f ≡ n → ⊥) → IsOut f m
  cases (inl e) =
      let O : RegulationView → Type 0 = λ v. IsOut f v in
      let same : fixed_waiting n l.lineup ≡ l.lineup = ap (λ g. fixed_waiting g l.lineup) (sym e) ∙ out-waiting f l h in
      subst O (sym (r.same ∙ ap (λ v. with_lineup v l) same)) h
  cases (inr ne) = out-alone f n l m ne (ap (without_in n) r.same ∙ ap (λ v. with_lineup v l) (alone-fixed_waiting n l.lineup)) h

alone-released : (o : Option ℕ) (n : ℕ) (l : Lineup) → without_flight n (released o n l) ≡ without_flight n l
alone-released None n l = refl
alone-released (Some e) n l = cases (is_some (fixed_slot l n)) where
  cases : (b : Bool) → without_flight n (cond b (with_waiting (record { entry = e; flight = n }) (without_flight n l)) l) ≡ without_flight n l
  cases true = alone-waiting (record { entry = e; flight = n }) (without_flight n l) ∙ alone-twice n l
  cases false = refl

same-released : (o : Option ℕ) (n : ℕ) (l : Lineup) → fixed_slot l n ≡ None → released o n l ≡ l
same-released None n l e = refl
same-released (Some e) n l none = ap (λ o. cond (is_some o) (with_waiting (record { entry = e; flight = n }) (without_flight n l)) l) none

pub out-released : (n taxi : ℕ) (plans : List PlanView) → 0 < n → n ≤ length plans → (f : ℕ) (l m : RegulationView) → IsReleased n taxi plans l m → IsOut f l → IsOut f m
out-released n taxi plans a b f l m r h = cases (cases_eq f n) where
  there : (p : PlanView) × (plan_at plans n ≡ Some p)
  there = plan-there plans n a b

  cases : (f ≡ n) ⊎ (f ≡ n → ⊥) → IsOut f m
  cases (inl e) =
      let O : RegulationView → Type 0 = λ v. IsOut f v in
      let none : fixed_slot l.lineup n ≡ None = ap (fixed_slot l.lineup) (sym e) ∙ out-unfixed f l h in
      subst O (sym (r.same there.0 there.1 ∙ ap (λ v. with_lineup v l) (same-released (subject_to taxi (regulation_of l) there.0) n l.lineup none))) h
  cases (inr ne) = out-alone f n l m ne (ap (without_in n) (r.same there.0 there.1) ∙ ap (λ v. with_lineup v l) (alone-released (subject_to taxi (regulation_of l) there.0) n l.lineup)) h

-- reallocating the flight changes nothing if the regulation doesn't apply to it
pub out-looks : (n taxi now : ℕ) (plans : List PlanView) (l : RegulationView) (o : Option ℕ) → 0 < n → n ≤ length plans → IsOut n l
    → ((p : PlanView) → plan_at plans n ≡ Some p → o ≡ subject_to taxi (regulation_of l) p) → o ≡ None → IsLookedAgain n taxi now plans l l
out-looks n taxi now plans l o a b h s none =
    let p = plan-there plans n a b in
    record {
      same = refl;
      capacity = refl;
      others = λ f ne. refl;
      alone = refl;
      renewed = out-renewed taxi now n plans l p.0 p.1 a (out-unfixed n l h) (sym (s p.0 p.1) ∙ none) (out-same n l h);
    }

pub is-none : (o : Option ℕ) (b : Bool) → is_some o ≡ not b → b ≡ true → o ≡ None
is-none None b e t = refl
is-none (Some k) b e t = absurd (true≢false (e ∙ ap not t))

-- a flight that isn't held has no delay there
pub out-delay : (taxi f : ℕ) (o : Option PlanView) (l : RegulationView) → IsOut f l → IsDelay taxi f o None l
out-delay taxi f o l h = IsDelay-none taxi f o l l None None refl (sym (ap (option_map (slot_time l.lineup.period)) (out-unfixed f l h))) refl refl

pub no-delay : (taxi limit : ℕ) (o : Option PlanView) (d : Option Delay) → d ≡ None → IfSome o (λ p. IfSome d (λ e. take_off taxi p + e.minutes ≤ limit))
no-delay taxi limit None d e = tt
no-delay taxi limit (Some p) d e = (let D : Option Delay → Type 0 = λ v. IfSome v (λ e. take_off taxi p + e.minutes ≤ limit) in subst D (sym e) tt)
