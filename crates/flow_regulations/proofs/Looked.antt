-- What the steps of reallocating a flight make of a slot list.
use Rattle.std.proofs.Common.{◌≡◌, ℕ, zero, suc, ◌-◌, ◌<◌, ◌≤◌, Bool, true, false, cond, List, [], ◌∷◌, length, Option, Some, None, refl, sym, ap, subst, ◌∙◌, arith}
use Rattle.std.specs.List.{slice_get}
use Rattle.std.specs.Option.{option_map_or}
use Rattle.flow_plans.specs.Plans.{PlanView, plan_at}
use Rattle.flow_slots.specs.Period.{IsRegular, IsWithin}
use Rattle.flow_slots.specs.Lineup.{Lineup, IsLineup, held_slot, fixed_slot, without_flight}
use Rattle.flow_slots.proofs.Held.{held_slot-without}
use Rattle.flow_regulations.specs.Regulations.{subject_to}
use Rattle.flow_regulations.specs.Settling.{is_due, keeps}
use Rattle.flow_regulations.specs.Listing.{RegulationView, regulation_of, IsListedIn, IsSettledBut, with_lineup, IsRenewed, AreSameBut, keeps_slot, placed, looked_again}
use Rattle.flow_regulations.proofs.Subjects.{subject-within}
use Rattle.flow_regulations.proofs.Renewed.{renewed}

there : (ps : List PlanView) (i : ℕ) → i < length ps → (p : PlanView) × (slice_get ps i ≡ Some p)
there [] i h = absurd (omega arith)
there (p ∷ ps) zero h = (p, refl)
there (p ∷ ps) (suc i) h = there ps i (omega arith)

pub plan-there : (ps : List PlanView) (n : ℕ) → 0 < n → n ≤ length ps → (p : PlanView) × (plan_at ps n ≡ Some p)
plan-there ps n a b = there ps (n - 1) (omega arith)

pub kept-renewed : (taxi now n : ℕ) (plans : List PlanView) (l : RegulationView) (p : PlanView) → plan_at plans n ≡ Some p → 0 < n → IsLineup l.lineup → IsRegular l.lineup.period → keeps_slot taxi now (regulation_of l) n p l.lineup ≡ true
    → (max : ℕ) (before : List PlanView) → IsListedIn taxi max before l → IsSettledBut n taxi now before l → AreSameBut n before plans → IsRenewed taxi max now plans l l.lineup
kept-renewed taxi now n plans l p at first lined regular k max before listed settled same =
    let all = renewed taxi max now n before plans l p (record { number = first; plan = at; same = same; listed = listed; settled_but = settled; apart = λ _ _. lined.fixed_apart; regular = λ _ _. regular }) in
    let R : Lineup → Type 0 = IsRenewed taxi max now plans l in
    subst R (ap (λ b. cond b l.lineup (placed (subject_to taxi (regulation_of l) p) (is_due now p) n (without_flight n l.lineup))) k) all

pub placed-renewed : (taxi now n : ℕ) (plans : List PlanView) (l : RegulationView) (p : PlanView) → plan_at plans n ≡ Some p → 0 < n → IsLineup l.lineup → IsRegular l.lineup.period → keeps_slot taxi now (regulation_of l) n p l.lineup ≡ false
    → (o : Option ℕ) (d : Bool) (m : Lineup) → o ≡ subject_to taxi (regulation_of l) p → d ≡ is_due now p → m ≡ placed o d n (without_flight n l.lineup)
    → (max : ℕ) (before : List PlanView) → IsListedIn taxi max before l → IsSettledBut n taxi now before l → AreSameBut n before plans → IsRenewed taxi max now plans l m
placed-renewed taxi now n plans l p at first lined regular k o d m s q e max before listed settled same =
    let all = renewed taxi max now n before plans l p (record { number = first; plan = at; same = same; listed = listed; settled_but = settled; apart = λ _ _. lined.fixed_apart; regular = λ _ _. regular }) in
    let R : Lineup → Type 0 = IsRenewed taxi max now plans l in
    let made : looked_again taxi now (regulation_of l) n p l.lineup ≡ m =
    ap (λ b. cond b l.lineup (placed (subject_to taxi (regulation_of l) p) (is_due now p) n (without_flight n l.lineup))) k
    ∙ sym (e ∙ (ap (λ v. placed v d n (without_flight n l.lineup)) s ∙ ap (λ b. placed (subject_to taxi (regulation_of l) p) b n (without_flight n l.lineup)) q)) in
    subst R made all

-- a flight that isn't held, and to which the regulation doesn't apply
pub out-renewed : (taxi now n : ℕ) (plans : List PlanView) (l : RegulationView) (p : PlanView) → plan_at plans n ≡ Some p → 0 < n → fixed_slot l.lineup n ≡ None → subject_to taxi (regulation_of l) p ≡ None → without_flight n l.lineup ≡ l.lineup
    → (max : ℕ) (before : List PlanView) → IsListedIn taxi max before l → IsSettledBut n taxi now before l → AreSameBut n before plans → IsRenewed taxi max now plans l l.lineup
out-renewed taxi now n plans l p at first unfixed none out max before listed settled same =
    let all = renewed taxi max now n before plans l p (record { number = first; plan = at; same = same; listed = listed; settled_but = settled; apart = λ k e. absurd (let no : None ≡ Some k = sym unfixed ∙ e in cc); regular = λ k e. absurd (let no : None ≡ Some k = sym none ∙ e in cc) }) in
    let R : Lineup → Type 0 = IsRenewed taxi max now plans l in
    let made : looked_again taxi now (regulation_of l) n p l.lineup ≡ l.lineup =
    ap (λ o. cond (option_map_or (λ slot. keeps taxi now (regulation_of l) slot p) o false) l.lineup (placed (subject_to taxi (regulation_of l) p) (is_due now p) n (without_flight n l.lineup))) unfixed
    ∙ (ap (λ o. placed o (is_due now p) n (without_flight n l.lineup)) none ∙ out) in
    subst R made all

pub out-absent : (n : ℕ) (l t : RegulationView) → t ≡ with_lineup (without_flight n l.lineup) l → held_slot t.lineup n ≡ None
out-absent n l t e = ap (λ v. held_slot v.lineup n) e ∙ held_slot-without n l.lineup

pub out-within : (taxi n e : ℕ) (l t : RegulationView) (p : PlanView) (o : Option ℕ) → o ≡ subject_to taxi (regulation_of t) p → o ≡ Some e → IsWithin t.lineup.period e
out-within taxi n e l t p o s f = subject-within taxi t.spot t.lineup.period.start t.lineup.period.end e p (sym s ∙ f)
