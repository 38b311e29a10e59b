-- The greatest delay from the left is the one from the right, as slots.
use Rattle.std.proofs.Common.{◌≡◌, ◌+◌, ◌∙◌, ℕ, Bool, true, false, List, [], ◌∷◌, Option, None, Some, refl, ap, sym, arith, eqb}
use Rattle.std.specs.Prelude.{if◌then◌else◌, fold, nat_lt}
use Rattle.std.specs.List.{AllZip}
use Rattle.std.specs.Option.{option_map}
use Rattle.std.proofs.lemmas.Bool.{ltb-true, ltb-false}
use Rattle.flow_plans.specs.Plans.{PlanView}
use Rattle.flow_plans.specs.Entries.{take_off}
use Rattle.flow_regulations.specs.declared.notice.Told.{Told}
use Rattle.flow_regulations.specs.Regulations.{Regulation}
use Rattle.flow_regulations.specs.Advice.{advice, caused_by, worst}
use Rattle.flow_regulations.specs.Advice as by_advice
use Rattle.flow_view.specs.declared.delay.FlightDelay.{FlightDelay}
use Rattle.flow_view.specs.declared.slot_row.SlotRow.{SlotRow}
use Rattle.flow_view.specs.Openings.{OpeningView}
use Rattle.flow_view.specs.Delays.{worse_flight, worse_by, worse_in, delay_of_flight}
use Rattle.flow_view.specs.Delays as delays
use Rattle.flow_view.specs.Advised.{slot_with, GivesAdvised}

-- the later slot, the first of equal ones
abbrev later_of : Option Told → Option Told → Option Told
later_of None u = u
later_of (Some t) None = Some t
later_of (Some t) (Some u) = if nat_lt t.ctot u.ctot then Some u else Some t

joined3 : (d e f : Told) → later_of (later_of (Some d) (Some e)) (Some f) ≡ later_of (Some d) (later_of (Some e) (Some f))
joined3 d e f = by (nat_lt d.ctot e.ctot) (nat_lt e.ctot f.ctot) (nat_lt d.ctot f.ctot) refl refl refl where
  by : (b c a : Bool) → nat_lt d.ctot e.ctot ≡ b → nat_lt e.ctot f.ctot ≡ c → nat_lt d.ctot f.ctot ≡ a
      → later_of (if b then Some e else Some d) (Some f) ≡ later_of (Some d) (if c then Some f else Some e)
  by true true true p q r = ap (λ (x : Bool). if x then Some f else Some e) q ∙ sym (ap (λ (x : Bool). if x then Some f else Some d) r)
  by true true false p q r = absurd (omega (arith, ltb-true d.ctot e.ctot p, ltb-true e.ctot f.ctot q, ltb-false d.ctot f.ctot r))
  by true false a p q r = ap (λ (x : Bool). if x then Some f else Some e) q ∙ sym (ap (λ (x : Bool). if x then Some e else Some d) p)
  by false true a p q r = refl
  by false false true p q r = absurd (omega (arith, ltb-false d.ctot e.ctot p, ltb-false e.ctot f.ctot q, ltb-true d.ctot f.ctot r))
  by false false false p q r = ap (λ (x : Bool). if x then Some f else Some d) r ∙ sym (ap (λ (x : Bool). if x then Some e else Some d) p)

-- the latest of three is one however they are joined
joined : (a b c : Option Told) → later_of (later_of a b) c ≡ later_of a (later_of b c)
joined None b c = refl
joined (Some d) None c = refl
joined (Some d) (Some e) None = none (nat_lt d.ctot e.ctot) where
  none : (x : Bool) → later_of (if x then Some e else Some d) None ≡ (if x then Some e else Some d)
  none true = refl
  none false = refl
joined (Some d) (Some e) (Some f) = joined3 d e f

right-none : (a : Option Told) → later_of a None ≡ a
right-none None = refl
right-none (Some d) = refl

-- of two delays of one take-off the greater gives the later slot
shifted : (t a b : ℕ) → nat_lt (t + a) (t + b) ≡ nat_lt a b
shifted t a b = by (nat_lt (t + a) (t + b)) (nat_lt a b) refl refl where
  by : (x y : Bool) → nat_lt (t + a) (t + b) ≡ x → nat_lt a b ≡ y → x ≡ y
  by true true p q = refl
  by false false p q = refl
  by true false p q = absurd (omega (arith, ltb-true (t + a) (t + b) p, ltb-false a b q))
  by false true p q = absurd (omega (arith, ltb-false (t + a) (t + b) p, ltb-true a b q))

-- whatever delays are kept as, if the greater is chosen the later slot is
chosen : {D : Type 0} (greater : Option D → Option D → Option D) (minutes : D → ℕ) (slot : D → Told) (t : ℕ)
    → ((y : Option D) → greater None y ≡ y) → ((d : D) → greater (Some d) None ≡ Some d)
    → ((d e : D) → greater (Some d) (Some e) ≡ (if nat_lt (minutes d) (minutes e) then Some e else Some d))
    → ((d : D) → (slot d).ctot ≡ t + minutes d)
    → (x y : Option D) → option_map slot (greater x y) ≡ later_of (option_map slot (greater x None)) (option_map slot y)
chosen {D} greater minutes slot t none one two at None y =
    ap (λ (z : Option D). option_map slot z) (none y) ∙ sym (ap (λ (z : Option D). later_of (option_map slot z) (option_map slot y)) (none None))
chosen {D} greater minutes slot t none one two at (Some d) None =
    ap (λ (z : Option D). option_map slot z) (one d) ∙ sym (ap (λ (z : Option D). later_of (option_map slot z) None) (one d))
chosen {D} greater minutes slot t none one two at (Some d) (Some e) =
    let same : nat_lt (slot d).ctot (slot e).ctot ≡ nat_lt (minutes d) (minutes e)
    = ap (λ n. nat_lt n (slot e).ctot) (at d) ∙ (ap (λ n. nat_lt (t + minutes d) n) (at e) ∙ shifted t (minutes d) (minutes e)) in
    ap (λ (z : Option D). option_map slot z) (two d e)
    ∙ (by (nat_lt (minutes d) (minutes e))
    ∙ (sym (ap (λ (b : Bool). if b then Some (slot e) else Some (slot d)) same)
    ∙ sym (ap (λ (z : Option D). later_of (option_map slot z) (Some (slot e))) (one d))))
  where
    by : (b : Bool) → option_map slot (if b then Some e else Some d) ≡ (if b then Some (slot e) else Some (slot d))
    by true = refl
    by false = refl

-- the advice in some regulations is the later of that in the first alone and that in the others
advice-joined : (taxi number : ℕ) (p : PlanView) (r : Regulation) (rs : List Regulation)
    → advice taxi number p (r ∷ rs) ≡ later_of (advice taxi number p (r ∷ [])) (advice taxi number p rs)
unfolding advice
advice-joined taxi number p r rs =
    chosen by_advice.worse (λ d. d.minutes) (λ d. record { ctot = take_off taxi p + d.minutes; regulation = d.regulation }) (take_off taxi p)
    (λ y. refl) (λ d. refl) (λ d e. refl) (λ d. refl) (option_map (caused_by r) (by_advice.delay_in taxi number p r)) (worst taxi number p rs)

none-advised : (taxi number : ℕ) (p : PlanView) → advice taxi number p [] ≡ None
unfolding advice
none-advised taxi number p = refl

module _ (taxi number : ℕ) (p : PlanView) where
  slot : FlightDelay → Told
  slot d = slot_with taxi p d

  -- the rule of the view is the same
  same-rule : (most : Option FlightDelay) (d : FlightDelay) → option_map (slot_with taxi p) (worse_flight most d) ≡ later_of (option_map (slot_with taxi p) most) (Some (slot_with taxi p d))
  same-rule None d = refl
  same-rule (Some e) d =
      by (nat_lt e.minutes d.minutes)
      ∙ sym (ap (λ (b : Bool). if b then Some (slot_with taxi p d) else Some (slot_with taxi p e)) (shifted (take_off taxi p) e.minutes d.minutes))
    where
      by : (b : Bool) → option_map (slot_with taxi p) (if b then Some d else Some e) ≡ (if b then Some (slot_with taxi p d) else Some (slot_with taxi p e))
      by true = refl
      by false = refl

  by-row : (o : OpeningView) (most : Option FlightDelay) (r : SlotRow)
      → option_map (slot_with taxi p) (worse_by number o most r) ≡ later_of (option_map (slot_with taxi p) most) (option_map (slot_with taxi p) (worse_by number o None r))
  by-row o most r = by (eqb r.plan number) where
    by : (x : Bool) → option_map (slot_with taxi p) (if x then worse_flight most (delays.row_delay o r) else most)
        ≡ later_of (option_map (slot_with taxi p) most) (option_map (slot_with taxi p) (if x then worse_flight None (delays.row_delay o r) else None))
    by true = same-rule most (delays.row_delay o r)
    by false = sym (right-none (option_map (slot_with taxi p) most))

  -- the rows of a regulation
  by-rows : (o : OpeningView) (most : Option FlightDelay) (rows : List SlotRow)
      → option_map (slot_with taxi p) (fold (worse_by number o) most rows)
      ≡ later_of (option_map (slot_with taxi p) most) (option_map (slot_with taxi p) (fold (worse_by number o) None rows))
  by-rows o most [] = sym (right-none (option_map (slot_with taxi p) most))
  by-rows o most (r ∷ rs) =
      let rest : Option Told = option_map (slot_with taxi p) (fold (worse_by number o) None rs) in
      by-rows o (worse_by number o most r) rs
      ∙ (ap (λ (a : Option Told). later_of a rest) (by-row o most r)
      ∙ (joined (option_map (slot_with taxi p) most) (option_map (slot_with taxi p) (worse_by number o None r)) rest
      ∙ ap (later_of (option_map (slot_with taxi p) most)) (sym (by-rows o (worse_by number o None r) rs))))

  -- all regulations
  by-all : (most : Option FlightDelay) (os : List OpeningView) (rs : List Regulation) → AllZip (GivesAdvised taxi number p) os rs
      → option_map (slot_with taxi p) (fold (worse_in number) most os) ≡ later_of (option_map (slot_with taxi p) most) (advice taxi number p rs)
  by-all most [] [] all =
      sym (right-none (option_map (slot_with taxi p) most)) ∙ ap (later_of (option_map (slot_with taxi p) most)) (sym (none-advised taxi number p))
  by-all most [] (r ∷ rs) all = absurd all
  by-all most (o ∷ os) [] all = absurd all
  by-all most (o ∷ os) (r ∷ rs) all =
      let first : Option Told = option_map (slot_with taxi p) most in
      by-all (worse_in number most o) os rs all.1
      ∙ (ap (λ (a : Option Told). later_of a (advice taxi number p rs)) (by-rows o most o.rows ∙ ap (later_of first) all.0)
      ∙ (joined first (advice taxi number p (r ∷ [])) (advice taxi number p rs)
      ∙ ap (later_of first) (sym (advice-joined taxi number p r rs))))

pub advised : (taxi number : ℕ) (p : PlanView) (os : List OpeningView) (rs : List Regulation) → AllZip (GivesAdvised taxi number p) os rs
    → option_map (slot_with taxi p) (delay_of_flight os number) ≡ advice taxi number p rs
advised taxi number p os rs all = by-all taxi number p None os rs all
