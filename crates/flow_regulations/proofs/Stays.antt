-- Advice that stays if a flight keeps its slots.
use Rattle.std.proofs.Common.{◌≡◌, ℕ, ◌-◌, cond, eqb, true, false, List, [], ◌∷◌, ◌++◌, Option, None, Some, IfSome, refl, sym, ap, ◌∙◌}
use Rattle.std.specs.Option.{option_map}
use Rattle.std.specs.List.{AllByRecursion}
use Rattle.fpl_message.specs.declared.order.Spot.{Spot}
use Rattle.flow_plans.specs.Plans.{PlanView, plan_at}
use Rattle.flow_plans.specs.Entries.{entry_at}
use Rattle.flow_slots.specs.Period.{Period, slot_time}
use Rattle.flow_slots.specs.Assignment.{Placed}
use Rattle.flow_regulations.specs.declared.telling.Delay.{Delay}
use Rattle.flow_regulations.specs.declared.notice.Told.{Told}
use Rattle.flow_regulations.specs.Regulations.{Regulation}
use Rattle.flow_regulations.specs.Settling.{pairs_of}
use Rattle.flow_regulations.specs.Advice.{delay_among, delay_in, caused_by, worse, worst, advice}
use Rattle.flow_regulations.specs.Notices.{notices_to}
use Rattle.flow_regulations.specs.Quiet.{IsQuiet, IsQuietAt, told_at, IsUntouched, HasSameSlots}

-- the delay of a flight's first pair
abbrev delay_of : ℕ → PlanView → Spot → Period → List Placed → Option ℕ
delay_of taxi p spot period [] = None
delay_of taxi p spot period (a ∷ others) = option_map (λ entry. slot_time period a.slot - entry) (entry_at taxi spot p)

delay_among-pairs : (taxi f : ℕ) (p : PlanView) (r : Regulation) (fixed : List Placed) → delay_among taxi f p r fixed ≡ delay_of taxi p r.spot r.period (pairs_of f fixed)
delay_among-pairs taxi f p r [] = refl
delay_among-pairs taxi f p r (a ∷ others) =
    elim (eqb a.flight f)
    as (λ b. cond b (option_map (λ entry. slot_time r.period a.slot - entry) (entry_at taxi r.spot p)) (delay_among taxi f p r others)
    ≡ delay_of taxi p r.spot r.period (cond b (a ∷ pairs_of f others) (pairs_of f others)))
    [ true ↦ refl | false ↦ delay_among-pairs taxi f p r others ]

abbrev delay_caused : ℕ → PlanView → List ℕ → Spot → Period → List Placed → Option Delay
delay_caused taxi p id spot period pairs = option_map (λ (minutes : ℕ). record { minutes = minutes; regulation = id }) (delay_of taxi p spot period pairs)

caused-pairs : (taxi f : ℕ) (p : PlanView) (r : Regulation)
    → option_map (caused_by r) (delay_in taxi f p r) ≡ delay_caused taxi p r.id r.spot r.period (pairs_of f r.fixed)
caused-pairs taxi f p r = ap (option_map (caused_by r)) (delay_among-pairs taxi f p r r.fixed)

caused-same : (taxi f : ℕ) (p : PlanView) (r s : Regulation) → r.id ≡ s.id → r.spot ≡ s.spot → r.period ≡ s.period → pairs_of f r.fixed ≡ pairs_of f s.fixed
    → option_map (caused_by r) (delay_in taxi f p r) ≡ option_map (caused_by s) (delay_in taxi f p s)
caused-same taxi f p r s i o t k =
    caused-pairs taxi f p r
    ∙ ap (λ (id : List ℕ). delay_caused taxi p id r.spot r.period (pairs_of f r.fixed)) i
    ∙ ap (λ (spot : Spot). delay_caused taxi p s.id spot r.period (pairs_of f r.fixed)) o
    ∙ ap (λ (period : Period). delay_caused taxi p s.id s.spot period (pairs_of f r.fixed)) t
    ∙ ap (λ (pairs : List Placed). delay_caused taxi p s.id s.spot s.period pairs) k
    ∙ sym (caused-pairs taxi f p s)

worst-same : (taxi f : ℕ) (p : PlanView) (rs ss : List Regulation) → HasSameSlots f rs ss → worst taxi f p rs ≡ worst taxi f p ss
worst-same taxi f p [] [] k = refl
worst-same taxi f p [] (s ∷ ss) k = absurd k
worst-same taxi f p (r ∷ rs) [] k = absurd k
worst-same taxi f p (r ∷ rs) (s ∷ ss) k =
    ap (λ d. worse d (worst taxi f p rs)) (caused-same taxi f p r s k.0 k.1 k.2 k.3)
    ∙ ap (λ e. worse (option_map (caused_by s) (delay_in taxi f p s)) e) (worst-same taxi f p rs ss k.4)

pub advice-same : (taxi f : ℕ) (p : PlanView) (rs ss : List Regulation) → HasSameSlots f rs ss → advice taxi f p ss ≡ advice taxi f p rs
unfolding advice
advice-same taxi f p rs ss k = ap (option_map _) (sym (worst-same taxi f p rs ss k))

pub quiet-same : (taxi f : ℕ) (p : PlanView) (told : Option Told) (rs ss : List Regulation) → HasSameSlots f rs ss → IsQuiet taxi f rs p told → IsQuiet taxi f ss p told
quiet-same taxi f p told rs ss k q = ap (λ a. notices_to p told a) (advice-same taxi f p rs ss k) ∙ q

pub caused-none : (taxi f : ℕ) (p : PlanView) (r : Regulation) → pairs_of f r.fixed ≡ [] → option_map (caused_by r) (delay_in taxi f p r) ≡ None
caused-none taxi f p r none = caused-pairs taxi f p r ∙ ap (λ (pairs : List Placed). delay_caused taxi p r.id r.spot r.period pairs) none

worst-other : (taxi f : ℕ) (p : PlanView) (r : Regulation) (before after : List Regulation) → pairs_of f r.fixed ≡ []
    → worst taxi f p (before ++ r ∷ after) ≡ worst taxi f p (before ++ after)
worst-other taxi f p r [] after none = ap (λ d. worse d (worst taxi f p after)) (caused-none taxi f p r none)
worst-other taxi f p r (s ∷ before) after none =
    ap (λ e. worse (option_map (caused_by s) (delay_in taxi f p s)) e) (worst-other taxi f p r before after none)

pub advice-other : (taxi f : ℕ) (p : PlanView) (r : Regulation) (before after : List Regulation) → pairs_of f r.fixed ≡ []
    → advice taxi f p (before ++ r ∷ after) ≡ advice taxi f p (before ++ after)
unfolding advice
advice-other taxi f p r before after none = ap (option_map _) (worst-other taxi f p r before after none)

pub quiet-untouched : (taxi n : ℕ) (rs : List Regulation) (ps : List PlanView) (ts : List (Option Told)) (ss : List Regulation) (qs : List PlanView) (us : List (Option Told))
    → IsUntouched taxi rs ps ts ss qs us n → IsQuietAt taxi rs ps ts n → IsQuietAt taxi ss qs us n
quiet-untouched taxi n rs ps ts ss qs us same h = rw (same.0, same.1) (at (plan_at ps n) refl h)
  where
    told : (p : PlanView) → advice taxi n p ss ≡ advice taxi n p rs → (v : Option (Option Told)) → IfSome v (λ t. IsQuiet taxi n rs p t) → IfSome v (λ t. IsQuiet taxi n ss p t)
    told p e None q = tt
    told p e (Some t) q = ap (λ a. notices_to p t a) e ∙ q

    at : (o : Option PlanView) → plan_at ps n ≡ o → IfSome o (λ p. IfSome (told_at ts n) (λ t. IsQuiet taxi n rs p t)) → IfSome o (λ p. IfSome (told_at ts n) (λ t. IsQuiet taxi n ss p t))
    at None e q = tt
    at (Some p) e q = told p (same.2 p e) (told_at ts n) q

pub keeps-refl : (f : ℕ) (rs : List Regulation) → HasSameSlots f rs rs
keeps-refl f [] = tt
keeps-refl f (r ∷ rs) = (refl, refl, refl, refl, keeps-refl f rs)

pub keeps-trans : (f : ℕ) (rs ss us : List Regulation) → HasSameSlots f rs ss → HasSameSlots f ss us → HasSameSlots f rs us
keeps-trans f [] [] [] k l = tt
keeps-trans f [] [] (u ∷ us) k l = absurd l
keeps-trans f [] (s ∷ ss) us k l = absurd k
keeps-trans f (r ∷ rs) [] us k l = absurd k
keeps-trans f (r ∷ rs) (s ∷ ss) [] k l = absurd l
keeps-trans f (r ∷ rs) (s ∷ ss) (u ∷ us) k l = (k.0 ∙ l.0, k.1 ∙ l.1, k.2 ∙ l.2, k.3 ∙ l.3, keeps-trans f rs ss us k.4 l.4)

pub keeps-join : (f : ℕ) (rs ss us vs : List Regulation) → HasSameSlots f rs ss → HasSameSlots f us vs → HasSameSlots f (rs ++ us) (ss ++ vs)
keeps-join f [] [] us vs k l = l
keeps-join f [] (s ∷ ss) us vs k l = absurd k
keeps-join f (r ∷ rs) [] us vs k l = absurd k
keeps-join f (r ∷ rs) (s ∷ ss) us vs k l = (k.0, k.1, k.2, k.3, keeps-join f rs ss us vs k.4 l)

worst-none : (taxi f : ℕ) (p : PlanView) (rs : List Regulation) → AllByRecursion (λ r. pairs_of f r.fixed ≡ []) rs → worst taxi f p rs ≡ None
worst-none taxi f p [] h = refl
worst-none taxi f p (r ∷ rs) h = ap (λ d. worse d (worst taxi f p rs)) (caused-none taxi f p r h.0) ∙ worst-none taxi f p rs h.1

pub advice-nowhere : (taxi f : ℕ) (p : PlanView) (rs : List Regulation) → AllByRecursion (λ r. pairs_of f r.fixed ≡ []) rs → advice taxi f p rs ≡ None
unfolding advice
advice-nowhere taxi f p rs h = ap (option_map _) (worst-none taxi f p rs h)
