-- What a walk over the regulations gives for the advice of a plan.
use Rattle.std.proofs.Common.{◌≡◌, subst, slice_index_or as get_or, ℕ, ◌+◌, ◌-◌, ◌<◌, ◌≤◌, List, [], ◌∷◌, length, Option, None, Some, IfSome, refl, sym, ap, zero, suc, ◌∙◌, arith, map, drop}
use Rattle.std.proofs.lemmas.List.{drop_all, drop_more}
use Rattle.std.specs.List.{slice_get}
use Rattle.std.specs.Option.{option_map}
use Rattle.flow_plans.specs.Plans.{PlanView, plan_at}
use Rattle.flow_plans.specs.Entries.{take_off}
use Rattle.flow_regulations.specs.declared.telling.Delay.{Delay}
use Rattle.flow_regulations.specs.declared.notice.Told.{Told}
use Rattle.flow_regulations.specs.Listing.{RegulationView, regulation_of}
use Rattle.flow_regulations.specs.Advice.{worse, worst, delay_in, caused_by, advice}
use Rattle.flow_regulations.proofs.Delays.{worse-none, worse-joins, worse-keeps}

-- the walk has found the worst of the first regulations
abbrev pub IsWorstSoFar : ℕ → ℕ → Option PlanView → List RegulationView → List RegulationView → Option Delay → Type 0
IsWorstSoFar taxi n o rest all w =
    IfSome o (λ p. worse w (worst taxi n p (map regulation_of rest)) ≡ worst taxi n p (map regulation_of all))

-- no delay lies beyond the limit
abbrev pub IsDelayWithin : ℕ → ℕ → Option PlanView → Option Delay → Type 0
IsDelayWithin taxi limit o w = IfSome o (λ p. IfSome w (λ d. take_off taxi p + d.minutes ≤ limit))

-- before the first one nothing is found
pub worst-start : (taxi n : ℕ) (o : Option PlanView) (all : List RegulationView) → IsWorstSoFar taxi n o (drop 0 all) all None
worst-start taxi n None all = tt
worst-start taxi n (Some p) all = refl

-- the walk goes on to the next regulation
pub worst-kept : (taxi n i : ℕ) (o : Option PlanView) (all : List RegulationView) (r : RegulationView) (w d v : Option Delay) → i < length all → r ≡ get_or all i r
    → IsWorstSoFar taxi n o (drop i all) all w → IfSome o (λ p. d ≡ option_map (caused_by (regulation_of r)) (delay_in taxi n p (regulation_of r)))
    → v ≡ worse w d → IsWorstSoFar taxi n o (drop (i + 1) all) all v
worst-kept taxi n i None all r w d v below at was delay is = tt
worst-kept taxi n i (Some p) all r w d v below at was delay is =
    let W : List RegulationView → Option Delay = λ rest. worst taxi n p (map regulation_of rest) in
    let rest : drop i all ≡ r ∷ drop (i + 1) all = drop_more all i r below ∙ ap (λ (l : RegulationView). l ∷ drop (i + 1) all) (sym at) in
    ap (λ (x : Option Delay). worse x (W (drop (i + 1) all))) is
    ∙ worse-joins w d (W (drop (i + 1) all))
    ∙ ap (λ (x : Option Delay). worse w (worse x (W (drop (i + 1) all)))) delay
    ∙ ap (λ (ls : List RegulationView). worse w (W ls)) (sym rest)
    ∙ was

pub within-kept : (taxi limit : ℕ) (o : Option PlanView) (w d v : Option Delay) → IsDelayWithin taxi limit o w → IsDelayWithin taxi limit o d → v ≡ worse w d
    → IsDelayWithin taxi limit o v
within-kept taxi limit None w d v hw hd is = tt
within-kept taxi limit (Some p) w d v hw hd is =
    subst (λ (x : Option Delay). IfSome x (λ e. take_off taxi p + e.minutes ≤ limit)) (sym is) (worse-keeps (take_off taxi p) limit w d hw hd)

worst-at_end : (taxi n i : ℕ) (p : PlanView) (all : List RegulationView) (w : Option Delay) → length all ≤ i
    → worse w (worst taxi n p (map regulation_of (drop i all))) ≡ worst taxi n p (map regulation_of all)
    → w ≡ worst taxi n p (map regulation_of all)
worst-at_end taxi n i p all w past is =
    sym (worse-none w) ∙ ap (λ (rest : List RegulationView). worse w (worst taxi n p (map regulation_of rest))) (sym (drop_all i all past)) ∙ is

pub advice-none : (taxi n i : ℕ) (o : Option PlanView) (all : List RegulationView) (w : Option Delay) (told : Option Told) → length all ≤ i
    → IsWorstSoFar taxi n o (drop i all) all w → w ≡ None → told ≡ None → IfSome o (λ p. told ≡ advice taxi n p (map regulation_of all))
unfolding advice
advice-none taxi n i None all w told past is none e = tt
advice-none taxi n i (Some p) all w told past is none e =
    e ∙ ap (option_map (λ d. record { ctot = take_off taxi p + d.minutes; regulation = d.regulation })) (sym none ∙ worst-at_end taxi n i p all w past is)

pub advice-some : (taxi n i ctot off : ℕ) (o : Option PlanView) (all : List RegulationView) (w : Option Delay) (d : Delay) → length all ≤ i
    → IsWorstSoFar taxi n o (drop i all) all w → w ≡ Some d → IfSome o (λ p. off ≡ take_off taxi p) → ctot ≡ off + d.minutes
    → IfSome o (λ p. Some (record { ctot = ctot; regulation = d.regulation }) ≡ advice taxi n p (map regulation_of all))
unfolding advice
advice-some taxi n i ctot off None all w d past is some leaves e = tt
advice-some taxi n i ctot off (Some p) all w d past is some leaves e =
    let at : ctot ≡ take_off taxi p + d.minutes = e ∙ ap (λ (m : ℕ). m + d.minutes) leaves in
    ap (λ (m : ℕ). Some (record { ctot = m; regulation = d.regulation })) at
    ∙ ap (option_map (λ d. record { ctot = take_off taxi p + d.minutes; regulation = d.regulation })) (sym some ∙ worst-at_end taxi n i p all w past is)

-- each number of a plan has one
pub plan_at-there : (ps : List PlanView) (n : ℕ) → 0 < n → n ≤ length ps → (p : PlanView) × (plan_at ps n ≡ Some p)
plan_at-there ps n some within = at ps (n - 1) (omega arith)
  where
    at : (qs : List PlanView) (i : ℕ) → i < length qs → (p : PlanView) × (slice_get qs i ≡ Some p)
    at [] i h = absurd (omega arith)
    at (q ∷ qs) zero h = (q, refl)
    at (q ∷ qs) (suc i) h = at qs i (omega arith)

pub ctot-fits : (taxi n limit off : ℕ) (ps : List PlanView) (w : Option Delay) (d : Delay) → 0 < n → n ≤ length ps
    → IsDelayWithin taxi limit (plan_at ps n) w → w ≡ Some d → IfSome (plan_at ps n) (λ p. off ≡ take_off taxi p) → off + d.minutes ≤ limit
ctot-fits taxi n limit off ps w d some within bound is leaves =
    let there = plan_at-there ps n some within in
    let h = rw (there.1, is) at bound in
    let k = rw there.1 at leaves in
    omega (arith, h, k)
