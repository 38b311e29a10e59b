-- What is shown of the open regulations of a desk gives frozen flights the slots of the advice.
use Rattle.std.proofs.Common.{◌≡◌, inl, inr, ◌<◌, ◌+◌, ◌-◌, ◌∙◌, ℕ, List, [], ◌∷◌, Option, None, Some, refl, ap, sym, subst}
use Rattle.std.specs.Prelude.{IsSome, IfSome, fold}
use Rattle.std.specs.List.{AllZip, AllByRecursion}
use Rattle.std.specs.Option.{option_map, option_map_or, option_and_then}
use Rattle.fpl_message.specs.declared.order.Spot.{Spot}
use Rattle.flow_plans.specs.Plans.{PlanView, plan_at}
use Rattle.flow_plans.specs.Entries.{entry_at, take_off}
use Rattle.flow_slots.specs.Period.{slot_time}
use Rattle.flow_slots.specs.Lineup.{Lineup, len_of, assigned, slot_in, held_flight, fixed_slot}
use Rattle.flow_slots.specs.LineupLaws.{IsSound, NoneTwice}
use Rattle.flow_regulations.specs.declared.notice.Told.{Told}
use Rattle.flow_regulations.specs.Regulations.{Regulation, lineup_of}
use Rattle.flow_regulations.specs.Advice.{advice}
use Rattle.flow_traffic.specs.Traffic.{Traffic, slots_of, told_of}
use Rattle.flow_core.specs.History.{History, state_of}
use Rattle.flow_core.proofs.SlotRuns.{slots-sound}
use Rattle.flow_view.specs.declared.delay.FlightDelay.{FlightDelay}
use Rattle.flow_view.specs.declared.slot_row.SlotRow.{SlotRow}
use Rattle.flow_view.specs.Openings.{OpeningView}
use Rattle.flow_view.specs.Shown.{shown_flight, slot_row_of, shown}
use Rattle.flow_view.specs.Totals.{delay_of}
use Rattle.flow_view.specs.Delays.{row_delay, worse_by, worse_in, delay_of_flight}
use Rattle.flow_view.specs.Advised.{slot_with, GivesAdvised, IsShownOf, IsFrozenOrOut, list_of}
use Rattle.flow_view.proofs.Advised.{advised}
use Rattle.flow_view.proofs.Frozen.{slot-found, slot-of-held, held-of-slot, slot-append, slot-none, none-twice, none-before, some-after, one-advised, none-advised-in}

some-of : {X : Type 0} (m : Option X) → IsSome m → (x : X) × (m ≡ Some x)
some-of None h = absurd cc
some-of (Some x) h = (x, refl)

same-some : (j k : ℕ) → Some j ≡ Some k → j ≡ k
same-some j k e = cc

none-some : (k : ℕ) → None ≡ Some k → ⊥
none-some k e = absurd cc

-- its slot list
is-list : (h : History) (o : OpeningView) (r : Regulation) → IsShownOf h o r → slots_of (state_of h).traffic o.id ≡ Some (list_of h r)
is-list h o r s =
    let t : Traffic = (state_of h).traffic in
    ap (slots_of t) s.id ∙ ap (λ (m : Option Regulation). option_map (lineup_of t.taxi t.max_plans t.plans) m) s.named

sound-list : (h : History) (o : OpeningView) (r : Regulation) → IsShownOf h o r → IsSound (list_of h r)
sound-list h o r s = subst (λ (m : Option Lineup). IfSome m IsSound) (is-list h o r s) (slots-sound h.setup h.filed o.id)

-- its rows
rows-of-list : (h : History) (o : OpeningView) (r : Regulation) → IsShownOf h o r → o.rows ≡ shown h r.spot (list_of h r)
rows-of-list h o r s =
    s.rows ∙ (ap (λ (m : Option Lineup). option_map_or (shown h o.spot) m []) (is-list h o r s) ∙ ap (λ (spot : Spot). shown h spot (list_of h r)) s.spot)

-- the delay of the row of a flight that enters then
row-delay : (taxi n k e : ℕ) (t : Traffic) (spot : Spot) (l : Lineup) (p : PlanView) → plan_at t.plans n ≡ Some p → entry_at taxi spot p ≡ Some e
    → delay_of (slot_row_of taxi t spot l (record { flight = n; slot = k })) ≡ slot_time l.period k - e
row-delay taxi n k e t spot l p there entry =
    ap (λ (m : Option PlanView). option_map_or (λ x. slot_time l.period k - x) (option_and_then (λ f. f.entry) (option_map (λ q. shown_flight taxi spot q (told_of t.told n)) m)) 0) there
    ∙ ap (λ (m : Option ℕ). option_map_or (λ x. slot_time l.period k - x) m 0) entry

gives : (h : History) (n : ℕ) (p : PlanView) (o : OpeningView) (r : Regulation) → plan_at (state_of h).traffic.plans n ≡ Some p → IsShownOf h o r → IsFrozenOrOut h n p r
    → GivesAdvised h.setup.taxi n p o r
gives h n p o r there s (inl frozen) =
    let t : Traffic = (state_of h).traffic in
    let l : Lineup = list_of h r in
    let taxi : ℕ = h.setup.taxi in
    let sound : IsSound l = sound-list h o r s in
    let twice : NoneTwice (assigned l) = none-twice l sound in
    let slot = some-of (fixed_slot l n) frozen.0 in
    let entry = some-of (entry_at taxi r.spot p) frozen.1 in
    let held_there : slot_in n (assigned l) ≡ Some slot.0 = slot-append n slot.0 l.fixed _ slot.1 in
    let here : held_flight l slot.0 ≡ Some n = held-of-slot slot.0 n (assigned l) twice held_there in
    let one : (j : ℕ) → held_flight l j ≡ Some n → j ≡ slot.0 = λ j q. same-some j slot.0 (sym (slot-of-held j n (assigned l) twice q) ∙ held_there) in
    let below : slot.0 < len_of l = slot-found (λ k. k < len_of l) n slot.0 l.fixed sound.fixed_slots slot.1 in
    let row : SlotRow = slot_row_of taxi t r.spot l (record { flight = n; slot = slot.0 }) in
    let all : worse_in n None o ≡ Some (row_delay o row)
    = ap (fold (worse_by n o) None) (rows-of-list h o r s) ∙ some-after taxi n t r.spot l o slot.0 (len_of l) below here one in
    let told : ℕ → List ℕ → Option Told = λ m id. Some (record { ctot = take_off taxi p + m; regulation = id }) in
    ap (λ (m : Option FlightDelay). option_map (slot_with taxi p) m) all
    ∙ (ap (λ m. told m o.id) (row-delay taxi n slot.0 entry.0 t r.spot l p there entry.1)
    ∙ (ap (told (slot_time r.period slot.0 - entry.0)) s.id
    ∙ sym (one-advised taxi n p r slot.0 entry.0 slot.1 entry.1)))
gives h n p o r there s (inr out) =
    let t : Traffic = (state_of h).traffic in
    let l : Lineup = list_of h r in
    let twice : NoneTwice (assigned l) = none-twice l (sound-list h o r s) in
    let never : (j : ℕ) → j < len_of l → held_flight l j ≡ Some n → ⊥ = λ j lt q. none-some j (sym out ∙ slot-of-held j n (assigned l) twice q) in
    let all : worse_in n None o ≡ None
    = ap (fold (worse_by n o) None) (rows-of-list h o r s) ∙ none-before h.setup.taxi n t r.spot l o (len_of l) never in
    ap (λ (m : Option FlightDelay). option_map (slot_with h.setup.taxi p) m) all ∙ sym (none-advised-in h.setup.taxi n p r (slot-none n l.fixed _ out))

all-give : (h : History) (n : ℕ) (p : PlanView) (os : List OpeningView) (rs : List Regulation) → plan_at (state_of h).traffic.plans n ≡ Some p
    → AllZip (IsShownOf h) os rs → AllByRecursion (IsFrozenOrOut h n p) rs → AllZip (GivesAdvised h.setup.taxi n p) os rs
all-give h n p [] [] there are frozen = tt
all-give h n p [] (r ∷ rs) there are frozen = absurd are
all-give h n p (o ∷ os) [] there are frozen = absurd are
all-give h n p (o ∷ os) (r ∷ rs) there are frozen = (gives h n p o r there are.0 frozen.0, all-give h n p os rs there are.1 frozen.1)

pub advised-at : (h : History) (n : ℕ) (p : PlanView) (os : List OpeningView) → plan_at (state_of h).traffic.plans n ≡ Some p
    → AllZip (IsShownOf h) os (state_of h).traffic.regulations → AllByRecursion (IsFrozenOrOut h n p) (state_of h).traffic.regulations
    → option_map (slot_with h.setup.taxi p) (delay_of_flight os n) ≡ advice h.setup.taxi n p (state_of h).traffic.regulations
advised-at h n p os there are frozen =
    advised h.setup.taxi n p os (state_of h).traffic.regulations (all-give h n p os (state_of h).traffic.regulations there are frozen)
