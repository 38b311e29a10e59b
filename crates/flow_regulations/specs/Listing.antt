-- Open regulations with their slot lists, and what those keep of the plans.
use Rattle.std.specs.Prelude.{◌⊎◌, ◌≡◌, ℕ, zero, suc, ◌<◌, ◌≤◌, Bool, true, false, nat_lt, if◌then◌else◌, List, [], ◌∷◌, ◌++◌, map, filter, not, length, Option, Some, None, IsSome, slice_index_or as get_or}
use Rattle.std.specs.List.{All, AllByRecursion, list_any}
use Rattle.std.specs.Option.{option_map_or, is_some}
use Rattle.std.specs.Str.{bytes_eq}
use Rattle.fpl_message.specs.declared.order.Spot.{Spot}
use Rattle.flow_plans.specs.Plans.{PlanView, plan_at}
use Rattle.flow_slots.specs.declared.cell.Planned.{Planned}
use Rattle.flow_slots.specs.Period.{Period, IsRegular}
use Rattle.flow_slots.specs.Assignment.{Placed, is_in}
use Rattle.flow_slots.specs.Lineup.{Lineup, IsLineup, held_slot, fixed_slot, with_waiting, without_flight}
use Rattle.flow_slots.specs.ChangeList.{fixed_there}
use Rattle.flow_regulations.specs.Regulations.{Regulation, subject_to, waiting_from, lineup_of}
use Rattle.flow_regulations.specs.Settling.{is_due, is_due_flight, keeps, keeps_pair, settled, frozen_at_departure, pairs_of}

-- an open regulation with its slot list
pub record RegulationView : Type 0 where
  pub id : List ℕ
  pub spot : Spot
  pub lineup : Lineup

abbrev pub regulation_of : RegulationView → Regulation
regulation_of l = record { id = l.id; spot = l.spot; period = l.lineup.period; fixed = l.lineup.fixed }

-- the open regulations in order of opening, their capacity, and the greatest flight number
pub record RegulationsView : Type 0 where
  pub max_plans : ℕ
  pub lists : List RegulationView
  pub room : ℕ

-- each slot list is that of its regulation and these plans
abbrev pub IsListedIn : ℕ → ℕ → List PlanView → RegulationView → Type 0
IsListedIn taxi max plans l = l.lineup ≡ lineup_of taxi max plans (regulation_of l)

abbrev pub IsListed : ℕ → ℕ → List PlanView → List RegulationView → Type 0
IsListed taxi max plans lists = AllByRecursion (IsListedIn taxi max plans) lists

-- the frozen flights may all keep their slots, and no flight with a provisional slot is due
pub record IsSettledIn (taxi now : ℕ) (plans : List PlanView) (l : RegulationView) : Type 0 where
  pub fixed : AllByRecursion (λ a. (0 < a.flight) × (keeps_pair taxi now plans (regulation_of l) a ≡ true)) l.lineup.fixed
  pub waiting : AllByRecursion (λ w. is_due_flight now plans w.flight ≡ false) l.lineup.waiting

abbrev pub IsSettled : ℕ → ℕ → List PlanView → List RegulationView → Type 0
IsSettled taxi now plans lists = AllByRecursion (IsSettledIn taxi now plans) lists

-- the same of all flights but one
pub record IsSettledBut (number taxi now : ℕ) (plans : List PlanView) (l : RegulationView) : Type 0 where
  pub fixed : AllByRecursion (λ a. (0 < a.flight) × ((a.flight ≡ number → ⊥) → keeps_pair taxi now plans (regulation_of l) a ≡ true)) l.lineup.fixed
  pub waiting : AllByRecursion (λ w. (w.flight ≡ number → ⊥) → is_due_flight now plans w.flight ≡ false) l.lineup.waiting

abbrev pub AreSettledBut : ℕ → ℕ → ℕ → List PlanView → List RegulationView → Type 0
AreSettledBut number taxi now plans lists = AllByRecursion (IsSettledBut number taxi now plans) lists

-- an open regulation with another slot list
abbrev pub with_lineup : Lineup → RegulationView → RegulationView
with_lineup lineup l = record { id = l.id; spot = l.spot; lineup = lineup }

-- the slot list of a settled regulation, which was this one before
pub record IsRenewed (taxi max now : ℕ) (plans : List PlanView) (l : RegulationView) (lineup : Lineup) : Type 0 where
  pub regulation : regulation_of (with_lineup lineup l) ≡ settled taxi now plans (regulation_of l)
  pub listed : IsListedIn taxi max plans (with_lineup lineup l)
  pub settled_in : IsSettledIn taxi now plans (with_lineup lineup l)

-- the plans of all numbers but one are those before: a message changed that plan, or added it as
-- the last
abbrev pub AreSameBut : ℕ → List PlanView → List PlanView → Type 0
AreSameBut number before plans = (flight : ℕ) → 0 < flight → (flight ≡ number → ⊥) → plan_at plans flight ≡ plan_at before flight

-- and without a flight
abbrev pub without_in : ℕ → RegulationView → RegulationView
without_in flight l = with_lineup (without_flight flight l.lineup) l

-- whether a frozen flight keeps its slot
abbrev pub keeps_slot : ℕ → ℕ → Regulation → ℕ → PlanView → Lineup → Bool
keeps_slot taxi now r flight p l = option_map_or (λ slot. keeps taxi now r slot p) (fixed_slot l flight) false

-- a flight gets a slot by its entry, and is frozen in it if it is due
abbrev pub placed : Option ℕ → Bool → ℕ → Lineup → Lineup
placed None due flight l = l
placed (Some entry) due flight l =
    let waits = with_waiting (record { entry = entry; flight = flight }) l in
    if due then fixed_there (held_slot waits flight) flight waits else waits

-- a slot list after one of its flights was reallocated
abbrev pub looked_again : ℕ → ℕ → Regulation → ℕ → PlanView → Lineup → Lineup
looked_again taxi now r flight p l =
    if keeps_slot taxi now r flight p l then l
    else placed (subject_to taxi r p) (is_due now p) flight (without_flight flight l)

-- the first ones were replaced in turn, each by one that is related to it, and the others are
-- unchanged
abbrev pub Walked : {X : Type 0} → (X → X → Type 0) → ℕ → List X → List X → Type 0
Walked R zero xs ys = ys ≡ xs
Walked R (suc i) [] [] = Unit {0}
Walked R (suc i) [] (y ∷ ys) = ⊥
Walked R (suc i) (x ∷ xs) [] = ⊥
Walked R (suc i) (x ∷ xs) (y ∷ ys) = R x y × Walked R i xs ys

-- what a message about one flight does to each open regulation
pub record IsLookedAgain (number taxi now : ℕ) (plans : List PlanView) (l m : RegulationView) : Type 0 where
  pub same : m ≡ with_lineup m.lineup l
  pub capacity : m.lineup.capacity ≡ l.lineup.capacity
  pub others : (f : ℕ) → (f ≡ number → ⊥) → pairs_of f m.lineup.fixed ≡ pairs_of f l.lineup.fixed
  pub alone : without_in number m ≡ without_in number l
  pub renewed : (max : ℕ) (before : List PlanView) → IsListedIn taxi max before l → IsSettledBut number taxi now before l → AreSameBut number before plans → IsRenewed taxi max now plans l m.lineup

-- all regulations are settled by these plans
pub record AreRenewed (taxi max now : ℕ) (plans : List PlanView) (lists new : List RegulationView) : Type 0 where
  pub regulations : map regulation_of new ≡ map (settled taxi now plans) (map regulation_of lists)
  pub listed : IsListed taxi max plans new
  pub settled_in : IsSettled taxi now plans new

abbrev pub HaveCapacity : ℕ → List RegulationView → Type 0
HaveCapacity max lists = AllByRecursion (λ l. l.lineup.capacity ≡ max) lists

-- a slot list in which a flight's provisional slot is frozen, if it has one
abbrev pub fixed_waiting : ℕ → Lineup → Lineup
fixed_waiting flight l = if is_some (fixed_slot l flight) then l else fixed_there (held_slot l flight) flight l

-- the slot list of a regulation in which a departing flight was frozen
pub record IsFrozen (taxi max flight : ℕ) (before : List PlanView) (l : RegulationView) (lineup : Lineup) : Type 0 where
  pub regulation : regulation_of (with_lineup lineup l) ≡ frozen_at_departure taxi max before flight (regulation_of l)
  pub listed : IsListedIn taxi max before (with_lineup lineup l)
  pub settled_but : (now : ℕ) → IsSettledIn taxi now before l → IsSettledBut flight taxi now before (with_lineup lineup l)

-- what freezing a flight's provisional slot does to an open regulation; if the flight is held, none
-- was in the list twice and the period is regular
pub record IsFixedWaiting (flight : ℕ) (l m : RegulationView) : Type 0 where
  pub same : m ≡ with_lineup (fixed_waiting flight l.lineup) l
  pub capacity : m.lineup.capacity ≡ l.lineup.capacity
  pub lined : IsSome (held_slot l.lineup flight) → IsLineup l.lineup
  pub regular : IsSome (held_slot l.lineup flight) → IsRegular l.lineup.period

-- all regulations froze the slot of a departing flight
pub record AreFrozen (taxi max flight : ℕ) (before : List PlanView) (lists new : List RegulationView) : Type 0 where
  pub regulations : map regulation_of new ≡ map (frozen_at_departure taxi max before flight) (map regulation_of lists)
  pub listed : IsListed taxi max before new
  pub settled_but : (now : ℕ) → IsSettled taxi now before lists → AreSettledBut flight taxi now before new

-- all frozen flights may keep their slots at this time
abbrev pub AllStay : ℕ → ℕ → List PlanView → RegulationView → Type 0
AllStay taxi now plans l = AllByRecursion (λ a. (0 < a.flight) × (keeps_pair taxi now plans (regulation_of l) a ≡ true)) l.lineup.fixed

-- none of these flights is due
abbrev pub AreUndue : ℕ → List PlanView → List Planned → Type 0
AreUndue now plans flights = AllByRecursion (λ w. is_due_flight now plans w.flight ≡ false) flights

-- no flight with a provisional slot is due
abbrev pub NoneDue : ℕ → List PlanView → RegulationView → Type 0
NoneDue now plans l = AreUndue now plans l.lineup.waiting

-- part of the way to the settled regulation: of these flights, those that are due are frozen
pub record IsAdvanced (done : ℕ → Bool) (taxi max now : ℕ) (plans : List PlanView) (l m : RegulationView) : Type 0 where
  pub regulation : settled taxi now plans (regulation_of m) ≡ settled taxi now plans (regulation_of l)
  pub listed : IsListedIn taxi max plans m
  pub stay : AllStay taxi now plans m
  pub waiting : AllByRecursion (λ w. done w.flight ≡ true → is_due_flight now plans w.flight ≡ false) m.lineup.waiting
  pub undue : (earlier : ℕ) → NoneDue earlier plans l → NoneDue earlier plans m

pub record IsAdvancing (done : ℕ → Bool) (taxi now : ℕ) (plans : List PlanView) (l m : RegulationView) : Type 0 where
  pub capacity : m.lineup.capacity ≡ l.lineup.capacity
  pub advanced : (max : ℕ) → IsListedIn taxi max plans l → AllStay taxi now plans l → IsAdvanced done taxi max now plans l m

-- the flights below a number
abbrev pub is_below : ℕ → ℕ → Bool
is_below number flight = nat_lt flight number

-- and those of a list
abbrev pub is_among : List ℕ → ℕ → Bool
is_among numbers flight = is_in flight numbers

-- an open regulation in which these flights' provisional slots are frozen, one after the other
abbrev pub all_fixed_waiting : List ℕ → Lineup → Lineup
all_fixed_waiting [] l = l
all_fixed_waiting (n ∷ ns) l = all_fixed_waiting ns (fixed_waiting n l)

abbrev pub with_fixed_waiting : List ℕ → RegulationView → RegulationView
with_fixed_waiting flights l = with_lineup (all_fixed_waiting flights l.lineup) l

-- a frozen flight has a provisional slot again, if it has an entry
abbrev pub released : Option ℕ → ℕ → Lineup → Lineup
released None flight l = l
released (Some entry) flight l =
    if is_some (fixed_slot l flight) then with_waiting (record { entry = entry; flight = flight }) (without_flight flight l) else l

abbrev pub released_in : ℕ → PlanView → ℕ → RegulationView → RegulationView
released_in taxi p flight l = with_lineup (released (subject_to taxi (regulation_of l) p) flight l.lineup) l

-- what making a flight's slot provisional again does to an open regulation
pub record IsReleased (flight taxi : ℕ) (plans : List PlanView) (l m : RegulationView) : Type 0 where
  pub id : m.id ≡ l.id
  pub same : (p : PlanView) → plan_at plans flight ≡ Some p → m ≡ released_in taxi p flight l
  pub capacity : m.lineup.capacity ≡ l.lineup.capacity

-- each of these flights is due
abbrev pub AreDue : ℕ → List PlanView → List ℕ → Type 0
AreDue now plans flights = All (λ n. (0 < n) × (is_due_flight now plans n ≡ true)) flights

-- each flight that is due now and was not due earlier is one of these
abbrev pub HoldNewlyDue : ℕ → ℕ → List PlanView → List ℕ → Type 0
HoldNewlyDue earlier now plans flights =
    (flight : ℕ) → 0 < flight → is_due_flight now plans flight ≡ true → is_due_flight earlier plans flight ≡ false → is_in flight flights ≡ true

-- a regulation as it is opened, without flights
abbrev pub with_no_flights : List ℕ → Spot → Period → ℕ → RegulationView
with_no_flights id spot period max = record { id = id; spot = spot; lineup = record { period = period; capacity = max; waiting = []; fixed = [] } }

-- the same with the flights of these plans in provisional slots
abbrev pub opened : ℕ → List PlanView → RegulationView → RegulationView
opened taxi plans l =
    with_lineup (record { period = l.lineup.period; capacity = l.lineup.capacity; waiting = waiting_from 1 taxi (regulation_of l) [] plans; fixed = [] }) l

-- one more regulation, the last, which is settled from no frozen flights
abbrev pub IsOpened : ℕ → ℕ → ℕ → List PlanView → Regulation → List RegulationView → List RegulationView → Type 0
IsOpened taxi max now plans r lists new =
    (l : RegulationView) × (new ≡ lists ++ l ∷ []) × (regulation_of l ≡ settled taxi now plans r) × IsListedIn taxi max plans l × IsSettledIn taxi now plans l

-- the regulation of this name, and the others
abbrev pub is_named : List ℕ → RegulationView → Bool
is_named id l = bytes_eq l.id id

abbrev pub without_named : List ℕ → List RegulationView → List RegulationView
without_named id lists = filter (λ l. not (is_named id l)) lists

-- the names of open regulations, of which no two are the same
abbrev pub names_in : List RegulationView → List (List ℕ)
names_in lists = map (λ l. l.id) lists

abbrev pub AreApart : List (List ℕ) → Type 0
AreApart [] = Unit {0}
AreApart (x ∷ xs) = (list_any (λ y. bytes_eq y x) xs ≡ false) × AreApart xs

-- a closed regulation, with its index in the order of opening
pub record ClosedView : Type 0 where
  pub index : ℕ
  pub listed : RegulationView

-- it may be opened again there
pub record MayReopen (closing : ClosedView) (listing : RegulationsView) : Type 0 where
  pub index : closing.index ≤ length listing.lists
  pub capacity : closing.listed.lineup.capacity ≡ listing.max_plans
  pub name : list_any (is_named closing.listed.id) listing.lists ≡ false
  pub room : length listing.lists < listing.room

-- the regulation at this index has this name
abbrev pub IsNamedAt : List ℕ → ℕ → List RegulationView → Type 0
IsNamedAt id index lists = (index < length lists) × ((l : RegulationView) → is_named id (get_or lists index l) ≡ true)

-- the slot list of the first regulation of this name
abbrev pub lineup_named : List ℕ → List RegulationView → Option Lineup
lineup_named id [] = None
lineup_named id (l ∷ ls) = if is_named id l then Some l.lineup else lineup_named id ls

-- whether a flight has a frozen slot in the first regulation of this name
abbrev pub is_frozen_in : List ℕ → List RegulationView → ℕ → Bool
is_frozen_in id lists flight = option_map_or (λ l. is_some (fixed_slot l flight)) (lineup_named id lists) false

-- the pairs of a flight, regulation by regulation
abbrev pub pairs_in : ℕ → List RegulationView → List (List Placed)
pairs_in flight lists = map (λ l. pairs_of flight l.lineup.fixed) lists

-- the pair is one of these
abbrev pub HasPair : Placed → List Placed → Type 0
HasPair a [] = ⊥
HasPair a (x ∷ xs) = (x ≡ a) ⊎ HasPair a xs
