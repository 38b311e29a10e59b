-- What undoes the last reading.
use Rattle.std.specs.Prelude.{◌≡◌, ◌≤◌, ◌<◌, ◌+◌, ◌-◌, ◌++◌, ℕ, suc, Bool, true, false, List, [], ◌∷◌, length, map, take, Option, None, Some, IfSome}
use Rattle.std.specs.List.{All}
use Rattle.std.specs.List.Sorted.{IsStrictlyIncreasing}
use Rattle.std.specs.Option.{option_map_or}
use Rattle.flow_plans.specs.Plans.{PlanView, plan_at}
use Rattle.flow_slots.specs.Assignment.{is_in}
use Rattle.flow_slots.specs.Lineup.{without_flight}
use Rattle.flow_regulations.specs.declared.notice.Told.{Told}
use Rattle.flow_regulations.specs.declared.notice.Notice.{Notice}
use Rattle.flow_regulations.specs.declared.slot_state.NotedPlace.{NotedPlace}
use Rattle.flow_regulations.specs.Awaiting.{DueQueueView, Covers, HaveBecomeDue}
use Rattle.flow_regulations.specs.Listing.{RegulationView, ClosedView, MayReopen, with_lineup, without_in, with_fixed_waiting, released_in, HoldNewlyDue}
use Rattle.flow_regulations.specs.SlotStates.{stood, place_at, ArePlaces}
use Rattle.flow_traffic.specs.declared.undo.Last.{Last}
use Rattle.flow_traffic.specs.declared.undo.Last.TheVariants as reading
use Rattle.flow_traffic.specs.Traffic.{Traffic, told_of}
use Rattle.flow_traffic.specs.State.{TrafficState, with_plans, with_lists, traffic_of}
use Rattle.flow_traffic.specs.Telling.{told_again}
use Rattle.flow_traffic.specs.Reopening.{open_again}
use Rattle.flow_traffic.specs.Kept.{IsKeptState}

-- a flight has its former slots again, from the regulation at this index on
abbrev pub stood_again : ℕ → ℕ → List NotedPlace → List RegulationView → List RegulationView
stood_again number index places [] = []
stood_again number index places (l ∷ ls) =
    with_lineup (stood (place_at places index) number (without_flight number l.lineup)) l ∷ stood_again number (suc index) places ls

-- a flight has a provisional slot again
abbrev pub waiting_again : ℕ → List PlanView → ℕ → List RegulationView → List RegulationView
waiting_again taxi plans number lists = option_map_or (λ p. map (released_in taxi p number) lists) (plan_at plans number) lists

-- these flights have, the last one first
abbrev pub all_waiting_again : ℕ → List PlanView → List ℕ → List RegulationView → List RegulationView
all_waiting_again taxi plans [] lists = lists
all_waiting_again taxi plans (n ∷ ns) lists = waiting_again taxi plans n (all_waiting_again taxi plans ns lists)

-- without the regulation that was opened last
abbrev pub before_last : List RegulationView → List RegulationView
before_last lists = take (length lists - 1) lists

-- the capacities: for slots, for plan numbers, and for CTOTs issued before
pub record Room : Type 0 where
  pub places : ℕ
  pub numbers : ℕ
  pub told : ℕ

-- what is recorded of the last reading
pub record UndoingView : Type 0 where
  -- which reading it was
  pub which : Last
  -- the slots that the flight of a message had before
  pub places : List NotedPlace
  -- the numbers of the plans whose slots it may have changed
  pub changed : List ℕ
  -- the CTOTs issued to those before
  pub noted : List (Option Told)
  -- the regulation that was closed last
  pub closed : Option ClosedView
  -- the number of notices before
  pub issued : ℕ
  pub room : Room

-- whether it may have changed anything
abbrev pub has_changed : Last → Bool
has_changed reading.Nothing = false
has_changed reading.Refused = false
has_changed which = true

-- the state before it, with the queue of now
abbrev pub state_past : Last → UndoingView → TrafficState → TrafficState
state_past reading.Nothing r s = s
state_past reading.Refused r s = s
state_past (reading.Message number) r s =
    with_plans (option_map_or (λ plans. plans) s.store.before []) (with_lists (stood_again number 0 r.places s.listing.lists) s)
state_past (reading.Time earlier) r s = record (with_lists (all_waiting_again s.store.taxi s.store.plans r.changed s.listing.lists) s) { time = earlier }
state_past reading.Open r s = with_lists (before_last s.listing.lists) s
state_past reading.Shut r s = with_lists (open_again r.closed s.listing.lists) s

-- the CTOTs issued to plans in that state
abbrev pub told_past : UndoingView → TrafficState → List (Option Told) → List (Option Told)
told_past r p told = take (length p.store.plans) (told_again r.changed r.noted told)

-- the traffic in that state, without the notices since
abbrev pub traffic_past : UndoingView → TrafficState → List (Option Told) → List Notice → Traffic
traffic_past r p told notices = traffic_of p (told_past r p told) (take r.issued notices)

-- the traffic before the last reading, if that can be undone
abbrev pub undone_traffic : Last → UndoingView → TrafficState → List (Option Told) → List Notice → Option Traffic
undone_traffic reading.Nothing r s told notices = None
undone_traffic reading.Refused r s told notices = Some (traffic_of s told notices)
undone_traffic which r s told notices = Some (traffic_past r (state_past which r s) told notices)

-- a message about the plan of this number can be undone
pub record CanForget (number : ℕ) (r : UndoingView) (s p : TrafficState) : Type 0 where
  pub some : 0 < number
  pub room : number ≤ s.listing.max_plans
  pub before : s.store.before ≡ Some p.store.plans
  pub stand : ArePlaces number r.places p.listing.lists
  pub alone : map (without_in number) s.listing.lists ≡ map (without_in number) p.listing.lists
  pub covers : Covers s.time p.store.plans s.queue.flights

-- so can TIME, which advanced the desk's time from this one
pub record CanGoBack (earlier : ℕ) (r : UndoingView) (s p : TrafficState) : Type 0 where
  pub due : HaveBecomeDue s.store.taxi s.listing.max_plans earlier s.time s.store.plans r.changed p.listing.lists
  pub fixed : s.listing.lists ≡ map (with_fixed_waiting r.changed) p.listing.lists
  pub within : All (λ n. (0 < n) × (n ≤ length s.store.plans)) r.changed
  pub hold : HoldNewlyDue earlier s.time s.store.plans r.changed
  pub covers : Covers s.time s.store.plans s.queue.flights
  pub room : length s.queue.flights + length r.changed ≤ s.queue.room

-- so can the last reading
abbrev pub CanUndo : Last → UndoingView → TrafficState → Type 0
CanUndo reading.Nothing r s = Unit {0}
CanUndo reading.Refused r s = Unit {0}
CanUndo (reading.Message number) r s = CanForget number r s (state_past (reading.Message number) r s)
CanUndo (reading.Time earlier) r s = CanGoBack earlier r s (state_past (reading.Time earlier) r s)
CanUndo reading.Open r s = (l : RegulationView) × (s.listing.lists ≡ before_last s.listing.lists ++ l ∷ [])
CanUndo reading.Shut r s = IfSome r.closed (λ c. MayReopen c s.listing)

-- a state has the time, plans and slot lists of an earlier one again, and its queue each filed
-- flight that isn't due
pub record IsAgain (p s : TrafficState) : Type 0 where
  pub time : s.time ≡ p.time
  pub plans : s.store.plans ≡ p.store.plans
  pub taxi : s.store.taxi ≡ p.store.taxi
  pub most : s.store.max_plans ≡ p.store.max_plans
  pub lists : s.listing.lists ≡ p.listing.lists
  pub limit : s.listing.max_plans ≡ p.listing.max_plans
  pub covers : Covers s.time s.store.plans s.queue.flights

-- the recorded numbers rise, all other plans are unchanged, and these are the CTOTs issued to those
-- before
pub record AreNoted (r : UndoingView) (plans before : List PlanView) (told : List (Option Told)) : Type 0 where
  pub rising : IsStrictlyIncreasing r.changed
  pub each : length told ≡ length before
  pub others : (number : ℕ) → 0 < number → is_in number r.changed ≡ false → plan_at plans number ≡ plan_at before number
  pub were : r.noted ≡ map (told_of told) r.changed

-- the CTOTs issued to plans can be restored, and then the traffic is kept as before
pub record WasKept (r : UndoingView) (s p : TrafficState) (told : List (Option Told)) : Type 0 where
  pub each : length r.noted ≡ length r.changed
  pub numbers : All (λ n. (0 < n) × (n ≤ length told)) r.changed
  pub changes : AreNoted r s.store.plans p.store.plans (told_past r p told)
  pub kept : (queue : DueQueueView) → Covers p.time p.store.plans queue.flights → IsKeptState (record p { queue = queue }) (told_past r p told)

-- how the traffic is kept, with what undoes the last reading
pub record IsKeptWith (r : UndoingView) (s : TrafficState) (told : List (Option Told)) : Type 0 where
  pub kept : IsKeptState s told
  pub can : CanUndo r.which r s
  pub was : has_changed r.which ≡ true → WasKept r s (state_past r.which r s) told
