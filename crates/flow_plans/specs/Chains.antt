-- How plans are found by identification, departure and destination, which name a flight. For each
-- flight there is a chain of the held plans of its name, the newest first: a map has the number of
-- the newest, and beside each plan is that of the next older one. If there is none, the number is
-- 0.
use Rattle.std.specs.Prelude.{◌≡◌, ℕ, zero, suc, ◌+◌, ◌-◌, ◌*◌, ◌<◌, ◌≤◌, Bool, true, ◌==◌, ◌&&◌, if◌then◌else◌, List, [], ◌∷◌, length, cond, Some, None, IfSome, unwrap_or, slice_index}
use Rattle.std.specs.List.{fold}
use Rattle.std.specs.Map.{lookup}
use Rattle.fpl_message.specs.declared.parts.Parts.{Parts}
use Rattle.flow_plans.specs.declared.chains.FlightName.{FlightName}
use Rattle.flow_plans.specs.declared.plan.Key.{Key}
use Rattle.flow_plans.specs.Letters.{letters_of}
use Rattle.flow_plans.specs.Changes.{others}
use Rattle.flow_plans.specs.Plans.{PlanView, is_held, plan_at}
use Rattle.flow_plans.specs.Searching.{passes_at}

-- bytes as one number to the base 256
unfoldable pub base_256 : List ℕ → ℕ
base_256 bytes = fold (λ number byte. 256 * number + byte) 0 bytes

-- the name of a flight of this identification, departure and destination
abbrev pub flight_named : List ℕ → List ℕ → List ℕ → FlightName
flight_named ident dep dest = record { ident = base_256 ident; ends = 4_294_967_296 * letters_of dep + letters_of dest }

abbrev pub flight_of_key : Key → FlightName
flight_of_key key = flight_named key.ident key.dep key.dest

abbrev pub flight_of_parts : Parts → FlightName
flight_of_parts parts = flight_named parts.ident parts.dep parts.dest

abbrev pub same_flight : FlightName → FlightName → Bool
same_flight a b = (a.ident == b.ident) && (a.ends == b.ends)

-- a plan that was filed and not cancelled, and has this name now
abbrev pub is_held_under : FlightName → PlanView → Bool
is_held_under name plan = is_held plan.state && same_flight name (flight_of_key plan.key)

-- whether the plan at an index is held under a name
abbrev pub is_held_there : FlightName → List PlanView → ℕ → Bool
is_held_there name plans place = passes_at (is_held_under name) plans place

-- one more than the last of the first n indices that pass a test, or 0
unfoldable pub last_number : (ℕ → Bool) → ℕ → ℕ
last_number test zero = 0
last_number test (suc n) = if test n then n + 1 else last_number test n

-- the number of the newest of the first n plans that are held under a name
abbrev pub newest_held : FlightName → List PlanView → ℕ → ℕ
newest_held name plans n = last_number (is_held_there name plans) n

-- all chains: from each flight the number of its newest plan, from each plan that of the next
-- older, and the capacity for more flights
pub record ChainsView : Type 0 where
  pub heads : List (FlightName × ℕ)
  pub older : List ℕ
  pub room : ℕ

abbrev pub newest : List (FlightName × ℕ) → FlightName → ℕ
newest heads name = unwrap_or (lookup (same_flight name) heads) 0

-- the newest plan of one flight has this number now, those of the others are unchanged
abbrev pub IsUpdated : List (FlightName × ℕ) → List (FlightName × ℕ) → FlightName → ℕ → Type 0
IsUpdated heads later name number =
    (q : FlightName) → lookup (same_flight q) later ≡ cond (same_flight name q) (Some number) (lookup (same_flight q) heads)

-- one flight is in the map no more, the others are unchanged
abbrev pub IsForgotten : List (FlightName × ℕ) → List (FlightName × ℕ) → FlightName → Type 0
IsForgotten heads later name =
    (q : FlightName) → lookup (same_flight q) later ≡ cond (same_flight name q) None (lookup (same_flight q) heads)

-- from each plan the chain goes on to one before it, or ends
abbrev pub GoDown : List ℕ → Type 0
GoDown older = (place : ℕ) → slice_index older place ≤ place

-- from each index that passes a test the chain goes on to the last before it that does
abbrev pub AreLinks : (ℕ → Bool) → List ℕ → Type 0
AreLinks test older = (place : ℕ) → test place ≡ true → slice_index older place ≡ last_number test place

-- the index of this number passes a test
abbrev pub IsNewest : (ℕ → Bool) → ℕ → Type 0
IsNewest test number = (place : ℕ) → number ≡ place + 1 → test place ≡ true

-- the chains have, for each flight, the plans that are held under its name, all of them and no
-- others
pub record AreChained (chains : ChainsView) (plans : List PlanView) : Type 0 where
  pub count : length chains.older ≡ length plans
  pub heads : (name : FlightName) → newest chains.heads name ≡ newest_held name plans (length plans)
  pub links : (name : FlightName) → AreLinks (is_held_there name plans) chains.older

-- these are the chains of plans but for the one of this number
pub record IsApart (chains : ChainsView) (number : ℕ) : Type 0 where
  pub plans : List PlanView
  pub within : (0 < number) × (number ≤ length plans)
  pub chained : AreChained chains (others number plans)

-- of whatever plans these were the chains, the one of this number under that name is now in none
abbrev pub LeaveOut : ChainsView → ChainsView → FlightName → ℕ → Type 0
LeaveOut chains later name number =
    (plans : List PlanView) → AreChained chains plans → IfSome (plan_at plans number) (λ p. flight_of_key p.key ≡ name)
    → AreChained later (others number plans)

-- of whatever plans but for the one of this number these were the chains, that one, held under this
-- name, is now in its own
abbrev pub TakeIn : ChainsView → ChainsView → FlightName → ℕ → Type 0
TakeIn chains later name number =
    (plans : List PlanView) → AreChained chains (others number plans)
    → IfSome (plan_at plans number) (λ p. (is_held p.state ≡ true) × (flight_of_key p.key ≡ name)) → AreChained later plans

-- the numbers of a chain from this one on, limited in length
unfoldable pub chain_from : ℕ → List ℕ → ℕ → List ℕ
chain_from zero older number = []
chain_from (suc most) older number =
    if number == 0 then [] else number ∷ chain_from most older (slice_index older (number - 1))

-- the numbers of those of the first n plans that are held under a name, the newest first
unfoldable pub held_numbers : FlightName → List PlanView → ℕ → List ℕ
held_numbers name plans zero = []
held_numbers name plans (suc n) =
    if is_held_there name plans n then (n + 1) ∷ held_numbers name plans n else held_numbers name plans n

-- a plan can be inserted into the chain of this flight without an allocation
abbrev pub HasRoomFor : ChainsView → FlightName → Type 0
HasRoomFor chains name = lookup (same_flight name) chains.heads ≡ None → 0 < chains.room

-- no flight is removed, and the capacity is the same
abbrev pub KeepNames : ChainsView → ChainsView → Type 0
KeepNames chains later =
    ((name : FlightName) → lookup (same_flight name) later.heads ≡ None → lookup (same_flight name) chains.heads ≡ None) × (chains.room ≤ later.room)

-- nothing changed, except that the capacity may be greater
abbrev pub StayChained : ChainsView → ChainsView → Type 0
StayChained chains later = (later.heads ≡ chains.heads) × (later.older ≡ chains.older) × (chains.room ≤ later.room)
