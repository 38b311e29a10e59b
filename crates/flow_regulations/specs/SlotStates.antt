-- The state of a flight in slot lists, by which it is restored there.
use Rattle.std.specs.Prelude.{◌≡◌, ℕ, ◌<◌, ◌==◌, if◌then◌else◌, List, [], ◌∷◌, length, None, IfSome, slice_index_or as get_or}
use Rattle.std.specs.Option.{option_map_or}
use Rattle.flow_slots.specs.Period.{IsWithin}
use Rattle.flow_slots.specs.Lineup.{Lineup, len_of, held_flight, fixed_slot, waiting_entry, with_waiting, with_fixed, without_flight}
use Rattle.flow_regulations.specs.declared.slot_state.NotedPlace.{NotedPlace}
use Rattle.flow_regulations.specs.declared.slot_state.Place.{Place}
use Rattle.flow_regulations.specs.declared.slot_state.Place.TheVariants as place
use Rattle.flow_regulations.specs.Listing.{RegulationView}

-- the state of a flight in a slot list
abbrev pub place_in : ℕ → Lineup → Place
place_in flight l =
    option_map_or (λ slot. place.Fixed slot) (fixed_slot l flight)
    (option_map_or (λ entry. place.Waiting entry) (waiting_entry l flight) place.Absent)

-- the slot list after a flight that isn't held gets this state
abbrev pub stood : Place → ℕ → Lineup → Lineup
stood place.Absent flight l = l
stood (place.Waiting entry) flight l = with_waiting (record { entry = entry; flight = flight }) l
stood (place.Fixed slot) flight l = with_fixed (record { flight = flight; slot = slot }) l

-- a flight that isn't held may get this state
abbrev pub MayStand : Place → Lineup → Type 0
MayStand place.Absent l = Unit {0}
MayStand (place.Waiting entry) l = IsWithin l.period entry
MayStand (place.Fixed slot) l = (slot < len_of l) × IfSome (held_flight l slot) (λ holder. fixed_slot l holder ≡ None)

-- the state of the flight in an open regulation: once removed, it may get this state again, and the
-- slot list is then as it was
pub record IsPlaceOf (flight : ℕ) (place : Place) (l : RegulationView) : Type 0 where
  pub is : place ≡ place_in flight l.lineup
  pub may : MayStand place (without_flight flight l.lineup)
  pub back : stood place flight (without_flight flight l.lineup) ≡ l.lineup

-- the state recorded for the regulation at an index: absent, if none is
abbrev pub place_at : List NotedPlace → ℕ → Place
place_at [] index = place.Absent
place_at (n ∷ ns) index = if n.index == index then n.place else place_at ns index

-- the states of the flight in all open regulations
abbrev pub ArePlaces : ℕ → List NotedPlace → List RegulationView → Type 0
ArePlaces flight places lists = (index : ℕ) (l : RegulationView) → index < length lists → IsPlaceOf flight (place_at places index) (get_or lists index l)
