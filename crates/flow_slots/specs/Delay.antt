-- The delays of the provisional flights, slot time less entry, and the other choices of slots for
-- them.
use Rattle.std.specs.Prelude.{◌≡◌, ℕ, ◌+◌, ◌-◌, ◌<◌, ◌≤◌, false, List, [], ◌∷◌}
use Rattle.std.specs.List.{AllByRecursion}
use Rattle.flow_slots.specs.declared.cell.Planned.{Planned}
use Rattle.flow_slots.specs.Period.{Period, first_slot, slot_time}
use Rattle.flow_slots.specs.Assignment.{is_in, greedy, slots}
use Rattle.flow_slots.specs.Lineup.{Lineup}

-- the sum of the delays of flights in these slots: slot time less entry
abbrev pub total_delay : Period → List Planned → List ℕ → ℕ
total_delay p [] ks = 0
total_delay p (w ∷ ws) [] = 0
total_delay p (w ∷ ws) (k ∷ ks) = slot_time p k - w.entry + total_delay p ws ks

-- one slot for each flight, none twice, none taken and none before its flight's entry
abbrev pub IsChoice : Period → List ℕ → List Planned → List ℕ → Type 0
IsChoice p taken [] [] = Unit {0}
IsChoice p taken [] (k ∷ ks) = ⊥
IsChoice p taken (w ∷ ws) [] = ⊥
IsChoice p taken (w ∷ ws) (k ∷ ks) =
    (w.entry ≤ slot_time p k) × (is_in k taken ≡ false) × IsChoice p (k ∷ taken) ws ks

-- the slots that the provisional flights are assigned
abbrev pub waiting_slots : Lineup → List ℕ
waiting_slots l = slots (greedy (λ e. first_slot l.period e) (slots l.fixed) l.waiting)

-- slots that rise strictly
abbrev pub Rise : List ℕ → Type 0
Rise [] = Unit {0}
Rise (k ∷ ks) = AllByRecursion (λ j. k < j) ks × Rise ks

-- they are a choice around the frozen slots, and no other choice has a smaller sum of delays
pub record HasLeastDelay (l : Lineup) : Type 0 where
  pub choice : IsChoice l.period (slots l.fixed) l.waiting (waiting_slots l)
  pub least : (ks : List ℕ) → IsChoice l.period (slots l.fixed) l.waiting ks → total_delay l.period l.waiting (waiting_slots l) ≤ total_delay l.period l.waiting ks
