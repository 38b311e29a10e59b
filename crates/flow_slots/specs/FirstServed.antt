-- First planned, first served (ATFCM Users Manual, slot allocation), as a relation: what the
-- allocation is, with no word of how it is computed.
use Rattle.std.specs.Prelude.{◌≡◌, ℕ, ◌≤◌, false, List, [], ◌∷◌}
use Rattle.flow_slots.specs.declared.cell.Planned.{Planned}
use Rattle.flow_slots.specs.Period.{Period, first_slot, slot_time}
use Rattle.flow_slots.specs.Assignment.{Placed, is_in, greedy, slots}
use Rattle.flow_slots.specs.Lineup.{Lineup}

-- slot `k` is the first one not before the entry that is not taken
pub record IsLeastFree (p : Period) (taken : List ℕ) (entry k : ℕ) : Type 0 where
  pub not_before : entry ≤ slot_time p k
  pub free : is_in k taken ≡ false
  pub least : (j : ℕ) → entry ≤ slot_time p j → is_in j taken ≡ false → k ≤ j

-- each flight in turn has the first slot that neither the taken ones nor the flights before it have
abbrev pub AreFirstServed : Period → List ℕ → List Planned → List Placed → Type 0
AreFirstServed p taken [] [] = Unit {0}
AreFirstServed p taken [] (a ∷ others) = ⊥
AreFirstServed p taken (w ∷ ws) [] = ⊥
AreFirstServed p taken (w ∷ ws) (a ∷ others) =
    (a.flight ≡ w.flight) × IsLeastFree p taken w.entry a.slot × AreFirstServed p (a.slot ∷ taken) ws others

-- the provisional flights of a lineup are first served around its frozen ones
abbrev pub IsFirstServed : Lineup → Type 0
IsFirstServed l =
    AreFirstServed l.period (slots l.fixed) l.waiting (greedy (λ e. first_slot l.period e) (slots l.fixed) l.waiting)
