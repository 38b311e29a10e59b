-- The held slots of a list that is read slot by slot.
use Rattle.std.proofs.Common.{◌≡◌, ℕ, suc, ◌+◌, ◌-◌, ◌<◌, List, ◌++◌, arith, append_assoc}
use Rattle.flow_slots.specs.Lineup.{Lineup, held_flight}
use Rattle.flow_desk.specs.declared.slots.SlotRow.{SlotRow}
use Rattle.flow_desk.specs.Slots.{held_at, held_from}

-- one more slot
pub held-next : (l : Lineup) (held : List SlotRow) (k len : ℕ) → k < len
    → (held ++ held_at l k (held_flight l k)) ++ held_from l (k + 1) (len - (k + 1)) ≡ held ++ held_from l k (len - k)
held-next l held k len lt =
    let one : len - k ≡ suc (len - (k + 1)) = omega arith in
    rw one (append_assoc held (held_at l k (held_flight l k)) (held_from l (k + 1) (len - (k + 1))))
