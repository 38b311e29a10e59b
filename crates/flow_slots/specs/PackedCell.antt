-- A cell as one number of 32 bits: the minutes of an entry from a start, times 2 ^ 15, and a
-- flight.
use Rattle.std.specs.Prelude.{◌≡◌, ℕ, Bool, true, false, ◌+◌, ◌*◌, ◌/◌, ◌%◌, ◌<◌, ◌≤◌, eqb, ◌==◌, cond, if◌then◌else◌}
use Rattle.std.proofs.Common.{refl, sym, ap, ◌∙◌}
use Rattle.std.proofs.Math.Nat.{div-add-mod}
use Rattle.std.proofs.lemmas.Bool.{eqb-true}
use Rattle.flow_slots.specs.declared.cell.Cell.{Cell}
use Rattle.flow_slots.specs.declared.cell.Cell.TheVariants.{Empty, Waiting, Fixed}
use Rattle.flow_slots.specs.declared.cell.Planned.{Planned}
use Rattle.flow_slots.specs.declared.row.TheConstants.{FLIGHTS, NO_ENTRY}

-- what a word can store beside a start: an entry that isn't before it and not so late as that of no
-- flight, and a flight's number below 2 ^ 15, where 0 is no flight of a frozen slot
abbrev pub IsStored : ℕ → Cell → Type 0
IsStored start Empty = Unit {0}
IsStored start (Waiting w) = (start ≤ w.entry) × (w.entry < start + NO_ENTRY) × (w.flight < FLIGHTS)
IsStored start (Fixed f) = (0 < f) × (f < FLIGHTS)

-- a flight whose entry was counted from the start
abbrev pub flight_from : ℕ → Planned → Planned
flight_from start w = record { entry = start + w.entry; flight = w.flight }

-- a cell in which an entry was counted from the start
abbrev pub from_start : ℕ → Cell → Cell
from_start start Empty = Empty
from_start start (Waiting w) = Waiting (flight_from start w)
from_start start (Fixed f) = Fixed f

-- the cell of an entry and a flight
abbrev pub unpacked : ℕ → ℕ → Cell
unpacked entry flight =
    if entry == NO_ENTRY then (if flight == 0 then Empty else Fixed flight)
    else Waiting (record { entry = entry; flight = flight })

-- the cell of a word
abbrev pub cell_of : ℕ → Cell
cell_of word = unpacked (word / FLIGHTS) (word % FLIGHTS)

-- the entry and the flight of a cell
abbrev pub entry_number : Cell → ℕ
entry_number Empty = NO_ENTRY
entry_number (Waiting w) = w.entry
entry_number (Fixed f) = NO_ENTRY

abbrev pub flight_number : Cell → ℕ
flight_number Empty = 0
flight_number (Waiting w) = w.flight
flight_number (Fixed f) = f

-- both, as a flight: that of a provisional cell
abbrev pub planned_in : Cell → Planned
planned_in cell = record { entry = entry_number cell; flight = flight_number cell }

-- the word of a cell
abbrev pub word_of : Cell → ℕ
word_of cell = FLIGHTS * entry_number cell + flight_number cell

-- the numbers of a cell are those that it was made of
pub entry_back : (entry flight : ℕ) → entry_number (unpacked entry flight) ≡ entry
entry_back entry flight = none (eqb entry NO_ENTRY) refl where
  none : (b : Bool) → eqb entry NO_ENTRY ≡ b → entry_number (cond b (cond (eqb flight 0) Empty (Fixed flight)) (Waiting (record { entry = entry; flight = flight }))) ≡ entry
  none false e = refl
  none true e = empty (eqb flight 0) where
    empty : (b : Bool) → entry_number (cond b Empty (Fixed flight)) ≡ entry
    empty true = sym (eqb-true entry NO_ENTRY e)
    empty false = sym (eqb-true entry NO_ENTRY e)

pub flight_back : (entry flight : ℕ) → flight_number (unpacked entry flight) ≡ flight
flight_back entry flight = none (eqb entry NO_ENTRY) where
  empty : (b : Bool) → eqb flight 0 ≡ b → flight_number (cond b Empty (Fixed flight)) ≡ flight
  empty true e = sym (eqb-true flight 0 e)
  empty false e = refl

  none : (b : Bool) → flight_number (cond b (cond (eqb flight 0) Empty (Fixed flight)) (Waiting (record { entry = entry; flight = flight }))) ≡ flight
  none false = refl
  none true = empty (eqb flight 0) refl

pub word_back : (word : ℕ) → word_of (cell_of word) ≡ word
word_back word =
    let entry = word / FLIGHTS in
    let flight = word % FLIGHTS in
    ap (λ e. FLIGHTS * e + flight_number (unpacked entry flight)) (entry_back entry flight)
    ∙ (ap (λ f. FLIGHTS * entry + f) (flight_back entry flight) ∙ div-add-mod word FLIGHTS)
