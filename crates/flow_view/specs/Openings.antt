-- The regulations that were opened at a desk, by its journal: those that were shut as they were
-- after the last entry before their SHUT, and the open ones as they are now.
use Rattle.std.specs.Prelude.{ℕ, zero, suc, ◌+◌, ◌-◌, Bool, true, false, ◌&&◌, if◌then◌else◌, List, [], ◌++◌, length, map, slice_get, Option, None, Some}
use Rattle.std.specs.Option.{option_map, option_map_or, option_to_list, is_none}
use Rattle.std.specs.Str.{bytes_eq}
use Rattle.fpl_message.specs.Messages.{shut_reg}
use Rattle.fpl_message.specs.Reads.{ReadingView, ord, reading_of}
use Rattle.fpl_message.specs.declared.order.Spot.{Spot}
use Rattle.flow_slots.specs.Period.{Period}
use Rattle.flow_regulations.specs.Regulations.{Regulation}
use Rattle.flow_traffic.specs.declared.verdict.Kind.TheVariants as kind
use Rattle.flow_traffic.specs.declared.verdict.Verdict.{Verdict}
use Rattle.flow_traffic.specs.declared.verdict.Verdict.TheVariants.{Accepted}
use Rattle.flow_traffic.specs.Traffic.{slots_of}
use Rattle.flow_core.specs.State.{EntryView}
use Rattle.flow_core.specs.History.{History, state_of}
use Rattle.flow_view.specs.declared.slot_row.SlotRow.{SlotRow}
use Rattle.flow_view.specs.Past.{past}
use Rattle.flow_view.specs.Shown.{shown}

-- a regulation from its OPEN to its SHUT
pub record OpeningView : Type 0 where
  -- the numbers of these entries
  pub opened_by : ℕ
  pub shut_by : Option ℕ
  pub id : List ℕ
  pub spot : Spot
  pub period : Period
  -- what is shown of its slot list
  pub rows : List SlotRow

-- what is shown of it at a desk, and nothing if it isn't open there
abbrev pub opening_rows : History → OpeningView → List SlotRow
opening_rows h o = option_map_or (shown h o.spot) (slots_of (state_of h).traffic o.id) []

-- ---- what an entry does

abbrev pub is_opening : Verdict → Bool
is_opening (Accepted kind.Open plan) = true
is_opening _ = false

abbrev pub is_shut : Verdict → Bool
is_shut (Accepted kind.Shut plan) = true
is_shut _ = false

-- the name that a SHUT has
abbrev pub shut_name : ReadingView → Option (List ℕ)
shut_name (ord (shut_reg id)) = Some id
shut_name _ = None

-- the name of the regulation that an entry shut: it is an accepted SHUT
abbrev pub shut_in : EntryView → Option (List ℕ)
shut_in e = if is_shut e.receipt.verdict then shut_name (reading_of e.input.text) else None

-- a regulation of this name that is open is shut by the entry of this number, with the rows of the
-- desk before it
abbrev pub shut_one : History → ℕ → List ℕ → OpeningView → OpeningView
shut_one before number id o =
    if is_none o.shut_by && bytes_eq o.id id then record o { shut_by = Some number; rows = opening_rows before o } else o

-- the openings, with those that an entry shuts
abbrev pub with_shut : History → ℕ → Option (List ℕ) → List OpeningView → List OpeningView
with_shut before number None os = os
with_shut before number (Some id) os = map (shut_one before number id) os

-- a regulation that was opened by the entry of this number
abbrev pub opened_with : ℕ → Regulation → OpeningView
opened_with number r =
    record { opened_by = number; shut_by = None; id = r.id; spot = r.spot; period = r.period; rows = [] }

-- the last open regulation of a desk
abbrev pub last_open : History → Option Regulation
last_open h = let rs = (state_of h).traffic.regulations in slice_get rs (length rs - 1)

-- an accepted OPEN adds the last open regulation of the desk after it
abbrev pub with_opened : History → ℕ → Bool → List OpeningView → List OpeningView
with_opened after number false os = os
with_opened after number true os = os ++ option_to_list (option_map (opened_with number) (last_open after))

-- the openings after the entry at `index`
abbrev pub after_entry : History → ℕ → EntryView → List OpeningView → List OpeningView
after_entry h index e os =
    with_opened (past (index + 1) h) (index + 1) (is_opening e.receipt.verdict) (with_shut (past index h) (index + 1) (shut_in e) os)

-- those of the first entries, in order of opening
abbrev pub openings_after : ℕ → History → List OpeningView
openings_after zero h = []
openings_after (suc i) h = option_map_or (λ e. after_entry h i e (openings_after i h)) (slice_get (state_of h).journal i) (openings_after i h)

-- ---- all of them

-- an open one has the rows of the desk as it is now
abbrev pub shown_now : History → OpeningView → OpeningView
shown_now h o = if is_none o.shut_by then record o { rows = opening_rows h o } else o

abbrev pub openings : History → List OpeningView
openings h = map (shown_now h) (openings_after (length h.filed) h)
