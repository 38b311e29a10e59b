-- What a regulation would do at other rates: it is opened at each rate by an order, and the order
-- is undone.
use Rattle.std.specs.Prelude.{◌≡◌, ℕ, ◌≤◌, ◌<◌, true, List, [], ◌∷◌, ◌++◌, length, slice_get, codes, decimal, take, Option, None, Some}
use Rattle.std.specs.List.{AllByRecursion}
use Rattle.std.specs.Option.{option_map, option_map_or, option_and_then}
use Rattle.fpl_message.specs.declared.refusal.Refusal.{Refusal}
use Rattle.fpl_message.specs.declared.refusal.Refusal.TheVariants.{BadOrder}
use Rattle.fpl_message.specs.declared.filing.TheConstants.{MAX_BYTES}
use Rattle.fpl_message.specs.declared.edition.Edition.TheVariants.{Second}
use Rattle.flow_regulations.specs.Regulations.{Regulation, lineup_of}
use Rattle.flow_traffic.specs.declared.verdict.Kind.TheVariants as kind
use Rattle.flow_traffic.specs.declared.verdict.Verdict.{Verdict}
use Rattle.flow_traffic.specs.declared.verdict.Verdict.TheVariants.{Refused, Accepted}
use Rattle.flow_core.specs.History.{History, state_of}
use Rattle.flow_view.specs.declared.slot_row.SlotRow.{SlotRow}
use Rattle.flow_view.specs.declared.what_if.Swept.{Swept}
use Rattle.flow_view.specs.declared.what_if.SweepFault.{SweepFault}
use Rattle.flow_view.specs.declared.what_if.SweepFault.TheVariants as fault
use Rattle.flow_view.specs.Openings.{is_opening, last_open}
use Rattle.flow_view.specs.Shown.{shown}
use Rattle.flow_view.specs.Totals.{totals_of}

-- an order to open a regulation, without its rate, and a rate
abbrev pub order_at : List ℕ → ℕ → List ℕ
order_at order rate = order ++ codes " " ++ decimal rate

-- the desk at which this text was filed as well, by feeder 0
abbrev pub with_filing : History → List ℕ → History
with_filing h text = record h { filed = h.filed ++ record { feeder = 0; text = record { edition = Second; bytes = text } } ∷ [] }

-- the rows of an open regulation of a desk
abbrev pub sweep_rows : History → Regulation → List SlotRow
sweep_rows h r =
    let t = (state_of h).traffic in shown h r.spot (lineup_of t.taxi t.max_plans t.plans r)

-- the rows of the regulation that was opened last
abbrev pub last_rows : History → List SlotRow
last_rows h = option_map_or (sweep_rows h) (last_open h) []

-- the totals of its slot list, if it is opened at this rate
abbrev pub swept : History → List ℕ → ℕ → Swept
swept h order rate = record { rate = rate; totals = totals_of (last_rows (with_filing h (order_at order rate))) }

-- ---- what is refused

-- the verdict of the desk on a text that is filed as well
abbrev pub verdict_of : History → List ℕ → Option Verdict
verdict_of h text = option_map (λ e. e.receipt.verdict) (slice_get (state_of (with_filing h text)).journal (length h.filed))

-- the text is short enough to be filed, and the journal isn't full
abbrev pub CanFile : History → List ℕ → Type 0
CanFile h text = (length text ≤ MAX_BYTES) × (length h.filed < h.setup.max_entries)

-- the text can be filed, and opens a regulation
abbrev pub Opens : History → List ℕ → Type 0
Opens h text = CanFile h text × (option_map is_opening (verdict_of h text) ≡ Some true)

-- the refusal of a verdict: none for an accepted OPEN, and `BadOrder` for anything else that is
-- accepted
abbrev pub verdict_refusal : Verdict → Option Refusal
verdict_refusal (Refused why) = Some why
verdict_refusal (Accepted kind.Open plan) = None
verdict_refusal _ = Some BadOrder

-- the fault of a sweep is the refusal of this verdict
abbrev pub IsToldOf : Verdict → SweepFault → Type 0
IsToldOf verdict (fault.Refused why) = verdict_refusal verdict ≡ Some why
IsToldOf verdict fault.OutOfMemory = Unit {0}
IsToldOf verdict _ = ⊥

-- the fault for a text: that it is too long, else that the journal is full, else the refusal of the
-- desk; allocation doesn't fail for what can't be filed
abbrev pub IsToldBy : History → List ℕ → SweepFault → Type 0
IsToldBy h text (fault.Refused why) = CanFile h text × (option_and_then verdict_refusal (verdict_of h text) ≡ Some why)
IsToldBy h text fault.TooLong = MAX_BYTES < length text
IsToldBy h text fault.JournalFull = (length text ≤ MAX_BYTES) × (h.setup.max_entries ≤ length h.filed)
IsToldBy h text fault.OutOfMemory = CanFile h text

-- the end of a sweep of these rates: at each of the first of them a regulation is opened, and the
-- next one has this fault
pub record IsEndedBy (h : History) (order rates : List ℕ) (e : SweepFault) : Type 0 where
  pub count : ℕ
  pub next : ℕ
  pub is_next : slice_get rates count ≡ Some next
  pub opened : AllByRecursion (λ rate. Opens h (order_at order rate)) (take count rates)
  pub told : IsToldBy h (order_at order next) e
