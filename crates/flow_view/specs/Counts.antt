-- How many flights enter an aerodrome or route point, of all plans, regulated or not: entry counts
-- (EUROCONTROL ATFCM Users Manual), by planned entry.
use Rattle.std.specs.Prelude.{ℕ, zero, suc, ◌+◌, ◌-◌, ◌*◌, ◌/◌, Bool, true, false, ◌&&◌, not, nat_le, if◌then◌else◌, List, [], ◌∷◌, ◌++◌, count_by, flat_map, min, Option, None, codes}
use Rattle.std.specs.Option.{option_map, option_to_list}
use Rattle.std.specs.Str.{bytes_eq}
use Rattle.fpl_text.specs.declared.minute.TheConstants.{GREATEST_MINUTE}
use Rattle.fpl_message.specs.declared.order.Spot.{Spot}
use Rattle.flow_plans.specs.Plans.{PlanView, is_held, is_departed, is_visual}
use Rattle.flow_plans.specs.Entries.{entry_at}
use Rattle.flow_core.specs.History.{History, state_of}
use Rattle.flow_view.specs.declared.count.Standing.{Standing}
use Rattle.flow_view.specs.declared.count.Standing.TheVariants.{Subject, Exempt, Departed, Entered}
use Rattle.flow_view.specs.declared.count.Entrant.{Entrant}
use Rattle.flow_view.specs.declared.count.Count.{Count}
use Rattle.flow_view.specs.declared.windows.Windows.{Windows}
use Rattle.flow_view.specs.Load.{is_from_to}

-- a regulation may apply to the flight: it isn't flown by visual flight rules, filed in the air or
-- exempt
abbrev pub is_regulated : PlanView → Bool
is_regulated p = not (is_visual p.rules) && not (bytes_eq p.key.dep (codes "AFIL")) && not p.exempt

-- what a held flight counts as, at a time, at a point that it is planned to enter: a departed one
-- is on its way there, or has entered
abbrev pub counted_as : ℕ → PlanView → ℕ → Standing
counted_as now p entry =
    if is_departed p.state then (if nat_le entry now then Entered else Departed)
    else (if is_regulated p then Subject else Exempt)

-- a flight that enters the point
abbrev pub entrant_of : ℕ → ℕ → Spot → PlanView → Option Entrant
entrant_of taxi now spot p =
    if is_held p.state then option_map (λ e. record { entry = e; standing = counted_as now p e }) (entry_at taxi spot p) else None

-- all that do
abbrev pub entrants : History → Spot → List Entrant
entrants h spot =
    flat_map (λ p. option_to_list (entrant_of h.setup.taxi (state_of h).traffic.now spot p)) (state_of h).traffic.plans

abbrev pub same_standing : Standing → Standing → Bool
same_standing Subject Subject = true
same_standing Exempt Exempt = true
same_standing Departed Departed = true
same_standing Entered Entered = true
same_standing _ _ = false

-- how many of them enter from one time to before another and count as this
abbrev pub entering_flights : ℕ → ℕ → Standing → List Entrant → ℕ
entering_flights from to s es = count_by (λ e. is_from_to from to e.entry && same_standing e.standing s) es

-- the entry counts from one time to before another
abbrev pub count_in : ℕ → ℕ → List Entrant → Count
count_in from to es =
    record {
      from = from;
      to = to;
      subject = entering_flights from to Subject es;
      exempt = entering_flights from to Exempt es;
      departed = entering_flights from to Departed es;
      entered = entering_flights from to Entered es;
    }

-- those of the first windows: each begins `slide` minutes after the one before it
abbrev pub counts_before : ℕ → Windows → List Entrant → List Count
counts_before zero w es = []
counts_before (suc i) w es =
    counts_before i w es
    ++ count_in (w.from + w.slide * i) (min (w.from + w.slide * i + w.step) GREATEST_MINUTE) es ∷ []

-- those of all windows that begin in the period
abbrev pub counts : Windows → List Entrant → List Count
counts w es = counts_before ((w.to - w.from + w.slide - 1) / w.slide) w es
