-- The flight plan message, FPL (ICAO Doc 4444, appendix 2 and 3).
use Rattle.std.specs.Prelude.{ℕ, if◌then◌else◌, List, Option, Some, None, Result, Ok}
use Rattle.fpl_text.specs.declared.place.Destination.{Destination}
use Rattle.fpl_text.specs.Headings.{heading_of}
use Rattle.fpl_text.specs.Places.{ident_of, departure_of, destination_of}
use Rattle.fpl_text.specs.Craft.{rules_of, craft_of, is_equipment}
use Rattle.fpl_items.specs.Routes.{is_route}
use Rattle.fpl_items.specs.Items.{items_or_fault}
use Rattle.fpl_message.specs.declared.refusal.Refusal.{Refusal}
use Rattle.fpl_message.specs.declared.flight_plan.Flight.{Flight}
use Rattle.fpl_message.specs.Refusals.{◌>>=◌, by_items, in_field}
use Rattle.fpl_message.specs.Messages.{field, FplView}

-- field 16 of a flight plan has the total elapsed time (appendix 3, field type 16)
abbrev pub elapsed_of : Destination → Result ℕ Refusal
elapsed_of destination = in_field 16 destination.elapsed

-- field 10 is not interpreted
abbrev pub equipment_of : List ℕ → Option (List ℕ)
equipment_of text = if is_equipment text then Some text else None

-- field 15 must have its form; what it says is returned to those who ask
abbrev pub route_of : List ℕ → Option (List ℕ)
route_of text = if is_route text then Some text else None

-- what fields 7 to 16 of an FPL say, after field 3, read from the left
unfoldable pub flight_of : List (List ℕ) → Result Flight Refusal
flight_of fields =
    in_field 3 (heading_of (field fields 0))
    >>= (λ heading. in_field 7 (ident_of (field fields 1))
    >>= (λ ident. in_field 8 (rules_of (field fields 2))
    >>= (λ rules. in_field 9 (craft_of (field fields 3))
    >>= (λ craft. in_field 10 (equipment_of (field fields 4))
    >>= (λ equipment. in_field 13 (departure_of (field fields 5))
    >>= (λ departure. in_field 15 (route_of (field fields 6))
    >>= (λ route. in_field 16 (destination_of (field fields 7))
    >>= (λ destination. elapsed_of destination
    >>= (λ elapsed. Ok (record {
      ident = ident;
      rules = rules;
      craft = craft;
      departure = departure;
      destination = destination;
      elapsed = elapsed;
    }))))))))))

-- FPL: fields 3, 7, 8, 9, 10, 13, 15, 16 and 18, read from the left
unfoldable pub fpl_of : List (List ℕ) → Result FplView Refusal
fpl_of fields =
    flight_of fields
    >>= (λ flight. by_items (items_or_fault (field fields 8))
    >>= (λ items. Ok (record {
      fields = fields;
      ident = flight.ident;
      rules = flight.rules;
      craft = flight.craft;
      departure = flight.departure;
      destination = flight.destination;
      elapsed = flight.elapsed;
      items = items;
    })))
