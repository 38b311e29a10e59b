-- The messages DLA, CNL and DEP, and the fields with which each message about a held plan begins
-- (ICAO Doc 4444, appendix 2 and 3).
use Rattle.std.specs.Prelude.{ℕ, Bool, ◌==◌, if◌then◌else◌, List, length, Option, None, Result, Ok}
use Rattle.fpl_text.specs.Headings.{heading_of}
use Rattle.fpl_text.specs.Places.{ident_of, departure_of, destination_of}
use Rattle.fpl_items.specs.Items.{items_or_fault, day_of_items}
use Rattle.fpl_message.specs.declared.refusal.Refusal.{Refusal}
use Rattle.fpl_message.specs.declared.parts.Opening.{Opening}
use Rattle.fpl_message.specs.declared.short_message.Dla.{Dla}
use Rattle.fpl_message.specs.declared.short_message.Cnl.{Cnl}
use Rattle.fpl_message.specs.declared.short_message.Dep.{Dep}
use Rattle.fpl_message.specs.Refusals.{◌>>=◌, by_items, in_field}
use Rattle.fpl_message.specs.Messages.{field}

-- the day of the DOF item of a field 18
abbrev pub day_of_other : List ℕ → Result (Option ℕ) Refusal
day_of_other field = by_items (items_or_fault field) >>= (λ items. Ok (day_of_items items))

-- the day of field 18, the fifth field, if there is one
abbrev pub other_day : Bool → List (List ℕ) → Result (Option ℕ) Refusal
other_day has_other fields =
    if has_other then day_of_other (field fields 4) else Ok None

-- fields 3, 7, 13 and 16, and then field 18 or none, read from the left
unfoldable pub opening_of : Bool → List (List ℕ) → Result Opening Refusal
opening_of has_other fields =
    in_field 3 (heading_of (field fields 0))
    >>= (λ heading. in_field 7 (ident_of (field fields 1))
    >>= (λ ident. in_field 13 (departure_of (field fields 2))
    >>= (λ departure. in_field 16 (destination_of (field fields 3))
    >>= (λ destination. other_day has_other fields
    >>= (λ day. Ok (record {
      parts = record { ident = ident.name; dep = departure.place; dest = destination.place; day = day };
      time = departure.time;
    }))))))

-- DLA, CNL and DEP have no other fields
abbrev pub short_opening_of : List (List ℕ) → Result Opening Refusal
short_opening_of fields = opening_of (length fields == 5) fields

abbrev pub dla_of : List (List ℕ) → Result Dla Refusal
dla_of fields = short_opening_of fields >>= (λ m. Ok (record { parts = m.parts; time = m.time }))

abbrev pub cnl_of : List (List ℕ) → Result Cnl Refusal
cnl_of fields = short_opening_of fields >>= (λ m. Ok (record { parts = m.parts }))

abbrev pub dep_of : List (List ℕ) → Result Dep Refusal
dep_of fields = short_opening_of fields >>= (λ m. Ok (record { parts = m.parts; time = m.time }))
