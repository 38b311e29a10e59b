-- The modification message, CHG, and its amended fields (ICAO Doc 4444, appendix 2, and appendix 3,
-- field type 22).
use Rattle.std.specs.Prelude.{ℕ, ◌+◌, ◌-◌, ◌*◌, not, ◌==◌, if◌then◌else◌, List, [], ◌∷◌, drop, slice_index, Option, Some, None, Result, Ok, Err}
use Rattle.fpl_text.specs.Fields.{begins_amendment}
use Rattle.fpl_text.specs.Places.{departure_of, destination_of}
use Rattle.fpl_text.specs.Craft.{rules_of, craft_of}
use Rattle.fpl_items.specs.Items.{items_or_fault}
use Rattle.fpl_message.specs.declared.refusal.Refusal.{Refusal}
use Rattle.fpl_message.specs.declared.refusal.Refusal.TheVariants as refusal
use Rattle.fpl_message.specs.declared.parts.Opening.{Opening}
use Rattle.fpl_message.specs.Refusals.{◌>>=◌, by_items, in_field}
use Rattle.fpl_message.specs.Messages.{field, ChgView}
use Rattle.fpl_message.specs.FlightPlans.{equipment_of, route_of}
use Rattle.fpl_message.specs.ShortMessages.{opening_of}

-- the number of a field 22: the one or two digits before its stroke
unfoldable pub amended_number : List ℕ → ℕ
amended_number field =
    if slice_index field 1 == 47 then slice_index field 0 - 48
    else 10 * (slice_index field 0 - 48) + (slice_index field 1 - 48)

-- the amended text of a field 22: what follows its stroke
unfoldable pub amended_text : List ℕ → List ℕ
amended_text field = if slice_index field 1 == 47 then drop 2 field else drop 3 field

-- what comes next, unless the field was amended before
abbrev pub once : {X : Type 0} → Option X → Result ChgView Refusal → Result ChgView Refusal
once None next = next
once (Some _) next = Err refusal.DuplicateItem

-- an amendment adds the squeezed text of its field, and what it says
abbrev pub amend_rules : List ℕ → ChgView → Result ChgView Refusal
amend_rules text m =
    once m.field8 (in_field 8 (rules_of text) >>= (λ rules. Ok (record m { field8 = Some text; rules = Some rules })))

abbrev pub amend_craft : List ℕ → ChgView → Result ChgView Refusal
amend_craft text m =
    once m.field9 (in_field 9 (craft_of text) >>= (λ craft. Ok (record m { field9 = Some text })))

abbrev pub amend_equipment : List ℕ → ChgView → Result ChgView Refusal
amend_equipment text m =
    once m.field10 (in_field 10 (equipment_of text) >>= (λ equipment. Ok (record m { field10 = Some equipment })))

abbrev pub amend_departure : List ℕ → ChgView → Result ChgView Refusal
amend_departure text m =
    once m.departure (in_field 13 (departure_of text) >>= (λ departure. Ok (record m { departure = Some departure })))

abbrev pub amend_route : List ℕ → ChgView → Result ChgView Refusal
amend_route text m =
    once m.field15 (in_field 15 (route_of text) >>= (λ route. Ok (record m { field15 = Some text })))

abbrev pub amend_destination : List ℕ → ChgView → Result ChgView Refusal
amend_destination text m =
    once m.destination (in_field 16 (destination_of text) >>= (λ destination. Ok (record m { destination = Some destination })))

abbrev pub amend_other : List ℕ → ChgView → Result ChgView Refusal
amend_other text m =
    once m.field18 (by_items (items_or_fault text) >>= (λ items. Ok (record m { field18 = Some text; items = Some items })))

-- fields 8, 9, 10, 13, 15, 16 and 18 may be amended
unfoldable pub amend_numbered : ℕ → List ℕ → ChgView → Result ChgView Refusal
amend_numbered number text m =
    if number == 8 then amend_rules text m
    else (if number == 9 then amend_craft text m
    else (if number == 10 then amend_equipment text m
    else (if number == 13 then amend_departure text m
    else (if number == 15 then amend_route text m
    else (if number == 16 then amend_destination text m
    else (if number == 18 then amend_other text m
    else Err (refusal.UnsupportedAmendment number)))))))

-- one field 22 more
unfoldable pub amend : List ℕ → ChgView → Result ChgView Refusal
amend field m =
    if begins_amendment field then amend_numbered (amended_number field) (amended_text field) m
    else Err (refusal.BadField 22)

-- one field 22 after the other
abbrev pub amend_all : List (List ℕ) → ChgView → Result ChgView Refusal
amend_all [] m = Ok m
amend_all (field ∷ fields) m = amend field m >>= amend_all fields

-- a modification of a plan that amends nothing yet
abbrev pub unamended : Opening → ChgView
unamended opening = record {
  parts = opening.parts;
  rules = None;
  departure = None;
  destination = None;
  items = None;
  field8 = None;
  field9 = None;
  field10 = None;
  field15 = None;
  field18 = None;
}

-- CHG: fields 3, 7, 13 and 16, then field 18 if the fifth field is no field 22, and then fields 22
unfoldable pub chg_of : List (List ℕ) → Result ChgView Refusal
chg_of fields =
    let has_other = not (begins_amendment (field fields 4)) in
    opening_of has_other fields
    >>= (λ opening. amend_all (drop (if has_other then 5 else 4) fields) (unamended opening))
