-- The numbers and names of refusals, as operators read them.
use Rattle.std.specs.Prelude.{ℕ, List, codes, Option, Some, None}
use Rattle.fpl_message.specs.declared.refusal.Refusal.{Refusal}
use Rattle.fpl_message.specs.declared.refusal.Refusal.TheVariants as refusal

abbrev pub number_of : Refusal → ℕ
number_of refusal.Empty = 1
number_of (refusal.BadByte place) = 2
number_of refusal.NoBracket = 3
number_of refusal.UnknownTitle = 4
number_of refusal.FieldCount = 5
number_of (refusal.BadField field) = 10
number_of refusal.DuplicateItem = 11
number_of refusal.BadDate = 12
number_of (refusal.UnsupportedAmendment field) = 13
number_of refusal.AlreadyHeld = 20
number_of refusal.NoPlan = 21
number_of refusal.Ambiguous = 22
number_of refusal.AlreadyDeparted = 23
number_of refusal.KeyChange = 24
number_of refusal.NotLater = 25
number_of refusal.DelayTooLong = 26
number_of refusal.Past = 27
number_of refusal.TooEarly = 28
number_of refusal.PlansFull = 29
number_of refusal.BadOrder = 30
number_of refusal.RegulationHeld = 31
number_of refusal.NoRegulation = 32
number_of refusal.RegulationsFull = 33
number_of refusal.BadPeriod = 34
number_of refusal.BadRate = 35
number_of refusal.TimeBack = 36

abbrev pub name_of : Refusal → List ℕ
name_of refusal.Empty = codes "Empty"
name_of (refusal.BadByte place) = codes "BadByte"
name_of refusal.NoBracket = codes "NoBracket"
name_of refusal.UnknownTitle = codes "UnknownTitle"
name_of refusal.FieldCount = codes "FieldCount"
name_of (refusal.BadField field) = codes "BadField"
name_of refusal.DuplicateItem = codes "DuplicateItem"
name_of refusal.BadDate = codes "BadDate"
name_of (refusal.UnsupportedAmendment field) = codes "UnsupportedAmendment"
name_of refusal.AlreadyHeld = codes "AlreadyHeld"
name_of refusal.NoPlan = codes "NoPlan"
name_of refusal.Ambiguous = codes "Ambiguous"
name_of refusal.AlreadyDeparted = codes "AlreadyDeparted"
name_of refusal.KeyChange = codes "KeyChange"
name_of refusal.NotLater = codes "NotLater"
name_of refusal.DelayTooLong = codes "DelayTooLong"
name_of refusal.Past = codes "Past"
name_of refusal.TooEarly = codes "TooEarly"
name_of refusal.PlansFull = codes "PlansFull"
name_of refusal.BadOrder = codes "BadOrder"
name_of refusal.RegulationHeld = codes "RegulationHeld"
name_of refusal.NoRegulation = codes "NoRegulation"
name_of refusal.RegulationsFull = codes "RegulationsFull"
name_of refusal.BadPeriod = codes "BadPeriod"
name_of refusal.BadRate = codes "BadRate"
name_of refusal.TimeBack = codes "TimeBack"

-- the offset of a byte that no message has, or the number of the field that is refused
abbrev pub detail_of : Refusal → Option ℕ
detail_of (refusal.BadByte place) = Some place
detail_of (refusal.BadField field) = Some field
detail_of (refusal.UnsupportedAmendment field) = Some field
detail_of _ = None
