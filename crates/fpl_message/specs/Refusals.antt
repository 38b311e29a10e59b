-- Refusals, and the steps of a reading that stops at the first.
use Rattle.std.specs.Prelude.{◌≡◌, ◌<◌, ◌^◌, ℕ, Option, Result, Ok, Err}
use Rattle.std.specs.Option.{ok_or}
use Rattle.fpl_text.specs.declared.fault.TextFault.{TextFault}
use Rattle.fpl_text.specs.declared.fault.TextFault.TheVariants as text
use Rattle.fpl_text.specs.declared.fault.FieldFault.{FieldFault}
use Rattle.fpl_text.specs.declared.fault.FieldFault.TheVariants as fields
use Rattle.fpl_items.specs.declared.fault.ItemFault.{ItemFault}
use Rattle.fpl_items.specs.declared.fault.ItemFault.TheVariants as item
use Rattle.fpl_message.specs.declared.refusal.Refusal.{Refusal}
use Rattle.fpl_message.specs.declared.refusal.Refusal.TheVariants as refusal
use Rattle.fpl_message.specs.declared.fault.Fault.{Fault}
use Rattle.fpl_message.specs.declared.fault.Fault.TheVariants.{Refused, OutOfMemory}

infixl 10 ◌>>=◌
-- what comes next, unless a refusal came before
abbrev pub ◌>>=◌ : {X Y : Type 0} → Result X Refusal → (X → Result Y Refusal) → Result Y Refusal
(Ok x) >>= next = next x
(Err refusal) >>= next = Err refusal

-- the refusal of a text that has no fields; a failed allocation is none, and no definition gives it
abbrev pub text_refusal : TextFault → Refusal
text_refusal text.Empty = refusal.Empty
text_refusal (text.BadByte place) = refusal.BadByte place
text_refusal text.NoBracket = refusal.NoBracket
text_refusal text.UnknownTitle = refusal.UnknownTitle
text_refusal text.FieldCount = refusal.FieldCount
text_refusal text.OutOfMemory = refusal.Empty

-- the refusal of a field 15 or 18
abbrev pub item_refusal : ItemFault → Refusal
item_refusal (item.BadField number) = refusal.BadField number
item_refusal item.DuplicateItem = refusal.DuplicateItem
item_refusal item.BadDate = refusal.BadDate
item_refusal item.OutOfMemory = refusal.BadField 18

-- why a reading stops at such a fault
abbrev pub text_fault : TextFault → Fault
text_fault text.Empty = Refused refusal.Empty
text_fault (text.BadByte place) = Refused (refusal.BadByte place)
text_fault text.NoBracket = Refused refusal.NoBracket
text_fault text.UnknownTitle = Refused refusal.UnknownTitle
text_fault text.FieldCount = Refused refusal.FieldCount
text_fault text.OutOfMemory = OutOfMemory

abbrev pub fault_of_field : FieldFault → Fault
fault_of_field (fields.BadField number) = Refused (refusal.BadField number)
fault_of_field fields.OutOfMemory = OutOfMemory

abbrev pub fault_of_item : ItemFault → Fault
fault_of_item (item.BadField number) = Refused (refusal.BadField number)
fault_of_item item.DuplicateItem = Refused refusal.DuplicateItem
fault_of_item item.BadDate = Refused refusal.BadDate
fault_of_item item.OutOfMemory = OutOfMemory

-- the offset of a byte that no message has, if that is the fault, is stored in 16 bits
abbrev pub PlaceFits : TextFault → Type 0
PlaceFits text.Empty = Unit {0}
PlaceFits (text.BadByte place) = place < 2 ^ 16
PlaceFits text.NoBracket = Unit {0}
PlaceFits text.UnknownTitle = Unit {0}
PlaceFits text.FieldCount = Unit {0}
PlaceFits text.OutOfMemory = Unit {0}

abbrev pub by_text : {X : Type 0} → Result X TextFault → Result X Refusal
by_text (Ok x) = Ok x
by_text (Err fault) = Err (text_refusal fault)

abbrev pub by_items : {X : Type 0} → Result X ItemFault → Result X Refusal
by_items (Ok x) = Ok x
by_items (Err fault) = Err (item_refusal fault)

-- the value of a field of this number, or its refusal
abbrev pub in_field : {X : Type 0} → ℕ → Option X → Result X Refusal
in_field number found = ok_or found (refusal.BadField number)

-- What a call gave, seen by `view`, is what its definition says, unless an allocation failed.
abbrev pub ReturnsAs : {X Y : Type 0} → (X → Y) → Result X Fault → Result Y Refusal → Type 0
ReturnsAs view (Ok x) expected = expected ≡ Ok (view x)
ReturnsAs view (Err OutOfMemory) expected = Unit {0}
ReturnsAs view (Err (Refused refusal)) expected = expected ≡ Err refusal

-- An allocation failed in a call only if this holds.
abbrev pub RunsOutOnlyIf : {X : Type 0} → Result X Fault → Type 0 → Type 0
RunsOutOnlyIf (Ok x) P = Unit {0}
RunsOutOnlyIf (Err OutOfMemory) P = P
RunsOutOnlyIf (Err (Refused refusal)) P = Unit {0}
