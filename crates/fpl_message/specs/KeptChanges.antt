-- What the code stores of a modification: its fields, and the indices of those that are amended.
use Rattle.std.specs.Prelude.{ℕ, ◌≡◌, ◌<◌, None, List, Option, length}
use Rattle.std.specs.Option.{option_map, ForSome}
use Rattle.fpl_text.specs.Words.{words_of}
use Rattle.fpl_items.specs.Items.{ItemView, items_of, field_fault}
use Rattle.fpl_items.specs.Other18.{TellsOfAny}
use Rattle.fpl_message.specs.declared.changes.Changes.{Changes}
use Rattle.fpl_message.specs.Messages.{field, ChgView}
use Rattle.fpl_message.specs.Modifications.{amended_text}
use Rattle.fpl_text.specs.declared.time.TheConstants.{ELAPSED_LIMIT}

-- the amended text of the field 22 at an index
abbrev pub text_at : List (List ℕ) → Option ℕ → Option (List ℕ)
text_at fields place = option_map (λ at. amended_text (field fields at)) place

-- the items of an amended field 18, if there is one
abbrev pub items_at : Option (List ℕ) → Option (List ItemView)
items_at field18 = option_map (λ text. items_of (words_of text)) field18

-- the modification that is stored
abbrev pub kept : List (List ℕ) → Changes → ChgView
kept fields c = record {
  parts = c.parts;
  rules = c.rules;
  departure = c.departure;
  destination = c.destination;
  items = items_at (text_at fields c.field18);
  field8 = text_at fields c.field8;
  field9 = text_at fields c.field9;
  field10 = text_at fields c.field10;
  field15 = text_at fields c.field15;
  field18 = text_at fields c.field18;
}

-- its amended fields are some of these, an elapsed time is below a hundred hours, and an amended
-- field 18 has no fault, with what its items say
pub record StandAmong (fields : List (List ℕ)) (c : Changes) : Type 0 where
  pub field8 : ForSome c.field8 (λ at. at < length fields)
  pub field9 : ForSome c.field9 (λ at. at < length fields)
  pub field10 : ForSome c.field10 (λ at. at < length fields)
  pub field15 : ForSome c.field15 (λ at. at < length fields)
  pub field18 : ForSome c.field18 (λ at. at < length fields)
  pub elapsed : ForSome c.destination (λ destination. ForSome destination.elapsed (λ minutes. minutes < ELAPSED_LIMIT))
  pub faultless : ForSome (text_at fields c.field18) (λ text. field_fault text ≡ None)
  pub items : TellsOfAny (items_at (text_at fields c.field18)) c.other
