-- What messages say (ICAO Doc 4444, appendix 2 and 3).
use Rattle.std.specs.Prelude.{ℕ, List, [], Option, slice_get, unwrap_or}
use Rattle.fpl_text.specs.declared.ident.Ident.{Ident}
use Rattle.fpl_text.specs.declared.craft.Rules.{Rules}
use Rattle.fpl_text.specs.declared.craft.Craft.{Craft}
use Rattle.fpl_text.specs.declared.place.Departure.{Departure}
use Rattle.fpl_text.specs.declared.place.Destination.{Destination}
use Rattle.fpl_message.specs.declared.parts.Parts.{Parts}
use Rattle.fpl_message.specs.declared.short_message.Dla.{Dla}
use Rattle.fpl_message.specs.declared.short_message.Cnl.{Cnl}
use Rattle.fpl_message.specs.declared.short_message.Dep.{Dep}
use Rattle.fpl_message.specs.declared.order.OpenReg.{OpenReg}
use Rattle.fpl_items.specs.Items.{ItemView}

-- the text of the field at this index of a message, from 0
abbrev pub field : List (List ℕ) → ℕ → List ℕ
field fields place = unwrap_or (slice_get fields place) []

-- a filed flight plan: the squeezed texts of its nine fields, and what they say; field 15 is read
-- when it is asked for
pub record FplView : Type 0 where
  pub fields : List (List ℕ)
  pub ident : Ident
  pub rules : Rules
  pub craft : Craft
  pub departure : Departure
  pub destination : Destination
  -- the total elapsed time, in minutes
  pub elapsed : ℕ
  pub items : List ItemView

-- a modification: the plan that it is about, and of each field at most one amendment: its squeezed
-- text, and what it says
pub record ChgView : Type 0 where
  pub parts : Parts
  pub rules : Option Rules
  pub departure : Option Departure
  pub destination : Option Destination
  pub items : Option (List ItemView)
  pub field8 : Option (List ℕ)
  pub field9 : Option (List ℕ)
  pub field10 : Option (List ℕ)
  pub field15 : Option (List ℕ)
  pub field18 : Option (List ℕ)

pub data Message : Type 0 where
  fpl : FplView → Message
  dla : Dla → Message
  chg : ChgView → Message
  cnl : Cnl → Message
  dep : Dep → Message

pub data Order : Type 0 where
  open_reg : OpenReg → Order
  shut_reg : List ℕ → Order
  set_time : ℕ → Order
