-- What field 18 says of a flight, kept without the field's text (ICAO Doc 4444, appendix 3, field
-- type 18).
use Rattle.std.specs.Prelude.{◌≡◌, List, Option, Some, None}
use Rattle.fpl_items.specs.declared.estimate.Estimate.{Estimate}
use Rattle.fpl_items.specs.declared.other.Effects.{Effects}
use Rattle.fpl_items.specs.Items.{ItemView, Say}
use Rattle.fpl_items.specs.Estimates.{AreEstimatesOf, estimate_count, HasEstimate}

-- this is what these items say, with the number of their estimates
pub record TellsOf (items : List ItemView) (effects : Effects) : Type 0 where
  pub says : Say items effects.day effects.exempt
  pub count : effects.estimates ≡ estimate_count items

-- if there are items, this is what they say, and else there is nothing
abbrev pub TellsOfAny : Option (List ItemView) → Option Effects → Type 0
TellsOfAny None None = Unit {0}
TellsOfAny (Some items) (Some effects) = TellsOf items effects
TellsOfAny None (Some effects) = ⊥
TellsOfAny (Some items) None = ⊥

-- and these are their estimates
abbrev pub AreEstimatesOfAny : Option (List ItemView) → Option (List Estimate) → Type 0
AreEstimatesOfAny None None = Unit {0}
AreEstimatesOfAny (Some items) (Some notes) = AreEstimatesOf items notes
AreEstimatesOfAny None (Some notes) = ⊥
AreEstimatesOfAny (Some items) None = ⊥

-- if there are items, they have an estimate, and else there is none
abbrev pub HasEstimateOfAny : Option (List ItemView) → Type 0
HasEstimateOfAny None = ⊥
HasEstimateOfAny (Some items) = HasEstimate items

-- what field 18 says, with its estimates
pub record Other18View : Type 0 where
  pub effects : Effects
  pub estimates : List Estimate

-- this is what these items say, with their estimates
pub record TellsAllOf (items : List ItemView) (other : Other18View) : Type 0 where
  pub effects : TellsOf items other.effects
  pub estimates : AreEstimatesOf items other.estimates
