-- What is recorded of EET items (ICAO Doc 4444, appendix 3, field type 18).
use Rattle.std.specs.Prelude.{◌≡◌, ◌<◌, ℕ, ◌+◌, Bool, true, false, ◌&&◌, nat_le, if◌then◌else◌, List, [], ◌∷◌, ◌++◌, length, Option, Some, None, codes}
use Rattle.std.specs.List.{list_all}
use Rattle.std.specs.Option.{option_or}
use Rattle.fpl_items.specs.declared.estimate.Estimate.{Estimate}
use Rattle.fpl_items.specs.Kinds.{is_text}
use Rattle.fpl_items.specs.Items.{ItemView, is_estimate, estimate_for, elapsed_to}
use Rattle.fpl_items.specs.Points.{may_have, stored_name}

-- whether an estimate is for a point
unfoldable pub is_for : List ℕ → Estimate → Bool
is_for place e = nat_le (length place) 11 && is_text (stored_name place) e.name

-- the minutes of the first of these estimates that is for a point
abbrev pub first_for : List ℕ → List Estimate → Option ℕ
first_for place [] = None
first_for place (e ∷ es) = if is_for place e then Some e.minutes else first_for place es

-- `after` says, beyond `before`, what these words say, whatever the words after them are
abbrev pub AddsFirst : List Estimate → List Estimate → List (List ℕ) → Type 0
AddsFirst before after first =
    (place : List ℕ) (words : List (List ℕ))
    → option_or (first_for place after) (estimate_for place words) ≡ option_or (first_for place before) (estimate_for place (first ++ words))

-- what these words of an item say
abbrev pub AddsWords : List Estimate → List Estimate → List (List ℕ) → Type 0
AddsWords before after words =
    (place : List ℕ) → first_for place after ≡ option_or (first_for place before) (estimate_for place words)

-- estimates that say of every point what the items say
abbrev pub AreEstimatesOf : List ItemView → List Estimate → Type 0
AreEstimatesOf items notes = (place : List ℕ) → first_for place notes ≡ elapsed_to place items

-- the number of estimates of an item, each of whose words is one
abbrev pub estimates_in : ItemView → ℕ
estimates_in item = if is_text (codes "EET") item.name then length item.words else 0

-- and of all items
abbrev pub estimate_count : List ItemView → ℕ
estimate_count [] = 0
estimate_count (item ∷ items) = estimates_in item + estimate_count items

-- some EET item has an estimate
abbrev pub HasEstimate : List ItemView → Type 0
HasEstimate items = 0 < estimate_count items

-- every word of an EET item is an estimate
abbrev pub has_estimates : ItemView → Bool
has_estimates item = if is_text (codes "EET") item.name then list_all is_estimate item.words else true

-- a bit set that has the point of each estimate
abbrev pub HasPlacesOf : ℕ → List Estimate → Type 0
HasPlacesOf places notes = (place : List ℕ) → may_have places place ≡ false → first_for place notes ≡ None
