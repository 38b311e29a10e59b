-- A regulation is closed: the others stay as they are.
use Rattle.std.proofs.Common.{ℕ, Bool, true, false, not, cond, List, [], ◌∷◌}
use Rattle.std.specs.List.{AllByRecursion}
use Rattle.flow_regulations.specs.Listing.{RegulationView, is_named, without_named}

-- what holds of all holds of the others
pub all-named : (P : RegulationView → Type 0) (id : List ℕ) (ls : List RegulationView) → AllByRecursion P ls → AllByRecursion P (without_named id ls)
all-named P id [] a = tt
all-named P id (l ∷ ls) a = cases (all-named P id ls a.1) (not (is_named id l)) where
  cases : AllByRecursion P (without_named id ls) → (b : Bool) → AllByRecursion P (cond b (l ∷ without_named id ls) (without_named id ls))
  cases again true = (a.0, again)
  cases again false = again
