-- The slot list of an open regulation.
use Rattle.std.proofs.Common.{◌≡◌, ℕ, List, [], ◌∷◌, map, refl, ap, Bool, true, false, if◌then◌else◌, Some}
use Rattle.std.specs.Option.{option_map}
use Rattle.flow_plans.specs.Plans.{PlanView}
use Rattle.flow_slots.specs.Lineup.{Lineup}
use Rattle.flow_regulations.specs.Regulations.{lineup_of}
use Rattle.flow_regulations.specs.Listing.{RegulationView, regulation_of, IsListed, is_named, lineup_named}
use Rattle.flow_traffic.specs.Traffic.{regulation_named}

pub slots-named : (taxi max : ℕ) (plans : List PlanView) (id : List ℕ) (ls : List RegulationView) → IsListed taxi max plans ls
    → lineup_named id ls ≡ option_map (lineup_of taxi max plans) (regulation_named id (map regulation_of ls))
slots-named taxi max plans id [] h = refl
slots-named taxi max plans id (l ∷ ls) h = by (is_named id l) (slots-named taxi max plans id ls h.1) where
  by : (b : Bool) → lineup_named id ls ≡ option_map (lineup_of taxi max plans) (regulation_named id (map regulation_of ls))
      → (if b then Some l.lineup else lineup_named id ls) ≡ option_map (lineup_of taxi max plans) (if b then Some (regulation_of l) else regulation_named id (map regulation_of ls))
  by true rest = ap (λ (m : Lineup). Some m) h.0
  by false rest = rest
