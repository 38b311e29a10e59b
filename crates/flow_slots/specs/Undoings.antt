-- The changes that undo a change of a lineup, and those that undo a list of changes.
use Rattle.std.specs.Prelude.{ℕ, List, [], ◌∷◌, ◌++◌, Option, None, Some}
use Rattle.flow_slots.specs.declared.change_list.Change.{Change}
use Rattle.flow_slots.specs.declared.change_list.Change.TheVariants.{Insert, Remove, Fix, Release, PutFixed}
use Rattle.flow_slots.specs.Lineup.{Lineup, fixed_slot, waiting_entry}
use Rattle.flow_slots.specs.ChangeList.{changed}

-- a flight is inserted again, provisional with its entry or in its frozen slot
abbrev pub comes_back : ℕ → Option ℕ → Option ℕ → List Change
comes_back f (Some e) k = Insert f e ∷ []
comes_back f None (Some k) = PutFixed f k ∷ []
comes_back f None None = []

abbrev pub waits_again : ℕ → Option ℕ → List Change
waits_again f None = []
waits_again f (Some e) = Release f e ∷ []

-- what undoes a change of this lineup
abbrev pub undoing : Change → Lineup → List Change
undoing (Insert f e) l = Remove f ∷ []
undoing (Remove f) l = comes_back f (waiting_entry l f) (fixed_slot l f)
undoing (Fix f) l = waits_again f (waiting_entry l f)
undoing (Release f e) l = Remove f ∷ comes_back f None (fixed_slot l f)
undoing (PutFixed f k) l = Remove f ∷ []

-- what undoes a list of changes: the last one first
abbrev pub undoing_all : List Change → Lineup → List Change
undoing_all [] l = []
undoing_all (c ∷ cs) l = undoing_all cs (changed c l) ++ undoing c l
