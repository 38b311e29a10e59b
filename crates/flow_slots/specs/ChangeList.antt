-- Lists of changes of a lineup, each under its conditions.
use Rattle.std.specs.Prelude.{◌≡◌, ℕ, ◌<◌, ◌≤◌, List, [], ◌∷◌, Option, None, Some, IfSome, IsSome}
use Rattle.flow_slots.specs.declared.change_list.Change.{Change}
use Rattle.flow_slots.specs.declared.change_list.Change.TheVariants.{Insert, Remove, Fix, Release, PutFixed}
use Rattle.flow_slots.specs.Period.{IsWithin}
use Rattle.flow_slots.specs.Lineup.{Lineup, len_of, held_slot, held_flight, fixed_slot, with_waiting, with_fixed, without_flight, fixed_at}

-- a flight without a slot, with a number of the list
pub record IsNew (l : Lineup) (flight : ℕ) : Type 0 where
  pub absent : held_slot l flight ≡ None
  pub first : 0 < flight
  pub last : flight ≤ l.capacity

-- when a change may be made
abbrev pub May : Change → Lineup → Type 0
May (Insert f e) l = IsNew l f × IsWithin l.period e
May (Remove f) l = IsSome (held_slot l f)
May (Fix f) l = IsSome (held_slot l f) × (fixed_slot l f ≡ None)
May (Release f e) l = IsSome (fixed_slot l f) × IsWithin l.period e
May (PutFixed f k) l = IsNew l f × (k < len_of l) × IfSome (held_flight l k) (λ holder. fixed_slot l holder ≡ None)

-- a flight is frozen in the slot that it has
abbrev pub fixed_there : Option ℕ → ℕ → Lineup → Lineup
fixed_there None f l = l
fixed_there (Some k) f l = fixed_at (record { flight = f; slot = k }) l

-- what it makes of a lineup
abbrev pub changed : Change → Lineup → Lineup
changed (Insert f e) l = with_waiting (record { entry = e; flight = f }) l
changed (Remove f) l = without_flight f l
changed (Fix f) l = fixed_there (held_slot l f) f l
changed (Release f e) l = with_waiting (record { entry = e; flight = f }) (without_flight f l)
changed (PutFixed f k) l = with_fixed (record { flight = f; slot = k }) l

-- a list of changes, one after the other
abbrev pub MayAll : List Change → Lineup → Type 0
MayAll [] l = Unit {0}
MayAll (c ∷ cs) l = May c l × MayAll cs (changed c l)

abbrev pub changed_by : List Change → Lineup → Lineup
changed_by [] l = l
changed_by (c ∷ cs) l = changed_by cs (changed c l)
