-- Masks: for each flight a word, in which each bit is for one of the first 64 open regulations, in
-- the order of opening. If the bit isn't set, the flight isn't held there; if it is, the flight may
-- be held or not. In the same way a table has a word for each kind of point and each bit of a point
-- (`table_row`): if the bit isn't set, the regulation isn't at a point of that row.
use Rattle.std.specs.Prelude.{◌≡◌, ℕ, suc, ◌<◌, Bool, true, false, ◌==◌, nat_lt, if◌then◌else◌, List, [], ◌∷◌, length, None, slice_index_or as get_or}
use Rattle.std.specs.Int.{bit_at}
use Rattle.flow_plans.specs.Near.{table_row}
use Rattle.flow_plans.specs.Plans.{PlanView}
use Rattle.flow_slots.specs.Lineup.{IsLineup, NoneIs, NoneFixed}
use Rattle.flow_slots.specs.Period.{IsRegular}
use Rattle.flow_regulations.specs.Regulations.{subject_to}
use Rattle.flow_regulations.specs.Listing.{RegulationView, regulation_of}

-- whether the regulation at this index may hold a flight of this mask; each from the 65th on may
unfoldable pub may_stand : ℕ → ℕ → Bool
may_stand word index = if nat_lt index 64 then bit_at word index == 1 else true

-- the mask of a flight; one that has none may be held in each regulation
abbrev pub mask_of : List ℕ → ℕ → ℕ
mask_of words flight = get_or words flight 18_446_744_073_709_551_615

-- the flight isn't held
abbrev pub IsOut : ℕ → RegulationView → Type 0
IsOut flight l = NoneFixed flight l.lineup.fixed × NoneIs flight l.lineup.waiting

-- no flight is in the list twice, and the period is regular
pub record IsInOrder (l : RegulationView) : Type 0 where
  pub lined : IsLineup l.lineup
  pub regular : IsRegular l.lineup.period

-- the regulations from this index on don't hold the flight if its mask says so
abbrev pub IsMarked : ℕ → ℕ → ℕ → List RegulationView → Type 0
IsMarked word flight index [] = Unit {0}
IsMarked word flight index (l ∷ ls) = (may_stand word index ≡ false → IsOut flight l) × IsMarked word flight (suc index) ls

-- and so for each flight
abbrev pub AreMarked : List ℕ → List RegulationView → Type 0
AreMarked words lists = (flight : ℕ) → IsMarked (mask_of words flight) flight 0 lists

-- a mask that excludes no regulation below this index that the other didn't
abbrev pub KeepsBelow : ℕ → ℕ → ℕ → Type 0
KeepsBelow index word new = (i : ℕ) → nat_lt i index ≡ true → may_stand word i ≡ true → may_stand new i ≡ true

-- and none at all
abbrev pub KeepsMask : ℕ → ℕ → Type 0
KeepsMask word new = (i : ℕ) → may_stand word i ≡ true → may_stand new i ≡ true

-- the regulation at this index is gone, and the later ones moved up
abbrev pub MaskMovesUp : ℕ → ℕ → ℕ → Type 0
MaskMovesUp index word new = KeepsBelow index word new × ((i : ℕ) → nat_lt i index ≡ false → may_stand word (suc i) ≡ true → may_stand new i ≡ true)

-- a regulation was opened at this index, which holds the flight or not
abbrev pub IsOpenedTo : ℕ → RegulationView → ℕ → ℕ → ℕ → Type 0
IsOpenedTo index l flight word new = KeepsBelow index word new × (may_stand new index ≡ false → IsOut flight l)

-- a regulation whose row in a table of masks by points is this one was opened at this index
abbrev pub IsOpenedIn : ℕ → ℕ → ℕ → ℕ → ℕ → Type 0
IsOpenedIn own index row word new = KeepsBelow index word new × (row ≡ own → may_stand new index ≡ true)

-- regulations from this index on, each of which is in the mask of its row: the table says which
-- regulations are at a point
abbrev pub AreInRows : List ℕ → ℕ → List RegulationView → Type 0
AreInRows table index [] = Unit {0}
AreInRows table index (l ∷ ls) = (may_stand (mask_of table (table_row l.spot)) index ≡ true) × AreInRows table (suc index) ls

-- regulations that aren't in this mask don't apply to the flight of a plan
abbrev pub MarksNear : ℕ → ℕ → PlanView → List RegulationView → Type 0
MarksNear near taxi p lists =
    (index : ℕ) (l : RegulationView) → index < length lists → may_stand near index ≡ false → subject_to taxi (regulation_of (get_or lists index l)) p ≡ None
