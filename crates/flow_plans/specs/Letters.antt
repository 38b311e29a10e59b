-- Aerodromes and route points as numbers, by their first letters.
use Rattle.fpl_message.specs.declared.order.Spot.{Spot}
use Rattle.fpl_message.specs.declared.order.Spot.TheVariants.{Dep, Arr, Via}
use Rattle.std.specs.Prelude.{◌≡◌, ℕ, ◌+◌, ◌*◌, ◌<◌, ◌≤◌, nat_lt, if◌then◌else◌, List, length, slice_index}

-- the first four letters of a name as one number, 0 for a shorter one
unfoldable pub letters_of : List ℕ → ℕ
letters_of place =
    if nat_lt (length place) 4 then 0
    else 16_777_216 * slice_index place 0 + 65_536 * slice_index place 1 + 256 * slice_index place 2 + slice_index place 3

-- each of these is a byte
abbrev pub AreBytes : List ℕ → Type 0
AreBytes bytes = (i : ℕ) → slice_index bytes i ≤ 255

-- a name that its letters distinguish from all others: it has four, and is not four zero bytes
pub record IsTold (place : List ℕ) : Type 0 where
  pub most : length place ≤ 4
  pub bytes : AreBytes place
  pub some : 0 < letters_of place

-- a departure that these letters determine
abbrev pub IsDepartureOf : ℕ → Spot → Type 0
IsDepartureOf letters (Dep place) = IsTold place × (letters ≡ letters_of place)
IsDepartureOf letters (Arr place) = ⊥
IsDepartureOf letters (Via place) = ⊥
