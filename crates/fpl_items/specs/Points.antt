-- Names of points of up to 11 bytes, and sets of points, each kept by one of 64 bits. A set may
-- seem to have a point that it hasn't, never the other way round.
use Rattle.std.specs.Prelude.{ℕ, ◌+◌, ◌-◌, ◌*◌, ◌%◌, Bool, ◌==◌, nat_lt, if◌then◌else◌, List, [], ◌∷◌, ◌++◌, length, replicate, slice_index}
use Rattle.std.specs.Int.{bit_at}

-- the bit of a point, which its second to fourth letter choose; short names share one
unfoldable pub bit_of : List ℕ → ℕ
bit_of place =
    if nat_lt (length place) 4 then 0
    else (7 * slice_index place 1 + 2 * slice_index place 2 + slice_index place 3) % 64

-- whether the bit of a point is set
abbrev pub may_have : ℕ → List ℕ → Bool
may_have places place = bit_at places (bit_of place) == 1

-- the stored form of a name of up to 11 bytes: its bytes, zeros up to the eleventh, and its length
unfoldable pub stored_name : List ℕ → List ℕ
stored_name place = place ++ (replicate (11 - length place) 0 ++ length place ∷ [])
