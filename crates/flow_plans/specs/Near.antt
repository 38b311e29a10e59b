-- A table of words, with a row for each kind of point and each bit of a name. What a bit of a word
-- means is the table's own.
use Rattle.std.specs.Prelude.{◌≡◌, ℕ, ◌+◌, ◌<◌, List, slice_index_or as get_or}
use Rattle.std.specs.Int.{bit_at}
use Rattle.fpl_message.specs.declared.order.Spot.{Spot}
use Rattle.fpl_message.specs.declared.order.Spot.TheVariants.{Dep, Arr, Via}
use Rattle.fpl_items.specs.Points.{bit_of}

-- the row of a point: departures, arrivals and route points have 64 rows each
unfoldable pub table_row : Spot → ℕ
table_row (Dep place) = bit_of place
table_row (Arr place) = 64 + bit_of place
table_row (Via place) = 128 + bit_of place

-- the word of a row; one that the table doesn't have has each bit
abbrev pub word_at : List ℕ → ℕ → ℕ
word_at table row = get_or table row 18_446_744_073_709_551_615

-- a word has each bit of another
abbrev pub HasBitsOf : ℕ → ℕ → Type 0
HasBitsOf word other = (i : ℕ) → i < 64 → bit_at other i ≡ 1 → bit_at word i ≡ 1
