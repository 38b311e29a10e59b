-- The range of the first frame in some bytes that show its end.
use Rattle.std.specs.Prelude.{◌≡◌, ℕ, ◌<◌, ◌≤◌, List, length, take, drop, slice_range, true, Some}
use Rattle.flow_input.specs.Frames.{cut, first_cut}

-- the bytes begin with a frame of this length, and show that it ended
pub record EndsAt (bytes : List ℕ) (len : ℕ) : Type 0 where
  pub some : 0 < len
  pub within : len ≤ length bytes
  pub is : cut bytes ≡ Some (record { frame = take len bytes; rest = drop len bytes; ended = true })

-- the first frame has this range, and the bytes show that it ended
pub record Shows (bytes : List ℕ) (begin end : ℕ) : Type 0 where
  pub some : begin < end
  pub within : end ≤ length bytes
  pub is : first_cut bytes ≡ Some (record { frame = slice_range bytes begin end; rest = drop end bytes; ended = true })
