-- What a vector of 16 bytes holds.
use Rattle.std.specs.Prelude.{◌≡◌, ◌<◌, if◌then◌else◌, ℕ, Bool, List, length, slice_index}

-- v has 16 lanes, and lane k holds f k
pub record HasLanes (v : List ℕ) (f : ℕ → ℕ) : Type 0 where
  pub long : length v ≡ 16
  pub each : (k : ℕ) → k < 16 → slice_index v k ≡ f k

-- a test as a lane: all bits, or none
abbrev pub flag : Bool → ℕ
flag set = if set then 255 else 0

-- v has 16 lanes, and lane k is the flag of p k
abbrev pub HasFlags : List ℕ → (ℕ → Bool) → Type 0
HasFlags v p = HasLanes v (λ k. flag (p k))
