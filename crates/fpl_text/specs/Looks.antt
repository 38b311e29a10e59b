-- What a look at 32 or 64 bytes shows, and which of them a pass keeps.
use Rattle.std.specs.Prelude.{◌≡◌, ◌<◌, ◌≤◌, ◌+◌, ◌==◌, ◌&&◌, ◌||◌, not, if◌then◌else◌, nat_le, nat_lt, ℕ, zero, suc, Bool, List, length, slice_index}
use Rattle.std.specs.Int.{bit_at}
use Rattle.fpl_text.specs.Bytes.{is_blank, is_border, is_plain, is_accepted}
use Rattle.fpl_text.specs.declared.squeezed.Look.{Look}

-- a border or a plain byte
abbrev pub is_solid : ℕ → Bool
is_solid b = is_plain b || is_border b

-- the class of a byte: 128 for a border, from 8 on for a plain byte, from 2 on for a blank, and
-- less for any other
pub record IsClass (b class : ℕ) : Type 0 where
  pub most : class ≤ 128
  pub border : nat_le 128 class ≡ is_border b
  pub solid : nat_le 8 class ≡ is_solid b
  pub accepted : nat_le 2 class ≡ is_accepted b

-- v has 32 lanes, and lane k has the class of f k
pub record HasClasses (v : List ℕ) (f : ℕ → ℕ) : Type 0 where
  pub long : length v ≡ 32
  pub each : (k : ℕ) → k < 32 → IsClass (f k) (slice_index v k)

-- a space for a byte below it
abbrev pub as_space : ℕ → ℕ
as_space b = if nat_lt b 32 then 32 else b

-- v has 32 lanes, and lane k holds f k, or a space for a lower byte
pub record HasSpaces (v : List ℕ) (f : ℕ → ℕ) : Type 0 where
  pub long : length v ≡ 32
  pub each : (k : ℕ) → k < 32 → slice_index v k ≡ as_space (f k)

-- the bytes of `out` from `made` on hold f k, or a space for a lower byte
abbrev pub AreSpaced : List ℕ → ℕ → ℕ → (ℕ → ℕ) → Type 0
AreSpaced out made len f = (k : ℕ) → k < len → slice_index out (made + k) ≡ as_space (f k)

-- bit k says what p says of k, for this many bits
abbrev pub IsBits : ℕ → ℕ → (ℕ → Bool) → Type 0
IsBits len bits p = (k : ℕ) → k < len → (bit_at bits k == 1) ≡ p k

-- a look at the bytes f k
pub record IsLook (look : Look) (f : ℕ → ℕ) : Type 0 where
  pub some : 1 < look.len
  pub few : look.len ≤ 64
  pub borders : IsBits look.len look.borders (λ k. is_border (f k))
  pub solid : IsBits look.len look.solid (λ k. is_solid (f k))
  pub accepted : IsBits look.len look.accepted (λ k. is_accepted (f k))

-- what p says of the index before k; `first` for index 0
abbrev pub behind : Bool → (ℕ → Bool) → ℕ → Bool
behind first p zero = first
behind first p (suc k) = p k

-- a border, a plain byte, or a blank before a plain byte and not after a border; `border` is for
-- the byte before all
abbrev pub is_kept : Bool → (ℕ → ℕ) → ℕ → Bool
is_kept border f k =
    is_solid (f k) || (is_blank (f k) && (is_plain (f (k + 1)) && not (behind border (λ j. is_border (f j)) k)))
