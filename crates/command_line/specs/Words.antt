-- Arguments that may not be text.
use Rattle.std.specs.Prelude.{◌≡◌, ℕ, ◌+◌, ◌/◌, ◌%◌, ◌<◌, List, [], ◌∷◌, ◌++◌, take, drop, slice_index, nat_lt, if◌then◌else◌, IsUtf8, String, string_bytes}
use Rattle.std.specs.Global.{Global}
use Rattle.std.specs.Str.{IsValidUpTo}
use Rattle.command_line.specs.declared.words.WordFault.{WordFault}
use Rattle.command_line.specs.declared.words.WordFault.TheVariants.{NotText, OutOfMemory}

-- a hexadecimal digit: 0 to 9, and a to f
abbrev pub digit_of : ℕ → ℕ
digit_of value = if nat_lt value 10 then 48 + value else 87 + value

-- a byte as \x and its two digits
abbrev pub escaped : ℕ → List ℕ
escaped byte = 92 ∷ 120 ∷ digit_of (byte / 16) ∷ digit_of (byte % 16) ∷ []

-- the text has each character of the bytes as it is, and each byte that belongs to none escaped
pub data IsReadable : List ℕ → List ℕ → Type 0 where
  whole : (bytes text : List ℕ) → IsUtf8 bytes → text ≡ bytes → IsReadable bytes text
  cut : (bytes text : List ℕ) (valid : ℕ) (rest : List ℕ) → ¬ IsUtf8 bytes → IsValidUpTo bytes valid
      → IsReadable (drop (valid + 1) bytes) rest
      → text ≡ take valid bytes ++ (escaped (slice_index bytes valid) ++ rest) → IsReadable bytes text

-- a fault of the argument of this number has its number and its readable form, if it isn't UTF-8
pub data Tells : List ℕ → ℕ → WordFault → Type 0 where
  not_text : (bytes : List ℕ) (number : ℕ) (shown : String Global) → 0 < number → ¬ IsUtf8 bytes
      → IsReadable bytes (string_bytes shown) → Tells bytes number (NotText number shown)
  out_of_memory : (bytes : List ℕ) (number : ℕ) → Tells bytes number OutOfMemory
