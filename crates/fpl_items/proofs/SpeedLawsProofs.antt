-- A speed and a level have one cut.
use Rattle.std.proofs.Common.{◌≡◌, ℕ, ◌+◌, ◌<◌, ◌≤◌, true, List, [], ◌∷◌, ◌++◌, length, take, drop, sym, refl, ap, ◌∙◌, arith}
use Rattle.std.specs.Prelude.{◌&&◌, ◌||◌, ◌==◌, slice_index}
use Rattle.std.specs.List.{list_all}
use Rattle.std.proofs.lemmas.List.{take_at, drop_at, take-append-drop}
use Rattle.fpl_text.specs.Bytes.{is_digit}
use Rattle.fpl_items.specs.Speeds.{is_letter_and_digits, is_speed, is_level, is_speed_and_level, speed_len}
use Rattle.fpl_items.specs.RouteLaws.{IsSpeedThenLevel}

pub cut-found : (word : List ℕ) → is_speed_and_level word ≡ true → IsSpeedThenLevel word (take (speed_len word) word) (drop (speed_len word) word)
unfolding is_speed_and_level
cut-found word h = record {
  speed_is = grind arith;
  level_is = grind arith;
  spelled = sym (take-append-drop (speed_len word) word);
}

-- a speed has the length that its first byte gives
speed-long : (speed : List ℕ) → is_speed speed ≡ true → length speed ≡ speed_len speed
unfolding is_speed is_letter_and_digits
speed-long speed h = grind arith

speed-some : (speed : List ℕ) → is_speed speed ≡ true → 4 ≤ length speed
unfolding is_speed is_letter_and_digits
speed-some speed h = grind arith

same-front : (speed level : List ℕ) → 0 < length speed → speed_len (speed ++ level) ≡ speed_len speed
same-front (b ∷ speed) level h = refl
same-front [] level h = absurd (omega (arith, h))

pub cut-only : (word speed level : List ℕ) → IsSpeedThenLevel word speed level
    → (is_speed_and_level word ≡ true) × (speed ≡ take (speed_len word) word) × (level ≡ drop (speed_len word) word)
unfolding is_speed_and_level
cut-only word speed level h =
    let long : length speed ≡ speed_len word = speed-long speed h.speed_is ∙ sym (ap speed_len h.spelled ∙ same-front speed level (omega (arith, speed-some speed h.speed_is))) in
    let front : take (speed_len word) word ≡ speed = ap (take (speed_len word)) h.spelled ∙ take_at speed level (speed_len word) long in
    let rest : drop (speed_len word) word ≡ level = ap (drop (speed_len word)) h.spelled ∙ drop_at speed level (speed_len word) long in
    (rw (front, rest, h.speed_is, h.level_is) refl, sym front, sym rest)
