-- The slot list made afresh (ATFCM Users Manual, slot allocation): the provisional flights in their
-- order around the flights with frozen slots. Slots are numbered from 0.
use Rattle.std.specs.Prelude.{ℕ, zero, suc, Bool, false, ◌+◌, ◌||◌, ◌==◌, if◌then◌else◌, List, [], ◌∷◌, map, max}
use Rattle.flow_slots.specs.declared.cell.Planned.{Planned}

-- a flight and its slot
pub record Placed : Type 0 where
  pub flight : ℕ
  pub slot : ℕ

abbrev pub is_in : ℕ → List ℕ → Bool
is_in k [] = false
is_in k (x ∷ xs) = (x == k) || is_in k xs

-- a number greater than all of the list
abbrev pub above : List ℕ → ℕ
above [] = 0
above (x ∷ xs) = max (x + 1) (above xs)

-- the first of `k`, `k + 1`, .. that is not taken, within a number of tries
abbrev pub first_free_within : ℕ → List ℕ → ℕ → ℕ
first_free_within zero taken k = k
first_free_within (suc tries) taken k =
    if is_in k taken then first_free_within tries taken (k + 1) else k

-- the first number from `k` on that is not taken
abbrev pub first_free : List ℕ → ℕ → ℕ
first_free taken k = first_free_within (above taken) taken k

-- first planned, first served: each flight in turn gets the first slot not before its entry that is
-- not taken, and takes it
abbrev pub greedy : (ℕ → ℕ) → List ℕ → List Planned → List Placed
greedy first taken [] = []
greedy first taken (w ∷ ws) =
    let k = first_free taken (first w.entry) in
    record { flight = w.flight; slot = k } ∷ greedy first (k ∷ taken) ws

abbrev pub slots : List Placed → List ℕ
slots places = map (λ a. a.slot) places
