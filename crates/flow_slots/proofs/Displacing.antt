-- What the walk of a flight that displaces others keeps.
use Rattle.std.proofs.Common.{◌≡◌, ℕ, ◌+◌, ◌<◌, ◌++◌, true, false, List, length, get_or, set, take, drop, Option, None, Some, refl, sym, ap, subst, ◌∙◌, arith}
use Rattle.std.proofs.lemmas.List.{length-set, drop-set-lt, get_or-drop}
use Rattle.std.proofs.lemmas.Grind.{drop_more_same}
use Rattle.flow_slots.specs.declared.cell.Planned.{Planned}
use Rattle.flow_slots.specs.declared.cell.Cell.{Cell}
use Rattle.flow_slots.specs.declared.cell.Cell.TheVariants.{Empty, Waiting, Fixed}
use Rattle.flow_slots.specs.Changed.{gained}
use Rattle.flow_slots.specs.PackedCell.{flight_number, planned_in}
use Rattle.flow_slots.specs.Row.{flight_of, flight_at, place_at, IsTied}
use Rattle.flow_slots.specs.Walk.{displace, has_empty, waits, Follows}
use Rattle.flow_slots.proofs.Following.{Follows-fixed, Follows-waiting}
use Rattle.flow_slots.proofs.Steps.{displace-fixed, displace-later, has_empty-fixed, has_empty-waiting}
use Rattle.flow_slots.proofs.Tied.{IsTied-swap, IsTied-number, IsTied-absent, place_at-lifted}
use Rattle.flow_slots.proofs.Gained.{gained-same, gained-write}

-- the cells from `k` on are those of `start`
pub same_ahead : (start row : List Cell) (k : ℕ) → drop k row ≡ drop k start → flight_at row k ≡ flight_at start k
same_ahead start row k e =
    let here : get_or row k Empty ≡ get_or (drop k row) 0 Empty = (let q : k ≡ k + 0 = omega arith in ap (λ i. get_or row i Empty) q ∙ sym (get_or-drop k row 0 Empty)) in
    let there : get_or start k Empty ≡ get_or (drop k start) 0 Empty = (let q : k ≡ k + 0 = omega arith in ap (λ i. get_or start i Empty) q ∙ sym (get_or-drop k start 0 Empty)) in
    ap flight_of (here ∙ (ap (λ l. get_or l 0 Empty) e ∙ sym there))

-- `coming` has no slot, and comes to the cells from `k` on, which no write has reached; the outcome
-- is that of `x` coming to the cells of `start` from `from` on
pub record Displacing (start : List Cell) (flights first_writes from : ℕ) (x : Planned) (row : List Cell) (writes : ℕ) (places : List (Option ℕ)) (coming : Planned) (k : ℕ) : Type 0 where
  pub len : length row ≡ length start
  pub places_len : length places ≡ flights
  pub some : 0 < coming.flight
  pub number : coming.flight < flights
  pub tied : IsTied (set places coming.flight None) row
  pub room : has_empty (drop k row) ≡ true
  pub follows : Follows coming (drop k row)
  pub ahead : drop k row ≡ drop k start
  pub count : writes ≡ first_writes + gained start row
  pub target : take k row ++ displace coming (drop k row) ≡ take from start ++ displace x (drop from start)

pub Displacing-start : (row : List Cell) (writes : ℕ) (places : List (Option ℕ)) (from : ℕ) (x : Planned) → IsTied places row → 0 < x.flight → x.flight < length places → place_at places x.flight ≡ None → has_empty (drop from row) ≡ true → Follows x (drop from row) → Displacing row (length places) writes from x row writes places x from
Displacing-start row writes places from x t some n none room follows =
    record {
      len = refl;
      places_len = refl;
      some = some;
      number = n;
      tied = IsTied-absent places row x.flight t none;
      room = room;
      follows = follows;
      ahead = refl;
      count = omega (arith, gained-same row);
      target = refl;
    }

pub Displacing-fixed : (start : List Cell) (flights first_writes from : ℕ) (x : Planned) (row : List Cell) (writes : ℕ) (places : List (Option ℕ)) (coming : Planned) (k f : ℕ) → Displacing start flights first_writes from x row writes places coming k → k < length row → Fixed f ≡ get_or row k Empty → Displacing start flights (first_writes + 1) from x row (writes + 1) places coming (k + 1)
Displacing-fixed start flights first_writes from x row writes places coming k f d h e =
    record {
      len = d.len;
      places_len = d.places_len;
      some = d.some;
      number = d.number;
      tied = d.tied;
      room = sym (has_empty-fixed row k f h e) ∙ d.room;
      follows = Follows-fixed row k f coming h e d.follows;
      ahead = drop_more_same row start k d.ahead;
      count = omega (arith, d.count);
      target = sym (displace-fixed row k f coming h e) ∙ d.target;
    }

-- so is a cell that is neither empty nor provisional
pub Displacing-passed : (start : List Cell) (flights first_writes from : ℕ) (x : Planned) (row : List Cell) (writes : ℕ) (places : List (Option ℕ)) (coming : Planned) (k : ℕ) (cell : Cell) → Displacing start flights first_writes from x row writes places coming k → k < length row → cell ≡ get_or row k Empty → waits cell ≡ false → (cell ≡ Empty → ⊥) → Displacing start flights (first_writes + 1) from x row (writes + 1) places coming (k + 1)
Displacing-passed start flights first_writes from x row writes places coming k Empty d h e w n = absurd (n refl)
Displacing-passed start flights first_writes from x row writes places coming k (Waiting v) d h e w n = cc
Displacing-passed start flights first_writes from x row writes places coming k (Fixed f) d h e w n = Displacing-fixed start flights first_writes from x row writes places coming k f d h e

-- one write, to a cell of another flight or of none
pub Displacing-count : (start : List Cell) (flights first_writes from : ℕ) (x : Planned) (row : List Cell) (writes : ℕ) (places : List (Option ℕ)) (coming : Planned) (k : ℕ) → Displacing start flights first_writes from x row writes places coming k → k < length row → writes + 1 ≡ first_writes + gained start (set row k (Waiting coming))
Displacing-count start flights first_writes from x row writes places coming k d h =
    let same = same_ahead start row k d.ahead in
    let apart : flight_at start k ≡ Some coming.flight → ⊥ = λ q.
    (let stands : place_at (set places coming.flight None) coming.flight ≡ Some k = (d.tied.each coming.flight k).1 (same ∙ q) in
    let none : place_at (set places coming.flight None) coming.flight ≡ None = place_at-lifted places coming.flight in cc) in
    let more = gained-write start row k coming.flight (Waiting coming) h (omega (arith, d.len)) same refl apart in
    omega (arith, more, d.count)

Displacing-later : (start : List Cell) (flights first_writes from : ℕ) (x : Planned) (row : List Cell) (writes : ℕ) (places : List (Option ℕ)) (coming : Planned) (k : ℕ) (held : Planned) → Displacing start flights first_writes from x row writes places coming k → k < length row → Waiting held ≡ get_or row k Empty → Displacing start flights first_writes from x (set row k (Waiting coming)) (writes + 1) (set places coming.flight (Some k)) held (k + 1)
Displacing-later start flights first_writes from x row writes places coming k held d h e =
    let beyond = drop-set-lt (k + 1) row k (Waiting coming) (omega arith) in
    let next = Follows-waiting row k held coming h e d.follows in
    record {
      len = length-set row k (Waiting coming) ∙ d.len;
      places_len = length-set places coming.flight (Some k) ∙ d.places_len;
      some = (IsTied-number places row k coming.flight held d.tied e).0;
      number = omega (arith, (IsTied-number places row k coming.flight held d.tied e).1, d.places_len);
      tied = IsTied-swap places row k coming held d.tied h d.some (omega (arith, d.number, d.places_len)) e;
      room = ap has_empty beyond ∙ (sym (has_empty-waiting row k held h e) ∙ d.room);
      follows = subst (Follows held) (sym beyond) next.1;
      ahead = beyond ∙ drop_more_same row start k d.ahead;
      count = Displacing-count start flights first_writes from x row writes places coming k d h;
      target = sym (displace-later row k held coming h e next.0) ∙ d.target;
    }

-- so where both are known as cells with a provisional flight
pub Displacing-taken : (start : List Cell) (flights first_writes from : ℕ) (x : Planned) (row : List Cell) (writes : ℕ) (places : List (Option ℕ)) (coming held : Cell) (k : ℕ) → Displacing start flights first_writes from x row writes places (planned_in coming) k → k < length row → held ≡ get_or row k Empty → waits coming ≡ true → waits held ≡ true → Displacing start flights first_writes from x (set row k coming) (writes + 1) (set places (flight_number coming) (Some k)) (planned_in held) (k + 1)
Displacing-taken start flights first_writes from x row writes places Empty held k d h e c w = cc
Displacing-taken start flights first_writes from x row writes places (Fixed f) held k d h e c w = cc
Displacing-taken start flights first_writes from x row writes places (Waiting v) Empty k d h e c w = cc
Displacing-taken start flights first_writes from x row writes places (Waiting v) (Fixed f) k d h e c w = cc
Displacing-taken start flights first_writes from x row writes places (Waiting v) (Waiting u) k d h e c w = Displacing-later start flights first_writes from x row writes places v k u d h e
