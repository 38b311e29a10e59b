-- What the row says of a flight that has a slot, and of the slot: the flight is the one there, and
-- both are of the list.
use Rattle.std.proofs.Common.{◌≡◌, ℕ, ◌<◌, List, Option, None, Some, IfSome, refl, sym, ◌∙◌, arith}
use Rattle.flow_slots.specs.declared.cell.Cell.{Cell}
use Rattle.flow_slots.specs.Period.{Period}
use Rattle.flow_slots.specs.Row.{flight_at, place_at}
use Rattle.flow_slots.specs.Lineup.{IsKept, len_of, held_slot, held_flight}
use Rattle.flow_slots.specs.LineupLaws.{IsNumber}
use Rattle.flow_slots.proofs.Held.{held_slot-is, held_flight-is, place_at-number}
use Rattle.flow_slots.proofs.Kept.{lineup_of}
use Rattle.flow_slots.proofs.Periods.{slots_before_end-at_most}
use Rattle.flow_slots.proofs.Tied.{flight_at-within}

module _ (p : Period) (capacity : ℕ) (row : List Cell) (places : List (Option ℕ)) (kept : IsKept p capacity row places) where
  within : (k f : ℕ) → flight_at row k ≡ Some f → k < len_of (lineup_of p capacity row)
  within k f e = omega (arith, kept.len, flight_at-within row k f e)

  most : (k f : ℕ) → flight_at row k ≡ Some f → k < 30000
  most k f e = omega (arith, within k f e, kept.flights, slots_before_end-at_most p kept.regular)

  number : (k f : ℕ) → place_at places f ≡ Some k → IsNumber (lineup_of p capacity row) f
  number k f e = place_at-number p capacity f k row places (lineup_of p capacity row) kept refl e

  -- the place of a flight
  pub place-most : (f : ℕ) (o : Option ℕ) → o ≡ place_at places f → IfSome o (λ k. k < 30000)
  place-most f None e = tt
  place-most f (Some k) e = most k f ((kept.tied.each f k).0 (sym e))

  pub place-holder : (f : ℕ) (o : Option ℕ) → o ≡ place_at places f → IfSome o (λ k. held_flight (lineup_of p capacity row) k ≡ Some f)
  place-holder f None e = tt
  place-holder f (Some k) e = held_flight-is p capacity capacity row places k kept ∙ (kept.tied.each f k).0 (sym e)

  pub place-number : (f : ℕ) (o : Option ℕ) → o ≡ place_at places f → IfSome o (λ _. IsNumber (lineup_of p capacity row) f)
  place-number f None e = tt
  place-number f (Some k) e = number k f (sym e)

  -- the flight in a slot
  pub flight-slot : (k : ℕ) (o : Option ℕ) → o ≡ flight_at row k → IfSome o (λ f. held_slot (lineup_of p capacity row) f ≡ Some k)
  flight-slot k None e = tt
  flight-slot k (Some f) e = held_slot-is p capacity capacity row places f kept ∙ (kept.tied.each f k).1 (sym e)

  pub flight-number : (k : ℕ) (o : Option ℕ) → o ≡ flight_at row k → IfSome o (λ f. IsNumber (lineup_of p capacity row) f)
  flight-number k None e = tt
  flight-number k (Some f) e = number k f ((kept.tied.each f k).1 (sym e))

  pub flight-within : (k : ℕ) (o : Option ℕ) → o ≡ flight_at row k → IfSome o (λ _. k < len_of (lineup_of p capacity row))
  flight-within k None e = tt
  flight-within k (Some f) e = within k f (sym e)

  pub flight-most : (k : ℕ) (o : Option ℕ) → o ≡ flight_at row k → IfSome o (λ _. k < 30000)
  flight-most k None e = tt
  flight-most k (Some f) e = most k f (sym e)
