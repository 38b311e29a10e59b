use Rattle.std.proofs.Common.{◌≡◌, ◌≤◌, ◌<◌, ◌+◌, ◌-◌, ℕ, List, true, false, length, length-drop, get_or, take, drop, refl, sym, ap, ◌∙◌, arith}
use Rattle.std.specs.List.{All}
use Rattle.std.proofs.lemmas.List.{get_or-take, get_or-drop, get_or_read_under, length-take}
use Rattle.flow_slots.specs.PackedCell.{planned_in}
use Rattle.flow_slots.specs.Row.{cell_at}
use Rattle.flow_slots.specs.declared.cell.Cell.{Cell}
use Rattle.flow_slots.specs.declared.cell.Cell.TheVariants.{Empty}
use Rattle.flow_slots.specs.declared.cell.Planned.{Planned}
use Rattle.flow_slots.specs.Walk.{passes}
use Rattle.flow_slots.proofs.Following.{passed-earlier, comes-in}
use Rattle.flow_slots.proofs.Steps.{has_empty-within}
use Rattle.flow_slots.proofs.displacement.first_later.Goals as goal

-- each cell of a chunk that is passed by
chunk-passed : (i n end : ℕ) (row : List Cell) (x : Planned) → end ≡ i + n → end ≤ length row → All (λ cell. passes x cell ≡ true) (take n (drop i row)) → (k : ℕ) → i ≤ k → k < end → passes x (cell_at row k) ≡ true
chunk-passed i n end row x is within all k low high =
    let at : i + (k - i) ≡ k = omega (arith, low) in
    let inside : k - i < n = omega (arith, is, low, high) in
    let len : k - i < length (take n (drop i row)) = omega (arith, is, within, inside, length-take n (drop i row), length-drop i row) in
    sym (ap (passes x) (get_or-take n (drop i row) (k - i) Empty inside ∙ (get_or-drop i row (k - i) Empty ∙ ap (λ j. get_or row j Empty) at))) ∙ all (k - i) Empty len

pub loop-chunk-preserved : goal.loop-chunk-preserved
loop-chunk-preserved c =
    let s = c.loop-chunk in
    let row = c.args.cells.now in
    let x = planned_in c.args.flight in
    record {
      passed = passed-earlier row c.args.from s.chunk (s.chunk + 16) x (omega arith) (chunk-passed s.chunk (s.chunk + 16 - s.chunk) (s.chunk + 16) row x (omega arith) c.loop-chunk-test.true (c.are_passed.ensures.0 c.if-are_passed.true)) s.invariant.passed;
    }

pub returns : goal.returns
returns c =
    let s = c.loop-flight in
    let row = c.args.cells.now in
    let x = planned_in c.args.flight in
    let within = has_empty-within row s.place s.invariant.passed.room in
    let read = get_or_read_under row s.place (length row) _ Empty c.index-cells-place.is within refl in
    let gives : passes x (cell_at row s.place) ≡ false = ap (passes x) (sym read) ∙ (sym c.is_passed.ensures ∙ c.loop-flight-test.false) in
    record { comes = comes-in row c.args.from s.place x s.invariant.passed gives c.requires.order }
