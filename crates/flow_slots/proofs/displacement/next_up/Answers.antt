use Rattle.std.proofs.Common.{◌≡◌, ◌+◌, true, map, sym, ap, subst, ◌∙◌, arith}
use Rattle.std.proofs.lemmas.List.{length-map}
use Rattle.flow_slots.specs.declared.cell.Cell.TheVariants.{Empty}
use Rattle.flow_slots.specs.PackedCell.{from_start, flight_from, planned_in}
use Rattle.flow_slots.specs.Period.{first_slot}
use Rattle.flow_slots.specs.Row.{cell_at, IsFixedCell}
use Rattle.flow_slots.specs.Walk.{waits}
use Rattle.flow_slots.proofs.MovingUp.{next_up-late, next_up-empty, next_up-fixed, fixed-more}
use Rattle.flow_slots.proofs.Started.{stands-started, fixed-started, waits-started}
use Rattle.flow_slots.proofs.displacement.next_up.Goals as goal

pub at-requires : goal.at-requires
at-requires c =
    let start = c.args.shape.now.start in
    let cells = c.args.row.now.cells.now in
    let next = c.loop-next.next in
    let cell = c.get-cell.result in
    let yes : waits cell ≡ true = sym c.is_waiting.ensures ∙ c.if-is_waiting.true in
    let stands = stands-started start cells next cell c.get-cell.ensures in
    omega (arith, c.minutes.ensures, c.requires.entries next (flight_from start (planned_in cell)) (sym stands ∙ waits-started start cell yes))

pub returns-then-hole-at-clause-none : goal.returns-then-hole-at-clause-none
returns-then-hole-at-clause-none c =
    let start = c.args.shape.now.start in
    let cells = c.args.row.now.cells.now in
    let next = c.loop-next.next in
    let cell = c.get-cell.result in
    let yes : waits cell ≡ true = sym c.is_waiting.ensures ∙ c.if-is_waiting.true in
    let stands = stands-started start cells next cell c.get-cell.ensures in
    let slot = ap (λ e. first_slot c.args.shape.now (start + e)) c.minutes.ensures in
    c.loop-next.invariant.same
    ∙ next_up-late (λ e. first_slot c.args.shape.now e) c.args.row.now.at next (flight_from start (planned_in cell)) (map (from_start start) cells) (omega (arith, length-map cells (from_start start))) (sym (waits-started start cell yes) ∙ stands) (omega (arith, slot))

pub returns-then-is_empty-clause-none : goal.returns-then-is_empty-clause-none
returns-then-is_empty-clause-none c =
    let start = c.args.shape.now.start in
    let cells = c.args.row.now.cells.now in
    let next = c.loop-next.next in
    let stands : Empty ≡ cell_at (map (from_start start) cells) next = stands-started start cells next Empty (sym (c.is_empty.ensures.0 c.if-is_empty.true) ∙ c.get-cell.ensures) in
    c.loop-next.invariant.same
    ∙ next_up-empty (λ e. first_slot c.args.shape.now e) c.args.row.now.at next (map (from_start start) cells) (omega (arith, length-map cells (from_start start))) stands

pub loop-next-preserved : goal.loop-next-preserved
loop-next-preserved c =
    let start = c.args.shape.now.start in
    let cells = c.args.row.now.cells.now in
    let row = map (from_start start) cells in
    let next = c.loop-next.next in
    let cell = c.get-cell.result in
    let stands : from_start start cell ≡ cell_at row next = stands-started start cells next cell c.get-cell.ensures in
    let taken : cell ≡ Empty → ⊥ = (λ q. let yes = c.is_empty.ensures.1 q in let no = c.if-is_empty.false in cc) in
    let fixed : IsFixedCell (from_start start cell) = fixed-started start cell (sym c.is_waiting.ensures ∙ c.if-is_waiting.false) taken in
    record {
      between = fixed-more row c.args.row.now.at next c.loop-next.invariant.between (subst IsFixedCell stands fixed);
      same = c.loop-next.invariant.same ∙ next_up-fixed (λ e. first_slot c.args.shape.now e) c.args.row.now.at next (from_start start cell) row (omega (arith, length-map cells (from_start start))) stands fixed;
    }
