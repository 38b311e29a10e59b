use Rattle.std.proofs.Common.{◌≡◌, true, refl, sym, ap, ◌∙◌, arith}
use Rattle.flow_slots.specs.declared.cell.Cell.TheVariants.{Empty}
use Rattle.flow_slots.specs.PackedCell.{planned_in}
use Rattle.flow_slots.specs.Row.{cell_at}
use Rattle.flow_slots.specs.Walk.{waits}
use Rattle.flow_slots.proofs.Displacing.{Displacing-start, Displacing-passed, Displacing-taken, Displacing-count}
use Rattle.flow_slots.proofs.Started.{waits-is}
use Rattle.flow_slots.proofs.Steps.{displace-empty, has_empty-within}
use Rattle.flow_slots.proofs.Tied.{IsTied-seat}
use Rattle.flow_slots.proofs.displacement.displace.Goals as goal

pub loop-row-init : goal.loop-row-init
loop-row-init c = rw c.requires.fresh (record {
  same_reference = refl;
  walk = Displacing-start c.args.row.now.cells.now c.args.row.now.at c.args.places.now c.args.row.now.at (planned_in c.args.flight) c.requires.tied c.requires.some c.requires.number c.requires.absent c.requires.room c.requires.follows;
  waits = c.requires.waits;
})

pub loop-row-preserved : goal.loop-row-preserved
loop-row-preserved c =
    let cells = c.loop-row.row.cells.now in
    let k = c.loop-row.row.at in
    let walk = c.loop-row.invariant.walk in
    let here : c.get-cell.result ≡ cell_at cells k = c.get-cell.ensures ∙ ap (cell_at cells) c.at-k.ensures in
    let taken : c.get-cell.result ≡ Empty → ⊥ = (λ q. let yes = c.is_empty.ensures.1 q in let no = c.if-is_empty.false in cc) in
    rw (c.pass.ensures.cells, c.pass.ensures.at, c.pass.ensures.passed) (record {
      same_reference = c.pass.ensures.same_reference ∙ c.loop-row.invariant.same_reference;
      walk = Displacing-passed _ _ _ _ _ cells k c.loop-row.places (planned_in c.loop-row.coming) k c.get-cell.result walk (has_empty-within cells k walk.room) here (sym c.is_waiting.ensures ∙ c.if-is_waiting.false) taken;
      waits = c.loop-row.invariant.waits;
    })

pub loop-row-preserved-then-is_waiting : goal.loop-row-preserved-then-is_waiting
loop-row-preserved-then-is_waiting c =
    let cells = c.loop-row.row.cells.now in
    let k = c.loop-row.row.at in
    let walk = c.loop-row.invariant.walk in
    let here : c.get-cell.result ≡ cell_at cells k = c.get-cell.ensures ∙ ap (cell_at cells) c.at-k.ensures in
    let yes : waits c.get-cell.result ≡ true = sym c.is_waiting.ensures ∙ c.if-is_waiting.true in
    rw (c.put.ensures.cells, c.put.ensures.at, c.put.ensures.passed, c.of.ensures, c.flight.ensures, c.at-k.ensures) (record {
      same_reference = c.put.ensures.same_reference ∙ c.loop-row.invariant.same_reference;
      walk = Displacing-taken _ _ _ _ _ cells k c.loop-row.places c.loop-row.coming c.get-cell.result k walk (has_empty-within cells k walk.room) here c.loop-row.invariant.waits yes;
      waits = yes;
    })

pub returns-clause-tied : goal.returns-clause-tied
returns-clause-tied c =
    let cells = c.loop-row.row.cells.now in
    let k = c.loop-row.row.at in
    let walk = c.loop-row.invariant.walk in
    let within = has_empty-within cells k walk.room in
    let here : c.get-cell.result ≡ cell_at cells k = c.get-cell.ensures ∙ ap (cell_at cells) c.at-k.ensures in
    let empty : Empty ≡ cell_at cells k = sym (c.is_empty.ensures.0 c.if-is_empty.true) ∙ here in
    rw (c.put-2.ensures.cells, sym (waits-is c.loop-row.coming c.loop-row.invariant.waits), c.of-2.ensures, c.flight-2.ensures, c.at-k-2.ensures) (IsTied-seat c.loop-row.places cells k (planned_in c.loop-row.coming) walk.tied within walk.some (omega (arith, walk.number, walk.places_len)) empty)

pub returns-clause-cells : goal.returns-clause-cells
returns-clause-cells c =
    let cells = c.loop-row.row.cells.now in
    let k = c.loop-row.row.at in
    let walk = c.loop-row.invariant.walk in
    let within = has_empty-within cells k walk.room in
    let here : c.get-cell.result ≡ cell_at cells k = c.get-cell.ensures ∙ ap (cell_at cells) c.at-k.ensures in
    let empty : Empty ≡ cell_at cells k = sym (c.is_empty.ensures.0 c.if-is_empty.true) ∙ here in
    let put = displace-empty cells k (planned_in c.loop-row.coming) within empty in
    rw (c.put-2.ensures.cells, sym (waits-is c.loop-row.coming c.loop-row.invariant.waits)) (sym put ∙ walk.target)

pub returns-clause-written : goal.returns-clause-written
returns-clause-written c =
    let cells = c.loop-row.row.cells.now in
    let k = c.loop-row.row.at in
    let walk = c.loop-row.invariant.walk in
    rw (c.put-2.ensures.at, c.put-2.ensures.passed, c.put-2.ensures.cells, sym (waits-is c.loop-row.coming c.loop-row.invariant.waits)) (omega (arith, Displacing-count _ _ _ _ _ cells _ c.loop-row.places (planned_in c.loop-row.coming) k walk (has_empty-within cells k walk.room)))
