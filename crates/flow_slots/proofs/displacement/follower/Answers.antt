use Rattle.std.proofs.Common.{◌≡◌, ◌+◌, sym, ap, ◌∙◌, arith}
use Rattle.std.proofs.lemmas.List.{length-map}
use Rattle.flow_slots.specs.PackedCell.{from_start}
use Rattle.flow_slots.specs.Period.{first_slot}
use Rattle.flow_slots.specs.Row.{cell_at}
use Rattle.flow_slots.proofs.Started.{stands-started, waits-started, early-waits}
use Rattle.flow_slots.proofs.displacement.follower.Goals as goal

pub returns-then-is_before-clause-waits : goal.returns-then-is_before-clause-waits
returns-then-is_before-clause-waits c =
    let before = c.is_before.ensures.0 c.if-is_before.true in
    early-waits c.get-cell.result (omega (arith, before.0, c.minutes.ensures, c.requires.regular.at_most_a_day))

pub returns-then-is_before-clause-found : goal.returns-then-is_before-clause-found
returns-then-is_before-clause-found c =
    let start = c.args.shape.now.start in
    let cells = c.args.row.now.cells.now in
    let hole = c.args.row.now.at in
    let cell = c.get-cell.result in
    let before = c.is_before.ensures.0 c.if-is_before.true in
    let here : cell ≡ cell_at cells (hole + 1) = c.get-cell.ensures ∙ ap (λ i. cell_at cells (i + 1)) c.at-next.ensures in
    let slot = ap (λ e. first_slot c.args.shape.now (start + e)) c.minutes.ensures in
    record {
      after = omega arith;
      within = omega (arith, c.if-next-len.true, c.len.ensures, c.at-next.ensures, length-map cells (from_start start));
      stands = sym (stands-started start cells (hole + 1) cell here) ∙ waits-started start cell (returns-then-is_before-clause-waits c);
      early = omega (arith, before.1, slot, c.at-next.ensures);
      between = λ j l m. absurd (omega arith);
    }
