use Rattle.std.proofs.Common.{◌≡◌, length, set, sym, ap, ◌∙◌, arith}
use Rattle.flow_slots.specs.Cells.{CellsView, one_more}
use Rattle.flow_slots.proofs.Started.{length-started, started-written}
use Rattle.flow_slots.proofs.cells.Cells.write.Goals as goal

pub returns-clause-cells : goal.returns-clause-cells
returns-clause-cells g c =
    let s = c.self.inside in
    let k = c.args.k in
    let slots : length c.args.self.now.row ≡ s.len = ap (λ v. length v.row) (sym c.self.view_is) ∙ length-started s.start s.row.items s.len c.self.invariant.made in
    let row = started-written s.start s.row.items s.len k c.put_in.new.row.items c.of.result c.args.cell c.self.invariant.made (omega (arith, slots, c.requires.slot)) c.put_in.ensures.items c.of.ensures ∙ ap (λ v. set v.row k c.args.cell) c.self.view_is in
    let writes = c.saturating_add-self-inside.ensures ∙ ap (λ v. one_more v.writes) c.self.view_is in
    let start : s.start ≡ c.args.self.now.start = ap (λ v. v.start) c.self.view_is in
    let n = c.saturating_add-self-inside.result in
    let new = set c.args.self.now.row k c.args.cell in
    ap (λ v. let r : CellsView = record { row = v; writes = n; start = s.start } in r) row
    ∙ (ap (λ v. let r : CellsView = record { row = new; writes = v; start = s.start } in r) writes
    ∙ ap (λ v. let r : CellsView = record { row = new; writes = one_more c.args.self.now.writes; start = v } in r) start)

pub returns-clause-small : goal.returns-clause-small
returns-clause-small g c =
    let s = c.self.inside in
    let slots : length c.args.self.now.row ≡ s.len = ap (λ v. length v.row) (sym c.self.view_is) ∙ length-started s.start s.row.items s.len c.self.invariant.made in
    omega (arith, slots, c.requires.slot, c.self.invariant.slots)
