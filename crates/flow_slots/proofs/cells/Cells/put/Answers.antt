use Rattle.std.proofs.Common.{◌≡◌, length, set, sym, ap, ◌∙◌, arith}
use Rattle.flow_slots.proofs.Started.{length-started, started-written}
use Rattle.flow_slots.proofs.cells.Cells.put.Goals as goal

pub returns-clause-row : goal.returns-clause-row
returns-clause-row g c =
    let s = c.self.inside in
    let slots : length c.args.self.now.row ≡ s.len = ap (λ v. length v.row) (sym c.self.view_is) ∙ length-started s.start s.row.items s.len c.self.invariant.made in
    started-written s.start s.row.items s.len c.args.k c.put_in.new.row.items c.of.result c.args.cell c.self.invariant.made (omega (arith, slots, c.requires.slot)) c.put_in.ensures.items c.of.ensures
    ∙ ap (λ v. set v.row c.args.k c.args.cell) c.self.view_is

pub returns-clause-small : goal.returns-clause-small
returns-clause-small g c =
    let s = c.self.inside in
    let slots : length c.args.self.now.row ≡ s.len = ap (λ v. length v.row) (sym c.self.view_is) ∙ length-started s.start s.row.items s.len c.self.invariant.made in
    omega (arith, slots, c.requires.slot, c.self.invariant.slots)
