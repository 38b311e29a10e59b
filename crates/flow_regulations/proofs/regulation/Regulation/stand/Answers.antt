use Rattle.std.proofs.Common.{sym, ap, ◌∙◌}
use Rattle.flow_regulations.specs.Listing.{with_lineup, fixed_waiting}
use Rattle.std.proofs.Common.{cond}
use Rattle.flow_regulations.proofs.Looked.{out-absent}
use Rattle.flow_regulations.proofs.Standing.{stands}
use Rattle.flow_regulations.proofs.regulation.Regulation.stand.Goals as goal

pub place-requires-clause-absent : goal.place-requires-clause-absent
place-requires-clause-absent g c = out-absent c.args.number c.args.self.now c.take_out.new.self c.take_out.ensures

pub returns-then-due : goal.returns-then-due
returns-then-due g c =
    let l = c.args.self.now in
    let waits = c.waits_from.ensures.yes c.if-not-waits_from.false in
    let same = stands c.args.due c.args.number c.args.entry l.lineup c.waits_from.ensures.lined waits in
    c.fix_waiting.ensures.fixed ∙ sym (ap (λ v. with_lineup v l) (same ∙ ap (λ b. cond b (fixed_waiting c.args.number l.lineup) l.lineup) c.if-due.true))

pub returns-else-due : goal.returns-else-due
returns-else-due g c =
    let l = c.args.self.now in
    let waits = c.waits_from.ensures.yes c.if-not-waits_from.false in
    let same = stands c.args.due c.args.number c.args.entry l.lineup c.waits_from.ensures.lined waits in
    sym (ap (λ v. with_lineup v l) (same ∙ ap (λ b. cond b (fixed_waiting c.args.number l.lineup) l.lineup) c.if-due.false))
