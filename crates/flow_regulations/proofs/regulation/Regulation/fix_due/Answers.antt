use Rattle.std.proofs.Common.{sym, ◌∙◌}
use Rattle.std.proofs.lemmas.Bool.{true≢false}
use Rattle.flow_regulations.proofs.Advances.{due-is}
use Rattle.flow_regulations.proofs.regulation.Regulation.fix_due.Goals as goal

pub returns-then-is_due-clause-due : goal.returns-then-is_due-clause-due
returns-then-is_due-clause-due g c = λ _. (let e = c.fix_waiting.ensures in record { same = e.fixed; capacity = e.capacity; lined = λ _. e.lined; regular = λ _. e.regular })

pub returns-then-is_due-clause-other : goal.returns-then-is_due-clause-other
returns-then-is_due-clause-other g c = λ no. absurd (true≢false (sym (due-is c.args.now c.args.number c.args.plans.now.plans c.is_due.result c.requires.some c.requires.within c.is_due.ensures ∙ c.if-is_due.true) ∙ no))

pub returns-else-is_due-clause-due : goal.returns-else-is_due-clause-due
returns-else-is_due-clause-due g c = λ is. absurd (true≢false (sym is ∙ (due-is c.args.now c.args.number c.args.plans.now.plans c.is_due.result c.requires.some c.requires.within c.is_due.ensures ∙ c.if-is_due.false)))
