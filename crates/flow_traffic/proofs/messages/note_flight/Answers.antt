use Rattle.std.proofs.Common.{◌≡◌, ◌-◌, ◌∙◌, sym, ap, Some, slice_get}
use Rattle.std.specs.Option.{option_copied}
use Rattle.flow_plans.specs.Plans.{PlanView}
use Rattle.flow_regulations.proofs.Queues.{covers-noted, noted-kept}
use Rattle.flow_traffic.proofs.Both.{some-same}
use Rattle.flow_traffic.proofs.messages.note_flight.Goals as goal

pub returns-clause-covers : goal.returns-clause-covers
returns-clause-covers g c = λ before was same covers.
    let here : slice_get c.args.plans.now.plans (c.args.number - 1) ≡ Some c.in-Some.plan.now = sym (c.plan.ensures.plan c.requires.some) ∙ ap (λ o. option_copied o) c.in-Some.is in
    covers-noted c.args.now c.args.number c.off_block-off_block.result before c.args.plans.now.plans c.args.queue.now.flights c.note.new.self.flights same
    (λ p there. ap (λ (q : PlanView). q.off_block) (some-same _ p c.in-Some.plan.now there here) ∙ sym c.off_block-off_block.ensures.value)
    c.note.ensures.flights covers

pub returns-clause-kept : goal.returns-clause-kept
returns-clause-kept g c = λ a h.
    noted-kept (record { off_block = c.off_block-off_block.result; number = c.args.number }) c.args.queue.now.flights c.note.new.self.flights c.note.ensures.flights a h
