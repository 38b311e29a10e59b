use Rattle.std.proofs.Common.{◌≡◌, ℕ, ◌∷◌, Some, heap_items, ap, subst, ◌∙◌}
use Rattle.std.specs.List.{Contains}
use Rattle.std.specs.declared.cmp.Reverse.{Reverse}
use Rattle.std.proofs.lemmas.List.Sorted.{Contains-permutation}
use Rattle.flow_plans.specs.Plans.{PlanView}
use Rattle.flow_regulations.specs.declared.due_queue.PendingFlight.{PendingFlight}
use Rattle.flow_regulations.proofs.Queues.{contains-first, contains-later}
use Rattle.flow_regulations.proofs.due_queue.put_plan.Goals as goal

pub returns-clause-held : goal.returns-clause-held
returns-clause-held g c = λ p at.
    (let same : Some c.in-Some.plan.now ≡ Some p = c.in-Some.ensures.plan c.requires.some ∙ at in
    let plan : c.in-Some.plan.now ≡ p = cc in
    let flight : PendingFlight = record { off_block = c.minutes-off_block.result; number = c.args.number } in
    let first : Reverse PendingFlight = record { 0 = flight } in
    let old = heap_items c.args.heap.now in
    let new = heap_items c.push_reserved.new.heap in
    let C : ℕ → Type 0 = λ b. Contains new (record { 0 = record { off_block = b; number = c.args.number } }) in
    let time : c.minutes-off_block.result ≡ p.off_block = c.minutes-off_block.ensures.value ∙ (c.off_block.ensures.value ∙ ap (λ (v : PlanView). v.off_block) plan) in
    subst C time (Contains-permutation (first ∷ old) new first c.push_reserved.ensures.items (contains-first first old)))

pub returns-clause-kept : goal.returns-clause-kept
returns-clause-kept g c = λ x held.
    (let first : Reverse PendingFlight = record { 0 = record { off_block = c.minutes-off_block.result; number = c.args.number } } in
    let old = heap_items c.args.heap.now in
    Contains-permutation (first ∷ old) (heap_items c.push_reserved.new.heap) x c.push_reserved.ensures.items (contains-later first x old held))
