use Rattle.std.proofs.Common.{List, ◌∷◌, heap_items, ap, subst, ◌∙◌}
use Rattle.std.specs.List.Sorted.{IsPermutation}
use Rattle.std.specs.declared.cmp.Reverse.{Reverse}
use Rattle.std.proofs.lemmas.List.Sorted.{IsPermutation-map}
use Rattle.std.proofs.Common.{map}
use Rattle.flow_regulations.specs.declared.due_queue.PendingFlight.{PendingFlight}
use Rattle.flow_regulations.proofs.due_queue.DueQueue.note.Goals as goal

pub returns-clause-flights : goal.returns-clause-flights
returns-clause-flights g c =
    let time : Reverse PendingFlight → PendingFlight = λ x. x.0 in
    let x : Reverse PendingFlight = record { 0 = record { off_block = c.minutes-off_block.result; number = c.args.number } } in
    let made = IsPermutation-map time (x ∷ heap_items c.self.inside.heap) (heap_items c.push_reserved.new.heap) c.push_reserved.ensures.items in
    let Q : List PendingFlight → Type 0 = λ ys. IsPermutation ys (map time (heap_items c.push_reserved.new.heap)) in
    subst Q (ap (λ b. (let a : PendingFlight = record { off_block = b; number = c.args.number } in a) ∷ map time (heap_items c.self.inside.heap)) c.minutes-off_block.ensures.value
    ∙ ap (λ v. (let a : PendingFlight = record { off_block = c.args.off_block; number = c.args.number } in a) ∷ v.flights) c.self.view_is) made
