use Rattle.std.proofs.Common.{◌<◌, ◌∷◌, heap_items}
use Rattle.std.specs.declared.cmp.Reverse.{Reverse}
use Rattle.std.proofs.lemmas.List.Elements.{All-cons}
use Rattle.std.proofs.lemmas.List.Sorted.{All-permutation}
use Rattle.flow_regulations.specs.declared.due_queue.PendingFlight.{PendingFlight}
use Rattle.flow_regulations.proofs.due_queue.push_reserved.Goals as goal

pub returns-clause-numbers : goal.returns-clause-numbers
returns-clause-numbers g c =
    let x : Reverse PendingFlight = record { 0 = c.args.flight } in
    let P : Reverse PendingFlight → Type 0 = λ x. 0 < x.0.number in
    let moved = rw c.unwrap.ensures at c.push.ensures.permutation in
    All-permutation P (x ∷ heap_items c.args.heap.now) (heap_items c.push.new.self) moved (All-cons P x (heap_items c.args.heap.now) c.requires.some c.requires.numbers)
