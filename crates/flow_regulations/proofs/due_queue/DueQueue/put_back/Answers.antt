use Rattle.std.proofs.Common.{List, heap_items, sym, ap, subst}
use Rattle.std.specs.List.{Contains}
use Rattle.flow_regulations.specs.declared.due_queue.PendingFlight.{PendingFlight}
use Rattle.flow_regulations.proofs.Queues.{from-view, to-view, covers-back}
use Rattle.flow_regulations.proofs.due_queue.DueQueue.put_back.Goals as goal

pub returns-clause-kept : goal.returns-clause-kept
returns-clause-kept g c = λ a held.
    (let V : List PendingFlight → Type 0 = λ xs. Contains xs a in
    to-view (heap_items c.put_all.new.heap) (record { 0 = a }) (c.put_all.ensures.kept (record { 0 = a }) (from-view (heap_items c.self.inside.heap) a (subst V (ap (λ v. v.flights) (sym c.self.view_is)) held))))

pub returns-clause-covers : goal.returns-clause-covers
returns-clause-covers g c = λ earlier now holds covers.
    covers-back earlier now c.args.plans.now.plans c.args.due.now c.args.self.now.flights (heap_items c.put_all.new.heap) holds covers (returns-clause-kept g c) c.put_all.ensures.held
