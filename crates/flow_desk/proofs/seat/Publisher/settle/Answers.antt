use Rattle.std.proofs.Common.{drop, refl}
use Rattle.flow_desk.proofs.Keeping.{settles, done}
use Rattle.flow_desk.proofs.seat.Publisher.settle.Goals as goal

pub publish_as-writer-requires : goal.publish_as-writer-requires
publish_as-writer-requires g c next is = settles _ _ _ next (drop c.self.inside.writer.behind c.self.inside.writer.log.items) c.self.invariant.0 is

pub publish_as-writer-requires-2 : goal.publish_as-writer-requires-2
publish_as-writer-requires-2 g c next is =
    let w = c.publish_as-writer.result.0 in
    let values = done c.publish_as-writer.result.1 _ _ (c.publish_as-writer.ensures.succeeds tt) c.publish_as-writer.ensures.values in
    settles _ _ _ next (drop w.behind w.log.items) (rw values.1 refl) is
