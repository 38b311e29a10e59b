use Rattle.std.proofs.Common.{List, subst}
use mathlib.Core.List.{IsPrefix}
use Rattle.flow_core.specs.History.{state_of}
use Rattle.flow_core.specs.State.{EntryView}
use Rattle.flow_live.proofs.shared.Shared.close.Goals as goal

pub finish-again-requires-clause-seen : goal.finish-again-requires-clause-seen
finish-again-requires-clause-seen g c =
    subst (λ (es : List EntryView). IsPrefix es (state_of c.in-Ok.core).journal) c.seen.ensures c.in-Ok.ensures.other
