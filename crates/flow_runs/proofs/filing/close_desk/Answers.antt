use Rattle.std.proofs.Common.{List, subst}
use mathlib.Core.List.{IsPrefix}
use Rattle.flow_core.specs.History.{state_of}
use Rattle.flow_core.specs.State.{EntryView}
use Rattle.flow_runs.proofs.filing.close_desk.Goals as goal

pub finish-again-requires-clause-seen : goal.finish-again-requires-clause-seen
finish-again-requires-clause-seen g c =
    subst (λ (es : List EntryView). IsPrefix es (state_of c.in-Ok.core).journal) c.seen.ensures c.in-Ok.ensures.other

pub returns-clause-stops : goal.returns-clause-stops
returns-clause-stops g c = c.stop_with_room-stop.ensures.error_kinds c.requires.stops
