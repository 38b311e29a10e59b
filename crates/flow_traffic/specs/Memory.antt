-- Which readings may allocate.
use Rattle.std.specs.Prelude.{IsOk}
use Rattle.fpl_message.specs.Reads.{ReadingView, msg, ord, bad}
use Rattle.flow_traffic.specs.Traffic.{Traffic}
use Rattle.flow_traffic.specs.Asked.{asked}

-- an unreadable text allocates nothing, nor does an order that is refused
abbrev pub MayTakeMemory : ReadingView → Traffic → Type 0
MayTakeMemory (msg m) t = Unit {0}
MayTakeMemory (ord order) t = IsOk (asked t (ord order))
MayTakeMemory (bad refusal) t = ⊥
