-- What a reading says.
use Rattle.std.specs.Prelude.{Option, Some, None}
use Rattle.fpl_message.specs.Reads.{ReadingView, msg, ord, bad}
use Rattle.fpl_message.specs.declared.refusal.Refusal.{Refusal}

-- why it is refused for its format, if it is
abbrev pub refusal_in : ReadingView → Option Refusal
refusal_in (bad refusal) = Some refusal
refusal_in (msg m) = None
refusal_in (ord o) = None
