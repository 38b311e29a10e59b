use Rattle.std.proofs.Common.{◌∙◌, sym}
use Rattle.flow_input.proofs.FirstFrames.{shown, none-in, going-past}
use Rattle.flow_input.proofs.input.first_frame.Goals as goal

pub returns-clause-shows : goal.returns-clause-shows
returns-clause-shows c = shown c.args.bytes.now c.in_ok-begin.begin c.in_ok-len.len (sym c.text_in.ensures ∙ c.in_ok-begin.was) c.in_ok-len.ensures.shows

pub returns-in_err-begin-clause-none : goal.returns-in_err-begin-clause-none
returns-in_err-begin-clause-none c = rw c.from_residual.ensures (none-in c.args.bytes.now (sym c.text_in.ensures ∙ c.in_err-begin.was))

pub returns-in_err-len-clause-none : goal.returns-in_err-len-clause-none
returns-in_err-len-clause-none c = rw c.from_residual-in_err-len.ensures (going-past c.args.bytes.now c.in_ok-begin.begin (sym c.text_in.ensures ∙ c.in_ok-begin.was) c.in_err-len.ensures.none)
