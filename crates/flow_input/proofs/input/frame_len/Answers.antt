use Rattle.std.proofs.Common.{◌∙◌, sym}
use Rattle.flow_input.proofs.FirstFrames.{closed-in, open-in, order-in, message-going, order-going}
use Rattle.flow_input.proofs.input.frame_len.Goals as goal

pub returns-in-Some-clause-shows : goal.returns-in-Some-clause-shows
returns-in-Some-clause-shows c = order-in c.args.bytes.now c.in-Some.at c.if-bytes-ne40.true (sym c.stop_in.ensures ∙ c.in-Some.is)

pub returns-in-Some-stop_in-clause-shows : goal.returns-in-Some-stop_in-clause-shows
returns-in-Some-stop_in-clause-shows c = closed-in c.args.bytes.now c.in-Some-stop_in.at c.if-bytes-ne40.false (sym c.stop_in-2.ensures ∙ c.in-Some-stop_in.is) c.if-behind-at-eq41.true

pub returns-in-Some-2-clause-shows : goal.returns-in-Some-2-clause-shows
returns-in-Some-2-clause-shows c = open-in c.args.bytes.now c.in-Some-stop_in.at c.if-bytes-ne40.false (sym c.stop_in-2.ensures ∙ c.in-Some-stop_in.is) c.if-behind-at-eq41.false

pub returns-in-None-clause-none : goal.returns-in-None-clause-none
returns-in-None-clause-none c = order-going c.args.bytes.now c.if-bytes-ne40.true (sym c.stop_in.ensures ∙ c.in-None.is)

pub returns-in-None-stop_in-clause-none : goal.returns-in-None-stop_in-clause-none
returns-in-None-stop_in-clause-none c = message-going c.args.bytes.now c.if-bytes-ne40.false (sym c.stop_in-2.ensures ∙ c.in-None-stop_in.is)
