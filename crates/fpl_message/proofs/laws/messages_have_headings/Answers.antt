use Rattle.fpl_message.proofs.HeadingLemmas.{message-heading}
use Rattle.fpl_message.proofs.laws.messages_have_headings.Goals as goal

pub returns : goal.returns
returns c = message-heading
