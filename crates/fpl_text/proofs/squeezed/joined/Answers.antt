use Rattle.fpl_text.proofs.LookLemmas.{joined-are}
use Rattle.fpl_text.proofs.squeezed.joined.Goals as goal

pub returns-clause-first : goal.returns-clause-first
returns-clause-first c = (joined-are c.args.first c.args.second c.requires.first c.requires.second).low

pub returns-clause-second : goal.returns-clause-second
returns-clause-second c = (joined-are c.args.first c.args.second c.requires.first c.requires.second).high
