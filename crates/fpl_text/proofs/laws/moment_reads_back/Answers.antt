use Rattle.fpl_text.proofs.ReadBackLemmas.{moment-read_back}
use Rattle.fpl_text.proofs.laws.moment_reads_back.Goals as goal

pub returns : goal.returns
returns c = moment-read_back
