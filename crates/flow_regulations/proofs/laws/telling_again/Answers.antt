use Rattle.flow_regulations.proofs.Turns.{AllQuiet-said, AllQuiet-told}
use Rattle.flow_regulations.proofs.laws.telling_again.Goals as goal

pub returns-clause-says : goal.returns-clause-says
returns-clause-says c = λ taxi regulations plans told h. AllQuiet-said taxi regulations plans told h

pub returns-clause-stays : goal.returns-clause-stays
returns-clause-stays c = λ taxi regulations plans told each h. AllQuiet-told taxi regulations plans told each h
