use Rattle.fpl_text.proofs.SqueezingLawsProofs.{bytes-kept, words-apart, bytes-joined}
use Rattle.fpl_text.proofs.laws.squeezing_keeps_the_words.Goals as goal

pub returns-clause-bytes : goal.returns-clause-bytes
returns-clause-bytes c = bytes-kept

pub returns-clause-apart : goal.returns-clause-apart
returns-clause-apart c = words-apart

pub returns-clause-joined : goal.returns-clause-joined
returns-clause-joined c = bytes-joined
