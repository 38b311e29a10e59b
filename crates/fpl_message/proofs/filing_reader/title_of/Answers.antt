use Rattle.fpl_message.proofs.PlaceLemmas.{fields-fit, fields-told}
use Rattle.fpl_message.proofs.filing_reader.title_of.Goals as goal

pub text_fault-requires : goal.text_fault-requires
text_fault-requires g c = fields-fit c.args.squeezed.now c.in-Err.fault c.in-Err.ensures.err

pub returns-in-Err-clause-memory : goal.returns-in-Err-clause-memory
returns-in-Err-clause-memory g c = λ told. fields-told c.args.squeezed.now c.in-Err.fault c.in-Err.ensures.err (let same = c.text_fault.ensures in cc)
