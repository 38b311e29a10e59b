use Rattle.fpl_message.proofs.PlaceLemmas.{squeezed-fits}
use Rattle.fpl_message.proofs.filing_reader.squeeze.Goals as goal

pub text_fault-requires : goal.text_fault-requires
text_fault-requires g c = squeezed-fits {A = Unit {0}} (λ _. c.renew.new.self) c.args.bytes.now c.in-Err.fault c.requires c.in-Err.ensures.value
