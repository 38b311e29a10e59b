use Rattle.fpl_text.proofs.CutLemmas.{some-fields}
use Rattle.fpl_text.proofs.squeezed.Squeezed.title.Goals as goal

pub field-requires-clause-place : goal.field-requires-clause-place
field-requires-clause-place g c = some-fields c.args.self.now
