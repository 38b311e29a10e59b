use Rattle.std.proofs.Common.{arith}
use Rattle.fpl_text.specs.Fields.{fields_of}
use Rattle.fpl_text.proofs.CutLemmas.{noted-cut}
use Rattle.fpl_text.proofs.squeezed.Borders.field_count.Goals as goal

pub overflow_add-result : goal.overflow_add-result
overflow_add-result c =
    let cut = noted-cut c.args.text.now c.args.self.now c.requires.noted c.requires.bracketed in
    record { fits = omega (arith, cut.counted, cut.few, cut.long, c.len.ensures.value) }

pub overflow_sub-result : goal.overflow_sub-result
overflow_sub-result c = omega (arith, (noted-cut c.args.text.now c.args.self.now c.requires.noted c.requires.bracketed).counted, c.len.ensures.value)

pub returns : goal.returns
unfolding fields_of
returns c = omega (arith, (noted-cut c.args.text.now c.args.self.now c.requires.noted c.requires.bracketed).counted, c.len.ensures.value)
