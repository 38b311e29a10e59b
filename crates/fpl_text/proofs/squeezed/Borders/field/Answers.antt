use Rattle.std.proofs.Common.{◌+◌, ◌≤◌, length, sym, subst}
use Rattle.fpl_text.specs.Borders.{parts, AreBorders}
use Rattle.fpl_text.proofs.CutLemmas.{noted-cut}
use Rattle.fpl_text.proofs.squeezed.Borders.field.Goals as goal

pub part-requires-clause-cut : goal.part-requires-clause-cut
part-requires-clause-cut c =
    subst (λ inner. AreBorders inner c.args.self.now.places.items) (sym c.inside.ensures) (noted-cut c.args.text.now c.args.self.now c.requires.noted c.requires.bracketed).noted

pub part-requires-clause-few : goal.part-requires-clause-few
part-requires-clause-few c =
    subst (λ inner. length (parts inner) ≤ length inner + 1) (sym c.inside.ensures) (noted-cut c.args.text.now c.args.self.now c.requires.noted c.requires.bracketed).few
