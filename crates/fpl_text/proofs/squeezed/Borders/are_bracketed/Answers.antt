use Rattle.std.proofs.Common.{eqb, ap, sym, ◌∙◌}
use Rattle.fpl_text.proofs.CutLemmas.{brackets-two, brackets-none}
use Rattle.fpl_text.proofs.squeezed.Borders.are_bracketed.Goals as goal

pub returns-then-stands_in_brackets : goal.returns-then-stands_in_brackets
returns-then-stands_in_brackets c =
    ap (λ n. eqb n 2) c.requires.brackets ∙ brackets-two c.args.text.now (sym c.stands_in_brackets.ensures ∙ c.if-stands_in_brackets.true)

pub returns-else-stands_in_brackets : goal.returns-else-stands_in_brackets
returns-else-stands_in_brackets c =
    c.if-stands_in_brackets.false ∙ sym (brackets-none c.args.text.now (sym c.stands_in_brackets.ensures ∙ c.if-stands_in_brackets.false))
