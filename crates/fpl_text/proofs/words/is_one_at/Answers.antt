use Rattle.std.proofs.Common.{sym, ◌∙◌}
use Rattle.std.proofs.lemmas.Bool.{false≢true}
use Rattle.fpl_text.proofs.NamedLemmas.{one-drop, or-last}
use Rattle.fpl_text.proofs.words.is_one_at.Goals as goal
use Rattle.fpl_text.proofs.words.is_one_at.Goals.{then-is_name_at, else-is_name_at}

pub returns-else-is_name_at-2 : goal.returns-else-is_name_at-2
returns-else-is_name_at-2 c =
    elim c.if-is_name_at.branch [
      | then-is_name_at w ↦ absurd (false≢true (sym c.if-is_name_at-2.false ∙ w.value-is ∙ w.if-is_name_at.true))
      | else-is_name_at w ↦
          c.is_name_at-else-is_name_at-2.ensures
          ∙ sym (one-drop c.args.a.now c.args.b.now c.args.c.now c.args.text.now c.args.at c.requires.stroke
          ∙ or-last _ _ _ (sym c.is_name_at.ensures ∙ w.if-is_name_at.false) (sym w.is_name_at-else-is_name_at.ensures ∙ sym w.value-is ∙ c.if-is_name_at-2.false))
    ]
