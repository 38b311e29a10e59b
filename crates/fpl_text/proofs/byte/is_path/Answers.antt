use Rattle.std.proofs.Common.{arith, sym, ◌∙◌, ⊎_elim}
use Rattle.std.proofs.lemmas.Bool.{cases_Bool, cases_lt}
use Rattle.fpl_text.specs.Bytes.{is_path_byte}
use Rattle.fpl_text.proofs.PathLemmas.{all-true}
use Rattle.fpl_text.proofs.byte.is_path.Goals as goal

pub returns : goal.returns
returns c =
    ⊎_elim
    (λ is. is ∙ sym (all-true is_path_byte c.args.text.now (λ k l.
    ⊎_elim
    (λ before. c.looks.invariant.all k before)
    (λ after. c.is_path_at-2.ensures.all is k (omega (arith, after, c.looks-test.false)) (omega (arith, l, c.if-text-lt16.false)))
    (cases_lt k c.looks.place))))
    (λ isnt. isnt ∙ sym (c.is_path_at-2.ensures.other isnt))
    (cases_Bool c.is_path_at-2.result)
