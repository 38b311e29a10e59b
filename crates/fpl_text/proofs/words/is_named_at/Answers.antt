use Rattle.std.proofs.Common.{arith, ◌∙◌}
use Rattle.std.proofs.lemmas.Bool.{eq-eqb, false_from_ne_true, eqb-true}
use Rattle.fpl_text.proofs.NamedLemmas.{named-past, named-short, named-whole}
use Rattle.fpl_text.proofs.words.is_named_at.Goals as goal

pub returns-then-text-lt4 : goal.returns-then-text-lt4
returns-then-text-lt4 c = named-past c.args.name.now c.args.text.now c.args.from c.requires (omega (arith, c.if-text-lt4.true))

pub returns-then-from-text : goal.returns-then-from-text
returns-then-from-text c = named-past c.args.name.now c.args.text.now c.args.from c.requires (omega (arith, c.if-from-text.true, c.if-text-lt4.false))

pub returns-then-text-from-ne47 : goal.returns-then-text-from-ne47
returns-then-text-from-ne47 c =
    named-short c.args.name.now c.args.text.now c.args.from c.requires (false_from_ne_true _ (λ is. c.if-text-from-ne47.true (eqb-true _ 47 is)))

pub returns : goal.returns
returns c = c.is_name_at.ensures ∙ named-whole c.args.name.now c.args.text.now c.args.from c.requires (eq-eqb _ 47 (omega (arith, c.if-text-from-ne47.false)))
