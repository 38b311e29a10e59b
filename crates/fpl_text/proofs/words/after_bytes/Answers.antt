use Rattle.std.proofs.Common.{◌≡◌, [], arith, ap, sym, ◌∙◌, ⊎_elim}
use Rattle.fpl_text.specs.Words.{words_from, without_first}
use Rattle.fpl_text.proofs.WordsLemmas.{words-past}
use Rattle.fpl_text.proofs.NamedLemmas.{words-without, head-fits}
use Rattle.fpl_text.proofs.words.after_bytes.Goals as goal

pub returns-then-from-text : goal.returns-then-from-text
returns-then-from-text c =
    let none : words_from c.args.text.now c.args.from ≡ [] = words-past c.args.text.now c.args.from (omega (arith, c.if-from-text.true)) in
    none ∙ sym (ap (without_first c.args.count) none)

pub overflow_add-result : goal.overflow_add-result
overflow_add-result c =
    ⊎_elim
    (λ none. record { fits = omega (arith, none, c.ranges.from.fits) })
    (λ within. record { fits = omega (arith, within) })
    (head-fits c.args.text.now c.args.from c.args.count c.requires)

pub returns : goal.returns
returns c = words-without c.args.text.now c.args.from c.args.count c.requires
