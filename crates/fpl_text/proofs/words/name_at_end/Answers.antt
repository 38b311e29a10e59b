use Rattle.std.proofs.Common.{◌≡◌, ◌+◌, ◌-◌, arith, ap, sym, ◌∙◌, ⊎_elim}
use Rattle.std.proofs.lemmas.Bool.{cases_lt}
use Rattle.fpl_text.specs.Words.{may_begin}
use Rattle.fpl_text.proofs.NamedLemmas.{none-late}
use Rattle.fpl_text.proofs.words.name_at_end.Goals as goal

pub returns-then-text-from-le3 : goal.returns-then-text-from-le3
returns-then-text-from-le3 c = λ k low. none-late c.args.a c.args.b c.args.c c.args.text.now k (omega (arith, low, c.if-text-from-le3.true))

pub returns-then-at-text : goal.returns-then-at-text
returns-then-at-text c =
    let e = c.before_name.ensures in (
      omega arith,
      omega (arith, c.if-at-text.true),
      e.found (omega (arith, c.if-at-text.true, c.if-text-lt19.false)),
      λ k low high. let there : c.args.from + (k - c.args.from) ≡ k = omega arith in
          ap (may_begin c.args.a c.args.b c.args.c c.args.text.now) (sym there) ∙ e.none (k - c.args.from) (omega arith),
    )

pub returns-else-at-text : goal.returns-else-at-text
returns-else-at-text c = λ k low.
    ⊎_elim
    (λ high. let there : c.args.from + (k - c.args.from) ≡ k = omega arith in
    ap (may_begin c.args.a c.args.b c.args.c c.args.text.now) (sym there) ∙ c.before_name.ensures.none (k - c.args.from) (omega (arith, low, high)))
    (λ past. none-late c.args.a c.args.b c.args.c c.args.text.now k (omega (arith, past, c.if-at-text.false)))
    (cases_lt k (c.args.from + c.before_name.result))
