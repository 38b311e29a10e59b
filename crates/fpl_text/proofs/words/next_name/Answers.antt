use Rattle.std.proofs.Common.{◌≡◌, ◌+◌, ◌-◌, ◌≤◌, arith, ap, sym, ◌∙◌, ⊎_elim}
use Rattle.std.proofs.lemmas.Bool.{cases_lt}
use Rattle.fpl_text.specs.Words.{may_begin}
use Rattle.fpl_text.proofs.words.next_name.Goals as goal

pub returns-then-count-lt16 : goal.returns-then-count-lt16
returns-then-count-lt16 c =
    let e = c.before_name-count.ensures in
    let low : c.args.from ≤ c.looks.place = c.looks.invariant.low in (
      omega (arith, low),
      omega (arith, c.if-count-lt16.true, c.looks-test.true),
      e.found (omega (arith, c.if-count-lt16.true)),
      λ k from high.
          ⊎_elim
          (λ early. c.looks.invariant.none k from early)
          (λ late. let there : c.looks.place + (k - c.looks.place) ≡ k = omega (arith, late) in
          ap (may_begin c.args.a c.args.b c.args.c c.args.text.now) (sym there) ∙ e.none (k - c.looks.place) (omega (arith, late, high)))
          (cases_lt k c.looks.place),
    )

pub looks-preserved : goal.looks-preserved
looks-preserved c =
    let e = c.before_name-count.ensures in
    record {
      low = omega (arith, c.looks.invariant.low);
      within = omega (arith, c.looks-test.true);
      none = λ k from high.
          ⊎_elim
          (λ early. c.looks.invariant.none k from early)
          (λ late. let there : c.looks.place + (k - c.looks.place) ≡ k = omega (arith, late) in
          ap (may_begin c.args.a c.args.b c.args.c c.args.text.now) (sym there) ∙ e.none (k - c.looks.place) (omega (arith, late, high, c.if-count-lt16.false)))
          (cases_lt k c.looks.place);
    }
