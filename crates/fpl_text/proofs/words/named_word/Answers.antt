use Rattle.std.proofs.Common.{◌+◌, arith, sym, ◌∙◌, length}
use Rattle.std.proofs.lemmas.Bool.{false≢true}
use Rattle.fpl_text.proofs.NamedLemmas.{none-longer, none-past, named-here, named-nowhere}
use Rattle.fpl_text.proofs.words.named_word.Goals as goal

pub returns-then-begins_word : goal.returns-then-begins_word
returns-then-begins_word c =
    let next = c.in-Some.ensures in
    let none = none-longer c.args.a.now c.args.b.now c.args.c.now c.args.text.now c.args.from c.names.place c.in-Some.at c.names.invariant.none next.3 in
    named-here c.args.a.now c.args.b.now c.args.c.now c.args.text.now c.args.from c.in-Some.at c.requires.names c.requires.inside
    (omega (arith, next.0, c.names.invariant.low)) (omega (arith, next.1)) none (sym c.begins_word.ensures ∙ c.if-begins_word.true) (sym c.is_one_at.ensures ∙ c.if-is_one_at.true)

pub names-preserved-else-begins_word : goal.names-preserved-else-begins_word
names-preserved-else-begins_word c =
    let next = c.in-Some.ensures in
    let none = none-longer c.args.a.now c.args.b.now c.args.c.now c.args.text.now c.args.from c.names.place c.in-Some.at c.names.invariant.none next.3 in
    record {
      low = omega (arith, next.0, c.names.invariant.low);
      within = omega (arith, next.1);
      none = none-past c.args.a.now c.args.b.now c.args.c.now c.args.text.now c.args.from c.in-Some.at none
          (λ begins is. false≢true (sym c.if-begins_word.false ∙ c.begins_word.ensures ∙ begins));
    }

pub names-preserved : goal.names-preserved
names-preserved c =
    let next = c.in-Some.ensures in
    let none = none-longer c.args.a.now c.args.b.now c.args.c.now c.args.text.now c.args.from c.names.place c.in-Some.at c.names.invariant.none next.3 in
    record {
      low = omega (arith, next.0, c.names.invariant.low);
      within = omega (arith, next.1);
      none = none-past c.args.a.now c.args.b.now c.args.c.now c.args.text.now c.args.from c.in-Some.at none
          (λ begins is. false≢true (sym c.if-is_one_at.false ∙ c.is_one_at.ensures ∙ is));
    }

pub returns : goal.returns
returns c =
    let none = none-longer c.args.a.now c.args.b.now c.args.c.now c.args.text.now c.args.from c.names.place (length c.args.text.now + 1) c.names.invariant.none (λ k low high. c.in_default.ensures k low) in
    named-nowhere c.args.a.now c.args.b.now c.args.c.now c.args.text.now c.args.from c.requires.names c.requires.inside none
