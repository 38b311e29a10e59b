use Rattle.std.proofs.Common.{ℕ, ◌≤◌, List, length, refl, sym, ap, subst, ◌∙◌}
use Rattle.flow_plans.specs.declared.plan.Key.{Key}
use Rattle.flow_plans.specs.Letters.{letters_of, AreBytes}
use Rattle.flow_plans.proofs.OutlineLemmas.{outline-of-none, outline-of-all}
use Rattle.flow_plans.proofs.outline.PlanIndexEntry.of.Goals as goal

pub returns-then-not-may_be_subject : goal.returns-then-not-may_be_subject
returns-then-not-may_be_subject g c = outline-of-none _ c.args.plan.now c.is_filed-is_filed.ensures c.off_block-off_block.ensures.value refl (sym c.may_be_subject.ensures ∙ c.if-not-may_be_subject.true)

pub returns : goal.returns
returns g c =
    let dep = c.as_bytes.ensures.value ∙ ap (λ (k : Key). k.dep) c.key-key.ensures in
    outline-of-all _ c.args.plan.now c.is_filed-is_filed.ensures c.off_block-off_block.ensures.value
    (c.letters_of.ensures.letters ∙ ap letters_of dep)
    (c.letters_of-2.ensures.letters ∙ ap letters_of (c.as_bytes-2.ensures.value ∙ ap (λ (k : Key). k.dest) c.key-key.ensures))
    (sym c.may_be_subject.ensures ∙ c.if-not-may_be_subject.false)
    (subst (λ (d : List ℕ). length d ≤ 4) dep c.as_bytes.ensures.fits)
    (subst AreBytes dep c.letters_of.ensures.bytes)
    c.way.ensures c.longest.ensures.destination c.longest.ensures.way
