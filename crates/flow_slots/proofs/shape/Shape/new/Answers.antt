use Rattle.std.proofs.Common.{rules, ◌<◌, ◌≤◌, ◌∙◌, sym, subst, refl, length, List}
use Rattle.std.proofs.lemmas.Bool.{false≢true}
use Rattle.flow_slots.specs.Period.{Period, IsRegular}
use Rattle.fpl_text.specs.declared.minute.TheConstants.{YEAR_2000, YEAR_2099}
use Rattle.fpl_text.specs.declared.part.TheConstants.{MOST_PARTS}
use Rattle.fpl_text.specs.declared.part.Part.{Part}
use Rattle.flow_slots.proofs.Limits.{unbroken, regular-unbroken, nothing, not-nothing, take-front}
use Rattle.flow_slots.proofs.shape.Shape.new.Goals as goal

pub returns-then-is_some-clause-limits : goal.returns-then-is_some-clause-limits
returns-then-is_some-clause-limits c =
    let p : Period = record { start = c.args.start; end = c.args.end; rate = c.args.rate; parts = c.args.parts.now } in (
      λ e. absurd (false≢true e),
      λ r. absurd (not-nothing c.broken_limit.result (sym c.is_some.ensures ∙ c.if-is_some.true) (c.broken_limit.ensures ∙ unbroken p r)),
    )

pub invariant_of-result : goal.invariant_of-result
invariant_of-result c =
    let p : Period = record { start = c.args.start; end = c.args.end; rate = c.args.rate; parts = c.args.parts.now } in
    let none = nothing c.broken_limit.result (sym c.is_some.ensures ∙ c.if-is_some.false) in
    let from : YEAR_2000 ≤ p.start = search rules in
    let to : p.end < YEAR_2099 = search rules in
    let few : length p.parts ≤ MOST_PARTS = search rules in
    let r = regular-unbroken p from to few (sym c.broken_limit.ensures ∙ none) in
    let front = take-front c.args.parts.now c.copy_from_slice.new.self _ c.copy_from_slice.ensures.after in
    (few, subst (λ (parts : List Part). IsRegular (record { start = c.args.start; end = c.args.end; rate = c.args.rate; parts = parts })) (sym front) r)

pub returns-clause-limits : goal.returns-clause-limits
returns-clause-limits c =
    let p : Period = record { start = c.args.start; end = c.args.end; rate = c.args.rate; parts = c.args.parts.now } in
    let none = nothing c.broken_limit.result (sym c.is_some.ensures ∙ c.if-is_some.false) in
    let from : YEAR_2000 ≤ p.start = search rules in
    let to : p.end < YEAR_2099 = search rules in
    let few : length p.parts ≤ MOST_PARTS = search rules in
    let r = regular-unbroken p from to few (sym c.broken_limit.ensures ∙ none) in
    (λ e. r, λ h. refl)
