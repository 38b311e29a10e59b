use Rattle.std.proofs.Common.{◌≡◌, ◌<◌, length, true, arith}
use Rattle.flow_plans.specs.Matching.{is_candidate, matching}
use Rattle.flow_plans.specs.Searching.{passes_at}
use Rattle.flow_plans.proofs.Matches.{the_one-found, passes_at-within, passes_at-filed-there}
use Rattle.flow_plans.proofs.matching.matching.Goals as goal

pub returns-in-Nothing-clause-answer : goal.returns-in-Nothing-clause-answer
unfolding matching
returns-in-Nothing-clause-answer g c = rw c.in-Nothing.is at (the_one-found _ _ _ _ c.found_in.ensures.sound c.found_in.ensures.all)

pub returns-in-Gone-clause-answer : goal.returns-in-Gone-clause-answer
unfolding matching
returns-in-Gone-clause-answer g c = rw c.in-Gone.is at (the_one-found _ _ _ _ c.found_in.ensures.sound c.found_in.ensures.all)

pub returns-in-One-clause-answer : goal.returns-in-One-clause-answer
unfolding matching
returns-in-One-clause-answer g c = rw c.in-One.is at (the_one-found _ _ _ _ c.found_in.ensures.sound c.found_in.ensures.all)

pub returns-in-Several-clause-answer : goal.returns-in-Several-clause-answer
unfolding matching
returns-in-Several-clause-answer g c = rw c.in-Several.is at (the_one-found _ _ _ _ c.found_in.ensures.sound c.found_in.ensures.all)

pub returns-in-One-clause-within : goal.returns-in-One-clause-within
returns-in-One-clause-within g c =
    let t : passes_at (is_candidate c.args.parts.now) c.args.plans.now c.in-One.place ≡ true = rw c.in-One.is at c.found_in.ensures.sound in
    let h : c.in-One.place < length c.args.plans.now = passes_at-within _ _ _ t in
    (omega arith, omega (arith, h))

pub overflow_cast-result : goal.overflow_cast-result
overflow_cast-result g c =
    let t : passes_at (is_candidate c.args.parts.now) c.args.plans.now c.in-One.place ≡ true = rw c.in-One.is at c.found_in.ensures.sound in
    let h : c.in-One.place < length c.args.plans.now = passes_at-within _ _ _ t in
    omega (arith, h, c.requires.few)

pub overflow_add-result : goal.overflow_add-result
overflow_add-result g c =
    let t : passes_at (is_candidate c.args.parts.now) c.args.plans.now c.in-One.place ≡ true = rw c.in-One.is at c.found_in.ensures.sound in
    let h : c.in-One.place < length c.args.plans.now = passes_at-within _ _ _ t in
    omega (arith, h, c.requires.few)

pub returns-in-One-clause-filed : goal.returns-in-One-clause-filed
returns-in-One-clause-filed g c =
    let t : passes_at (is_candidate c.args.parts.now) c.args.plans.now c.in-One.place ≡ true = rw c.in-One.is at c.found_in.ensures.sound in
    passes_at-filed-there c.args.parts.now c.args.plans.now c.in-One.place _ (omega arith) t
