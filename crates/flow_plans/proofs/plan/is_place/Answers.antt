use Rattle.flow_plans.proofs.Letters.{letters-tell}
use Rattle.flow_plans.proofs.plan.is_place.Goals as goal

pub returns-then-place-eq4 : goal.returns-then-place-eq4
returns-then-place-eq4 c =
    rw (c.letters_of.ensures.letters, c.letters_of-then-place-eq4.ensures.letters)
    (letters-tell c.args.aerodrome.now c.args.place.now c.if-aerodrome-eq4.true c.if-place-eq4.true c.letters_of.ensures.bytes c.letters_of-then-place-eq4.ensures.bytes)
