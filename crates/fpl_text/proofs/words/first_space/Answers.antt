use Rattle.std.proofs.Common.{◌≡◌, ◌<◌, ◌+◌, ◌-◌, ℕ, eqb, false, get_or, arith, sym, ⊎_elim}
use Rattle.std.proofs.lemmas.Bool.{cases_lt, eq-eqb}
use Rattle.fpl_text.proofs.WordsLemmas.{space-at, space-nowhere}
use Rattle.fpl_text.proofs.words.first_space.Goals as goal

pub returns-then-count-lt8 : goal.returns-then-count-lt8
returns-then-count-lt8 c =
    let none : (k : ℕ) → k < c.lanes.place + c.before_space-count.result → eqb (get_or c.args.text.now k 0) 32 ≡ false = (λ k l.
    ⊎_elim (λ below. c.lanes.invariant.none k below)
    (λ above. let place : c.lanes.place + (k - c.lanes.place) ≡ k = omega arith in
    rw place at (c.before_space-count.ensures.none (k - c.lanes.place) (omega arith)))
    (cases_lt k c.lanes.place)) in
    sym (space-at c.args.text.now (c.lanes.place + c.before_space-count.result) (omega (arith, c.lanes-test.true, c.if-count-lt8.true, c.lanes.invariant.within)) none (c.before_space-count.ensures.found c.if-count-lt8.true))

pub returns-then-text-place-eq32 : goal.returns-then-text-place-eq32
returns-then-text-place-eq32 c =
    sym (space-at c.args.text.now c.bytes.place c.bytes-test.true c.bytes.invariant.none (eq-eqb _ 32 c.if-text-place-eq32.true))

pub returns : goal.returns
returns c = sym (space-nowhere c.args.text.now c.bytes.place c.bytes-test.false c.bytes.invariant.none)
