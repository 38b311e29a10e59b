use Rattle.std.proofs.Common.{◌<◌, ◌+◌, ℕ, List, [], sym, ◌∙◌, arith, true≢false}
use Rattle.flow_regulations.proofs.FixedNoted.{AreFixed, fixed-none, fixed-one, fixed-not, fixed-past, kept-there, unheld-unfixed}
use Rattle.flow_regulations.proofs.fixed_flights.note_fixed.Goals as goal
use Rattle.flow_regulations.proofs.fixed_flights.note_fixed.Goals.{then-is_fixed+in_ok-push, else-is_fixed}

pub loop-number-init : goal.loop-number-init
loop-number-init g c =
    let l = c.args.list.now.lineup in
    let e = c.next_held-number.ensures in
    let none = fixed-past l 1 c.next_held-number.result [] e.from (λ n a b. unheld-unfixed l n (e.passed n a b)) (fixed-none l) in
    rw c.clear.ensures.items none

pub loop-number-preserved : goal.loop-number-preserved
loop-number-preserved g c =
    let l = c.args.list.now.lineup in
    let n : ℕ = c.loop-number.number in
    let xs : List ℕ = c.loop-number.flights.items in
    let e = c.next_held-number-in-loop-number.ensures in
    let past : (ys : List ℕ) → AreFixed l (n + 1) ys → AreFixed l c.next_held-number-in-loop-number.result ys =
    λ ys h. fixed-past l (n + 1) c.next_held-number-in-loop-number.result ys e.from (λ m a b. unheld-unfixed l m (e.passed m a b)) h in
    elim c.if-is_fixed.branch [
      | then-is_fixed+in_ok-push w ↦ rw (w.flights-is, w.in_ok-push.ensures.items) (past _ (fixed-one l n xs c.loop-number.invariant (c.is_fixed.ensures.fixed.0 w.if-is_fixed.true)))
      | else-is_fixed w ↦ rw w.flights-is (past xs (fixed-not l n xs c.loop-number.invariant (λ keeps. true≢false (sym (c.is_fixed.ensures.fixed.1 keeps) ∙ w.if-is_fixed.false))))
    ]

pub returns-clause-all : goal.returns-clause-all
returns-clause-all g c = λ n keeps.
    (let there = kept-there c.args.list.now.lineup n keeps in
    let number = c.max_plans-last.ensures.held n there.0 there.1 in
    let below : n < c.loop-number.number = omega (arith, number.1, c.loop-number-test.false) in
    c.loop-number.invariant.all n number.0 below keeps)
