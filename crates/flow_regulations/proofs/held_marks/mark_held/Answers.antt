use Rattle.std.proofs.Common.{ℕ, ◌<◌, ◌≤◌, ◌⊎◌, inl, inr, subst, arith}
use Rattle.std.proofs.lemmas.Bool.{cases_lt}
use Rattle.flow_regulations.specs.Listing.{RegulationView}
use Rattle.flow_regulations.specs.Marks.{mask_of, KeepsMask, IsOut}
use Rattle.flow_regulations.proofs.Marking.{one-keeps, one-marked}
use Rattle.flow_regulations.proofs.held_marks.mark_held.Goals as goal

pub loop-number-init : goal.loop-number-init
loop-number-init g c = record {
  kept = λ f i s. s;
  marked = λ f high no. c.next_held-number.ensures.passed f (omega arith) high;
}

pub loop-number-preserved : goal.loop-number-preserved
loop-number-preserved g c =
    let s = c.loop-number in
    let n : ℕ = s.number in
    let v : ℕ = c.with_mark-word.result in
    let K : ℕ → Type 0 = λ w. KeepsMask w v in
    let e = c.set_word.ensures in
    let next = c.next_held-number-in-loop-number in
    let more : KeepsMask (mask_of s.words n) v = subst K c.word_of.ensures c.with_mark-word.ensures.kept in
    record {
      kept = λ f i stood. one-keeps n v s.words c.set_word.new.words e.others e.one more f i (s.invariant.kept f i stood);
      marked = one-marked n v s.words c.set_word.new.words e.others e.one c.args.index next.result c.args.regulation.now c.with_mark-word.ensures.marked next.ensures.passed s.invariant.marked;
    }

pub returns-clause-marked : goal.returns-clause-marked
returns-clause-marked g c = λ f no.
    (let s = c.loop-number in
    let l : RegulationView = c.args.regulation.now in
    let by : (f < s.number) ⊎ (s.number ≤ f) → IsOut f l = λ o. elim o [ inl below ↦ s.invariant.marked f below no | inr above ↦ c.last-last.ensures.others f (omega (arith, above, c.loop-number-test.false)) ] in
    by (cases_lt f s.number))
