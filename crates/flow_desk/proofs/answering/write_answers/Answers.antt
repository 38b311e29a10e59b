use Rattle.std.proofs.Common.{ℕ, suc, ◌+◌, ◌-◌, ◌<◌, ◌≤◌, List, ◌++◌, length, take, drop, Ok}
use Rattle.std.proofs.Common.{refl, ap, ◌∙◌, arith, append_assoc}
use Rattle.std.proofs.lemmas.List.{take_all}
use Rattle.flow_input.proofs.Written.{Writes-none, Writes-then, Writes-stopped, Writes-same}
use Rattle.flow_core.specs.State.{State, EntryView}
use Rattle.flow_core.specs.History.{state_of}
use Rattle.flow_core.specs.Output.{answer_text}
use Rattle.flow_core.proofs.JournalTexts.{part, part-size}
use Rattle.flow_desk.specs.Followers.{answers_with}
use Rattle.flow_desk.proofs.Collecting.{answers-next, answers-within}
use Rattle.flow_desk.proofs.answering.write_answers.Goals as goal

pub loop-index-init : goal.loop-index-init
loop-index-init g c = Writes-none g.W.Write.contents (tt {0}) c.args.writer.now

pub returns-in_err-write_answer-clause-written : goal.returns-in_err-write_answer-clause-written
returns-in_err-write_answer-clause-written g c =
    let s : State = state_of c.args.core.now in
    let end : List ℕ = c.args.end.now in
    let from : ℕ = c.args.from in
    let i : ℕ = c.loop-index.index in
    let inside : i < c.args.to - from =
    omega (arith, c.saturating_sub-index-end.ensures, c.loop-index-test.true) in
    let some : List EntryView = part from c.args.to s.journal in
    let text : List ℕ = answer_text s (from + i + 1 - 1) in
    let rest : List ℕ = end ++ answers_with end s (drop (suc i) some) in
    let fault = c.from_residual in
    Writes-then fault.result (answers_with end s some) c.loop-index.invariant
    (Writes-stopped fault.result rest (text ++ rest) fault.ensures.0 c.in_err-write_answer.ensures
    refl)
    (answers-within s end from c.args.to i c.requires inside)

pub returns-in_err-write_bytes-clause-written : goal.returns-in_err-write_bytes-clause-written
returns-in_err-write_bytes-clause-written g c =
    let s : State = state_of c.args.core.now in
    let end : List ℕ = c.args.end.now in
    let from : ℕ = c.args.from in
    let i : ℕ = c.loop-index.index in
    let inside : i < c.args.to - from =
    omega (arith, c.saturating_sub-index-end.ensures, c.loop-index-test.true) in
    let some : List EntryView = part from c.args.to s.journal in
    let so_far : List ℕ = answers_with end s (take i some) in
    let text : List ℕ = answer_text s (from + i + 1 - 1) in
    let after : List ℕ = answers_with end s (drop (suc i) some) in
    let fault = c.from_residual-in_err-write_bytes in
    Writes-then fault.result (answers_with end s some)
    (Writes-then (Ok (tt {0})) (so_far ++ text) c.loop-index.invariant
    c.in_ok-write_answer.ensures refl)
    (Writes-stopped fault.result after (end ++ after) fault.ensures.0 c.in_err-write_bytes.ensures
    refl)
    (append_assoc so_far text (end ++ after)
    ∙ answers-within s end from c.args.to i c.requires inside)

pub loop-index-preserved : goal.loop-index-preserved
loop-index-preserved g c =
    let s : State = state_of c.args.core.now in
    let end : List ℕ = c.args.end.now in
    let from : ℕ = c.args.from in
    let i : ℕ = c.loop-index.index in
    let inside : i < c.args.to - from =
    omega (arith, c.saturating_sub-index-end.ensures, c.loop-index-test.true) in
    let some : List EntryView = part from c.args.to s.journal in
    let so_far : List ℕ = answers_with end s (take i some) in
    let text : List ℕ = answer_text s (from + i + 1 - 1) in
    Writes-then (Ok (tt {0})) (answers_with end s (take (i + 1) some))
    (Writes-then (Ok (tt {0})) (so_far ++ text) c.loop-index.invariant
    c.in_ok-write_answer.ensures refl)
    c.in_ok-write_bytes.ensures
    (answers-next s end from c.args.to i c.requires inside)

pub returns-clause-written : goal.returns-clause-written
returns-clause-written g c =
    let s : State = state_of c.args.core.now in
    let some : List EntryView = part c.args.from c.args.to s.journal in
    let all : length some ≤ c.loop-index.index =
    omega (
      arith,
      part-size c.args.from c.args.to s.journal c.requires,
      c.saturating_sub-index-end.ensures,
      c.loop-index-test.false,
    ) in
    Writes-same c.loop-index.invariant
    (ap (answers_with c.args.end.now s) (take_all c.loop-index.index some all))
