use Rattle.std.proofs.Common.{◌-◌, ◌∙◌, List, ℕ, length, drop, refl, sym, ap, subst}
use Rattle.flow_core.specs.State.{State}
use Rattle.flow_core.specs.History.{state_of}
use Rattle.flow_input.proofs.Written.{AppendsFront-more}
use Rattle.flow_runs.specs.declared.fault.RunFault.{RunFault}
use Rattle.flow_runs.specs.ManyRuns.{answers, end_lines, answers_and_end, AnsweredUntil}
use Rattle.flow_core.proofs.Serves.{err-made}
use Rattle.flow_runs.proofs.Failures.{stop-writer, replay-writer}
use Rattle.flow_runs.specs.Faults.{run_writer_failures}
use Rattle.flow_runs.proofs.Ran.{answered-rest, answered-stop, answered-whole}
use Rattle.flow_runs.proofs.run.answer_all.Goals as goal

pub returns-in_err-write_answers-clause-remaining : goal.returns-in_err-write_answers-clause-remaining
returns-in_err-write_answers-clause-remaining g c =
    let s : State = state_of c.args.filed.now.core in
    let old = g.W.Write.contents c.args.writer.now.device in
    let new = g.W.Write.contents c.write_answers.new.writer.device in
    let told : List ℕ = answers s (drop c.args.read s.journal) in
    let rest : List ℕ = end_lines s (c.args.count - (length s.journal - c.args.read)) c.args.journal in
    rw (err-made c.from_residual.result c.from_residual.ensures.1, c.in_err-write_answers.ensures.kind)
    (AppendsFront-more old new told rest (answers_and_end s c.args.read c.args.count c.args.journal) c.in_err-write_answers.ensures.writes.err refl)

pub returns-in-Some-clause-remaining : goal.returns-in-Some-clause-remaining
returns-in-Some-clause-remaining g c =
    answered-stop c.in-Some.fault c.args.filed.now.stop (state_of c.args.filed.now.core) c.args.read c.args.count c.args.journal (g.W.Write.contents c.args.writer.now.device) (g.W.Write.contents c.write_answers.new.writer.device)
    c.in-Some.is (rw c.in-Some.is at c.requires.stops) c.in_ok-write_answers.ensures.writes.ok

pub returns-in-None-clause-ok : goal.returns-in-None-clause-ok
returns-in-None-clause-ok g c =
    answered-whole c.write_rest.result c.write_rest.new.writer (state_of c.args.filed.now.core) c.args.read c.args.count c.args.journal
    c.in_ok-write_answers.ensures.writes c.write_rest.ensures.writes

pub returns-in-None-clause-remaining : goal.returns-in-None-clause-remaining
returns-in-None-clause-remaining g c =
    answered-rest c.write_rest.result c.write_rest.new.writer c.args.filed.now.stop (state_of c.args.filed.now.core) c.args.read c.args.count c.args.journal
    c.in-None.is c.in_ok-write_answers.ensures.writes c.write_rest.ensures.writes

pub returns-in_err-write_answers-clause-writer : goal.returns-in_err-write_answers-clause-writer
returns-in_err-write_answers-clause-writer g c =
    rw (err-made c.from_residual.result c.from_residual.ensures.1, c.in_err-write_answers.ensures.kind) c.in_err-write_answers.ensures.writes.failed

pub returns-in-Some-clause-writer : goal.returns-in-Some-clause-writer
returns-in-Some-clause-writer g c = c.in_ok-write_answers.ensures.writes.no_failure ∙ sym (stop-writer c.in-Some.fault c.args.writer.now.failures (rw c.in-Some.is at c.requires.stops))

pub returns-in-None-clause-writer : goal.returns-in-None-clause-writer
returns-in-None-clause-writer g c =
    replay-writer g.W.Write.contents c.write_rest.result c.write_answers.new.writer c.write_rest.new.writer _ c.write_rest.ensures.writes ∙ ap (run_writer_failures c.write_rest.result) c.in_ok-write_answers.ensures.writes.no_failure

pub write_rest-requires : goal.write_rest-requires
write_rest-requires g c = rw c.as_ref-again.ensures.value c.requires.again
