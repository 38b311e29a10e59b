use Rattle.std.proofs.Common.{arith, [], List, ℕ}
use Rattle.flow_input.specs.NextFrame.{filing_kept}
use Rattle.flow_live.specs.Feeding.{Prepares}
use Rattle.flow_live.proofs.Pieces.{Cuts-first, Cuts-then, Prepares-done}
use Rattle.flow_live.proofs.Servings.{Prepares-start}
use Rattle.flow_live.proofs.answering.answer_taken.Goals as goal

pub frames-init : goal.frames-init
frames-init g c = record {
  serving = λ lawful ahead mid rest gave agrees.
      Cuts-first (λ (more : List (List ℕ)). Prepares g.N.Name.setup c.args.pass.now more c.take_in.new.pass c.take_in.new.batch.answers.items c.take_in.new.batch.queue) ahead c.args.input.now mid rest (filing_kept c.args.input.now.item) gave
      (λ frame of. c.in_ok-take_in.ensures.next c.args.pass.now [] frame of (Prepares-start g.N.Name.setup c.args.pass.now c.args.batch.now.answers.items c.args.batch.now.queue lawful c.requires.none.0 c.requires.none.1));
  agrees = λ rest agrees. agrees;
  nearer = omega arith;
  seen = c.in_ok-take_in.ensures.seen;
}

pub frames-preserved : goal.frames-preserved
frames-preserved g c = record {
  serving = λ lawful ahead mid rest gave agrees.
      Cuts-then (λ (more : List (List ℕ)). Prepares g.N.Name.setup c.args.pass.now more c.frames.pass c.frames.batch.answers.items c.frames.batch.queue)
      (λ (more : List (List ℕ)). Prepares g.N.Name.setup c.args.pass.now more c.take_in-in-frames.new.pass c.take_in-in-frames.new.batch.answers.items c.take_in-in-frames.new.batch.queue) ahead c.frames.input mid rest
      (c.frames.invariant.serving lawful ahead mid rest gave agrees) c.take_whole.new.self (filing_kept c.take_whole.new.self.item)
      (c.take_whole.ensures.gave c.frames-test.true rest (c.frames.invariant.agrees rest agrees))
      (λ fs frame of h. c.in_ok-take_in-2.ensures.next c.args.pass.now fs frame of h);
  agrees = λ rest agrees. c.take_whole.ensures.agrees rest (c.frames.invariant.agrees rest agrees);
  nearer = omega (arith, c.frames.invariant.nearer, c.take_whole.ensures.nearer c.frames-test.true);
  seen = c.in_ok-take_in-2.ensures.seen;
}

pub returns-clause-serving : goal.returns-clause-serving
returns-clause-serving g c =
    Prepares-done c.answer_queued.result g.N.Name.setup c.args.pass.now c.frames.pass c.answer_queued.new.pass c.frames.batch.answers.items c.answer_queued.new.batch.answers.items c.frames.batch.queue c.args.input.now c.frames.input c.take_whole.new.self
    (c.take_whole.ensures.none c.frames-test.false).0 c.frames.invariant.serving c.answer_queued.ensures.served
