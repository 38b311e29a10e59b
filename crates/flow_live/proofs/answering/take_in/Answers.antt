use Rattle.std.proofs.Common.{ℕ, List, [], ◌∷◌, ◌++◌, ap, sym, subst, refl}
use Rattle.flow_input.specs.NextFrame.{filing_kept}
use Rattle.flow_live.proofs.Servings.{takes-long, takes-one, takes-all}
use Rattle.flow_live.specs.Keeping.{AnswersOnly}
use Rattle.flow_live.proofs.Onlys.{seen-more, only-too_long}
use Rattle.flow_live.proofs.answering.take_in.Goals as goal

pub returns-in_default : goal.returns-in_default
returns-in_default g c = record {
  next = takes-long c.append_line.result g.N.Name.setup (filing_kept c.args.input.now.item) c.args.pass.now c.answer_queued.new.pass c.args.batch.now.answers.items c.answer_queued.new.batch.answers.items c.append_line.new.answers.items c.too_long_line.result.now c.args.batch.now.queue c.answer_queued.new.batch.queue
      (ap filing_kept c.in_default.ensures) c.in_ok-answer_queued.ensures.none c.too_long_line.ensures c.in_ok-answer_queued.ensures.served c.append_line.ensures;
  seen = seen-more c.append_line.result g.N.Name.setup c.answer_queued.new.pass c.answer_queued.new.batch.seen c.answer_queued.new.batch.answers.items (c.too_long_line.result.now ++ 10 ∷ []) c.append_line.new.answers.items c.in_ok-answer_queued.ensures.seen
      (subst (λ (l : List ℕ). AnswersOnly g.N.Name.setup c.answer_queued.new.batch.seen (l ++ 10 ∷ [])) (sym c.too_long_line.ensures) (only-too_long g.N.Name.setup c.answer_queued.new.batch.seen)) c.append_line.ensures;
}

pub returns-then-len-lt-AT_ONCE : goal.returns-then-len-lt-AT_ONCE
returns-then-len-lt-AT_ONCE g c = record {
  next = takes-one g.N.Name.setup (filing_kept c.args.input.now.item) c.in-Some.bytes.now c.args.pass.now c.args.batch.now.answers.items c.args.batch.now.answers.items c.args.batch.now.queue c.push.new.self
      (ap filing_kept c.in-Some.ensures.0) c.in_ok-push.ensures.ok refl;
  seen = c.requires;
}

pub returns : goal.returns
returns g c = record {
  next = takes-all c.answer_queued-2.result g.N.Name.setup (filing_kept c.args.input.now.item) c.args.pass.now c.answer_queued-2.new.pass c.args.batch.now.answers.items c.args.batch.now.answers.items c.answer_queued-2.new.batch.answers.items c.args.batch.now.queue c.push.new.self c.answer_queued-2.new.batch.queue
      (takes-one g.N.Name.setup (filing_kept c.args.input.now.item) c.in-Some.bytes.now c.args.pass.now c.args.batch.now.answers.items c.args.batch.now.answers.items c.args.batch.now.queue c.push.new.self
      (ap filing_kept c.in-Some.ensures.0) c.in_ok-push.ensures.ok refl)
      c.answer_queued-2.ensures.served c.answer_queued-2.ensures.none;
  seen = c.answer_queued-2.ensures.seen;
}
