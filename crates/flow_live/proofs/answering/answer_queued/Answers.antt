use Rattle.std.proofs.Common.{◌≡◌, ℕ, List, length}
use Rattle.flow_core.specs.declared.receipt.StepFault.TheVariants.{JournalFull}
use Rattle.flow_core.specs.State.{EntryView}
use Rattle.flow_live.specs.Told.{full_answers}
use Rattle.flow_live.proofs.Servings.{filed-all, filed-left}
use Rattle.flow_live.proofs.Onlys.{seen-filed, seen-more, only-full}
use Rattle.flow_live.proofs.answering.answer_queued.Goals as goal

pub returns-in-Ok-clause-served : goal.returns-in-Ok-clause-served
returns-in-Ok-clause-served g c = λ p done h.
    filed-all g.N.Name.setup p c.args.pass.now c.answer_all-answered.new.pass done c.args.batch.now.answers.items c.args.batch.now.queue c.answer_all-answered.new.queue c.answer_all-answered.new.answers.items
    h c.answer_all-answered.ensures.filed c.answer_all-answered.ensures.lawful (rw c.in-Ok.is at c.answer_all-answered.ensures.all) (c.answer_all-answered.ensures.answers (λ e. absurd (let w = c.in-Ok.is in cc (e, w))))

pub returns-in-Ok-clause-seen : goal.returns-in-Ok-clause-seen
returns-in-Ok-clause-seen g c =
    seen-filed g.N.Name.setup c.args.pass.now c.answer_all-answered.new.pass c.args.batch.now.seen c.answer_all-answered.result.1 c.args.batch.now.answers.items c.answer_all-answered.new.answers.items c.args.batch.now.queue c.answer_all-answered.new.queue
    c.requires c.answer_all-answered.ensures.filed c.answer_all-answered.ensures.lawful c.answer_all-answered.ensures.follower (c.answer_all-answered.ensures.answers (λ e. absurd (let w = c.in-Ok.is in cc (e, w))))

pub returns-in-Err-JournalFull-clause-served : goal.returns-in-Err-JournalFull-clause-served
returns-in-Err-JournalFull-clause-served g c =
    let full : c.in-Err-JournalFull.field-0 ≡ JournalFull = rw c.in-Err-JournalFull.is at c.in-Err-JournalFull.field-0-is in
    filed-left c.answer_left.result g.N.Name.setup c.args.pass.now c.answer_all-answered.new.pass c.args.batch.now.answers.items c.args.batch.now.queue c.answer_all-answered.new.queue c.answer_all-answered.new.answers.items c.answer_left.new.answers.items
    c.answer_all-answered.ensures.filed c.answer_all-answered.ensures.lawful ((rw c.in-Err-JournalFull.is at c.answer_all-answered.ensures.remaining) full).1
    (c.answer_all-answered.ensures.answers (λ e. absurd (let w = c.in-Err-JournalFull.is in cc (e, w, full)))) c.answer_left.ensures.answers

pub returns-in-Err-JournalFull-clause-seen : goal.returns-in-Err-JournalFull-clause-seen
returns-in-Err-JournalFull-clause-seen g c =
    let full : c.in-Err-JournalFull.field-0 ≡ JournalFull = rw c.in-Err-JournalFull.is at c.in-Err-JournalFull.field-0-is in
    let seen : List EntryView = c.answer_all-answered.result.1 in
    let n : ℕ = length c.answer_all-answered.new.queue in
    seen-more c.answer_left.result g.N.Name.setup c.answer_all-answered.new.pass seen c.answer_all-answered.new.answers.items (full_answers n) c.answer_left.new.answers.items
    (seen-filed g.N.Name.setup c.args.pass.now c.answer_all-answered.new.pass c.args.batch.now.seen seen c.args.batch.now.answers.items c.answer_all-answered.new.answers.items c.args.batch.now.queue c.answer_all-answered.new.queue
    c.requires c.answer_all-answered.ensures.filed c.answer_all-answered.ensures.lawful c.answer_all-answered.ensures.follower
    (c.answer_all-answered.ensures.answers (λ e. absurd (let w = c.in-Err-JournalFull.is in cc (e, w, full)))))
    (only-full g.N.Name.setup seen n) c.answer_left.ensures.answers
