use Rattle.std.proofs.Common.{◌≡◌, refl, None}
use Rattle.flow_input.specs.NextFrame.{second}
use Rattle.flow_core.proofs.JournalTexts.{OnOk-map}
use Rattle.flow_runs.proofs.Failures.{writer-failed}
use Rattle.flow_runs.proofs.Readings.{ReadsNext-long, ReadsNext-whole, left-result}
use Rattle.flow_runs.proofs.dealing.deal_frame.Goals as goal

pub returns-in_default-clause-next : goal.returns-in_default-clause-next
returns-in_default-clause-next g c =
    let none : c.args.input.now.item ≡ None = rw c.in_default.is at c.frame.ensures in
    OnOk-map c.write_out.result
    (λ a. ReadsNext-long c.args.input.now.item c.args.dealt.now.feeds.items c.args.dealt.now.count (g.W.Write.contents c.args.writer.now.device) (g.W.Write.contents c.write_out.new.writer.device) none a)
    (rw c.too_long_line.ensures at c.write_out.ensures.writes.ok)

pub returns-clause-next : goal.returns-clause-next
returns-clause-next g c =
    ReadsNext-whole c.args.input.now.item c.in-Some.frame.now (second c.in-Some.frame.now) c.args.dealt.now.feeds.items c.deal.new.dealt.feeds.items c.args.dealt.now.count c.deal.new.dealt.count (g.W.Write.contents c.args.writer.now.device)
    c.in-Some.ensures.0 refl c.in_ok-deal.ensures.ok c.in_ok-deal.ensures.count

pub returns-in_default-clause-remaining : goal.returns-in_default-clause-remaining
returns-in_default-clause-remaining g c =
    let none : c.args.input.now.item ≡ None = rw c.in_default.is at c.frame.ensures in
    left-result c.write_out.result c.args.input.now.item (g.W.Write.contents c.args.writer.now.device) (g.W.Write.contents c.write_out.new.writer.device) none c.write_out.ensures.kind (rw c.too_long_line.ensures at c.write_out.ensures.writes.err)

pub returns-in_default-clause-writer : goal.returns-in_default-clause-writer
returns-in_default-clause-writer g c = writer-failed c.write_out.result _ _ c.write_out.ensures.writes.no_failure c.write_out.ensures.writes.failed c.write_out.ensures.kind
