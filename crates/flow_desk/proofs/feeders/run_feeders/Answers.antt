use Rattle.std.proofs.Common.{◌≡◌, List, [], ◌∙◌}
use Rattle.fpl_message.specs.Filings.{FilingView}
use Rattle.flow_core.specs.declared.receipt.Receipt.{Receipt}
use Rattle.flow_desk.specs.declared.feeders.End.{End}
use Rattle.flow_desk.specs.declared.feeders.Done.{Done}
use Rattle.flow_desk.specs.FeederPasses.{PassView}
use Rattle.flow_desk.proofs.Gathering.{gathered}
use Rattle.flow_desk.proofs.feeders.run_feeders.Goals as goal

pub returns-clause-run : goal.returns-clause-run
returns-clause-run g c =
    let D : Type 0 = Done g.row.N.Denot g.row.A.Denot in
    let pass : D → PassView = λ d. d.pass in
    let left : D → List FilingView = λ d. d.left.items in
    let receipts : D → List Receipt = λ d. d.receipts.items in
    let end : D → End = λ d. d.end in
    let none : c.reserve.new.self.items ≡ [] = c.reserve.ensures.items ∙ c.new-dones.ensures.items in
    gathered g.N.Name.setup pass left receipts end c.reserve.new.self.items c.gather.new.feeds.items c.run_all.new.feeds.items _ _
    none c.in-Ok.ensures.passes c.in-Ok.ensures.texts c.run_all.ensures.len c.run_all.ensures.each
