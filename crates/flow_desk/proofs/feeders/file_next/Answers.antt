use Rattle.std.proofs.Common.{◌≡◌, List, ◌∷◌, subst, ap, sym, ◌∙◌}
use Rattle.fpl_message.specs.Filings.{FilingView}
use Rattle.flow_desk.specs.Feeds.{Ran}
use Rattle.flow_desk.proofs.Running.{ran-more, ran-same}
use Rattle.flow_desk.proofs.feeders.file_next.Goals as goal

pub returns-in-Ok-clause-ran : goal.returns-in-Ok-clause-ran
returns-in-Ok-clause-ran g c p texts ran =
    let f = c.args.feed.now in
    let more : Ran p texts f.pass f.receipts.items (c.in-Some.filing ∷ c.pop_front.new.self.items) = subst (λ (ls : List FilingView). Ran p texts f.pass f.receipts.items ls) c.in-Some.ensures.items ran in
    rw c.push_reserved.ensures.items (ran-more g.N.Name.setup p f.pass c.file.new.pass texts f.receipts.items c.in-Some.filing c.pop_front.new.self.items c.in-Ok.receipt c.in-Ok.ensures.filed more)

pub returns-in-Err-clause-ran : goal.returns-in-Err-clause-ran
returns-in-Err-clause-ran g c p texts ran =
    let f = c.args.feed.now in
    let left : List FilingView = c.args.left.now.items in
    let r = c.in-Err.ensures.refused in
    let back : c.push_front_reserved.new.self.items ≡ left = c.push_front_reserved.ensures.items ∙ (ap (λ (t : FilingView). t ∷ c.pop_front.new.self.items) r.1 ∙ sym c.in-Some.ensures.items) in
    rw back (ran-same p f.pass c.file.new.pass texts f.receipts.items left r.0.more r.0.none_own ran)
