use Rattle.std.proofs.Common.{◌≡◌, ◌<◌, ◌%◌, length, ◌∙◌, arith}
use Rattle.flow_input.specs.NextFrame.{second}
use Rattle.flow_runs.proofs.Dealings.{AreDealt-next, turn-of}
use Rattle.flow_runs.proofs.dealing.deal.Goals as goal

pub returns-clause-ok : goal.returns-clause-ok
returns-clause-ok g c feeders fs a counted =
    let feeds = c.args.dealt.now.feeds in
    let count = c.args.dealt.now.count in
    let len : c.len.result ≡ length c.args.dealt.now.feeds.items = c.len.ensures ∙ c.args.dealt.now.feeds.ok.0 in
    let within : c.args.dealt.now.count % c.len.result < length c.args.dealt.now.feeds.items = omega (arith, len, c.requires.some) in
    AreDealt-next feeders fs (second c.args.frame.now) feeds.items (count % c.len.result) c.index_mut.result.now c.push.new.self
    a (turn-of feeders fs feeds.items count c.len.result a counted len) within c.index_mut.ensures.value c.in_ok-push.ensures.ok
