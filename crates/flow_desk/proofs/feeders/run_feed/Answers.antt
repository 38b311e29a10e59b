use Rattle.std.proofs.Common.{◌≡◌, [], List, length, ap, sym, ◌∙◌, arith, refl}
use Rattle.flow_core.specs.declared.receipt.Receipt.{Receipt}
use Rattle.flow_desk.specs.Feeds.{Ran}
use Rattle.flow_desk.proofs.Running.{ran-none}
use Rattle.flow_desk.proofs.feeders.run_feed.Goals as goal

pub loop-alloc-init : goal.loop-alloc-init
loop-alloc-init g c =
    let f = c.args.feed.now in
    let all : c.from-left.result.items ≡ f.left.items = c.from-left.ensures.0 ∙ ap (λ v. v.items) c.replace.ensures.value in
    record {
      room = omega (arith, c.requires.1, ap length all, ap (λ (rs : List Receipt). length rs) c.requires.0, f.receipts.ok.0);
      ran = rw (c.requires.0, all) (ran-none f.pass f.left.items);
    }

pub loop-alloc-preserved : goal.loop-alloc-preserved
loop-alloc-preserved g c =
    let f = c.args.feed.now in
    record {
      room = c.file_next.ensures.room;
      ran = c.file_next.ensures.ran f.pass f.left.items c.loop-alloc.invariant.ran;
    }

pub returns : goal.returns
returns g c =
    let f = c.args.feed.now in
    record {
      ran = rw c.from.ensures.0 (c.file_next.ensures.ran f.pass f.left.items c.loop-alloc.invariant.ran);
      ends = rw c.from.ensures.0 (c.loop-alloc-test.ensures.ends refl);
    }
