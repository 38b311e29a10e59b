use Rattle.std.proofs.Common.{List, length, drop, ap, arith}
use Rattle.std.proofs.lemmas.List.{length-drop}
use Rattle.fpl_message.specs.Filings.{FilingView}
use Rattle.flow_input.proofs.Queues.{length-queued}
use Rattle.flow_input.proofs.frame_block.FrameBlock.len.Goals as goal

pub returns : goal.returns
returns g c =
    let q = c.self.inside in
    omega (arith, c.len.ensures, q.lens.ok.0, c.self.invariant.some, length-drop q.removed q.lens.items, length-queued (drop q.removed q.lens.items) (drop q.from q.bytes.items), ap (λ (fs : List FilingView). length fs) c.self.view_is)
