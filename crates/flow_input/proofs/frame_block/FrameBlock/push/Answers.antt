use Rattle.std.proofs.Common.{◌≡◌, ◌++◌, ◌∷◌, [], List, sym, ap, ◌∙◌}
use Rattle.fpl_message.specs.Filings.{FilingView}
use Rattle.flow_input.specs.NextFrame.{second}
use Rattle.flow_input.proofs.Queues.{pushed, pushed-queued}
use Rattle.flow_input.proofs.frame_block.FrameBlock.push.Goals.{then-is_empty, else-is_empty}
use Rattle.flow_input.proofs.frame_block.FrameBlock.push.Goals as goal

pub invariant_of-self-2 : goal.invariant_of-self-2
invariant_of-self-2 g c =
    let q = c.self-2.inside in
    rw (c.push_reserved.ensures.items, c.in_ok-reserve.ensures.items, c.in_ok-extend_from_slice.ensures.items)
    (pushed q.lens.items q.bytes.items c.args.frame.now q.removed q.from c.self-2.invariant c.requires)

pub returns-clause-ok : goal.returns-clause-ok
returns-clause-ok g c =
    let q = c.self-2.inside in
    let same : c.if-is_empty.self ≡ c.args.self.now =
    elim c.if-is_empty.branch [ then-is_empty w ↦ w.self-is ∙ w.clear.ensures ∙ sym (c.is_empty.ensures.none w.if-is_empty.true) | else-is_empty w ↦ w.self-is ] in
    rw (c.push_reserved.ensures.items, c.in_ok-reserve.ensures.items, c.in_ok-extend_from_slice.ensures.items)
    (pushed-queued q.lens.items q.bytes.items c.args.frame.now q.removed q.from c.self-2.invariant)
    ∙ ap (λ (fs : List FilingView). fs ++ second c.args.frame.now ∷ []) (c.self-2.view_is ∙ same)
