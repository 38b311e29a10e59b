use Rattle.std.proofs.Common.{◌<◌, refl, List, length, drop, ap, ◌∙◌, arith}
use Rattle.std.proofs.lemmas.Option.{slice_get_read}
use Rattle.std.proofs.lemmas.List.{length-drop}
use Rattle.fpl_message.specs.Filings.{FilingView}
use Rattle.flow_input.proofs.Queues.{length-queued, is-first}
use Rattle.flow_input.proofs.frame_block.FrameBlock.remove_first.Goals as goal

pub index-requires : goal.index-requires
index-requires g c =
    let q = c.self.inside in
    omega (arith, c.requires, q.lens.ok.0, length-drop q.removed q.lens.items, length-queued (drop q.removed q.lens.items) (drop q.from q.bytes.items), ap (λ (fs : List FilingView). length fs) c.self.view_is)

pub invariant_of-self : goal.invariant_of-self
invariant_of-self g c =
    let q = c.self.inside in
    let below : q.removed < length q.lens.items = omega (arith, c.requires, length-drop q.removed q.lens.items, length-queued (drop q.removed q.lens.items) (drop q.from q.bytes.items), ap (λ (fs : List FilingView). length fs) c.self.view_is) in
    (is-first q.lens.items q.bytes.items q.removed q.from c.index.result.now c.self.invariant (slice_get_read q.lens.items (length q.lens.items) q.removed c.index.result.now refl below c.index.ensures)).next

pub returns : goal.returns
returns g c =
    let q = c.self.inside in
    let below : q.removed < length q.lens.items = omega (arith, c.requires, length-drop q.removed q.lens.items, length-queued (drop q.removed q.lens.items) (drop q.from q.bytes.items), ap (λ (fs : List FilingView). length fs) c.self.view_is) in
    (is-first q.lens.items q.bytes.items q.removed q.from c.index.result.now c.self.invariant (slice_get_read q.lens.items (length q.lens.items) q.removed c.index.result.now refl below c.index.ensures)).rest ∙ ap (λ (fs : List FilingView). drop 1 fs) c.self.view_is
