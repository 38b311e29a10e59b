use Rattle.std.proofs.Common.{ap, ◌∙◌, drop, List, ℕ, slice_range, refl}
use Rattle.flow_input.specs.Reader.{InputView}
use Rattle.flow_input.proofs.Ranges.{range-skip, range-range, range-length, kept-range}
use Rattle.flow_input.proofs.input.Input.take.Goals as goal

pub returns-clause-unread : goal.returns-clause-unread
returns-clause-unread g c =
    let unread = ap (λ (a : InputView). a.unread) c.self.view_is in
    range-skip c.self.inside.buffer.items c.self.inside.at c.self.inside.end c.args.span.end (rw unread c.requires.within) ∙ ap (λ (bs : List ℕ). drop c.args.span.end bs) unread

pub returns-clause-item : goal.returns-clause-item
returns-clause-item g c =
    let unread = ap (λ (a : InputView). a.unread) c.self.view_is in
    kept-range _ _ _ (slice_range c.args.self.now.unread c.args.span.begin c.args.span.end) refl (range-length c.args.self.now.unread c.args.span.begin c.args.span.end c.requires.within)
    (range-range c.self.inside.buffer.items c.self.inside.at c.self.inside.end c.args.span.begin c.args.span.end c.requires.order (rw unread c.requires.within)
    ∙ ap (λ (bs : List ℕ). slice_range bs c.args.span.begin c.args.span.end) unread)
