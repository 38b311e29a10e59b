use Rattle.std.proofs.Common.{ap, ◌∙◌, drop, List, ℕ}
use Rattle.flow_input.specs.Reader.{InputView}
use Rattle.flow_input.proofs.Ranges.{range-skip}
use Rattle.flow_input.proofs.input.Input.skip.Goals as goal

pub returns-clause-unread : goal.returns-clause-unread
returns-clause-unread g c =
    let unread = ap (λ (a : InputView). a.unread) c.self.view_is in
    range-skip c.self.inside.buffer.items c.self.inside.at c.self.inside.end c.args.count (rw unread c.requires) ∙ ap (λ (bs : List ℕ). drop c.args.count bs) unread
