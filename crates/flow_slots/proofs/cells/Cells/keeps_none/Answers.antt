use Rattle.std.proofs.Common.{sym, ap, ◌∙◌}
use Rattle.flow_slots.specs.Row.{fixed_of}
use Rattle.flow_slots.proofs.Started.{started}
use Rattle.flow_slots.proofs.Unfixed.{started-unfixed}
use Rattle.flow_slots.proofs.cells.Cells.keeps_none.Goals as goal

pub returns : goal.returns
returns g c =
    let s = c.self.inside in
    let is = ap (λ cells. fixed_of 0 (started s.start cells s.len)) c.deref.ensures.value ∙ ap (λ v. fixed_of 0 v.row) c.self.view_is in
    let all = started-unfixed s.start s.len c.deref.result.now in
    ((λ t. sym is ∙ all.0 (c.are_unfixed.ensures.0 t)), (λ e. c.are_unfixed.ensures.1 (all.1 (is ∙ e))))
