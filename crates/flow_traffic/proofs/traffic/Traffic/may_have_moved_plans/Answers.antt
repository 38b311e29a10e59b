use Rattle.std.proofs.Common.{◌≡◌, ◌∙◌, ℕ, sym}
use Rattle.flow_traffic.specs.declared.undo.Last.TheVariants as reading
use Rattle.flow_traffic.specs.State.{TrafficState}
use Rattle.flow_traffic.specs.Undoing.{UndoingView}
use Rattle.flow_traffic.proofs.TakenBack.{plans-stay}
use Rattle.flow_traffic.proofs.traffic.Traffic.may_have_moved_plans.Goals as goal

pub returns-in_default : goal.returns-in_default
returns-in_default g c = λ moved.
    let i = c.self.inside in
    let r : UndoingView = i.undoing in
    let s : TrafficState = record { time = i.time; store = i.plans; listing = i.regulations; queue = i.queue } in
    let other : (n : ℕ) → r.which ≡ reading.Message n → ⊥ = λ n e. c.in_default.not-Message n (c.which.ensures ∙ e) in
    rw (sym c.self.view_is) (plans-stay r.which r s i.notified.told.items i.notified.notices.items other)
