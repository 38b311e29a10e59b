use Rattle.std.proofs.Common.{◌≡◌, ◌∙◌, ℕ, sym, ap, subst}
use Rattle.flow_traffic.specs.declared.undo.Last.{Last}
use Rattle.flow_traffic.specs.declared.undo.Last.TheVariants as reading
use Rattle.flow_traffic.specs.Traffic.{TrafficView}
use Rattle.flow_traffic.specs.State.{TrafficState}
use Rattle.flow_traffic.specs.Undoing.{UndoingView, state_past, undone_traffic, CanUndo, CanForget}
use Rattle.flow_traffic.proofs.TakenBack.{status-was, status-stays, plans-stay}
use Rattle.flow_traffic.proofs.traffic.Traffic.previous.Goals as goal

pub returns-in-Message : goal.returns-in-Message
returns-in-Message g c =
    let i = c.self.inside in
    let r : UndoingView = i.undoing in
    let s : TrafficState = record { time = i.time; store = i.plans; listing = i.regulations; queue = i.queue } in
    let is : r.which ≡ reading.Message c.in-Message.number = sym c.which.ensures ∙ c.in-Message.is in
    let C : Last → Type 0 = λ l. CanUndo l r s in
    let can : CanForget c.in-Message.number r s (state_past (reading.Message c.in-Message.number) r s) = subst C is c.self.invariant.can in
    rw (sym (ap (λ (v : TrafficView). v.before) c.self.view_is), is)
    (status-was s.store.before _ c.previous.result c.args.number can.before c.previous.ensures)

pub returns-in_default : goal.returns-in_default
returns-in_default g c =
    let i = c.self.inside in
    let r : UndoingView = i.undoing in
    let s : TrafficState = record { time = i.time; store = i.plans; listing = i.regulations; queue = i.queue } in
    let other : (n : ℕ) → r.which ≡ reading.Message n → ⊥ = λ n e. c.in_default.not-Message n (c.which.ensures ∙ e) in
    rw (sym (ap (λ (v : TrafficView). v.before) c.self.view_is))
    (status-stays (undone_traffic r.which r s i.notified.told.items i.notified.notices.items) s.store.plans c.status_at.result c.args.number (plans-stay r.which r s i.notified.told.items i.notified.notices.items other) c.status_at.ensures)
