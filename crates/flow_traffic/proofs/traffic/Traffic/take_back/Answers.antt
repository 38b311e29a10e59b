use Rattle.std.proofs.Common.{◌≡◌, ◌∙◌, true, sym, ap}
use Rattle.flow_traffic.specs.State.{TrafficState}
use Rattle.flow_traffic.specs.Undoing.{UndoingView, has_changed, state_past, told_past, IsAgain, WasKept}
use Rattle.flow_traffic.proofs.TakenBack.{kept-again, kept-with-nothing}
use Rattle.flow_traffic.proofs.traffic.Traffic.take_back.Goals as goal

pub invariant_of-self-2 : goal.invariant_of-self-2
invariant_of-self-2 g c =
    let i = c.self.inside in
    let r : UndoingView = i.undoing in
    let s : TrafficState = record { time = i.time; store = i.plans; listing = i.regulations; queue = i.queue } in
    let t : TrafficState = record { time = c.put_back.new.time; store = c.put_back.new.plans; listing = c.put_back.new.regulations; queue = c.put_back.new.queue } in
    let yes : has_changed r.which ≡ true = sym c.has_changed.ensures ∙ c.if-not-has_changed.false in
    let p : TrafficState = state_past r.which r s in
    let was : WasKept r s p i.notified.told.items = c.self.invariant.was yes in
    let again : IsAgain p t = c.put_back.ensures.again in
    let changed : c.put_back.new.self.changed ≡ r.changed = ap (λ (v : UndoingView). v.changed) c.put_back.ensures.others in
    let noted : c.put_back.new.self.noted ≡ r.noted = ap (λ (v : UndoingView). v.noted) c.put_back.ensures.others in
    let told_are : c.untell.new.notified.told.items ≡ told_past r p i.notified.told.items = rw (changed, noted, c.count-count.ensures.count, again.plans) at c.untell.ensures.told in
    kept-with-nothing c.begin-2.new.self t c.untell.new.notified.told.items (ap (λ (v : UndoingView). has_changed v.which) c.begin-2.ensures)
    (kept-again p t (told_past r p i.notified.told.items) c.untell.new.notified.told.items (was.kept c.put_back.new.queue (rw (again.time, again.plans) at again.covers)) again told_are)
