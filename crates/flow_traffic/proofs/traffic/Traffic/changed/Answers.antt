use Rattle.std.proofs.Common.{◌≡◌, ◌∙◌, ◌<◌, [], true, false, length, map, refl, sym, ap}
use Rattle.std.specs.Option.{option_map}
use Rattle.std.specs.List.{AllByRecursion}
use Rattle.std.proofs.lemmas.List.Elements.{recursion_from_All}
use Rattle.flow_plans.specs.Plans.{status_of}
use Rattle.flow_traffic.specs.Traffic.{Traffic, TrafficView, told_of}
use Rattle.flow_traffic.specs.State.{TrafficState, traffic_of}
use Rattle.flow_traffic.specs.Changes.{ChangeAtMost}
use Rattle.flow_traffic.specs.Undoing.{UndoingView, has_changed, state_past, told_past, undone_traffic, WasKept}
use Rattle.flow_traffic.proofs.Noted.{others-told}
use Rattle.flow_traffic.proofs.TakenBack.{undone-was, undone-same, if-same}
use Rattle.flow_traffic.proofs.traffic.Traffic.changed.Goals as goal

pub returns-then-not-has_changed-clause-others : goal.returns-then-not-has_changed-clause-others
returns-then-not-has_changed-clause-others g c =
    let i = c.self.inside in
    let r : UndoingView = i.undoing in
    let s : TrafficState = record { time = i.time; store = i.plans; listing = i.regulations; queue = i.queue } in
    let not : has_changed r.which ≡ false = sym c.has_changed.ensures ∙ c.if-not-has_changed.true in
    let t : Traffic = traffic_of s i.notified.told.items i.notified.notices.items in
    rw (sym c.self.view_is)
    (if-same (undone_traffic r.which r s i.notified.told.items i.notified.notices.items) t (λ b. ChangeAtMost [] b t) (undone-same r.which r s i.notified.told.items i.notified.notices.items not)
    (record { status = λ n some out. refl; told = λ n some out. refl }))

pub returns-then-not-has_changed-clause-each_before : goal.returns-then-not-has_changed-clause-each_before
returns-then-not-has_changed-clause-each_before g c =
    let i = c.self.inside in
    let r : UndoingView = i.undoing in
    let s : TrafficState = record { time = i.time; store = i.plans; listing = i.regulations; queue = i.queue } in
    let not : has_changed r.which ≡ false = sym c.has_changed.ensures ∙ c.if-not-has_changed.true in
    let t : Traffic = traffic_of s i.notified.told.items i.notified.notices.items in
    rw (sym c.self.view_is)
    (if-same (undone_traffic r.which r s i.notified.told.items i.notified.notices.items) t (λ b. length b.told ≡ length b.plans) (undone-same r.which r s i.notified.told.items i.notified.notices.items not) c.self.invariant.kept.each)

pub returns-then-not-has_changed-clause-told : goal.returns-then-not-has_changed-clause-told
returns-then-not-has_changed-clause-told g c =
    let i = c.self.inside in
    let r : UndoingView = i.undoing in
    let s : TrafficState = record { time = i.time; store = i.plans; listing = i.regulations; queue = i.queue } in
    let not : has_changed r.which ≡ false = sym c.has_changed.ensures ∙ c.if-not-has_changed.true in
    let t : Traffic = traffic_of s i.notified.told.items i.notified.notices.items in
    rw (sym c.self.view_is)
    (if-same (undone_traffic r.which r s i.notified.told.items i.notified.notices.items) t (λ b. [] ≡ map (told_of b.told) []) (undone-same r.which r s i.notified.told.items i.notified.notices.items not) refl)

pub returns-clause-rising : goal.returns-clause-rising
returns-clause-rising g c =
    let i = c.self.inside in
    let r : UndoingView = i.undoing in
    let s : TrafficState = record { time = i.time; store = i.plans; listing = i.regulations; queue = i.queue } in
    let yes : has_changed r.which ≡ true = sym c.has_changed.ensures ∙ c.if-not-has_changed.false in
    let p : TrafficState = state_past r.which r s in
    let was : WasKept r s p i.notified.told.items = c.self.invariant.was yes in
    rw c.changed.ensures was.changes.rising

pub returns-clause-numbers : goal.returns-clause-numbers
returns-clause-numbers g c =
    let i = c.self.inside in
    let r : UndoingView = i.undoing in
    let s : TrafficState = record { time = i.time; store = i.plans; listing = i.regulations; queue = i.queue } in
    let yes : has_changed r.which ≡ true = sym c.has_changed.ensures ∙ c.if-not-has_changed.false in
    let p : TrafficState = state_past r.which r s in
    let was : WasKept r s p i.notified.told.items = c.self.invariant.was yes in
    rw (c.changed.ensures, sym (ap (λ (v : TrafficView). v.traffic) c.self.view_is), sym c.self.invariant.kept.each) was.numbers

pub returns-clause-others : goal.returns-clause-others
returns-clause-others g c =
    let i = c.self.inside in
    let r : UndoingView = i.undoing in
    let s : TrafficState = record { time = i.time; store = i.plans; listing = i.regulations; queue = i.queue } in
    let yes : has_changed r.which ≡ true = sym c.has_changed.ensures ∙ c.if-not-has_changed.false in
    let p : TrafficState = state_past r.which r s in
    let was : WasKept r s p i.notified.told.items = c.self.invariant.was yes in
    let all : AllByRecursion (λ m. 0 < m) r.changed = recursion_from_All (λ m. 0 < m) r.changed (λ k d h. (was.numbers k d h).0) in
    rw (c.changed.ensures, sym c.self.view_is, undone-was r.which r s i.notified.told.items i.notified.notices.items yes)
    (record {
      status = λ n some out. ap (option_map status_of) (was.changes.others n some out);
      told = λ n some out. others-told r s.store.plans p.store.plans (told_past r p i.notified.told.items) i.notified.told.items was.changes c.self.invariant.kept.each all n some out;
    })

pub returns-clause-told : goal.returns-clause-told
returns-clause-told g c =
    let i = c.self.inside in
    let r : UndoingView = i.undoing in
    let s : TrafficState = record { time = i.time; store = i.plans; listing = i.regulations; queue = i.queue } in
    let yes : has_changed r.which ≡ true = sym c.has_changed.ensures ∙ c.if-not-has_changed.false in
    let p : TrafficState = state_past r.which r s in
    let was : WasKept r s p i.notified.told.items = c.self.invariant.was yes in
    rw (c.changed.ensures, c.noted.ensures, sym c.self.view_is, undone-was r.which r s i.notified.told.items i.notified.notices.items yes) was.changes.were

pub returns-clause-each_before : goal.returns-clause-each_before
returns-clause-each_before g c =
    let i = c.self.inside in
    let r : UndoingView = i.undoing in
    let s : TrafficState = record { time = i.time; store = i.plans; listing = i.regulations; queue = i.queue } in
    let yes : has_changed r.which ≡ true = sym c.has_changed.ensures ∙ c.if-not-has_changed.false in
    let p : TrafficState = state_past r.which r s in
    let was : WasKept r s p i.notified.told.items = c.self.invariant.was yes in
    rw (sym c.self.view_is, undone-was r.which r s i.notified.told.items i.notified.notices.items yes) was.changes.each
