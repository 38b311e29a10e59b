use Rattle.std.proofs.Common.{◌≡◌, ◌∙◌, ℕ, refl, sym, ap, subst}
use Rattle.flow_traffic.specs.declared.undo.Last.{Last}
use Rattle.flow_traffic.specs.declared.undo.Last.TheVariants as reading
use Rattle.flow_traffic.specs.State.{TrafficState}
use Rattle.flow_traffic.specs.Undoing.{UndoingView, state_past, CanUndo, CanGoBack, IsAgain}
use Rattle.flow_traffic.proofs.undo.Undoing.put_back.Goals as goal

pub returns-in-Time-clause-again : goal.returns-in-Time-clause-again
returns-in-Time-clause-again g c =
    let a = c.args in
    let r : UndoingView = a.self.now in
    let s : TrafficState = record { time = a.time.now; store = a.plans.now; listing = a.regulations.now; queue = a.queue.now } in
    let t : TrafficState = record { time = c.in-Time.earlier; store = a.plans.now; listing = c.release_all.new.self; queue = c.put_back-in-Time.new.self } in
    let earlier : ℕ = c.in-Time.earlier in
    let is : r.which ≡ reading.Time earlier = sym (ap (λ (v : UndoingView). v.which) c.self.view_is) ∙ c.in-Time.is in
    let same : c.self.inside.changed.items ≡ r.changed = ap (λ (v : UndoingView). v.changed) c.self.view_is in
    let C : Last → Type 0 = λ l. CanUndo l r s in
    let can : CanGoBack earlier r s (state_past (reading.Time earlier) r s) = subst C is c.requires.can in
    let lists = rw (c.deref-in-Time-2.ensures.value, same) at c.release_all.ensures.lists in
    let covers = rw (c.deref-in-Time.ensures.value, same) at c.put_back-in-Time.ensures.covers in
    let P : Last → Type 0 = λ l. IsAgain (state_past l r s) t in
    subst P (sym is) record {
      time = refl;
      plans = refl;
      taxi = refl;
      most = refl;
      lists = lists s.listing.max_plans earlier s.time (state_past (reading.Time earlier) r s).listing.lists can.due can.fixed;
      limit = c.release_all.ensures.limit;
      covers = covers earlier s.time can.hold can.covers;
    }
