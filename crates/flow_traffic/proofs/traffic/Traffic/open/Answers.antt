use Rattle.std.proofs.Common.{◌≡◌, ◌∙◌, ◌++◌, ◌∷◌, [], ℕ, List, length, refl, sym, ap, subst, arith, Option, Some}
use Rattle.fpl_message.specs.Messages.{open_reg}
use Rattle.fpl_message.specs.Reads.{ord}
use Rattle.flow_plans.specs.Plans.{PlanView}
use Rattle.flow_regulations.specs.declared.notice.Told.{Told}
use Rattle.flow_regulations.specs.declared.notice.Notice.{Notice}
use Rattle.flow_regulations.specs.Listing.{RegulationView, IsOpened}
use Rattle.flow_regulations.specs.Regulations.{Regulation}
use Rattle.flow_regulations.proofs.ForTheDesk.{quiet-but-opened, opened-listed, opened-settled}
use Rattle.flow_traffic.specs.declared.verdict.Kind.TheVariants as kind
use Rattle.flow_traffic.specs.declared.undo.Last.TheVariants as reading
use Rattle.flow_traffic.specs.Traffic.{Traffic, TrafficView}
use Rattle.flow_traffic.specs.State.{TrafficState, traffic_of}
use Rattle.flow_traffic.specs.Opening.{regulation_by}
use Rattle.flow_traffic.specs.Undoing.{UndoingView, state_past, told_past, undone_traffic, IsAgain, IsKeptWith}
use Rattle.flow_traffic.proofs.Rising.{rises-on, few-rising}
use Rattle.flow_traffic.proofs.Noted.{same-noted}
use Rattle.flow_traffic.proofs.TakenBack.{was-opened, can-unopen, opened-count, told-back, was-kept, traffic-before, notices-before}
use Rattle.flow_traffic.proofs.Answered.{opened-map, order-answers}
use Rattle.flow_traffic.proofs.Answering.{accepting}
use Rattle.flow_traffic.proofs.traffic.Traffic.open.Goals as goal

pub tell-requires-clause-rising : goal.tell-requires-clause-rising
tell-requires-clause-rising g c = rises-on c.note_fixed.new.self.changed c.in-Ok-note_fixed.ensures.fixed.rising

pub tell-requires-clause-numbers : goal.tell-requires-clause-numbers
tell-requires-clause-numbers g c =
    let i = c.self.inside in
    let taxi : ℕ = i.plans.taxi in
    let max : ℕ = i.regulations.max_plans in
    let plans : List PlanView = i.plans.plans in
    let lists : List RegulationView = i.regulations.lists in
    let new : List RegulationView = c.open.new.self.lists in
    let r : Regulation = regulation_by c.args.order.now in
    let opened : IsOpened taxi max i.time plans r lists new = rw c.in-Ok.ensures.shape at c.in-Ok-open.ensures.opened in
    let settled = opened-settled taxi max i.time plans r lists new opened c.self.invariant.kept.settled_in in
    let within = c.in-Ok-note_fixed.ensures.fixed.numbers taxi i.time plans settled in
    within

pub tell-requires-clause-quiet : goal.tell-requires-clause-quiet
tell-requires-clause-quiet g c =
    let i = c.self.inside in
    let taxi : ℕ = i.plans.taxi in
    let max : ℕ = i.regulations.max_plans in
    let plans : List PlanView = i.plans.plans in
    let lists : List RegulationView = i.regulations.lists in
    let new : List RegulationView = c.open.new.self.lists in
    let r : Regulation = regulation_by c.args.order.now in
    let opened : IsOpened taxi max i.time plans r lists new = rw c.in-Ok.ensures.shape at c.in-Ok-open.ensures.opened in
    quiet-but-opened taxi max i.time plans r lists new i.notified.told.items c.note_fixed.new.self.changed opened c.in-Ok-note_fixed.ensures.fixed.others c.self.invariant.kept.quiet

pub invariant_of-self-2 : goal.invariant_of-self-2
invariant_of-self-2 g c =
    let i = c.self.inside in
    let s : TrafficState = record { time = i.time; store = i.plans; listing = i.regulations; queue = i.queue } in
    let t : TrafficState = record { time = i.time; store = i.plans; listing = c.open.new.self; queue = i.queue } in
    let taxi : ℕ = i.plans.taxi in
    let max : ℕ = i.regulations.max_plans in
    let plans : List PlanView = i.plans.plans in
    let lists : List RegulationView = i.regulations.lists in
    let new : List RegulationView = c.open.new.self.lists in
    let r : Regulation = regulation_by c.args.order.now in
    let opened : IsOpened taxi max i.time plans r lists new = rw c.in-Ok.ensures.shape at c.in-Ok-open.ensures.opened in
    let settled = opened-settled taxi max i.time plans r lists new opened c.self.invariant.kept.settled_in in
    let within = c.in-Ok-note_fixed.ensures.fixed.numbers taxi i.time plans settled in
    let u : UndoingView = record c.tell.new.self { which = reading.Open } in
    let p : TrafficState = state_past reading.Open u t in
    let told : List (Option Told) = c.tell.new.notified.told.items in
    let same : c.tell.new.self.changed ≡ c.note_fixed.new.self.changed = ap (λ (v : UndoingView). v.changed) c.tell.ensures.others in
    let lists_were : p.listing.lists ≡ lists = was-opened taxi max i.time plans r lists new opened in
    let again : IsAgain p s = record { time = refl; plans = refl; taxi = refl; most = refl; lists = sym lists_were; limit = sym c.open.ensures.limit; covers = c.self.invariant.kept.covers } in
    let told_were : told_past u p told ≡ i.notified.told.items = told-back u p told i.notified.told.items plans refl (rw same c.tell.ensures.again) c.self.invariant.kept.each in
    let P : UndoingView → Type 0 = λ v. IsKeptWith v t told in
    subst P (sym c.finish-2.ensures) (record {
      kept = record {
        desk_time = c.self.invariant.kept.desk_time;
        limit = c.open.ensures.limit ∙ c.self.invariant.kept.limit;
        few = omega (arith, c.in-Ok.ensures.few, opened-count taxi max i.time plans r lists new opened);
        room = c.self.invariant.kept.room;
        most = c.self.invariant.kept.most;
        each = c.tell.ensures.each;
        listed = rw (sym c.open.ensures.limit) at (opened-listed taxi max i.time plans r lists new opened c.self.invariant.kept.listed);
        settled_in = settled;
        covers = c.self.invariant.kept.covers;
        quiet = c.tell.ensures.quiet;
      };
      can = can-unopen taxi max i.time plans r lists new opened;
      was = λ yes. was-kept u t p s told i.notified.told.items again told_were c.self.invariant.kept (rw same c.tell.ensures.count) (rw (same, c.tell.ensures.each) within)
          (same-noted u plans i.notified.told.items (rw same c.in-Ok-note_fixed.ensures.fixed.rising) c.self.invariant.kept.each (rw same c.tell.ensures.were));
    })

pub returns : goal.returns
returns g c =
    let i = c.self.inside in
    let s : TrafficState = record { time = i.time; store = i.plans; listing = i.regulations; queue = i.queue } in
    let t : TrafficState = record { time = i.time; store = i.plans; listing = c.open.new.self; queue = i.queue } in
    let taxi : ℕ = i.plans.taxi in
    let max : ℕ = i.regulations.max_plans in
    let plans : List PlanView = i.plans.plans in
    let lists : List RegulationView = i.regulations.lists in
    let new : List RegulationView = c.open.new.self.lists in
    let r : Regulation = regulation_by c.args.order.now in
    let opened : IsOpened taxi max i.time plans r lists new = rw c.in-Ok.ensures.shape at c.in-Ok-open.ensures.opened in
    let settled = opened-settled taxi max i.time plans r lists new opened c.self.invariant.kept.settled_in in
    let within = c.in-Ok-note_fixed.ensures.fixed.numbers taxi i.time plans settled in
    let u : UndoingView = record c.tell.new.self { which = reading.Open } in
    let p : TrafficState = state_past reading.Open u t in
    let told : List (Option Told) = c.tell.new.notified.told.items in
    let same : c.tell.new.self.changed ≡ c.note_fixed.new.self.changed = ap (λ (v : UndoingView). v.changed) c.tell.ensures.others in
    let lists_were : p.listing.lists ≡ lists = was-opened taxi max i.time plans r lists new opened in
    let again : IsAgain p s = record { time = refl; plans = refl; taxi = refl; most = refl; lists = sym lists_were; limit = sym c.open.ensures.limit; covers = c.self.invariant.kept.covers } in
    let told_were : told_past u p told ≡ i.notified.told.items = told-back u p told i.notified.told.items plans refl (rw same c.tell.ensures.again) c.self.invariant.kept.each in
    let issued : c.tell.new.self.issued ≡ length i.notified.notices.items = ap (λ (v : UndoingView). v.issued) c.tell.ensures.others ∙ ap length c.note_fixed.ensures.notices in
    let more = rw c.note_fixed.ensures.notices at c.tell.ensures.notices in
    let taken = notices-before i.notified.notices.items c.tell.new.notified.notices.items _ c.tell.new.self.issued more issued in
    let was = ap (λ (v : TrafficView). v.traffic) c.self.view_is in
    let old : Traffic = traffic_of s i.notified.told.items i.notified.notices.items in
    let P : UndoingView → Type 0 = λ v. undone_traffic v.which v t told c.tell.new.notified.notices.items ≡ Some c.args.self.now.traffic in
    accepting (ord (open_reg c.args.order.now)) c.args.self.now s i.notified.told.items i.notified.notices.items t told c.tell.new.notified.notices.items _ c.finish-2.new.self c.accepted.result
    was c.self.invariant.kept.settled_in
    (rw (c.accepted.ensures, sym was)
    (order-answers s i.time new i.notified.told.items told i.notified.notices.items c.tell.new.notified.notices.items (open_reg c.args.order.now) kind.Open (old.regulations ++ r ∷ [])
    (c.in-Ok.ensures.asked old refl)
    (opened-map taxi max i.time plans r lists new opened c.self.invariant.kept.listed c.self.invariant.kept.settled_in)
    c.self.invariant.kept.each c.tell.ensures.told more))
    (subst P (sym c.finish-2.ensures) (ap Some (traffic-before u p s told i.notified.told.items c.tell.new.notified.notices.items i.notified.notices.items again told_were taken ∙ was)))
    more
    (omega (
      arith,
      c.self.invariant.kept.room,
      c.self.invariant.kept.most,
      c.tell.ensures.few,
      ap (λ (ns : List Notice). length ns) c.note_fixed.ensures.notices,
      few-rising _ _ c.in-Ok-note_fixed.ensures.fixed.rising within,
    ))
