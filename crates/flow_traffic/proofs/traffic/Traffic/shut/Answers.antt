use Rattle.std.proofs.Common.{◌≡◌, ◌∙◌, ℕ, List, map, length, refl, sym, ap, subst, arith, Option, Some, IfSome}
use Rattle.fpl_message.specs.Messages.{shut_reg}
use Rattle.fpl_message.specs.Reads.{ord}
use Rattle.flow_regulations.specs.declared.notice.Told.{Told}
use Rattle.flow_regulations.specs.declared.notice.Notice.{Notice}
use Rattle.flow_regulations.specs.Listing.{RegulationView, ClosedView, MayReopen, regulation_of, without_named}
use Rattle.flow_regulations.specs.Regulations.{Regulation}
use Rattle.flow_regulations.specs.Settling.{settled as settled_of}
use Rattle.flow_regulations.proofs.ForTheDesk.{quiet-but-shut, already-settled, shut-regulations, named-regulations}
use Rattle.flow_regulations.proofs.Steps.{shut-listed, shut-settled}
use Rattle.flow_traffic.specs.declared.verdict.Kind.TheVariants as kind
use Rattle.fpl_message.specs.declared.refusal.Refusal.TheVariants as refusal
use Rattle.flow_traffic.specs.declared.undo.Last.{Last}
use Rattle.flow_traffic.specs.declared.undo.Last.TheVariants as reading
use Rattle.flow_traffic.specs.Traffic.{Traffic, TrafficView}
use Rattle.flow_traffic.specs.State.{TrafficState, traffic_of}
use Rattle.flow_traffic.specs.Reopening.{open_again}
use Rattle.flow_traffic.specs.Undoing.{UndoingView, state_past, told_past, undone_traffic, IsAgain, IsKeptWith}
use Rattle.flow_traffic.proofs.Rising.{rises-on, few-rising}
use Rattle.flow_traffic.proofs.Noted.{same-noted}
use Rattle.flow_traffic.proofs.TakenBack.{was-shut, told-back, was-kept, traffic-before, notices-before}
use Rattle.flow_traffic.proofs.Answered.{none-refused, shut-asked, order-answers, fewer-named}
use Rattle.flow_traffic.proofs.Answering.{accepting, refusing, running-out}
use Rattle.flow_traffic.proofs.traffic.Traffic.shut.Goals as goal

pub returns-then-not-is_open : goal.returns-then-not-is_open
returns-then-not-is_open g c =
    let i = c.self.inside in
    let s : TrafficState = record { time = i.time; store = i.plans; listing = i.regulations; queue = i.queue } in
    let was = ap (λ (v : TrafficView). v.traffic) c.self.view_is in
    let other = sym (named-regulations c.args.id.now i.regulations.lists) ∙ sym c.is_open.ensures ∙ c.if-not-is_open.true in
    refusing (ord (shut_reg c.args.id.now)) c.args.self.now s i.notified.told.items i.notified.notices.items c.finish.new.self refusal.NoRegulation
    (ap (λ (v : UndoingView). v.which) c.finish.ensures) was
    (rw (sym was) (none-refused (traffic_of s i.notified.told.items i.notified.notices.items) c.args.id.now other))

pub returns-in_default : goal.returns-in_default
returns-in_default g c =
    let i = c.self.inside in
    let s : TrafficState = record { time = i.time; store = i.plans; listing = i.regulations; queue = i.queue } in
    let t : Traffic = traffic_of s i.notified.told.items i.notified.notices.items in
    let W : UndoingView → Last = λ v. v.which in
    let was = ap (λ (v : TrafficView). v.traffic) c.self.view_is in
    let here = sym (named-regulations c.args.id.now i.regulations.lists) ∙ sym c.is_open.ensures ∙ c.if-not-is_open.false in
    running-out (ord (shut_reg c.args.id.now)) c.args.self.now s i.notified.told.items c.note_fixed.new.notices.items c.note_fixed.new.self _
    (ap W c.note_fixed.ensures.others ∙ ap W c.begin.ensures) (rw c.note_fixed.ensures.notices was) (rw (sym was, shut-asked t c.args.id.now here) refl)

pub tell-requires-clause-rising : goal.tell-requires-clause-rising
tell-requires-clause-rising g c =
    let changed : c.keep.new.self.changed ≡ c.note_fixed.new.self.changed = ap (λ (v : UndoingView). v.changed) c.keep.ensures in
    rw changed (rises-on c.note_fixed.new.self.changed c.in-Ok.ensures.fixed.rising)

pub tell-requires-clause-numbers : goal.tell-requires-clause-numbers
tell-requires-clause-numbers g c =
    let changed : c.keep.new.self.changed ≡ c.note_fixed.new.self.changed = ap (λ (v : UndoingView). v.changed) c.keep.ensures in
    rw changed (c.in-Ok.ensures.fixed.numbers c.self.inside.plans.taxi c.self.inside.time c.self.inside.plans.plans c.self.invariant.kept.settled_in)

pub tell-requires-clause-quiet : goal.tell-requires-clause-quiet
tell-requires-clause-quiet g c =
    let changed : c.keep.new.self.changed ≡ c.note_fixed.new.self.changed = ap (λ (v : UndoingView). v.changed) c.keep.ensures in
    rw (changed, c.shut.ensures.lists)
    (quiet-but-shut c.self.inside.plans.taxi c.args.id.now c.self.inside.regulations.lists c.self.inside.plans.plans c.self.inside.notified.told.items c.note_fixed.new.self.changed
    c.in-Ok.ensures.fixed.others c.self.invariant.kept.quiet)

pub invariant_of-self-2 : goal.invariant_of-self-2
invariant_of-self-2 g c =
    let i = c.self.inside in
    let s : TrafficState = record { time = i.time; store = i.plans; listing = i.regulations; queue = i.queue } in
    let t : TrafficState = record { time = i.time; store = i.plans; listing = c.shut.new.self; queue = i.queue } in
    let u : UndoingView = record c.tell.new.self { which = reading.Shut } in
    let p : TrafficState = state_past reading.Shut u t in
    let told : List (Option Told) = c.tell.new.notified.told.items in
    let changed : c.tell.new.self.changed ≡ c.note_fixed.new.self.changed = ap (λ (v : UndoingView). v.changed) c.tell.ensures.others ∙ ap (λ (v : UndoingView). v.changed) c.keep.ensures in
    let same : c.tell.new.self.changed ≡ c.keep.new.self.changed = ap (λ (v : UndoingView). v.changed) c.tell.ensures.others in
    let closed : c.tell.new.self.closed ≡ c.shut.result = ap (λ (v : UndoingView). v.closed) c.tell.ensures.others ∙ ap (λ (v : UndoingView). v.closed) c.keep.ensures in
    let here = sym c.is_open.ensures ∙ c.if-not-is_open.false in
    let without = sym c.shut.ensures.lists in
    let lists_were : p.listing.lists ≡ i.regulations.lists =
    ap (λ (o : Option ClosedView). open_again o c.shut.new.self.lists) closed ∙ was-shut c.args.id.now i.regulations.lists c.shut.new.self c.shut.result here c.shut.ensures.none c.shut.ensures.closed in
    let again : IsAgain p s = record { time = refl; plans = refl; taxi = refl; most = refl; lists = sym lists_were; limit = sym c.shut.ensures.limit; covers = c.self.invariant.kept.covers } in
    let told_were : told_past u p told ≡ i.notified.told.items = told-back u p told i.notified.told.items i.plans.plans refl (rw same c.tell.ensures.again) c.self.invariant.kept.each in
    let within = c.in-Ok.ensures.fixed.numbers i.plans.taxi i.time i.plans.plans c.self.invariant.kept.settled_in in
    let M : Option ClosedView → Type 0 = λ o. IfSome o (λ (cl : ClosedView). MayReopen cl c.shut.new.self) in
    let P : UndoingView → Type 0 = λ v. IsKeptWith v t told in
    subst P (sym c.finish-2.ensures) (record {
      kept = record {
        desk_time = c.self.invariant.kept.desk_time;
        limit = c.shut.ensures.limit ∙ c.self.invariant.kept.limit;
        few = omega (arith, c.self.invariant.kept.few, ap (λ (ls : List RegulationView). length ls) c.shut.ensures.lists, fewer-named c.args.id.now i.regulations.lists);
        room = c.self.invariant.kept.room;
        most = c.self.invariant.kept.most;
        each = c.tell.ensures.each;
        listed = rw (sym c.shut.ensures.limit, without) at (shut-listed i.plans.taxi i.regulations.max_plans i.plans.plans c.args.id.now i.regulations.lists c.self.invariant.kept.listed);
        settled_in = rw without at (shut-settled i.plans.taxi i.time i.plans.plans c.args.id.now i.regulations.lists c.self.invariant.kept.settled_in);
        covers = c.self.invariant.kept.covers;
        quiet = c.tell.ensures.quiet;
      };
      can = subst M (sym closed) c.shut.ensures.may;
      was = λ yes. was-kept u t p s told i.notified.told.items again told_were c.self.invariant.kept (rw same c.tell.ensures.count) (rw (changed, c.tell.ensures.each) within)
          (same-noted u i.plans.plans i.notified.told.items (rw changed c.in-Ok.ensures.fixed.rising) c.self.invariant.kept.each (rw same c.tell.ensures.were));
    })

pub returns : goal.returns
returns g c =
    let i = c.self.inside in
    let s : TrafficState = record { time = i.time; store = i.plans; listing = i.regulations; queue = i.queue } in
    let t : TrafficState = record { time = i.time; store = i.plans; listing = c.shut.new.self; queue = i.queue } in
    let u : UndoingView = record c.tell.new.self { which = reading.Shut } in
    let p : TrafficState = state_past reading.Shut u t in
    let told : List (Option Told) = c.tell.new.notified.told.items in
    let same : c.tell.new.self.changed ≡ c.keep.new.self.changed = ap (λ (v : UndoingView). v.changed) c.tell.ensures.others in
    let closed : c.tell.new.self.closed ≡ c.shut.result = ap (λ (v : UndoingView). v.closed) c.tell.ensures.others ∙ ap (λ (v : UndoingView). v.closed) c.keep.ensures in
    let open_then = sym c.is_open.ensures ∙ c.if-not-is_open.false in
    let lists_were : p.listing.lists ≡ i.regulations.lists =
    ap (λ (o : Option ClosedView). open_again o c.shut.new.self.lists) closed ∙ was-shut c.args.id.now i.regulations.lists c.shut.new.self c.shut.result open_then c.shut.ensures.none c.shut.ensures.closed in
    let again : IsAgain p s = record { time = refl; plans = refl; taxi = refl; most = refl; lists = sym lists_were; limit = sym c.shut.ensures.limit; covers = c.self.invariant.kept.covers } in
    let told_were : told_past u p told ≡ i.notified.told.items = told-back u p told i.notified.told.items i.plans.plans refl (rw same c.tell.ensures.again) c.self.invariant.kept.each in
    let issued : c.tell.new.self.issued ≡ length i.notified.notices.items = ap (λ (v : UndoingView). v.issued) c.tell.ensures.others ∙ ap length c.note_fixed.ensures.notices in
    let more = rw c.note_fixed.ensures.notices at c.tell.ensures.notices in
    let taken = notices-before i.notified.notices.items c.tell.new.notified.notices.items _ c.tell.new.self.issued more issued in
    let old : Traffic = traffic_of s i.notified.told.items i.notified.notices.items in
    let here = sym (named-regulations c.args.id.now i.regulations.lists) ∙ open_then in
    let others : List RegulationView = without_named c.args.id.now i.regulations.lists in
    let settled = already-settled i.plans.taxi i.regulations.max_plans i.time i.plans.plans others
    (shut-listed i.plans.taxi i.regulations.max_plans i.plans.plans c.args.id.now i.regulations.lists c.self.invariant.kept.listed)
    (shut-settled i.plans.taxi i.time i.plans.plans c.args.id.now i.regulations.lists c.self.invariant.kept.settled_in) in
    let changed : c.keep.new.self.changed ≡ c.note_fixed.new.self.changed = ap (λ (v : UndoingView). v.changed) c.keep.ensures in
    let within = c.in-Ok.ensures.fixed.numbers i.plans.taxi i.time i.plans.plans c.self.invariant.kept.settled_in in
    let was = ap (λ (v : TrafficView). v.traffic) c.self.view_is in
    let P : UndoingView → Type 0 = λ v. undone_traffic v.which v t told c.tell.new.notified.notices.items ≡ Some c.args.self.now.traffic in
    accepting (ord (shut_reg c.args.id.now)) c.args.self.now s i.notified.told.items i.notified.notices.items t told c.tell.new.notified.notices.items _ c.finish-2.new.self c.accepted.result
    was c.self.invariant.kept.settled_in
    (rw (c.accepted.ensures, sym was)
    (order-answers s i.time c.shut.new.self.lists i.notified.told.items told i.notified.notices.items c.tell.new.notified.notices.items (shut_reg c.args.id.now) kind.Shut _
    (shut-asked old c.args.id.now here)
    (ap (λ (ls : List RegulationView). map regulation_of ls) c.shut.ensures.lists ∙ sym settled
    ∙ ap (λ (rs : List Regulation). map (settled_of i.plans.taxi i.time i.plans.plans) rs) (shut-regulations c.args.id.now i.regulations.lists))
    c.self.invariant.kept.each c.tell.ensures.told more))
    (subst P (sym c.finish-2.ensures) (ap Some (traffic-before u p s told i.notified.told.items c.tell.new.notified.notices.items i.notified.notices.items again told_were taken ∙ was)))
    more
    (omega (
      arith,
      c.self.invariant.kept.room,
      c.self.invariant.kept.most,
      c.tell.ensures.few,
      ap (λ (ns : List Notice). length ns) c.note_fixed.ensures.notices,
      few-rising _ _ c.in-Ok.ensures.fixed.rising within,
      ap (λ (ns : List ℕ). length ns) changed,
    ))
