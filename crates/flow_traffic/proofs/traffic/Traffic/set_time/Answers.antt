use Rattle.std.proofs.Common.{◌≡◌, ◌≤◌, ◌<◌, ◌∙◌, ℕ, Bool, List, map, length, refl, sym, ap, subst, arith, Option, Some, IsOk}
use Rattle.std.proofs.lemmas.Bool.{lt-ltb, le-ltb}
use Rattle.fpl_message.specs.Messages.{set_time}
use Rattle.fpl_message.specs.Reads.{ord}
use Rattle.flow_plans.specs.Plans.{PlanView}
use Rattle.flow_regulations.specs.Awaiting.{HaveBecomeDue}
use Rattle.flow_regulations.specs.Listing.{with_fixed_waiting, regulation_of}
use Rattle.flow_regulations.specs.declared.notice.Told.{Told}
use Rattle.flow_regulations.specs.declared.notice.Notice.{Notice}
use Rattle.flow_regulations.proofs.ForTheDesk.{quiet-but-due, kept-slots-settled}
use Rattle.flow_regulations.proofs.Queues.{became-due, became-within}
use Rattle.flow_traffic.specs.declared.verdict.Kind.TheVariants as kind
use Rattle.fpl_message.specs.declared.refusal.Refusal.TheVariants as refusal
use Rattle.flow_traffic.specs.declared.undo.Last.{Last}
use Rattle.flow_traffic.specs.declared.undo.Last.TheVariants as reading
use Rattle.flow_traffic.specs.Traffic.{Traffic, TrafficView}
use Rattle.flow_traffic.specs.State.{TrafficState, traffic_of}
use Rattle.flow_traffic.specs.Asked.{asked}
use Rattle.flow_traffic.specs.Undoing.{UndoingView, has_changed, state_past, told_past, undone_traffic, IsAgain, IsKeptWith}
use Rattle.flow_traffic.proofs.Rising.{rises-on, few-rising}
use Rattle.flow_traffic.proofs.Noted.{same-noted}
use Rattle.flow_traffic.proofs.TakenBack.{waits-again, told-back, can-go-back, was-kept, traffic-before, notices-before, kept-with-nothing}
use Rattle.flow_traffic.proofs.Answered.{back-refused, time-asked, order-answers, renewed-count}
use Rattle.flow_traffic.proofs.Answering.{accepting, refusing, running-out}
use Rattle.flow_traffic.proofs.traffic.Traffic.set_time.Goals as goal

-- the time doesn't go back
asked-later : (t : Traffic) (at : ℕ) → t.now ≤ at → IsOk (asked t (ord (set_time at)))
asked-later t at later = rw (time-asked t at (le-ltb _ _ later)) refl

pub returns-then-minutes : goal.returns-then-minutes
returns-then-minutes g c =
    let i = c.self.inside in
    let s : TrafficState = record { time = i.time; store = i.plans; listing = i.regulations; queue = i.queue } in
    let was = ap (λ (v : TrafficView). v.traffic) c.self.view_is in
    let back : c.args.at < i.time = omega (arith, c.if-minutes.true, c.minutes.ensures.value, c.minutes-2.ensures.value) in
    refusing (ord (set_time c.args.at)) c.args.self.now s i.notified.told.items i.notified.notices.items c.finish.new.self refusal.TimeBack
    (ap (λ (v : UndoingView). v.which) c.finish.ensures) was
    (rw (sym was) (back-refused (traffic_of s i.notified.told.items i.notified.notices.items) c.args.at (lt-ltb _ _ back)))

pub returns-in_default : goal.returns-in_default
returns-in_default g c =
    let i = c.self.inside in
    let s : TrafficState = record { time = i.time; store = i.plans; listing = i.regulations; queue = i.queue } in
    let W : UndoingView → Last = λ v. v.which in
    let was = ap (λ (v : TrafficView). v.traffic) c.self.view_is in
    running-out (ord (set_time c.args.at)) c.args.self.now s i.notified.told.items i.notified.notices.items c.make_room.new.self _
    (ap W c.make_room.ensures.same ∙ ap W c.begin.ensures) was
    (asked-later c.args.self.now.traffic c.args.at (omega (arith, c.if-minutes.false, c.minutes.ensures.value, c.minutes-2.ensures.value, ap (λ (v : TrafficView). v.traffic.now) c.self.view_is)))

pub returns-in_default-make_room_to_tell : goal.returns-in_default-make_room_to_tell
returns-in_default-make_room_to_tell g c =
    let i = c.self.inside in
    let t : TrafficState = record { time = i.time; store = i.plans; listing = i.regulations; queue = c.put_back.new.self } in
    let W : UndoingView → Last = λ v. v.which in
    let was = ap (λ (v : TrafficView). v.traffic) c.self.view_is in
    running-out (ord (set_time c.args.at)) c.args.self.now t i.notified.told.items c.make_room_to_tell.new.notices.items c.make_room_to_tell.new.self _
    (ap W c.make_room_to_tell.ensures.same ∙ ap W c.take_due.ensures.others ∙ ap W c.make_room.ensures.same ∙ ap W c.begin.ensures)
    (rw c.make_room_to_tell.ensures.notices was)
    (asked-later c.args.self.now.traffic c.args.at (omega (arith, c.if-minutes.false, c.minutes.ensures.value, c.minutes-2.ensures.value, ap (λ (v : TrafficView). v.traffic.now) c.self.view_is)))

pub invariant_of-self-in_default-make_room_to_tell : goal.invariant_of-self-in_default-make_room_to_tell
invariant_of-self-in_default-make_room_to_tell g c =
    let i = c.self.inside in
    let k = c.self.invariant.kept in
    let t : TrafficState = record { time = i.time; store = i.plans; listing = i.regulations; queue = c.put_back.new.self } in
    let later : i.time ≤ c.args.at = omega (arith, c.if-minutes.false, c.minutes.ensures.value, c.minutes-2.ensures.value) in
    let hold = c.take_due.ensures.each k.covers in
    let due_is = c.changed.ensures ∙ ap (λ (v : UndoingView). v.changed) c.make_room_to_tell.ensures.same in
    let back = rw due_is at c.put_back.ensures.covers in
    let W : UndoingView → Bool = λ v. has_changed v.which in
    kept-with-nothing c.make_room_to_tell.new.self t i.notified.told.items
    (ap W c.make_room_to_tell.ensures.same ∙ ap W c.take_due.ensures.others ∙ ap W c.make_room.ensures.same ∙ ap W c.begin.ensures)
    record {
      desk_time = k.desk_time;
      limit = k.limit;
      few = k.few;
      room = k.room;
      most = k.most;
      each = k.each;
      listed = k.listed;
      settled_in = k.settled_in;
      covers = back i.time c.args.at hold (c.take_due.ensures.covers later k.covers);
      quiet = k.quiet;
    }

pub tell-requires-clause-rising : goal.tell-requires-clause-rising
tell-requires-clause-rising g c =
    let changed = ap (λ (v : UndoingView). v.changed) c.make_room_to_tell.ensures.same in
    rw changed (rises-on c.take_due.new.self.changed c.take_due.ensures.rising)

pub tell-requires-clause-numbers : goal.tell-requires-clause-numbers
tell-requires-clause-numbers g c =
    let changed = ap (λ (v : UndoingView). v.changed) c.make_room_to_tell.ensures.same in
    rw changed (became-within _ _ _ _ c.take_due.ensures.became)

pub tell-requires-clause-quiet : goal.tell-requires-clause-quiet
tell-requires-clause-quiet g c =
    let i = c.self.inside in
    let taxi : ℕ = i.plans.taxi in
    let plans : List PlanView = i.plans.plans in
    let due : List ℕ = c.take_due.new.self.changed in
    let later : i.time ≤ c.args.at = omega (arith, c.if-minutes.false, c.minutes.ensures.value, c.minutes-2.ensures.value) in
    let hold = c.take_due.ensures.each c.self.invariant.kept.covers in
    let changed : c.make_room_to_tell.new.self.changed ≡ due = ap (λ (v : UndoingView). v.changed) c.make_room_to_tell.ensures.same in
    let due_is : c.changed-2.result.now ≡ due = c.changed-2.ensures ∙ changed in
    let moves = rw due_is at c.advance_due.ensures.renewed in
    let renewed = moves taxi i.time c.args.at plans later (became-due i.time c.args.at plans due c.take_due.ensures.became) hold c.self.invariant.kept.listed c.self.invariant.kept.settled_in in
    let others = rw due_is at c.advance_due.ensures.others in
    rw changed
    (quiet-but-due taxi due (map regulation_of i.regulations.lists) (map regulation_of c.advance_due.new.self.lists) plans i.notified.told.items
    (λ f apart. kept-slots-settled f taxi c.args.at plans i.regulations.lists c.advance_due.new.self.lists renewed.regulations (others f apart))
    c.self.invariant.kept.quiet)

pub invariant_of-self-2 : goal.invariant_of-self-2
invariant_of-self-2 g c =
    let i = c.self.inside in
    let s : TrafficState = record { time = i.time; store = i.plans; listing = i.regulations; queue = i.queue } in
    let t : TrafficState = record { time = c.args.at; store = i.plans; listing = c.advance_due.new.self; queue = c.take_due.new.queue } in
    let taxi : ℕ = i.plans.taxi in
    let plans : List PlanView = i.plans.plans in
    let due : List ℕ = c.take_due.new.self.changed in
    let later : i.time ≤ c.args.at = omega (arith, c.if-minutes.false, c.minutes.ensures.value, c.minutes-2.ensures.value) in
    let hold = c.take_due.ensures.each c.self.invariant.kept.covers in
    let changed : c.make_room_to_tell.new.self.changed ≡ due = ap (λ (v : UndoingView). v.changed) c.make_room_to_tell.ensures.same in
    let due_is : c.changed-2.result.now ≡ due = c.changed-2.ensures ∙ changed in
    let moves = rw due_is at c.advance_due.ensures.renewed in
    let renewed = moves taxi i.time c.args.at plans later (became-due i.time c.args.at plans due c.take_due.ensures.became) hold c.self.invariant.kept.listed c.self.invariant.kept.settled_in in
    let u : UndoingView = record c.tell.new.self { which = reading.Time i.time } in
    let p : TrafficState = state_past (reading.Time i.time) u t in
    let told : List (Option Told) = c.tell.new.notified.told.items in
    let same : c.tell.new.self.changed ≡ c.make_room_to_tell.new.self.changed = ap (λ (v : UndoingView). v.changed) c.tell.ensures.others in
    let all_due : c.tell.new.self.changed ≡ due = same ∙ changed in
    let became : HaveBecomeDue taxi t.listing.max_plans i.time c.args.at plans due i.regulations.lists = record {
      rising = c.take_due.ensures.rising;
      became = c.take_due.ensures.became;
      listed = rw c.advance_due.ensures.limit c.self.invariant.kept.listed;
      settled_in = c.self.invariant.kept.settled_in;
    } in
    let fixed : t.listing.lists ≡ map (with_fixed_waiting due) i.regulations.lists = rw due_is at c.advance_due.ensures.lists in
    let lists_were : p.listing.lists ≡ i.regulations.lists = waits-again taxi t.listing.max_plans i.time c.args.at plans c.tell.new.self.changed i.regulations.lists t.listing.lists (rw all_due became) (rw all_due fixed) in
    let again : IsAgain p s = record { time = refl; plans = refl; taxi = refl; most = refl; lists = sym lists_were; limit = sym c.advance_due.ensures.limit; covers = c.self.invariant.kept.covers } in
    let told_were : told_past u p told ≡ i.notified.told.items = told-back u p told i.notified.told.items plans refl (rw same c.tell.ensures.again) c.self.invariant.kept.each in
    let within = became-within _ _ _ _ c.take_due.ensures.became in
    let P : UndoingView → Type 0 = λ v. IsKeptWith v t told in
    subst P (sym c.finish-2.ensures) (record {
      kept = record {
        desk_time = c.requires;
        limit = c.advance_due.ensures.limit ∙ c.self.invariant.kept.limit;
        few = omega (arith, c.self.invariant.kept.few, renewed-count _ _ _ _ _ _ renewed);
        room = c.self.invariant.kept.room;
        most = c.self.invariant.kept.most;
        each = c.tell.ensures.each;
        listed = rw (sym c.advance_due.ensures.limit) at renewed.listed;
        settled_in = renewed.settled_in;
        covers = c.take_due.ensures.covers later c.self.invariant.kept.covers;
        quiet = c.tell.ensures.quiet;
      };
      can = can-go-back i.time u t i.regulations.lists (rw all_due became) (rw all_due fixed) (rw all_due hold) (c.take_due.ensures.covers later c.self.invariant.kept.covers) (rw all_due c.take_due.ensures.fits);
      was = λ yes. was-kept u t p s told i.notified.told.items again told_were c.self.invariant.kept (rw same c.tell.ensures.count) (rw (all_due, c.tell.ensures.each) within)
          (same-noted u plans i.notified.told.items (rw all_due c.take_due.ensures.rising) c.self.invariant.kept.each (rw same c.tell.ensures.were));
    })

pub returns : goal.returns
returns g c =
    let i = c.self.inside in
    let s : TrafficState = record { time = i.time; store = i.plans; listing = i.regulations; queue = i.queue } in
    let t : TrafficState = record { time = c.args.at; store = i.plans; listing = c.advance_due.new.self; queue = c.take_due.new.queue } in
    let taxi : ℕ = i.plans.taxi in
    let plans : List PlanView = i.plans.plans in
    let due : List ℕ = c.take_due.new.self.changed in
    let later : i.time ≤ c.args.at = omega (arith, c.if-minutes.false, c.minutes.ensures.value, c.minutes-2.ensures.value) in
    let hold = c.take_due.ensures.each c.self.invariant.kept.covers in
    let changed : c.make_room_to_tell.new.self.changed ≡ due = ap (λ (v : UndoingView). v.changed) c.make_room_to_tell.ensures.same in
    let due_is : c.changed-2.result.now ≡ due = c.changed-2.ensures ∙ changed in
    let moves = rw due_is at c.advance_due.ensures.renewed in
    let renewed = moves taxi i.time c.args.at plans later (became-due i.time c.args.at plans due c.take_due.ensures.became) hold c.self.invariant.kept.listed c.self.invariant.kept.settled_in in
    let u : UndoingView = record c.tell.new.self { which = reading.Time i.time } in
    let p : TrafficState = state_past (reading.Time i.time) u t in
    let told : List (Option Told) = c.tell.new.notified.told.items in
    let same : c.tell.new.self.changed ≡ c.make_room_to_tell.new.self.changed = ap (λ (v : UndoingView). v.changed) c.tell.ensures.others in
    let all_due : c.tell.new.self.changed ≡ due = same ∙ changed in
    let became : HaveBecomeDue taxi t.listing.max_plans i.time c.args.at plans due i.regulations.lists = record {
      rising = c.take_due.ensures.rising;
      became = c.take_due.ensures.became;
      listed = rw c.advance_due.ensures.limit c.self.invariant.kept.listed;
      settled_in = c.self.invariant.kept.settled_in;
    } in
    let fixed : t.listing.lists ≡ map (with_fixed_waiting due) i.regulations.lists = rw due_is at c.advance_due.ensures.lists in
    let lists_were : p.listing.lists ≡ i.regulations.lists = waits-again taxi t.listing.max_plans i.time c.args.at plans c.tell.new.self.changed i.regulations.lists t.listing.lists (rw all_due became) (rw all_due fixed) in
    let again : IsAgain p s = record { time = refl; plans = refl; taxi = refl; most = refl; lists = sym lists_were; limit = sym c.advance_due.ensures.limit; covers = c.self.invariant.kept.covers } in
    let told_were : told_past u p told ≡ i.notified.told.items = told-back u p told i.notified.told.items plans refl (rw same c.tell.ensures.again) c.self.invariant.kept.each in
    let issued : c.tell.new.self.issued ≡ length i.notified.notices.items = ap (λ (v : UndoingView). v.issued) c.tell.ensures.others ∙ ap length c.make_room_to_tell.ensures.notices in
    let more = rw c.make_room_to_tell.ensures.notices at c.tell.ensures.notices in
    let taken = notices-before i.notified.notices.items c.tell.new.notified.notices.items _ c.tell.new.self.issued more issued in
    let was = ap (λ (v : TrafficView). v.traffic) c.self.view_is in
    let old : Traffic = traffic_of s i.notified.told.items i.notified.notices.items in
    let P : UndoingView → Type 0 = λ v. undone_traffic v.which v t told c.tell.new.notified.notices.items ≡ Some c.args.self.now.traffic in
    accepting (ord (set_time c.args.at)) c.args.self.now s i.notified.told.items i.notified.notices.items t told c.tell.new.notified.notices.items _ c.finish-2.new.self c.accepted.result
    was c.self.invariant.kept.settled_in
    (rw (c.accepted.ensures, sym was)
    (order-answers s c.args.at c.advance_due.new.self.lists i.notified.told.items told i.notified.notices.items c.tell.new.notified.notices.items (set_time c.args.at) kind.Time old.regulations
    (time-asked old c.args.at (le-ltb _ _ later)) renewed.regulations
    c.self.invariant.kept.each c.tell.ensures.told more))
    (subst P (sym c.finish-2.ensures) (ap Some (traffic-before u p s told i.notified.told.items c.tell.new.notified.notices.items i.notified.notices.items again told_were taken ∙ was)))
    more
    (omega (
      arith,
      c.self.invariant.kept.room,
      c.self.invariant.kept.most,
      c.tell.ensures.few,
      ap (λ (ns : List Notice). length ns) c.make_room_to_tell.ensures.notices,
      few-rising _ _ c.take_due.ensures.rising (became-within _ _ _ _ c.take_due.ensures.became),
      ap (λ (ns : List ℕ). length ns) changed,
    ))
