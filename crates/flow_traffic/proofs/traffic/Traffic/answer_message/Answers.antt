use Rattle.std.proofs.Common.{◌≡◌, ◌≤◌, ◌<◌, ◌+◌, ◌∙◌, ◌∷◌, [], ℕ, List, map, length, refl, sym, ap, subst, arith, Option, Some}
use Rattle.fpl_message.specs.Said.{said_message}
use Rattle.fpl_message.specs.Reads.{msg}
use Rattle.flow_plans.specs.Stores.{PlanStoreView}
use Rattle.flow_regulations.specs.Listing.{regulation_of}
use Rattle.flow_regulations.specs.Awaiting.{Covers}
use Rattle.flow_regulations.specs.SlotStates.{ArePlaces}
use Rattle.flow_regulations.specs.declared.notice.Told.{Told}
use Rattle.flow_regulations.specs.declared.notice.Notice.{Notice}
use Rattle.flow_regulations.proofs.ForTheDesk.{quiet-but-one}
use Rattle.flow_regulations.proofs.Queues.{covers-more}
use Rattle.flow_traffic.specs.declared.undo.Last.{Last}
use Rattle.flow_traffic.specs.declared.undo.Last.TheVariants as reading
use Rattle.flow_traffic.specs.Traffic.{Traffic, TrafficView}
use Rattle.flow_traffic.specs.Answers.{Answers}
use Rattle.flow_traffic.specs.State.{TrafficState, traffic_of}
use Rattle.flow_traffic.specs.Undoing.{UndoingView, state_past, told_past, undone_traffic, IsAgain, IsKeptWith}
use Rattle.flow_traffic.proofs.Telling.{told-others}
use Rattle.flow_traffic.proofs.Noted.{one-noted}
use Rattle.flow_traffic.proofs.TakenBack.{stands-again, plans-before, told-before, can-forget, was-kept, traffic-before, notices-before, one-within}
use Rattle.flow_traffic.proofs.Answered.{message-answers, fault-ok, settled-count}
use Rattle.flow_traffic.proofs.Answering.{accepting}
use Rattle.flow_traffic.proofs.FrozenStay.{frozen-settled}
use Rattle.flow_traffic.proofs.traffic.Traffic.answer_message.Goals as goal

pub returns-in-Err : goal.returns-in-Err
returns-in-Err g c =
    let i = c.self.inside in
    let s : TrafficState = record { time = i.time; store = i.plans; listing = i.regulations; queue = i.queue } in
    let t : TrafficState = record { time = i.time; store = c.change_plans.new.plans; listing = i.regulations; queue = c.make_room.new.queue } in
    let told : List (Option Told) = c.make_room.new.notified.told.items in
    let notices : List Notice = c.make_room.new.notified.notices.items in
    let new : Traffic = traffic_of t told notices in
    let old : Traffic = traffic_of s i.notified.told.items i.notified.notices.items in
    let was = ap (λ (v : TrafficView). v.traffic) c.self.view_is in
    let same : new ≡ old = rw (c.change_plans.ensures.taxi, c.change_plans.ensures.limit, c.in-Err.ensures.err, c.make_room.ensures.told, c.make_room.ensures.notices) refl in
    let answers : Answers (msg (said_message c.args.message.now)) c.args.self.now.traffic new c.in_ok-verdict-in-Err.verdict =
    rw (sym was)
    (fault-ok old new (said_message c.args.message.now) c.in-Err.fault c.refused.result c.in_ok-verdict-in-Err.verdict
    same c.in_ok-verdict-in-Err.was c.refused.ensures c.in-Err.ensures.refused) in
    let count : length notices ≡ length c.args.self.now.traffic.notices = ap (λ (v : Traffic). length v.notices) (same ∙ was) in
    let W : Last → Option Traffic = λ w. undone_traffic w c.finish.new.self t told notices in
    record {
      answers = answers;
      frozen = frozen-settled (msg (said_message c.args.message.now)) s i.notified.told.items i.notified.notices.items c.args.self.now.traffic new c.in_ok-verdict-in-Err.verdict was c.self.invariant.kept.settled_in answers;
      before = ap W (ap (λ (v : UndoingView). v.which) c.finish.ensures) ∙ ap Some (same ∙ was);
      err = tt;
      memory = tt;
      grow = omega (arith, count);
      few = omega (arith, count);
    }

pub tell-requires-clause-quiet : goal.tell-requires-clause-quiet
tell-requires-clause-quiet g c =
    let i = c.self.inside in
    let s : TrafficState = record { time = i.time; store = i.plans; listing = i.regulations; queue = i.queue } in
    let n : ℕ = c.in-Ok-change_plans.number in
    let store : PlanStoreView = c.change_plans.new.plans in
    let settled = c.settle_for.ensures.settled s refl (sym c.change_plans.ensures.taxi) refl c.self.invariant.kept.listed c.self.invariant.kept.settled_in c.in-Ok-change_plans.ensures.same in
    let place = rw c.make_room.ensures.told at (c.make_place.ensures.told store.plans (sym c.count-count.ensures.count)) in
    let each : length i.notified.told.items ≡ length i.plans.plans = c.self.invariant.kept.each in
    let one : length i.notified.told.items ≤ length store.plans = omega (arith, each, c.change_plans.ensures.one) in
    let more : length store.plans ≤ length i.notified.told.items + 1 = omega (arith, each, c.change_plans.ensures.more) in
    let last : length i.notified.told.items < length store.plans → n ≡ length store.plans = λ h. c.in-Ok-change_plans.ensures.last (omega (arith, each, h)) in
    let quiet = rw (sym c.change_plans.ensures.taxi) at c.self.invariant.kept.quiet in
    rw c.note.ensures.changed
    (quiet-but-one n store.taxi (map regulation_of i.regulations.lists) (map regulation_of c.settle_for.new.regulations.lists)
    i.plans.plans store.plans i.notified.told.items c.make_place.new.told.items c.in-Ok-change_plans.ensures.same
    (λ f some ne. told-others store.plans i.notified.told.items c.make_place.new.told.items n f place one more last some ne)
    (λ f some ne. settled.others f ne)
    quiet)

pub invariant_of-self-2 : goal.invariant_of-self-2
invariant_of-self-2 g c =
    let i = c.self.inside in
    let s : TrafficState = record { time = i.time; store = i.plans; listing = i.regulations; queue = i.queue } in
    let t : TrafficState = record { time = i.time; store = c.change_plans.new.plans; listing = c.settle_for.new.regulations; queue = c.note_flight.new.queue } in
    let n : ℕ = c.in-Ok-change_plans.number in
    let store : PlanStoreView = c.change_plans.new.plans in
    let settled = c.settle_for.ensures.settled s refl (sym c.change_plans.ensures.taxi) refl c.self.invariant.kept.listed c.self.invariant.kept.settled_in c.in-Ok-change_plans.ensures.same in
    let place = rw c.make_room.ensures.told at (c.make_place.ensures.told store.plans (sym c.count-count.ensures.count)) in
    let u : UndoingView = record c.tell.new.self { which = reading.Message n } in
    let p : TrafficState = state_past (reading.Message n) u t in
    let told : List (Option Told) = c.tell.new.notified.told.items in
    let same : c.tell.new.self.changed ≡ c.note.new.self.changed = ap (λ (v : UndoingView). v.changed) c.tell.ensures.others in
    let places : c.tell.new.self.places ≡ c.note.new.self.places = ap (λ (v : UndoingView). v.places) c.tell.ensures.others in
    let stand : ArePlaces n c.tell.new.self.places i.regulations.lists = rw places c.note.ensures.places in
    let plans_were : p.store.plans ≡ i.plans.plans = plans-before store i.plans.plans c.in-Ok-change_plans.ensures.before in
    let lists_were : p.listing.lists ≡ i.regulations.lists = stands-again n c.tell.new.self.places t.listing.lists i.regulations.lists stand c.settle_for.ensures.alone in
    let again : IsAgain p s = record {
      time = refl;
      plans = sym plans_were;
      taxi = sym c.change_plans.ensures.taxi;
      most = sym c.change_plans.ensures.limit;
      lists = sym lists_were;
      limit = sym c.settle_for.ensures.limit;
      covers = c.self.invariant.kept.covers;
    } in
    let told_were : told_past u p told ≡ i.notified.told.items =
    told-before u p told c.make_place.new.told.items i.notified.told.items store.plans i.plans.plans plans_were (rw same c.tell.ensures.again) place c.self.invariant.kept.each c.change_plans.ensures.one c.change_plans.ensures.more in
    let one : c.tell.new.self.changed ≡ n ∷ [] = same ∙ c.note.ensures.changed in
    let few : length i.notified.told.items ≤ length store.plans = omega (arith, c.self.invariant.kept.each, c.change_plans.ensures.one) in
    let count = settled-count _ _ _ _ _ settled in
    let within : n ≤ t.listing.max_plans = omega (arith, c.in-Ok-change_plans.ensures.within, c.count-count.ensures.count, c.count-count.ensures.limit, c.change_plans.ensures.limit, c.self.invariant.kept.limit, c.settle_for.ensures.limit) in
    let covers = rw (sym c.make_room.ensures.flights) at c.self.invariant.kept.covers in
    let covers_old : Covers i.time i.plans.plans t.queue.flights = covers-more i.time i.plans.plans c.make_room.new.queue.flights t.queue.flights c.note_flight.ensures.kept covers in
    let P : UndoingView → Type 0 = λ v. IsKeptWith v t told in
    subst P (sym c.finish-2.ensures) (record {
      kept = record {
        desk_time = c.self.invariant.kept.desk_time;
        limit = c.settle_for.ensures.limit ∙ c.self.invariant.kept.limit ∙ sym c.change_plans.ensures.limit;
        few = omega (arith, c.self.invariant.kept.few, count);
        room = omega (arith, c.count-count.ensures.count, c.count-count.ensures.limit);
        most = omega (arith, c.self.invariant.kept.most, c.change_plans.ensures.limit);
        each = c.tell.ensures.each;
        listed = rw (c.change_plans.ensures.taxi, c.settle_for.ensures.limit) settled.listed;
        settled_in = rw c.change_plans.ensures.taxi settled.settled_in;
        covers = c.note_flight.ensures.covers i.plans.plans c.in-Ok-change_plans.ensures.before c.in-Ok-change_plans.ensures.same covers;
        quiet = c.tell.ensures.quiet;
      };
      can = can-forget n u t i.plans.plans i.regulations.lists c.in-Ok-change_plans.ensures.some within c.in-Ok-change_plans.ensures.before stand c.settle_for.ensures.alone covers_old;
      was = λ yes. was-kept u t p s told i.notified.told.items again told_were c.self.invariant.kept (rw same c.tell.ensures.count)
          (one-within n (length told) c.tell.new.self.changed one c.in-Ok-change_plans.ensures.some (omega (arith, c.in-Ok-change_plans.ensures.within, c.tell.ensures.each)))
          (one-noted u n store.plans i.plans.plans i.notified.told.items c.make_place.new.told.items one c.in-Ok-change_plans.ensures.same place c.self.invariant.kept.each few (rw same c.tell.ensures.were));
    })

pub returns : goal.returns
returns g c =
    let i = c.self.inside in
    let s : TrafficState = record { time = i.time; store = i.plans; listing = i.regulations; queue = i.queue } in
    let t : TrafficState = record { time = i.time; store = c.change_plans.new.plans; listing = c.settle_for.new.regulations; queue = c.note_flight.new.queue } in
    let n : ℕ = c.in-Ok-change_plans.number in
    let store : PlanStoreView = c.change_plans.new.plans in
    let settled = c.settle_for.ensures.settled s refl (sym c.change_plans.ensures.taxi) refl c.self.invariant.kept.listed c.self.invariant.kept.settled_in c.in-Ok-change_plans.ensures.same in
    let place = rw c.make_room.ensures.told at (c.make_place.ensures.told store.plans (sym c.count-count.ensures.count)) in
    let u : UndoingView = record c.tell.new.self { which = reading.Message n } in
    let p : TrafficState = state_past (reading.Message n) u t in
    let told : List (Option Told) = c.tell.new.notified.told.items in
    let same : c.tell.new.self.changed ≡ c.note.new.self.changed = ap (λ (v : UndoingView). v.changed) c.tell.ensures.others in
    let places : c.tell.new.self.places ≡ c.note.new.self.places = ap (λ (v : UndoingView). v.places) c.tell.ensures.others in
    let stand : ArePlaces n c.tell.new.self.places i.regulations.lists = rw places c.note.ensures.places in
    let plans_were : p.store.plans ≡ i.plans.plans = plans-before store i.plans.plans c.in-Ok-change_plans.ensures.before in
    let lists_were : p.listing.lists ≡ i.regulations.lists = stands-again n c.tell.new.self.places t.listing.lists i.regulations.lists stand c.settle_for.ensures.alone in
    let again : IsAgain p s = record {
      time = refl;
      plans = sym plans_were;
      taxi = sym c.change_plans.ensures.taxi;
      most = sym c.change_plans.ensures.limit;
      lists = sym lists_were;
      limit = sym c.settle_for.ensures.limit;
      covers = c.self.invariant.kept.covers;
    } in
    let told_were : told_past u p told ≡ i.notified.told.items =
    told-before u p told c.make_place.new.told.items i.notified.told.items store.plans i.plans.plans plans_were (rw same c.tell.ensures.again) place c.self.invariant.kept.each c.change_plans.ensures.one c.change_plans.ensures.more in
    let issued : c.tell.new.self.issued ≡ length i.notified.notices.items = ap (λ (v : UndoingView). v.issued) c.tell.ensures.others ∙ ap length c.make_room.ensures.notices in
    let more = rw c.make_room.ensures.notices at c.tell.ensures.notices in
    let taken = notices-before i.notified.notices.items c.tell.new.notified.notices.items _ c.tell.new.self.issued more issued in
    let was = ap (λ (v : TrafficView). v.traffic) c.self.view_is in
    let P : UndoingView → Type 0 = λ v. undone_traffic v.which v t told c.tell.new.notified.notices.items ≡ Some c.args.self.now.traffic in
    accepting (msg (said_message c.args.message.now)) c.args.self.now s i.notified.told.items i.notified.notices.items t told c.tell.new.notified.notices.items _ c.finish-2.new.self c.verdict_on-verdict.result
    was c.self.invariant.kept.settled_in
    (rw (sym was)
    (message-answers s store c.settle_for.new.regulations.lists i.notified.told.items c.make_place.new.told.items told i.notified.notices.items c.tell.new.notified.notices.items
    (said_message c.args.message.now) n c.verdict_on-verdict.result c.is_departure-departs.result
    c.change_plans.ensures.taxi c.change_plans.ensures.limit c.self.invariant.kept.limit c.is_departure-departs.ensures
    c.in-Ok-change_plans.ensures.ok (rw (c.deref.ensures.value, c.make_room.ensures.told) at c.verdict_on-verdict.ensures) settled place
    c.tell.ensures.told more))
    (subst P (sym c.finish-2.ensures) (ap Some (traffic-before u p s told i.notified.told.items c.tell.new.notified.notices.items i.notified.notices.items again told_were taken ∙ was)))
    more
    (omega (arith, c.tell.ensures.few, ap (λ (ns : List Notice). length ns) c.make_room.ensures.notices, ap (λ (ns : List ℕ). length ns) c.note.ensures.changed))
