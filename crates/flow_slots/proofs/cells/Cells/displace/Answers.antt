use Rattle.std.proofs.Common.{◌≡◌, ◌++◌, length, map, take, drop, sym, ap, subst, ◌∙◌, arith}
use Rattle.std.proofs.lemmas.List.{with_items_is}
use Rattle.std.specs.Vec.{with_items}
use Rattle.flow_slots.specs.Changed.{gained}
use Rattle.flow_slots.specs.PackedCell.{from_start, planned_in}
use Rattle.flow_slots.specs.Row.{IsTied}
use Rattle.flow_slots.specs.Walk.{displace, has_empty, AllFollow}
use Rattle.flow_slots.proofs.Lifted.{IsTied-made, IsTied-lifted, AllFollow-made, has_empty-made, displaced-lifted, gained-lifted}
use Rattle.flow_slots.proofs.Started.{started, length-started}
use Rattle.flow_slots.proofs.Steps.{has_empty-within}
use Rattle.flow_slots.proofs.cells.Cells.displace.Goals as goal

pub make_to-requires-clause-slot : goal.make_to-requires-clause-slot
make_to-requires-clause-slot g c =
    let s = c.self.inside in
    let slots : length c.args.self.now.row ≡ s.len = ap (λ v. length v.row) (sym c.self.view_is) ∙ length-started s.start s.row.items s.len c.self.invariant.made in
    omega (arith, slots, has_empty-within c.args.self.now.row c.args.from c.requires.room)

pub displace_in-written-requires-clause-order : goal.displace_in-written-requires-clause-order
displace_in-written-requires-clause-order g c =
    let s = c.self.inside in
    let made = c.make_to.new.row.items in
    let row : started s.start made s.len ≡ c.args.self.now.row = ap (map (from_start s.start)) c.make_to.ensures.same ∙ ap (λ v. v.row) c.self.view_is in
    rw c.deref_mut.ensures.value (AllFollow-made s.start made s.len c.args.from (subst (λ v. AllFollow (drop c.args.from v)) (sym row) c.requires.order))

pub displace_in-written-requires-clause-room : goal.displace_in-written-requires-clause-room
displace_in-written-requires-clause-room g c =
    let s = c.self.inside in
    let made = c.make_to.new.row.items in
    let row : started s.start made s.len ≡ c.args.self.now.row = ap (map (from_start s.start)) c.make_to.ensures.same ∙ ap (λ v. v.row) c.self.view_is in
    rw c.deref_mut.ensures.value (has_empty-made s.start made s.len c.args.from c.make_to.ensures.ends (ap (λ v. has_empty (drop c.args.from v)) row ∙ c.requires.room))

pub displace_in-written-requires-clause-tied : goal.displace_in-written-requires-clause-tied
displace_in-written-requires-clause-tied g c =
    let s = c.self.inside in
    let made = c.make_to.new.row.items in
    let row : started s.start made s.len ≡ c.args.self.now.row = ap (map (from_start s.start)) c.make_to.ensures.same ∙ ap (λ v. v.row) c.self.view_is in
    rw (c.deref_mut.ensures.value, c.deref_mut-2.ensures.value) (IsTied-made c.args.places.now.items s.start made s.len (subst (IsTied c.args.places.now.items) (sym row) c.requires.tied))

pub returns-clause-tied : goal.returns-clause-tied
returns-clause-tied g c =
    let s = c.self.inside in
    let made = c.make_to.new.row.items in
    let row : started s.start made s.len ≡ c.args.self.now.row = ap (map (from_start s.start)) c.make_to.ensures.same ∙ ap (λ v. v.row) c.self.view_is in
    let new = c.displace_in-written.new.cells in
    let same : length new ≡ length made = c.displace_in-written.auto.cells ∙ ap length c.deref_mut.ensures.value in
    let is = with_items_is c.make_to.new.row new (omega (arith, same, c.make_to.new.row.ok.0)) in
    let seats = c.displace_in-written.new.places in
    let put = with_items_is c.args.places.now seats (omega (arith, c.displace_in-written.auto.places, ap length c.deref_mut-2.ensures.value, c.args.places.now.ok.0)) in
    rw (is, put) (IsTied-lifted seats s.start new s.len c.displace_in-written.ensures.tied)

pub returns-clause-row : goal.returns-clause-row
returns-clause-row g c =
    let s = c.self.inside in
    let made = c.make_to.new.row.items in
    let row : started s.start made s.len ≡ c.args.self.now.row = ap (map (from_start s.start)) c.make_to.ensures.same ∙ ap (λ v. v.row) c.self.view_is in
    let new = c.displace_in-written.new.cells in
    let same : length new ≡ length made = c.displace_in-written.auto.cells ∙ ap length c.deref_mut.ensures.value in
    let is = with_items_is c.make_to.new.row new (omega (arith, same, c.make_to.new.row.ok.0)) in
    let from = c.args.from in
    let room = has_empty-made s.start made s.len from c.make_to.ensures.ends (ap (λ v. has_empty (drop from v)) row ∙ c.requires.room) in
    let put = rw c.deref_mut.ensures.value at c.displace_in-written.ensures.cells in
    let lifted = displaced-lifted s.start made new s.len from (planned_in c.waiting-coming.result) c.args.flight room c.waiting-coming.ensures.value same put in
    ap (λ v. started s.start v s.len) is ∙ (lifted ∙ ap (λ v. take from v ++ displace c.args.flight (drop from v)) row)

pub returns-clause-writes : goal.returns-clause-writes
returns-clause-writes g c =
    let s = c.self.inside in
    let made = c.make_to.new.row.items in
    let row : started s.start made s.len ≡ c.args.self.now.row = ap (map (from_start s.start)) c.make_to.ensures.same ∙ ap (λ v. v.row) c.self.view_is in
    let new = c.displace_in-written.new.cells in
    let same : length new ≡ length made = c.displace_in-written.auto.cells ∙ ap length c.deref_mut.ensures.value in
    let is = with_items_is c.make_to.new.row new (omega (arith, same, c.make_to.new.row.ok.0)) in
    let written = rw c.deref_mut.ensures.value at c.displace_in-written.ensures.written in
    let more : gained c.args.self.now.row (started s.start (with_items c.make_to.new.row new).items s.len) ≡ c.displace_in-written.result =
    ap (λ v. gained v (started s.start (with_items c.make_to.new.row new).items s.len)) (sym row) ∙ (ap (λ v. gained (started s.start made s.len) (started s.start v s.len)) is ∙ (gained-lifted s.start made new s.len same ∙ sym written)) in
    omega (arith, more, ap (λ v. v.writes) c.self.view_is, c.saturating_add-self-inside.ensures)
