use Rattle.std.proofs.Common.{◌≡◌, ℕ, ◌+◌, ◌<◌, List, true, heap_items, sym, ap, subst, arith, eqb}
use Rattle.std.specs.List.{All, Contains, dedup}
use Rattle.std.specs.List.Sorted.{IsStrictlyIncreasing}
use Rattle.std.specs.declared.cmp.Reverse.{Reverse}
use Rattle.std.proofs.lemmas.List.Filters.{dedup_is, All-dedup}
use Rattle.std.proofs.lemmas.List.Kept.{Contains-dedup_nat}
use Rattle.std.proofs.lemmas.List.Sorted.{All-permutation, Contains-permutation}
use Rattle.std.proofs.lemmas.Map.Keys.{IsStrictlyIncreasing-dedup}
use Rattle.flow_slots.specs.Assignment.{is_in}
use Rattle.flow_regulations.specs.declared.due_queue.PendingFlight.{PendingFlight}
use Rattle.flow_regulations.specs.Awaiting.{BecameDue}
use Rattle.flow_regulations.proofs.Queues.{from-view, to-view, contains-in, due-there, became-awaits, awaits-is}
use Rattle.flow_regulations.proofs.due_queue.DueQueue.take_due.Goals as goal

pub returns-clause-became : goal.returns-clause-became
returns-clause-became g c =
    let P : ℕ → Type 0 = BecameDue c.args.earlier c.args.now c.args.plans.now.plans in
    let A : List ℕ → Type 0 = λ ns. All P ns in
    let is = dedup_is eqb c.sort_unstable.new.self.items c.dedup.new.self.items c.dedup.ensures.filtered in
    subst A (sym is) (All-dedup eqb P c.sort_unstable.new.self.items (All-permutation P c.take_from.new.due.items c.sort_unstable.new.self.items c.sort_unstable.ensures.permutation c.take_from.ensures.became))

pub returns-clause-rising : goal.returns-clause-rising
returns-clause-rising g c =
    let R : List ℕ → Type 0 = λ ns. IsStrictlyIncreasing ns in
    let is = dedup_is eqb c.sort_unstable.new.self.items c.dedup.new.self.items c.dedup.ensures.filtered in
    subst R (sym is) (IsStrictlyIncreasing-dedup c.sort_unstable.new.self.items c.sort_unstable.ensures.sorted)

pub returns-clause-each : goal.returns-clause-each
returns-clause-each g c = λ covers number some now_due then_not.
    (let plans = c.args.plans.now.plans in
    let p = due-there c.args.now number plans now_due in
    let h = became-awaits c.args.earlier c.args.now number plans p.0 p.1 now_due then_not in
    let x : Reverse PendingFlight = record { 0 = record { off_block = p.0.off_block; number = number } } in
    let V : List PendingFlight → Type 0 = λ xs. Contains xs x.0 in
    let held = from-view (heap_items c.self.inside.heap) x.0 (subst V (ap (λ v. v.flights) (sym c.self.view_is)) (covers number p.0 some p.1 h.0 h.2)) in
    let taken = c.take_from.ensures.taken x held h.1 (awaits-is c.args.earlier number plans p.0 p.1 h.0 h.2) in
    let sorted = Contains-permutation c.take_from.new.due.items c.sort_unstable.new.self.items number c.sort_unstable.ensures.permutation taken in
    let I : List ℕ → Type 0 = λ ns. is_in number ns ≡ true in
    let is = dedup_is eqb c.sort_unstable.new.self.items c.dedup.new.self.items c.dedup.ensures.filtered in
    subst I (sym is) (contains-in (dedup eqb c.sort_unstable.new.self.items) number (Contains-dedup_nat c.sort_unstable.new.self.items number sorted)))

pub returns-clause-covers : goal.returns-clause-covers
returns-clause-covers g c = λ later covers number p some at filed late.
    (let x : Reverse PendingFlight = record { 0 = record { off_block = p.off_block; number = number } } in
    let V : List PendingFlight → Type 0 = λ xs. Contains xs x.0 in
    let then : c.args.earlier + 120 < p.off_block = omega (arith, later, late) in
    let held = from-view (heap_items c.self.inside.heap) x.0 (subst V (ap (λ v. v.flights) (sym c.self.view_is)) (covers number p some at filed then)) in
    to-view (heap_items c.take_from.new.heap) x (c.take_from.ensures.remaining x held late))
