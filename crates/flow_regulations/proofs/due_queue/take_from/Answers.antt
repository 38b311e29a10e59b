use Rattle.std.proofs.Common.{◌≡◌, ℕ, ◌+◌, ◌<◌, ◌≤◌, [], ◌∷◌, List, true, heap_items, sym, subst, ◌∙◌, arith, ⊎_elim, true≢false}
use Rattle.std.specs.List.{All, Contains}
use Rattle.std.specs.declared.cmp.Reverse.{Reverse}
use Rattle.std.proofs.lemmas.List.Elements.{All-head, All-tail, All-push, Contains-push, Contains-append_left}
use Rattle.std.proofs.lemmas.List.Sorted.{All-permutation}
use Rattle.flow_regulations.specs.declared.due_queue.PendingFlight.{PendingFlight}
use Rattle.flow_regulations.specs.Awaiting.{awaits, BecameDue}
use Rattle.flow_regulations.proofs.Queues.{taken-step, became}
use Rattle.flow_regulations.proofs.due_queue.take_from.Goals as goal

abbrev numbered : Reverse PendingFlight → Type 0
numbered x = 0 < x.0.number

pub awaits-requires : goal.awaits-requires
awaits-requires g c =
    let x : Reverse PendingFlight = record { 0 = c.in-Some.flight } in
    All-head numbered x (heap_items c.pop_until.new.heap) (All-permutation numbered (heap_items c.loop-flight.heap) (x ∷ heap_items c.pop_until.new.heap) c.in-Some.ensures.first c.loop-flight.invariant.numbers)

pub loop-flight-preserved-then-awaits : goal.loop-flight-preserved-then-awaits
loop-flight-preserved-then-awaits g c =
    let x : Reverse PendingFlight = record { 0 = c.in-Some.flight } in
    let i = c.loop-flight.invariant in
    let plans = c.args.plans.now.plans in
    let rest = heap_items c.pop_until.new.heap in
    let all = All-permutation numbered (heap_items c.loop-flight.heap) (x ∷ rest) c.in-Some.ensures.first i.numbers in
    let due : List ℕ = c.loop-flight.due.items in
    let more : List ℕ = c.push_reserved.new.self.items in
    let within : c.in-Some.flight.off_block ≤ c.args.now + 120 = omega (arith, c.in-Some.ensures.within) in
    let does : awaits c.args.earlier plans c.in-Some.flight ≡ true = sym c.awaits.ensures ∙ c.if-awaits.true in
    let A : List ℕ → Type 0 = λ ns. All (BecameDue c.args.earlier c.args.now plans) ns in
    let C : ℕ → List ℕ → Type 0 = λ n ns. Contains ns n in
    record {
      order = c.in-Some.ensures.order;
      numbers = All-tail numbered x rest all;
      became = subst A (sym c.push_reserved.ensures.items) (All-push (BecameDue c.args.earlier c.args.now plans) due c.in-Some.flight.number i.became (became c.args.earlier c.args.now plans c.in-Some.flight (All-head numbered x rest all) within does));
      taken = taken-step _ c.args.earlier plans (heap_items c.args.heap.now) (heap_items c.loop-flight.heap) rest c.in-Some.flight due more i.taken c.in-Some.ensures.first c.in-Some.ensures.within
          (λ n q. subst (C n) (sym c.push_reserved.ensures.items) (Contains-append_left due (c.in-Some.flight.number ∷ []) n q))
          (λ _. subst (C c.in-Some.flight.number) (sym c.push_reserved.ensures.items) (Contains-push due c.in-Some.flight.number));
      fewer = omega (arith, c.in-Some.ensures.len);
      room = c.in-Some.ensures.capacity ∙ i.room;
      capacity = c.push_reserved.ensures.capacity ∙ i.capacity;
    }

pub loop-flight-preserved : goal.loop-flight-preserved
loop-flight-preserved g c =
    let x : Reverse PendingFlight = record { 0 = c.in-Some.flight } in
    let i = c.loop-flight.invariant in
    let plans = c.args.plans.now.plans in
    let rest = heap_items c.pop_until.new.heap in
    let all = All-permutation numbered (heap_items c.loop-flight.heap) (x ∷ rest) c.in-Some.ensures.first i.numbers in
    let due : List ℕ = c.loop-flight.due.items in
    record {
      order = c.in-Some.ensures.order;
      numbers = All-tail numbered x rest all;
      became = i.became;
      taken = taken-step _ c.args.earlier plans (heap_items c.args.heap.now) (heap_items c.loop-flight.heap) rest c.in-Some.flight due due i.taken c.in-Some.ensures.first c.in-Some.ensures.within
          (λ n q. q)
          (λ e. absurd (true≢false (sym e ∙ (sym c.awaits.ensures ∙ c.if-awaits.false))));
      fewer = omega (arith, c.in-Some.ensures.len);
      room = c.in-Some.ensures.capacity ∙ i.room;
      capacity = i.capacity;
    }

pub returns-clause-remaining : goal.returns-clause-remaining
returns-clause-remaining g c = λ x held late.
    (let C : List (Reverse PendingFlight) → Type 0 = λ xs. Contains xs x in
    ⊎_elim (λ (q : Contains (heap_items c.loop-flight.heap) x). subst C (sym c.in_default.ensures.same) q) (λ q. absurd (omega (arith, q.0, late)))
    (c.loop-flight.invariant.taken x held))
