use Rattle.std.proofs.Common.{◌≡◌, sym, ap, ◌∙◌}
use Rattle.std.proofs.lemmas.Bool.{eqb-true}
use Rattle.flow_slots.proofs.Same.{row-same, lineup-same}
use Rattle.flow_slots.proofs.slot_list.SlotList.same.Goals.{then-max_plans, else-max_plans}
use Rattle.flow_slots.proofs.slot_list.SlotList.same.Goals as goal

pub returns-then-is : goal.returns-then-is
returns-then-is g c =
    let s = c.self.inside in
    let o = c.other.inside in
    let mine = ap (λ v. v.lineup) c.self.view_is in
    let theirs = ap (λ v. v.lineup) c.other.view_is in
    elim c.if-max_plans.branch [
      | then-max_plans w ↦
          let shapes = w.is.ensures.0 (sym w.value-is ∙ c.if-is.true) in
          let periods : c.args.self.now.lineup.period ≡ c.args.other.now.lineup.period = sym w.shape.ensures ∙ (shapes ∙ w.shape-then-max_plans.ensures) in
          let p : s.first_slots ≡ o.first_slots = ap (λ v. v.period) mine ∙ (periods ∙ sym (ap (λ v. v.period) theirs)) in
          let capacities : c.args.self.now.lineup.capacity ≡ c.args.other.now.lineup.capacity = sym c.max_plans.ensures.value ∙ (w.if-max_plans.true ∙ c.max_plans-2.ensures.value) in
          let n : s.capacity ≡ o.capacity = ap (λ v. v.capacity) mine ∙ (capacities ∙ sym (ap (λ v. v.capacity) theirs)) in (
            (λ t. sym mine ∙ (lineup-same s.first_slots o.first_slots s.capacity o.capacity s.cells.row o.cells.row p n (c.same.ensures.0 t) ∙ theirs)),
            (λ e. c.same.ensures.1 (row-same s.first_slots o.first_slots s.capacity o.capacity s.cells.row o.cells.row s.places.items o.places.items c.self.invariant.kept c.other.invariant.kept (mine ∙ (e ∙ sym theirs)))),
          )
      | else-max_plans w ↦ absurd (w.if-max_plans.false (eqb-true c.max_plans.result c.max_plans-2.result (sym w.value-is ∙ c.if-is.true)))
    ]
