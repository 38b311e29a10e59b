use Rattle.std.proofs.Common.{take, sym, ◌∙◌, rules}
use Rattle.std.proofs.lemmas.Bool.{eqb-true, false≢true}
use Rattle.std.proofs.lemmas.Slice.Eq.{slice_eq-Decides}
use Rattle.flow_slots.proofs.Same.{period-same}
use Rattle.flow_slots.proofs.shape.Shape.is.Goals.{then-eq, else-eq, then-eq-2, else-eq-2}
use Rattle.flow_slots.proofs.shape.Shape.is.Goals as goal

pub returns-then-self-other : goal.returns-then-self-other
returns-then-self-other c =
    let s = c.self.inside in
    let o = c.other.inside in
    let parts = slice_eq-Decides (λ a b. search rules) (take s.count s.parts) (take o.count o.parts) c.eq-then-self-other.result c.eq-then-self-other.ensures in
    elim c.if-eq-2.branch [
      | then-eq-2 w ↦ elim c.if-eq.branch [
        | then-eq v ↦
            let start = eqb-true s.start o.start (sym c.eq.ensures ∙ v.if-eq.true) in
            let end = eqb-true s.end o.end (sym v.eq-then-eq.ensures ∙ (sym v.value-is ∙ w.if-eq-2.true)) in
            let rate = eqb-true s.rate o.rate (sym w.value-is ∙ c.if-self-other.true) in
            rw (← c.self.view_is, ← c.other.view_is) (period-same s.start s.end s.rate o.start o.end o.rate (take s.count s.parts) (take o.count o.parts) c.eq-then-self-other.result start end rate parts)
        | else-eq v ↦ absurd (false≢true (sym v.if-eq.false ∙ (sym v.value-is ∙ w.if-eq-2.true)))
      ]
      | else-eq-2 w ↦ absurd (false≢true (sym w.if-eq-2.false ∙ (sym w.value-is ∙ c.if-self-other.true)))
    ]
