use Rattle.std.proofs.Common.{◌≡◌, true, sym, ap, ◌∙◌, rules}
use Rattle.std.proofs.lemmas.Bool.{false≢true}
use Rattle.std.proofs.lemmas.Slice.Eq.{slice_eq-Decides}
use Rattle.flow_traffic.specs.Traffic.{TrafficView, Traffic}
use Rattle.flow_traffic.specs.Same.{standings, slot_lists, IsSame}
use Rattle.flow_traffic.proofs.Alike.{kept-lists, same-lists}
use Rattle.flow_traffic.proofs.traffic.Traffic.same.Goals.{then-eq, else-eq, then-eq-2, else-eq-2}
use Rattle.flow_traffic.proofs.traffic.Traffic.same.Goals as goal

pub returns-then-stand_alike : goal.returns-then-stand_alike
returns-then-stand_alike g c =
    let s = c.self.inside in
    let o = c.other.inside in
    let t : Traffic = c.args.self.now.traffic in
    let u : Traffic = c.args.other.now.traffic in
    let mine = ap (λ (v : TrafficView). v.traffic) c.self.view_is in
    let theirs = ap (λ (v : TrafficView). v.traffic) c.other.view_is in
    let listed = rw c.self.invariant.kept.limit at c.self.invariant.kept.listed in
    let listed' = rw c.other.invariant.kept.limit at c.other.invariant.kept.listed in
    let lists : s.regulations.lists ≡ slot_lists t = sym (kept-lists s.plans.taxi s.plans.max_plans s.plans.plans s.regulations.lists listed) ∙ ap slot_lists mine in
    let lists' : o.regulations.lists ≡ slot_lists u = sym (kept-lists o.plans.taxi o.plans.max_plans o.plans.plans o.regulations.lists listed') ∙ ap slot_lists theirs in
    let notices = slice_eq-Decides (λ a b. search rules) c.as_slice.result.now c.as_slice-2.result.now c.eq.result c.eq.ensures in
    elim c.if-eq-2.branch [
      | then-eq-2 w ↦ elim c.if-eq.branch [
        | then-eq v ↦
            let told = slice_eq-Decides (λ a b. search rules) v.as_slice-then-eq.result.now v.as_slice-then-eq-2.result.now v.eq-then-eq.result v.eq-then-eq.ensures in
            let same-notices : t.notices ≡ u.notices =
            sym (ap (λ (x : Traffic). x.notices) mine) ∙ (sym c.as_slice.ensures.value ∙ (notices.0 v.if-eq.true ∙ (c.as_slice-2.ensures.value ∙ ap (λ (x : Traffic). x.notices) theirs))) in
            let same-told : t.told ≡ u.told =
            sym (ap (λ (x : Traffic). x.told) mine) ∙ (sym v.as_slice-then-eq.ensures.value ∙ (told.0 (sym v.value-is ∙ w.if-eq-2.true) ∙ (v.as_slice-then-eq-2.ensures.value ∙ ap (λ (x : Traffic). x.told) theirs))) in
            let same-plans : standings t.plans ≡ standings u.plans =
            sym (ap (λ (x : Traffic). standings x.plans) mine) ∙ (w.stand_alike.ensures.0 (sym w.value-is ∙ c.if-stand_alike.true) ∙ ap (λ (x : Traffic). standings x.plans) theirs) in
            same-lists t u c.same.result same-notices same-told same-plans ((λ h. sym lists ∙ (c.same.ensures.0 h ∙ lists')), (λ e. c.same.ensures.1 (lists ∙ (e ∙ sym lists'))))
        | else-eq v ↦ absurd (false≢true (sym v.if-eq.false ∙ (sym v.value-is ∙ w.if-eq-2.true)))
      ]
      | else-eq-2 w ↦ absurd (false≢true (sym w.if-eq-2.false ∙ (sym w.value-is ∙ c.if-stand_alike.true)))
    ]

pub returns-else-stand_alike : goal.returns-else-stand_alike
returns-else-stand_alike g c =
    let t : Traffic = c.args.self.now.traffic in
    let u : Traffic = c.args.other.now.traffic in
    let mine = ap (λ (v : TrafficView). v.traffic) c.self.view_is in
    let theirs = ap (λ (v : TrafficView). v.traffic) c.other.view_is in
    let notices = slice_eq-Decides (λ a b. search rules) c.as_slice.result.now c.as_slice-2.result.now c.eq.result c.eq.ensures in
    let all : IsSame t u → c.if-eq-2.value ≡ true = λ same. (elim c.if-eq-2.branch [
      | then-eq-2 w ↦ w.value-is ∙ w.stand_alike.ensures.1 (ap (λ (x : Traffic). standings x.plans) mine ∙ (same.plans ∙ sym (ap (λ (x : Traffic). standings x.plans) theirs)))
      | else-eq-2 w ↦ elim c.if-eq.branch [
        | then-eq v ↦
            let told = slice_eq-Decides (λ a b. search rules) v.as_slice-then-eq.result.now v.as_slice-then-eq-2.result.now v.eq-then-eq.result v.eq-then-eq.ensures in
            let yes = told.1 (v.as_slice-then-eq.ensures.value ∙ (ap (λ (x : Traffic). x.told) mine ∙ (same.told ∙ (sym (ap (λ (x : Traffic). x.told) theirs) ∙ sym v.as_slice-then-eq-2.ensures.value)))) in
            absurd (false≢true (sym w.if-eq-2.false ∙ (v.value-is ∙ yes)))
        | else-eq v ↦
            let yes = notices.1 (c.as_slice.ensures.value ∙ (ap (λ (x : Traffic). x.notices) mine ∙ (same.notices ∙ (sym (ap (λ (x : Traffic). x.notices) theirs) ∙ sym c.as_slice-2.ensures.value)))) in
            absurd (false≢true (sym v.if-eq.false ∙ yes))
      ]
    ]) in
    ((λ h. absurd (false≢true (sym c.if-stand_alike.false ∙ h))), all)
