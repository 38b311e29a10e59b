use Rattle.std.proofs.Common.{◌≡◌, ℕ, ◌+◌, ◌-◌, ◌<◌, List, length, take, slice_get, Some, sym, ap, subst, ◌∙◌, arith}
use Rattle.std.proofs.lemmas.List.{take_all}
use Rattle.std.proofs.lemmas.Option.{slice_get-get_or}
use Rattle.flow_plans.specs.declared.outline.PlanIndexEntry.{PlanIndexEntry}
use Rattle.flow_plans.specs.Entries.{subject, entering_from, NoneEarlier}
use Rattle.flow_plans.proofs.Departures.{departs-at, outlined-next}
use Rattle.flow_plans.proofs.OutlineLemmas.{outlines-long}
use Rattle.flow_plans.proofs.Entered.{noted-on, earlier-on}
use Rattle.flow_plans.proofs.plan_list.note_departing.Goals as goal

pub loop-index-init : goal.loop-index-init
loop-index-init g c = record {
  noted = λ plans spot h told. c.requires.none;
  few = omega (arith, ap length c.requires.none);
  room = c.requires.room;
  none = λ plans h. subst (NoneEarlier _ plans) (sym c.requires.none) tt;
}

pub loop-index-preserved : goal.loop-index-preserved
loop-index-preserved g c =
    let os : List PlanIndexEntry = c.args.outlines.now in
    let i : ℕ = c.loop-index.index in
    let o : PlanIndexEntry = c.index-outlines-index.result in
    let inv = c.loop-index.invariant in
    let inside : i < length os = c.loop-index-test.true in
    let at : slice_get os i ≡ Some o = slice_get-get_or os i o inside ∙ ap (λ x. Some x) (sym c.index-outlines-index.is) in
    let before : i ≡ i + 1 - 1 = omega arith in
    let after : i + 1 + 1 - 1 ≡ i + 1 = omega arith in
    let step = c.note_flight-first in
    record {
      noted = λ plans spot h told.
          (let entry = subject c.args.taxi spot c.args.start c.args.end in
          noted-on entry (i + 1) plans c.departure-entry.result c.loop-index.coming.items _ (omega arith) (omega (arith, inside, outlines-long os plans h))
          (outlined-next os plans i o (λ p. c.departure-entry.result ≡ entry p) h at (λ p r. departs-at o p c.args.taxi c.args.start c.args.end c.args.letters c.departure-entry.result r c.departure-entry.ensures spot told))
          (inv.noted plans spot h told ∙ ap (λ k. entering_from 1 entry (take k plans)) before) step.ensures.items
          ∙ ap (λ k. entering_from 1 entry (take k plans)) after);
      few = omega (arith, inv.few, step.ensures.few);
      room = omega (arith, inv.room, step.ensures.capacity);
      none = λ plans h.
          earlier-on (i + 1) step.result c.loop-index.first c.minutes-off_block.result plans c.departure-entry.result c.loop-index.coming.items _ (omega arith) (omega (arith, inside, outlines-long os plans h))
          (outlined-next os plans i o (λ p. c.minutes-off_block.result ≡ p.off_block) h at (λ p r. c.minutes-off_block.ensures.value ∙ (c.off_block.ensures ∙ r.off_block)))
          step.ensures.first step.ensures.own (inv.none plans h) step.ensures.items;
    }

pub returns-clause-coming : goal.returns-clause-coming
returns-clause-coming g c = λ plans spot h told.
    c.loop-index.invariant.noted plans spot h told
    ∙ ap (entering_from 1 (subject c.args.taxi spot c.args.start c.args.end)) (take_all c.loop-index.index plans (omega (arith, c.loop-index-test.false, outlines-long c.args.outlines.now plans h)))
