use Rattle.std.proofs.Common.{◌≡◌, ℕ, ◌-◌, ◌<◌, ◌+◌, List, length, sym, ap, subst, ◌∙◌, arith}
use Rattle.fpl_message.specs.declared.order.Spot.TheVariants.{Dep}
use Rattle.flow_plans.specs.declared.outline.PlanIndexEntry.{PlanIndexEntry}
use Rattle.flow_plans.specs.Letters.{IsTold}
use Rattle.flow_plans.specs.Outlines.{AreOutlines}
use Rattle.flow_plans.specs.Plans.{PlanView}
use Rattle.flow_plans.specs.Entries.{subject, NoneEarlier}
use Rattle.flow_plans.proofs.OutlineLemmas.{outlines-long}
use Rattle.flow_plans.proofs.Entered.{noted-on, noted-pass, noted-all, earlier-on}
use Rattle.flow_plans.proofs.plan_list.PlanList.note_coming.Goals as goal

pub loop-number-init : goal.loop-number-init
loop-number-init g c = record {
  some = omega arith;
  within = omega arith;
  noted = c.requires.none;
  few = omega (arith, ap length c.requires.none);
  room = c.requires.room;
  none = subst (NoneEarlier _ c.args.self.now) (sym c.requires.none) tt;
}

pub loop-number-smaller : goal.loop-number-smaller
loop-number-smaller g c = omega (arith, c.in-Some.ensures.within.0, c.in-Some.ensures.within.1)

pub loop-number-preserved : goal.loop-number-preserved
loop-number-preserved g c =
    let plans : List PlanView = c.args.self.now in
    let from : ℕ = c.loop-number.from in
    let n : ℕ = c.in-Some.number in
    let inv = c.loop-number.invariant in
    let next = c.in-Some.ensures in
    let some : 0 < n = omega (arith, inv.some, next.within.0) in
    let step = c.note_flight-first in
    record {
      some = omega arith;
      within = omega (arith, next.within.1);
      noted = noted-on (subject c.args.taxi c.args.spot.now c.args.start c.args.end) n plans c.subject-entry.result c.loop-number.coming.items _ some next.within.1 c.subject-entry.ensures
          (noted-pass (subject c.args.taxi c.args.spot.now c.args.start c.args.end) (n - from) from n plans c.loop-number.coming.items (omega (arith, next.within.0)) inv.some (omega (arith, next.within.1)) next.passed inv.noted) step.ensures.items;
      few = omega (arith, inv.few, step.ensures.few, next.within.0);
      room = omega (arith, inv.room, step.ensures.capacity);
      none = earlier-on n step.result c.loop-number.first c.off_block.result plans c.subject-entry.result c.loop-number.coming.items _ some next.within.1 c.off_block.ensures step.ensures.first step.ensures.own inv.none step.ensures.items;
    }

pub returns-clause-coming : goal.returns-clause-coming
returns-clause-coming g c =
    let plans : List PlanView = c.args.self.now in
    let f = subject c.args.taxi c.args.spot.now c.args.start c.args.end in
    let inv = c.loop-number.invariant in
    noted-all f (length plans + 1) plans c.loop-number.coming.items (omega arith)
    (noted-pass f (length plans + 1 - c.loop-number.from) c.loop-number.from (length plans + 1) plans c.loop-number.coming.items (omega (arith, inv.within)) inv.some (omega arith) c.in_default-next_coming.ensures.none inv.noted)

pub note_departing-requires-clause-few : goal.note_departing-requires-clause-few
note_departing-requires-clause-few g c =
    let s = c.self.inside in
    omega (arith, c.requires.few, outlines-long s.outlines.items s.plans.items c.self.invariant, ap length c.self.view_is, ap length c.deref.ensures.value)

pub note_departing-requires-clause-room : goal.note_departing-requires-clause-room
note_departing-requires-clause-room g c =
    let s = c.self.inside in
    omega (arith, c.requires.room, outlines-long s.outlines.items s.plans.items c.self.invariant, ap length c.self.view_is, ap length c.deref.ensures.value)

pub returns-then-letters-ne0-clause-coming : goal.returns-then-letters-ne0-clause-coming
returns-then-letters-ne0-clause-coming g c =
    let s = c.self.inside in
    let place : List ℕ = c.as_bytes.result.now in
    let told : IsTold place = record {
      most = c.as_bytes.ensures.fits;
      bytes = c.letters_of-letters.ensures.bytes;
      some = omega (arith, c.if-letters-ne0.true, c.letters_of-letters.ensures.letters);
    } in
    let at : c.args.spot.now ≡ Dep place = c.in-Dep.is ∙ ap Dep (sym c.as_bytes.ensures.value) in
    let R : List PlanIndexEntry → Type 0 = λ os. AreOutlines os c.args.self.now in
    let outlines = subst R (sym c.deref.ensures.value) (rw (← c.self.view_is) c.self.invariant) in
    rw at (c.note_departing.ensures.coming c.args.self.now (Dep place) outlines (told, c.letters_of-letters.ensures.letters))

pub returns-then-letters-ne0-clause-first : goal.returns-then-letters-ne0-clause-first
returns-then-letters-ne0-clause-first g c =
    let R : List PlanIndexEntry → Type 0 = λ os. AreOutlines os c.args.self.now in
    c.note_departing.ensures.first c.args.self.now (subst R (sym c.deref.ensures.value) (rw (← c.self.view_is) c.self.invariant))
