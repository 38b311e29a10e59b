use Rattle.std.proofs.Common.{◌≡◌, ◌+◌, ◌≤◌, List, [], length, rules, sym, ap, subst, ◌∙◌, arith}
use Rattle.std.proofs.lemmas.Bool.{leb-false}
use Rattle.flow_plans.specs.Plans.{PlanView}
use Rattle.flow_slots.specs.declared.cell.Planned.{Planned}
use Rattle.flow_slots.specs.Lineup.{MayFill, with_all_waiting}
use Rattle.flow_regulations.specs.Regulations.{Regulation, subject_to}
use Rattle.flow_regulations.specs.declared.due_queue.TheConstants.{ISSUE_LEAD}
use Rattle.flow_regulations.specs.Listing.{RegulationView, regulation_of, with_lineup}
use Rattle.flow_regulations.proofs.Coming.{sorted-waiting, may-fill}
use Rattle.flow_plans.proofs.Entered.{entering-few}
use Rattle.flow_regulations.proofs.Undue.{undue-opened}
use Rattle.flow_regulations.proofs.regulations.let_all_in.Goals as goal

pub put_in_order-requires : goal.put_in_order-requires
put_in_order-requires g c =
    let few = entering-few 1 (subject_to c.args.plans.now.taxi (regulation_of c.args.regulation.now)) c.args.plans.now.plans in
    let noted = ap length c.in_ok-first.ensures.coming in
    omega (arith, few, noted, c.note_coming.new.coming.ok.0, c.in_ok-reserve.ensures.ok, c.count.ensures.count)

pub fill-requires : goal.fill-requires
fill-requires g c =
    let plans : List PlanView = c.args.plans.now.plans in
    let taxi = c.args.plans.now.taxi in
    let l : RegulationView = c.args.regulation.now in
    let r : Regulation = regulation_of l in
    let noted : List Planned = c.note_coming.new.coming.items in
    let row : List Planned = c.put_in_order.new.flights.items in
    let few : length plans ≤ 20000 = omega (arith, c.count.ensures.count, c.count.ensures.bound) in
    let sorted = sorted-waiting taxi 20000 r plans noted row few (omega arith) c.in_ok-first.ensures.coming c.put_in_order.ensures.permutation c.put_in_order.ensures.order in
    let waiting = c.deref.ensures.value ∙ sorted in
    let none : l.lineup.waiting ≡ [] = ap (λ v. v.lineup.waiting) c.requires.empty in
    let unfixed : l.lineup.fixed ≡ [] = ap (λ v. v.lineup.fixed) c.requires.empty in
    let M : List Planned → Type 0 = λ ws. MayFill ws l.lineup in
    subst M (sym waiting) (may-fill taxi r plans l.lineup none unfixed (search rules) c.requires.room)

pub returns-clause-opened : goal.returns-clause-opened
returns-clause-opened g c =
    let plans : List PlanView = c.args.plans.now.plans in
    let taxi = c.args.plans.now.taxi in
    let l : RegulationView = c.args.regulation.now in
    let r : Regulation = regulation_of l in
    let noted : List Planned = c.note_coming.new.coming.items in
    let row : List Planned = c.put_in_order.new.flights.items in
    let few : length plans ≤ 20000 = omega (arith, c.count.ensures.count, c.count.ensures.bound) in
    let sorted = sorted-waiting taxi 20000 r plans noted row few (omega arith) c.in_ok-first.ensures.coming c.put_in_order.ensures.permutation c.put_in_order.ensures.order in
    let waiting = c.deref.ensures.value ∙ sorted in
    c.fill.ensures ∙ ap (λ ws. with_lineup (with_all_waiting ws l.lineup) l) waiting

pub returns-clause-due : goal.returns-clause-due
returns-clause-due g c = λ undue.
    undue-opened c.args.plans.now.taxi c.args.now c.in_ok-first.first c.args.plans.now.plans c.args.regulation.now c.fill.new.self c.note_coming.new.coming.items c.in_ok-first.ensures.coming (returns-clause-opened g c) (leb-false c.in_ok-first.first (c.args.now + ISSUE_LEAD) (sym c.is_due_from-due.ensures ∙ undue)) c.in_ok-first.ensures.first
