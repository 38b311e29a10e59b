use Rattle.std.proofs.Common.{◌≡◌, ℕ, ◌<◌, ◌≤◌, Option, None, Some, refl, subst, arith}
use Rattle.flow_slots.specs.Lineup.{held_slot}
use Rattle.flow_slots.proofs.Absent.{absent-fixed, absent-waiting}
use Rattle.flow_regulations.specs.Listing.{RegulationView}
use Rattle.flow_regulations.specs.Marks.{IsOut}
use Rattle.flow_regulations.proofs.regulation.Regulation.last.Goals as goal

-- no flight after the last is held
none-later : (f last : ℕ) (o : Option ℕ) → last < f → ((k : ℕ) → o ≡ Some k → (0 < f) × (f ≤ last)) → o ≡ None
none-later f last None later held = refl
none-later f last (Some k) later held = absurd (omega (arith, later, (held k refl).1))

pub returns-clause-others : goal.returns-clause-others
returns-clause-others g c = λ f later.
    (let l = c.self.inside.list.lineup in
    let none : held_slot l f ≡ None = none-later f c.max_plans.result (held_slot l f) later (λ k e. c.max_plans.ensures.held f k e) in
    let O : RegulationView → Type 0 = λ v. IsOut f v in
    subst O c.self.view_is (absent-fixed l f none, absent-waiting l f none))
