use Rattle.std.proofs.Common.{◌≡◌, ◌≤◌, ℕ, None, subst}
use Rattle.std.specs.Prelude.{IsSome}
use Rattle.flow_slots.specs.Lineup.{held_slot}
use Rattle.flow_slots.proofs.Absent.{absent-fixed, absent-waiting}
use Rattle.flow_regulations.specs.Listing.{RegulationView}
use Rattle.flow_regulations.specs.Marks.{IsOut}
use Rattle.flow_regulations.proofs.regulation.Regulation.next_held.Goals as goal

pub returns-clause-passed : goal.returns-clause-passed
returns-clause-passed g c = λ f low high.
    (let l = c.self.inside.list.lineup in
    let none : held_slot l f ≡ None = c.next_held.ensures.passed f low high in
    let O : RegulationView → Type 0 = λ v. IsOut f v in
    subst O c.self.view_is (absent-fixed l f none, absent-waiting l f none))

pub returns-clause-stops : goal.returns-clause-stops
returns-clause-stops g c =
    let n : ℕ = c.next_held.result in
    let S : RegulationView → Type 0 = λ v. n ≤ v.lineup.capacity → IsSome (held_slot v.lineup n) in
    subst S c.self.view_is c.next_held.ensures.stops
