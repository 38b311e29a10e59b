use Rattle.std.proofs.Common.{◌∙◌, ℕ, List, subst}
use Rattle.std.specs.Prelude.{IsSome, IfSome}
use Rattle.fpl_message.specs.declared.order.Spot.{Spot}
use Rattle.flow_plans.specs.Plans.{plan_at}
use Rattle.flow_plans.specs.Entries.{subject}
use Rattle.flow_plans.specs.Near.{table_row, word_at, HasBitsOf}
use Rattle.flow_regulations.proofs.Rows.{marks-near}
use Rattle.flow_regulations.proofs.place_table.PlaceTable.near.Goals as goal

pub returns : goal.returns
returns g c = λ ls rows.
    (let n : ℕ = c.args.number in
    let taxi : ℕ = c.args.plans.now.taxi in
    let plans = c.args.plans.now.plans in
    let C : List ℕ → Type 0 = λ table. (start end : ℕ) (spot : Spot) → IfSome (plan_at plans n) (λ p. IsSome (subject taxi spot start end p) → HasBitsOf c.near.result (word_at table (table_row spot))) in
    marks-near taxi n c.near.result c.args.self.now plans ls rows (subst C (c.deref.ensures.value ∙ c.self.view_is) c.near.ensures))
