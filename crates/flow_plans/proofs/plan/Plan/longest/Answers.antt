use Rattle.std.proofs.Common.{ℕ, ◌≤◌, List, Option, Some, None, min, arith}
use Rattle.std.specs.Prelude.{IfSome}
use Rattle.fpl_text.specs.Words.{words_of}
use Rattle.fpl_items.specs.Items.{items_of, elapsed_to}
use Rattle.flow_plans.proofs.Longest.{way-below}
use Rattle.flow_plans.proofs.plan.Plan.longest.Goals as goal

-- what is at most either is at most what both reach
within-both : (o : Option ℕ) (a b high : ℕ) → min a b ≤ high → IfSome o (λ minutes. minutes ≤ a) → IfSome o (λ minutes. minutes ≤ b) → IfSome o (λ minutes. minutes ≤ high)
within-both None a b high h p q = tt
within-both (Some m) a b high h p q = omega (arith, h, p, q)

pub returns-clause-way : goal.returns-clause-way
returns-clause-way g c = λ place.
    (let field : List ℕ = c.self.inside.texts.field18 in
    let high : min c.longest.result 6000 ≤ c.max.result = omega (arith, c.min-way.ensures, c.max.ensures) in
    rw (← c.self.view_is)
    (within-both (elapsed_to place (items_of (words_of field))) c.longest.result 6000 c.max.result high (c.longest.ensures place) (way-below place (items_of (words_of field)))))
