use Rattle.std.proofs.Common.{ℕ, List, ap, subst, length, ◌≤◌}
use Rattle.std.specs.Prelude.{IfSome, slice_range}
use Rattle.fpl_text.specs.Words.{words_of}
use Rattle.fpl_items.specs.Items.{items_of, elapsed_to}
use Rattle.flow_plans.proofs.Longest.{way-longest}
use Rattle.flow_plans.proofs.texts.Texts.longest.Goals as goal

pub returns : goal.returns
returns g c = λ place.
    (let s = c.self.inside in
    let field : List ℕ = slice_range s.bytes.items s.end15 (length s.bytes.items) in
    let S : List ℕ → Type 0 = λ v. IfSome (elapsed_to place (items_of (words_of v))) (λ minutes. minutes ≤ c.longest.result) in
    subst S (ap (λ t. t.field18) c.self.view_is) (way-longest field s.estimates c.longest.result c.self.invariant.4 c.longest.ensures place))
