use Rattle.std.proofs.Common.{ℕ, List, sym, ap, subst, length}
use Rattle.std.specs.Prelude.{IsSome, slice_range}
use Rattle.std.proofs.lemmas.Bool.{eqb-true}
use Rattle.fpl_text.specs.Words.{words_of}
use Rattle.fpl_items.specs.Items.{items_of, elapsed_to}
use Rattle.fpl_items.specs.Points.{bit_of}
use Rattle.flow_plans.proofs.NearLemmas.{some-has, bit-below}
use Rattle.flow_plans.proofs.texts.Texts.near.Goals as goal

pub returns : goal.returns
returns g c = λ place some.
    (let s = c.self.inside in
    let field : List ℕ = slice_range s.bytes.items s.end15 (length s.bytes.items) in
    let S : List ℕ → Type 0 = λ v. IsSome (elapsed_to place (items_of (words_of v))) in
    let there = subst S (sym (ap (λ t. t.field18) c.self.view_is)) some in
    c.words_on_way.ensures (bit_of place) (bit-below place) (eqb-true _ _ (some-has field place c.places.result s.estimates c.self.invariant.4 c.places.ensures there)))
