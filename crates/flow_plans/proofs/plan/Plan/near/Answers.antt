use Rattle.std.proofs.Common.{ℕ, ◌+◌, List, sym, ap, subst, ◌∙◌}
use Rattle.std.specs.Prelude.{IsSome}
use Rattle.fpl_text.specs.Words.{words_of}
use Rattle.fpl_items.specs.Items.{items_of, elapsed_to}
use Rattle.fpl_items.specs.Points.{bit_of}
use Rattle.flow_plans.specs.Near.{word_at, HasBitsOf}
use Rattle.flow_plans.proofs.NearLemmas.{or-first, or-second, subject-enters, comes-there, not-filed, exempted}
use Rattle.flow_plans.proofs.plan.Plan.near.Goals as goal

pub returns-then-not-is_filed : goal.returns-then-not-is_filed
returns-then-not-is_filed g c = λ taxi start end spot h. not-filed taxi start end 0 spot c.args.self.now c.args.table.now (sym c.is_filed.ensures ∙ c.if-not-is_filed.true) h

pub returns-then-self : goal.returns-then-self
returns-then-self g c = λ taxi start end spot h. exempted taxi start end 0 spot c.args.self.now c.args.table.now (sym (ap (λ v. v.exempt) c.self.view_is) ∙ c.if-self.true) h

pub returns : goal.returns
returns g c = λ taxi start end spot h.
    (let p = c.args.self.now in
    let t : List ℕ = c.args.table.now in
    let ends : ℕ = c.words_of_ends-ends.result in
    let way : ℕ = c.near.result in
    let e = c.words_of_ends-ends.ensures in
    let D : List ℕ → Type 0 = λ v. HasBitsOf ends (word_at t (bit_of v)) in
    let A : List ℕ → Type 0 = λ v. HasBitsOf ends (word_at t (64 + bit_of v)) in
    let S : List ℕ → List ℕ → Type 0 = λ place v. IsSome (elapsed_to place (items_of (words_of v))) in
    let dep = c.as_bytes.ensures.value ∙ ap (λ v. v.key.dep) c.self.view_is in
    let dest = c.as_bytes-2.ensures.value ∙ ap (λ v. v.key.dest) c.self.view_is in
    comes-there taxi _ spot p t
    (or-first ends way (word_at t (bit_of p.key.dep)) (subst D dep e.dep))
    (or-first ends way (word_at t (64 + bit_of p.key.dest)) (subst A dest e.dest))
    (λ place some. or-second ends way (word_at t (128 + bit_of place)) (c.near.ensures place (subst (S place) (sym (ap (λ v. v.texts.field18) c.self.view_is)) some)))
    (subject-enters taxi start end spot p h))
