use Rattle.std.proofs.Common.{◌≡◌, ℕ, ◌+◌, ◌-◌, List, sym, ap, ◌∙◌, arith}
use Rattle.std.specs.Prelude.{slice_get, option_copied}
use Rattle.std.specs.Option.{option_map}
use Rattle.std.proofs.lemmas.Bool.{false≢true}
use Rattle.flow_plans.specs.Plans.{PlanView}
use Rattle.flow_traffic.specs.Same.{standing_of}
use Rattle.flow_traffic.proofs.Alike.{standing_at, alike-at, alike-more}
use Rattle.flow_traffic.proofs.same.stand_alike.Goals as goal

pub returns-then-not-stands_as : goal.returns-then-not-stands_as
returns-then-not-stands_as g c =
    let ps : List PlanView = c.args.plans.now.plans in
    let qs : List PlanView = c.args.others.now.plans in
    let i : ℕ = c.loop-index.index in
    let at : i + 1 - 1 ≡ i = omega arith in
    let mine : option_map standing_of (option_copied c.plan.result) ≡ standing_at ps i = ap (option_map standing_of) (c.plan.ensures.plan (omega arith) ∙ ap (slice_get ps) at) in
    let theirs : option_map standing_of (option_copied c.plan-in-loop-index.result) ≡ standing_at qs i = ap (option_map standing_of) (c.plan-in-loop-index.ensures.plan (omega arith) ∙ ap (slice_get qs) at) in
    ((λ h. absurd (false≢true h)), (λ e. absurd (false≢true (sym c.if-not-stands_as.true ∙ c.stands_as.ensures.1 (mine ∙ (alike-at ps qs i e ∙ sym theirs))))))

pub loop-index-preserved : goal.loop-index-preserved
loop-index-preserved g c =
    let ps : List PlanView = c.args.plans.now.plans in
    let qs : List PlanView = c.args.others.now.plans in
    let i : ℕ = c.loop-index.index in
    let at : i + 1 - 1 ≡ i = omega arith in
    let mine : option_map standing_of (option_copied c.plan.result) ≡ standing_at ps i = ap (option_map standing_of) (c.plan.ensures.plan (omega arith) ∙ ap (slice_get ps) at) in
    let theirs : option_map standing_of (option_copied c.plan-in-loop-index.result) ≡ standing_at qs i = ap (option_map standing_of) (c.plan-in-loop-index.ensures.plan (omega arith) ∙ ap (slice_get qs) at) in
    alike-more ps qs i c.loop-index.invariant (sym mine ∙ (c.stands_as.ensures.0 c.if-not-stands_as.false ∙ theirs))
