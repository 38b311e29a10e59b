use Rattle.std.proofs.Common.{◌≡◌, ◌-◌, ℕ, ap, sym, ◌∙◌, Some, None, slice_get}
use Rattle.std.specs.Option.{option_copied}
use Rattle.flow_core.specs.declared.row.Row.{Row}
use Rattle.flow_core.proofs.Rows.{rows-at, rows-beyond}
use Rattle.flow_core.proofs.row.row_at.Goals as goal

pub returns-in_default : goal.returns-in_default
returns-in_default g c =
    let gone : slice_get c.args.traffic.now.traffic.plans (c.args.number - 1) ≡ None = sym (c.plan.ensures.plan c.requires) ∙ ap (λ o. option_copied o) c.in_default.is in
    sym (rows-beyond c.args.traffic.now.traffic.plans c.args.traffic.now.traffic.told (c.args.number - 1) gone)

pub returns : goal.returns
returns g c =
    let i : ℕ = c.args.number - 1 in
    let here : slice_get c.args.traffic.now.traffic.plans i ≡ Some c.in-Some.plan.now = sym (c.plan.ensures.plan c.requires) ∙ ap (λ o. option_copied o) c.in-Some.is in
    let told : slice_get c.args.traffic.now.traffic.told i ≡ Some c.in-Some-told.told.now = sym c.told.ensures.value ∙ ap (λ o. option_copied o) c.in-Some-told.is in
    ap (λ (r : Row). Some r) c.row_of.ensures
    ∙ sym (rows-at c.args.traffic.now.traffic.plans c.args.traffic.now.traffic.told i c.in-Some.plan.now c.in-Some-told.told.now here told)
