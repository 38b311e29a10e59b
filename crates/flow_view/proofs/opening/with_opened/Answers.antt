use Rattle.std.proofs.Common.{◌≡◌, ◌-◌, ◌∙◌, ◌++◌, ◌∷◌, [], Some, ap, sym, length, slice_get}
use Rattle.std.specs.Option.{option_copied}
use Rattle.flow_view.specs.Openings.{OpeningView, with_opened}
use Rattle.flow_view.proofs.Openings.{last-opened}
use Rattle.flow_view.proofs.opening.with_opened.Goals as goal

pub returns : goal.returns
returns g c =
    let here : slice_get c.regulations.result.now (length c.regulations.result.now - 1) ≡ Some c.in-Some.regulation.now
    = sym c.last.ensures.value ∙ ap (λ o. option_copied o) c.in-Some.is in
    c.in_ok-push.ensures.items
    ∙ (ap (λ (o : OpeningView). c.args.openings.items ++ o ∷ []) c.new.ensures
    ∙ (sym (last-opened c.args.after.now c.args.number c.regulations.result.now (Some c.in-Some.regulation.now) c.args.openings.items c.regulations.ensures.open here)
    ∙ ap (λ b. with_opened c.args.after.now c.args.number b c.args.openings.items) (sym c.if-not-opens.false)))
