use Rattle.std.proofs.Common.{◌≡◌, ◌-◌, ap, sym, ◌∙◌, refl, None, slice_get}
use Rattle.std.specs.Option.{option_copied}
use Rattle.flow_regulations.specs.Notices.{window_of}
use Rattle.flow_traffic.proofs.messages.departure_window.Goals as goal

pub returns-in-None : goal.returns-in-None
unfolding window_of
returns-in-None c =
    let gone : slice_get c.args.told.now (c.args.number - 1) ≡ None = sym c.told_at.ensures ∙ ap (λ o. option_copied o) c.in-None.is in
    rw gone refl
