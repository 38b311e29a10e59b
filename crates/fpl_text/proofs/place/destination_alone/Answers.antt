use Rattle.std.proofs.Common.{sym, ap, ◌∙◌, Some}
use Rattle.fpl_text.proofs.PlacesLemmas.{alone, short-destination}
use Rattle.fpl_text.proofs.place.destination_alone.Goals as goal

pub returns-in_err-place-clause-value : goal.returns-in_err-place-clause-value
returns-in_err-place-clause-value c =
    c.from_residual.ensures ∙ ap alone (sym c.in_err-place.was ∙ c.arrival_of.ensures.value) ∙ sym (short-destination c.args.field.now c.requires)

pub returns-clause-value : goal.returns-clause-value
returns-clause-value c =
    ap (λ places. Some (record { place = c.in_ok-place.place; elapsed = c.in_ok-place.elapsed; alternates = places })) c.none.ensures
    ∙ ap alone (sym c.in_ok-place.was ∙ c.arrival_of.ensures.value)
    ∙ sym (short-destination c.args.field.now c.requires)
