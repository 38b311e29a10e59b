use Rattle.std.proofs.Common.{refl, ◌∙◌}
use Rattle.std.proofs.lemmas.Bool.{false≢true}
use Rattle.fpl_text.proofs.MomentsLemmas.{signed_byte, signed_year, civil_yes, civil_no}
use Rattle.fpl_text.proofs.day.civil_date.Goals as goal

pub returns-in-Ok-clause-value : goal.returns-in-Ok-clause-value
returns-in-Ok-clause-value c =
    let year = signed_year c.args.yy c.requires.year in
    let month = signed_byte c.args.month c.requires.month in
    let day = signed_byte c.args.day c.requires.day in
    let parts = c.in-Ok.ensures.value in
    (civil_yes c.args.yy c.args.month c.args.day (rw (year, month, day) at (c.in-Ok.ensures.succeeds.0 refl)), (parts.0 ∙ year, parts.1 ∙ month, parts.2 ∙ day))

pub returns-in-Err-clause-value : goal.returns-in-Err-clause-value
returns-in-Err-clause-value c =
    let year = signed_year c.args.yy c.requires.year in
    let month = signed_byte c.args.month c.requires.month in
    let day = signed_byte c.args.day c.requires.day in
    civil_no c.args.yy c.args.month c.args.day c.requires.year (λ is. false≢true (c.in-Err.ensures.succeeds.1 (rw (year, month, day) is)))
