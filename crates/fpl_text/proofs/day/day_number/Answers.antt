use Rattle.std.proofs.Common.{◌≡◌, arith, ap, ◌∙◌, FitsSigned, w32, to_z, of_z, unsigned_abs}
use Rattle.std.proofs.lemmas.Int.{ints, to_z-of_z}
use Rattle.jiff_core.specs.Date.{epoch_day}
use Rattle.fpl_text.proofs.MomentsLemmas.{epoch_day_of_century}
use Rattle.fpl_text.proofs.day.day_number.Goals as goal
use Rattle.fpl_text.proofs.day.day_number.Goals.{After-to_unix_epoch_day}

-- the number that is cast is the date's day number
cast_is : (c : After-to_unix_epoch_day) → to_z w32 (of_z w32 c.to_unix_epoch_day.result) ≡ epoch_day c.args.date
cast_is c =
    let bounds = epoch_day_of_century c.args.date c.requires in
    let same = c.to_unix_epoch_day.ensures.value ∙ ap epoch_day c.to_plain.ensures in
    let fits : FitsSigned w32 c.to_unix_epoch_day.result = omega (arith, ints) in
    to_z-of_z w32 c.to_unix_epoch_day.result fits ∙ same

pub overflow_cast-result : goal.overflow_cast-result
overflow_cast-result c =
    let bounds = epoch_day_of_century c.args.date c.requires in
    rw (cast_is c) (omega (arith, ints))

pub returns-clause-value : goal.returns-clause-value
returns-clause-value c = ap unsigned_abs (cast_is c)

pub returns-clause-bound : goal.returns-clause-bound
returns-clause-bound c =
    let bounds = epoch_day_of_century c.args.date c.requires in
    rw (cast_is c) (omega (arith, ints))
