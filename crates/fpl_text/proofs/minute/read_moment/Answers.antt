use Rattle.std.proofs.Common.{◌+◌, ◌*◌, ◌<◌, ◌≤◌, take, sym, ap, ◌∙◌, arith}
use Rattle.std.specs.Prelude.{Some}
use Rattle.std.proofs.lemmas.Bool.{lt-leb, le-leb}
use Rattle.std.proofs.lemmas.Int.{ints}
use Rattle.fpl_text.specs.Moments.{year_of}
use Rattle.fpl_text.proofs.MomentsLemmas.{moment-no_date, moment-late, moment-no_time, moment-some, day_number-parts}
use Rattle.fpl_text.proofs.MomentYears.{moment-other_length}
use Rattle.fpl_text.proofs.minute.read_moment.Goals as goal
use Rattle.fpl_text.proofs.minute.read_moment.Goals.{In_ok-date}

pub returns-then-text-ne10 : goal.returns-then-text-ne10
returns-then-text-ne10 c = sym (moment-other_length c.args.text.now c.if-text-ne10.true)

pub returns-in_err-date : goal.returns-in_err-date
returns-in_err-date c =
    rw c.from_residual.ensures (sym (moment-no_date c.args.text.now (rw c.split_at.ensures.front at c.in_err-date.ensures.value)))

pub returns-then-year-gt2098 : goal.returns-then-year-gt2098
returns-then-year-gt2098 c =
    let read = rw c.split_at.ensures.front at c.in_ok-date.ensures.value in
    let year = read.1.0 in
    let late : 2098 < year_of (take 6 c.args.text.now) = omega (arith, ints) in
    sym (moment-late c.args.text.now (lt-leb _ _ late))

pub returns-in_err-time : goal.returns-in_err-time
returns-in_err-time c =
    rw c.from_residual-in_err-time.ensures (sym (moment-no_time c.args.text.now (rw c.split_at.ensures.back at (sym c.in_err-time.ensures))))

pub returns : goal.returns
returns c =
    let read = rw c.split_at.ensures.front at c.in_ok-date.ensures.value in
    let year = read.1.0 in
    let early : year_of (take 6 c.args.text.now) ≤ 2098 = omega (arith, ints) in
    let time = rw c.split_at.ensures.back at (sym c.in_ok-time.ensures) in
    sym (moment-some c.args.text.now c.in_ok-time.time read.0 (le-leb _ _ early) time
    ∙ ap (λ n. Some (1440 * n + c.in_ok-time.time)) (sym (day_number-parts c.in_ok-date.date (take 6 c.args.text.now) read.1)) ∙ ap Some (sym c.minute_at.ensures))
