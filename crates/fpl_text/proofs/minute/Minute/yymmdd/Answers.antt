use Rattle.std.proofs.Common.{pos, ◌<◌, ◌/◌, ap, sym, ◌∙◌, arith, ℕ, ◌%◌, ◌++◌}
use Rattle.fpl_text.specs.Moments.{digit_pair}
use Rattle.fpl_text.proofs.DaysLemmas.{civil_at-number}
use Rattle.fpl_text.proofs.minute.Minute.yymmdd.Goals as goal

pub returns-clause-digits : goal.returns-clause-digits
returns-clause-digits c =
    let small : c.args.self / 1440 < 100_000 = omega (arith, c.day.ensures, c.date.ensures.bound) in
    c.date_digits.ensures
    ∙ ap (λ (d : ℕ × ℕ × ℕ). digit_pair (d.0 % 100) ++ digit_pair d.1 ++ digit_pair d.2) (sym (civil_at-number c.date.result (c.args.self / 1440) (c.date.ensures.value ∙ ap pos c.day.ensures) small))

pub returns-clause-day : goal.returns-clause-day
returns-clause-day c = (c.date.result, c.date.ensures.value ∙ ap pos c.day.ensures, c.date_digits.ensures)
