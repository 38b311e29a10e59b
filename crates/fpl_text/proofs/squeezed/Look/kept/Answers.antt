use Rattle.std.proofs.Common.{subst, sym, arith, ◌∙◌, ◌<◌, ◌^◌}
use Rattle.fpl_text.proofs.LookLemmas.{IsFront, front-is, last-is}
use Rattle.fpl_text.proofs.squeezed.Look.kept.Goals as goal

pub bit_is_set-requires : goal.bit_is_set-requires
bit_is_set-requires c =
    let fits : c.args.self.borders < 2 ^ 64 = omega arith in
    let f = subst (IsFront c.args.self c.args.border) (sym c.trailing_ones-count.ensures)
    (front-is c.args.self c.args.border c.bits_behind-behind.result c.requires.some c.requires.few (record { first = c.bits_behind-behind.ensures.first; others = c.bits_behind-behind.ensures.others }) fits c.bits_behind-behind.type_inv) in
    omega (arith, f.bound)

pub returns-clause-bound : goal.returns-clause-bound
returns-clause-bound c =
    let fits : c.args.self.borders < 2 ^ 64 = omega arith in
    let f = subst (IsFront c.args.self c.args.border) (sym c.trailing_ones-count.ensures)
    (front-is c.args.self c.args.border c.bits_behind-behind.result c.requires.some c.requires.few (record { first = c.bits_behind-behind.ensures.first; others = c.bits_behind-behind.ensures.others }) fits c.bits_behind-behind.type_inv) in
    f.bound

pub returns-clause-each : goal.returns-clause-each
returns-clause-each c =
    let fits : c.args.self.borders < 2 ^ 64 = omega arith in
    let f = subst (IsFront c.args.self c.args.border) (sym c.trailing_ones-count.ensures)
    (front-is c.args.self c.args.border c.bits_behind-behind.result c.requires.some c.requires.few (record { first = c.bits_behind-behind.ensures.first; others = c.bits_behind-behind.ensures.others }) fits c.bits_behind-behind.type_inv) in
    f.each

pub returns-clause-stops : goal.returns-clause-stops
returns-clause-stops c =
    let fits : c.args.self.borders < 2 ^ 64 = omega arith in
    let f = subst (IsFront c.args.self c.args.border) (sym c.trailing_ones-count.ensures)
    (front-is c.args.self c.args.border c.bits_behind-behind.result c.requires.some c.requires.few (record { first = c.bits_behind-behind.ensures.first; others = c.bits_behind-behind.ensures.others }) fits c.bits_behind-behind.type_inv) in
    f.stops

pub returns-clause-last : goal.returns-clause-last
returns-clause-last c f is =
    let fits : c.args.self.borders < 2 ^ 64 = omega arith in
    let front = subst (IsFront c.args.self c.args.border) (sym c.trailing_ones-count.ensures)
    (front-is c.args.self c.args.border c.bits_behind-behind.result c.requires.some c.requires.few (record { first = c.bits_behind-behind.ensures.first; others = c.bits_behind-behind.ensures.others }) fits c.bits_behind-behind.type_inv) in
    c.bit_is_set.ensures
    ∙ last-is c.args.self f c.args.border c.bits_behind-behind.result c.trailing_ones-count.result is (record { first = c.bits_behind-behind.ensures.first; others = c.bits_behind-behind.ensures.others }) front.bound
