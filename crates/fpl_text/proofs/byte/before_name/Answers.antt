use Rattle.std.proofs.Common.{◌≡◌, ◌+◌, ◌-◌, ◌<◌, ◌||◌, not, eqb, get_or, arith, sym, ap, ◌∙◌}
use Rattle.fpl_text.specs.Words.{may_begin}
use Rattle.fpl_text.proofs.NamedLemmas.{lanes-may, flag-unset, flag-set}
use Rattle.fpl_text.proofs.byte.before_name.Goals as goal

pub returns-clause-none : goal.returns-clause-none
returns-clause-none c k l =
    let u = c.load-first.result in
    let v = c.load.result in
    let two = c.or_equal_to-two.ensures (λ i. eqb (get_or u i 0) c.args.a) c.equal_to.ensures in
    let three = c.or_equal_to-three.ensures (λ i. eqb (get_or u i 0) c.args.a || eqb (get_or u i 0) c.args.b) two in
    let names = c.both-names.ensures (λ i. eqb (get_or v i 0) 47) (λ i. eqb (get_or u i 0) c.args.a || eqb (get_or u i 0) c.args.b || eqb (get_or u i 0) c.args.c) c.equal_to-2.ensures three in
    let lane = c.args.from - c.args.at + k in
    let there : c.args.at + lane ≡ c.args.from + k = omega (arith, c.requires.before) in
    let shown = lanes-may c.args.a c.args.b c.args.c c.args.text.now u v c.both-names.result c.args.at lane (omega (arith, l, c.set_lanes_from.ensures.bound)) c.load-first.ensures.lanes c.load.ensures.lanes names in
    ap (may_begin c.args.a c.args.b c.args.c c.args.text.now) (sym there)
    ∙ flag-unset (may_begin c.args.a c.args.b c.args.c c.args.text.now (c.args.at + lane))
    (ap (λ b. not (eqb b 255)) (sym shown) ∙ c.set_lanes_from.ensures.set (λ i. not (eqb (get_or c.both-names.result i 0) 255)) c.other_lanes.ensures k l)

pub returns-clause-found : goal.returns-clause-found
returns-clause-found c l =
    let u = c.load-first.result in
    let v = c.load.result in
    let two = c.or_equal_to-two.ensures (λ i. eqb (get_or u i 0) c.args.a) c.equal_to.ensures in
    let three = c.or_equal_to-three.ensures (λ i. eqb (get_or u i 0) c.args.a || eqb (get_or u i 0) c.args.b) two in
    let names = c.both-names.ensures (λ i. eqb (get_or v i 0) 47) (λ i. eqb (get_or u i 0) c.args.a || eqb (get_or u i 0) c.args.b || eqb (get_or u i 0) c.args.c) c.equal_to-2.ensures three in
    let lane = c.args.from - c.args.at + c.set_lanes_from.result in
    let there : c.args.at + lane ≡ c.args.from + c.set_lanes_from.result = omega (arith, c.requires.before) in
    let few : lane < 16 = omega (arith, l, c.requires.before) in
    let shown = lanes-may c.args.a c.args.b c.args.c c.args.text.now u v c.both-names.result c.args.at lane few c.load-first.ensures.lanes c.load.ensures.lanes names in
    ap (may_begin c.args.a c.args.b c.args.c c.args.text.now) (sym there)
    ∙ flag-set (may_begin c.args.a c.args.b c.args.c c.args.text.now (c.args.at + lane))
    (ap (λ b. not (eqb b 255)) (sym shown) ∙ c.set_lanes_from.ensures.stops (λ i. not (eqb (get_or c.both-names.result i 0) 255)) c.other_lanes.ensures few)
