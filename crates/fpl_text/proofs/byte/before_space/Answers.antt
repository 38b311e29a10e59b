use Rattle.std.proofs.Common.{eqb, take, drop, arith, ap, sym, ◌∙◌}
use Rattle.std.proofs.lemmas.Simd.{length-chunk, get_or-chunk}
use Rattle.fpl_text.proofs.LaneLemmas.{front-space}
use Rattle.fpl_text.proofs.byte.before_space.Goals as goal

pub returns-clause-bound : goal.returns-clause-bound
returns-clause-bound c = (front-space (take 8 (drop c.args.at c.args.text.now)) (length-chunk c.args.at 8 c.args.text.now c.requires)).bound

pub returns-clause-none : goal.returns-clause-none
returns-clause-none c k l =
    let f = front-space (take 8 (drop c.args.at c.args.text.now)) (length-chunk c.args.at 8 c.args.text.now c.requires) in
    let few = f.bound in
    ap (λ x. eqb x 32) (sym (get_or-chunk c.args.at 8 c.args.text.now k 0 (omega (arith, l, few)))) ∙ f.none k l

pub returns-clause-found : goal.returns-clause-found
returns-clause-found c l =
    let f = front-space (take 8 (drop c.args.at c.args.text.now)) (length-chunk c.args.at 8 c.args.text.now c.requires) in
    ap (λ x. eqb x 32) (sym (get_or-chunk c.args.at 8 c.args.text.now _ 0 l)) ∙ f.found l
