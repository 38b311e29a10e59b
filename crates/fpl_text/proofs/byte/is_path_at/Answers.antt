use Rattle.std.proofs.Common.{◌≡◌, ◌+◌, ◌-◌, ◌<◌, ℕ, true, false, get_or, arith, sym, ap, subst, ◌∙◌, ⊎_elim}
use Rattle.std.proofs.lemmas.Bool.{cases_lt, eqb-true, eq-eqb, false≢true}
use Rattle.fpl_text.specs.Bytes.{is_path_byte}
use Rattle.fpl_text.proofs.PathLemmas.{all-false}
use Rattle.fpl_text.proofs.byte.is_path_at.Goals as goal

pub returns-clause-all : goal.returns-clause-all
returns-clause-all c is k low high =
    let full = eqb-true c.set_lanes_from.result 16 is in
    let j : ℕ = k - c.args.at in
    let in_look : j < 16 = omega (arith, low, high) in
    let same : c.args.at + j ≡ k = omega (arith, low) in
    let start : 0 + j ≡ j = omega arith in
    let set : is_path_byte (get_or c.load.result j 0) ≡ true =
    subst (λ (i : ℕ). is_path_byte (get_or c.load.result i 0) ≡ true) start (c.set_lanes_from.ensures.set (λ i. is_path_byte (get_or c.load.result i 0)) c.path_lanes.ensures j (omega (arith, in_look, full))) in
    subst (λ (i : ℕ). is_path_byte (get_or c.args.text.now i 0) ≡ true) same (ap is_path_byte (sym (c.load.ensures.lanes.each j in_look)) ∙ set)

pub returns-clause-other : goal.returns-clause-other
returns-clause-other c isnt =
    let n : ℕ = c.set_lanes_from.result in
    let less : n < 16 =
    ⊎_elim
    (λ l. l)
    (λ g. absurd (let full : n ≡ 16 = omega (arith, g, c.set_lanes_from.ensures.bound) in false≢true (sym isnt ∙ eq-eqb n 16 full)))
    (cases_lt n 16) in
    let start : 0 + n ≡ n = omega arith in
    let other : is_path_byte (get_or c.load.result n 0) ≡ false =
    subst (λ (i : ℕ). is_path_byte (get_or c.load.result i 0) ≡ false) start (c.set_lanes_from.ensures.stops (λ k. is_path_byte (get_or c.load.result k 0)) c.path_lanes.ensures (omega (arith, less))) in
    all-false is_path_byte c.args.text.now (c.args.at + n) (omega (arith, less, c.requires)) (ap is_path_byte (sym (c.load.ensures.lanes.each n less)) ∙ other)
