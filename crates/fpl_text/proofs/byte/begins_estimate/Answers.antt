use Rattle.std.proofs.Common.{◌≡◌, ◌+◌, ◌<◌, leb, get_or, true, sym, ap, ◌∙◌, arith}
use Rattle.std.proofs.lemmas.Bool.{leb-true}
use Rattle.fpl_text.specs.Bytes.{is_letter, is_digit}
use Rattle.fpl_text.proofs.LaneLemmas.{lies, estimate_width, estimate-letter, estimate-digit, estimate-tens, estimate-space}
use Rattle.fpl_text.proofs.byte.begins_estimate.Goals as goal

pub returns-clause-letters : goal.returns-clause-letters
returns-clause-letters c h k l =
    let none : 0 + k ≡ k = omega arith in
    let here : lies c.load.result k ≡ true =
    ap (λ x. leb x (get_or estimate_width k 0)) (sym (c.above_lanes-above.ensures.each k (omega (arith, l)))) ∙ rw none at (c.set_lanes_from.ensures.set _ c.in_order.ensures k (omega (arith, l, leb-true 9 _ h))) in
    let fits : get_or c.load.result k 0 < 256 = rw (c.load.ensures.lanes.each k (omega (arith, l))) (c.type_inv.text (c.args.at + k)).fits in
    ap is_letter (sym (c.load.ensures.lanes.each k (omega (arith, l)))) ∙ estimate-letter c.load.result k l fits here

pub returns-clause-digits : goal.returns-clause-digits
returns-clause-digits c h k l =
    let none : 0 + (4 + k) ≡ 4 + k = omega arith in
    let here : lies c.load.result (4 + k) ≡ true =
    ap (λ x. leb x (get_or estimate_width (4 + k) 0)) (sym (c.above_lanes-above.ensures.each (4 + k) (omega (arith, l)))) ∙ rw none at (c.set_lanes_from.ensures.set _ c.in_order.ensures (4 + k) (omega (arith, l, leb-true 9 _ h))) in
    let fits : get_or c.load.result (4 + k) 0 < 256 = rw (c.load.ensures.lanes.each (4 + k) (omega (arith, l))) (c.type_inv.text (c.args.at + (4 + k))).fits in
    let to : c.args.at + (4 + k) ≡ c.args.at + 4 + k = omega arith in
    rw to at (ap is_digit (sym (c.load.ensures.lanes.each (4 + k) (omega (arith, l)))) ∙ estimate-digit c.load.result k l fits here)

pub returns-clause-tens : goal.returns-clause-tens
returns-clause-tens c h =
    let here : lies c.load.result 6 ≡ true =
    ap (λ x. leb x 5) (sym (c.above_lanes-above.ensures.each 6 (omega arith))) ∙ c.set_lanes_from.ensures.set _ c.in_order.ensures 6 (omega (arith, leb-true 9 _ h)) in
    let same = c.load.ensures.lanes.each 6 (omega arith) in
    let fits : get_or c.load.result 6 0 < 256 = rw same (c.type_inv.text (c.args.at + 6)).fits in
    omega (arith, same, estimate-tens c.load.result fits here)

pub returns-clause-space : goal.returns-clause-space
returns-clause-space c h =
    let here : lies c.load.result 8 ≡ true =
    ap (λ x. leb x 0) (sym (c.above_lanes-above.ensures.each 8 (omega arith))) ∙ c.set_lanes_from.ensures.set _ c.in_order.ensures 8 (omega (arith, leb-true 9 _ h)) in
    let same = c.load.ensures.lanes.each 8 (omega arith) in
    let fits : get_or c.load.result 8 0 < 256 = rw same (c.type_inv.text (c.args.at + 8)).fits in
    sym same ∙ estimate-space c.load.result fits here
