use Rattle.std.proofs.Common.{◌≤◌, ◌<◌, ◌∙◌, List, length, sym, ap, arith}
use Rattle.std.specs.List.{list_any}
use Rattle.std.proofs.lemmas.Bool.{le-leb, lt-leb}
use Rattle.std.proofs.lemmas.Result.{err_from_is_err_and}
use Rattle.flow_regulations.specs.Regulations.{Regulation}
use Rattle.flow_regulations.proofs.ForTheDesk.{named-regulations, count-regulations}
use Rattle.flow_traffic.specs.Asked.{is_called}
use Rattle.flow_traffic.proofs.Answered.{shape-refused, held-refused, full-refused, opened-asked}
use Rattle.flow_traffic.proofs.opening.shape_to_open.Goals as goal

pub returns-in_err-shape-clause-refused : goal.returns-in_err-shape-clause-refused
returns-in_err-shape-clause-refused g c =
    let p = err_from_is_err_and c.from_residual.result c.from_residual.ensures.1 in
    rw (p.1, p.2) (λ t same. shape-refused t c.args.order.now _ c.in_err-shape.ensures.err)

pub returns-then-is_open-clause-refused : goal.returns-then-is_open-clause-refused
returns-then-is_open-clause-refused g c = λ t same.
    (let held = ap (λ (rs : List Regulation). list_any (is_called c.args.order.now.id) rs) same ∙ sym (named-regulations c.args.order.now.id c.args.regulations.now.lists) ∙ sym c.is_open.ensures ∙ c.if-is_open.true in
    held-refused t c.args.order.now c.in_ok-shape.ensures.ok.0 c.in_ok-shape.ensures.ok.1 held)

pub returns-then-count-ge-MAX_REGULATIONS-clause-refused : goal.returns-then-count-ge-MAX_REGULATIONS-clause-refused
returns-then-count-ge-MAX_REGULATIONS-clause-refused g c = λ t same.
    (let other = ap (λ (rs : List Regulation). list_any (is_called c.args.order.now.id) rs) same ∙ sym (named-regulations c.args.order.now.id c.args.regulations.now.lists) ∙ sym c.is_open.ensures ∙ c.if-is_open.false in
    let many : 64 ≤ length t.regulations = omega (arith, c.if-count-ge-MAX_REGULATIONS.true, c.count.ensures, count-regulations c.args.regulations.now.lists, ap (λ (rs : List Regulation). length rs) same) in
    full-refused t c.args.order.now c.in_ok-shape.ensures.ok.0 c.in_ok-shape.ensures.ok.1 other (le-leb 64 _ many))

pub returns-clause-asked : goal.returns-clause-asked
returns-clause-asked g c = λ t same.
    (let other = ap (λ (rs : List Regulation). list_any (is_called c.args.order.now.id) rs) same ∙ sym (named-regulations c.args.order.now.id c.args.regulations.now.lists) ∙ sym c.is_open.ensures ∙ c.if-is_open.false in
    let few : length t.regulations < 64 = omega (arith, c.if-count-ge-MAX_REGULATIONS.false, c.count.ensures, count-regulations c.args.regulations.now.lists, ap (λ (rs : List Regulation). length rs) same) in
    opened-asked t c.args.order.now c.in_ok-shape.ensures.ok.0 c.in_ok-shape.ensures.ok.1 other (lt-leb 64 _ few))
