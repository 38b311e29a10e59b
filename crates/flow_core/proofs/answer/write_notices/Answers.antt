use Rattle.std.proofs.Common.{Ok, refl, sym, add-one, ◌+◌, ap, ◌≡◌, suc, ◌∙◌, ◌++◌, List, ℕ, get_or, take, drop}
use Rattle.std.specs.List.{flat_map}
use Rattle.flow_core.specs.Output.{notice_line}
use Rattle.flow_regulations.specs.declared.notice.Notice.{Notice}
use Rattle.flow_input.proofs.Written.{Writes-none, Writes-then, Writes-stopped, flat_map-at}
use Rattle.flow_core.proofs.Lines.{flat_map-next}
use Rattle.flow_core.proofs.answer.write_notices.Goals as goal

pub loop-notice-init : goal.loop-notice-init
loop-notice-init g c = Writes-none g.W.Write.contents (tt {0}) c.args.writer.now

pub returns-in_err-write_notice : goal.returns-in_err-write_notice
returns-in_err-write_notice g c =
    let ns : List Notice = c.args.notices.now in
    let none : Notice = c.notice-item.result in
    let i : ℕ = c.loop-notice.notice-index in
    let line : List ℕ = notice_line none in
    let rest : List ℕ = flat_map notice_line (drop (suc i) ns) in
    let here : none ≡ get_or ns i none = c.notice-item.is in
    Writes-then c.from_residual.result (flat_map notice_line ns) c.loop-notice.invariant
    (Writes-stopped c.from_residual.result rest (line ++ rest) c.from_residual.ensures.0 c.in_err-write_notice.ensures refl)
    (ap (λ n. flat_map notice_line (take i ns) ++ (notice_line n ++ rest)) here ∙ flat_map-at notice_line ns i none c.loop-notice-test.true)

pub loop-notice-preserved : goal.loop-notice-preserved
loop-notice-preserved g c =
    let ns : List Notice = c.args.notices.now in
    let i : ℕ = c.loop-notice.notice-index in
    let item : Notice = c.notice-item.result in
    let here : item ≡ get_or ns i item = c.notice-item.is in
    let next : flat_map notice_line (take i ns) ++ notice_line item ≡ flat_map notice_line (take (i + 1) ns) =
    rw (add-one i) (ap (λ (n : Notice). flat_map notice_line (take i ns) ++ notice_line n) here ∙ sym (flat_map-next notice_line ns i item c.loop-notice-test.true)) in
    Writes-then (Ok (tt {0})) (flat_map notice_line (take (i + 1) ns)) c.loop-notice.invariant c.in_ok-write_notice.ensures next
