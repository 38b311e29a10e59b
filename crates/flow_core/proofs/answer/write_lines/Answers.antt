use Rattle.std.proofs.Common.{◌++◌, refl}
use Rattle.std.specs.List.{flat_map}
use Rattle.flow_core.specs.Output.{notice_line, answer_line}
use Rattle.flow_input.proofs.Written.{Writes-then, Writes-stopped}
use Rattle.flow_core.proofs.answer.write_lines.Goals as goal

pub returns-in_err-write_line : goal.returns-in_err-write_line
returns-in_err-write_line g c =
    Writes-stopped c.from_residual.result (flat_map notice_line c.args.notices.now) (answer_line c.args.receipt.now ++ flat_map notice_line c.args.notices.now) c.from_residual.ensures.0
    c.in_err-write_line.ensures refl

pub returns : goal.returns
returns g c =
    Writes-then c.write_notices.result (answer_line c.args.receipt.now ++ flat_map notice_line c.args.notices.now) c.in_ok-write_line.ensures c.write_notices.ensures refl
