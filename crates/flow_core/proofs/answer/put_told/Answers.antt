use Rattle.std.proofs.Common.{◌++◌, ◌∙◌, ◌%◌, append_assoc, codes}
use Rattle.fpl_text.specs.Moments.{hhmm_of}
use Rattle.flow_core.proofs.answer.put_told.Goals as goal

pub returns-clause-items : goal.returns-clause-items
returns-clause-items c =
    let line = c.args.line.now.items in
    let time = hhmm_of (c.args.told.now.ctot % 1440) in
    let name = c.args.told.now.regulation in
    rw (c.put-3.ensures.items, c.put-2.ensures.items, c.put.ensures.items, c.as_bytes.ensures.value, c.hhmm.ensures, c.as_bytes-2.ensures.value)
    (append_assoc (line ++ time) (codes " -REGUL ") name ∙ append_assoc line time (codes " -REGUL " ++ name))
