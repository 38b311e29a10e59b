use Rattle.std.proofs.Common.{◌≡◌, ◌+◌, length, arith, sym, ◌∙◌}
use Rattle.flow_traffic.proofs.Telling.{told_to-same, told_to-new}
use Rattle.flow_traffic.proofs.messages.make_place.Goals as goal

pub returns-then-len-count-clause-told : goal.returns-then-len-count-clause-told
returns-then-len-count-clause-told g c = λ plans e.
    let one : length plans ≡ length c.args.told.now.items + 1 = omega (arith, c.args.told.now.ok.0, e) in
    c.push_reserved.ensures.items ∙ sym (told_to-new plans c.args.told.now.items one)

pub returns-else-len-count-clause-told : goal.returns-else-len-count-clause-told
returns-else-len-count-clause-told g c = λ plans e.
    let all : length c.args.told.now.items ≡ length plans = omega (arith, c.args.told.now.ok.0, e) in
    sym (told_to-same plans c.args.told.now.items all)
