use Rattle.std.proofs.Common.{◌+◌, ◌/◌, ◌%◌, ◌∷◌, [], ℕ, List}
use Rattle.std.proofs.lemmas.List.{append_assoc}
use Rattle.flow_core.proofs.Pairs.{tens_of, units_of}
use Rattle.flow_core.proofs.answer.put_pair.Goals as goal

pub returns-clause-items : goal.returns-clause-items
returns-clause-items c =
    let n = c.args.number in
    let before : List ℕ = c.args.line.now.items in
    rw (c.push-2.ensures.items, c.push.ensures.items, tens_of n c.requires.below, units_of n c.requires.below) (append_assoc before ((48 + n / 10) ∷ []) ((48 + n % 10) ∷ []))
