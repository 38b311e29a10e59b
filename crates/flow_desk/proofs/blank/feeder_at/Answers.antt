use Rattle.std.proofs.Common.{◌≡◌, ◌+◌, ◌-◌, None, arith, refl, sym, ◌∙◌, slice_get}
use Rattle.flow_core.specs.History.{state_of}
use Rattle.flow_desk.proofs.Resuming.{get-none}
use Rattle.flow_desk.proofs.blank.feeder_at.Goals as goal

pub unreachable-requires : goal.unreachable-requires
unreachable-requires g c =
    let journal = (state_of c.args.core.now).journal in
    let same : c.args.index + 1 - 1 ≡ c.args.index = omega arith in
    let none : slice_get journal (c.args.index + 1 - 1) ≡ None = sym (c.entry.ensures.entry (omega arith)) ∙ rw c.in-None.is refl in
    get-none journal c.args.index (rw same at none) c.requires
