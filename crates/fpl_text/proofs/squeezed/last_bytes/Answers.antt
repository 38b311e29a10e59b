use Rattle.std.proofs.Common.{arith, refl, replicate}
use Rattle.fpl_text.proofs.LookLemmas.{last-at, short-at}
use Rattle.fpl_text.proofs.squeezed.last_bytes.Goals as goal

pub returns-then-text-ge32 : goal.returns-then-text-ge32
returns-then-text-ge32 c k l = last-at c.args.text.now c.copy_from_slice.new.self k (omega (arith, c.if-text-ge32.true)) l c.copy_from_slice.ensures.after

pub returns-else-text-ge32 : goal.returns-else-text-ge32
returns-else-text-ge32 c k l = short-at c.args.text.now (replicate 32 0) c.put_last.new.to k refl (omega (arith, c.if-text-ge32.false)) c.put_last.ensures
