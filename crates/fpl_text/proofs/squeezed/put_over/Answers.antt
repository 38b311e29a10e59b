use Rattle.std.proofs.Common.{drop, arith}
use Rattle.std.proofs.lemmas.List.{length-drop}
use Rattle.fpl_text.proofs.LookLemmas.{ends-cover}
use Rattle.fpl_text.proofs.squeezed.put_over.Goals as goal

pub returns-then-len-le32 : goal.returns-then-len-le32
returns-then-len-le32 c =
    ends-cover c.args.bytes.now (drop 16 c.args.to.now) _ _ 16 (omega (arith, c.if-len-lt16.false)) (omega (arith, c.if-len-le32.true)) (omega (arith, length-drop 16 c.args.to.now, c.requires))
    c.copy_from_slice-then-len-le32.ensures.after c.copy_from_slice-then-len-le32-2.ensures.after
