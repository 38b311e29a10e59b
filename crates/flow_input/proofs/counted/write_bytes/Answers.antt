use Rattle.std.proofs.Common.{arith, rules, ◌∙◌, length-drop}
use Rattle.std.proofs.lemmas.List.{take_rest}
use Rattle.flow_input.proofs.Written.{Appends-more, AppendsFront-stop}
use Rattle.flow_input.proofs.counted.write_bytes.Goals as goal

pub turns-preserved : goal.turns-preserved
turns-preserved g c =
    let n = rw (take_rest c.args.bytes.now c.turns.written) at c.in-Some.ensures.some in
    let w = rw (take_rest c.args.bytes.now c.turns.written) at c.in-Some.ensures.written in (
      omega (arith, n.1, length-drop c.turns.written c.args.bytes.now),
      Appends-more (g.W.Write.contents c.args.writer.now.device) (g.W.Write.contents c.turns.writer.device) (g.W.Write.contents c.write_some.new.writer.device) c.args.bytes.now c.turns.written c.in-Some.n c.turns.invariant.1 w,
      c.in-Some.ensures.no_failure ∙ c.turns.invariant.2,
    )

pub returns-in_default : goal.returns-in_default
returns-in_default g c = record {
  ok = tt;
  err = AppendsFront-stop (g.W.Write.contents c.args.writer.now.device) (g.W.Write.contents c.turns.writer.device) (g.W.Write.contents c.write_some.new.writer.device) c.args.bytes.now c.turns.written c.turns.invariant.1 c.in_default.ensures.none;
  no_failure = tt;
  failed = search rules;
}
