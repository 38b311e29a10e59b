use Rattle.std.proofs.Common.{◌+◌, ◌≤◌, length, take, drop, arith, sym, ◌∙◌}
use Rattle.std.proofs.lemmas.Simd.{length-chunk}
use Rattle.memchr.specs.Find.{is_byte2}
use Rattle.flow_input.proofs.FirstBytes.{either_bitmask, found-position, none-farther, rest-position, no-rest-position}
use Rattle.flow_input.proofs.input.first_of.Goals as goal

pub returns-then-bits-ne0 : goal.returns-then-bits-ne0
returns-then-bits-ne0 c =
    let room : c.looks.at + 32 ≤ length c.args.bytes.now = omega (arith, c.looks-test.true) in
    let is = either_bitmask c.args.byte c.args.other (take 32 (drop c.looks.at c.args.bytes.now)) (length-chunk c.looks.at 32 c.args.bytes.now room) in
    found-position (is_byte2 c.args.byte c.args.other) c.args.bytes.now c.looks.at _ room c.looks.invariant.none is (omega (arith, c.if-bits-ne0.true))

pub looks-preserved : goal.looks-preserved
looks-preserved c =
    let room : c.looks.at + 32 ≤ length c.args.bytes.now = omega (arith, c.looks-test.true) in
    let is = either_bitmask c.args.byte c.args.other (take 32 (drop c.looks.at c.args.bytes.now)) (length-chunk c.looks.at 32 c.args.bytes.now room) in
    record {
      within = room;
      none = none-farther (is_byte2 c.args.byte c.args.other) c.args.bytes.now c.looks.at _ room c.looks.invariant.none is c.if-bits-ne0.false;
    }

pub returns-in_err-rest : goal.returns-in_err-rest
returns-in_err-rest c =
    c.from_residual.ensures
    ∙ no-rest-position (is_byte2 c.args.byte c.args.other) c.args.bytes.now c.looks.at c.looks.invariant.none (sym c.first_of_few.ensures ∙ c.in_err-rest.was)

pub returns : goal.returns
returns c =
    rest-position (is_byte2 c.args.byte c.args.other) c.args.bytes.now c.looks.at c.in_ok-rest.rest c.looks.invariant.none (sym c.first_of_few.ensures ∙ c.in_ok-rest.was)
