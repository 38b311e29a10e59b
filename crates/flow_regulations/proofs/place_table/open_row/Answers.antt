use Rattle.std.proofs.Common.{◌≡◌, ℕ, ◌<◌, length, get_or, sym, arith}
use Rattle.std.proofs.lemmas.Bool.{eq-eqb}
use Rattle.std.proofs.lemmas.Grind.{get_or_default_zero}
use Rattle.flow_regulations.specs.Marks.{mask_of, IsOpenedIn}
use Rattle.flow_regulations.proofs.MarkBits.{ones-stand}
use Rattle.flow_regulations.proofs.Marking.{words-done, words-rest, words-all}
use Rattle.flow_regulations.proofs.place_table.open_row.Goals as goal

pub loop-row-preserved : goal.loop-row-preserved
loop-row-preserved c =
    let s = c.loop-row in
    let j : ℕ = s.row in
    let within : j < length s.table = omega (arith, c.loop-row-test.true, s.auto.table) in
    let w : ℕ = get_or s.table j 0 in
    let same : w ≡ mask_of s.table j = sym (get_or_default_zero s.table j 18_446_744_073_709_551_615 within) in
    let here : IsOpenedIn c.args.own c.args.index j w c.with_place.result =
    (c.with_place.ensures.before, λ e. c.with_place.ensures.marked (eq-eqb j c.args.own e)) in
    record {
      done = words-done (IsOpenedIn c.args.own c.args.index) c.args.table.now s.table j s.invariant.done s.invariant.rest w c.with_place.result within same here;
      rest = words-rest (IsOpenedIn c.args.own c.args.index) c.args.table.now s.table j s.invariant.done s.invariant.rest c.with_place.result;
    }

pub returns : goal.returns
returns c =
    words-all (IsOpenedIn c.args.own c.args.index) c.args.table.now c.loop-row.table c.loop-row.row c.loop-row.invariant.done c.loop-row.invariant.rest (omega arith)
    (λ f. (λ i b s. s, λ e. ones-stand c.args.index))
