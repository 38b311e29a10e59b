use Rattle.std.proofs.Common.{◌≡◌, ℕ, ◌<◌, length, get_or, sym, arith}
use Rattle.std.proofs.lemmas.Grind.{get_or_default_zero}
use Rattle.flow_regulations.specs.Marks.{mask_of, KeepsBelow}
use Rattle.flow_regulations.proofs.MarkBits.{cut-stands}
use Rattle.flow_regulations.proofs.Marking.{words-done, words-rest, words-all, ones-below}
use Rattle.flow_regulations.proofs.held_marks.clear_from.Goals as goal

pub loop-word-preserved : goal.loop-word-preserved
loop-word-preserved c =
    let s = c.loop-word in
    let j : ℕ = s.word-index in
    let within : j < length s.words = omega (arith, c.loop-word-test.true, s.auto.words) in
    let w : ℕ = get_or s.words j 0 in
    let same : w ≡ mask_of s.words j = sym (get_or_default_zero s.words j 18_446_744_073_709_551_615 within) in
    let here = cut-stands w c.args.index c.requires in
    record {
      done = words-done (λ _. KeepsBelow c.args.index) c.args.words.now s.words j s.invariant.done s.invariant.rest w _ within same here;
      rest = words-rest (λ _. KeepsBelow c.args.index) c.args.words.now s.words j s.invariant.done s.invariant.rest _;
    }

pub returns : goal.returns
returns c = words-all (λ _. KeepsBelow c.args.index) c.args.words.now c.loop-word.words c.loop-word.word-index c.loop-word.invariant.done c.loop-word.invariant.rest (omega arith) (ones-below c.args.index)
