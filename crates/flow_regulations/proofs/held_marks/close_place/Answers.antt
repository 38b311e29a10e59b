use Rattle.std.proofs.Common.{◌≡◌, ℕ, ◌<◌, length, get_or, sym, arith}
use Rattle.std.proofs.lemmas.Grind.{get_or_default_zero}
use Rattle.flow_regulations.specs.Marks.{mask_of, MaskMovesUp}
use Rattle.flow_regulations.proofs.MarkBits.{late-moves}
use Rattle.flow_regulations.proofs.Marking.{words-done, words-rest, words-all, ones-move}
use Rattle.flow_regulations.proofs.held_marks.close_place.Goals as goal

pub returns-then-index-ge64 : goal.returns-then-index-ge64
returns-then-index-ge64 c = λ f. late-moves (mask_of c.args.words.now f) c.args.index c.if-index-ge64.true

pub loop-word-preserved : goal.loop-word-preserved
loop-word-preserved c =
    let s = c.loop-word in
    let j : ℕ = s.word-index in
    let within : j < length s.words = omega (arith, c.loop-word-test.true, s.auto.words) in
    let w : ℕ = get_or s.words j 0 in
    let same : w ≡ mask_of s.words j = sym (get_or_default_zero s.words j 18_446_744_073_709_551_615 within) in
    let here : MaskMovesUp c.args.index w c.without_place.result = c.without_place.ensures in
    record {
      done = words-done (λ _. MaskMovesUp c.args.index) c.args.words.now s.words j s.invariant.done s.invariant.rest w c.without_place.result within same here;
      rest = words-rest (λ _. MaskMovesUp c.args.index) c.args.words.now s.words j s.invariant.done s.invariant.rest c.without_place.result;
    }

pub returns : goal.returns
returns c = words-all (λ _. MaskMovesUp c.args.index) c.args.words.now c.loop-word.words c.loop-word.word-index c.loop-word.invariant.done c.loop-word.invariant.rest (omega arith) (ones-move c.args.index)
