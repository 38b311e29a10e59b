use Rattle.std.proofs.Common.{◌≡◌, ◌∙◌, sym, arith, length}
use Rattle.fpl_items.specs.Items.{words_before}
use Rattle.fpl_items.specs.Estimates.{first_for}
use Rattle.fpl_items.proofs.OtherLemmas.{none-left}
use Rattle.fpl_items.proofs.estimates.note_before_item.Goals as goal

pub returns-clause-noted : goal.returns-clause-noted
returns-clause-noted g c = λ place.
    (let none : length (words_before c.words.words) ≡ 0 = omega (arith, c.words.invariant.counted, c.words.invariant.room, c.requires.room, c.words-test.false, c.len.ensures, c.capacity.ensures) in
    sym (none-left place (words_before c.words.words) (first_for place c.words.notes.items) none) ∙ c.words.invariant.added place)

pub returns-clause-count : goal.returns-clause-count
returns-clause-count g c =
    omega (arith, c.words.invariant.counted, c.words.invariant.room, c.requires.room, c.words-test.false, c.len.ensures, c.capacity.ensures)
