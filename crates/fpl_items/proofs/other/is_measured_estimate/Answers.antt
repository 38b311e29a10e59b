use Rattle.std.proofs.Common.{◌-◌, ◌∙◌, length, sym, refl}
use Rattle.std.proofs.lemmas.Bool.{le-leb, lt-leb}
use Rattle.fpl_items.proofs.Notes.{if-both}
use Rattle.fpl_items.proofs.OtherLemmas.{estimate-measured, estimate-few, estimate-many}
use Rattle.fpl_items.proofs.other.is_measured_estimate.Goals as goal

pub returns-then-word-lt5 : goal.returns-then-word-lt5
returns-then-word-lt5 c = sym (estimate-few c.args.measured.now.word.now c.if-word-lt5.true)

pub returns-then-word-gt15 : goal.returns-then-word-gt15
returns-then-word-gt15 c = sym (estimate-many c.args.measured.now.word.now c.if-word-gt15.true)

pub returns-then-measured-word : goal.returns-then-measured-word
returns-then-measured-word c =
    let word = c.args.measured.now.word.now in
    let n = c.args.measured.now.letters_or_digits in
    sym (rw (estimate-measured word n c.requires c.if-word-lt5.false c.if-word-gt15.false, lt-leb (length word - 4) n c.if-measured-word.true) refl)

pub returns : goal.returns
returns c =
    let word = c.args.measured.now.word.now in
    let n = c.args.measured.now.letters_or_digits in
    c.ends_with_time.ensures ∙ sym (estimate-measured word n c.requires c.if-word-lt5.false c.if-word-gt15.false ∙ if-both _ _ (le-leb (length word - 4) n c.if-measured-word.false))
