use Rattle.std.proofs.Common.{◌++◌, ap, arith, sym, ◌∙◌, length}
use Rattle.std.specs.Option.{option_or}
use Rattle.fpl_items.specs.Items.{estimate_for}
use Rattle.fpl_items.specs.Estimates.{first_for}
use Rattle.fpl_items.proofs.EffectLemmas.{own-is}
use Rattle.fpl_items.proofs.estimates.note_own.Goals as goal

pub note-requires-clause-room : goal.note-requires-clause-room
note-requires-clause-room g c =
    omega (arith, c.requires.room, ap length (own-is c.args.words.now c.next_estimate.new.words c.in-Some.word.now c.in-Some.ensures.next c.in-Some.ensures.is))

pub returns-in-Some-clause-noted : goal.returns-in-Some-clause-noted
returns-in-Some-clause-noted g c = λ place words.
    (let own = own-is c.args.words.now c.next_estimate.new.words c.in-Some.word.now c.in-Some.ensures.next c.in-Some.ensures.is in
    c.note.ensures.noted place words ∙ ap (λ ws. option_or (first_for place c.args.notes.now.items) (estimate_for place (ws ++ words))) (sym own))

pub returns-in-Some-clause-count : goal.returns-in-Some-clause-count
returns-in-Some-clause-count g c =
    omega (arith, c.note.ensures.count, ap length (own-is c.args.words.now c.next_estimate.new.words c.in-Some.word.now c.in-Some.ensures.next c.in-Some.ensures.is))
