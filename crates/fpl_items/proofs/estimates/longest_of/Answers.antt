use Rattle.std.proofs.Common.{◌∙◌, ap, sym}
use Rattle.std.proofs.lemmas.List.{drop_all}
use Rattle.fpl_items.proofs.Longest.{longest_after, longest-found}
use Rattle.fpl_items.proofs.estimates.longest_of.Goals as goal

pub returns : goal.returns
returns c = λ place.
    (let last = ap (longest_after c.loop-note.longest) (drop_all c.loop-note.note-index c.args.notes.now c.loop-note-test.false) in
    rw (sym last ∙ c.loop-note.invariant) (longest-found place 0 c.args.notes.now))
