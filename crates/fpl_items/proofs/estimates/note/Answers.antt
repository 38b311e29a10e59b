use Rattle.std.proofs.Common.{◌≡◌, ◌-◌, ◌≤◌, length, take, drop, Some, sym, ap, ◌∙◌}
use Rattle.std.specs.Option.{option_or}
use Rattle.fpl_text.specs.Times.{elapsed_time}
use Rattle.fpl_items.specs.Items.{estimate_for}
use Rattle.fpl_items.specs.Points.{stored_name}
use Rattle.fpl_items.specs.Estimates.{first_for}
use Rattle.fpl_items.proofs.Notes.{one-more, place-noted}
use Rattle.fpl_items.proofs.OtherLemmas.{estimate-short}
use Rattle.fpl_items.proofs.estimates.note.Goals as goal

pub returns-clause-noted : goal.returns-clause-noted
returns-clause-noted g c = λ place words.
    (let word = c.args.word.now in
    let short : length (take (length word - 4) word) ≤ 11 = estimate-short word c.requires.is in
    let kept : c.new.result.name ≡ stored_name (take (length word - 4) word) = c.new.ensures.0 ∙ ap stored_name c.split_at.ensures.front in
    let time : elapsed_time (drop (length word - 4) word) ≡ Some c.new.result.minutes =
    ap elapsed_time (sym c.split_at.ensures.back) ∙ (c.minutes_of_elapsed.ensures.value ∙ ap (λ m. Some m) (sym c.new.ensures.1)) in
    ap (λ notes. option_or (first_for place notes) (estimate_for place words)) c.push_reserved.ensures.items
    ∙ one-more c.args.notes.now.items c.new.result word short kept time place words)

pub returns-clause-places : goal.returns-clause-places
returns-clause-places g c =
    let word = c.args.word.now in
    let short : length c.split_at.result.0.now ≤ 11 = rw c.split_at.ensures.front (estimate-short word c.requires.is) in
    place-noted c.split_at.result.0.now c.args.places c.with_place.result c.args.notes.now.items c.push_reserved.new.self.items c.new.result short c.new.ensures.0
    c.push_reserved.ensures.items c.with_place.ensures.added c.with_place.ensures.kept c.requires.places
