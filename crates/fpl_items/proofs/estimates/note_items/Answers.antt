use Rattle.std.proofs.Common.{◌≡◌, ◌∷◌, [], ◌∙◌, ap, arith, sym, refl, length, drop}
use Rattle.std.specs.Option.{option_or}
use Rattle.std.specs.List.{list_all}
use Rattle.fpl_items.specs.Items.{ItemView, item_at, items_of, from_effect, eet_of, elapsed_to}
use Rattle.fpl_items.specs.Estimates.{first_for, estimate_count, estimates_in, has_estimates}
use Rattle.fpl_items.proofs.OtherLemmas.{none-elapsed, or-none}
use Rattle.fpl_items.proofs.EffectLemmas.{NextItem, next-item, noted-item, passed-item, other-item, all-of, elapsed-later}
use Rattle.fpl_items.proofs.estimates.note_items.Goals as goal

pub returns-clause-noted : goal.returns-clause-noted
returns-clause-noted g c = λ place.
    (let none : estimate_count (items_of c.items.words) ≡ 0 = omega (arith, c.items.invariant.counted, c.items-test.false, c.len.ensures) in
    sym (or-none (first_for place c.items.notes.items)) ∙ sym (ap (option_or (first_for place c.items.notes.items)) (none-elapsed place (items_of c.items.words) none)) ∙ c.items.invariant.told place)

pub note_words-places-requires-clause-are : goal.note_words-places-requires-clause-are
note_words-places-requires-clause-are g c =
    let left = items_of c.items.words in
    let words = c.take_eet.new.words in
    let same : from_effect left ≡ eet_of words ∷ items_of (drop 1 words) = sym c.skip_to_effect.ensures.items ∙ c.take_eet.ensures.yes c.if-take_eet.true in
    let next : NextItem (eet_of words) (items_of (drop 1 words)) left = next-item (eet_of words) (items_of (drop 1 words)) left same in
    (all-of (eet_of words) (items_of (drop 1 words)) left next c.items.invariant.are).0

pub note_words-places-requires-clause-room : goal.note_words-places-requires-clause-room
note_words-places-requires-clause-room g c =
    let left = items_of c.items.words in
    let words = c.take_eet.new.words in
    let same : from_effect left ≡ eet_of words ∷ items_of (drop 1 words) = sym c.skip_to_effect.ensures.items ∙ c.take_eet.ensures.yes c.if-take_eet.true in
    let next : NextItem (eet_of words) (items_of (drop 1 words)) left = next-item (eet_of words) (items_of (drop 1 words)) left same in
    omega (arith, next.count, c.items.invariant.counted, c.items.invariant.room, c.requires.room)

pub items-smaller-then-take_eet : goal.items-smaller-then-take_eet
items-smaller-then-take_eet g c =
    let left = items_of c.items.words in
    let words = c.take_eet.new.words in
    let same : from_effect left ≡ eet_of words ∷ items_of (drop 1 words) = sym c.skip_to_effect.ensures.items ∙ c.take_eet.ensures.yes c.if-take_eet.true in
    let next : NextItem (eet_of words) (items_of (drop 1 words)) left = next-item (eet_of words) (items_of (drop 1 words)) left same in
    omega (arith, next.fewer, ap length c.note_words-places.ensures.items)

pub items-preserved-then-take_eet : goal.items-preserved-then-take_eet
items-preserved-then-take_eet g c =
    let left = items_of c.items.words in
    let words = c.take_eet.new.words in
    let same : from_effect left ≡ eet_of words ∷ items_of (drop 1 words) = sym c.skip_to_effect.ensures.items ∙ c.take_eet.ensures.yes c.if-take_eet.true in
    let next : NextItem (eet_of words) (items_of (drop 1 words)) left = next-item (eet_of words) (items_of (drop 1 words)) left same in
    let rest = c.note_words-places.ensures.items in
    record {
      are = ap (list_all has_estimates) rest ∙ (all-of (eet_of words) (items_of (drop 1 words)) left next c.items.invariant.are).1;
      told = λ place.
          ap (λ items. option_or (first_for place c.note_words-places.new.notes.items) (elapsed_to place items)) rest
          ∙ noted-item (eet_of words) (items_of (drop 1 words)) left place (first_for place c.items.notes.items) _ next refl (c.note_words-places.ensures.noted place)
          ∙ c.items.invariant.told place;
      counted = omega (arith, next.count, ap estimate_count rest, c.items.invariant.counted, c.note_words-places.ensures.count);
      room = c.note_words-places.ensures.room ∙ c.items.invariant.room;
      places = c.note_words-places.ensures.places;
    }

pub returns-in_default-clause-noted : goal.returns-in_default-clause-noted
returns-in_default-clause-noted g c = λ place.
    (let no = c.take_eet.ensures.no c.if-take_eet.false in
    let none : from_effect (items_of c.items.words) ≡ [] = sym c.skip_to_effect.ensures.items ∙ ap items_of (sym no.0) ∙ c.in_default.ensures.items in
    sym (or-none (first_for place c.items.notes.items))
    ∙ sym (ap (option_or (first_for place c.items.notes.items)) (elapsed-later place (items_of c.items.words) ∙ ap (elapsed_to place) none))
    ∙ c.items.invariant.told place)

pub items-smaller : goal.items-smaller
items-smaller g c =
    let left = items_of c.items.words in
    let item : ItemView = item_at c.in-Some._first.word.now c.take_first.new.words in
    let rest = items_of c.take_first.new.words in
    let no = c.take_eet.ensures.no c.if-take_eet.false in
    let mid : items_of c.skip_to_effect.new.words ≡ item ∷ rest = ap items_of (sym no.0) ∙ c.in-Some.ensures.items in
    let next : NextItem item rest left = next-item item rest left (sym c.skip_to_effect.ensures.items ∙ mid) in
    omega (arith, next.fewer)

pub items-preserved : goal.items-preserved
items-preserved g c =
    let left = items_of c.items.words in
    let item : ItemView = item_at c.in-Some._first.word.now c.take_first.new.words in
    let rest = items_of c.take_first.new.words in
    let no = c.take_eet.ensures.no c.if-take_eet.false in
    let mid : items_of c.skip_to_effect.new.words ≡ item ∷ rest = ap items_of (sym no.0) ∙ c.in-Some.ensures.items in
    let next : NextItem item rest left = next-item item rest left (sym c.skip_to_effect.ensures.items ∙ mid) in
    let other = other-item (items_of c.skip_to_effect.new.words) rest item no.1 mid in
    let none : estimates_in item ≡ 0 = rw other refl in
    record {
      are = (all-of item rest left next c.items.invariant.are).1;
      told = λ place. sym (ap (option_or (first_for place c.items.notes.items)) (passed-item item rest left place next other)) ∙ c.items.invariant.told place;
      counted = omega (arith, next.count, none, c.items.invariant.counted);
      room = c.items.invariant.room;
      places = c.items.invariant.places;
    }
