use Rattle.std.proofs.Common.{◌≡◌, ◌+◌, length, true, List, ℕ}
use Rattle.std.specs.Prelude.{vec_len, vec_capacity}
use Rattle.std.specs.List.{list_all}
use Rattle.std.specs.Option.{option_or}
use Rattle.fpl_items.specs.Items.{words_before, is_estimate, estimate_for, items_of}
use Rattle.fpl_items.specs.Estimates.{first_for, HasPlacesOf}
use Rattle.fpl_items.proofs.estimates.note_before_item.Given as goal

abbrev pub invariant-words : goal.invariant-words
invariant-words g l = record {
  are : list_all is_estimate (words_before l.words) ≡ true;
  added : (place : List ℕ) → option_or (first_for place l.notes.items) (estimate_for place (words_before l.words)) ≡ option_or (first_for place l.initial.notes.items) (estimate_for place (words_before l.fn.words));
  counted : vec_len l.notes + length (words_before l.words) ≡ vec_len l.initial.notes + length (words_before l.fn.words);
  items : items_of l.words ≡ items_of l.fn.words;
  room : vec_capacity l.notes ≡ vec_capacity l.initial.notes;
  places : HasPlacesOf l.places l.notes.items;
}

abbrev pub decreases-words : goal.decreases-words
decreases-words g l = length l.words
