use Rattle.std.proofs.Common.{◌≡◌, ◌+◌, length, true, List, ℕ}
use Rattle.std.specs.Prelude.{vec_len, vec_capacity}
use Rattle.std.specs.List.{list_all}
use Rattle.std.specs.Option.{option_or}
use Rattle.fpl_items.specs.Items.{elapsed_to, items_of}
use Rattle.fpl_items.specs.Estimates.{first_for, HasPlacesOf, has_estimates, estimate_count}
use Rattle.fpl_items.proofs.estimates.note_items.Given as goal

abbrev pub invariant-items : goal.invariant-items
invariant-items g l = record {
  are : list_all has_estimates (items_of l.words) ≡ true;
  told : (place : List ℕ) → option_or (first_for place l.notes.items) (elapsed_to place (items_of l.words)) ≡ elapsed_to place (items_of l.fn.words);
  counted : vec_len l.notes + estimate_count (items_of l.words) ≡ l.count;
  room : vec_capacity l.notes ≡ vec_capacity l.initial.notes;
  places : HasPlacesOf l.places l.notes.items;
}

abbrev pub decreases-items : goal.decreases-items
decreases-items g l = length (items_of l.words)
