-- The walk over the fields 22 of a modification.
use Rattle.std.proofs.Common.{◌≡◌, ℕ, ◌+◌, ◌<◌, ◌≤◌, List, [], length, drop, Ok, sym, ap, ◌∙◌, add-one}
use Rattle.std.proofs.Math.Seq.{drop-cons}
use Rattle.std.proofs.Math.ListN.{drop_of_length-le}
use Rattle.std.proofs.lemmas.Option.{unwrap_or-slice_get}
use Rattle.std.specs.Prelude.{Result}
use Rattle.fpl_message.specs.Refusals.{◌>>=◌}
use Rattle.fpl_message.specs.declared.refusal.Refusal.{Refusal}
use Rattle.fpl_message.specs.Messages.{field, ChgView}
use Rattle.fpl_message.specs.Modifications.{amend, amend_all}

-- from an index on: the field there, and then those after it
pub amended-drop : (fields : List (List ℕ)) (place : ℕ) (m : ChgView) → place < length fields
    → amend_all (drop place fields) m ≡ (amend (field fields place) m >>= amend_all (drop (place + 1) fields))
amended-drop fields place m h =
    rw (add-one, unwrap_or-slice_get) (ap (λ rest. amend_all rest m) (drop-cons fields place [] h))

-- after the last field there is none
pub amended-past : (fields : List (List ℕ)) (place : ℕ) (m : ChgView) → length fields ≤ place → amend_all (drop place fields) m ≡ Ok m
amended-past fields place m h = ap (λ rest. amend_all rest m) (drop_of_length-le fields h)

-- a step of the walk that is taken
pub amended-on : (fields : List (List ℕ)) (place : ℕ) (m next : ChgView) (all : Result ChgView Refusal) → place < length fields
    → amend (field fields place) m ≡ Ok next → amend_all (drop place fields) m ≡ all → amend_all (drop (place + 1) fields) next ≡ all
amended-on fields place m next all h step is =
    let rest = amend_all (drop (place + 1) fields) in
    sym (ap (λ r. r >>= rest) step) ∙ (sym (amended-drop fields place m h) ∙ is)

-- the steps of the walk
pub ruleset amended_steps = (amended-drop, amended-past)
