-- What a feeder is answered for its frames.
use Rattle.std.specs.Prelude.{ℕ, zero, suc, length, nat_le, if◌then◌else◌, List, [], ◌∷◌, ◌++◌, drop}
use Rattle.fpl_message.specs.declared.filing.TheConstants.{MAX_BYTES}
use Rattle.flow_core.specs.State.{State, EntryView}
use Rattle.flow_core.specs.Output.{answer_of, too_long_line, journal_full_line}

-- the answer to the first of these entries; if there is none, the line of a filing that found the
-- journal full
abbrev pub first_answer : State → List EntryView → List ℕ
first_answer s [] = journal_full_line
first_answer s (e ∷ es) = answer_of s e

-- What is written for these frames, of whose filings the first have these entries: frame by frame
-- the answer to its entry, or the line of one that has none, and an empty line after each.
unfoldable pub told : State → List (List ℕ) → List EntryView → List ℕ
told s [] es = []
told s (f ∷ fs) es =
    if nat_le (length f) MAX_BYTES
    then first_answer s es ++ 10 ∷ told s fs (drop 1 es)
    else too_long_line ++ 10 ∷ told s fs es

-- the lines of n filings that found the journal full
abbrev pub full_answers : ℕ → List ℕ
full_answers zero = []
full_answers (suc n) = (journal_full_line ++ 10 ∷ []) ++ full_answers n
