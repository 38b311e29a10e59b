-- The run of a program with many feeders.
use Rattle.std.specs.Prelude.{◌≡◌, ◌≢◌, ◌⊎◌, ℕ, zero, suc, ◌-◌, ◌<◌, ◌≤◌, Bool, true, false, List, [], ◌++◌, length, drop, codes, Option, Some, None, Result, Ok, Err, IfSome}
use Rattle.std.specs.List.{All, flat_map}
use Rattle.std.specs.Io.KnownBytes.{Appends, Keeps}
use mathlib.Core.List.{IsPrefix}
use Rattle.flow_plans.specs.Settings.{SetupView}
use Rattle.flow_input.specs.Frames.{frames}
use Rattle.flow_input.specs.Cutting.{Overrun}
use Rattle.flow_input.specs.declared.input.TheConstants.{MAX_INPUT}
use Rattle.flow_input.specs.Writes.{AppendsFront, Writes}
use Rattle.flow_input.specs.declared.counted.Counted.{Counted}
use Rattle.flow_core.specs.State.{State, Input, EntryView}
use Rattle.flow_core.specs.Steps.{run}
use Rattle.flow_core.specs.History.{History, state_of}
use Rattle.flow_core.specs.CoreView.{inputs, texts_of}
use Rattle.flow_core.specs.Output.{answer_of, journal_full_line}
use Rattle.flow_core.specs.Journal.{journal_text, IsJournal, HoldsJournal}
use Rattle.flow_desk.specs.Histories.{own, after}
use Rattle.flow_desk.specs.Blanks.{first_beyond}
use Rattle.flow_runs.specs.Dealing.{dealt}
use Rattle.flow_runs.specs.declared.fault.RunFault.{RunFault}
use Rattle.flow_runs.specs.declared.fault.RunFault.TheVariants as fault
use Rattle.flow_input.specs.Filings.{filings}
use Rattle.flow_runs.specs.Reading.{long_lines, ToldFirst, ToldEnded, ToldFront}

-- ---- what is written

-- the answers to some entries of a journal
abbrev pub answers : State → List EntryView → List ℕ
answers s entries = flat_map (answer_of s) entries

-- a line for each of `count` filings at a full journal
abbrev pub full_lines : ℕ → List ℕ
full_lines zero = []
full_lines (suc n) = journal_full_line ++ full_lines n

-- the journal text, if it is asked for
abbrev pub asked_journal : Bool → State → List ℕ
asked_journal false s = []
asked_journal true s = journal_text s.setup (inputs s.journal)

-- after the last answer: a line for each filing that has no entry, and the journal text if it is
-- asked for
abbrev pub end_before_replay : State → ℕ → Bool → List ℕ
end_before_replay s left journal = full_lines left ++ asked_journal journal s

-- and that a replay has the same state
abbrev pub end_lines : State → ℕ → Bool → List ℕ
end_lines s left journal = end_before_replay s left journal ++ codes "REPLAY OK\n"

-- What a call leaves that writes this text, and after it that a replay has the same state. If an
-- allocation for the replay failed, its line alone is missing, and no call of the device failed.
abbrev pub WritesWithReplay : {D : Type 0} → (D → Option (List ℕ)) → Result (Unit {0}) RunFault → Counted D → Counted D → List ℕ → Type 0
WritesWithReplay contents (Ok x) old new text = Writes {E = RunFault} contents (Ok x) old new (text ++ codes "REPLAY OK\n")
WritesWithReplay contents (Err fault.Write) old new text = Writes {T = Unit {0}} contents (Err fault.Write) old new (text ++ codes "REPLAY OK\n")
WritesWithReplay contents (Err fault.OutOfMemory) old new text = Writes {E = RunFault} contents (Ok (tt {0})) old new text
WritesWithReplay contents (Err _) old new text = ⊥

-- the answers to the entries after the first `read`, and what follows them, if `count` filings were
-- dealt
abbrev pub answers_and_end : State → ℕ → ℕ → Bool → List ℕ
answers_and_end s read count journal = answers s (drop read s.journal) ++ end_lines s (count - (length s.journal - read)) journal

-- for an input: a line for each frame that is too long, and the answers to these entries, which
-- follow those read
abbrev pub answered_now : SetupView → List EntryView → List (List ℕ) → List EntryView → List ℕ
answered_now setup read input entries = long_lines input ++ answers (after setup (read ++ entries)) entries

-- and what follows the last answer, with its last line or without it
abbrev pub ended : SetupView → List EntryView → Bool → List (List ℕ) → List EntryView → List ℕ
ended setup read journal input entries =
    long_lines input ++ (answers (after setup (read ++ entries)) entries ++ end_lines (after setup (read ++ entries)) (length (filings input) - length entries) journal)

abbrev pub ended_before_replay : SetupView → List EntryView → Bool → List (List ℕ) → List EntryView → List ℕ
ended_before_replay setup read journal input entries =
    long_lines input ++ (answers (after setup (read ++ entries)) entries ++ end_before_replay (after setup (read ++ entries)) (length (filings input) - length entries) journal)

-- ---- a run

-- After the entries read there are these. They are of the feeders, and together they are a history
-- of the desk of one thread. Each feeder has filed a prefix of what is dealt to it, and all of it
-- if the journal isn't full. What was written is a line for each frame that is too long, the
-- answers to these entries, and what follows the last answer.
pub record RanMany (setup : SetupView) (read : List EntryView) (feeders : ℕ) (journal : Bool) (input : List (List ℕ)) (begun written : Option (List ℕ)) : Type 0 where
  pub entries : List EntryView
  pub one_thread : (after setup (read ++ entries)).journal ≡ read ++ entries
  pub below : All (λ e. e.input.feeder < feeders) entries
  pub fronts : (k : ℕ) → k < feeders → IsPrefix (texts_of (own k entries)) (dealt feeders k (filings input))
  pub whole : length (read ++ entries) < setup.max_entries → (k : ℕ) → k < feeders → texts_of (own k entries) ≡ dealt feeders k (filings input)
  pub output : Appends begun written (ended setup read journal input entries)

-- a run, and its desk when it has ended
abbrev pub RanTo : SetupView → List EntryView → ℕ → Bool → List (List ℕ) → Option (List ℕ) → Option (List ℕ) → History → Type 0
RanTo setup read feeders journal input begun written core =
    (ran : RanMany setup read feeders journal input begun written) × (state_of core ≡ after setup (read ++ ran.entries))

-- the input begins with a journal text, all of whose entries are of the feeders, and the run
-- resumes there; what follows the text is no longer than an input may be
pub record RanOn (bytes : List ℕ) (feeders : ℕ) (journal : Bool) (begun written : Option (List ℕ)) : Type 0 where
  pub setup : SetupView
  pub filed : List Input
  pub text : List ℕ
  pub rest : List ℕ
  pub is : bytes ≡ text ++ rest
  pub most : length rest ≤ MAX_INPUT
  pub holds : IsJournal setup filed text
  pub within : first_beyond feeders 1 (run setup filed).journal ≡ None
  pub ran : RanMany setup (run setup filed).journal feeders journal (frames rest) begun written

-- ---- how it is refused

-- the input begins with a journal text, of which an entry's feeder isn't below `feeders`; all after
-- it is left
pub record HoldsBeyond (feeders : ℕ) (input rest : Option (List ℕ)) : Type 0 where
  pub setup : SetupView
  pub filed : List Input
  pub holds : HoldsJournal setup filed input rest
  pub number : ℕ
  pub beyond : first_beyond feeders 1 (run setup filed).journal ≡ Some number

-- more bytes came after the journal text than an input may have
pub record OverrunAfter (input rest : Option (List ℕ)) : Type 0 where
  pub setup : SetupView
  pub filed : List Input
  pub mid : Option (List ℕ)
  pub holds : HoldsJournal setup filed input mid
  pub overrun : Overrun mid rest

-- ---- what was written if a run ended with a fault

-- After the entries read there are entries of the feeders, as in a run that is answered, and they
-- satisfy P.
pub record HaveFiled (setup : SetupView) (read : List EntryView) (feeders : ℕ) (input : List (List ℕ)) (Is : List EntryView → Type 0) : Type 0 where
  pub entries : List EntryView
  pub one_thread : (after setup (read ++ entries)).journal ≡ read ++ entries
  pub below : All (λ e. e.input.feeder < feeders) entries
  pub fronts : (k : ℕ) → k < feeders → IsPrefix (texts_of (own k entries)) (dealt feeders k (filings input))
  pub is : Is entries

-- each feeder has filed all that is dealt to it, if the journal isn't full
abbrev pub FiledAll : SetupView → List EntryView → ℕ → List (List ℕ) → List EntryView → Type 0
FiledAll setup read feeders input entries = length (read ++ entries) < setup.max_entries → (k : ℕ) → k < feeders → texts_of (own k entries) ≡ dealt feeders k (filings input)

-- if an allocation for a feed failed, and the journal isn't full: the answers were written and
-- nothing more
abbrev pub IsCutShort : SetupView → List EntryView → List (List ℕ) → Option (List ℕ) → Option (List ℕ) → List EntryView → Type 0
IsCutShort setup read input begun written entries = (length (read ++ entries) < setup.max_entries) × Appends begun written (answered_now setup read input entries)

-- The answers to the core's entries after the first `read`, if `count` filings were dealt, and a
-- feed ended with a fault or none did: those that were written, and what follows them, if this
-- fault came.
abbrev pub AnsweredUntil : RunFault → Option RunFault → State → ℕ → ℕ → Bool → Option (List ℕ) → Option (List ℕ) → Type 0
AnsweredUntil fault.Write stop s read count journal begun written = AppendsFront begun written (answers_and_end s read count journal)
AnsweredUntil fault.OutOfMemory stop s read count journal begun written =
    ((stop ≢ None) × Appends begun written (answers s (drop read s.journal)))
    ⊎ ((stop ≡ None) × Appends begun written (answers s (drop read s.journal) ++ end_before_replay s (count - (length s.journal - read)) journal))
AnsweredUntil _ stop s read count journal begun written = ⊥

-- if an allocation failed when all was read: before a feeder began; for a feed, if the journal
-- isn't full; or for the replay of the journal, so that its line alone is missing
abbrev pub EndedByMemory : SetupView → List EntryView → ℕ → Bool → List (List ℕ) → Option (List ℕ) → Option (List ℕ) → Type 0
EndedByMemory setup read feeders journal input begun written =
    Appends begun written (long_lines input)
    ⊎ HaveFiled setup read feeders input (λ entries. IsCutShort setup read input begun written entries ⊎ (FiledAll setup read feeders input entries × Appends begun written (ended_before_replay setup read journal input entries)))

-- What was written if a run ended with this fault. Before the feeders begin nothing is filed, and
-- what is written are lines for frames that are too long. Each feed is begun. Once they file, an
-- allocation failure is never returned in place of a full journal: if it is full the run goes on to
-- its end.
abbrev pub EndedBy : RunFault → SetupView → List EntryView → ℕ → Bool → Option (List ℕ) → Option (List ℕ) → Option (List ℕ) → Option (List ℕ) → Type 0
EndedBy fault.Read setup read feeders journal begun written input rest = ToldEnded begun written input rest
EndedBy fault.TooMuch setup read feeders journal begun written input rest = ToldFirst begun written input rest
EndedBy fault.Write setup read feeders journal begun written input rest =
    ToldFront begun written input rest ⊎ IfSome input (λ bytes. HaveFiled setup read feeders (frames bytes) (λ entries. AppendsFront begun written (ended setup read journal (frames bytes) entries)))
EndedBy fault.OutOfMemory setup read feeders journal begun written input rest =
    ToldFirst begun written input rest ⊎ IfSome input (λ bytes. EndedByMemory setup read feeders journal (frames bytes) begun written)
EndedBy fault.NotStarted setup read feeders journal begun written input rest = ⊥
EndedBy fault.NoReader setup read feeders journal begun written input rest = Keeps begun written
EndedBy fault.BadJournal setup read feeders journal begun written input rest = Keeps begun written
EndedBy fault.BadFeeders setup read feeders journal begun written input rest = Keeps begun written

-- the input begins with a journal text, all of whose entries are of the feeders, and after it the
-- run ended with this fault
pub record EndedBehind (why : RunFault) (feeders : ℕ) (journal : Bool) (begun written input rest : Option (List ℕ)) : Type 0 where
  pub setup : SetupView
  pub filed : List Input
  pub mid : Option (List ℕ)
  pub holds : HoldsJournal setup filed input mid
  pub within : first_beyond feeders 1 (run setup filed).journal ≡ None
  pub ended : EndedBy why setup (run setup filed).journal feeders journal begun written mid rest

-- what was written if a run that begins with a journal text ended with this fault: nothing before a
-- frame is read
abbrev pub EndedOnBy : RunFault → ℕ → Bool → Option (List ℕ) → Option (List ℕ) → Option (List ℕ) → Option (List ℕ) → Type 0
EndedOnBy fault.Read feeders journal begun written input rest = Keeps begun written ⊎ EndedBehind fault.Read feeders journal begun written input rest
EndedOnBy fault.TooMuch feeders journal begun written input rest = EndedBehind fault.TooMuch feeders journal begun written input rest
EndedOnBy fault.Write feeders journal begun written input rest = EndedBehind fault.Write feeders journal begun written input rest
EndedOnBy fault.OutOfMemory feeders journal begun written input rest = Keeps begun written ⊎ EndedBehind fault.OutOfMemory feeders journal begun written input rest
EndedOnBy fault.NotStarted feeders journal begun written input rest = ⊥
EndedOnBy fault.NoReader feeders journal begun written input rest = Keeps begun written
EndedOnBy fault.BadJournal feeders journal begun written input rest = Keeps begun written
EndedOnBy fault.BadFeeders feeders journal begun written input rest = Keeps begun written

-- the input begins with a journal text, and all after it is left
pub record HoldsSome (input rest : Option (List ℕ)) : Type 0 where
  pub setup : SetupView
  pub filed : List Input
  pub holds : HoldsJournal setup filed input rest
