-- What one feeder has filed, and what was written to it.
use Rattle.std.specs.Prelude.{◌≡◌, ℕ, ◌<◌, ◌≤◌, List, [], ◌∷◌, ◌++◌, length, Option, IfSome, Result, Ok, Err}
use Rattle.std.specs.Io.KnownBytes.{Appends}
use mathlib.Core.List.{IsPrefix}
use Rattle.fpl_message.specs.Filings.{FilingView}
use Rattle.flow_plans.specs.Settings.{SetupView}
use Rattle.flow_input.specs.Cutting.{Cutting, CutFront, CutEnded, Overrun}
use Rattle.flow_input.specs.Filings.{filings}
use Rattle.flow_input.specs.Frames.{frames}
use Rattle.flow_input.specs.Writes.{AppendsFront}
use Rattle.flow_input.specs.NextFrame.{GaveFirst, filing_of, filing_kept}
use Rattle.flow_input.specs.Reader.{InputView, Agrees}
use Rattle.flow_input.specs.Source.{counted_up}
use Rattle.flow_input.specs.declared.input.TheConstants.{MAX_INPUT}
use Rattle.flow_core.specs.State.{EntryView}
use Rattle.flow_core.specs.CoreView.{texts_of}
use Rattle.flow_desk.specs.Histories.{own, after, IsLawful}
use Rattle.flow_desk.specs.FeederPasses.{PassView}
use Rattle.flow_live.specs.Told.{told}
use Rattle.flow_input.specs.declared.fault.IntakeFault.{IntakeFault}
use Rattle.flow_input.specs.declared.fault.IntakeFault.TheVariants as intake
use Rattle.flow_live.specs.declared.fault.FeedEnd.{FeedEnd}
use Rattle.flow_live.specs.declared.fault.FeedEnd.TheVariants as end
use Rattle.flow_live.specs.declared.feed.Feed.{Feed}

-- From p to q these frames were answered with this text. The feeder's entries since p are those of
-- the first filings among them, and of all of them unless the journal is full; at a full journal
-- there are none.
pub record Serves (setup : SetupView) (p : PassView) (done : List (List ℕ)) (q : PassView) (text : List ℕ) : Type 0 where
  pub entries : List EntryView
  pub later : IsPrefix p.seen q.seen
  pub feeder : q.feeder ≡ p.feeder
  pub own_are : own q.feeder q.seen ≡ own p.feeder p.seen ++ entries
  pub lawful : IsLawful setup q.seen
  pub front : IsPrefix (texts_of entries) (filings done)
  pub whole : length q.seen < setup.max_entries → texts_of entries ≡ filings done
  pub full : setup.max_entries ≤ length p.seen → entries ≡ []
  pub text_is : text ≡ told (after setup q.seen) done entries

-- The first of these frames were answered so, and the filings of the others, none of which is too
-- long, are ready.
pub record Prepares (setup : SetupView) (p : PassView) (done : List (List ℕ)) (q : PassView) (text : List ℕ) (ready : List FilingView) : Type 0 where
  pub answered : List (List ℕ)
  pub waiting : List (List ℕ)
  pub served : Serves setup p answered q text
  pub done_is : done ≡ answered ++ waiting
  pub ready_is : filings waiting ≡ ready
  pub each : length ready ≡ length waiting

-- whatever frame this is the filing of, it is the next that was taken
abbrev pub TakesNext : SetupView → Option FilingView → PassView → List ℕ → List FilingView → PassView → List ℕ → List FilingView → Type 0
TakesNext setup filing q text ready r longer more =
    (p : PassView) (done : List (List ℕ)) (frame : List ℕ) → filing ≡ filing_of frame
    → Prepares setup p done q text ready → Prepares setup p (done ++ frame ∷ []) r longer more

-- ---- a piece of the input

-- frames were cut from the front of what is unread, and this is true of them
pub record CutsMore (is : List (List ℕ) → Type 0) (ahead left : InputView) (mid rest : Option (List ℕ)) : Type 0 where
  pub more : List (List ℕ)
  pub cutting : (done : List (List ℕ)) (input : Option (List ℕ)) → Cutting done ahead input mid → Cutting (done ++ more) left input rest
  pub true_of : is more

-- the frame that was taken last was cut off, and others that were there, and this is true of them
abbrev pub CutsTaken : SetupView → PassView → (List (List ℕ) → Type 0) → InputView → InputView → Type 0
CutsTaken setup p is taken left =
    IsLawful setup p.seen → (ahead : InputView) (mid rest : Option (List ℕ))
    → GaveFirst (filing_kept taken.item) ahead taken mid rest → Agrees taken rest → CutsMore is ahead left mid rest

-- frames were answered so, and this is true of the text
pub record AnswersWith (setup : SetupView) (p : PassView) (done : List (List ℕ)) (q : PassView) (wrote : List ℕ → Type 0) : Type 0 where
  pub text : List ℕ
  pub served : Serves setup p done q text
  pub text_wrote : wrote text

-- what was written of the answers to a piece: all, or a prefix if the writer failed
abbrev pub PieceIs : {T : Type 0} → Result T FeedEnd → SetupView → PassView → PassView → Option (List ℕ) → Option (List ℕ) → InputView → InputView → Type 0
PieceIs (Ok _) setup p q written now taken left = CutsTaken setup p (λ more. AnswersWith setup p more q (λ text. Appends written now text)) taken left
PieceIs (Err end.Write) setup p q written now taken left = CutsTaken setup p (λ more. AnswersWith setup p more q (λ text. AppendsFront written now text)) taken left
PieceIs (Err (end.Stopped fault)) setup p q written now taken left = Unit {0}
PieceIs (Err _) setup p q written now taken left = ⊥

-- ---- how a feed ended

-- the end of a feed from which no frame came: nothing is allocated to take one
abbrev pub EndsBy : IntakeFault → FeedEnd → Type 0
EndsBy intake.Read how = how ≡ end.Read
EndsBy intake.TooMuch how = how ≡ end.TooMuch
EndsBy intake.OutOfMemory how = ⊥

-- how many calls of a feed's reader have failed when the feed has ended so: one more only if that
-- ended it
abbrev pub source_failures : FeedEnd → ℕ → ℕ
source_failures end.Read before = counted_up before
source_failures _ before = before

-- the same of its writer
abbrev pub sink_failures : FeedEnd → ℕ → ℕ
sink_failures end.Write before = counted_up before
sink_failures _ before = before

-- the same of its writer after a piece
abbrev pub sink_failures_after : {T : Type 0} → Result T FeedEnd → ℕ → ℕ
sink_failures_after (Ok x) before = before
sink_failures_after (Err how) before = sink_failures how before

-- no call of the devices of a feed failed but the one that ended it
pub record CountsFailures {I O : Type 0} (old new : Feed I O) : Type 0 where
  pub source : new.reader.failures ≡ source_failures new.end old.reader.failures
  pub sink : new.writer.failures ≡ sink_failures new.end old.writer.failures

-- Which frames of the input were answered when the feed ended so: all, those whose end was read, or
-- the first of them. A whole input isn't longer than an input may be; more was read if that ended
-- the feed.
abbrev pub TookFrames : FeedEnd → List (List ℕ) → Option (List ℕ) → Option (List ℕ) → Type 0
TookFrames end.Finished done input rest = IfSome input (λ bytes. (done ≡ frames bytes) × (length bytes ≤ MAX_INPUT))
TookFrames end.Read done input rest = CutEnded done input rest
TookFrames end.TooMuch done input rest = CutFront done input rest × Overrun input rest
TookFrames _ done input rest = CutFront done input rest

-- what was written then of the text that answers them: all, or a prefix if the writer failed
abbrev pub Wrote : FeedEnd → Option (List ℕ) → Option (List ℕ) → List ℕ → Type 0
Wrote end.Write begun written text = AppendsFront begun written text
Wrote _ begun written text = Appends begun written text

-- a feed of the pass p ended so
pub record Fed (setup : SetupView) (p q : PassView) (end : FeedEnd) (begun written input rest : Option (List ℕ)) : Type 0 where
  pub done : List (List ℕ)
  pub text : List ℕ
  pub served : Serves setup p done q text
  pub took : TookFrames end done input rest
  pub wrote : Wrote end begun written text

-- a feed ended so, or the run was stopped
abbrev pub FedUnlessStopped : SetupView → PassView → PassView → FeedEnd → Option (List ℕ) → Option (List ℕ) → Option (List ℕ) → Option (List ℕ) → Type 0
FedUnlessStopped setup p q (end.Stopped fault) begun written input rest = Unit {0}
FedUnlessStopped setup p q end.Open begun written input rest = ⊥
FedUnlessStopped setup p q how begun written input rest = Fed setup p q how begun written input rest

-- the feed of a pass that had seen a lawful history has ended, unless the run was stopped
pub record HasServed {I O : Type 0} (remaining : I → Option (List ℕ)) (contents : O → Option (List ℕ)) (setup : SetupView) (p q : PassView) (old new : Feed I O) : Type 0 where
  pub fed : IsLawful setup p.seen
      → FedUnlessStopped setup p q new.end (contents old.writer.device) (contents new.writer.device) (remaining old.reader.device) (remaining new.reader.device)
  pub counts : CountsFailures old new

-- as far as a feed has come
pub record Feeds (setup : SetupView) (p q : PassView) (begun written : Option (List ℕ)) (ahead : InputView) (input mid : Option (List ℕ)) : Type 0 where
  pub done : List (List ℕ)
  pub text : List ℕ
  pub served : Serves setup p done q text
  pub cutting : Cutting done ahead input mid
  pub wrote : Appends begun written text
