-- How many calls of a run's devices have failed.
use Rattle.std.proofs.Common.{◌≡◌, ◌≢◌, ◌⊎◌, inl, inr, ℕ, List, Option, Result, Ok, Err, IfErr, OnOk, OnErr, refl, subst, sym}
use Rattle.flow_input.specs.Source.{counted_up, failures_with}
use Rattle.flow_input.specs.declared.fault.IntakeFault.{IntakeFault}
use Rattle.flow_input.specs.declared.fault.IntakeFault.TheVariants as intake
use Rattle.flow_input.specs.declared.counted.Counted.{Counted}
use Rattle.flow_core.specs.declared.journal_reading.JournalFault.{JournalFault}
use Rattle.flow_core.specs.declared.journal_reading.JournalFault.TheVariants as reading
use Rattle.flow_core.specs.JournalReading.{journal_failures_with as journal_failures}
use Rattle.flow_desk.specs.declared.blank.DeskFault.{DeskFault}
use Rattle.flow_desk.specs.declared.blank.DeskFault.TheVariants as desk
use Rattle.flow_runs.specs.declared.fault.RunFault.{RunFault}
use Rattle.flow_runs.specs.declared.fault.RunFault.TheVariants as fault
use Rattle.flow_runs.specs.ManyRuns.{WritesWithReplay}
use Rattle.flow_runs.specs.Faults.{fault_of_frame, fault_of_journal, IsFaultOfDesk, reader_failures_with, writer_failures_with, run_reader_failures, run_writer_failures}

-- if no frame came the reader may have failed, and nothing was written
pub frame-reader : (e : IntakeFault) (n : ℕ) → failures_with e n ≡ reader_failures_with (fault_of_frame e) n
frame-reader intake.Read n = refl
frame-reader intake.TooMuch n = refl
frame-reader intake.OutOfMemory n = refl

pub frame-writer : (e : IntakeFault) (n : ℕ) → writer_failures_with (fault_of_frame e) n ≡ n
frame-writer intake.Read n = refl
frame-writer intake.TooMuch n = refl
frame-writer intake.OutOfMemory n = refl

pub frame-much : (e : IntakeFault) → fault_of_frame e ≡ fault.TooMuch → e ≡ intake.TooMuch
frame-much intake.Read is = absurd (cc)
frame-much intake.TooMuch is = refl
frame-much intake.OutOfMemory is = absurd (cc)

pub frame-others : (e : IntakeFault) → (fault_of_frame e ≢ fault.BadJournal) × (fault_of_frame e ≢ fault.BadFeeders) × (fault_of_frame e ≢ fault.NoReader)
frame-others intake.Read = (λ e. cc, λ e. cc, λ e. cc)
frame-others intake.TooMuch = (λ e. cc, λ e. cc, λ e. cc)
frame-others intake.OutOfMemory = (λ e. cc, λ e. cc, λ e. cc)

-- a call that doesn't read
pub reader-calm : (e : RunFault) (n : ℕ) → e ≢ fault.Read → reader_failures_with e n ≡ n
reader-calm fault.Read n other = absurd (other refl)
reader-calm _ n other = refl

pub part-reader : (e : RunFault) (n : ℕ) → (e ≡ fault.Write) ⊎ (e ≡ fault.OutOfMemory) → reader_failures_with e n ≡ n
part-reader e n (inl is) = rw is refl
part-reader e n (inr is) = rw is refl

-- the fault that a feed ended with comes of no device
pub stop-writer : (e : RunFault) (n : ℕ) → e ≡ fault.OutOfMemory → writer_failures_with e n ≡ n
stop-writer e n is = rw is refl

-- if no journal was read nothing was written
pub journal-reader : (e : JournalFault) (n : ℕ) → journal_failures e n ≡ reader_failures_with (fault_of_journal e) n
journal-reader reading.Read n = refl
journal-reader reading.NotAJournal n = refl
journal-reader reading.OutOfMemory n = refl

pub journal-writer : (e : JournalFault) (n : ℕ) → writer_failures_with (fault_of_journal e) n ≡ n
journal-writer reading.Read n = refl
journal-writer reading.NotAJournal n = refl
journal-writer reading.OutOfMemory n = refl

pub record OfJournal (e : RunFault) : Type 0 where
  pub much : e ≢ fault.TooMuch
  pub written : e ≢ fault.Write
  pub begun : e ≢ fault.NotStarted
  pub feeders : e ≢ fault.BadFeeders
  pub reader : e ≢ fault.NoReader

pub journal-others : (e : JournalFault) → OfJournal (fault_of_journal e)
journal-others reading.Read = record { much = λ e. cc; written = λ e. cc; begun = λ e. cc; feeders = λ e. cc; reader = λ e. cc }
journal-others reading.NotAJournal = record { much = λ e. cc; written = λ e. cc; begun = λ e. cc; feeders = λ e. cc; reader = λ e. cc }
journal-others reading.OutOfMemory = record { much = λ e. cc; written = λ e. cc; begun = λ e. cc; feeders = λ e. cc; reader = λ e. cc }

pub bad-journal : (e : JournalFault) → fault_of_journal e ≡ fault.BadJournal → e ≡ reading.NotAJournal
bad-journal reading.Read is = absurd (cc)
bad-journal reading.NotAJournal is = refl
bad-journal reading.OutOfMemory is = absurd (cc)

-- if no desk was made no device was called
pub record NoDevice (e : RunFault) : Type 0 where
  pub reads : (n : ℕ) → reader_failures_with e n ≡ n
  pub writes : (n : ℕ) → writer_failures_with e n ≡ n
  pub much : e ≢ fault.TooMuch
  pub written : e ≢ fault.Write
  pub journal : e ≢ fault.BadJournal
  pub begun : e ≢ fault.NotStarted

beyond-none : NoDevice fault.BadFeeders
beyond-none = record { reads = λ n. refl; writes = λ n. refl; much = λ e. cc; written = λ e. cc; journal = λ e. cc; begun = λ e. cc }

reader-none : NoDevice fault.NoReader
reader-none = record { reads = λ n. refl; writes = λ n. refl; much = λ e. cc; written = λ e. cc; journal = λ e. cc; begun = λ e. cc }

memory-none : NoDevice fault.OutOfMemory
memory-none = record { reads = λ n. refl; writes = λ n. refl; much = λ e. cc; written = λ e. cc; journal = λ e. cc; begun = λ e. cc }

pub no-desk : (f : DeskFault) (e : RunFault) → IsFaultOfDesk f e → NoDevice e
no-desk desk.Feeders e is = absurd is
no-desk (desk.FeederBeyond n) e is = subst NoDevice (sym is) beyond-none
no-desk desk.NoReader e is = subst NoDevice (sym is) reader-none
no-desk desk.OutOfMemory e is = subst NoDevice (sym is) memory-none

pub beyond : (f : DeskFault) (e : RunFault) → IsFaultOfDesk f e → e ≡ fault.BadFeeders → (n : ℕ) × (f ≡ desk.FeederBeyond n)
beyond desk.Feeders e is bad = absurd is
beyond (desk.FeederBeyond n) e is bad = (n, refl)
beyond desk.NoReader e is bad = absurd (cc)
beyond desk.OutOfMemory e is bad = absurd (cc)

-- a call that writes alone
pub writer-failed : {T : Type 0} (r : Result T RunFault) (old new : ℕ) → OnOk r (new ≡ old) → OnErr r (new ≡ counted_up old) → IfErr r (λ e. e ≡ fault.Write) → new ≡ run_writer_failures r old
writer-failed (Ok x) old new no_failure failed kind = no_failure
writer-failed (Err e) old new no_failure failed kind = subst (λ (k : RunFault). new ≡ writer_failures_with k old) (sym kind) failed

-- what follows the answers
pub replay-writer : {D : Type 0} (contents : D → Option (List ℕ)) (r : Result (Unit {0}) RunFault) (old new : Counted D) (text : List ℕ) → WritesWithReplay contents r old new text → new.failures ≡ run_writer_failures r old.failures
replay-writer contents (Ok x) old new text w = w.no_failure
replay-writer contents (Err fault.Write) old new text w = w.failed
replay-writer contents (Err fault.OutOfMemory) old new text w = w.no_failure
replay-writer contents (Err _) old new text w = absurd w
