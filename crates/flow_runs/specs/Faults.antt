-- Which fault a run ends with, and how many calls of its devices have failed by then.
use Rattle.std.specs.Prelude.{◌≡◌, ℕ, Result, Ok, Err}
use Rattle.flow_input.specs.Source.{counted_up}
use Rattle.flow_input.specs.declared.fault.IntakeFault.{IntakeFault}
use Rattle.flow_input.specs.declared.fault.IntakeFault.TheVariants as intake
use Rattle.flow_core.specs.declared.journal_reading.JournalFault.{JournalFault}
use Rattle.flow_core.specs.declared.journal_reading.JournalFault.TheVariants as reading
use Rattle.flow_desk.specs.declared.blank.DeskFault.{DeskFault}
use Rattle.flow_desk.specs.declared.blank.DeskFault.TheVariants as desk
use Rattle.flow_runs.specs.declared.fault.RunFault.{RunFault}
use Rattle.flow_runs.specs.declared.fault.RunFault.TheVariants as fault

-- the fault of a run for one of taking a frame
abbrev pub fault_of_frame : IntakeFault → RunFault
fault_of_frame intake.Read = fault.Read
fault_of_frame intake.TooMuch = fault.TooMuch
fault_of_frame intake.OutOfMemory = fault.OutOfMemory

-- for one of reading a journal
abbrev pub fault_of_journal : JournalFault → RunFault
fault_of_journal reading.Read = fault.Read
fault_of_journal reading.NotAJournal = fault.BadJournal
fault_of_journal reading.OutOfMemory = fault.OutOfMemory

-- and for one of opening a desk with a number of feeders that a desk may have
abbrev pub IsFaultOfDesk : DeskFault → RunFault → Type 0
IsFaultOfDesk desk.Feeders why = ⊥
IsFaultOfDesk (desk.FeederBeyond number) why = why ≡ fault.BadFeeders
IsFaultOfDesk desk.NoReader why = why ≡ fault.NoReader
IsFaultOfDesk desk.OutOfMemory why = why ≡ fault.OutOfMemory

-- how many calls of the reader have failed after a run that ended with this fault
abbrev pub reader_failures_with : RunFault → ℕ → ℕ
reader_failures_with fault.Read before = counted_up before
reader_failures_with _ before = before

-- the same of the writer
abbrev pub writer_failures_with : RunFault → ℕ → ℕ
writer_failures_with fault.Write before = counted_up before
writer_failures_with _ before = before

-- after a run that ended so: one more only if the device failed
abbrev pub run_reader_failures : {T : Type 0} → Result T RunFault → ℕ → ℕ
run_reader_failures (Ok x) before = before
run_reader_failures (Err why) before = reader_failures_with why before

abbrev pub run_writer_failures : {T : Type 0} → Result T RunFault → ℕ → ℕ
run_writer_failures (Ok x) before = before
run_writer_failures (Err why) before = writer_failures_with why before
