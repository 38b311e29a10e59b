-- With which fault a run ends, by the ends of its feeds.
use Rattle.std.specs.Prelude.{◌≡◌, ◌≢◌, Option, Some, IfSome}
use Rattle.flow_core.specs.declared.receipt.StepFault.TheVariants as step
use Rattle.flow_desk.specs.declared.feeders.End.{End}
use Rattle.flow_desk.specs.declared.feeders.End.TheVariants.{Stopped}
use Rattle.flow_runs.specs.declared.fault.RunFault.{RunFault}
use Rattle.flow_runs.specs.declared.fault.RunFault.TheVariants as fault

-- no allocation failed for a feed that ended so
abbrev pub EndsWell : End → Type 0
EndsWell end = end ≢ Stopped step.OutOfMemory

-- a feed's fault that ends a run, or none
abbrev pub IsStop : Option RunFault → Type 0
IsStop stop = IfSome stop (λ e. e ≡ fault.OutOfMemory)

-- the fault that some feeds ended with, if one did, with one more feed that ended so
abbrev pub stop_after : Option RunFault → End → Option RunFault
stop_after stop (Stopped step.OutOfMemory) = Some fault.OutOfMemory
stop_after stop _ = stop
