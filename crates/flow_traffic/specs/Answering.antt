-- What answering a reading promises: said once, for all kinds of readings.
use Rattle.std.specs.Prelude.{◌≡◌, ◌≤◌, ◌+◌, Result, Some, None, IfOk, OnOk, OnErr, length}
use Rattle.std.specs.declared.alloc.AllocError.{AllocError}
use Rattle.fpl_message.specs.Reads.{ReadingView}
use Rattle.flow_plans.specs.declared.setup.TheConstants.{MAX_PLANS}
use Rattle.flow_traffic.specs.declared.verdict.Verdict.{Verdict}
use Rattle.flow_traffic.specs.Traffic.{TrafficView}
use Rattle.flow_traffic.specs.Answers.{Answers}
use Rattle.flow_traffic.specs.Frozen.{FrozenPairsStay}
use Rattle.flow_traffic.specs.Memory.{MayTakeMemory}

-- with a verdict the traffic is that after the reading, frozen flights have kept their slots, and
-- the reading can be undone; else allocation failed, for a reading that may allocate, and the
-- traffic is unchanged. No notice is removed, and a plan gets at most one
pub record AnswersReading (reading : ReadingView) (old new : TrafficView) (result : Result Verdict AllocError) : Type 0 where
  pub answers : IfOk result (Answers reading old.traffic new.traffic)
  pub frozen : IfOk result (FrozenPairsStay reading old.traffic new.traffic)
  pub before : OnOk result (new.before ≡ Some old.traffic)
  pub err : OnErr result (new ≡ record { traffic = old.traffic; before = None })
  pub memory : OnErr result (MayTakeMemory reading old.traffic)
  pub grow : length old.traffic.notices ≤ length new.traffic.notices
  pub few : length new.traffic.notices ≤ length old.traffic.notices + MAX_PLANS
