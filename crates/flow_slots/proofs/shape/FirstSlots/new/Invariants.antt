use Rattle.std.proofs.Common.{◌≡◌, ℕ, ◌+◌, ◌-◌, ◌<◌, length, get_or}
use Rattle.flow_slots.specs.Period.{first_slot}
use Rattle.flow_slots.proofs.shape.FirstSlots.new.Given as goal

abbrev pub invariant-loop-minute : goal.invariant-loop-minute
invariant-loop-minute g l = record {
  len : length l.by_minute.items ≡ l.shape.end - l.shape.start;
  each : (m : ℕ) → m < l.minute → get_or l.by_minute.items m 0 ≡ first_slot l.shape (l.shape.start + m);
}
