-- The limits of a regulation that an order opens, as its shape has them.
use Rattle.std.proofs.Common.{◌≡◌, ◌≤◌, true, length}
use Rattle.fpl_message.specs.declared.order.OpenReg.{OpenReg}
use Rattle.flow_plans.specs.Settings.{IsDeskTime}
use Rattle.flow_slots.specs.Limits.{rates_fit}
use Rattle.flow_slots.specs.Period.{IsRegular}
use Rattle.flow_slots.proofs.Limits.{regular as regular_period}
use Rattle.flow_traffic.specs.Opening.{has_period, regulation_by}

-- a regulation within the limits has a shape
pub regular : (m : OpenReg) → IsDeskTime m.from → IsDeskTime m.to → length m.more ≤ 7 → has_period m ≡ true → rates_fit m.rate m.more ≡ true → IsRegular (regulation_by m).period
unfolding has_period
regular m from to few a b = regular_period (regulation_by m).period from.0 to.1 few a b
