-- What an order to open a regulation asks for.
use Rattle.std.specs.Prelude.{Bool, []}
use Rattle.fpl_message.specs.declared.order.OpenReg.{OpenReg}
use Rattle.flow_regulations.specs.Regulations.{Regulation}
use Rattle.flow_slots.specs.Limits.{is_period as is_period_from}

-- a period of 1 to 1,440 minutes, whose sub-periods begin one after the other within it
unfoldable pub has_period : OpenReg → Bool
has_period m = is_period_from m.from m.to m.more

-- the regulation, without flights
abbrev pub regulation_by : OpenReg → Regulation
regulation_by m = record { id = m.id; spot = m.place; period = record { start = m.from; end = m.to; rate = m.rate; parts = m.more }; fixed = [] }
