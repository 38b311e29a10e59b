-- What the stored orders say.
use Rattle.fpl_message.specs.declared.order.Order as kept_order
use Rattle.fpl_message.specs.declared.order.Order.TheVariants as order
use Rattle.fpl_message.specs.Messages.{Order, open_reg, shut_reg, set_time}

abbrev pub said_order : {A : Type 0} → kept_order.Order A → Order
said_order (order.OpenReg m) = open_reg m.value
said_order (order.ShutReg id) = shut_reg id
said_order (order.SetTime at) = set_time at
