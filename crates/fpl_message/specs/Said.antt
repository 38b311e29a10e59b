-- What the stored readings say.
use Rattle.fpl_message.specs.declared.message.Message as kept_message
use Rattle.fpl_message.specs.declared.message.Message.TheVariants as message
use Rattle.fpl_message.specs.declared.message.Reading as kept_reading
use Rattle.fpl_message.specs.declared.message.Reading.TheVariants as reading
use Rattle.fpl_message.specs.Messages.{Message, fpl, dla, chg, cnl, dep}
use Rattle.fpl_message.specs.Reads.{ReadingView, msg, ord, bad}
use Rattle.fpl_message.specs.SaidOrders.{said_order}

abbrev pub said_message : {A : Type 0} → kept_message.Message A → Message
said_message (message.Fpl m) = fpl m.value
said_message (message.Dla m) = dla m
said_message (message.Chg m) = chg m.value
said_message (message.Cnl m) = cnl m
said_message (message.Dep m) = dep m

abbrev pub said : {A : Type 0} → kept_reading.Reading A → ReadingView
said (reading.Msg m) = msg (said_message m)
said (reading.Ord order) = ord (said_order order)
said (reading.Bad refusal) = bad refusal
