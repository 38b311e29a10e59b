use Rattle.std.proofs.Common.{ap, List, ℕ, get_or}
use Rattle.flow_input.proofs.Results.{on_ok_two}
use Rattle.flow_input.proofs.NextFrames.{GaveFirst-long, Starves-long}
use Rattle.flow_input.proofs.next_frame.pass_long.Goals as goal

pub returns-clause-gave : goal.returns-clause-gave
returns-clause-gave g c =
    on_ok_two c.finish.result
    (λ f item. GaveFirst-long c.args.input.now c.skip.new.self _ c.requires.text (ap (λ (bs : List ℕ). get_or bs 0 0) c.unread.ensures) c.skip.ensures.unread c.skip.ensures.taken c.requires.long
    c.finish.new.input (g.R.Read.remaining c.args.reader.now.device) (g.R.Read.remaining c.finish.new.reader.device) c.requires.going c.requires.goes f item)
    c.finish.ensures.took c.finish.ensures.item

pub returns-clause-read : goal.returns-clause-read
returns-clause-read g c = λ e.
    Starves-long c.args.input.now c.skip.new.self _ c.requires.text (ap (λ (bs : List ℕ). get_or bs 0 0) c.unread.ensures) c.skip.ensures.unread c.skip.ensures.taken c.requires.long
    (g.R.Read.remaining c.args.reader.now.device) (g.R.Read.remaining c.finish.new.reader.device) (c.finish.ensures.read e)
