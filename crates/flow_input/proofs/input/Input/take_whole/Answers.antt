use Rattle.flow_input.proofs.NextFrames.{GaveFirst-shown}
use Rattle.flow_input.proofs.input.Input.take_whole.Goals as goal

pub returns-clause-gave : goal.returns-clause-gave
returns-clause-gave g c = λ _ rest agrees.
    let shows = rw c.unread.ensures at c.in-Some.ensures.shows in
    GaveFirst-shown c.args.self.now c.take.new.self rest c.in-Some.span.begin c.in-Some.span.end agrees shows c.take.ensures.unread c.take.ensures.taken c.take.ensures.item
