use Rattle.std.proofs.Common.{arith, sym, ap, ◌∙◌, length}
use Rattle.fpl_items.specs.Routes.{total_len}
use Rattle.fpl_items.proofs.RoutesLemmas.{total_len-words_of, length-words_of}
use Rattle.fpl_items.proofs.route.Route.read.Goals as goal

pub elements_in-requires-clause-fits : goal.elements_in-requires-clause-fits
elements_in-requires-clause-fits g c =
    let all = ap total_len (sym c.new-words.ensures ∙ c.in-Some.ensures.steps) in
    let bound = total_len-words_of c.args.field.now in
    omega arith

pub elements_in-requires-clause-room : goal.elements_in-requires-clause-room
elements_in-requires-clause-room g c =
    let all = ap length (sym c.new-words.ensures ∙ c.in-Some.ensures.steps) in
    omega (arith, length-words_of c.args.field.now, c.space_count.ensures.value, c.in-Ok.ensures.capacity)
