use Rattle.fpl_items.proofs.PlaceLemmas.{place-added, place-kept}
use Rattle.fpl_items.proofs.estimate.with_place.Goals as goal

pub returns-clause-added : goal.returns-clause-added
returns-clause-added c = place-added c.args.places c.bit_of.result c.args.place.now c.bit_of.ensures.value c.bit_of.ensures.bound

pub returns-clause-kept : goal.returns-clause-kept
returns-clause-kept c other had = place-kept c.args.places c.bit_of.result other c.bit_of.ensures.bound had
