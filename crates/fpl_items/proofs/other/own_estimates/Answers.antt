use Rattle.std.proofs.Common.{sym, ◌∙◌}
use Rattle.fpl_items.proofs.EffectLemmas.{own-one}
use Rattle.fpl_items.proofs.other.own_estimates.Goals as goal

pub returns-then-is_some-clause-count : goal.returns-then-is_some-clause-count
returns-then-is_some-clause-count c =
    own-one c.args.words.now c.next_estimate.new.words c.next_estimate.result c.next_estimate.ensures.next c.next_estimate.ensures.is (sym c.is_some.ensures ∙ c.if-is_some.true)
