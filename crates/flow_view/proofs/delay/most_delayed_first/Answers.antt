use Rattle.std.proofs.Common.{rules}
use Rattle.std.proofs.lemmas.List.Sorted.{IsNonDecreasingBy-from_sort_by_key}
use Rattle.flow_view.specs.Delays.{rank_of}
use Rattle.flow_view.proofs.delay.most_delayed_first.Goals as goal

pub returns-clause-order : goal.returns-clause-order
returns-clause-order c =
    IsNonDecreasingBy-from_sort_by_key rank_of _ c.sort_unstable_by_key.ensures.sorted (λ a r q k. search rules)
