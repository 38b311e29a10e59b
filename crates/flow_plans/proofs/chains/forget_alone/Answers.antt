use Rattle.std.proofs.Common.{◌≡◌, ℕ, List, None, Some, cond, sym, ap, ◌∙◌}
use Rattle.std.specs.Map.{lookup, lookup_key}
use Rattle.std.proofs.lemmas.Map.Made.{lookup_key_passes}
use Rattle.flow_plans.specs.declared.chains.FlightName.{FlightName}
use Rattle.flow_plans.specs.Chains.{same_flight}
use Rattle.flow_plans.proofs.ChainLemmas.{same_flight-same}
use Rattle.flow_plans.proofs.chains.forget_alone.Goals as goal

pub returns-clause-gone : goal.returns-clause-gone
returns-clause-gone g c = λ alone q.
    (let entries : List (FlightName × ℕ) = c.args.heads.now.entries in
    let own : FlightName = c.args.name.now in
    let key : FlightName = c.in-Some.field-0-1.now in
    let stored : Some key ≡ lookup_key (same_flight own) entries = c.in-Some.ensures.key in
    let same : own ≡ key = same_flight-same own key (lookup_key_passes (same_flight own) entries key (sym stored)) in
    let removed : c.swap_remove_index.result ≡ Some (key, c.in-Some.newest.now) = c.swap_remove_index.ensures.entry ∙ c.in-Some.ensures.entry in
    let updates = rw removed at c.swap_remove_index.ensures.updates in
    updates.0 q ∙ ap (λ (n : FlightName). cond (same_flight n q) None (lookup (same_flight q) entries)) (sym same))
