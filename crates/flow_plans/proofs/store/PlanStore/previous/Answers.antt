use Rattle.std.proofs.Common.{sym, ap}
use Rattle.flow_plans.specs.Stores.{PlanStoreView}
use Rattle.flow_plans.proofs.store.PlanStore.previous.Goals as goal

pub returns : goal.returns
returns g c = rw (sym (ap (λ (s : PlanStoreView). s.before) c.self.view_is)) (rw c.as_slice.ensures at c.previous.ensures)
