-- A store of whose file nothing is known.
use Rattle.std.proofs.Common.{◌≡◌, Bool, false, ℕ, List, Option, Some, None, IfSome}
use Rattle.flow_log.specs.Moments.{Clock}
use Rattle.flow_core.specs.History.{History}
use Rattle.flow_store.specs.declared.store.Store.{Store}
use Rattle.flow_live.specs.Keeping.{StoresAll}

-- nothing more is claimed of it than that it hasn't failed
pub unknown-store : {O : Type 0} (fails : O → Bool) (bytes : O → List ℕ) (clock : Clock O) (core : History) (store : Option (Store O)) → IfSome store (λ s. fails s.log.outside ≡ false) → StoresAll false fails bytes clock core store
unknown-store fails bytes clock core None sound = tt
unknown-store fails bytes clock core (Some s) sound = (sound, λ known. absurd known)
