-- Which fault a desk is refused with.
use Rattle.std.proofs.Common.{◌≡◌, ℕ, ◌<◌, ◌≤◌, ◌⊎◌, ◌↔◌, Bool, [], Option, Some, None, Result, Ok, Err, IfErr, refl, arith, ⊎_elim}
use Rattle.flow_plans.specs.Settings.{SetupView}
use Rattle.flow_core.specs.Steps.{run, steps}
use Rattle.flow_core.specs.History.{state_of}
use Rattle.flow_desk.specs.declared.blank.DeskFault.{DeskFault}
use Rattle.flow_desk.specs.declared.blank.DeskFault.TheVariants.{Feeders, FeederBeyond, NoReader, OutOfMemory}

-- the number of feeders is refused
pub size-refused : (f : ℕ) (o : Option ℕ) → (f ≡ 0) ⊎ (64 < f) → (n : ℕ) → (Feeders ≡ FeederBeyond n) ↔ ((0 < f) × (f ≤ 64) × (o ≡ Some n))
size-refused f o out n = (λ e. absurd cc, λ h. absurd (⊎_elim (λ (z : f ≡ 0). omega (arith, h.0)) (λ (m : 64 < f). omega (arith, h.1)) out))

-- an entry's feeder is refused
pub feeder-refused : (f k : ℕ) (o : Option ℕ) → 0 < f → f ≤ 64 → o ≡ Some k → (n : ℕ) → (FeederBeyond k ≡ FeederBeyond n) ↔ ((0 < f) × (f ≤ 64) × (o ≡ Some n))
feeder-refused f k o some most is n = (λ e. (some, most, cc), λ h. cc (is, h.2))

abbrev Want : DeskFault → Type 0
Want e = (e ≡ OutOfMemory) ⊎ (e ≡ NoReader)

want-size : (e : DeskFault) (f : ℕ) → 0 < f → f ≤ 64 → Want e → (e ≡ Feeders) ↔ ((f ≡ 0) ⊎ (64 < f))
want-size e f some most w =
    (λ is. absurd (⊎_elim (λ (a : e ≡ OutOfMemory). cc (is, a)) (λ (b : e ≡ NoReader). cc (is, b)) w), λ out. absurd (⊎_elim (λ (z : f ≡ 0). omega (arith, some)) (λ (m : 64 < f). omega (arith, most)) out))

want-beyond : (e : DeskFault) (f : ℕ) (o : Option ℕ) → o ≡ None → Want e → (n : ℕ) → (e ≡ FeederBeyond n) ↔ ((0 < f) × (f ≤ 64) × (o ≡ Some n))
want-beyond e f o none w n =
    (λ is. absurd (⊎_elim (λ (a : e ≡ OutOfMemory). cc (is, a)) (λ (b : e ≡ NoReader). cc (is, b)) w), λ h. absurd (cc (none, h.2)))

-- an allocation failed, or the board had no more readers
pub wanted-size : {T C : Type 0} (r : Result T (DeskFault × C)) (f : ℕ) → 0 < f → f ≤ 64 → IfErr r (λ e. (e.0 ≡ OutOfMemory) ⊎ (e.0 ≡ NoReader)) → IfErr r (λ e. (e.0 ≡ Feeders) ↔ ((f ≡ 0) ⊎ (64 < f)))
wanted-size (Ok x) f some most w = tt
wanted-size (Err e) f some most w = want-size e.0 f some most w

pub wanted-beyond : {T C : Type 0} (r : Result T (DeskFault × C)) (f : ℕ) (o : Option ℕ) → o ≡ None → IfErr r (λ e. (e.0 ≡ OutOfMemory) ⊎ (e.0 ≡ NoReader))
    → IfErr r (λ e. (n : ℕ) → (e.0 ≡ FeederBeyond n) ↔ ((0 < f) × (f ≤ 64) × (o ≡ Some n)))
wanted-beyond (Ok x) f o none w = tt
wanted-beyond (Err e) f o none w = want-beyond e.0 f o none w

-- a desk at which nothing was filed has no entry
pub journal-fresh : (setup : SetupView) (undoable : Bool) → (state_of (record { setup = setup; filed = []; undoable = undoable })).journal ≡ []
unfolding run steps
journal-fresh setup undoable = refl
