-- The CTOTs issued to some plans, and how they are restored.
use Rattle.std.specs.Prelude.{◌≡◌, ℕ, ◌-◌, List, [], ◌∷◌, Option, Some, slice_get, slice_set}
use Rattle.flow_regulations.specs.declared.notice.Told.{Told}

-- these are the CTOTs issued to the plans of these numbers
abbrev pub AreTold : List ℕ → List (Option Told) → List (Option Told) → Type 0
AreTold [] told [] = Unit {0}
AreTold [] told (o ∷ os) = ⊥
AreTold (n ∷ ns) told [] = ⊥
AreTold (n ∷ ns) told (o ∷ os) = (slice_get told (n - 1) ≡ Some o) × AreTold ns told os

-- the CTOTs issued to plans, with those of the plans of these numbers restored
abbrev pub told_again : List ℕ → List (Option Told) → List (Option Told) → List (Option Told)
told_again [] os ts = ts
told_again (n ∷ ns) [] ts = ts
told_again (n ∷ ns) (o ∷ os) ts = told_again ns os (slice_set ts (n - 1) o)
