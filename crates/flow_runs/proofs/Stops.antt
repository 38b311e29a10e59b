-- The fault that feeds ended with, if one did.
use Rattle.std.proofs.Common.{◌≡◌, ℕ, zero, suc, ◌+◌, ◌<◌, List, [], ◌∷◌, length, map, Option, None, Some, refl, sym, subst, arith}
use Rattle.std.specs.Prelude.{IfNone}
use Rattle.std.specs.List.{All}
use Rattle.std.proofs.lemmas.Option.{slice_get-get_or}
use native.Mathlib.Decide.{ℕ_discrete}
use lib.ListN.{get_or}
use Rattle.flow_runs.specs.declared.fault.RunFault.{RunFault}

pub if-none : (stop : Option RunFault) (A : Type 0) → (stop ≡ None → A) → IfNone stop A
if-none None A f = f refl
if-none (Some e) A f = tt

same-or-before : {X : Type 0} (P : X → Type 0) (xs : List X) (n : ℕ) (x : X) → n < length xs → x ≡ get_or xs n x → ((i : ℕ) (d : X) → i < n → P (get_or xs i d)) → P x → (i : ℕ) (d : X) → i < n + 1 → Dec (i ≡ n) → P (get_or xs i d)
same-or-before P xs n x in_n is before here i d lt (yes same) =
    let item : x ≡ get_or xs n d = cc (slice_get-get_or xs n d in_n, slice_get-get_or xs n x in_n, is) in
    subst (λ (j : ℕ). P (get_or xs j d)) (sym same) (subst P item here)
same-or-before P xs n x in_n is before here i d lt (no other) = before i d (omega (arith, lt, other))

-- what holds of the first n and of the next holds of the first n + 1
pub one-more : {X : Type 0} (P : X → Type 0) (xs : List X) (n : ℕ) (x : X) → n < length xs → x ≡ get_or xs n x → ((i : ℕ) (d : X) → i < n → P (get_or xs i d)) → P x → (i : ℕ) (d : X) → i < n + 1 → P (get_or xs i d)
one-more P xs n x in_n is before here i d lt = same-or-before P xs n x in_n is before here i d lt (ℕ_discrete i n)

pub from-none : (stop : Option RunFault) (A : Type 0) → IfNone stop A → stop ≡ None → A
from-none None A h e = h
from-none (Some f) A h e = absurd (cc e)

-- what holds of what is made of each holds of all that is made
pub all-map : {X Y : Type 0} (v : X → Y) (P : Y → Type 0) (xs : List X) → All (λ x. P (v x)) xs → (k : ℕ) (d : Y) → k < length (map v xs) → P (get_or (map v xs) k d)
all-map v P [] all k d lt = absurd (omega (arith, lt))
all-map v P (x ∷ xs) all zero d lt = all 0 x (omega arith)
all-map v P (x ∷ xs) all (suc k) d lt = all-map v P xs (λ j e l. all (suc j) e (omega (arith, l))) k d (omega (arith, lt))
