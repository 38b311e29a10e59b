-- Lists and results.
use Rattle.std.proofs.Common.{◌≡◌, ◌≤◌, ◌<◌, ◌+◌, ◌-◌, ◌∙◌, ◌++◌, ℕ, zero, suc, List, [], ◌∷◌, length, map, take, get_or, refl, ap, sym, arith, slice_get}
use Rattle.std.specs.Prelude.{Result, Ok, Err, IfOk, OnOk}
use Rattle.std.specs.Option.{option_map}
use Rattle.std.proofs.lemmas.List.{take_more}

-- what holds of a result holds of what follows from it
pub ok-also : {T E : Type 0} (r : Result T E) (P Q : T → Type 0) → ((x : T) → P x → Q x) → IfOk r P → IfOk r Q
ok-also (Ok x) P Q f h = f x h
ok-also (Err e) P Q f h = tt

pub take-past : {X : Type 0} (i : ℕ) (xs : List X) → length xs ≤ i → take i xs ≡ xs
take-past zero [] le = refl
take-past zero (x ∷ xs) le = absurd (omega (arith, le))
take-past (suc i) [] le = refl
take-past (suc i) (x ∷ xs) le = ap (λ ys. x ∷ ys) (take-past i xs (omega (arith, le)))

pub get-mapped : {X Y : Type 0} (f : X → Y) (xs : List X) (i : ℕ) → slice_get (map f xs) i ≡ option_map f (slice_get xs i)
get-mapped f [] i = refl
get-mapped f (x ∷ xs) zero = refl
get-mapped f (x ∷ xs) (suc i) = get-mapped f xs i

length-mapped : {X Y : Type 0} (f : X → Y) (xs : List X) → length (map f xs) ≡ length xs
length-mapped f [] = refl
length-mapped f (x ∷ xs) = ap suc (length-mapped f xs)

pub last-mapped : {X Y : Type 0} (f : X → Y) (xs : List X) (ys : List Y) → map f xs ≡ ys → slice_get ys (length ys - 1) ≡ option_map f (slice_get xs (length xs - 1))
last-mapped f xs ys e =
    ap (λ zs. slice_get zs (length zs - 1)) (sym e)
    ∙ (ap (λ n. slice_get (map f xs) (n - 1)) (length-mapped f xs) ∙ get-mapped f xs (length xs - 1))

pub on-ok : {T E : Type 0} (r : Result T E) (P Q : Type 0) → (P → Q) → OnOk r P → OnOk r Q
on-ok (Ok x) P Q f h = f h
on-ok (Err e) P Q f h = tt

pub on-any : {T E : Type 0} (r : Result T E) (P : Type 0) → P → OnOk r P
on-any (Ok x) P h = h
on-any (Err e) P h = tt

-- the element after the first ones
pub split-next : {X : Type 0} (i : ℕ) (xs : List X) → i < length xs → (x : X) × (take (i + 1) xs ≡ take i xs ++ x ∷ [])
split-next i [] lt = absurd (omega (arith, lt))
split-next zero (x ∷ xs) lt = (x, refl)
split-next (suc i) (x ∷ xs) lt =
    let r = split-next i xs (omega (arith, lt)) in
    let shift : suc i + 1 ≡ suc (i + 1) = omega arith in
    (r.0, ap (λ n. take n (x ∷ xs)) shift ∙ ap (λ ys. x ∷ ys) r.1)

-- the element that is next
pub take-next : {X : Type 0} (xs : List X) (i : ℕ) (x : X) → i < length xs → x ≡ get_or xs i x → take (i + 1) xs ≡ take i xs ++ x ∷ []
take-next xs i x lt e = take_more xs i x lt ∙ ap (λ y. take i xs ++ y ∷ []) (sym e)
