-- A walk over a list that replaces its elements in turn.
use Rattle.std.proofs.Common.{◌≡◌, ℕ, zero, suc, ◌+◌, ◌<◌, ◌≤◌, List, [], ◌∷◌, ◌++◌, length, map, take, get_or, refl, sym, ap, subst, ◌∙◌, arith}
use Rattle.std.proofs.lemmas.List.{take_all, take-append-le}
use Rattle.std.specs.List.{AllByRecursion}
use Rattle.std.specs.Prelude.{slice_set}
use Rattle.flow_regulations.specs.Listing.{Walked}

module _ {X : Type 0} (R : X → X → Type 0) where
  step : (i : ℕ) (xs ys : List X) (d z : X) → i < length ys → R (get_or ys i d) z → Walked R i xs ys → Walked R (suc i) xs (slice_set ys i z)
  step i xs [] d z l r w = absurd (omega arith)
  step zero xs (v ∷ ys) d z l r w =
      let W : List X → Type 0 = λ us. Walked R (suc zero) us (z ∷ ys) in
      subst W w (r, refl)
  step (suc i) [] (v ∷ ys) d z l r w = absurd w
  step (suc i) (x ∷ xs) (v ∷ ys) d z l r w = (w.0, step i xs ys d z (omega arith) r w.1)

  pub walked-step : (i : ℕ) (xs ys : List X) (d z : X) → i < length ys → R (get_or ys i d) z → Walked R i xs ys → Walked R (i + 1) xs (slice_set ys i z)
  walked-step i xs ys d z l r w =
      let W : ℕ → Type 0 = λ j. Walked R j xs (slice_set ys i z) in
      let same : suc i ≡ i + 1 = omega arith in
      subst W same (step i xs ys d z l r w)

  -- what holds of all, once each was replaced
  pub walked-all : (P : X → Type 0) (Q : X → Type 0) → ((x y : X) → P x → R x y → Q y) → (n : ℕ) (xs ys : List X) → n ≡ length ys → Walked R n xs ys → AllByRecursion P xs → AllByRecursion Q ys
  walked-all P Q f n xs [] e w a = tt
  walked-all P Q f zero xs (y ∷ ys) e w a = absurd (omega arith)
  walked-all P Q f (suc n) [] (y ∷ ys) e w a = absurd w
  walked-all P Q f (suc n) (x ∷ xs) (y ∷ ys) e w a = (f x y a.0 w.0, walked-all P Q f n xs ys (omega arith) w.1 a.1)

  pub walked-map : {Y : Type 0} (P : X → Type 0) (f g : X → Y) → ((x y : X) → P x → R x y → f y ≡ g x) → (n : ℕ) (xs ys : List X) → n ≡ length ys → Walked R n xs ys → AllByRecursion P xs → map f ys ≡ map g xs
  walked-map P f g h n [] [] e w a = refl
  walked-map P f g h zero (x ∷ xs) [] e w a = (let no : x ∷ xs ≡ [] = sym w in absurd cc)
  walked-map P f g h (suc n) (x ∷ xs) [] e w a = absurd w
  walked-map P f g h zero [] (y ∷ ys) e w a = absurd (omega arith)
  walked-map P f g h zero (x ∷ xs) (y ∷ ys) e w a = absurd (omega arith)
  walked-map P f g h (suc n) [] (y ∷ ys) e w a = absurd w
  walked-map P f g h (suc n) (x ∷ xs) (y ∷ ys) e w a =
      ap (λ v. v ∷ map f ys) (h x y a.0 w.0) ∙ ap (λ vs. g x ∷ vs) (walked-map P f g h n xs ys (omega arith) w.1 a.1)

-- each was replaced by what a function makes of it
pub walked-is : {X : Type 0} (R : X → X → Type 0) (g : X → X) → ((x y : X) → R x y → y ≡ g x) → (n : ℕ) (xs ys : List X) → n ≡ length ys → Walked R n xs ys → ys ≡ map g xs
walked-is R g h zero [] [] e w = refl
walked-is R g h zero (x ∷ xs) [] e w = (let no : x ∷ xs ≡ [] = sym w in absurd cc)
walked-is R g h zero xs (y ∷ ys) e w = absurd (omega arith)
walked-is R g h (suc n) [] [] e w = refl
walked-is R g h (suc n) (x ∷ xs) [] e w = absurd w
walked-is R g h (suc n) [] (y ∷ ys) e w = absurd w
walked-is R g h (suc n) (x ∷ xs) (y ∷ ys) e w =
    ap (λ v. v ∷ ys) (h x y w.0) ∙ ap (λ vs. g x ∷ vs) (walked-is R g h n xs ys (omega (arith, e)) w.1)

pub all-set : {X : Type 0} (P : X → Type 0) (i : ℕ) (ys : List X) (z : X) → P z → AllByRecursion P ys → AllByRecursion P (slice_set ys i z)
all-set P i [] z h a = tt
all-set P zero (y ∷ ys) z h a = (h, a.1)
all-set P (suc i) (y ∷ ys) z h a = (a.0, all-set P i ys z h a.1)

pub all-at : {X : Type 0} (P : X → Type 0) (i : ℕ) (ys : List X) (d : X) → i < length ys → AllByRecursion P ys → P (get_or ys i d)
all-at P i [] d l a = absurd (omega arith)
all-at P zero (v ∷ ys) d l a = a.0
all-at P (suc i) (v ∷ ys) d l a = all-at P i ys d (omega arith) a.1

pub map-map : {X Y Z : Type 0} (f : X → Y) (g : Y → Z) (xs : List X) → map (λ x. g (f x)) xs ≡ map g (map f xs)
map-map f g [] = refl
map-map f g (x ∷ xs) = ap (λ v. g (f x) ∷ v) (map-map f g xs)

-- a slice that was written back whole
pub written-back : {X : Type 0} (n : ℕ) (xs ys : List X) → n ≡ length xs → take n (xs ++ ys) ≡ xs
written-back n xs ys e = (let le : n ≤ length xs = omega (arith, e) in take-append-le n xs ys le ∙ take_all n xs (omega (arith, e)))

pub walked-start : {X : Type 0} (R : X → X → Type 0) → ((x : X) → R x x) → (n : ℕ) (xs : List X) → n ≡ length xs → Walked R n xs xs
walked-start R f zero xs e = refl
walked-start R f (suc n) [] e = tt
walked-start R f (suc n) (x ∷ xs) e = (f x, walked-start R f n xs (omega (arith, e)))

pub walked-then : {X : Type 0} (R S T : X → X → Type 0) → ((x y z : X) → R x y → S y z → T x z) → (n : ℕ) (xs ys zs : List X) → n ≡ length ys → Walked R n xs ys → Walked S n ys zs → Walked T n xs zs
walked-then R S T f zero xs [] zs e w v = v ∙ w
walked-then R S T f zero xs (y ∷ ys) zs e w v = absurd (omega arith)
walked-then R S T f (suc n) xs [] zs e w v = absurd (omega arith)
walked-then R S T f (suc n) [] (y ∷ ys) zs e w v = absurd w
walked-then R S T f (suc n) (x ∷ xs) (y ∷ ys) [] e w v = absurd v
walked-then R S T f (suc n) (x ∷ xs) (y ∷ ys) (z ∷ zs) e w v = (f x y z w.0 v.0, walked-then R S T f n xs ys zs (omega (arith, e)) w.1 v.1)

-- the next ones are unchanged, and each may be replaced by itself
pub walked-past : {X : Type 0} (R : X → X → Type 0) (i j : ℕ) (xs ys : List X) → ((k : ℕ) (d : X) → i ≤ k → k < j → k < length xs → R (get_or xs k d) (get_or xs k d)) → i ≤ j → Walked R i xs ys → Walked R j xs ys
walked-past R zero zero xs ys f h w = w
walked-past {X} R zero (suc j) [] ys f h w =
    let W : List X → Type 0 = λ us. Walked R (suc j) [] us in
    subst W (sym w) tt
walked-past {X} R zero (suc j) (x ∷ xs) ys f h w =
    let W : List X → Type 0 = λ us. Walked R (suc j) (x ∷ xs) us in
    subst W (sym w) (f 0 x (omega arith) (omega arith) (omega arith), walked-past R zero j xs xs (λ k d a b c. f (suc k) d (omega arith) (omega (arith, b)) (omega (arith, c))) (omega arith) refl)
walked-past R (suc i) zero xs ys f h w = absurd (omega (arith, h))
walked-past R (suc i) (suc j) [] [] f h w = tt
walked-past R (suc i) (suc j) [] (y ∷ ys) f h w = absurd w
walked-past R (suc i) (suc j) (x ∷ xs) [] f h w = absurd w
walked-past R (suc i) (suc j) (x ∷ xs) (y ∷ ys) f h w = (w.0, walked-past R i j xs ys (λ k d a b c. f (suc k) d (omega (arith, a)) (omega (arith, b)) (omega (arith, c))) (omega (arith, h)) w.1)

-- past the last one
pub walked-end : {X : Type 0} (R : X → X → Type 0) (j n : ℕ) (xs ys : List X) → n ≡ length ys → n ≤ j → Walked R j xs ys → Walked R n xs ys
walked-end R zero zero xs ys e h w = w
walked-end R zero (suc n) xs ys e h w = absurd (omega (arith, h))
walked-end R (suc j) zero [] [] e h w = refl
walked-end R (suc j) zero (x ∷ xs) [] e h w = absurd w
walked-end R (suc j) zero xs (y ∷ ys) e h w = absurd (omega (arith, e))
walked-end R (suc j) (suc n) xs [] e h w = absurd (omega (arith, e))
walked-end R (suc j) (suc n) [] (y ∷ ys) e h w = absurd w
walked-end R (suc j) (suc n) (x ∷ xs) (y ∷ ys) e h w = (w.0, walked-end R j n xs ys (omega (arith, e)) (omega (arith, h)) w.1)
