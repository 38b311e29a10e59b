-- Lines one after the other.
use Rattle.std.proofs.Common.{◌≡◌, ℕ, zero, suc, ◌<◌, List, [], ◌∷◌, ◌++◌, length, sym, ap, ◌∙◌, arith, take, get_or, append_assoc}
use Rattle.std.proofs.lemmas.List.{append-nil}
use Rattle.std.specs.List.{flat_map}

-- the pieces of one more item
pub flat_map-next : {X : Type 0} (f : X → List ℕ) (xs : List X) (i : ℕ) (d : X) → i < length xs
    → flat_map f (take (suc i) xs) ≡ flat_map f (take i xs) ++ f (get_or xs i d)
flat_map-next f [] i d h = absurd (omega arith)
flat_map-next f (y ∷ ys) zero d h = append-nil (f y)
flat_map-next f (y ∷ ys) (suc i) d h =
    let h' : i < length ys = omega arith in
    ap (λ (q : List ℕ). f y ++ q) (flat_map-next f ys i d h') ∙ sym (append_assoc (f y) (flat_map f (take i ys)) (f (get_or ys i d)))
