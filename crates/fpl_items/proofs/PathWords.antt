-- The bytes of a path are those of its words, and spaces.
use Rattle.std.proofs.Common.{◌≡◌, ℕ, ◌==◌, Bool, true, false, cond, ◌&&◌, ◌||◌, List, [], ◌∷◌, length, refl, sym, ap, ◌∙◌, arith}
use Rattle.std.specs.List.{list_all, slice_split, onto_first}
use Rattle.std.proofs.lemmas.Bool.Decides.{nat_tests}
use Rattle.fpl_text.specs.Bytes.{is_path_byte}
use Rattle.fpl_text.specs.Words.{words_of}
use Rattle.fpl_items.specs.Kinds.{is_route_byte}

and-true : (a : Bool) → (a && true) && true ≡ a && true
and-true true = refl
and-true false = refl

and-assoc : (a b c : Bool) → (a && b) && c ≡ a && (b && c)
and-assoc true b c = refl
and-assoc false b c = refl

or-true : (a : Bool) → a || true ≡ true
or-true true = refl
or-true false = refl

or-false : (a : Bool) → a || false ≡ a
or-false true = refl
or-false false = refl

path-byte : (b : ℕ) → is_path_byte b ≡ is_route_byte b || (b == 32)
unfolding is_path_byte is_route_byte
path-byte b = refl

onto-all : (x : ℕ) (ws : List (List ℕ)) → list_all (list_all is_route_byte) (onto_first x ws) ≡ is_route_byte x && list_all (list_all is_route_byte) ws
onto-all x [] = and-true (is_route_byte x)
onto-all x (w ∷ ws) = and-assoc (is_route_byte x) (list_all is_route_byte w) (list_all (list_all is_route_byte) ws)

split-step : (x : ℕ) (xs : List ℕ) (b : Bool) → list_all (list_all is_route_byte) (slice_split (λ y. y == 32) xs) ≡ list_all is_path_byte xs
    → list_all (list_all is_route_byte) (cond b ([] ∷ slice_split (λ y. y == 32) xs) (onto_first x (slice_split (λ y. y == 32) xs))) ≡ (is_route_byte x || b) && list_all is_path_byte xs
split-step x xs true rest = rest ∙ sym (ap (λ (q : Bool). q && list_all is_path_byte xs) (or-true (is_route_byte x)))
split-step x xs false rest =
    onto-all x (slice_split (λ y. y == 32) xs)
    ∙ (ap (λ (q : Bool). is_route_byte x && q) rest ∙ sym (ap (λ (q : Bool). q && list_all is_path_byte xs) (or-false (is_route_byte x))))

split-all : (text : List ℕ) → list_all (list_all is_route_byte) (slice_split (λ y. y == 32) text) ≡ list_all is_path_byte text
split-all [] = refl
split-all (x ∷ xs) = split-step x xs (x == 32) (split-all xs) ∙ ap (λ (q : Bool). q && list_all is_path_byte xs) (sym (path-byte x))

-- a text has the bytes of a path just if all its words have those of a route
pub path-words : (text : List ℕ) → list_all is_path_byte text ≡ list_all (list_all is_route_byte) (words_of text)
unfolding words_of
path-words [] = refl
path-words (x ∷ xs) = let some : (length (x ∷ xs) == 0) ≡ false = grind (arith, nat_tests) in rw some (sym (split-all (x ∷ xs)))
