-- The elements of a route are the words of its field.
use Rattle.std.proofs.Common.{◌≡◌, ℕ, ◌+◌, ◌-◌, ◌≤◌, Bool, true, false, cond, eqb, List, [], ◌∷◌, ◌++◌, length, take, drop, sym, refl, ap, ◌∙◌, arith, append_assoc, append-nil, length-append}
use Rattle.std.specs.Prelude.{Option, Some, None, Ok, slice_range}
use Rattle.std.specs.Option.{option_map, option_and_then, ok_or}
use Rattle.std.specs.List.{join_with_byte}
use Rattle.std.proofs.lemmas.Bool.{ne_eqb}
use Rattle.std.proofs.lemmas.List.{take_at, drop_at}
use Rattle.std.proofs.lemmas.List.Splits.{join_with_byte-slice_split}
use Rattle.fpl_text.specs.Words.{words_of}
use Rattle.fpl_items.specs.declared.fault.ItemFault.TheVariants.{BadField}
use Rattle.fpl_items.specs.declared.route.Element.{Element}
use Rattle.fpl_items.specs.declared.route.Kind.{Kind}
use Rattle.fpl_items.specs.Kinds.{kind_of}
use Rattle.fpl_items.specs.Speeds.{speed_len, is_speed_and_level}
use Rattle.fpl_items.specs.Routes.{RouteView, elements_of, path_of_words, path_or_fault}
use Rattle.fpl_items.specs.RouteLaws.{AreElements, AreInOrder}

-- what elements that are found in a field are
record Told (field : List ℕ) (words : List (List ℕ)) (from : ℕ) (elements : List Element) : Type 0 where
  all : AreElements field words elements
  order : AreInOrder from elements

abbrev Tells : List ℕ → List (List ℕ) → ℕ → Option (List Element) → Type 0
Tells field words from None = Unit {0}
Tells field words from (Some elements) = Told field words from elements

-- a word begins after what precedes it
span : (field front word rest : List ℕ) (from : ℕ) → length front ≡ from → field ≡ front ++ (word ++ rest) → slice_range field from (from + length word) ≡ word
span field front word rest from long is =
    let width : from + length word - from ≡ length word = omega arith in
    rw (is, width) (ap (take (length word)) (drop_at front (word ++ rest) from long) ∙ take_at word rest (length word) refl)

element : (field word : List ℕ) (words : List (List ℕ)) (from : ℕ) (kind : Option Kind) (more : Option (List Element)) → kind_of word ≡ kind → slice_range field from (from + length word) ≡ word → Tells field words (from + length word + 1) more → Tells field (word ∷ words) from (option_and_then (λ k. option_map (λ elements. record { kind = k; from = from; to = from + length word } ∷ elements) more) kind)
element field word words from None more is at told = tt
element field word words from (Some kind) None is at told = tt
element field word words from (Some kind) (Some elements) is at told = record {
  all = (at, is, told.all);
  order = (omega arith, omega arith, told.order);
}

behind : (front word rest : List ℕ) → front ++ (word ++ 32 ∷ rest) ≡ (front ++ (word ++ 32 ∷ [])) ++ rest
behind front word rest = ap (λ t. front ++ t) (sym (append_assoc word (32 ∷ []) rest)) ∙ sym (append_assoc front (word ++ 32 ∷ []) rest)

elements-told : (field front : List ℕ) (words : List (List ℕ)) (from : ℕ) → length front ≡ from → field ≡ front ++ join_with_byte 32 words → Tells field words from (elements_of from words)
elements-told field front [] from long is = record { all = tt; order = tt }
elements-told field front (word ∷ []) from long is =
    element field word [] from (kind_of word) (Some []) refl
    (span field front word [] from long (is ∙ ap (λ t. front ++ t) (sym (append-nil word))))
    (record { all = tt; order = tt })
elements-told field front (word ∷ next ∷ words) from long is =
    let rest = join_with_byte 32 (next ∷ words) in
    element field word (next ∷ words) from (kind_of word) (elements_of (from + length word + 1) (next ∷ words)) refl
    (span field front word (32 ∷ rest) from long is)
    (elements-told field (front ++ (word ++ 32 ∷ [])) (next ∷ words) (from + length word + 1)
    (length-append front (word ++ 32 ∷ []) ∙ omega (arith, long, length-append word (32 ∷ [])))
    (is ∙ behind front word rest))

earlier : (from before : ℕ) (elements : List Element) → before ≤ from → AreInOrder from elements → AreInOrder before elements
earlier from before [] h order = tt
earlier from before (e ∷ elements) h order = (omega (arith, order.0), order.1, order.2)

-- the law
pub record Law (field : List ℕ) (words : List (List ℕ)) (elements : List Element) : Type 0 where
  pub all : AreElements field words elements
  pub order : AreInOrder 0 elements

path-told : (field word : List ℕ) (words : List (List ℕ)) (good : Bool) (found : Option (List Element)) (path : RouteView) → Tells field words (length word + 1) found → ok_or (cond good (option_map (λ elements. record { speed = take (speed_len word) word; level = drop (speed_len word) word; elements = elements }) found) None) (BadField 15) ≡ Ok path → Law field words path.elements
path-told field word words true (Some elements) path told is =
    let same : record { speed = take (speed_len word) word; level = drop (speed_len word) word; elements = elements } ≡ path = cc in
    rw (← same) (record { all = told.all; order = earlier (length word + 1) 0 elements (omega arith) told.order })
path-told field word words true None path told is = absurd cc
path-told field word words false found path told is = absurd cc

words-told : (field : List ℕ) (words : List (List ℕ)) (path : RouteView) → field ≡ join_with_byte 32 words → ok_or (path_of_words words) (BadField 15) ≡ Ok path → Law field (drop 1 words) path.elements
words-told field [] path is read = absurd cc
words-told field (word ∷ []) path is read =
    path-told field word [] (is_speed_and_level word) (Some []) path (record { all = tt; order = tt }) read
words-told field (word ∷ next ∷ words) path is read =
    path-told field word (next ∷ words) (is_speed_and_level word) (elements_of (length word + 1) (next ∷ words)) path
    (elements-told field (word ++ 32 ∷ []) (next ∷ words) (length word + 1) (length-append word (32 ∷ []))
    (is ∙ behind [] word (join_with_byte 32 (next ∷ words))))
    read

joined : (field : List ℕ) → field ≡ join_with_byte 32 (words_of field)
unfolding words_of
joined [] = refl
joined (b ∷ field) =
    let some : eqb (length (b ∷ field)) 0 ≡ false = ne_eqb (length (b ∷ field)) 0 (λ none. absurd (omega arith)) in
    rw some (sym (join_with_byte-slice_split 32 (b ∷ field)))

pub elements_law : (field : List ℕ) (path : RouteView) → path_or_fault field ≡ Ok path → Law field (drop 1 (words_of field)) path.elements
unfolding path_or_fault
elements_law field path read = words-told field (words_of field) path (joined field) read
