-- The names of the open regulations, of which no two are the same.
use Rattle.std.proofs.Common.{◌≡◌, ℕ, zero, suc, ◌<◌, ◌++◌, ◌||◌, Bool, true, false, not, cond, List, [], ◌∷◌, length, map, get_or, refl, sym, ap, subst, ◌∙◌, arith}
use Rattle.std.specs.List.{list_any, insert, remove}
use Rattle.std.specs.Str.{bytes_eq}
use Rattle.std.proofs.lemmas.Bool.{or_parts, true≢false}
use Rattle.std.proofs.lemmas.Slice.Eq.{bytes_eq-Decides}
use Rattle.flow_plans.specs.Plans.{PlanView}
use Rattle.flow_regulations.specs.Regulations.{Regulation}
use Rattle.flow_regulations.specs.Settling.{settled}
use Rattle.flow_regulations.specs.Listing.{RegulationView, HaveCapacity, is_named, without_named, names_in, AreApart, without_in, with_fixed_waiting}

-- names are the same both ways round
pub turned : (x y : List ℕ) → bytes_eq x y ≡ false → bytes_eq y x ≡ false
turned x y e = cases (bytes_eq y x) refl where
  cases : (b : Bool) → bytes_eq y x ≡ b → bytes_eq y x ≡ false
  cases false q = q
  cases true q = absurd (true≢false (sym ((bytes_eq-Decides x y).1 (sym ((bytes_eq-Decides y x).0 q))) ∙ e))

-- the index of a name among names, and among regulations
pub none-names : (id : List ℕ) (ls : List RegulationView) → list_any (is_named id) ls ≡ list_any (λ y. bytes_eq y id) (names_in ls)
none-names id [] = refl
none-names id (l ∷ ls) = ap (λ b. bytes_eq l.id id || b) (none-names id ls)

-- those of another name
pub none-without : (id : List ℕ) (ls : List RegulationView) → list_any (is_named id) ls ≡ false → without_named id ls ≡ ls
none-without id [] e = refl
none-without id (l ∷ ls) e =
    let parts = or_parts (is_named id l) (list_any (is_named id) ls) e in
    ap (λ b. cond (not b) (l ∷ without_named id ls) (without_named id ls)) parts.0 ∙ ap (λ vs. l ∷ vs) (none-without id ls parts.1)

none-at : (id : List ℕ) (ls : List RegulationView) (i : ℕ) (d : RegulationView) → i < length ls → is_named id (get_or ls i d) ≡ true → list_any (is_named id) ls ≡ false → ⊥
none-at id [] i d h n e = absurd (omega arith)
none-at id (l ∷ ls) zero d h n e = true≢false (sym n ∙ (or_parts (is_named id l) (list_any (is_named id) ls) e).0)
none-at id (l ∷ ls) (suc i) d h n e = none-at id ls i d (omega (arith, h)) n (or_parts (is_named id l) (list_any (is_named id) ls) e).1

-- the others are left if one is removed
pub removed-named : (id : List ℕ) (ls : List RegulationView) (i : ℕ) (d : RegulationView) → AreApart (names_in ls) → i < length ls → is_named id (get_or ls i d) ≡ true → remove ls i ≡ without_named id ls
removed-named id [] i d a h n = absurd (omega arith)
removed-named id (l ∷ ls) zero d a h n =
    let same : l.id ≡ id = (bytes_eq-Decides l.id id).0 n in
    let none : list_any (is_named id) ls ≡ false = none-names id ls ∙ (ap (λ x. list_any (λ y. bytes_eq y x) (names_in ls)) (sym same) ∙ a.0) in
    sym (ap (λ b. cond (not b) (l ∷ without_named id ls) (without_named id ls)) n ∙ none-without id ls none)
removed-named id (l ∷ ls) (suc i) d a h n = cases (removed-named id ls i d a.1 (omega (arith, h)) n) (is_named id l) refl where
  apart : is_named id l ≡ true → list_any (is_named id) ls ≡ false
  apart q = none-names id ls ∙ (ap (λ x. list_any (λ y. bytes_eq y x) (names_in ls)) (sym ((bytes_eq-Decides l.id id).0 q)) ∙ a.0)

  cases : remove ls i ≡ without_named id ls → (b : Bool) → is_named id l ≡ b → l ∷ remove ls i ≡ cond (not b) (l ∷ without_named id ls) (without_named id ls)
  cases again true q = absurd (none-at id ls i d (omega (arith, h)) n (apart q))
  cases again false q = ap (λ vs. l ∷ vs) again

-- and it comes back to its index
pub put-back-in-place : (ls : List RegulationView) (i : ℕ) (d : RegulationView) → i < length ls → insert (remove ls i) i (get_or ls i d) ≡ ls
put-back-in-place [] i d h = absurd (omega arith)
put-back-in-place (l ∷ ls) zero d h = refl
put-back-in-place (l ∷ ls) (suc i) d h = ap (λ vs. l ∷ vs) (put-back-in-place ls i d (omega (arith, h)))

any-without : (p : List ℕ → Bool) (id : List ℕ) (ls : List RegulationView) → list_any p (names_in ls) ≡ false → list_any p (names_in (without_named id ls)) ≡ false
any-without p id [] e = refl
any-without p id (l ∷ ls) e = cases (any-without p id ls (or_parts (p l.id) (list_any p (names_in ls)) e).1) (not (is_named id l)) where
  cases : list_any p (names_in (without_named id ls)) ≡ false → (b : Bool) → list_any p (names_in (cond b (l ∷ without_named id ls) (without_named id ls))) ≡ false
  cases again true = ap (λ b. b || list_any p (names_in (without_named id ls))) (or_parts (p l.id) (list_any p (names_in ls)) e).0 ∙ again
  cases again false = again

pub apart-without : (id : List ℕ) (ls : List RegulationView) → AreApart (names_in ls) → AreApart (names_in (without_named id ls))
apart-without id [] a = tt
apart-without id (l ∷ ls) a = cases (apart-without id ls a.1) (not (is_named id l)) where
  cases : AreApart (names_in (without_named id ls)) → (b : Bool) → AreApart (names_in (cond b (l ∷ without_named id ls) (without_named id ls)))
  cases again true = (any-without (λ y. bytes_eq y l.id) id ls a.0, again)
  cases again false = again

-- the name that was removed is none of the others
pub gone-without : (id : List ℕ) (ls : List RegulationView) (name : List ℕ) → bytes_eq name id ≡ true → list_any (is_named name) (without_named id ls) ≡ false
gone-without id [] name e = refl
gone-without id (l ∷ ls) name e = cases (gone-without id ls name e) (is_named id l) refl where
  cases : list_any (is_named name) (without_named id ls) ≡ false → (b : Bool) → is_named id l ≡ b → list_any (is_named name) (cond (not b) (l ∷ without_named id ls) (without_named id ls)) ≡ false
  cases again true q = again
  cases again false q =
      let other : is_named name l ≡ false = ap (bytes_eq l.id) ((bytes_eq-Decides name id).0 e) ∙ q in
      ap (λ b. b || list_any (is_named name) (without_named id ls)) other ∙ again

any-insert : (p : List ℕ → Bool) (x : RegulationView) (ls : List RegulationView) (i : ℕ) → list_any p (names_in ls) ≡ false → p x.id ≡ false → list_any p (names_in (insert ls i x)) ≡ false
any-insert p x [] zero e q = ap (λ b. b || false) q
any-insert p x [] (suc i) e q = ap (λ b. b || false) q
any-insert p x (l ∷ ls) zero e q = ap (λ b. b || list_any p (names_in (l ∷ ls))) q ∙ e
any-insert p x (l ∷ ls) (suc i) e q =
    let parts = or_parts (p l.id) (list_any p (names_in ls)) e in
    ap (λ b. b || list_any p (names_in (insert ls i x))) parts.0 ∙ any-insert p x ls i parts.1 q

pub apart-insert : (x : RegulationView) (ls : List RegulationView) (i : ℕ) → AreApart (names_in ls) → list_any (is_named x.id) ls ≡ false → AreApart (names_in (insert ls i x))
apart-insert x [] zero a e = (refl, tt)
apart-insert x [] (suc i) a e = (refl, tt)
apart-insert x (l ∷ ls) zero a e = (sym (none-names x.id (l ∷ ls)) ∙ e, a)
apart-insert x (l ∷ ls) (suc i) a e =
    let parts = or_parts (is_named x.id l) (list_any (is_named x.id) ls) e in
    (any-insert (λ y. bytes_eq y l.id) x ls i a.0 (turned l.id x.id parts.0), apart-insert x ls i a.1 parts.1)

pub apart-last : (x : RegulationView) (ls : List RegulationView) → AreApart (names_in ls) → list_any (is_named x.id) ls ≡ false → AreApart (names_in (ls ++ x ∷ []))
apart-last x [] a e = (refl, tt)
apart-last x (l ∷ ls) a e =
    let parts = or_parts (is_named x.id l) (list_any (is_named x.id) ls) e in
    (any-last (λ y. bytes_eq y l.id) ls a.0 (turned l.id x.id parts.0), apart-last x ls a.1 parts.1)
  where
    any-last : (p : List ℕ → Bool) (ls : List RegulationView) → list_any p (names_in ls) ≡ false → p x.id ≡ false → list_any p (names_in (ls ++ x ∷ [])) ≡ false
    any-last p [] e q = ap (λ b. b || false) q
    any-last p (l ∷ ls) e q =
        let parts = or_parts (p l.id) (list_any p (names_in ls)) e in
        ap (λ b. b || list_any p (names_in (ls ++ x ∷ []))) parts.0 ∙ any-last p ls parts.1 q

pub apart-front : (xs ys : List RegulationView) → AreApart (names_in (xs ++ ys)) → AreApart (names_in xs)
apart-front [] ys a = tt
apart-front (x ∷ xs) ys a = (any-front (λ y. bytes_eq y x.id) xs a.0, apart-front xs ys a.1) where
  any-front : (p : List ℕ → Bool) (xs : List RegulationView) → list_any p (names_in (xs ++ ys)) ≡ false → list_any p (names_in xs) ≡ false
  any-front p [] e = refl
  any-front p (l ∷ ls) e =
      let parts = or_parts (p l.id) (list_any p (names_in (ls ++ ys))) e in
      ap (λ b. b || list_any p (names_in ls)) parts.0 ∙ any-front p ls parts.1

pub capacity-front : (max : ℕ) (xs ys : List RegulationView) → HaveCapacity max (xs ++ ys) → HaveCapacity max xs
capacity-front max [] ys a = tt
capacity-front max (x ∷ xs) ys a = (a.0, capacity-front max xs ys a.1)

pub capacity-insert : (max : ℕ) (x : RegulationView) (ls : List RegulationView) (i : ℕ) → HaveCapacity max ls → x.lineup.capacity ≡ max → HaveCapacity max (insert ls i x)
capacity-insert max x [] zero a e = (e, tt)
capacity-insert max x [] (suc i) a e = (e, tt)
capacity-insert max x (l ∷ ls) zero a e = (e, a)
capacity-insert max x (l ∷ ls) (suc i) a e = (a.0, capacity-insert max x ls i a.1 e)

-- the names stay
pub names-advanced : (ns : List ℕ) (ls : List RegulationView) → names_in (map (with_fixed_waiting ns) ls) ≡ names_in ls
names-advanced ns [] = refl
names-advanced ns (l ∷ ls) = ap (λ vs. l.id ∷ vs) (names-advanced ns ls)

pub names-back : (f : ℕ) (os bs : List RegulationView) → map (without_in f) os ≡ map (without_in f) bs → names_in bs ≡ names_in os
names-back f [] [] q = refl
names-back f [] (b ∷ bs) q = absurd cc
names-back f (o ∷ os) [] q = absurd cc
names-back f (o ∷ os) (b ∷ bs) q =
    let here : without_in f o ≡ without_in f b = cc in
    let rest : map (without_in f) os ≡ map (without_in f) bs = cc in
    ap (λ v. v ∷ names_in bs) (ap (λ v. v.id) (sym here)) ∙ ap (λ vs. o.id ∷ vs) (names-back f os bs rest)

pub apart-as : (os ns : List RegulationView) → names_in ns ≡ names_in os → AreApart (names_in os) → AreApart (names_in ns)
apart-as os ns e a = subst AreApart (sym e) a

pub settled-name : (taxi now : ℕ) (plans : List PlanView) (r : Regulation) → (settled taxi now plans r).id ≡ r.id
unfolding settled
settled-name taxi now plans r = refl
