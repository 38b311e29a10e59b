-- The masks of flights, as the open regulations change.
use Rattle.std.proofs.Common.{◌≡◌, ℕ, zero, suc, ◌+◌, ◌<◌, ◌≤◌, ◌++◌, ◌⊎◌, inl, inr, Bool, true, false, not, cond, eqb, ltb, List, [], ◌∷◌, length, map, take, get_or, refl, sym, subst, ◌∙◌, arith}
use Rattle.std.specs.List.{remove}
use Rattle.std.specs.Prelude.{slice_set}
use Rattle.std.proofs.lemmas.List.{get_or-set_same, get_or-set_other, get_or_past}
use Rattle.std.proofs.lemmas.Bool.{ltb-true, ltb-false, cases_eq, cases_lt, eqb-true, lt-ltb, le-ltb, true≢false}
use Rattle.flow_slots.specs.declared.cell.Planned.{Planned}
use Rattle.flow_slots.specs.Order.{without}
use Rattle.flow_slots.specs.Assignment.{Placed}
use Rattle.flow_slots.specs.Lineup.{NoneIs, NoneFixed, without_fixed}
use Rattle.flow_regulations.specs.Listing.{RegulationView, Walked, without_in}
use Rattle.flow_regulations.specs.Marks.{may_stand, mask_of, IsOut, IsMarked, AreMarked, KeepsMask, KeepsBelow, MaskMovesUp, IsOpenedTo}
use Rattle.flow_regulations.proofs.MarkBits.{ones-stand}
use Rattle.flow_regulations.proofs.Walks.{written-back}

-- a flight that isn't held, among the others
kept-fixed : (f n : ℕ) (xs : List Placed) → NoneFixed f xs → NoneFixed f (without_fixed n xs)
kept-fixed f n [] h = tt
kept-fixed f n (x ∷ xs) h = cases (kept-fixed f n xs h.1) (not (eqb x.flight n)) where
  cases : NoneFixed f (without_fixed n xs) → (b : Bool) → NoneFixed f (cond b (x ∷ without_fixed n xs) (without_fixed n xs))
  cases again true = (h.0, again)
  cases again false = again

back-fixed : (f n : ℕ) (xs : List Placed) → (f ≡ n → ⊥) → NoneFixed f (without_fixed n xs) → NoneFixed f xs
back-fixed f n [] ne h = tt
back-fixed f n (x ∷ xs) ne h = cases (λ k. back-fixed f n xs ne k) (eqb x.flight n) refl h where
  cases : (NoneFixed f (without_fixed n xs) → NoneFixed f xs) → (b : Bool) → eqb x.flight n ≡ b → NoneFixed f (cond (not b) (x ∷ without_fixed n xs) (without_fixed n xs)) → NoneFixed f (x ∷ xs)
  cases again true q k = (λ e. ne (sym e ∙ eqb-true x.flight n q), again k)
  cases again false q k = (k.0, again k.1)

kept-waiting : (f n : ℕ) (ws : List Planned) → NoneIs f ws → NoneIs f (without n ws)
kept-waiting f n [] h = tt
kept-waiting f n (w ∷ ws) h = cases (kept-waiting f n ws h.1) (not (eqb w.flight n)) where
  cases : NoneIs f (without n ws) → (b : Bool) → NoneIs f (cond b (w ∷ without n ws) (without n ws))
  cases again true = (h.0, again)
  cases again false = again

back-waiting : (f n : ℕ) (ws : List Planned) → (f ≡ n → ⊥) → NoneIs f (without n ws) → NoneIs f ws
back-waiting f n [] ne h = tt
back-waiting f n (w ∷ ws) ne h = cases (λ k. back-waiting f n ws ne k) (eqb w.flight n) refl h where
  cases : (NoneIs f (without n ws) → NoneIs f ws) → (b : Bool) → eqb w.flight n ≡ b → NoneIs f (cond (not b) (w ∷ without n ws) (without n ws)) → NoneIs f (w ∷ ws)
  cases again true q k = (λ e. ne (sym e ∙ eqb-true w.flight n q), again k)
  cases again false q k = (k.0, again k.1)

-- if another flight alone was changed
pub out-alone : (f n : ℕ) (l m : RegulationView) → (f ≡ n → ⊥) → without_in n m ≡ without_in n l → IsOut f l → IsOut f m
out-alone f n l m ne e h =
    let F : RegulationView → Type 0 = λ v. NoneFixed f v.lineup.fixed in
    let W : RegulationView → Type 0 = λ v. NoneIs f v.lineup.waiting in
    (back-fixed f n m.lineup.fixed ne (subst F (sym e) (kept-fixed f n l.lineup.fixed h.0)), back-waiting f n m.lineup.waiting ne (subst W (sym e) (kept-waiting f n l.lineup.waiting h.1)))

-- a bit that isn't set wasn't set before
pub falls : (w v i : ℕ) → (may_stand w i ≡ true → may_stand v i ≡ true) → may_stand v i ≡ false → may_stand w i ≡ false
falls w v i k e = cases (may_stand w i) refl where
  cases : (b : Bool) → may_stand w i ≡ b → b ≡ false
  cases false q = refl
  cases true q = absurd (true≢false (sym (k q) ∙ e))

falls-to : (w v i j : ℕ) → (may_stand w j ≡ true → may_stand v i ≡ true) → may_stand v i ≡ false → may_stand w j ≡ false
falls-to w v i j k e = cases (may_stand w j) refl where
  cases : (b : Bool) → may_stand w j ≡ b → b ≡ false
  cases false q = refl
  cases true q = absurd (true≢false (sym (k q) ∙ e))

pub covers-more : (w v f i : ℕ) (ls : List RegulationView) → KeepsMask w v → IsMarked w f i ls → IsMarked v f i ls
covers-more w v f i [] k c = tt
covers-more w v f i (l ∷ ls) k c = (λ e. c.0 (falls w v i (k i) e), covers-more w v f (suc i) ls k c.1)

at : (w f i j k : ℕ) (ls : List RegulationView) (d : RegulationView) → k ≡ i + j → j < length ls → IsMarked w f i ls → may_stand w k ≡ false → IsOut f (get_or ls j d)
at w f i j k [] d e h c m = absurd (omega arith)
at w f i zero k (l ∷ ls) d e h c m =
    let M : ℕ → Type 0 = λ p. may_stand w p ≡ false in
    let same : k ≡ i = omega arith in
    c.0 (subst M same m)
at w f i (suc j) k (l ∷ ls) d e h c m = at w f (suc i) j k ls d (omega arith) (omega arith) c.1 m

-- what a mask says of the regulation at an index
pub covers-at : (w f j : ℕ) (ls : List RegulationView) (d : RegulationView) → j < length ls → IsMarked w f 0 ls → may_stand w j ≡ false → IsOut f (get_or ls j d)
covers-at w f j ls d h c m = at w f 0 j j ls d (omega arith) h c m

put : (w v f i j k : ℕ) (ls : List RegulationView) (z : RegulationView) → k ≡ i + j → KeepsMask w v → (may_stand v k ≡ false → IsOut f z) → IsMarked w f i ls → IsMarked v f i (slice_set ls j z)
put w v f i j k [] z e s o c = tt
put w v f i zero k (l ∷ ls) z e s o c =
    let M : ℕ → Type 0 = λ p. may_stand v p ≡ false in
    let same : i ≡ k = omega arith in
    (λ m. o (subst M same m), covers-more w v f (suc i) ls s c.1)
put w v f i (suc j) k (l ∷ ls) z e s o c = (λ m. c.0 (falls w v i (s i) m), put w v f (suc i) j k ls z (omega arith) s o c.1)

-- a regulation is replaced, and the mask has more bits
pub covers-set : (w v f j : ℕ) (ls : List RegulationView) (z : RegulationView) → KeepsMask w v → (may_stand v j ≡ false → IsOut f z) → IsMarked w f 0 ls → IsMarked v f 0 (slice_set ls j z)
covers-set w v f j ls z s o c = put w v f 0 j j ls z (omega arith) s o c

covers-alone : (n w f i : ℕ) (os ns : List RegulationView) → (f ≡ n → ⊥) → map (without_in n) ns ≡ map (without_in n) os → IsMarked w f i os → IsMarked w f i ns
covers-alone n w f i [] [] ne e c = tt
covers-alone n w f i (o ∷ os) [] ne e c = tt
covers-alone n w f i [] (m ∷ ms) ne e c = absurd cc
covers-alone n w f i (o ∷ os) (m ∷ ms) ne e c =
    let here : without_in n m ≡ without_in n o = cc in
    let rest : map (without_in n) ms ≡ map (without_in n) os = cc in
    (λ k. out-alone f n o m ne here (c.0 k), covers-alone n w f (suc i) os ms ne rest c.1)

-- one flight changes in each regulation, and has another mask
pub marked-one : (n w : ℕ) (olds news : List ℕ) (os ns : List RegulationView) → ((f : ℕ) → (f ≡ n → ⊥) → mask_of news f ≡ mask_of olds f) → KeepsMask w (mask_of news n)
    → map (without_in n) ns ≡ map (without_in n) os → IsMarked w n 0 ns → AreMarked olds os → AreMarked news ns
marked-one n w olds news os ns others one alone covers a f = cases (cases_eq f n) where
  cases : (f ≡ n) ⊎ (f ≡ n → ⊥) → IsMarked (mask_of news f) f 0 ns
  cases (inl e) =
      let C : ℕ → Type 0 = λ g. IsMarked (mask_of news g) g 0 ns in
      subst C (sym e) (covers-more w (mask_of news n) n 0 ns one covers)
  cases (inr ne) =
      let C : ℕ → Type 0 = λ v. IsMarked v f 0 ns in
      subst C (sym (others f ne)) (covers-alone n (mask_of olds f) f 0 os ns ne alone (a f))

covers-walked : (R : RegulationView → RegulationView → Type 0) (w f i n : ℕ) (os ns : List RegulationView) → ((l m : RegulationView) → R l m → IsOut f l → IsOut f m) → n ≡ length ns → Walked R n os ns → IsMarked w f i os → IsMarked w f i ns
covers-walked R w f i n os [] s e r c = tt
covers-walked R w f i zero os (m ∷ ms) s e r c = absurd (omega arith)
covers-walked R w f i (suc n) [] (m ∷ ms) s e r c = absurd r
covers-walked R w f i (suc n) (o ∷ os) (m ∷ ms) s e r c = (λ k. s o m r.0 (c.0 k), covers-walked R w f (suc i) n os ms s (omega arith) r.1 c.1)

-- each regulation is replaced, by one that holds no other flight
pub marked-walked : (R : RegulationView → RegulationView → Type 0) (words : List ℕ) (n : ℕ) (os ns : List RegulationView) → ((f : ℕ) (l m : RegulationView) → R l m → IsOut f l → IsOut f m) → n ≡ length ns → Walked R n os ns → AreMarked words os → AreMarked words ns
marked-walked R words n os ns s e r a f = covers-walked R (mask_of words f) f 0 n os ns (s f) e r (a f)

pub covers-ones : (f i : ℕ) (ls : List RegulationView) → IsMarked 18_446_744_073_709_551_615 f i ls
covers-ones f i [] = tt
covers-ones f i (l ∷ ls) = (λ e. absurd (true≢false (sym (ones-stand i) ∙ e)), covers-ones f (suc i) ls)

-- without masks nothing is said
pub marked-none : (ls : List RegulationView) → AreMarked [] ls
marked-none ls f = covers-ones f 0 ls

pub marked-as : (olds news : List ℕ) (ls : List RegulationView) → ((f : ℕ) → mask_of news f ≡ mask_of olds f) → AreMarked olds ls → AreMarked news ls
marked-as olds news ls e a f = (let C : ℕ → Type 0 = λ w. IsMarked w f 0 ls in subst C (sym (e f)) (a f))

covers-last : (w v f i k : ℕ) (ls : List RegulationView) (x : RegulationView) → k ≡ i + length ls → KeepsBelow k w v → (may_stand v k ≡ false → IsOut f x) → IsMarked w f i ls → IsMarked v f i (ls ++ x ∷ [])
covers-last w v f i k [] x e s o c =
    let M : ℕ → Type 0 = λ p. may_stand v p ≡ false in
    let same : i ≡ k = omega arith in
    (λ m. o (subst M same m), tt)
covers-last w v f i k (l ∷ ls) x e s o c = (λ m. c.0 (falls w v i (s i (lt-ltb i k (omega arith))) m), covers-last w v f (suc i) k ls x (omega arith) s o c.1)

-- one more regulation is opened
pub marked-last : (olds news : List ℕ) (k : ℕ) (ls : List RegulationView) (x : RegulationView) → k ≡ length ls → ((f : ℕ) → IsOpenedTo k x f (mask_of olds f) (mask_of news f)) → AreMarked olds ls → AreMarked news (ls ++ x ∷ [])
marked-last olds news k ls x e o a f = covers-last (mask_of olds f) (mask_of news f) f 0 k ls x (omega (arith, e)) (o f).0 (o f).1 (a f)

covers-front : (w f i : ℕ) (xs ys : List RegulationView) → IsMarked w f i (xs ++ ys) → IsMarked w f i xs
covers-front w f i [] ys c = tt
covers-front w f i (x ∷ xs) ys c = (c.0, covers-front w f (suc i) xs ys c.1)

-- the last one is removed again
pub marked-front : (words : List ℕ) (xs ys : List RegulationView) → AreMarked words (xs ++ ys) → AreMarked words xs
marked-front words xs ys a f = covers-front (mask_of words f) f 0 xs ys (a f)

covers-up : (w v f i k : ℕ) (ls : List RegulationView) → k ≤ i → MaskMovesUp k w v → IsMarked w f (suc i) ls → IsMarked v f i ls
covers-up w v f i k [] h s c = tt
covers-up w v f i k (l ∷ ls) h s c = (λ m. c.0 (falls-to w v i (suc i) (s.1 i (le-ltb i k h)) m), covers-up w v f (suc i) k ls (omega arith) s c.1)

covers-removed : (w v f i j k : ℕ) (ls : List RegulationView) → k ≡ i + j → MaskMovesUp k w v → IsMarked w f i ls → IsMarked v f i (remove ls j)
covers-removed w v f i zero k [] e s c = tt
covers-removed w v f i (suc j) k [] e s c = tt
covers-removed w v f i zero k (l ∷ ls) e s c = covers-up w v f i k ls (omega arith) s c.1
covers-removed w v f i (suc j) k (l ∷ ls) e s c = (λ m. c.0 (falls w v i (s.0 i (lt-ltb i k (omega arith))) m), covers-removed w v f (suc i) j k ls (omega arith) s c.1)

-- a regulation is closed
pub marked-removed : (olds news : List ℕ) (k : ℕ) (ls : List RegulationView) → ((f : ℕ) → MaskMovesUp k (mask_of olds f) (mask_of news f)) → AreMarked olds ls → AreMarked news (remove ls k)
marked-removed olds news k ls m a f = covers-removed (mask_of olds f) (mask_of news f) f 0 k k ls (omega arith) (m f) (a f)

-- the masks are replaced in turn
module _ (R : ℕ → ℕ → ℕ → Type 0) (olds news : List ℕ) (j : ℕ) (done : (f : ℕ) → f < j → R f (mask_of olds f) (mask_of news f)) (rest : (f : ℕ) → j ≤ f → mask_of news f ≡ mask_of olds f) where
  pub words-done : (w v : ℕ) → j < length news → w ≡ mask_of news j → R j w v → (f : ℕ) → f < j + 1 → R f (mask_of olds f) (mask_of (slice_set news j v) f)
  words-done w v h e r f l = cases (cases_eq f j) where
    cases : (f ≡ j) ⊎ (f ≡ j → ⊥) → R f (mask_of olds f) (mask_of (slice_set news j v) f)
    cases (inl q) =
        let O : ℕ → Type 0 = λ x. R j x v in
        let N : ℕ → Type 0 = λ x. R j (mask_of olds j) x in
        let G : ℕ → Type 0 = λ g. R g (mask_of olds g) (mask_of (slice_set news j v) g) in
        subst G (sym q) (subst N (sym (get_or-set_same news j v 18_446_744_073_709_551_615 h)) (subst O (e ∙ rest j (omega arith)) r))
    cases (inr ne) =
        let N : ℕ → Type 0 = λ x. R f (mask_of olds f) x in
        subst N (sym (get_or-set_other news j f v 18_446_744_073_709_551_615 ne)) (done f (omega arith))

  pub words-rest : (v f : ℕ) → j + 1 ≤ f → mask_of (slice_set news j v) f ≡ mask_of olds f
  words-rest v f l = get_or-set_other news j f v 18_446_744_073_709_551_615 (λ e. absurd (omega arith)) ∙ rest f (omega arith)

  pub words-all : length olds ≤ j → ((f : ℕ) → R f 18_446_744_073_709_551_615 18_446_744_073_709_551_615) → (f : ℕ) → R f (mask_of olds f) (mask_of news f)
  words-all h ones f = cases (ltb f j) refl where
    cases : (b : Bool) → ltb f j ≡ b → R f (mask_of olds f) (mask_of news f)
    cases true q = done f (ltb-true f j q)
    cases false q =
        let past : j ≤ f = ltb-false f j q in
        let none : mask_of olds f ≡ 18_446_744_073_709_551_615 = get_or_past olds f 18_446_744_073_709_551_615 (omega arith) in
        let O : ℕ → Type 0 = λ x. R f x x in
        let N : ℕ → Type 0 = λ x. R f (mask_of olds f) x in
        subst N (sym (rest f past)) (subst O (sym none) (ones f))

-- the mask of one flight is replaced
module _ (n v : ℕ) (olds news : List ℕ) (others : (f : ℕ) → (f ≡ n → ⊥) → mask_of news f ≡ mask_of olds f) (one : KeepsMask v (mask_of news n)) where
  pub one-keeps : KeepsMask (mask_of olds n) v → (f : ℕ) → KeepsMask (mask_of olds f) (mask_of news f)
  one-keeps more f i s = cases (cases_eq f n) where
    cases : (f ≡ n) ⊎ (f ≡ n → ⊥) → may_stand (mask_of news f) i ≡ true
    cases (inl e) =
        let M : ℕ → Type 0 = λ g. may_stand (mask_of news g) i ≡ true in
        let O : ℕ → Type 0 = λ g. may_stand (mask_of olds g) i ≡ true in
        subst M (sym e) (one i (more i (subst O e s)))
    cases (inr ne) =
        let M : ℕ → Type 0 = λ w. may_stand w i ≡ true in
        subst M (sym (others f ne)) s

  pub one-marked : (k m : ℕ) (l : RegulationView) → may_stand v k ≡ true → ((f : ℕ) → n + 1 ≤ f → f < m → IsOut f l)
      → ((f : ℕ) → f < n → may_stand (mask_of olds f) k ≡ false → IsOut f l) → (f : ℕ) → f < m → may_stand (mask_of news f) k ≡ false → IsOut f l
  one-marked k m l stands out before f high unset = by (cases_eq f n) where
    apart : (f ≡ n → ⊥) → (f < n) ⊎ (n ≤ f) → IsOut f l
    apart ne (inl below) =
        let M : ℕ → Type 0 = λ w. may_stand w k ≡ false in
        before f below (subst M (others f ne) unset)
    apart ne (inr above) = out f (omega (arith, ne, above)) high

    by : (f ≡ n) ⊎ (f ≡ n → ⊥) → IsOut f l
    by (inl e) =
        let M : ℕ → Type 0 = λ g. may_stand (mask_of news g) k ≡ false in
        absurd (true≢false (sym (one k stands) ∙ subst M e unset))
    by (inr ne) = apart ne (cases_lt f n)

pub ones-below : (k f : ℕ) → KeepsBelow k 18_446_744_073_709_551_615 18_446_744_073_709_551_615
ones-below k f = λ i l s. s

pub ones-move : (k f : ℕ) → MaskMovesUp k 18_446_744_073_709_551_615 18_446_744_073_709_551_615
ones-move k f = (λ i l s. s, λ i l s. ones-stand i)

pub written-words : (i : ℕ) (ws vs : List ℕ) (ls : List RegulationView) → i ≡ length ws → AreMarked ws ls → AreMarked (take i (ws ++ vs)) ls
written-words i ws vs ls a h = (let V : List ℕ → Type 0 = λ us. AreMarked us ls in subst V (sym (written-back i ws vs a)) h)

-- the mask of a flight covers it
pub marked-word : (n w : ℕ) (us ws : List ℕ) (ls ms : List RegulationView) → us ≡ ws → ms ≡ ls → w ≡ mask_of us n → AreMarked ws ls → IsMarked w n 0 ms
marked-word n w us ws ls ms a b e h =
    let C : ℕ → Type 0 = λ v. IsMarked v n 0 ms in
    let L : List RegulationView → Type 0 = λ xs. IsMarked (mask_of us n) n 0 xs in
    let V : List ℕ → Type 0 = λ vs. IsMarked (mask_of vs n) n 0 ls in
    subst C (sym e) (subst L (sym b) (subst V (sym a) (h n)))
