-- Filings that are dealt in turn.
use Rattle.std.proofs.Common.{◌≡◌, ◌≢◌, ℕ, zero, suc, ◌+◌, ◌==◌, ◌<◌, ◌%◌, Bool, true, false, cond, List, [], ◌∷◌, ◌++◌, length, map, refl, ap, sym, ◌∙◌, subst, arith, add-one, Some, slice_get, slice_set, length-set}
use Rattle.std.proofs.Math.ListN.{get_or, set, replicate}
use Rattle.std.proofs.lemmas.List.{append-nil, get_or-set_same, get_or-set_other}
use Rattle.std.proofs.lemmas.Option.{slice_get-get_or, slice_get-map}
use Rattle.std.specs.Option.{option_map}
use Rattle.std.proofs.lemmas.Bool.Decides.{nat_tests}
use native.Mathlib.Decide.{ℕ_discrete}
use Rattle.fpl_message.specs.Filings.{FilingView}
use Rattle.flow_runs.specs.Dealing.{dealt_from, dealt, AreDealt}

-- ---- one feed

either-way : (b : Bool) (x : FilingView) (xs ys zs : List FilingView) → xs ≡ ys ++ zs → cond b (x ∷ xs) xs ≡ cond b (x ∷ ys) ys ++ zs
either-way true x xs ys zs e = ap (λ (q : List FilingView). x ∷ q) e
either-way false x xs ys zs e = e

dealt_from-append : (n k i : ℕ) (xs ys : List FilingView) → dealt_from n k i (xs ++ ys) ≡ dealt_from n k i xs ++ dealt_from n k (i + length xs) ys
dealt_from-append n k i [] ys = let e : i ≡ i + 0 = omega arith in ap (λ (j : ℕ). dealt_from n k j ys) e
dealt_from-append n k i (x ∷ xs) ys =
    let e : i + 1 + length xs ≡ i + suc (length xs) = omega arith in
    either-way (i % n == k) x (dealt_from n k (i + 1) (xs ++ ys)) (dealt_from n k (i + 1) xs) (dealt_from n k (i + suc (length xs)) ys)
    (dealt_from-append n k (i + 1) xs ys ∙ ap (λ (j : ℕ). dealt_from n k (i + 1) xs ++ dealt_from n k j ys) e)

dealt-one : (n k i : ℕ) (f : FilingView) → i % n ≡ k → dealt_from n k i (f ∷ []) ≡ f ∷ []
dealt-one n k i f is = let t : (i % n == k) ≡ true = grind (arith, nat_tests) in rw t refl

dealt-other : (n k i : ℕ) (f : FilingView) → i % n ≢ k → dealt_from n k i (f ∷ []) ≡ []
dealt-other n k i f not_is = let t : (i % n == k) ≡ false = grind (arith, nat_tests) in rw t refl

dealt-turn : (n k : ℕ) (fs : List FilingView) (f : FilingView) → length fs % n ≡ k → dealt n k (fs ++ f ∷ []) ≡ dealt n k fs ++ f ∷ []
unfolding dealt
dealt-turn n k fs f is =
    let e : 0 + length fs ≡ length fs = omega arith in
    dealt_from-append n k 0 fs (f ∷ []) ∙ ap (λ (q : List FilingView). dealt_from n k 0 fs ++ q) (ap (λ (j : ℕ). dealt_from n k j (f ∷ [])) e ∙ dealt-one n k (length fs) f is)

dealt-later : (n k : ℕ) (fs : List FilingView) (f : FilingView) → length fs % n ≢ k → dealt n k (fs ++ f ∷ []) ≡ dealt n k fs
unfolding dealt
dealt-later n k fs f not_is =
    let e : 0 + length fs ≡ length fs = omega arith in
    dealt_from-append n k 0 fs (f ∷ [])
    ∙ (ap (λ (q : List FilingView). dealt_from n k 0 fs ++ q) (ap (λ (j : ℕ). dealt_from n k j (f ∷ [])) e ∙ dealt-other n k (length fs) f not_is) ∙ append-nil (dealt_from n k 0 fs))

-- ---- all feeds

get-same : {X : Type 0} (xs : List X) (i : ℕ) (x : X) → i < length xs → slice_get (slice_set xs i x) i ≡ Some x
get-same xs i x h = let h' : i < length (slice_set xs i x) = omega (arith, length-set xs i x) in slice_get-get_or (slice_set xs i x) i x h' ∙ ap (λ y. Some y) (get_or-set_same xs i x x h)

get-other : {X : Type 0} (xs : List X) (i k : ℕ) (x : X) → k < length xs → k ≢ i → slice_get (slice_set xs i x) k ≡ slice_get xs k
get-other xs i k x h ne =
    let h' : k < length (slice_set xs i x) = omega (arith, length-set xs i x) in
    slice_get-get_or (slice_set xs i x) k x h' ∙ (ap (λ y. Some y) (get_or-set_other xs i k x x ne) ∙ sym (slice_get-get_or xs k x h))

next-feed : (n : ℕ) (fs : List FilingView) (f : FilingView) (feeds : List (List FilingView)) (turn : ℕ) → AreDealt n fs feeds → turn ≡ length fs % n → turn < n
    → (k : ℕ) → k < n → Dec (turn ≡ k) → slice_get (slice_set feeds turn (dealt n turn fs ++ f ∷ [])) k ≡ Some (dealt n k (fs ++ f ∷ []))
next-feed n fs f feeds turn a is in_turn k in_k (yes same) =
    let h : turn < length feeds = omega (arith, a.wide) in
    subst (λ (j : ℕ). slice_get (slice_set feeds turn (dealt n turn fs ++ f ∷ [])) j ≡ Some (dealt n j (fs ++ f ∷ []))) same
    (get-same feeds turn (dealt n turn fs ++ f ∷ []) h ∙ ap (λ (q : List FilingView). Some q) (sym (dealt-turn n turn fs f (sym is))))
next-feed n fs f feeds turn a is in_turn k in_k (no other) =
    let h : k < length feeds = omega (arith, a.wide) in
    get-other feeds turn k (dealt n turn fs ++ f ∷ []) h (λ (e : k ≡ turn). other (sym e))
    ∙ (a.each k in_k ∙ ap (λ (q : List FilingView). Some q) (sym (dealt-later n k fs f (λ (e : length fs % n ≡ k). other (is ∙ e)))))

-- the next filing was appended to the feed whose turn it is
pub AreDealt-next : (n : ℕ) (fs : List FilingView) (f : FilingView) (feeds : List (List FilingView)) (turn : ℕ) (feed longer : List FilingView)
    → AreDealt n fs feeds → turn ≡ length fs % n → turn < length feeds → feed ≡ get_or feeds turn feed → longer ≡ feed ++ f ∷ [] → AreDealt n (fs ++ f ∷ []) (slice_set feeds turn longer)
AreDealt-next n fs f feeds turn feed longer a is in_turn at longer_is =
    let in_n : turn < n = omega (arith, in_turn, a.wide) in
    let was : slice_get feeds turn ≡ Some feed = slice_get-get_or feeds turn feed in_turn ∙ ap (λ y. Some y) (sym at) in
    let same : feed ≡ dealt n turn fs = some-same (sym was ∙ a.each turn in_n) in
    let e : slice_set feeds turn longer ≡ slice_set feeds turn (dealt n turn fs ++ f ∷ []) =
    ap (λ (q : List FilingView). slice_set feeds turn q) (longer_is ∙ ap (λ (q : List FilingView). q ++ f ∷ []) same) in
    subst (λ (q : List (List FilingView)). AreDealt n (fs ++ f ∷ []) q) (sym e) (record {
      wide = length-set feeds turn (dealt n turn fs ++ f ∷ []) ∙ a.wide;
      each = λ k in_k. next-feed n fs f feeds turn a is in_n k in_k (ℕ_discrete turn k);
    })
  where
    some-same : {xs ys : List FilingView} → Some xs ≡ Some ys → xs ≡ ys
    some-same e = cc

-- whose turn it is
pub turn-of : (n : ℕ) (fs : List FilingView) (feeds : List (List FilingView)) (count len : ℕ) → AreDealt n fs feeds → count ≡ length fs → len ≡ length feeds → count % len ≡ length fs % n
turn-of n fs feeds count len a counted is = ap (λ (c : ℕ). c % len) counted ∙ ap (λ (m : ℕ). length fs % m) (is ∙ a.wide)

-- ---- no filing yet

replicate-get : {X : Type 0} (n k : ℕ) (x : X) → k < n → slice_get (replicate n x) k ≡ Some x
replicate-get zero k x h = absurd (omega arith)
replicate-get (suc n) zero x h = refl
replicate-get (suc n) (suc k) x h = let h' : k < n = omega arith in replicate-get n k x h'

replicate-length : {X : Type 0} (n : ℕ) (x : X) → length (replicate n x) ≡ n
replicate-length zero x = refl
replicate-length (suc n) x = ap suc (replicate-length n x)

-- all feeds are empty
pub AreDealt-none : (n : ℕ) (feeds : List (List FilingView)) → feeds ≡ replicate n [] → AreDealt n [] feeds
unfolding dealt
AreDealt-none n feeds e = subst (λ (q : List (List FilingView)). AreDealt n [] q) (sym e) (record { wide = replicate-length n []; each = λ k in_k. replicate-get n k [] in_k })
