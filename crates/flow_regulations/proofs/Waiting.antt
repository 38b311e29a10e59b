-- The flights with provisional slots in a regulation, when one flight's plan or slot changes.
use Rattle.std.proofs.Common.{◌≡◌, ℕ, zero, suc, ◌+◌, ◌≤◌, ◌⊎◌, inl, inr, ◌||◌, Bool, true, false, cond, List, [], ◌∷◌, Option, Some, None, refl, sym, ap, ◌∙◌, arith}
use Rattle.std.specs.List.{AllByRecursion, slice_get}
use Rattle.std.specs.Option.{option_and_then}
use Rattle.std.proofs.lemmas.Bool.{eq-eqb, ne_eqb, cases_eq, true≢false}
use Rattle.std.proofs.lemmas.Bool.Decides.{nat_tests}
use Rattle.flow_plans.specs.Plans.{PlanView}
use Rattle.flow_slots.specs.declared.cell.Planned.{Planned}
use Rattle.flow_slots.specs.Order.{stands_before, insert, without}
use Rattle.flow_slots.specs.Assignment.{Placed}
use Rattle.flow_slots.specs.Lineup.{NoneIs}
use Rattle.flow_slots.proofs.Leaving.{without-here, without-other}
use Rattle.flow_regulations.specs.Regulations.{Regulation, subject_to, has_flight, with_entry, waiting_from}

pub without-none : (f : ℕ) (ws : List Planned) → NoneIs f ws → without f ws ≡ ws
without-none f [] a = refl
without-none f (w ∷ ws) a = without-other f w ws a.0 ∙ ap (λ v. w ∷ v) (without-none f ws a.1)

pub without-insert : (w : Planned) (ws : List Planned) → NoneIs w.flight ws → without w.flight (insert w ws) ≡ ws
without-insert w [] a = without-here w.flight w [] refl
without-insert w (v ∷ ws) a = cases (without-insert w ws a.1) (stands_before v w) where
  cases : without w.flight (insert w ws) ≡ ws → (b : Bool) → without w.flight (cond b (v ∷ insert w ws) (w ∷ v ∷ ws)) ≡ v ∷ ws
  cases again true = without-other w.flight v (insert w ws) a.0 ∙ ap (λ u. v ∷ u) again
  cases again false = without-here w.flight w (v ∷ ws) refl ∙ without-none w.flight (v ∷ ws) a

-- a fact of each flight holds with one more that it holds of
pub all-insert : (P : Planned → Type 0) (x : Planned) (ws : List Planned) → P x → AllByRecursion P ws → AllByRecursion P (insert x ws)
all-insert P x [] h a = (h, tt)
all-insert P x (w ∷ ws) h a = cases (all-insert P x ws h a.1) (stands_before w x) where
  cases : AllByRecursion P (insert x ws) → (b : Bool) → AllByRecursion P (cond b (w ∷ insert x ws) (x ∷ w ∷ ws))
  cases again true = (a.0, again)
  cases again false = (h, a)

-- two flights may be inserted in either order
pub insert-insert : (x y : Planned) (ws : List Planned) → (x.flight ≡ y.flight → ⊥) → insert x (insert y ws) ≡ insert y (insert x ws)
insert-insert x y [] ne = cases (stands_before y x) (stands_before x y) refl refl where
  cases : (b c : Bool) → stands_before y x ≡ b → stands_before x y ≡ c → cond b (y ∷ x ∷ []) (x ∷ y ∷ []) ≡ cond c (x ∷ y ∷ []) (y ∷ x ∷ [])
  cases true false e f = refl
  cases false true e f = refl
  cases true true e f = absurd (grind (arith, nat_tests, e, f))
  cases false false e f = absurd (grind (arith, nat_tests, e, f, ne))
insert-insert x y (w ∷ ws) ne = cases (insert-insert x y ws ne) (stands_before w x) (stands_before w y) refl refl where
  cases : insert x (insert y ws) ≡ insert y (insert x ws) → (b c : Bool) → stands_before w x ≡ b → stands_before w y ≡ c → insert x (cond c (w ∷ insert y ws) (y ∷ w ∷ ws)) ≡ insert y (cond b (w ∷ insert x ws) (x ∷ w ∷ ws))
  cases again true true e f = rw (e, f) (ap (λ u. w ∷ u) again)
  cases again true false e f = (let g : stands_before y x ≡ true = grind (arith, nat_tests, e, f) in rw (g, e, f) refl)
  cases again false true e f = (let g : stands_before x y ≡ true = grind (arith, nat_tests, e, f) in rw (g, e, f) refl)
  cases again false false e f = rw (e, f) (first (stands_before y x) (stands_before x y) refl refl) where
    first : (b c : Bool) → stands_before y x ≡ b → stands_before x y ≡ c → cond b (y ∷ x ∷ w ∷ ws) (x ∷ y ∷ w ∷ ws) ≡ cond c (x ∷ y ∷ w ∷ ws) (y ∷ x ∷ w ∷ ws)
    first true false e f = refl
    first false true e f = refl
    first true true e f = absurd (grind (arith, nat_tests, e, f))
    first false false e f = absurd (grind (arith, nat_tests, e, f, ne))

pub with_entry-kept : (o : Option ℕ) (f : ℕ) (ws : List Planned) → with_entry o true f ws ≡ ws
with_entry-kept None f ws = refl
with_entry-kept (Some e) f ws = refl

pub with_entry-with_entry : (o q : Option ℕ) (b c : Bool) (f g : ℕ) (ws : List Planned) → (f ≡ g → ⊥) → with_entry o b f (with_entry q c g ws) ≡ with_entry q c g (with_entry o b f ws)
with_entry-with_entry None q b c f g ws ne = refl
with_entry-with_entry (Some e) None b c f g ws ne = refl
with_entry-with_entry (Some e) (Some d) true true f g ws ne = refl
with_entry-with_entry (Some e) (Some d) true false f g ws ne = refl
with_entry-with_entry (Some e) (Some d) false true f g ws ne = refl
with_entry-with_entry (Some e) (Some d) false false f g ws ne = insert-insert (record { entry = e; flight = f }) (record { entry = d; flight = g }) ws ne

pub all-with_entry : (P : Planned → Type 0) (o : Option ℕ) (b : Bool) (f : ℕ) (ws : List Planned) → ((e : ℕ) → o ≡ Some e → b ≡ false → P (record { entry = e; flight = f })) → AllByRecursion P ws → AllByRecursion P (with_entry o b f ws)
all-with_entry P None b f ws h a = a
all-with_entry P (Some e) true f ws h a = a
all-with_entry P (Some e) false f ws h a = all-insert P (record { entry = e; flight = f }) ws (h e refl refl) a

pub without-with_entry : (o : Option ℕ) (b : Bool) (f : ℕ) (ws : List Planned) → NoneIs f ws → without f (with_entry o b f ws) ≡ ws
without-with_entry None b f ws a = without-none f ws a
without-with_entry (Some e) true f ws a = without-none f ws a
without-with_entry (Some e) false f ws a = without-insert (record { entry = e; flight = f }) ws a

-- a pair of this flight, at any index
abbrev pub mark : ℕ → Placed
mark n = record { flight = n; slot = 0 }

pub has-other : (f n : ℕ) (fs : List Placed) → (n ≡ f → ⊥) → has_flight f (mark n ∷ fs) ≡ has_flight f fs
has-other f n fs ne = ap (λ b. b || has_flight f fs) (ne_eqb n f ne)

pub has-here : (f n : ℕ) (fs : List Placed) → n ≡ f → has_flight f (mark n ∷ fs) ≡ true
has-here f n fs e = ap (λ b. b || has_flight f fs) (eq-eqb n f e)

-- the flights with provisional slots depend only on which flights are frozen
pub waiting-fixed : (k taxi : ℕ) (r : Regulation) (fs gs : List Placed) (ps : List PlanView) → ((f : ℕ) → k ≤ f → has_flight f fs ≡ has_flight f gs) → waiting_from k taxi r fs ps ≡ waiting_from k taxi r gs ps
waiting-fixed k taxi r fs gs [] h = refl
waiting-fixed k taxi r fs gs (p ∷ ps) h =
    ap (λ b. with_entry (subject_to taxi r p) b k (waiting_from (k + 1) taxi r fs ps)) (h k (omega arith))
    ∙ ap (λ ws. with_entry (subject_to taxi r p) (has_flight k gs) k ws) (waiting-fixed (k + 1) taxi r fs gs ps (λ f l. h f (omega arith)))

-- one flight, apart from the others
pub waiting-apart : (i n k taxi : ℕ) (r : Regulation) (fs : List Placed) (ps : List PlanView) → n ≡ k + i → waiting_from k taxi r fs ps ≡ with_entry (option_and_then (subject_to taxi r) (slice_get ps i)) (has_flight n fs) n (waiting_from k taxi r (mark n ∷ fs) ps)
waiting-apart i n k taxi r fs [] e = refl
waiting-apart zero n k taxi r fs (p ∷ ps) e =
    let same : n ≡ k = omega (arith, e) in
    let o = subject_to taxi r p in
    let rest : waiting_from (k + 1) taxi r (mark n ∷ fs) ps ≡ waiting_from (k + 1) taxi r fs ps = waiting-fixed (k + 1) taxi r (mark n ∷ fs) fs ps (λ f l. has-other f n fs (λ q. omega arith)) in
    let here : waiting_from k taxi r (mark n ∷ fs) (p ∷ ps) ≡ waiting_from (k + 1) taxi r fs ps =
    ap (λ b. with_entry o b k (waiting_from (k + 1) taxi r (mark n ∷ fs) ps)) (has-here k n fs same) ∙ (with_entry-kept o k (waiting_from (k + 1) taxi r (mark n ∷ fs) ps) ∙ rest) in
    ap (λ m. with_entry o (has_flight m fs) m (waiting_from (k + 1) taxi r fs ps)) (sym same) ∙ ap (with_entry o (has_flight n fs) n) (sym here)
waiting-apart (suc i) n k taxi r fs (p ∷ ps) e =
    let o = subject_to taxi r p in
    let q = option_and_then (subject_to taxi r) (slice_get ps i) in
    let again : waiting_from (k + 1) taxi r fs ps ≡ with_entry q (has_flight n fs) n (waiting_from (k + 1) taxi r (mark n ∷ fs) ps) = waiting-apart i n (k + 1) taxi r fs ps (omega (arith, e)) in
    let other : has_flight k fs ≡ has_flight k (mark n ∷ fs) = sym (has-other k n fs (λ q. omega (arith, e, q))) in
    ap (with_entry o (has_flight k fs) k) again
    ∙ (with_entry-with_entry o q (has_flight k fs) (has_flight n fs) k n (waiting_from (k + 1) taxi r (mark n ∷ fs) ps) (λ q. omega (arith, e, q))
    ∙ ap (λ b. with_entry q (has_flight n fs) n (with_entry o b k (waiting_from (k + 1) taxi r (mark n ∷ fs) ps))) other)

-- the other flights depend on the other plans alone
pub waiting-others : (n k taxi : ℕ) (r : Regulation) (fs : List Placed) (ps qs : List PlanView) → ((i : ℕ) → (k + i ≡ n → ⊥) → slice_get ps i ≡ slice_get qs i) → waiting_from k taxi r (mark n ∷ fs) ps ≡ waiting_from k taxi r (mark n ∷ fs) qs
waiting-others n k taxi r fs [] [] h = refl
waiting-others n k taxi r fs [] (q ∷ qs) h = cases (waiting-others n (k + 1) taxi r fs [] qs (λ i ne. h (suc i) (λ e. ne (omega (arith, e))))) (cases_eq n k) where
  cases : [] ≡ waiting_from (k + 1) taxi r (mark n ∷ fs) qs → (n ≡ k) ⊎ (n ≡ k → ⊥) → [] ≡ with_entry (subject_to taxi r q) (has_flight k (mark n ∷ fs)) k (waiting_from (k + 1) taxi r (mark n ∷ fs) qs)
  cases again (inl e) = again ∙ sym (ap (λ b. with_entry (subject_to taxi r q) b k (waiting_from (k + 1) taxi r (mark n ∷ fs) qs)) (has-here k n fs e) ∙ with_entry-kept (subject_to taxi r q) k (waiting_from (k + 1) taxi r (mark n ∷ fs) qs))
  cases again (inr e) = (let no : None ≡ Some q = h zero (λ s. e (omega (arith, s))) in absurd cc)
waiting-others n k taxi r fs (p ∷ ps) [] h = cases (waiting-others n (k + 1) taxi r fs ps [] (λ i ne. h (suc i) (λ e. ne (omega (arith, e))))) (cases_eq n k) where
  cases : waiting_from (k + 1) taxi r (mark n ∷ fs) ps ≡ [] → (n ≡ k) ⊎ (n ≡ k → ⊥) → with_entry (subject_to taxi r p) (has_flight k (mark n ∷ fs)) k (waiting_from (k + 1) taxi r (mark n ∷ fs) ps) ≡ []
  cases again (inl e) = ap (λ b. with_entry (subject_to taxi r p) b k (waiting_from (k + 1) taxi r (mark n ∷ fs) ps)) (has-here k n fs e) ∙ (with_entry-kept (subject_to taxi r p) k (waiting_from (k + 1) taxi r (mark n ∷ fs) ps) ∙ again)
  cases again (inr e) = (let no : Some p ≡ None = h zero (λ s. e (omega (arith, s))) in absurd cc)
waiting-others n k taxi r fs (p ∷ ps) (q ∷ qs) h = cases (waiting-others n (k + 1) taxi r fs ps qs (λ i ne. h (suc i) (λ e. ne (omega (arith, e))))) (cases_eq n k) where
  kept : (p : PlanView) (ps : List PlanView) → n ≡ k → waiting_from k taxi r (mark n ∷ fs) (p ∷ ps) ≡ waiting_from (k + 1) taxi r (mark n ∷ fs) ps
  kept p ps e = ap (λ b. with_entry (subject_to taxi r p) b k (waiting_from (k + 1) taxi r (mark n ∷ fs) ps)) (has-here k n fs e) ∙ with_entry-kept (subject_to taxi r p) k (waiting_from (k + 1) taxi r (mark n ∷ fs) ps)

  cases : waiting_from (k + 1) taxi r (mark n ∷ fs) ps ≡ waiting_from (k + 1) taxi r (mark n ∷ fs) qs → (n ≡ k) ⊎ (n ≡ k → ⊥) → waiting_from k taxi r (mark n ∷ fs) (p ∷ ps) ≡ waiting_from k taxi r (mark n ∷ fs) (q ∷ qs)
  cases again (inl e) = kept p ps e ∙ (again ∙ sym (kept q qs e))
  cases again (inr e) =
      let same : Some p ≡ Some q = h zero (λ s. e (omega (arith, s))) in
      let plan : p ≡ q = cc in
      ap (λ v. with_entry (subject_to taxi r v) (has_flight k (mark n ∷ fs)) k (waiting_from (k + 1) taxi r (mark n ∷ fs) ps)) plan ∙ ap (with_entry (subject_to taxi r q) (has_flight k (mark n ∷ fs)) k) again

-- and the flight itself is none of them
pub waiting-none : (n k taxi : ℕ) (r : Regulation) (fs : List Placed) (ps : List PlanView) → NoneIs n (waiting_from k taxi r (mark n ∷ fs) ps)
waiting-none n k taxi r fs [] = tt
waiting-none n k taxi r fs (p ∷ ps) =
    all-with_entry (λ w. w.flight ≡ n → ⊥) (subject_to taxi r p) (has_flight k (mark n ∷ fs)) k (waiting_from (k + 1) taxi r (mark n ∷ fs) ps)
    (λ e _ not q. true≢false (sym (has-here k n fs (sym q)) ∙ not)) (waiting-none n (k + 1) taxi r fs ps)

-- a fact of all holds of those that were there before one was inserted
all-insert-back : (P : Planned → Type 0) (x : Planned) (ws : List Planned) → AllByRecursion P (insert x ws) → AllByRecursion P ws
all-insert-back P x [] a = tt
all-insert-back P x (w ∷ ws) a = cases (λ h. all-insert-back P x ws h) (stands_before w x) a where
  cases : (AllByRecursion P (insert x ws) → AllByRecursion P ws) → (b : Bool) → AllByRecursion P (cond b (w ∷ insert x ws) (x ∷ w ∷ ws)) → AllByRecursion P (w ∷ ws)
  cases again true h = (h.0, again h.1)
  cases again false h = h.1

pub all-with_entry-back : (P : Planned → Type 0) (o : Option ℕ) (b : Bool) (f : ℕ) (ws : List Planned) → AllByRecursion P (with_entry o b f ws) → AllByRecursion P ws
all-with_entry-back P None b f ws a = a
all-with_entry-back P (Some e) true f ws a = a
all-with_entry-back P (Some e) false f ws a = all-insert-back P (record { entry = e; flight = f }) ws a

pub waiting-from : (j k taxi : ℕ) (r : Regulation) (fs : List Placed) (ps : List PlanView) → j ≤ k → AllByRecursion (λ w. j ≤ w.flight) (waiting_from k taxi r fs ps)
waiting-from j k taxi r fs [] h = tt
waiting-from j k taxi r fs (p ∷ ps) h =
    all-with_entry (λ w. j ≤ w.flight) (subject_to taxi r p) (has_flight k fs) k (waiting_from (k + 1) taxi r fs ps) (λ _ _ _. h) (waiting-from j (k + 1) taxi r fs ps (omega arith))

-- only the flights to which the regulation applies matter
pub waiting-like : (k taxi : ℕ) (r s : Regulation) (fs : List Placed) (ps : List PlanView) → ((p : PlanView) → subject_to taxi r p ≡ subject_to taxi s p) → waiting_from k taxi r fs ps ≡ waiting_from k taxi s fs ps
waiting-like k taxi r s fs [] h = refl
waiting-like k taxi r s fs (p ∷ ps) h =
    ap (λ o. with_entry o (has_flight k fs) k (waiting_from (k + 1) taxi r fs ps)) (h p)
    ∙ ap (with_entry (subject_to taxi s p) (has_flight k fs) k) (waiting-like (k + 1) taxi r s fs ps h)
