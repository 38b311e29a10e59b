-- Held plans keep different keys.
use Rattle.std.proofs.Common.{◌≡◌, ℕ, zero, suc, ◌+◌, ◌-◌, ◌<◌, Bool, true, false, ◌==◌, ◌&&◌, if◌then◌else◌, nat_lt, nat_le, ◌++◌, ◌⊎◌, inl, inr, List, [], ◌∷◌, length, Option, Some, None, Result, Ok, Err, IfSome, slice_get, slice_set, unwrap_or, refl, sym, ap, subst, ◌∙◌, arith, ◌↔◌, length-set, length-append}
use Rattle.std.specs.List.{list_any}
use Rattle.std.specs.Option.{option_map_or}
use Rattle.std.specs.Str.{bytes_eq}
use Rattle.std.proofs.lemmas.Bool.Decides.{nat_tests}
use Rattle.std.proofs.lemmas.Slice.Eq.{bytes_eq-Decides}
use Rattle.fpl_message.specs.declared.parts.Parts.{Parts}
use Rattle.fpl_message.specs.declared.refusal.Refusal.{Refusal}
use Rattle.fpl_message.specs.declared.refusal.Refusal.TheVariants as refusal
use Rattle.fpl_message.specs.declared.short_message.Dla.{Dla}
use Rattle.fpl_message.specs.declared.short_message.Cnl.{Cnl}
use Rattle.fpl_message.specs.declared.short_message.Dep.{Dep}
use Rattle.fpl_message.specs.Messages.{FplView, ChgView}
use Rattle.fpl_message.specs.Refusals.{◌>>=◌}
use Rattle.flow_plans.specs.declared.plan.Key.{Key}
use Rattle.flow_plans.specs.declared.plan.PlanState.{PlanState}
use Rattle.flow_plans.specs.declared.plan.PlanState.TheVariants as state
use Rattle.flow_plans.specs.Plans.{PlanView, is_held, is_held_as, same_key, plan_at, changed_at, with_state, with_off_block}
use Rattle.flow_plans.specs.Times.{unless, delayed_to}
use Rattle.flow_plans.specs.Matching.{is_candidate, is_gone, numbers, the_one, matching}
use Rattle.flow_plans.specs.Searching.{passes_at}
use Rattle.flow_plans.specs.Changes.{plan_of, asked_off_block, filed, Changed, delayed, cancelled, departed, changes_key, moved_to, key_after, amended_plan, others, amended}
use Rattle.flow_plans.specs.Distinct.{AreDistinct, KeepKeys, KeepFlights}
use Rattle.flow_plans.proofs.ChainLemmas.{and-left, and-right}
use Rattle.flow_plans.proofs.Matches.{any-one, passes_at-filed-there}

-- one plan replaced

set-cases : (ps : List PlanView) (i : ℕ) (r : PlanView) (k : ℕ) (q : PlanView) → slice_get (slice_set ps i r) k ≡ Some q → ((k ≡ i) × (q ≡ r)) ⊎ ((k ≡ i → ⊥) × (slice_get ps k ≡ Some q))
set-cases [] i r k q e = absurd (cc)
set-cases (x ∷ ps) zero r zero q e = inl (refl, ap (λ o. unwrap_or o q) (sym e))
set-cases (x ∷ ps) zero r (suc k) q e = inr ((λ h. omega (arith, h)), e)
set-cases (x ∷ ps) (suc i) r zero q e = inr ((λ h. omega (arith, h)), e)
set-cases (x ∷ ps) (suc i) r (suc k) q e = further (set-cases ps i r k q e) where
  further : ((k ≡ i) × (q ≡ r)) ⊎ ((k ≡ i → ⊥) × (slice_get ps k ≡ Some q)) → ((suc k ≡ suc i) × (q ≡ r)) ⊎ ((suc k ≡ suc i → ⊥) × (slice_get ps k ≡ Some q))
  further (inl h) = inl (ap suc h.0, h.1)
  further (inr h) = inr ((λ same. h.0 (omega (arith, same))), h.1)

set-other : (ps : List PlanView) (i : ℕ) (r : PlanView) (k : ℕ) → (k ≡ i → ⊥) → slice_get (slice_set ps i r) k ≡ slice_get ps k
set-other [] i r k apart = refl
set-other (x ∷ ps) zero r zero apart = absurd (apart refl)
set-other (x ∷ ps) zero r (suc k) apart = refl
set-other (x ∷ ps) (suc i) r zero apart = refl
set-other (x ∷ ps) (suc i) r (suc k) apart = set-other ps i r k (λ h. apart (ap suc h))

distinct-set : (ps : List PlanView) (i : ℕ) (r : PlanView) → ((k : ℕ) (q : PlanView) → slice_get ps k ≡ Some q → (k ≡ i → ⊥) → is_held r.state ≡ true → is_held q.state ≡ true → q.key ≡ r.key → ⊥) → AreDistinct ps → AreDistinct (slice_set ps i r)
distinct-set ps i r free distinct k l p q ep eq hp hq same = both (set-cases ps i r k p ep) (set-cases ps i r l q eq) where
  both : ((k ≡ i) × (p ≡ r)) ⊎ ((k ≡ i → ⊥) × (slice_get ps k ≡ Some p)) → ((l ≡ i) × (q ≡ r)) ⊎ ((l ≡ i → ⊥) × (slice_get ps l ≡ Some q)) → k ≡ l
  both (inl a) (inl b) = a.0 ∙ sym b.0
  both (inl a) (inr b) = absurd (free l q b.1 b.0 (subst (λ (s : PlanView). is_held s.state ≡ true) a.1 hp) hq (sym same ∙ ap (λ (s : PlanView). s.key) a.1))
  both (inr a) (inl b) = absurd (free k p a.1 a.0 (subst (λ (s : PlanView). is_held s.state ≡ true) b.1 hq) hp (same ∙ ap (λ (s : PlanView). s.key) b.1))
  both (inr a) (inr b) = distinct k l p q a.1 b.1 hp hq same

distinct-changed : (f : PlanView → PlanView) (n : ℕ) (ps : List PlanView) → ((p : PlanView) → plan_at ps n ≡ Some p → is_held (f p).state ≡ true → is_held p.state ≡ true) → ((p : PlanView) → (f p).key ≡ p.key) → AreDistinct ps → AreDistinct (changed_at f n ps)
unfolding changed_at
distinct-changed f n ps held keeps distinct = at (plan_at ps n) refl where
  at : (o : Option PlanView) → plan_at ps n ≡ o → AreDistinct (option_map_or (λ p. slice_set ps (n - 1) (f p)) o ps)
  at None e = distinct
  at (Some p) e = distinct-set ps (n - 1) (f p) (λ k q there apart hr hq same. apart (distinct k (n - 1) q p there e hq (held p e hr) (same ∙ keeps p))) distinct

-- one plan more

more-cases : (ps : List PlanView) (r : PlanView) (k : ℕ) (q : PlanView) → slice_get (ps ++ r ∷ []) k ≡ Some q → ((k ≡ length ps) × (q ≡ r)) ⊎ (slice_get ps k ≡ Some q)
more-cases [] r zero q e = inl (refl, ap (λ o. unwrap_or o q) (sym e))
more-cases [] r (suc k) q e = absurd (cc)
more-cases (x ∷ ps) r zero q e = inr e
more-cases (x ∷ ps) r (suc k) q e = further (more-cases ps r k q e) where
  further : ((k ≡ length ps) × (q ≡ r)) ⊎ (slice_get ps k ≡ Some q) → ((suc k ≡ length (x ∷ ps)) × (q ≡ r)) ⊎ (slice_get ps k ≡ Some q)
  further (inl h) = inl (omega (arith, h.0), h.1)
  further (inr h) = inr h

distinct-more : (ps : List PlanView) (r : PlanView) → ((k : ℕ) (q : PlanView) → slice_get ps k ≡ Some q → is_held q.state ≡ true → q.key ≡ r.key → ⊥) → AreDistinct ps → AreDistinct (ps ++ r ∷ [])
distinct-more ps r free distinct k l p q ep eq hp hq same = both (more-cases ps r k p ep) (more-cases ps r l q eq) where
  both : ((k ≡ length ps) × (p ≡ r)) ⊎ (slice_get ps k ≡ Some p) → ((l ≡ length ps) × (q ≡ r)) ⊎ (slice_get ps l ≡ Some q) → k ≡ l
  both (inl a) (inl b) = a.0 ∙ sym b.0
  both (inl a) (inr b) = absurd (free l q b hq (sym same ∙ ap (λ (s : PlanView). s.key) a.1))
  both (inr a) (inl b) = absurd (free k p a hp (same ∙ ap (λ (s : PlanView). s.key) b.1))
  both (inr a) (inr b) = distinct k l p q a b hp hq same

-- what the tests say

same-self : (k : Key) → same_key k k ≡ true
unfolding same_key
same-self k =
    let ident : bytes_eq k.ident k.ident ≡ true = (bytes_eq-Decides k.ident k.ident).1 refl in
    let dep : bytes_eq k.dep k.dep ≡ true = (bytes_eq-Decides k.dep k.dep).1 refl in
    let dest : bytes_eq k.dest k.dest ≡ true = (bytes_eq-Decides k.dest k.dest).1 refl in
    let day : (k.day == k.day) ≡ true = grind (arith, nat_tests) in
    rw (ident, dep, dest, day) refl

-- keys that the test takes for the same are equal
same-equal : (k l : Key) → same_key k l ≡ true → k ≡ l
unfolding same_key
same-equal k l h =
    let three : (bytes_eq k.ident l.ident && bytes_eq k.dep l.dep && bytes_eq k.dest l.dest) ≡ true = and-left _ (k.day == l.day) h in
    let two : (bytes_eq k.ident l.ident && bytes_eq k.dep l.dep) ≡ true = and-left _ (bytes_eq k.dest l.dest) three in
    let ident : k.ident ≡ l.ident = (bytes_eq-Decides k.ident l.ident).0 (and-left _ (bytes_eq k.dep l.dep) two) in
    let dep : k.dep ≡ l.dep = (bytes_eq-Decides k.dep l.dep).0 (and-right (bytes_eq k.ident l.ident) _ two) in
    let dest : k.dest ≡ l.dest = (bytes_eq-Decides k.dest l.dest).0 (and-right (bytes_eq k.ident l.ident && bytes_eq k.dep l.dep) _ three) in
    let tested : (k.day == l.day) ≡ true = and-right (bytes_eq k.ident l.ident && bytes_eq k.dep l.dep && bytes_eq k.dest l.dest) _ h in
    let day : k.day ≡ l.day = grind (arith, nat_tests, tested) in
    λ j. record { ident = ident j; dep = dep j; dest = dest j; day = day j }

pub same-key-equal : (k l : Key) → (same_key k l ≡ true) ↔ (k ≡ l)
same-key-equal k l = (same-equal k l, λ e. subst (λ (other : Key). same_key k other ≡ true) e (same-self k))

held-as : (key : Key) (q : PlanView) → is_held q.state ≡ true → q.key ≡ key → is_held_as key q ≡ true
held-as key q held same = rw held (subst (λ (k : Key). same_key q.key k ≡ true) same (same-self q.key))

none-held : (key : Key) (ps : List PlanView) (k : ℕ) (q : PlanView) → list_any (is_held_as key) ps ≡ false → slice_get ps k ≡ Some q → is_held q.state ≡ true → q.key ≡ key → ⊥
none-held key ps k q none there held same =
    let t : is_held_as key q ≡ true = held-as key q held same in
    let passes : passes_at (is_held_as key) ps k ≡ true = ap (λ o. option_map_or (is_held_as key) o false) there ∙ t in
    let some : list_any (is_held_as key) ps ≡ true = any-one (is_held_as key) ps k passes in
    absurd (cc)

others-there : (n : ℕ) (ps : List PlanView) (k : ℕ) (q : PlanView) → (k ≡ n - 1 → ⊥) → slice_get ps k ≡ Some q → slice_get (others n ps) k ≡ Some q
unfolding changed_at
others-there n ps k q apart there = at (plan_at ps n) where
  at : (o : Option PlanView) → slice_get (option_map_or (λ p. slice_set ps (n - 1) (with_state state.Cancelled p)) o ps) k ≡ Some q
  at None = there
  at (Some p) = set-other ps (n - 1) (with_state state.Cancelled p) k apart ∙ there

-- what comes of an accepted message

abbrev ok-of : {X : Type 0} → X → Result X Refusal → X
ok-of x (Ok y) = y
ok-of x (Err r) = x

ok-same : {X : Type 0} (x y : X) → (r : Result X Refusal) → r ≡ Ok x → r ≡ Ok y → x ≡ y
ok-same x y r a b = ap (λ t. ok-of x t) (sym a ∙ b)

unless-ok : {X : Type 0} (b : Bool) (r : Refusal) (next : Result X Refusal) (x : X) → unless b r next ≡ Ok x → (b ≡ false) × (next ≡ Ok x)
unless-ok true r next x e = absurd (cc)
unless-ok false r next x e = (refl, e)

then-ok : {X Y : Type 0} (r : Result X Refusal) (f : X → Result Y Refusal) (y : Y) → (r >>= f) ≡ Ok y → (x : X) × (r ≡ Ok x) × (f x ≡ Ok y)
then-ok (Ok x) f y e = (x, refl, e)
then-ok (Err r) f y e = absurd (cc)

some-ok : {Y : Type 0} (o : Option PlanView) (f : PlanView → Result Y Refusal) (y : Y) → option_map_or f o (Err refusal.NoPlan) ≡ Ok y → (p : PlanView) × (o ≡ Some p) × (f p ≡ Ok y)
some-ok (Some p) f y e = (p, refl, e)
some-ok None f y e = absurd (cc)

-- the plan that a message is about is filed

numbers-pass : (test : PlanView → Bool) (n : ℕ) (ps : List PlanView) (m : ℕ) (more : List ℕ) → numbers test n ps ≡ m ∷ more → (k : ℕ) × (m ≡ n + k) × (passes_at test ps k ≡ true)
numbers-pass test n [] m more e = absurd (cc)
numbers-pass test n (p ∷ ps) m more e = by (test p) refl e (numbers-pass test (n + 1) ps m more) where
  by : (b : Bool) → test p ≡ b → (if b then n ∷ numbers test (n + 1) ps else numbers test (n + 1) ps) ≡ m ∷ more → (numbers test (n + 1) ps ≡ m ∷ more → (k : ℕ) × (m ≡ n + 1 + k) × (passes_at test ps k ≡ true)) → (k : ℕ) × (m ≡ n + k) × (passes_at test (p ∷ ps) k ≡ true)
  by true t h further =
      let first : n ≡ m = ap (λ (l : List ℕ). unwrap_or (slice_get l zero) n) h in
      (zero, omega (arith, first), t)
  by false t h further =
      let later = further h in
      let there : m ≡ n + 1 + later.0 = later.1 in
      (suc later.0, omega (arith, there), later.2)

the_one-ok : (d : Bool) (ns : List ℕ) (n : ℕ) → the_one d ns ≡ Ok n → ns ≡ n ∷ []
the_one-ok true [] n e = absurd (cc)
the_one-ok false [] n e = absurd (cc)
the_one-ok d (m ∷ []) n e = ap (λ k. k ∷ []) (ok-same m n (Ok m) refl e)
the_one-ok d (m ∷ k ∷ more) n e = absurd (cc)

matched-above : (ps : List PlanView) (parts : Parts) (n : ℕ) → matching ps parts ≡ Ok n → 0 < n
unfolding matching
matched-above ps parts n e =
    let one = the_one-ok (list_any (is_gone parts) ps) (numbers (is_candidate parts) 1 ps) n e in
    let k = numbers-pass (is_candidate parts) 1 ps n [] one in
    let first : n ≡ 1 + k.0 = k.1 in
    omega (arith, first)

matched-filed : (ps : List PlanView) (parts : Parts) (n : ℕ) → matching ps parts ≡ Ok n → (p : PlanView) → plan_at ps n ≡ Some p → p.state ≡ state.Filed
unfolding matching
matched-filed ps parts n e p there =
    let one = the_one-ok (list_any (is_gone parts) ps) (numbers (is_candidate parts) 1 ps) n e in
    let k = numbers-pass (is_candidate parts) 1 ps n [] one in
    let first : n ≡ 1 + k.0 = k.1 in
    let filed : IfSome (slice_get ps (n - 1)) (λ q. q.state ≡ state.Filed) = passes_at-filed-there parts ps k.0 (n - 1) (omega (arith, first)) k.2 in
    rw there at filed

-- keys by number

abbrev key_in : List PlanView → ℕ → Option Key
key_in ps k = option_map_or (λ p. Some p.key) (slice_get ps k) None

key-set : (ps : List PlanView) (i : ℕ) (r : PlanView) → ((p : PlanView) → slice_get ps i ≡ Some p → r.key ≡ p.key) → (k : ℕ) (key : Key) → key_in ps k ≡ Some key → key_in (slice_set ps i r) k ≡ Some key
key-set [] i r same k key e = absurd (cc)
key-set (x ∷ ps) zero r same zero key e = ap (λ (l : Key). Some l) (same x refl) ∙ e
key-set (x ∷ ps) zero r same (suc k) key e = e
key-set (x ∷ ps) (suc i) r same zero key e = e
key-set (x ∷ ps) (suc i) r same (suc k) key e = key-set ps i r same k key e

flight-set : (ps : List PlanView) (i : ℕ) (r : PlanView) (dest : List ℕ) → ((p : PlanView) → slice_get ps i ≡ Some p → r.key ≡ record p.key { dest = dest }) → (k : ℕ) (key : Key) → key_in ps k ≡ Some key → (d : List ℕ) × (key_in (slice_set ps i r) k ≡ Some (record key { dest = d }))
flight-set [] i r dest same k key e = absurd (cc)
flight-set (x ∷ ps) zero r dest same zero key e =
    (dest, ap (λ (l : Key). Some l) (same x refl) ∙ ap (λ (o : Option Key). Some (record (unwrap_or o x.key) { dest = dest })) e)
flight-set (x ∷ ps) zero r dest same (suc k) key e = (key.dest, e)
flight-set (x ∷ ps) (suc i) r dest same zero key e = (key.dest, e)
flight-set (x ∷ ps) (suc i) r dest same (suc k) key e = flight-set ps i r dest same k key e

last-there : (ps : List PlanView) (r : PlanView) → slice_get (ps ++ r ∷ []) (length ps) ≡ Some r
last-there [] r = refl
last-there (x ∷ ps) r = last-there ps r

key-more : (ps : List PlanView) (r : PlanView) (k : ℕ) (key : Key) → key_in ps k ≡ Some key → key_in (ps ++ r ∷ []) k ≡ Some key
key-more [] r k key e = absurd (cc)
key-more (x ∷ ps) r zero key e = e
key-more (x ∷ ps) r (suc k) key e = key-more ps r k key e

some-same : (o : Option PlanView) (p q : PlanView) → o ≡ Some p → o ≡ Some q → p ≡ q
some-same o p q a b = ap (λ r. unwrap_or r p) (sym a ∙ b)

keys-changed : (f : PlanView → PlanView) (n : ℕ) (ps : List PlanView) → ((p : PlanView) → (f p).key ≡ p.key) → KeepKeys ps (changed_at f n ps)
unfolding changed_at
keys-changed f n ps keeps = at (plan_at ps n) refl where
  at : (o : Option PlanView) → plan_at ps n ≡ o → KeepKeys ps (option_map_or (λ p. slice_set ps (n - 1) (f p)) o ps)
  at None e = λ number key h. h
  at (Some p) e = λ number key h. key-set ps (n - 1) (f p) (λ q there. keeps p ∙ ap (λ (s : PlanView). s.key) (some-same (plan_at ps n) p q e there)) (number - 1) key h

count-changed : (f : PlanView → PlanView) (n : ℕ) (ps : List PlanView) → length (changed_at f n ps) ≡ length ps
unfolding changed_at
count-changed f n ps = at (plan_at ps n) where
  at : (o : Option PlanView) → length (option_map_or (λ p. slice_set ps (n - 1) (f p)) o ps) ≡ length ps
  at None = refl
  at (Some p) = length-set ps (n - 1) (f p)

-- FPL

module _ (max now : ℕ) (ps qs : List PlanView) (m : FplView) (e : filed max now ps m ≡ Ok qs) where
  abbrev new_plan : PlanView
  new_plan = plan_of (asked_off_block now m) m

  filed-more : (list_any (is_held_as new_plan.key) ps ≡ false) × (ps ++ new_plan ∷ [] ≡ qs)
  unfolding filed
  filed-more =
      let moment = new_plan.off_block in
      let a = unless-ok (nat_lt moment now) refusal.Past _ qs e in
      let b = unless-ok (nat_lt (now + 7200) moment) refusal.TooEarly _ qs a.1 in
      let c = unless-ok (list_any (is_held_as new_plan.key) ps) refusal.AlreadyHeld _ qs b.1 in
      let d = unless-ok (nat_le max (length ps)) refusal.PlansFull _ qs c.1 in
      (c.0, ok-same (ps ++ new_plan ∷ []) qs (Ok (ps ++ new_plan ∷ [])) refl d.1)

  pub filed-distinct : AreDistinct ps → AreDistinct qs
  filed-distinct distinct = subst (λ rs. AreDistinct rs) filed-more.1
      (distinct-more ps new_plan (λ k q there held same. none-held new_plan.key ps k q filed-more.0 there held same) distinct)

  pub filed-keys : KeepKeys ps qs
  filed-keys = subst (λ rs. KeepKeys ps rs) filed-more.1 (λ number key h. key-more ps new_plan (number - 1) key h)

  pub filed-number : plan_at qs (length ps + 1) ≡ Some new_plan
  filed-number =
      let last : length ps + 1 - 1 ≡ length ps = omega arith in
      ap (λ (rs : List PlanView). plan_at rs (length ps + 1)) (sym filed-more.1) ∙ ap (λ k. slice_get (ps ++ new_plan ∷ []) k) last ∙ last-there ps new_plan

  pub filed-count : length qs ≡ length ps + 1
  filed-count = ap (λ (rs : List PlanView). length rs) (sym filed-more.1) ∙ length-append ps (new_plan ∷ [])

-- DLA

module _ (now : ℕ) (ps : List PlanView) (m : Dla) (later : Changed) (e : delayed now ps m ≡ Ok later) where
  delayed-one : (n : ℕ) × (moment : ℕ) × (changed_at (with_off_block moment) n ps ≡ later.plans)
  unfolding delayed
  delayed-one =
      let a = then-ok (matching ps m.parts) _ later e in
      let b = some-ok (plan_at ps a.0) _ later a.2 in
      let c = then-ok (delayed_to now b.0.off_block m.time) _ later b.2 in
      let made : Changed = record { plans = changed_at (with_off_block c.0) a.0 ps; number = a.0 } in
      (a.0, c.0, ap (λ (l : Changed). l.plans) (ok-same made later (Ok made) refl c.2))

  pub delayed-distinct : AreDistinct ps → AreDistinct later.plans
  delayed-distinct distinct = subst (λ rs. AreDistinct rs) delayed-one.2
      (distinct-changed (with_off_block delayed-one.1) delayed-one.0 ps (λ p there held. held) (λ p. refl) distinct)

  pub delayed-keys : KeepKeys ps later.plans
  delayed-keys = subst (λ rs. KeepKeys ps rs) delayed-one.2 (keys-changed (with_off_block delayed-one.1) delayed-one.0 ps (λ p. refl))

  pub delayed-count : length later.plans ≡ length ps
  delayed-count = ap (λ (rs : List PlanView). length rs) (sym delayed-one.2) ∙ count-changed (with_off_block delayed-one.1) delayed-one.0 ps

-- CNL

module _ (ps : List PlanView) (m : Cnl) (later : Changed) (e : cancelled ps m ≡ Ok later) where
  cancelled-one : (n : ℕ) × (changed_at (with_state state.Cancelled) n ps ≡ later.plans)
  unfolding cancelled
  cancelled-one =
      let a = then-ok (matching ps m.parts) _ later e in
      let made : Changed = record { plans = changed_at (with_state state.Cancelled) a.0 ps; number = a.0 } in
      (a.0, ap (λ (l : Changed). l.plans) (ok-same made later (Ok made) refl a.2))

  pub cancelled-distinct : AreDistinct ps → AreDistinct later.plans
  cancelled-distinct distinct = subst (λ rs. AreDistinct rs) cancelled-one.1
      (distinct-changed (with_state state.Cancelled) cancelled-one.0 ps (λ p there held. absurd (cc)) (λ p. refl) distinct)

  pub cancelled-keys : KeepKeys ps later.plans
  cancelled-keys = subst (λ rs. KeepKeys ps rs) cancelled-one.1 (keys-changed (with_state state.Cancelled) cancelled-one.0 ps (λ p. refl))

  pub cancelled-count : length later.plans ≡ length ps
  cancelled-count = ap (λ (rs : List PlanView). length rs) (sym cancelled-one.1) ∙ count-changed (with_state state.Cancelled) cancelled-one.0 ps

-- DEP

module _ (ps : List PlanView) (m : Dep) (later : Changed) (e : departed ps m ≡ Ok later) where
  departed-one : (n : ℕ) × (matching ps m.parts ≡ Ok n) × (changed_at (with_state state.Departed) n ps ≡ later.plans)
  unfolding departed
  departed-one =
      let a = then-ok (matching ps m.parts) _ later e in
      let made : Changed = record { plans = changed_at (with_state state.Departed) a.0 ps; number = a.0 } in
      (a.0, a.1, ap (λ (l : Changed). l.plans) (ok-same made later (Ok made) refl a.2))

  pub departed-distinct : AreDistinct ps → AreDistinct later.plans
  departed-distinct distinct = subst (λ rs. AreDistinct rs) departed-one.2
      (distinct-changed (with_state state.Departed) departed-one.0 ps
      (λ p there held. ap (λ (s : PlanState). is_held s) (matched-filed ps m.parts departed-one.0 departed-one.1 p there)) (λ p. refl) distinct)

  pub departed-keys : KeepKeys ps later.plans
  departed-keys = subst (λ rs. KeepKeys ps rs) departed-one.2 (keys-changed (with_state state.Departed) departed-one.0 ps (λ p. refl))

  pub departed-count : length later.plans ≡ length ps
  departed-count = ap (λ (rs : List PlanView). length rs) (sym departed-one.2) ∙ count-changed (with_state state.Departed) departed-one.0 ps

-- CHG

amended-key : (moment : ℕ) (m : ChgView) (p : PlanView) → (amended_plan moment m p).key ≡ key_after p.key m
unfolding amended_plan
amended-key moment m p = refl

amended-dest : (key : Key) (m : ChgView) → key_after key m ≡ record key { dest = option_map_or (λ destination. destination.place) m.destination key.dest }
unfolding key_after
amended-dest key m = refl

module _ (now : ℕ) (ps : List PlanView) (m : ChgView) (later : Changed) (e : amended now ps m ≡ Ok later) where
  amended-one : (n : ℕ) × (p : PlanView) × (moment : ℕ) × (plan_at ps n ≡ Some p) × (list_any (is_held_as (key_after p.key m)) (others n ps) ≡ false) × (slice_set ps (n - 1) (amended_plan moment m p) ≡ later.plans) × (n ≡ later.number) × (0 < n)
  unfolding amended
  amended-one =
      let a = then-ok (matching ps m.parts) _ later e in
      let b = some-ok (plan_at ps a.0) _ later a.2 in
      let c = unless-ok (changes_key m b.0.key) _ _ later b.2 in
      let d = then-ok (moved_to now b.0.off_block m.departure) _ later c.1 in
      let f = unless-ok (list_any (is_held_as (key_after b.0.key m)) (others a.0 ps)) _ _ later d.2 in
      let made : Changed = record { plans = slice_set ps (a.0 - 1) (amended_plan d.0 m b.0); number = a.0 } in
      (a.0, b.0, d.0, b.1, f.0, ap (λ (l : Changed). l.plans) (ok-same made later (Ok made) refl f.1), ap (λ (l : Changed). l.number) (ok-same made later (Ok made) refl f.1), matched-above ps m.parts a.0 a.1)

  abbrev amended_one : PlanView
  amended_one = amended_plan amended-one.2 m amended-one.1

  pub amended-distinct : AreDistinct ps → AreDistinct later.plans
  amended-distinct distinct = subst (λ rs. AreDistinct rs) amended-one.5
      (distinct-set ps (amended-one.0 - 1) amended_one
      (λ k q there apart hr hq same. none-held (key_after amended-one.1.key m) (others amended-one.0 ps) k q amended-one.4
      (others-there amended-one.0 ps k q apart there) hq (same ∙ amended-key amended-one.2 m amended-one.1))
      distinct)

  pub amended-keys : KeepFlights ps later.plans
  amended-keys = subst (λ rs. KeepFlights ps rs) amended-one.5
      (λ number key h. flight-set ps (amended-one.0 - 1) amended_one
      (option_map_or (λ destination. destination.place) m.destination amended-one.1.key.dest)
      (λ q there. amended-key amended-one.2 m amended-one.1 ∙ amended-dest amended-one.1.key m
      ∙ ap (λ (s : PlanView). record s.key { dest = option_map_or (λ destination. destination.place) m.destination amended-one.1.key.dest }) (some-same (plan_at ps amended-one.0) amended-one.1 q amended-one.3 there))
      (number - 1) key h)

  pub amended-count : length later.plans ≡ length ps
  amended-count = ap (λ (rs : List PlanView). length rs) (sym amended-one.5) ∙ length-set ps (amended-one.0 - 1) amended_one

  pub amended-others : (number : ℕ) → 0 < number → (number ≡ later.number → ⊥) → plan_at later.plans number ≡ plan_at ps number
  amended-others number above apart =
      let n : amended-one.0 ≡ later.number = amended-one.6 in
      let first : 0 < amended-one.0 = amended-one.7 in
      ap (λ (rs : List PlanView). plan_at rs number) (sym amended-one.5)
      ∙ set-other ps (amended-one.0 - 1) amended_one (number - 1) (λ h. apart (omega (arith, n, first, above, h)))
