-- An outline has the entry at a departure of four letters.
use Rattle.std.proofs.Common.{◌≡◌, ℕ, zero, suc, ◌+◌, ◌-◌, ◌<◌, ◌≤◌, ◌⊎◌, inl, inr, arith, get_or, Bool, true, false, not, ◌&&◌, nat_eq, if◌then◌else◌, List, [], ◌∷◌, length, Option, Some, None, slice_get, unwrap_or, refl, sym, ap, subst, ◌∙◌}
use Rattle.std.specs.Prelude.{IfSome, codes}
use Rattle.std.specs.Str.{bytes_eq}
use Rattle.std.proofs.lemmas.Bool.{false≢true, eq-eqb, eqb-true, cases_lt, lt-ltb}
use Rattle.std.proofs.lemmas.Bool.Decides.{same_from_decides}
use Rattle.std.proofs.lemmas.Option.{slice_get-get_or}
use lib.Pointwise.{bytes_decides}
use Rattle.fpl_message.specs.declared.order.Spot.{Spot}
use Rattle.fpl_message.specs.declared.order.Spot.TheVariants.{Dep, Arr, Via}
use Rattle.flow_plans.specs.declared.outline.PlanIndexEntry.{PlanIndexEntry}
use Rattle.flow_plans.specs.Plans.{PlanView, is_filed, is_visual, plan_at}
use Rattle.flow_plans.specs.Letters.{letters_of, AreBytes, IsTold, IsDepartureOf}
use Rattle.flow_plans.specs.Entries.{entry_at, in_period, subject}
use Rattle.flow_plans.specs.Outlines.{may_be_subject, departure, IsOutlineOf, AreOutlines}
use Rattle.flow_plans.proofs.Letters.{letters-same, letters-tell}

-- a name with letters has four
four : (place : List ℕ) → length place ≤ 4 → 0 < letters_of place → length place ≡ 4
unfolding letters_of
four place most some = by (cases_lt (length place) 4) where
  by : (length place < 4) ⊎ (4 ≤ length place) → length place ≡ 4
  by (inl short) = absurd (omega (arith, some, none short)) where
    none : length place < 4 → letters_of place ≡ 0
    none h = rw (lt-ltb (length place) 4 h) refl
  by (inr long) = omega (arith, most, long)

-- whether a flight departs there is decided by letters
at-place : (dep place : List ℕ) → length dep ≤ 4 → AreBytes dep → IsTold place → nat_eq (letters_of dep) (letters_of place) ≡ bytes_eq dep place
at-place dep place most bytes told =
    let there = four place told.most told.some in
    same_from_decides (nat_eq (letters_of dep) (letters_of place)) (bytes_eq dep place) (
      (λ e.
          (let same = eqb-true (letters_of dep) (letters_of place) e in
          letters-same dep place (four dep most (omega (arith, same, told.some))) there bytes told.bytes same)),
      (λ e. eq-eqb _ _ (ap letters_of e)),
    )
    (bytes_decides dep place)

afil-bytes : AreBytes (codes "AFIL")
afil-bytes zero = omega arith
afil-bytes (suc zero) = omega arith
afil-bytes (suc (suc zero)) = omega arith
afil-bytes (suc (suc (suc zero))) = omega arith
afil-bytes (suc (suc (suc (suc i)))) = omega arith

-- so is whether it departs in the air
in-air : (place : List ℕ) → length place ≡ 4 → AreBytes place → nat_eq (letters_of place) (letters_of (codes "AFIL")) ≡ bytes_eq place (codes "AFIL")
in-air place there bytes = letters-tell place (codes "AFIL") there refl bytes afil-bytes

but-third : (f n a e : Bool) → (f && n && e) ≡ true → (f && n && a && e) ≡ a
but-third true true true true h = refl
but-third true true false true h = refl
but-third true true a false h = absurd (false≢true h)
but-third true false a e h = absurd (false≢true h)
but-third false n a e h = absurd (false≢true h)

nowhere : (start end : ℕ) (c : Bool) → (if c then in_period start end None else None) ≡ None
nowhere start end true = refl
nowhere start end false = refl

both-say : (start end m k : ℕ) (c a b e n : Bool) → c ≡ not a → e ≡ b → (b ≡ true → n ≡ a) → k ≡ m
    → (if c then in_period start end (if b then Some m else None) else None) ≡ (if e && not n then in_period start end (Some k) else None)
both-say start end m k c a true e n free same air moment =
    ap (λ v. if v then in_period start end (Some m) else None) (free ∙ ap not (sym (air refl)) ∙ ap (λ v. v && not n) (sym same))
    ∙ ap (λ v. if e && not n then in_period start end (Some v) else None) (sym moment)
both-say start end m k c a false e n free same air moment =
    nowhere start end c ∙ sym (ap (λ v. if v && not n then in_period start end (Some k) else None) same)

-- an outline with the letters of the departure has the entry there
pub departs-all : (o : PlanIndexEntry) (p : PlanView) → may_be_subject p ≡ true → o.off_block ≡ p.off_block → o.dep ≡ letters_of p.key.dep → length p.key.dep ≤ 4 → AreBytes p.key.dep
    → (taxi start end : ℕ) (place : List ℕ) → IsTold place → subject taxi (Dep place) start end p ≡ departure taxi (letters_of place) start end o
unfolding subject entry_at departure
departs-all o p may off_block dep most bytes taxi start end place told =
    both-say start end (p.off_block + taxi) (o.off_block + taxi)
    (is_filed p.state && not (is_visual p.rules) && not (bytes_eq p.key.dep (codes "AFIL")) && not p.exempt)
    (bytes_eq p.key.dep (codes "AFIL")) (bytes_eq p.key.dep place) (nat_eq o.dep (letters_of place)) (nat_eq (letters_of place) (letters_of (codes "AFIL")))
    (but-third (is_filed p.state) (not (is_visual p.rules)) (not (bytes_eq p.key.dep (codes "AFIL"))) (not p.exempt) may)
    (ap (λ n. nat_eq n (letters_of place)) dep ∙ at-place p.key.dep place most bytes told)
    (λ q. in-air place (four place told.most told.some) told.bytes ∙ ap (λ d. bytes_eq d (codes "AFIL")) (sym ((bytes_decides p.key.dep place).0 q)))
    (ap (λ m. m + taxi) off_block)

-- one without letters has none
pub departs-none : (o : PlanIndexEntry) (taxi start end : ℕ) (place : List ℕ) → o.dep ≡ 0 → IsTold place → departure taxi (letters_of place) start end o ≡ None
unfolding departure
departs-none o taxi start end place dep told = by (nat_eq o.dep (letters_of place)) refl where
  by : (b : Bool) → nat_eq o.dep (letters_of place) ≡ b → (if b && not (nat_eq (letters_of place) (letters_of (codes "AFIL"))) then in_period start end (Some (o.off_block + taxi)) else None) ≡ None
  by true e = absurd (omega (arith, eqb-true o.dep (letters_of place) e, dep, told.some))
  by false e = refl

-- the outline at the index of a plan
pub outline-at : (os : List PlanIndexEntry) (ps : List PlanView) (i : ℕ) (o : PlanIndexEntry) → AreOutlines os ps → slice_get os i ≡ Some o → IfSome (slice_get ps i) (IsOutlineOf o)
outline-at [] ps i o h at = absurd (cc)
outline-at (n ∷ os) [] i o h at = absurd h
outline-at (n ∷ os) (p ∷ ps) zero o h at = subst (λ v. IsOutlineOf v p) (ap (λ (x : Option PlanIndexEntry). unwrap_or x n) at) h.0
outline-at (n ∷ os) (p ∷ ps) (suc i) o h at = outline-at os ps i o h.1 at

pub of-some : (o : Option PlanView) (P Q : PlanView → Type 0) → ((p : PlanView) → P p → Q p) → IfSome o P → IfSome o Q
of-some None P Q f h = h
of-some (Some p) P Q f h = f p h

-- that of the plan of a number
pub outline-there : (number len : ℕ) (os : List PlanIndexEntry) (ps all : List PlanView) (o : PlanIndexEntry) → number - 1 < len → len ≡ length os → AreOutlines os ps → ps ≡ all → o ≡ get_or os (number - 1) o → IfSome (plan_at all number) (IsOutlineOf o)
outline-there number len os ps all o inside l h same is =
    let at : slice_get os (number - 1) ≡ Some o = slice_get-get_or os (number - 1) o (omega (arith, l, inside)) ∙ ap (λ x. Some x) (sym is) in
    rw (← same) (outline-at os ps (number - 1) o h at)

-- an outline has the entry at a departure of these letters
pub departs-at : (o : PlanIndexEntry) (p : PlanView) (taxi start end letters : ℕ) (entry : Option ℕ) → IsOutlineOf o p → entry ≡ departure taxi letters start end o → (spot : Spot) → IsDepartureOf letters spot → entry ≡ subject taxi spot start end p
departs-at o p taxi start end letters entry r e (Dep place) told = e ∙ (ap (λ n. departure taxi n start end o) told.1 ∙ sym (r.departs taxi start end place told.0))
departs-at o p taxi start end letters entry r e (Arr place) told = absurd told
departs-at o p taxi start end letters entry r e (Via place) told = absurd told

pub outline-enters : (number len : ℕ) (os : List PlanIndexEntry) (ps all : List PlanView) (o : PlanIndexEntry) (taxi start end letters : ℕ) (entry : Option ℕ) → number - 1 < len → len ≡ length os → AreOutlines os ps → ps ≡ all → o ≡ get_or os (number - 1) o
    → entry ≡ departure taxi letters start end o → (spot : Spot) → IsDepartureOf letters spot → IfSome (plan_at all number) (λ p. entry ≡ subject taxi spot start end p)
outline-enters number len os ps all o taxi start end letters entry inside l h same is e spot told =
    of-some (plan_at all number) (IsOutlineOf o) (λ p. entry ≡ subject taxi spot start end p) (λ p r. departs-at o p taxi start end letters entry r e spot told) (outline-there number len os ps all o inside l h same is)

-- the plan of the number after an index
pub outlined-next : (os : List PlanIndexEntry) (ps : List PlanView) (i : ℕ) (o : PlanIndexEntry) (P : PlanView → Type 0) → AreOutlines os ps → slice_get os i ≡ Some o → ((p : PlanView) → IsOutlineOf o p → P p) → IfSome (plan_at ps (i + 1)) P
outlined-next os ps i o P h at f =
    let same : i ≡ i + 1 - 1 = omega arith in
    subst (λ k. IfSome (slice_get ps k) P) same (of-some (slice_get ps i) (IsOutlineOf o) P f (outline-at os ps i o h at))
