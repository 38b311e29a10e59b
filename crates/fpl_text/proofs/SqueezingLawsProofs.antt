-- What squeezing keeps, and which texts are squeezed.
use Rattle.std.proofs.Common.{◌≡◌, ◌↔◌, ℕ, ◌<◌, Bool, true, false, not, cond, ◌&&◌, List, [], ◌∷◌, ◌++◌, length, sym, refl, ap, subst, ◌∙◌, arith, append_assoc, ⊎_elim}
use Rattle.std.specs.List.{list_all}
use Rattle.std.proofs.lemmas.Bool.{cases_Bool, and_parts, false≢true}
use Rattle.std.proofs.lemmas.List.Elements.{filter-append}
use Rattle.fpl_text.specs.Bytes.{is_blank, is_border}
use Rattle.fpl_text.specs.Passes.{appended}
use Rattle.fpl_text.specs.Squeezing.{first_byte, squeezed, space_between}
use Rattle.fpl_text.specs.SqueezingLaws.{unblanked, is_inner, HasLoneSpaces, IsSqueezed, KeepsPair}
use Rattle.fpl_text.proofs.SqueezingLemmas.{appended-blank, appended-other, appended-all}

-- what may be kept between two bytes
between-parts : (blank : Bool) (before b : ℕ) → (P : List ℕ → Type 0) → P [] → (blank ≡ true → is_border before ≡ false → is_border b ≡ false → P (32 ∷ [])) → P (space_between blank before b)
unfolding space_between
between-parts blank before b P none space = by blank (is_border before) (is_border b) space where
  by : (p q r : Bool) → (p ≡ true → q ≡ false → r ≡ false → P (32 ∷ [])) → P (cond (p && not q && not r) (32 ∷ []) [])
  by true false false s = s refl refl refl
  by true false true s = none
  by true true r s = none
  by false q r s = none

space-is_blank : is_blank 32 ≡ true
unfolding is_blank
space-is_blank = refl

unblanked-between : (blank : Bool) (before b : ℕ) → unblanked (space_between blank before b) ≡ []
unblanked-between blank before b =
    between-parts blank before b (λ s. unblanked s ≡ []) refl (λ p q r. ap (λ t. cond (not t) (32 ∷ []) []) space-is_blank)

unblanked-other : (b : ℕ) (text : List ℕ) → is_blank b ≡ false → unblanked (b ∷ text) ≡ b ∷ unblanked text
unblanked-other b text h = ap (λ t. cond (not t) (b ∷ unblanked text) (unblanked text)) h

unblanked-blank : (b : ℕ) (text : List ℕ) → is_blank b ≡ true → unblanked (b ∷ text) ≡ unblanked text
unblanked-blank b text h = ap (λ t. cond (not t) (b ∷ unblanked text) (unblanked text)) h

unblanked-append : (xs ys : List ℕ) → unblanked (xs ++ ys) ≡ unblanked xs ++ unblanked ys
unblanked-append xs ys = filter-append (λ b. not (is_blank b)) xs ys

-- a byte after what may precede it
unblanked-behind : (blank : Bool) (before b : ℕ) (text : List ℕ) → is_blank b ≡ false → unblanked (space_between blank before b ++ (b ∷ text)) ≡ b ∷ unblanked text
unblanked-behind blank before b text h =
    unblanked-append (space_between blank before b) (b ∷ text)
    ∙ ap (λ s. s ++ unblanked (b ∷ text)) (unblanked-between blank before b)
    ∙ unblanked-other b text h

-- all bytes but blanks are kept
kept-appended : (blank : Bool) (before : ℕ) (text : List ℕ) → unblanked (appended blank before text) ≡ unblanked text
unfolding appended
kept-appended blank before [] = refl
kept-appended blank before (b ∷ text) =
    ⊎_elim
    (λ h. ap unblanked (appended-blank blank before b text h) ∙ kept-appended true before text ∙ sym (unblanked-blank b text h))
    (λ h.
    ap unblanked (appended-other blank before b text h) ∙ unblanked-behind blank before b (appended false b text) h
    ∙ ap (λ s. b ∷ s) (kept-appended false b text) ∙ sym (unblanked-other b text h))
    (cases_Bool (is_blank b))

pub bytes-kept : (text : List ℕ) → unblanked (squeezed text) ≡ unblanked text
bytes-kept text = ap unblanked (sym (appended-all text)) ∙ kept-appended false 45 text

-- what precedes a byte of the text depends on the bytes before it alone
record Split (blank : Bool) (before : ℕ) (front : List ℕ) (x : ℕ) : Type 0 where
  left : List ℕ
  whole : (more : List ℕ) → appended blank before (front ++ (x ∷ more)) ≡ left ++ (x ∷ appended false x more)
  same : unblanked left ≡ unblanked front

split : (blank : Bool) (before : ℕ) (front : List ℕ) (x : ℕ) → is_blank x ≡ false → Split blank before front x
split blank before [] x h = record {
  left = space_between blank before x;
  whole = λ more. appended-other blank before x more h;
  same = unblanked-between blank before x;
}
split blank before (b ∷ front) x h =
    ⊎_elim
    (λ k.
    let r = split true before front x h in
    record { left = r.left; whole = λ more. appended-blank blank before b (front ++ (x ∷ more)) k ∙ r.whole more; same = r.same ∙ sym (unblanked-blank b front k) })
    (λ k.
    let r = split false b front x h in
    record {
      left = space_between blank before b ++ (b ∷ r.left);
      whole = λ more.
          appended-other blank before b (front ++ (x ∷ more)) k
          ∙ ap (λ s. space_between blank before b ++ (b ∷ s)) (r.whole more)
          ∙ sym (append_assoc (space_between blank before b) (b ∷ r.left) (x ∷ appended false x more));
      same = unblanked-behind blank before b r.left k ∙ ap (λ s. b ∷ s) r.same ∙ sym (unblanked-other b front k);
    })
    (cases_Bool (is_blank b))

appended-gap : (blank : Bool) (before : ℕ) (gap rest : List ℕ) → list_all is_blank gap ≡ true → 0 < length gap → appended blank before (gap ++ rest) ≡ appended true before rest
appended-gap blank before [] rest h l = absurd (omega arith)
appended-gap blank before (b ∷ []) rest h l =
    appended-blank blank before b rest (and_parts (is_blank b) true h).0
appended-gap blank before (b ∷ c ∷ gap) rest h l =
    let parts = and_parts (is_blank b) (list_all is_blank (c ∷ gap)) h in
    appended-blank blank before b ((c ∷ gap) ++ rest) parts.0 ∙ appended-gap true before (c ∷ gap) rest parts.1 (omega arith)

false-from_not : (b : Bool) → not b ≡ true → b ≡ false
false-from_not false h = refl
false-from_not true h = absurd (false≢true h)

inner-parts : (b : ℕ) → is_inner b ≡ true → (is_blank b ≡ false) × (is_border b ≡ false)
inner-parts b h =
    let parts = and_parts (not (is_blank b)) (not (is_border b)) h in
    (false-from_not (is_blank b) parts.0, false-from_not (is_border b) parts.1)

space-stands : (x y : ℕ) → is_border x ≡ false → is_border y ≡ false → space_between true x y ≡ 32 ∷ []
unfolding space_between
space-stands x y h k = rw (h, k) refl

none-stands : (x y : ℕ) → space_between false x y ≡ []
unfolding space_between
none-stands x y = refl

-- blanks between two bytes of words become one space
pub words-apart : (front gap rest : List ℕ) (x y : ℕ) → list_all is_blank gap ≡ true → 0 < length gap → is_inner x ≡ true → is_inner y ≡ true → KeepsPair (squeezed (front ++ (x ∷ (gap ++ (y ∷ rest))))) front rest (32 ∷ []) x y
words-apart front gap rest x y h l p q =
    let x_is = inner-parts x p in
    let y_is = inner-parts y q in
    let r = split false 45 front x x_is.0 in
    record {
      left = r.left;
      right = appended false y rest;
      whole =
          sym (appended-all (front ++ (x ∷ (gap ++ (y ∷ rest))))) ∙ r.whole (gap ++ (y ∷ rest))
          ∙ ap (λ s. r.left ++ (x ∷ s))
          (appended-gap false x gap (y ∷ rest) h l ∙ appended-other true x y rest y_is.0 ∙ ap (λ s. s ++ (y ∷ appended false y rest)) (space-stands x y x_is.1 y_is.1));
      before = r.same;
      after = kept-appended false y rest;
    }

-- and if there was none, none is added
pub bytes-joined : (front rest : List ℕ) (x y : ℕ) → is_blank x ≡ false → is_blank y ≡ false → KeepsPair (squeezed (front ++ (x ∷ (y ∷ rest)))) front rest [] x y
bytes-joined front rest x y h k =
    let r = split false 45 front x h in
    record {
      left = r.left;
      right = appended false y rest;
      whole =
          sym (appended-all (front ++ (x ∷ (y ∷ rest)))) ∙ r.whole (y ∷ rest)
          ∙ ap (λ s. r.left ++ (x ∷ s)) (appended-other false x y rest k ∙ ap (λ s. s ++ (y ∷ appended false y rest)) (none-stands x y));
      before = r.same;
      after = kept-appended false y rest;
    }

-- spaces are single
inner-from : (b : ℕ) → is_blank b ≡ false → is_border b ≡ false → is_inner b ≡ true
inner-from b h k = rw (h, k) refl

lone-behind : (blank : Bool) (before b : ℕ) (text : List ℕ) → is_blank before ≡ false → is_blank b ≡ false → HasLoneSpaces b text → HasLoneSpaces before (space_between blank before b ++ (b ∷ text))
lone-behind blank before b text h k rest =
    let no : is_blank b ≡ true → (b ≡ 32) × (is_inner before ≡ true) × (is_inner (first_byte text) ≡ true) = λ e. absurd (false≢true (sym k ∙ e)) in
    let none : is_blank b ≡ true → (b ≡ 32) × (is_inner 32 ≡ true) × (is_inner (first_byte text) ≡ true) = λ e. absurd (false≢true (sym k ∙ e)) in
    between-parts blank before b (λ s. HasLoneSpaces before (s ++ (b ∷ text))) (no, rest) (λ p q r. ((λ e. (refl, inner-from before h q, inner-from b k r)), (none, rest)))

lone-appended : (blank : Bool) (before : ℕ) (text : List ℕ) → is_blank before ≡ false → HasLoneSpaces before (appended blank before text)
unfolding appended
lone-appended blank before [] h = tt
lone-appended blank before (b ∷ text) h =
    ⊎_elim
    (λ k. subst (HasLoneSpaces before) (sym (appended-blank blank before b text k)) (lone-appended true before text h))
    (λ k. subst (HasLoneSpaces before) (sym (appended-other blank before b text k)) (lone-behind blank before b (appended false b text) h k (lone-appended false b text k)))
    (cases_Bool (is_blank b))

hyphen-no_blank : is_blank 45 ≡ false
unfolding is_blank
hyphen-no_blank = refl

hyphen-border : is_border 45 ≡ true
unfolding is_border
hyphen-border = refl

pub squeezed-is : (text : List ℕ) → IsSqueezed (squeezed text)
squeezed-is text = subst IsSqueezed (appended-all text) (lone-appended false 45 text hyphen-no_blank)

-- a squeezed text stays as it is
end-no_inner : is_inner 45 ≡ true → ⊥
end-no_inner h = false≢true (sym (inner-parts 45 h).1 ∙ hyphen-border)

same-appended : (before : ℕ) (text : List ℕ) → HasLoneSpaces before text → appended false before text ≡ text
unfolding appended
same-appended before [] h = refl
same-appended before (b ∷ []) h =
    ⊎_elim
    (λ k. absurd (end-no_inner (h.0 k).2))
    (λ k. appended-other false before b [] k ∙ ap (λ s. s ++ (b ∷ appended false b [])) (none-stands before b))
    (cases_Bool (is_blank b))
same-appended before (b ∷ c ∷ text) h =
    ⊎_elim
    (λ k.
    let lone = h.0 k in
    let c_is = inner-parts c lone.2 in
    let before_is = inner-parts before lone.1 in
    appended-blank false before b (c ∷ text) k ∙ appended-other true before c text c_is.0
    ∙ ap (λ s. s ++ (c ∷ appended false c text)) (space-stands before c before_is.1 c_is.1)
    ∙ ap (λ s. 32 ∷ c ∷ s) (same-appended c text h.1.1)
    ∙ ap (λ d. d ∷ c ∷ text) (sym lone.0))
    (λ k.
    appended-other false before b (c ∷ text) k ∙ ap (λ s. s ++ (b ∷ appended false b (c ∷ text))) (none-stands before b)
    ∙ ap (λ s. b ∷ s) (same-appended b (c ∷ text) h.1))
    (cases_Bool (is_blank b))

pub squeezed-stays : (text : List ℕ) → IsSqueezed text ↔ (squeezed text ≡ text)
squeezed-stays text = (
  (λ h. sym (appended-all text) ∙ same-appended 45 text h),
  (λ e. subst IsSqueezed e (squeezed-is text)),
)

pub squeezed-again : (text : List ℕ) → squeezed (squeezed text) ≡ squeezed text
squeezed-again text = (squeezed-stays (squeezed text)).0 (squeezed-is text)
