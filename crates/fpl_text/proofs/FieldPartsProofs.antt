-- Fields 3, 7 and 9 have their forms exactly if they are their parts, one after the other.
use Rattle.std.proofs.Common.{◌≡◌, ◌↔◌, ℕ, zero, suc, ◌+◌, ◌-◌, ◌<◌, ◌≤◌, ◌*◌, Bool, true, false, cond, ◌&&◌, eqb, leb, List, [], ◌∷◌, ◌++◌, length, take, drop, get_or, sym, refl, ap, subst, ◌∙◌, arith, append_assoc, length-append}
use Rattle.std.specs.Prelude.{Option, Some, None, codes}
use Rattle.std.specs.Option.{option_map, option_and_then}
use Rattle.std.specs.List.{list_all, prefix_len, starts_with}
use Rattle.std.proofs.lemmas.Bool.{and_parts, and_from, eqb-true, eq-eqb, ne_eqb, leb-true, le-leb, cond-true, cond-false}
use Rattle.std.proofs.lemmas.Bool.Decides.{nat_tests}
use Rattle.std.proofs.lemmas.List.{append-nil, take-append-drop, get_or-drop, get_or-append-add, length-drop, drop-drop}
use Rattle.std.proofs.Math.Seq.{drop-append_seam, take-append_seam, drop-append-add, drop-cons, get_or-append_seam}
use Rattle.fpl_text.specs.declared.fields.Title.{Title}
use Rattle.fpl_text.specs.declared.ident.Ident.{Ident}
use Rattle.fpl_text.specs.declared.craft.Craft.{Craft}
use Rattle.fpl_text.specs.declared.craft.Wake.{Wake}
use Rattle.fpl_text.specs.Craft.{craft_number, is_craft_kind, wake_of, craft_of}
use Rattle.fpl_text.specs.declared.fields.Title.TheVariants.{Fpl, Dla, Chg, Cnl, Dep}
use Rattle.fpl_text.specs.declared.heading.Heading.{Heading}
use Rattle.fpl_text.specs.Fields.{title_of}
use Rattle.fpl_text.specs.Headings.{sender_len, receiver_len, number_len, is_number, number_in, heading_with, heading_of}
use Rattle.fpl_text.specs.Bytes.{is_letter, is_digit, is_letter_or_digit}
use Rattle.fpl_text.specs.Places.{is_octal, octal_number, transponder_of, ident_of}
use Rattle.fpl_text.specs.FieldParts.{SpellsCode, IsIdent, SpellsCount, IsCraft, IsMessageNumber, SpellsNumber, title_text, IsHeading}

-- a run at the beginning: its bytes, and its end
pub run-all : (p : ℕ → Bool) (xs : List ℕ) → list_all p (take (prefix_len p xs) xs) ≡ true
run-all p [] = refl
run-all p (x ∷ xs) = cases (run-all p xs) (p x) refl where
  cases : list_all p (take (prefix_len p xs) xs) ≡ true → (b : Bool) → p x ≡ b → list_all p (take (cond b (1 + prefix_len p xs) 0) (x ∷ xs)) ≡ true
  cases again true e =
      let one : 1 + prefix_len p xs ≡ suc (prefix_len p xs) = omega arith in
      rw one (and_from (p x) (list_all p (take (prefix_len p xs) xs)) e again)
  cases again false e = refl

-- the first byte isn't of the run
abbrev pub Stops : (ℕ → Bool) → List ℕ → Type 0
Stops p [] = Unit {0}
Stops p (x ∷ xs) = p x ≡ false

pub run-length : (p : ℕ → Bool) (xs ys : List ℕ) → list_all p xs ≡ true → Stops p ys → prefix_len p (xs ++ ys) ≡ length xs
run-length p [] [] h s = refl
run-length p [] (y ∷ ys) h s = cond-false (p y) (1 + prefix_len p ys) 0 s
run-length p (x ∷ xs) ys h s =
    let parts = and_parts (p x) (list_all p xs) h in
    cond-true (p x) (1 + prefix_len p (xs ++ ys)) 0 parts.0 ∙ omega (arith, run-length p xs ys parts.1 s)

run-within : (p : ℕ → Bool) (xs : List ℕ) → length (take (prefix_len p xs) xs) ≡ prefix_len p xs
run-within p [] = refl
run-within p (x ∷ xs) = cases (run-within p xs) (p x) where
  cases : length (take (prefix_len p xs) xs) ≡ prefix_len p xs → (b : Bool) → length (take (cond b (1 + prefix_len p xs) 0) (x ∷ xs)) ≡ cond b (1 + prefix_len p xs) 0
  cases again true =
      let one : 1 + prefix_len p xs ≡ suc (prefix_len p xs) = omega arith in
      rw one (ap suc again)
  cases again false = refl

none-is : (xs : List ℕ) → length xs ≡ 0 → xs ≡ []
none-is [] h = refl
none-is (x ∷ xs) h = absurd (omega arith)

-- what a test that passed gave
cond-some : {X : Type 0} (b : Bool) (o : Option X) (x : X) → cond b o None ≡ Some x → (b ≡ true) × (o ≡ Some x)
cond-some true o x h = (refl, h)
cond-some false o x h = absurd (cc)

-- ---- field 7

stroke-no_letter_or_digit : is_letter_or_digit 47 ≡ false
unfolding is_letter is_digit
stroke-no_letter_or_digit = refl

code-stops : (code : Option ℕ) (rest : List ℕ) → SpellsCode code rest → Stops is_letter_or_digit rest
code-stops None rest s = subst (Stops is_letter_or_digit) (sym s) tt
code-stops (Some n) rest s = subst (Stops is_letter_or_digit) (sym s.1) stroke-no_letter_or_digit

first-two : (text : List ℕ) (a b : ℕ) → get_or text 0 0 ≡ a → get_or text 1 0 ≡ b → 2 ≤ length text → text ≡ a ∷ b ∷ drop 2 text
first-two [] a b h k l = absurd (omega arith)
first-two (x ∷ []) a b h k l = absurd (omega arith)
first-two (x ∷ y ∷ xs) a b h k l = ap (λ v. v ∷ y ∷ xs) h ∙ ap (λ v. a ∷ v ∷ xs) k

code-found : (text : List ℕ) (code : Option ℕ) → transponder_of text ≡ Some code → SpellsCode code text
unfolding transponder_of
code-found text code h = none (eqb (length text) 0) refl h where
  form : Bool
  form = eqb (length text) 6 && eqb (get_or text 0 0) 47 && eqb (get_or text 1 0) 65 && list_all is_octal (drop 2 text)

  long : (o : Option ℕ) → form ≡ true → Some (octal_number (drop 2 text)) ≡ o → SpellsCode o text
  long None f e = absurd (cc)
  long (Some n) f e =
      let p = and_parts (eqb (length text) 6 && eqb (get_or text 0 0) 47 && eqb (get_or text 1 0) 65) (list_all is_octal (drop 2 text)) f in
      let q = and_parts (eqb (length text) 6 && eqb (get_or text 0 0) 47) (eqb (get_or text 1 0) 65) p.0 in
      let r = and_parts (eqb (length text) 6) (eqb (get_or text 0 0) 47) q.0 in
      let six : length text ≡ 6 = eqb-true (length text) 6 r.0 in
      let is : octal_number (drop 2 text) ≡ n = cc in
      let spelled : text ≡ 47 ∷ 65 ∷ drop 2 text = first-two text 47 65 (eqb-true (get_or text 0 0) 47 r.1) (eqb-true (get_or text 1 0) 65 q.1) (omega arith) in
      (drop 2 text, spelled, omega (arith, six, ap length spelled), p.1, sym is)

  some : cond form (Some (Some (octal_number (drop 2 text)))) None ≡ Some code → SpellsCode code text
  some e =
      let parts = cond-some form (Some (Some (octal_number (drop 2 text)))) code e in
      let is : Some (octal_number (drop 2 text)) ≡ code = cc in
      long code parts.0 is

  none : (b : Bool) → eqb (length text) 0 ≡ b → cond b (Some None) (cond form (Some (Some (octal_number (drop 2 text)))) None) ≡ Some code → SpellsCode code text
  none true z e = let is : None ≡ code = cc in subst (λ o. SpellsCode o text) is (none-is text (eqb-true (length text) 0 z))
  none false z e = some e

code-only : (text : List ℕ) (code : Option ℕ) → SpellsCode code text → transponder_of text ≡ Some code
unfolding transponder_of
code-only text None s = rw s refl
code-only text (Some n) s =
    ap transponder_of s.1 ∙ spelled s.0 s.2 s.3 ∙ ap (λ (v : ℕ). Some (Some v)) (sym s.4) where
      spelled : (digits : List ℕ) → length digits ≡ 4 → list_all is_octal digits ≡ true → transponder_of (47 ∷ 65 ∷ digits) ≡ Some (Some (octal_number digits))
      spelled digits four octal =
          cond-false (eqb (length (47 ∷ 65 ∷ digits)) 0) _ _ (ne_eqb (length (47 ∷ 65 ∷ digits)) 0 (λ q. omega arith))
          ∙ cond-true _ _ _ (and_from (eqb (length (47 ∷ 65 ∷ digits)) 6 && true && true) (list_all is_octal digits) (and_from (eqb (length (47 ∷ 65 ∷ digits)) 6 && true) true (and_from (eqb (length (47 ∷ 65 ∷ digits)) 6) true (eq-eqb (length (47 ∷ 65 ∷ digits)) 6 (omega (arith, four))) refl) refl) octal)

-- the identification that a field is
ident-found : (text : List ℕ) (ident : Ident) → ident_of text ≡ Some ident → IsIdent text ident
unfolding ident_of
ident-found text ident h = coded (transponder_of (drop n text)) refl parts.1 where
  n : ℕ
  n = prefix_len is_letter_or_digit text

  parts : (leb 1 n && leb n 7 ≡ true) × (option_map (λ code. let i : Ident = record { name = take n text; code = code } in i) (transponder_of (drop n text)) ≡ Some ident)
  parts = cond-some (leb 1 n && leb n 7) (option_map (λ code. let i : Ident = record { name = take n text; code = code } in i) (transponder_of (drop n text))) ident h

  size : (1 ≤ n) × (n ≤ 7)
  size = let p = and_parts (leb 1 n) (leb n 7) parts.0 in (leb-true 1 n p.0, leb-true n 7 p.1)

  coded : (o : Option (Option ℕ)) → transponder_of (drop n text) ≡ o → option_map (λ code. let i : Ident = record { name = take n text; code = code } in i) o ≡ Some ident → IsIdent text ident
  coded None e m = absurd (cc)
  coded (Some code) e m =
      let i : Ident = record { name = take n text; code = code } in
      let is : i ≡ ident = cc in
      subst (IsIdent text) is
      (record {
        code_text = drop n text;
        name = run-all is_letter_or_digit text;
        some = omega (arith, size, run-within is_letter_or_digit text);
        most = omega (arith, size, run-within is_letter_or_digit text);
        code = code-found (drop n text) code e;
        spelled = sym (take-append-drop n text);
      })

ident-only : (text : List ℕ) (ident : Ident) → IsIdent text ident → ident_of text ≡ Some ident
unfolding ident_of
ident-only text ident i =
    let long : prefix_len is_letter_or_digit text ≡ length ident.name = ap (prefix_len is_letter_or_digit) i.spelled ∙ run-length is_letter_or_digit ident.name i.code_text i.name (code-stops ident.code i.code_text i.code) in
    let name : take (length ident.name) text ≡ ident.name = ap (take (length ident.name)) i.spelled ∙ take-append_seam ident.name i.code_text in
    let rest : drop (length ident.name) text ≡ i.code_text = ap (drop (length ident.name)) i.spelled ∙ drop-append_seam ident.name i.code_text in
    let code : transponder_of i.code_text ≡ Some ident.code = code-only i.code_text ident.code i.code in
    rw (long, name, rest, code, and_from (leb 1 (length ident.name)) (leb (length ident.name) 7) (le-leb 1 (length ident.name) i.some) (le-leb (length ident.name) 7 i.most)) refl

pub ident_is : (text : List ℕ) (ident : Ident) → (ident_of text ≡ Some ident) ↔ IsIdent text ident
ident_is text ident = (ident-found text ident, ident-only text ident)

-- ---- field 9

-- the last two bytes
tail-two : (xs : List ℕ) (m : ℕ) → m + 2 ≡ length xs → xs ≡ take m xs ++ (get_or xs m 0 ∷ get_or xs (m + 1) 0 ∷ [])
tail-two [] m h = absurd (omega arith)
tail-two (x ∷ []) m h = absurd (omega arith)
tail-two (x ∷ y ∷ []) zero h = refl
tail-two (x ∷ y ∷ z ∷ xs) zero h = absurd (omega arith)
tail-two (x ∷ xs) (suc m) h =
    let next : suc m + 1 ≡ suc (m + 1) = omega arith in
    rw next (ap (λ s. x ∷ s) (tail-two xs m (omega arith)))

one-found : (text : List ℕ) (number : Option ℕ) → 1 ≤ length text → list_all is_digit (take 1 text) ≡ true → Some (Some (get_or text 0 0 - 48)) ≡ Some number → SpellsCount number (take 1 text)
one-found [] number l h e = absurd (omega arith)
one-found (x ∷ xs) None l h e = absurd (cc)
one-found (x ∷ xs) (Some n) l h e =
    let is : x - 48 ≡ n = cc in ((and_parts (is_digit x) true h).0, sym is)

two-found : (text : List ℕ) (number : Option ℕ) → 2 ≤ length text → list_all is_digit (take 2 text) ≡ true → Some (Some (10 * (get_or text 0 0 - 48) + (get_or text 1 0 - 48))) ≡ Some number → SpellsCount number (take 2 text)
two-found [] number l h e = absurd (omega arith)
two-found (x ∷ []) number l h e = absurd (omega arith)
two-found (x ∷ y ∷ xs) None l h e = absurd (cc)
two-found (x ∷ y ∷ xs) (Some n) l h e =
    let is : 10 * (x - 48) + (y - 48) ≡ n = cc in
    let parts = and_parts (is_digit x) (is_digit y && true) h in
    (parts.0, (and_parts (is_digit y) true parts.1).0, sym is)

number-found : (n : ℕ) (text : List ℕ) (number : Option ℕ) → n ≤ length text → list_all is_digit (take n text) ≡ true → craft_number n text ≡ Some number → SpellsCount number (take n text)
unfolding craft_number
number-found n text number l h e = none (eqb n 0) refl e where
  two : (b : Bool) → eqb n 2 ≡ b → cond b (Some (Some (10 * (get_or text 0 0 - 48) + (get_or text 1 0 - 48)))) None ≡ Some number → SpellsCount number (take n text)
  two true q f =
      let is : 2 ≡ n = sym (eqb-true n 2 q) in
      subst (λ m. SpellsCount number (take m text)) is (two-found text number (omega arith) (subst (λ m. list_all is_digit (take m text) ≡ true) (sym is) h) f)
  two false q f = absurd (cc)

  one : (b : Bool) → eqb n 1 ≡ b → cond b (Some (Some (get_or text 0 0 - 48))) (cond (eqb n 2) (Some (Some (10 * (get_or text 0 0 - 48) + (get_or text 1 0 - 48)))) None) ≡ Some number → SpellsCount number (take n text)
  one true q f =
      let is : 1 ≡ n = sym (eqb-true n 1 q) in
      subst (λ m. SpellsCount number (take m text)) is (one-found text number (omega arith) (subst (λ m. list_all is_digit (take m text) ≡ true) (sym is) h) f)
  one false q f = two (eqb n 2) refl f

  none : (b : Bool) → eqb n 0 ≡ b → cond b (Some None) (cond (eqb n 1) (Some (Some (get_or text 0 0 - 48))) (cond (eqb n 2) (Some (Some (10 * (get_or text 0 0 - 48) + (get_or text 1 0 - 48)))) None)) ≡ Some number → SpellsCount number (take n text)
  none true q f =
      let is : None ≡ number = cc in
      let zero_is : 0 ≡ n = sym (eqb-true n 0 q) in
      subst (λ o. SpellsCount o (take n text)) is (subst (λ m. take m text ≡ []) zero_is refl)
  none false q f = one (eqb n 1) refl f

number-only : (digits rest : List ℕ) (number : Option ℕ) → SpellsCount number digits → craft_number (length digits) (digits ++ rest) ≡ Some number
unfolding craft_number
number-only [] rest None s = refl
number-only (a ∷ digits) rest None s = absurd (cc)
number-only [] rest (Some n) s = absurd s
number-only (a ∷ []) rest (Some n) s = ap (λ (v : ℕ). Some (Some v)) (sym s.1)
number-only (a ∷ b ∷ []) rest (Some n) s = ap (λ (v : ℕ). Some (Some v)) (sym s.2)
number-only (a ∷ b ∷ c ∷ digits) rest (Some n) s = absurd s

count-digits : (digits : List ℕ) (number : Option ℕ) → SpellsCount number digits → list_all is_digit digits ≡ true
count-digits digits None s = rw s refl
count-digits [] (Some n) s = absurd s
count-digits (a ∷ []) (Some n) s = and_from (is_digit a) true s.0 refl
count-digits (a ∷ b ∷ []) (Some n) s = and_from (is_digit a) (is_digit b && true) s.0 (and_from (is_digit b) true s.1 refl)
count-digits (a ∷ b ∷ c ∷ digits) (Some n) s = absurd s

letter-no_digit : (b : ℕ) → is_letter b ≡ true → is_digit b ≡ false
unfolding is_letter is_digit
letter-no_digit b h = grind (arith, nat_tests)

kind-parts : (kind : List ℕ) → is_craft_kind kind ≡ true → (2 ≤ length kind) × (is_letter (get_or kind 0 0) ≡ true)
unfolding is_craft_kind
kind-parts kind h =
    let p = and_parts (leb 2 (length kind) && leb (length kind) 4 && is_letter (get_or kind 0 0)) (list_all is_letter_or_digit kind) h in
    let q = and_parts (leb 2 (length kind) && leb (length kind) 4) (is_letter (get_or kind 0 0)) p.0 in
    let r = and_parts (leb 2 (length kind)) (leb (length kind) 4) q.0 in
    (leb-true 2 (length kind) r.0, q.1)

kind-stops : (kind rest : List ℕ) → is_craft_kind kind ≡ true → Stops is_digit (kind ++ rest)
kind-stops [] rest h = absurd (let p = (kind-parts [] h).0 in omega arith)
kind-stops (b ∷ kind) rest h = letter-no_digit b (kind-parts (b ∷ kind) h).1

craft-found : (text : List ℕ) (craft : Craft) → craft_of text ≡ Some craft → IsCraft text craft
unfolding craft_of
craft-found text craft h = numbered (craft_number n text) refl parts.1 where
  n : ℕ
  n = prefix_len is_digit text

  last : ℕ
  last = length text - 1

  kind : List ℕ
  kind = take (last - 1 - n) (drop n text)

  made : Option ℕ → Option Craft
  made number = option_map (λ wake. let c : Craft = record { number = number; kind = kind; wake = wake } in c) (wake_of (get_or text last 0))

  form : Bool
  form = leb (n + 4) (length text) && eqb (get_or text (last - 1) 0) 47 && is_craft_kind kind

  parts : (form ≡ true) × (option_and_then made (craft_number n text) ≡ Some craft)
  parts = cond-some form (option_and_then made (craft_number n text)) craft h

  forms : (n + 4 ≤ length text) × (get_or text (last - 1) 0 ≡ 47) × (is_craft_kind kind ≡ true)
  forms =
      let p = and_parts (leb (n + 4) (length text) && eqb (get_or text (last - 1) 0) 47) (is_craft_kind kind) parts.0 in
      let q = and_parts (leb (n + 4) (length text)) (eqb (get_or text (last - 1) 0) 47) p.0 in
      (leb-true (n + 4) (length text) q.0, eqb-true (get_or text (last - 1) 0) 47 q.1, p.1)

  m : ℕ
  m = last - 1 - n

  spelled : text ≡ take n text ++ (kind ++ (47 ∷ get_or text last 0 ∷ []))
  spelled =
      let long : m + 2 ≡ length (drop n text) = omega (arith, length-drop n text, forms) in
      let there : n + m ≡ last - 1 = omega (arith, forms) in
      let behind : n + (m + 1) ≡ last = omega (arith, forms) in
      let stroke : get_or (drop n text) m 0 ≡ 47 = get_or-drop n text m 0 ∙ ap (λ i. get_or text i 0) there ∙ forms.1 in
      let letter : get_or (drop n text) (m + 1) 0 ≡ get_or text last 0 = get_or-drop n text (m + 1) 0 ∙ ap (λ i. get_or text i 0) behind in
      sym (take-append-drop n text)
      ∙ ap (λ s. take n text ++ s) (tail-two (drop n text) m long ∙ ap (λ b. kind ++ (b ∷ get_or (drop n text) (m + 1) 0 ∷ [])) stroke ∙ ap (λ b. kind ++ (47 ∷ b ∷ [])) letter)

  waked : (number : Option ℕ) (o : Option Wake) → craft_number n text ≡ Some number → wake_of (get_or text last 0) ≡ o → option_map (λ wake. let c : Craft = record { number = number; kind = kind; wake = wake } in c) o ≡ Some craft → IsCraft text craft
  waked number None e w f = absurd (cc)
  waked number (Some wake) e w f =
      let c : Craft = record { number = number; kind = kind; wake = wake } in
      let is : c ≡ craft = cc in
      subst (IsCraft text) is
      (record {
        digits = take n text;
        letter = get_or text last 0;
        number = number-found n text number (omega (arith, forms)) (run-all is_digit text) e;
        kind = forms.2;
        wake = w;
        spelled = spelled;
      })

  numbered : (o : Option (Option ℕ)) → craft_number n text ≡ o → option_and_then made o ≡ Some craft → IsCraft text craft
  numbered None e f = absurd (cc)
  numbered (Some number) e f = waked number (wake_of (get_or text last 0)) e refl f

craft-only : (text : List ℕ) (craft : Craft) → IsCraft text craft → craft_of text ≡ Some craft
unfolding craft_of
craft-only text craft i =
    let d = length i.digits in
    let k = length craft.kind in
    let tail : List ℕ = 47 ∷ i.letter ∷ [] in
    let long : prefix_len is_digit text ≡ d = ap (prefix_len is_digit) i.spelled ∙ run-length is_digit i.digits (craft.kind ++ tail) (count-digits i.digits craft.number i.number) (kind-stops craft.kind tail i.kind) in
    let size : length text ≡ d + k + 2 = omega (arith, ap length i.spelled, length-append i.digits (craft.kind ++ tail), length-append craft.kind tail) in
    let last : length text - 1 ≡ d + k + 1 = omega (arith, size) in
    let before : length text - 1 - 1 ≡ d + k = omega (arith, size) in
    let middle : length text - 1 - 1 - d ≡ k = omega (arith, size) in
    let stroke : get_or text (d + k) 0 ≡ 47 = ap (λ s. get_or s (d + k) 0) i.spelled ∙ get_or-append-add i.digits (craft.kind ++ tail) k 0 ∙ get_or-append_seam craft.kind 47 (i.letter ∷ []) 0 in
    let ends : d + k + 1 ≡ d + (k + 1) = omega arith in
    let letter : get_or text (d + k + 1) 0 ≡ i.letter =
    ap (λ (n : ℕ). get_or text n 0) ends ∙ ap (λ s. get_or s (d + (k + 1)) 0) i.spelled ∙ get_or-append-add i.digits (craft.kind ++ tail) (k + 1) 0 ∙ get_or-append-add craft.kind tail 1 0 in
    let rest : drop d text ≡ craft.kind ++ tail = ap (drop d) i.spelled ∙ drop-append_seam i.digits (craft.kind ++ tail) in
    let kind : take (length text - 1 - 1 - d) (drop d text) ≡ craft.kind = ap (λ n. take n (drop d text)) middle ∙ ap (take k) rest ∙ take-append_seam craft.kind tail in
    let number : craft_number d text ≡ Some craft.number = ap (craft_number d) i.spelled ∙ number-only i.digits (craft.kind ++ tail) craft.number i.number in
    let at_stroke : get_or text (length text - 1 - 1) 0 ≡ 47 = ap (λ n. get_or text n 0) before ∙ stroke in
    let at_letter : get_or text (length text - 1) 0 ≡ i.letter = ap (λ n. get_or text n 0) last ∙ letter in
    let fits : leb (d + 4) (length text) ≡ true = le-leb (d + 4) (length text) (omega (arith, size, (kind-parts craft.kind i.kind).0)) in
    rw (long, at_stroke, at_letter, kind, number, i.wake, fits, i.kind) refl

pub craft_is : (text : List ℕ) (craft : Craft) → (craft_of text ≡ Some craft) ↔ IsCraft text craft
craft_is text craft = (craft-found text craft, craft-only text craft)

-- ---- field 3

stroke-no_letter : is_letter 47 ≡ false
unfolding is_letter
stroke-no_letter = refl

digit-no_letter : (b : ℕ) → is_digit b ≡ true → is_letter b ≡ false
unfolding is_letter is_digit
digit-no_letter b h = grind (arith, nat_tests)

digits-stop : (digits rest : List ℕ) → length digits ≡ 3 → list_all is_digit digits ≡ true → Stops is_letter (digits ++ rest)
digits-stop [] rest l h = absurd (omega arith)
digits-stop (b ∷ digits) rest l h = digit-no_letter b (and_parts (is_digit b) (list_all is_digit digits) h).0

message_number-found : (text : List ℕ) → is_number text ≡ true → IsMessageNumber text
unfolding is_number
message_number-found text h = record {
  sender = take s text;
  receiver = take r (drop (s + 1) text);
  digits = drop (s + 1 + r) text;
  sender_letters = run-all is_letter text;
  receiver_letters = run-all is_letter (drop (s + 1) text);
  digits_are = parts.4;
  sender_some = omega (arith, parts.0, run-within is_letter text);
  sender_most = omega (arith, parts.0, run-within is_letter text);
  receiver_some = omega (arith, parts.1, run-within is_letter (drop (s + 1) text));
  receiver_most = omega (arith, parts.1, run-within is_letter (drop (s + 1) text));
  three = omega (arith, parts.2, length-drop (s + 1 + r) text);
  spelled = spelled;
} where
  s : ℕ
  s = sender_len text

  r : ℕ
  r = receiver_len text

  parts : ((1 ≤ s) × (s ≤ 4)) × ((1 ≤ r) × (r ≤ 4)) × (length text ≡ s + r + 4) × (get_or text s 0 ≡ 47) × (list_all is_digit (drop (s + 1 + r) text) ≡ true)
  parts =
      let a = and_parts (leb 1 s && leb s 4 && leb 1 r && leb r 4 && eqb (length text) (s + r + 4) && eqb (get_or text s 0) 47) (list_all is_digit (drop (s + 1 + r) text)) h in
      let b = and_parts (leb 1 s && leb s 4 && leb 1 r && leb r 4 && eqb (length text) (s + r + 4)) (eqb (get_or text s 0) 47) a.0 in
      let c = and_parts (leb 1 s && leb s 4 && leb 1 r && leb r 4) (eqb (length text) (s + r + 4)) b.0 in
      let d = and_parts (leb 1 s && leb s 4 && leb 1 r) (leb r 4) c.0 in
      let e = and_parts (leb 1 s && leb s 4) (leb 1 r) d.0 in
      let f = and_parts (leb 1 s) (leb s 4) e.0 in
      ((leb-true 1 s f.0, leb-true s 4 f.1), (leb-true 1 r e.1, leb-true r 4 d.1), eqb-true (length text) (s + r + 4) c.1, eqb-true (get_or text s 0) 47 b.1, a.1)

  spelled : text ≡ take s text ++ (47 ∷ (take r (drop (s + 1) text) ++ drop (s + 1 + r) text))
  spelled =
      let within : s < length text = omega (arith, parts.2) in
      let next : suc s ≡ s + 1 = omega arith in
      let stroke : drop s text ≡ 47 ∷ drop (s + 1) text = drop-cons text s 0 within ∙ ap (λ b. b ∷ drop (suc s) text) parts.3 ∙ ap (λ n. 47 ∷ drop n text) next in
      let behind : drop r (drop (s + 1) text) ≡ drop (s + 1 + r) text = drop-drop r (s + 1) text in
      sym (take-append-drop s text)
      ∙ ap (λ t. take s text ++ t) (stroke ∙ ap (λ t. 47 ∷ t) (sym (take-append-drop r (drop (s + 1) text)) ∙ ap (λ t. take r (drop (s + 1) text) ++ t) behind))

record Lens (text : List ℕ) (n : IsMessageNumber text) (rest : List ℕ) : Type 0 where
  whole : text ++ rest ≡ n.sender ++ (47 ∷ (n.receiver ++ (n.digits ++ rest)))
  sender : sender_len (text ++ rest) ≡ length n.sender
  behind : drop (length n.sender + 1) (text ++ rest) ≡ n.receiver ++ (n.digits ++ rest)
  receiver : receiver_len (text ++ rest) ≡ length n.receiver

lens : (text rest : List ℕ) (n : IsMessageNumber text) → Lens text n rest
lens text rest n =
    let whole : text ++ rest ≡ n.sender ++ (47 ∷ (n.receiver ++ (n.digits ++ rest))) =
    ap (λ t. t ++ rest) n.spelled ∙ append_assoc n.sender (47 ∷ (n.receiver ++ n.digits)) rest ∙ ap (λ t. n.sender ++ (47 ∷ t)) (append_assoc n.receiver n.digits rest) in
    let sender : sender_len (text ++ rest) ≡ length n.sender =
    ap (prefix_len is_letter) whole ∙ run-length is_letter n.sender (47 ∷ (n.receiver ++ (n.digits ++ rest))) n.sender_letters stroke-no_letter in
    let behind : drop (length n.sender + 1) (text ++ rest) ≡ n.receiver ++ (n.digits ++ rest) =
    ap (drop (length n.sender + 1)) whole ∙ drop-append-add n.sender (47 ∷ (n.receiver ++ (n.digits ++ rest))) 1 in
    record {
      whole = whole;
      sender = sender;
      behind = behind;
      receiver = ap (λ i. prefix_len is_letter (drop (i + 1) (text ++ rest))) sender ∙ ap (prefix_len is_letter) behind ∙ run-length is_letter n.receiver (n.digits ++ rest) n.receiver_letters (digits-stop n.digits rest n.three n.digits_are);
    }

number-long : (text : List ℕ) (n : IsMessageNumber text) → length text ≡ length n.sender + length n.receiver + 4
number-long text n =
    omega (arith, ap length n.spelled, length-append n.sender (47 ∷ (n.receiver ++ n.digits)), length-append n.receiver n.digits, n.three)

message_number-only : (text : List ℕ) → IsMessageNumber text → is_number text ≡ true
unfolding is_number
message_number-only text n =
    let whole : text ++ [] ≡ text = append-nil text in
    let l = lens text [] n in
    let a = length n.sender in
    let b = length n.receiver in
    let sender : sender_len text ≡ a = ap sender_len (sym whole) ∙ l.sender in
    let receiver : receiver_len text ≡ b = ap receiver_len (sym whole) ∙ l.receiver in
    let stroke : get_or text a 0 ≡ 47 = ap (λ t. get_or t a 0) n.spelled ∙ get_or-append_seam n.sender 47 (n.receiver ++ n.digits) 0 in
    let behind : drop (a + 1 + b) text ≡ n.digits =
    sym (drop-drop b (a + 1) text) ∙ ap (drop b) (ap (drop (a + 1)) (sym whole) ∙ l.behind) ∙ drop-append_seam n.receiver (n.digits ++ []) ∙ append-nil n.digits in
    let digits : list_all is_digit (drop (a + 1 + b) text) ≡ true = ap (list_all is_digit) behind ∙ n.digits_are in
    let size : eqb (length text) (a + b + 4) ≡ true = eq-eqb (length text) (a + b + 4) (number-long text n) in
    let stroke_is : eqb (get_or text a 0) 47 ≡ true = eq-eqb (get_or text a 0) 47 stroke in
    let sender_some : leb 1 a ≡ true = le-leb 1 a n.sender_some in
    let sender_most : leb a 4 ≡ true = le-leb a 4 n.sender_most in
    let receiver_some : leb 1 b ≡ true = le-leb 1 b n.receiver_some in
    let receiver_most : leb b 4 ≡ true = le-leb b 4 n.receiver_most in
    tested a b text (sender_len text) (receiver_len text) sender receiver
    (and_from (leb 1 a && leb a 4 && leb 1 b && leb b 4 && eqb (length text) (a + b + 4) && eqb (get_or text a 0) 47) (list_all is_digit (drop (a + 1 + b) text))
    (and_from (leb 1 a && leb a 4 && leb 1 b && leb b 4 && eqb (length text) (a + b + 4)) (eqb (get_or text a 0) 47)
    (and_from (leb 1 a && leb a 4 && leb 1 b && leb b 4) (eqb (length text) (a + b + 4))
    (and_from (leb 1 a && leb a 4 && leb 1 b) (leb b 4) (and_from (leb 1 a && leb a 4) (leb 1 b) (and_from (leb 1 a) (leb a 4) sender_some sender_most) receiver_some) receiver_most) size) stroke_is) digits) where
      tested : (a b : ℕ) (text : List ℕ) (s r : ℕ) → s ≡ a → r ≡ b
          → leb 1 a && leb a 4 && leb 1 b && leb b 4 && eqb (length text) (a + b + 4) && eqb (get_or text a 0) 47 && list_all is_digit (drop (a + 1 + b) text) ≡ true
          → leb 1 s && leb s 4 && leb 1 r && leb r 4 && eqb (length text) (s + r + 4) && eqb (get_or text s 0) 47 && list_all is_digit (drop (s + 1 + r) text) ≡ true
      tested a b text s r e f h = rw (e, f) h

pub message_number_is : (text : List ℕ) → (is_number text ≡ true) ↔ IsMessageNumber text
message_number_is text = (message_number-found text, message_number-only text)

-- nothing, or a number
number_in-found : (text : List ℕ) (o : Option (List ℕ)) → number_in text ≡ Some o → SpellsNumber o text
unfolding number_in
number_in-found text o h = none (eqb (length text) 0) refl h where
  one : (b : Bool) → is_number text ≡ b → cond b (Some (Some text)) None ≡ Some o → SpellsNumber o text
  one true q e =
      let is : Some text ≡ o = cc in
      subst (λ v. SpellsNumber v text) is (refl, message_number-found text q)
  one false q e = absurd (cc)

  none : (b : Bool) → eqb (length text) 0 ≡ b → cond b (Some None) (cond (is_number text) (Some (Some text)) None) ≡ Some o → SpellsNumber o text
  none true z e = let is : None ≡ o = cc in subst (λ v. SpellsNumber v text) is (none-is text (eqb-true (length text) 0 z))
  none false z e = one (is_number text) refl e

number_in-only : (text : List ℕ) (o : Option (List ℕ)) → SpellsNumber o text → number_in text ≡ Some o
unfolding number_in
number_in-only text None s = rw s refl
number_in-only text (Some number) s =
    let size = number-long number s.1 in
    let long : length number ≡ 0 → ⊥ = λ z. omega (arith, size, z) in
    ap number_in s.0
    ∙ cond-false (eqb (length number) 0) (Some None) (cond (is_number number) (Some (Some number)) None) (ne_eqb (length number) 0 long)
    ∙ cond-true (is_number number) (Some (Some number)) None (message_number-only number s.1)

-- the title at the beginning
begins : (needle text : List ℕ) → starts_with eqb text needle ≡ true → text ≡ needle ++ drop (length needle) text
begins [] text h = refl
begins (x ∷ needle) [] h = absurd (cc)
begins (x ∷ needle) (b ∷ text) h =
    let parts = and_parts (eqb x b) (starts_with eqb text needle) h in
    ap (λ c. c ∷ text) (sym (eqb-true x b parts.0)) ∙ ap (λ t. x ∷ t) (begins needle text parts.1)

title-found : (text : List ℕ) (title : Title) → title_of text ≡ Some title → text ≡ title_text title ++ drop 3 text
unfolding title_of
title-found text title h = fpl (starts_with eqb text (codes "FPL")) refl h where
  named : (t : Title) → starts_with eqb text (title_text t) ≡ true → length (title_text t) ≡ 3 → t ≡ title → text ≡ title_text title ++ drop 3 text
  named t b l is =
      subst (λ v. text ≡ title_text v ++ drop 3 text) is (subst (λ n. text ≡ title_text t ++ drop n text) l (begins (title_text t) text b))

  dep : (b : Bool) → starts_with eqb text (codes "DEP") ≡ b → cond b (Some Dep) None ≡ Some title → text ≡ title_text title ++ drop 3 text
  dep true q e = named Dep q refl (let is : Dep ≡ title = cc in is)
  dep false q e = absurd (cc)

  cnl : (b : Bool) → starts_with eqb text (codes "CNL") ≡ b → cond b (Some Cnl) (cond (starts_with eqb text (codes "DEP")) (Some Dep) None) ≡ Some title → text ≡ title_text title ++ drop 3 text
  cnl true q e = named Cnl q refl (let is : Cnl ≡ title = cc in is)
  cnl false q e = dep (starts_with eqb text (codes "DEP")) refl e

  chg : (b : Bool) → starts_with eqb text (codes "CHG") ≡ b → cond b (Some Chg) (cond (starts_with eqb text (codes "CNL")) (Some Cnl) (cond (starts_with eqb text (codes "DEP")) (Some Dep) None)) ≡ Some title → text ≡ title_text title ++ drop 3 text
  chg true q e = named Chg q refl (let is : Chg ≡ title = cc in is)
  chg false q e = cnl (starts_with eqb text (codes "CNL")) refl e

  dla : (b : Bool) → starts_with eqb text (codes "DLA") ≡ b → cond b (Some Dla) (cond (starts_with eqb text (codes "CHG")) (Some Chg) (cond (starts_with eqb text (codes "CNL")) (Some Cnl) (cond (starts_with eqb text (codes "DEP")) (Some Dep) None))) ≡ Some title → text ≡ title_text title ++ drop 3 text
  dla true q e = named Dla q refl (let is : Dla ≡ title = cc in is)
  dla false q e = chg (starts_with eqb text (codes "CHG")) refl e

  fpl : (b : Bool) → starts_with eqb text (codes "FPL") ≡ b → cond b (Some Fpl) (cond (starts_with eqb text (codes "DLA")) (Some Dla) (cond (starts_with eqb text (codes "CHG")) (Some Chg) (cond (starts_with eqb text (codes "CNL")) (Some Cnl) (cond (starts_with eqb text (codes "DEP")) (Some Dep) None)))) ≡ Some title → text ≡ title_text title ++ drop 3 text
  fpl true q e = named Fpl q refl (let is : Fpl ≡ title = cc in is)
  fpl false q e = dla (starts_with eqb text (codes "DLA")) refl e

title-only : (title : Title) (rest : List ℕ) → title_of (title_text title ++ rest) ≡ Some title
unfolding title_of
title-only Fpl rest = refl
title-only Dla rest = refl
title-only Chg rest = refl
title-only Cnl rest = refl
title-only Dep rest = refl

title-rest : (title : Title) (rest : List ℕ) → drop 3 (title_text title ++ rest) ≡ rest
title-rest Fpl rest = refl
title-rest Dla rest = refl
title-rest Chg rest = refl
title-rest Cnl rest = refl
title-rest Dep rest = refl

-- the numbers after it
record Numbers (text : List ℕ) (title : Title) (heading : Heading) : Type 0 where
  title_is : heading.title ≡ title
  number_text : List ℕ
  reference_text : List ℕ
  number : SpellsNumber heading.number number_text
  reference : SpellsNumber heading.reference reference_text
  behind : heading.number ≡ None → heading.reference ≡ None
  spelled : text ≡ number_text ++ reference_text

nothing-behind : (text : List ℕ) (n : ℕ) (o : Option (List ℕ)) → 4 ≤ n → take n text ≡ [] → SpellsNumber o (drop n text) → o ≡ None
nothing-behind [] n None l e s = refl
nothing-behind [] zero (Some number) l e s = absurd (omega arith)
nothing-behind [] (suc n) (Some number) l e s = absurd (let size = number-long number s.1 in let none : length number ≡ 0 = ap length (sym s.0) in omega (arith, size, none))
nothing-behind (b ∷ text) zero o l e s = absurd (omega arith)
nothing-behind (b ∷ text) (suc n) o l e s = absurd (cc)

numbers-found : (title : Title) (text : List ℕ) (heading : Heading) → heading_with title text ≡ Some heading → Numbers text title heading
unfolding heading_with
numbers-found title text heading h = first (number_in (take n text)) refl h where
  n : ℕ
  n = number_len text

  made : Option (List ℕ) → Option (List ℕ) → Heading
  made number reference = record { title = title; number = number; reference = reference }

  second : (number : Option (List ℕ)) (o : Option (Option (List ℕ))) → SpellsNumber number (take n text) → number_in (drop n text) ≡ o → option_map (λ reference. made number reference) o ≡ Some heading → Numbers text title heading
  second number None s e f = absurd (cc)
  second number (Some reference) s e f =
      let is : made number reference ≡ heading = cc in
      let r = number_in-found (drop n text) reference e in
      subst (Numbers text title) is
      (record {
        title_is = refl;
        number_text = take n text;
        reference_text = drop n text;
        number = s;
        reference = r;
        behind = λ q. nothing-behind text n reference (omega arith) (subst (λ v. SpellsNumber v (take n text)) q s) r;
        spelled = sym (take-append-drop n text);
      })

  first : (o : Option (Option (List ℕ))) → number_in (take n text) ≡ o → option_and_then (λ number. option_map (λ reference. made number reference) (number_in (drop n text))) o ≡ Some heading → Numbers text title heading
  first None e f = absurd (cc)
  first (Some number) e f = second number (number_in (drop n text)) (number_in-found (take n text) number e) refl f

heading-found : (text : List ℕ) (heading : Heading) → heading_of text ≡ Some heading → IsHeading text heading
unfolding heading_of
heading-found text heading h = titled (title_of text) refl h where
  titled : (o : Option Title) → title_of text ≡ o → option_and_then (λ title. heading_with title (drop 3 text)) o ≡ Some heading → IsHeading text heading
  titled None e f = absurd (cc)
  titled (Some title) e f =
      let r = numbers-found title (drop 3 text) heading f in
      record {
        number_text = r.number_text;
        reference_text = r.reference_text;
        number = r.number;
        reference = r.reference;
        behind = r.behind;
        spelled = title-found text title e ∙ ap (λ t. title_text t ++ drop 3 text) (sym r.title_is) ∙ ap (λ t. title_text heading.title ++ t) r.spelled;
      }

number_len-is : (number rest : List ℕ) → IsMessageNumber number → number_len (number ++ rest) ≡ length number
number_len-is number rest n =
    let l = lens number rest n in
    omega (arith, l.sender, l.receiver, number-long number n)

numbers-only : (title : Title) (number reference : Option (List ℕ)) (a b : List ℕ) → SpellsNumber number a → SpellsNumber reference b → (number ≡ None → reference ≡ None) → heading_with title (a ++ b) ≡ Some (record { title = title; number = number; reference = reference })
unfolding heading_with
numbers-only title None reference a b s r behind =
    let none : reference ≡ None = behind refl in
    let nothing : b ≡ [] = subst (λ v. SpellsNumber v b) none r in
    rw (s, nothing, none, number_in-only [] None refl) refl
numbers-only title (Some number) reference a b s r behind =
    let long : number_len (a ++ b) ≡ length a = ap (λ t. number_len (t ++ b)) s.0 ∙ number_len-is number b s.1 ∙ ap length (sym s.0) in
    let first : take (number_len (a ++ b)) (a ++ b) ≡ a = ap (λ n. take n (a ++ b)) long ∙ take-append_seam a b in
    let second : drop (number_len (a ++ b)) (a ++ b) ≡ b = ap (λ n. drop n (a ++ b)) long ∙ drop-append_seam a b in
    ap (λ t. option_and_then (λ n. option_map (λ o. let h : Heading = record { title = title; number = n; reference = o } in h) (number_in (drop (number_len (a ++ b)) (a ++ b)))) (number_in t)) first
    ∙ ap (λ t. option_and_then (λ n. option_map (λ o. let h : Heading = record { title = title; number = n; reference = o } in h) (number_in t)) (number_in a)) second
    ∙ ap (λ t. option_and_then (λ n. option_map (λ o. let h : Heading = record { title = title; number = n; reference = o } in h) (number_in b)) t) (number_in-only a (Some number) s)
    ∙ ap (λ t. option_map (λ o. let h : Heading = record { title = title; number = Some number; reference = o } in h) t) (number_in-only b reference r)

heading-only : (text : List ℕ) (heading : Heading) → IsHeading text heading → heading_of text ≡ Some heading
unfolding heading_of
heading-only text heading i =
    let rest = i.number_text ++ i.reference_text in
    let title : title_of text ≡ Some heading.title = ap title_of i.spelled ∙ title-only heading.title rest in
    let behind : drop 3 text ≡ rest = ap (drop 3) i.spelled ∙ title-rest heading.title rest in
    ap (λ o. option_and_then (λ t. heading_with t (drop 3 text)) o) title
    ∙ ap (heading_with heading.title) behind
    ∙ numbers-only heading.title heading.number heading.reference i.number_text i.reference_text i.number i.reference i.behind

pub heading_is : (text : List ℕ) (heading : Heading) → (heading_of text ≡ Some heading) ↔ IsHeading text heading
heading_is text heading = (heading-found text heading, heading-only text heading)
