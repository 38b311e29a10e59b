-- Field 22 has its form if, and only if, it is its parts, one after the other.
use Rattle.std.proofs.Common.{◌≡◌, ℕ, ◌+◌, ◌-◌, ◌*◌, ◌⊎◌, inl, inr, true, false, ◌&&◌, ◌||◌, eqb, List, [], ◌∷◌, ◌++◌, drop, get_or, sym, refl, ap, subst, ◌∙◌}
use Rattle.std.proofs.lemmas.Bool.{and_parts, and_from, or_cases, or_right, eqb-true, eq-eqb, ne_eqb, false≢true, cond-true, cond-false}
use Rattle.fpl_text.specs.Bytes.{is_digit}
use Rattle.fpl_text.specs.Fields.{begins_amendment}
use Rattle.fpl_text.specs.FieldParts.{AreOneOrTwo}
use Rattle.fpl_message.specs.Modifications.{amended_number, amended_text}
use Rattle.fpl_message.specs.AmendmentLaws.{IsAmendment}

stroke-no_digit : is_digit 47 ≡ false
unfolding is_digit
stroke-no_digit = refl

zero-no_digit : is_digit 0 ≡ false
unfolding is_digit
zero-no_digit = refl

digit-no_stroke : (b : ℕ) → is_digit b ≡ true → eqb b 47 ≡ false
digit-no_stroke b h = ne_eqb b 47 (λ q. false≢true (sym stroke-no_digit ∙ ap is_digit (sym q) ∙ h))

one : (a b : ℕ) (rest : List ℕ) → is_digit a ≡ true → b ≡ 47 → IsAmendment (a ∷ b ∷ rest) (amended_number (a ∷ b ∷ rest)) (amended_text (a ∷ b ∷ rest))
unfolding amended_number amended_text
one a b rest h e =
    let stroke : eqb b 47 ≡ true = eq-eqb b 47 e in
    record {
      digits = a ∷ [];
      number_is = (h, cond-true (eqb b 47) (a - 48) _ stroke);
      spelled = ap (λ c. a ∷ c ∷ rest) e ∙ ap (λ t. a ∷ 47 ∷ t) (sym (cond-true (eqb b 47) rest (drop 3 (a ∷ b ∷ rest)) stroke));
    }

two : (a b c : ℕ) (rest : List ℕ) → is_digit a ≡ true → is_digit b ≡ true → c ≡ 47 → IsAmendment (a ∷ b ∷ c ∷ rest) (amended_number (a ∷ b ∷ c ∷ rest)) (amended_text (a ∷ b ∷ c ∷ rest))
unfolding amended_number amended_text
two a b c rest h k e =
    let no : eqb b 47 ≡ false = digit-no_stroke b k in
    record {
      digits = a ∷ b ∷ [];
      number_is = (h, k, cond-false (eqb b 47) (a - 48) (10 * (a - 48) + (b - 48)) no);
      spelled = ap (λ d. a ∷ b ∷ d ∷ rest) e ∙ ap (λ t. a ∷ b ∷ 47 ∷ t) (sym (cond-false (eqb b 47) (c ∷ rest) rest no));
    }

pub amendment-found : (field : List ℕ) → begins_amendment field ≡ true → IsAmendment field (amended_number field) (amended_text field)
unfolding begins_amendment
amendment-found [] h = absurd (false≢true (sym zero-no_digit ∙ (and_parts (is_digit 0) (eqb 0 47 || (is_digit 0 && eqb 0 47)) h).0))
amendment-found (a ∷ []) h =
    absurd (let p = and_parts (is_digit a) (eqb 0 47 || (is_digit 0 && eqb 0 47)) h in false≢true (sym zero-no_digit ∙ (and_parts (is_digit 0) (eqb 0 47) p.1).0))
amendment-found (a ∷ b ∷ rest) h =
    let p = and_parts (is_digit a) (eqb b 47 || (is_digit b && eqb (get_or rest 0 0) 47)) h in
    cases rest p.0 (or_cases (eqb b 47) (is_digit b && eqb (get_or rest 0 0) 47) p.1) where
      cases : (rest : List ℕ) → is_digit a ≡ true → (eqb b 47 ≡ true) ⊎ (is_digit b && eqb (get_or rest 0 0) 47 ≡ true) → IsAmendment (a ∷ b ∷ rest) (amended_number (a ∷ b ∷ rest)) (amended_text (a ∷ b ∷ rest))
      cases rest k (inl q) = one a b rest k (eqb-true b 47 q)
      cases [] k (inr q) = absurd (false≢true (and_parts (is_digit b) (eqb 0 47) q).1)
      cases (c ∷ rest) k (inr q) =
          let r = and_parts (is_digit b) (eqb c 47) q in
          two a b c rest k r.0 (eqb-true c 47 r.1)

record Read (field : List ℕ) (number : ℕ) (text : List ℕ) : Type 0 where
  begins : begins_amendment field ≡ true
  number_is : amended_number field ≡ number
  text_is : amended_text field ≡ text

read-one : (a : ℕ) (text : List ℕ) → is_digit a ≡ true → Read (a ∷ 47 ∷ text) (a - 48) text
unfolding begins_amendment amended_number amended_text
read-one a text h = record {
  begins = and_from (is_digit a) true h refl;
  number_is = refl;
  text_is = refl;
}

read-two : (a b : ℕ) (text : List ℕ) → is_digit a ≡ true → is_digit b ≡ true → Read (a ∷ b ∷ 47 ∷ text) (10 * (a - 48) + (b - 48)) text
unfolding begins_amendment amended_number amended_text
read-two a b text h k =
    let no : eqb b 47 ≡ false = digit-no_stroke b k in
    record {
      begins = and_from (is_digit a) (eqb b 47 || (is_digit b && true)) h (or_right (eqb b 47) (is_digit b && true) (and_from (is_digit b) true k refl));
      number_is = cond-false (eqb b 47) (a - 48) (10 * (a - 48) + (b - 48)) no;
      text_is = cond-false (eqb b 47) (47 ∷ text) text no;
    }

read : (digits : List ℕ) (number : ℕ) (text : List ℕ) → AreOneOrTwo digits number → Read (digits ++ (47 ∷ text)) number text
read [] number text d = absurd d
read (a ∷ []) number text d = subst (λ n. Read (a ∷ 47 ∷ text) n text) (sym d.1) (read-one a text d.0)
read (a ∷ b ∷ []) number text d = subst (λ n. Read (a ∷ b ∷ 47 ∷ text) n text) (sym d.2) (read-two a b text d.0 d.1)
read (a ∷ b ∷ c ∷ digits) number text d = absurd d

again : (field : List ℕ) (number : ℕ) (text : List ℕ) → IsAmendment field number text → Read field number text
again field number text i = subst (λ f. Read f number text) (sym i.spelled) (read i.digits number text i.number_is)

pub amendment-only : (field : List ℕ) (number : ℕ) (text : List ℕ) → IsAmendment field number text → (begins_amendment field ≡ true) × (amended_number field ≡ number) × (amended_text field ≡ text)
amendment-only field number text i = let r = again field number text i in (r.begins, r.number_is, r.text_is)
