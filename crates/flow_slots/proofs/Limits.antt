-- The limits of a regulation, as its shape has them.
use Rattle.std.proofs.Common.{◌≡◌, ℕ, ◌-◌, ◌≤◌, ◌<◌, ◌++◌, ◌∙◌, ap, take, Bool, List, [], ◌∷◌, true, false, nat_lt, nat_le, length, if◌then◌else◌, Option, Some, None, is_some, refl}
use Rattle.std.proofs.lemmas.Bool.{ltb-true, leb-true, lt-ltb, le-leb, and_parts, and_from}
use Rattle.fpl_text.specs.declared.part.Part.{Part}
use Rattle.fpl_text.specs.declared.minute.TheConstants.{YEAR_2000, YEAR_2099}
use Rattle.flow_slots.specs.declared.shape.Limit.{Limit}
use Rattle.flow_slots.specs.declared.shape.Limit.TheVariants as limit
use Rattle.flow_slots.specs.declared.shape.TheConstants.{LONGEST_PERIOD, MOST_AN_HOUR}
use Rattle.fpl_text.specs.declared.part.TheConstants.{MOST_PARTS}
use Rattle.flow_slots.specs.Period.{Period, AreSubperiods, IsRegular}
use Rattle.flow_slots.specs.Limits.{rises, rates_fit, is_period, broken_limit}

-- sub-periods that keep the limits
pub subperiods : (end start rate : ℕ) (ps : List Part) → rises end start ps ≡ true → rates_fit rate ps ≡ true → AreSubperiods end start rate ps
subperiods end start rate [] a b =
    let parts = and_parts (nat_lt 0 rate) (nat_le rate MOST_AN_HOUR) b in
    (ltb-true start end a, leb-true rate MOST_AN_HOUR parts.1, ltb-true 0 rate parts.0)
subperiods end start rate (p ∷ ps) a b =
    let rise = and_parts (nat_lt start p.from) (rises end p.from ps) a in
    let fit = and_parts (nat_le rate MOST_AN_HOUR) (rates_fit p.rate ps) b in
    (ltb-true start p.from rise.0, leb-true rate MOST_AN_HOUR fit.0, subperiods end p.from p.rate ps rise.1 fit.1)

-- and what they keep
rising : (end start rate : ℕ) (ps : List Part) → AreSubperiods end start rate ps → rises end start ps ≡ true
rising end start rate [] s = lt-ltb start end s.0
rising end start rate (p ∷ ps) s = and_from (nat_lt start p.from) (rises end p.from ps) (lt-ltb start p.from s.0) (rising end p.from p.rate ps s.2)

fitting : (end start rate : ℕ) (ps : List Part) → AreSubperiods end start rate ps → rates_fit rate ps ≡ true
fitting end start rate [] s = and_from (nat_lt 0 rate) (nat_le rate MOST_AN_HOUR) (lt-ltb 0 rate s.2) (le-leb rate MOST_AN_HOUR s.1)
fitting end start rate (p ∷ ps) s =
    and_from (nat_le rate MOST_AN_HOUR) (rates_fit p.rate ps) (le-leb rate MOST_AN_HOUR s.1) (fitting end p.from p.rate ps s.2)

none : (a b : Bool) → a ≡ true → b ≡ true → (if a then (if b then None else Some limit.Rate) else Some limit.Period) ≡ None
none true true e f = refl
none true false e f = absurd (cc)
none false b e f = absurd (cc)

both : (a b : Bool) → (if a then (if b then None else Some limit.Rate) else Some limit.Period) ≡ None → (a ≡ true) × (b ≡ true)
both true true e = (refl, refl)
both true false e = absurd (cc)
both false b e = absurd (cc)

-- a period that is regular breaks no limit
pub unbroken : (p : Period) → IsRegular p → broken_limit p ≡ None
unbroken p r =
    let period =
    and_from (nat_le (p.end - p.start) LONGEST_PERIOD) (rises p.end p.start p.parts) (le-leb (p.end - p.start) LONGEST_PERIOD r.at_most_a_day) (rising p.end p.start p.rate p.parts r.subperiods) in
    none (is_period p.start p.end p.parts) (rates_fit p.rate p.parts) period (fitting p.end p.start p.rate p.parts r.subperiods)

-- and one of these years that breaks none is regular
pub regular : (p : Period) → YEAR_2000 ≤ p.start → p.end < YEAR_2099 → length p.parts ≤ MOST_PARTS → is_period p.start p.end p.parts ≡ true → rates_fit p.rate p.parts ≡ true → IsRegular p
regular p from to few a b =
    let parts = and_parts (nat_le (p.end - p.start) LONGEST_PERIOD) (rises p.end p.start p.parts) a in
    record {
      not_before = from;
      before = to;
      at_most_a_day = leb-true (p.end - p.start) LONGEST_PERIOD parts.0;
      few = few;
      subperiods = subperiods p.end p.start p.rate p.parts parts.1 b;
    }

pub regular-unbroken : (p : Period) → YEAR_2000 ≤ p.start → p.end < YEAR_2099 → length p.parts ≤ MOST_PARTS → broken_limit p ≡ None → IsRegular p
regular-unbroken p from to few e = (let h = both (is_period p.start p.end p.parts) (rates_fit p.rate p.parts) e in regular p from to few h.0 h.1)

-- an answer that isn't some is none, and none isn't some
pub nothing : (o : Option Limit) → is_some o ≡ false → o ≡ None
nothing None e = refl
nothing (Some x) e = absurd (cc)

pub not-nothing : (o : Option Limit) → is_some o ≡ true → o ≡ None → ⊥
not-nothing None e n = cc
not-nothing (Some x) e n = cc

front : (xs zs : List Part) → take (length xs) (xs ++ zs) ≡ xs
front [] [] = refl
front [] (z ∷ zs) = refl
front (x ∷ xs) zs = ap (λ q. x ∷ q) (front xs zs)

-- the parts that were copied over the first of others
pub take-front : (xs ys zs : List Part) → ys ≡ xs → take (length xs) (ys ++ zs) ≡ xs
take-front xs ys zs e = ap (λ q. take (length xs) (q ++ zs)) e ∙ front xs zs
