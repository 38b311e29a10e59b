-- Frames, one after the other.
use Rattle.std.proofs.Common.{◌≡◌, ℕ, zero, suc, ◌<◌, ◌≤◌, Bool, true, false, cond, List, [], ◌∷◌, ◌++◌, length, refl, sym, ap, ◌∙◌, subst, arith, Option, Some, None, IfSome, eqb}
use Rattle.std.specs.Option.{option_map_or}
use Rattle.flow_input.specs.Frames.{Cut, until, since, closed, order_cut, cut, first_cut, frames_in, frames, ended_in, ended_frames, is_not_blank, is_parenthesis, ends_order}

cond-length : (t : Bool) (xs ys : List ℕ) (n : ℕ) → length xs ≤ n → length ys ≤ n → length (cond t xs ys) ≤ n
cond-length true xs ys n h k = h
cond-length false xs ys n h k = k

cond-rest : (t : Bool) (p q : Cut) (n : ℕ) → length p.rest ≤ n → length q.rest ≤ n → length (cond {A = Cut} t p q).rest ≤ n
cond-rest true p q n h k = h
cond-rest false p q n h k = k

length-since : (stops : ℕ → Bool) (bs : List ℕ) → length (since stops bs) ≤ length bs
length-since stops [] = omega arith
length-since stops (b ∷ bs) = cond-length (stops b) (b ∷ bs) (since stops bs) (suc (length bs)) (omega arith) (omega (arith, length-since stops bs))

closed-rest : (body rest : List ℕ) → length (closed body rest).rest ≤ length rest
closed-rest body [] = omega arith
closed-rest body (b ∷ rest) = cond-rest (eqb b 41) (record { frame = 40 ∷ body ++ 41 ∷ []; rest = rest; ended = true }) (record { frame = 40 ∷ body; rest = b ∷ rest; ended = true }) (suc (length rest)) (omega arith) (omega arith)

order-rest : (frame rest : List ℕ) → length (order_cut frame rest).rest ≤ length rest
order-rest frame [] = omega arith
order-rest frame (b ∷ rest) = omega arith

cut-shorter : (bs : List ℕ) (c : Cut) → cut bs ≡ Some c → length c.rest < length bs
cut-shorter [] c e = absurd (cc)
cut-shorter (b ∷ bs) c e =
    let first : Cut = closed (until is_parenthesis bs) (since is_parenthesis bs) in
    let other : Cut = order_cut (b ∷ until ends_order bs) (since ends_order bs) in
    let is : cond {A = Cut} (eqb b 40) first other ≡ c = cc in
    let le : length (cond {A = Cut} (eqb b 40) first other).rest ≤ length bs =
    cond-rest (eqb b 40) first other (length bs) (omega (arith, closed-rest (until is_parenthesis bs) (since is_parenthesis bs), length-since is_parenthesis bs)) (omega (arith, order-rest (b ∷ until ends_order bs) (since ends_order bs), length-since ends_order bs)) in
    let le' = subst (λ (d : Cut). length d.rest ≤ length bs) is le in
    omega (arith, le')

pub first_cut-shorter : (bs : List ℕ) (c : Cut) → first_cut bs ≡ Some c → length c.rest < length bs
unfolding first_cut
first_cut-shorter bs c e = omega (arith, cut-shorter (since is_not_blank bs) c e, length-since is_not_blank bs)

fuel-some : (n m : ℕ) (bs : List ℕ) (r : Option Cut) → first_cut bs ≡ r → ((c : Cut) → first_cut bs ≡ Some c → frames_in n c.rest ≡ frames_in m c.rest)
    → option_map_or (λ c. c.frame ∷ frames_in n c.rest) r [] ≡ option_map_or (λ c. c.frame ∷ frames_in m c.rest) r []
fuel-some n m bs None e same = refl
fuel-some n m bs (Some c) e same = ap (λ (fs : List (List ℕ)). c.frame ∷ fs) (same c e)

-- more turns than bytes change nothing
frames_in-turns : (n m : ℕ) (bs : List ℕ) → length bs ≤ n → length bs ≤ m → frames_in n bs ≡ frames_in m bs
unfolding frames_in first_cut
frames_in-turns zero zero bs h k = refl
frames_in-turns zero (suc m) [] h k = refl
frames_in-turns zero (suc m) (b ∷ bs) h k = absurd (omega arith)
frames_in-turns (suc n) zero [] h k = refl
frames_in-turns (suc n) zero (b ∷ bs) h k = absurd (omega arith)
frames_in-turns (suc n) (suc m) bs h k =
    fuel-some n m bs (first_cut bs) refl (λ c e. frames_in-turns n m c.rest (shorter c e n h) (shorter c e m k))
  where
    shorter : (c : Cut) → first_cut bs ≡ Some c → (i : ℕ) → length bs ≤ suc i → length c.rest ≤ i
    shorter c e i le = omega (arith, first_cut-shorter bs c e)

no-first : (c : Cut) → first_cut [] ≡ Some c → ⊥
unfolding first_cut
no-first c e = cc

pub frames-some : (bs : List ℕ) (c : Cut) → first_cut bs ≡ Some c → frames bs ≡ c.frame ∷ frames c.rest
unfolding frames frames_in
frames-some [] c e = absurd (no-first c e)
frames-some (b ∷ bs) c e =
    ap (λ (r : Option Cut). option_map_or (λ d. d.frame ∷ frames_in (length bs) d.rest) r []) e
    ∙ ap (λ (fs : List (List ℕ)). c.frame ∷ fs) (frames_in-turns (length bs) (length c.rest) c.rest (less (first_cut-shorter (b ∷ bs) c e)) (omega arith))
  where
    less : length c.rest < suc (length bs) → length c.rest ≤ length bs
    less h = omega arith

pub frames-none : (bs : List ℕ) → first_cut bs ≡ None → frames bs ≡ []
unfolding frames frames_in
frames-none [] e = refl
frames-none (b ∷ bs) e = ap (λ (r : Option Cut). option_map_or (λ d. d.frame ∷ frames_in (length bs) d.rest) r []) e

-- the same for the frames that had ended
ended-if : (t : Bool) (xs ys zs : List (List ℕ)) → xs ≡ ys → cond t xs zs ≡ cond t ys zs
ended-if t xs ys zs e = ap (λ (ws : List (List ℕ)). cond t ws zs) e

ended-fuel : (n m : ℕ) (bs : List ℕ) (r : Option Cut) → first_cut bs ≡ r → ((c : Cut) → first_cut bs ≡ Some c → ended_in n c.rest ≡ ended_in m c.rest)
    → option_map_or (λ c. cond c.ended (c.frame ∷ ended_in n c.rest) []) r [] ≡ option_map_or (λ c. cond c.ended (c.frame ∷ ended_in m c.rest) []) r []
ended-fuel n m bs None e same = refl
ended-fuel n m bs (Some c) e same = ended-if c.ended (c.frame ∷ ended_in n c.rest) (c.frame ∷ ended_in m c.rest) [] (ap (λ (fs : List (List ℕ)). c.frame ∷ fs) (same c e))

ended_in-turns : (n m : ℕ) (bs : List ℕ) → length bs ≤ n → length bs ≤ m → ended_in n bs ≡ ended_in m bs
unfolding ended_in first_cut
ended_in-turns zero zero bs h k = refl
ended_in-turns zero (suc m) [] h k = refl
ended_in-turns zero (suc m) (b ∷ bs) h k = absurd (omega arith)
ended_in-turns (suc n) zero [] h k = refl
ended_in-turns (suc n) zero (b ∷ bs) h k = absurd (omega arith)
ended_in-turns (suc n) (suc m) bs h k =
    ended-fuel n m bs (first_cut bs) refl (λ c e. ended_in-turns n m c.rest (shorter c e n h) (shorter c e m k))
  where
    shorter : (c : Cut) → first_cut bs ≡ Some c → (i : ℕ) → length bs ≤ suc i → length c.rest ≤ i
    shorter c e i le = omega (arith, first_cut-shorter bs c e)

pub ended-some : (bs : List ℕ) (c : Cut) → first_cut bs ≡ Some c → c.ended ≡ true → ended_frames bs ≡ c.frame ∷ ended_frames c.rest
unfolding ended_frames ended_in
ended-some [] c e t = absurd (no-first c e)
ended-some (b ∷ bs) c e t =
    ap (λ (r : Option Cut). option_map_or (λ d. cond d.ended (d.frame ∷ ended_in (length bs) d.rest) []) r []) e
    ∙ ap (λ (w : Bool). cond w (c.frame ∷ ended_in (length bs) c.rest) []) t
    ∙ ap (λ (fs : List (List ℕ)). c.frame ∷ fs) (ended_in-turns (length bs) (length c.rest) c.rest (less (first_cut-shorter (b ∷ bs) c e)) (omega arith))
  where
    less : length c.rest < suc (length bs) → length c.rest ≤ length bs
    less h = omega arith

-- no frame has ended where the first has not
pub ended-none : (bs : List ℕ) → IfSome (first_cut bs) (λ c. c.ended ≡ false) → ended_frames bs ≡ []
unfolding ended_frames ended_in
ended-none [] h = refl
ended-none (b ∷ bs) h = by (first_cut (b ∷ bs)) h
  where
    by : (r : Option Cut) → IfSome r (λ c. c.ended ≡ false) → option_map_or (λ d. cond d.ended (d.frame ∷ ended_in (length bs) d.rest) []) r [] ≡ []
    by None h = refl
    by (Some c) h = ap (λ (w : Bool). cond w (c.frame ∷ ended_in (length bs) c.rest) []) h

-- ---- a frame that had ended stays as it is, however the input continues

until-more : (stops : ℕ → Bool) (b : ℕ) (bs rest more : List ℕ) → since stops bs ≡ b ∷ rest → until stops (bs ++ more) ≡ until stops bs
until-more stops b [] rest more e = absurd (cc)
until-more stops b (x ∷ xs) rest more e = by (stops x) e (until-more stops b xs rest more)
  where
    by : (t : Bool) → cond t (x ∷ xs) (since stops xs) ≡ b ∷ rest → (since stops xs ≡ b ∷ rest → until stops (xs ++ more) ≡ until stops xs) → cond t [] (x ∷ until stops (xs ++ more)) ≡ cond t [] (x ∷ until stops xs)
    by true e h = refl
    by false e h = ap (λ (ys : List ℕ). x ∷ ys) (h e)

since-more : (stops : ℕ → Bool) (b : ℕ) (bs rest more : List ℕ) → since stops bs ≡ b ∷ rest → since stops (bs ++ more) ≡ b ∷ (rest ++ more)
since-more stops b [] rest more e = absurd (cc)
since-more stops b (x ∷ xs) rest more e = by (stops x) e (since-more stops b xs rest more)
  where
    by : (t : Bool) → cond t (x ∷ xs) (since stops xs) ≡ b ∷ rest → (since stops xs ≡ b ∷ rest → since stops (xs ++ more) ≡ b ∷ (rest ++ more)) → cond t (x ∷ (xs ++ more)) (since stops (xs ++ more)) ≡ b ∷ (rest ++ more)
    by true e h = ap (λ (ys : List ℕ). ys ++ more) e
    by false e h = h e

-- a frame with more bytes after it
abbrev pub extended : Cut → List ℕ → Cut
extended c more = record { frame = c.frame; rest = c.rest ++ more; ended = true }

closed-more : (body : List ℕ) (x : ℕ) (rest more : List ℕ) → closed body (x ∷ (rest ++ more)) ≡ extended (closed body (x ∷ rest)) more
closed-more body x rest more = by (eqb x 41)
  where
    by : (t : Bool)
        → cond {A = Cut} t (record { frame = 40 ∷ body ++ 41 ∷ []; rest = rest ++ more; ended = true }) (record { frame = 40 ∷ body; rest = x ∷ (rest ++ more); ended = true })
        ≡ extended (cond {A = Cut} t (record { frame = 40 ∷ body ++ 41 ∷ []; rest = rest; ended = true }) (record { frame = 40 ∷ body; rest = x ∷ rest; ended = true })) more
    by true = refl
    by false = refl

message-more : (bs more u : List ℕ) → since is_parenthesis bs ≡ u → (closed (until is_parenthesis bs) (since is_parenthesis bs)).ended ≡ true
    → closed (until is_parenthesis (bs ++ more)) (since is_parenthesis (bs ++ more)) ≡ extended (closed (until is_parenthesis bs) (since is_parenthesis bs)) more
message-more bs more [] e t = let f : false ≡ true = ap (λ (v : List ℕ). (closed (until is_parenthesis bs) v).ended) (sym e) ∙ t in absurd (cc)
message-more bs more (x ∷ rest) e t =
    ap (λ (v : List ℕ). closed (until is_parenthesis (bs ++ more)) v) (since-more is_parenthesis x bs rest more e)
    ∙ ap (λ (w : List ℕ). closed w (x ∷ (rest ++ more))) (until-more is_parenthesis x bs rest more e)
    ∙ closed-more (until is_parenthesis bs) x rest more
    ∙ ap (λ (v : List ℕ). extended (closed (until is_parenthesis bs) v) more) (sym e)

order-more : (b : ℕ) (bs more u : List ℕ) → since ends_order bs ≡ u → (order_cut (b ∷ until ends_order bs) (since ends_order bs)).ended ≡ true
    → order_cut (b ∷ until ends_order (bs ++ more)) (since ends_order (bs ++ more)) ≡ extended (order_cut (b ∷ until ends_order bs) (since ends_order bs)) more
order-more b bs more [] e t = let f : false ≡ true = ap (λ (v : List ℕ). (order_cut (b ∷ until ends_order bs) v).ended) (sym e) ∙ t in absurd (cc)
order-more b bs more (x ∷ rest) e t =
    ap (λ (v : List ℕ). order_cut (b ∷ until ends_order (bs ++ more)) v) (since-more ends_order x bs rest more e)
    ∙ ap (λ (w : List ℕ). order_cut (b ∷ w) (x ∷ (rest ++ more))) (until-more ends_order x bs rest more e)
    ∙ ap (λ (v : List ℕ). extended (order_cut (b ∷ until ends_order bs) v) more) (sym e)

cond-more : (t : Bool) (p q p' q' : Cut) (more : List ℕ) → (cond {A = Cut} t p q).ended ≡ true → (p.ended ≡ true → p' ≡ extended p more) → (q.ended ≡ true → q' ≡ extended q more)
    → cond {A = Cut} t p' q' ≡ extended (cond {A = Cut} t p q) more
cond-more true p q p' q' more t h k = h t
cond-more false p q p' q' more t h k = k t

cut-more : (bs more : List ℕ) (c : Cut) → cut bs ≡ Some c → c.ended ≡ true → cut (bs ++ more) ≡ Some (extended c more)
cut-more [] more c e t = absurd (cc)
cut-more (b ∷ bs) more c e t =
    let first : Cut = closed (until is_parenthesis bs) (since is_parenthesis bs) in
    let other : Cut = order_cut (b ∷ until ends_order bs) (since ends_order bs) in
    let is : cond {A = Cut} (eqb b 40) first other ≡ c = cc in
    ap (λ (d : Cut). Some d)
    (cond-more (eqb b 40) first other (closed (until is_parenthesis (bs ++ more)) (since is_parenthesis (bs ++ more))) (order_cut (b ∷ until ends_order (bs ++ more)) (since ends_order (bs ++ more))) more
    (ap (λ (d : Cut). d.ended) is ∙ t) (message-more bs more (since is_parenthesis bs) refl) (order-more b bs more (since ends_order bs) refl)
    ∙ ap (λ (d : Cut). extended d more) is)

text-more : (bs more u : List ℕ) (c : Cut) → since is_not_blank bs ≡ u → cut u ≡ Some c → c.ended ≡ true → cut (since is_not_blank (bs ++ more)) ≡ Some (extended c more)
text-more bs more [] c e k t = absurd (cc)
text-more bs more (b ∷ rest) c e k t = ap cut (since-more is_not_blank b bs rest more e) ∙ cut-more (b ∷ rest) more c k t

pub first_cut-more : (bs more : List ℕ) (c : Cut) → first_cut bs ≡ Some c → c.ended ≡ true → first_cut (bs ++ more) ≡ Some (extended c more)
unfolding first_cut
first_cut-more bs more c e t = text-more bs more (since is_not_blank bs) c refl e t
