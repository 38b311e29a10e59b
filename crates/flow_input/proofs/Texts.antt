-- What the frames of an input have of its bytes.
use Rattle.std.proofs.Common.{◌≡◌, ℕ, ◌+◌, ◌≤◌, zero, suc, Bool, true, false, cond, List, [], ◌∷◌, ◌++◌, length, take, refl, sym, ap, ◌∙◌, arith, Option, Some, None, append_assoc, eqb}
use Rattle.std.specs.List.{filter, concat}
use Rattle.std.specs.Option.{option_map_or}
use Rattle.std.proofs.lemmas.Bool.{eqb-true}
use Rattle.std.proofs.lemmas.List.Elements.{filter-append}
use Rattle.flow_input.specs.Frames.{Cut, until, since, closed, order_cut, cut, first_cut, frames_in, frames, ended_in, ended_frames, is_not_blank, is_parenthesis, ends_order}
use Rattle.flow_input.proofs.FrameLists.{extended, first_cut-shorter, first_cut-more, frames-some}

until-since : (stops : ℕ → Bool) (bs : List ℕ) → until stops bs ++ since stops bs ≡ bs
until-since stops [] = refl
until-since stops (b ∷ bs) = by (stops b) (until-since stops bs)
  where
    by : (t : Bool) → until stops bs ++ since stops bs ≡ bs → cond t [] (b ∷ until stops bs) ++ cond t (b ∷ bs) (since stops bs) ≡ b ∷ bs
    by true h = refl
    by false h = ap (λ (ys : List ℕ). b ∷ ys) h

closed-joins : (body rest : List ℕ) → (closed body rest).frame ++ (closed body rest).rest ≡ 40 ∷ (body ++ rest)
closed-joins body [] = refl
closed-joins body (b ∷ rest) = by (eqb b 41) refl
  where
    by : (t : Bool) → eqb b 41 ≡ t
        → (cond {A = Cut} t (record { frame = 40 ∷ body ++ 41 ∷ []; rest = rest; ended = true }) (record { frame = 40 ∷ body; rest = b ∷ rest; ended = true })).frame
        ++ (cond {A = Cut} t (record { frame = 40 ∷ body ++ 41 ∷ []; rest = rest; ended = true }) (record { frame = 40 ∷ body; rest = b ∷ rest; ended = true })).rest
        ≡ 40 ∷ (body ++ b ∷ rest)
    by true e = ap (λ (ys : List ℕ). 40 ∷ ys) (append_assoc body (41 ∷ []) rest ∙ ap (λ (x : ℕ). body ++ x ∷ rest) (sym (eqb-true b 41 e)))
    by false e = refl

order-joins : (frame rest : List ℕ) → (order_cut frame rest).frame ++ (order_cut frame rest).rest ≡ frame ++ rest
order-joins frame [] = refl
order-joins frame (b ∷ rest) = refl

pub cut-joins : (bs : List ℕ) (c : Cut) → cut bs ≡ Some c → c.frame ++ c.rest ≡ bs
cut-joins [] c e = absurd (cc)
cut-joins (b ∷ bs) c e =
    let is : cond {A = Cut} (eqb b 40) (closed (until is_parenthesis bs) (since is_parenthesis bs)) (order_cut (b ∷ until ends_order bs) (since ends_order bs)) ≡ c = cc in
    ap (λ (d : Cut). d.frame ++ d.rest) (sym is) ∙ by (eqb b 40) refl
  where
    by : (t : Bool) → eqb b 40 ≡ t
        → (cond {A = Cut} t (closed (until is_parenthesis bs) (since is_parenthesis bs)) (order_cut (b ∷ until ends_order bs) (since ends_order bs))).frame
        ++ (cond {A = Cut} t (closed (until is_parenthesis bs) (since is_parenthesis bs)) (order_cut (b ∷ until ends_order bs) (since ends_order bs))).rest
        ≡ b ∷ bs
    by true e = closed-joins (until is_parenthesis bs) (since is_parenthesis bs) ∙ ap (λ (ys : List ℕ). 40 ∷ ys) (until-since is_parenthesis bs) ∙ ap (λ (x : ℕ). x ∷ bs) (sym (eqb-true b 40 e))
    by false e = order-joins (b ∷ until ends_order bs) (since ends_order bs) ∙ ap (λ (ys : List ℕ). b ∷ ys) (until-since ends_order bs)

text-since : (bs : List ℕ) → filter is_not_blank (since is_not_blank bs) ≡ filter is_not_blank bs
text-since [] = refl
text-since (b ∷ bs) = by (is_not_blank b) refl (text-since bs)
  where
    by : (t : Bool) → is_not_blank b ≡ t → filter is_not_blank (since is_not_blank bs) ≡ filter is_not_blank bs → filter is_not_blank (cond t (b ∷ bs) (since is_not_blank bs)) ≡ cond t (b ∷ filter is_not_blank bs) (filter is_not_blank bs)
    by true e h = ap (λ (t : Bool). cond t (b ∷ filter is_not_blank bs) (filter is_not_blank bs)) e
    by false e h = h

cut-none : (bs : List ℕ) → cut bs ≡ None → bs ≡ []
cut-none [] e = refl
cut-none (b ∷ bs) e = absurd (cc)

text-in : (n : ℕ) (bs : List ℕ) → length bs ≤ n → filter is_not_blank (concat (frames_in n bs)) ≡ filter is_not_blank bs
unfolding frames_in first_cut
text-in zero [] h = refl
text-in zero (b ∷ bs) h = absurd (omega arith)
text-in (suc n) bs h = by (first_cut bs) refl (λ c e. text-in n c.rest (shorter c e))
  where
    shorter : (c : Cut) → first_cut bs ≡ Some c → length c.rest ≤ n
    shorter c e = omega (arith, first_cut-shorter bs c e)

    by : (r : Option Cut) → first_cut bs ≡ r → ((c : Cut) → first_cut bs ≡ Some c → filter is_not_blank (concat (frames_in n c.rest)) ≡ filter is_not_blank c.rest)
        → filter is_not_blank (concat (option_map_or (λ c. c.frame ∷ frames_in n c.rest) r [])) ≡ filter is_not_blank bs
    by None e more = ap (filter is_not_blank) (sym (cut-none (since is_not_blank bs) e)) ∙ text-since bs
    by (Some c) e more =
        filter-append is_not_blank c.frame (concat (frames_in n c.rest)) ∙ ap (λ (ys : List ℕ). filter is_not_blank c.frame ++ ys) (more c e)
        ∙ sym (filter-append is_not_blank c.frame c.rest) ∙ ap (filter is_not_blank) (cut-joins (since is_not_blank bs) c e) ∙ text-since bs

-- the frames have all bytes of the input but blanks, in their order
pub frames-text : (bs : List ℕ) → filter is_not_blank (concat (frames bs)) ≡ filter is_not_blank bs
unfolding frames
frames-text bs = text-in (length bs) bs (omega arith)

ended-in-front : (n : ℕ) (bs more : List ℕ) → length bs ≤ n → take (length (ended_in n bs)) (frames (bs ++ more)) ≡ ended_in n bs
unfolding ended_in
ended-in-front zero bs more h = refl
ended-in-front (suc n) bs more h = by (first_cut bs) refl (λ c e. ended-in-front n c.rest more (shorter c e))
  where
    shorter : (c : Cut) → first_cut bs ≡ Some c → length c.rest ≤ n
    shorter c e = omega (arith, first_cut-shorter bs c e)

    one : (c : Cut) → first_cut bs ≡ Some c → (t : Bool) → c.ended ≡ t → take (length (ended_in n c.rest)) (frames (c.rest ++ more)) ≡ ended_in n c.rest
        → take (length (cond t (c.frame ∷ ended_in n c.rest) [])) (frames (bs ++ more)) ≡ cond t (c.frame ∷ ended_in n c.rest) []
    one c e true k rest =
        ap (λ (fs : List (List ℕ)). take (suc (length (ended_in n c.rest))) fs) (frames-some (bs ++ more) (extended c more) (first_cut-more bs more c e k)) ∙ ap (λ (fs : List (List ℕ)). c.frame ∷ fs) rest
    one c e false k rest = refl

    by : (r : Option Cut) → first_cut bs ≡ r → ((c : Cut) → first_cut bs ≡ Some c → take (length (ended_in n c.rest)) (frames (c.rest ++ more)) ≡ ended_in n c.rest)
        → take (length (option_map_or (λ c. cond c.ended (c.frame ∷ ended_in n c.rest) []) r [])) (frames (bs ++ more)) ≡ option_map_or (λ c. cond c.ended (c.frame ∷ ended_in n c.rest) []) r []
    by None e rest = refl
    by (Some c) e rest = one c e c.ended refl (rest c e)

-- the frames that had ended are the first, however the input continues
pub ended-front : (bs more : List ℕ) → take (length (ended_frames bs)) (frames (bs ++ more)) ≡ ended_frames bs
unfolding ended_frames
ended-front bs more = ended-in-front (length bs) bs more (omega arith)

closed-open : (body rest : List ℕ) → (closed body rest).ended ≡ false → (closed body rest).rest ≡ []
closed-open body [] e = refl
closed-open body (b ∷ rest) e = by (eqb b 41) e
  where
    by : (t : Bool) → (cond {A = Cut} t (record { frame = 40 ∷ body ++ 41 ∷ []; rest = rest; ended = true }) (record { frame = 40 ∷ body; rest = b ∷ rest; ended = true })).ended ≡ false
        → (cond {A = Cut} t (record { frame = 40 ∷ body ++ 41 ∷ []; rest = rest; ended = true }) (record { frame = 40 ∷ body; rest = b ∷ rest; ended = true })).rest ≡ []
    by true e = absurd (cc)
    by false e = absurd (cc)

order-open : (frame rest : List ℕ) → (order_cut frame rest).ended ≡ false → (order_cut frame rest).rest ≡ []
order-open frame [] e = refl
order-open frame (b ∷ rest) e = absurd (cc)

pub cut-open : (bs : List ℕ) (c : Cut) → cut bs ≡ Some c → c.ended ≡ false → c.rest ≡ []
cut-open [] c e f = absurd (cc)
cut-open (b ∷ bs) c e f =
    let is : cond {A = Cut} (eqb b 40) (closed (until is_parenthesis bs) (since is_parenthesis bs)) (order_cut (b ∷ until ends_order bs) (since ends_order bs)) ≡ c = cc in
    ap (λ (d : Cut). d.rest) (sym is) ∙ by (eqb b 40) (ap (λ (d : Cut). d.ended) is ∙ f)
  where
    by : (t : Bool) → (cond {A = Cut} t (closed (until is_parenthesis bs) (since is_parenthesis bs)) (order_cut (b ∷ until ends_order bs) (since ends_order bs))).ended ≡ false
        → (cond {A = Cut} t (closed (until is_parenthesis bs) (since is_parenthesis bs)) (order_cut (b ∷ until ends_order bs) (since ends_order bs))).rest ≡ []
    by true h = closed-open (until is_parenthesis bs) (since is_parenthesis bs) h
    by false h = order-open (b ∷ until ends_order bs) (since ends_order bs) h

nothing-in : (n : ℕ) → frames_in n [] ≡ []
unfolding frames_in first_cut
nothing-in zero = refl
nothing-in (suc n) = refl

last-in : (n : ℕ) (bs : List ℕ) → length bs ≤ n → length (frames_in n bs) ≤ length (ended_in n bs) + 1
unfolding frames_in ended_in first_cut
last-in zero bs h = omega arith
last-in (suc n) bs h = by (first_cut bs) refl (λ c e. last-in n c.rest (shorter c e))
  where
    shorter : (c : Cut) → first_cut bs ≡ Some c → length c.rest ≤ n
    shorter c e = omega (arith, first_cut-shorter bs c e)

    one : (c : Cut) → first_cut bs ≡ Some c → (t : Bool) → c.ended ≡ t → length (frames_in n c.rest) ≤ length (ended_in n c.rest) + 1
        → suc (length (frames_in n c.rest)) ≤ length (cond t (c.frame ∷ ended_in n c.rest) []) + 1
    one c e true k rest = omega (arith, rest)
    one c e false k rest = omega (arith, ap length (ap (frames_in n) (cut-open (since is_not_blank bs) c e k) ∙ nothing-in n))

    by : (r : Option Cut) → first_cut bs ≡ r → ((c : Cut) → first_cut bs ≡ Some c → length (frames_in n c.rest) ≤ length (ended_in n c.rest) + 1)
        → length (option_map_or (λ c. c.frame ∷ frames_in n c.rest) r []) ≤ length (option_map_or (λ c. cond c.ended (c.frame ∷ ended_in n c.rest) []) r []) + 1
    by None e rest = omega arith
    by (Some c) e rest = one c e c.ended refl (rest c e)

-- and all but one at most
pub ended-last : (bs : List ℕ) → length (frames bs) ≤ length (ended_frames bs) + 1
unfolding frames ended_frames
ended-last bs = last-in (length bs) bs (omega arith)
