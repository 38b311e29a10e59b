-- One frame, for whose end more bytes may come.
use Rattle.std.proofs.Common.{◌≡◌, ℕ, ◌+◌, ◌<◌, ◌≤◌, suc, Bool, true, false, cond, leb, List, [], ◌∷◌, ◌++◌, length, refl, sym, ap, ◌∙◌, subst, arith, drop, Option, Some, None, IfSome, IsTrue, eqb, get_or, append_assoc, append-nil, length-append, length-drop, slice_range}
use Rattle.std.proofs.lemmas.Bool.{lt-leb}
use Rattle.std.proofs.KnownBytes.{Consumes-nil, Consumes-trans}
use Rattle.std.specs.Io.KnownBytes.{Consumes}
use Rattle.flow_input.specs.Frames.{Cut, until, since, closed, order_cut, cut, first_cut, ended_frames, is_not_blank, is_parenthesis, ends_order, kept_of}
use Rattle.flow_input.specs.FirstFrame.{Shows}
use Rattle.flow_input.specs.Reader.{InputView, Agrees, Came, CameTooMuch, BeginsWithStop, Filled, NoneStops, TookRun, Finished, Unfinished}
use Rattle.flow_input.specs.NextFrame.{second, filing_kept, filing_of, IsFiled, GaveFirst, GaveNone, Cuts, Starves}
use Rattle.fpl_message.specs.Filings.{FilingView}
use Rattle.flow_input.proofs.FrameLists.{ended-none, ended-some, first_cut-shorter}
use Rattle.flow_input.proofs.Texts.{cut-joins, cut-open}

-- ---- more bytes may come before the frame is taken

-- what is unread now begins with the same frame as what was unread and the bytes that came,
-- whatever follows
pub record Sought (old now : InputView) (before during : Option (List ℕ)) : Type 0 where
  pub came : List ℕ
  pub consumed : Consumes before during came
  pub same : (more : List ℕ) → first_cut ((old.unread ++ came) ++ more) ≡ first_cut (now.unread ++ more)
  pub count : now.taken + length now.unread ≡ old.taken + length old.unread + length came
  pub going : old.ended ≡ false

since-past : (stops : ℕ → Bool) (run rest : List ℕ) → NoneStops stops run → since stops (run ++ rest) ≡ since stops rest
since-past stops [] rest none = refl
since-past stops (x ∷ xs) rest none = rw none.0 (since-past stops xs rest none.1)

-- blanks change nothing
pub blanks-past : (old new : InputView) (more : List ℕ) → TookRun is_not_blank old new → first_cut (old.unread ++ more) ≡ first_cut (new.unread ++ more)
unfolding first_cut
blanks-past old new more t =
    ap cut (ap (since is_not_blank) (ap (λ (bs : List ℕ). bs ++ more) t.whole ∙ append_assoc t.run new.unread more) ∙ since-past is_not_blank t.run (new.unread ++ more) t.none)

module _ (old now mid new : InputView) (still : mid ≡ now) (t : TookRun is_not_blank mid new) where
  pub Sought-blanks : (before during : Option (List ℕ)) → Sought old now before during → Sought old new before during
  Sought-blanks before during s =
      record {
        came = s.came;
        consumed = s.consumed;
        same = λ more. s.same more ∙ ap (λ (a : InputView). first_cut (a.unread ++ more)) (sym still) ∙ blanks-past mid new more t;
        count = omega (arith, s.count, t.count, ap length t.whole, length-append t.run new.unread, ap (λ (a : InputView). a.taken + length a.unread) still);
        going = s.going;
      }

  pub goes-past : IfSome (first_cut now.unread) (λ c. c.ended ≡ false) → IfSome (first_cut new.unread) (λ c. c.ended ≡ false)
  goes-past goes =
      subst (λ (o : Option Cut). IfSome o (λ c. c.ended ≡ false))
      (ap (λ (a : InputView). first_cut a.unread) (sym still) ∙ ap first_cut (sym (append-nil mid.unread)) ∙ blanks-past mid new [] t ∙ ap first_cut (append-nil new.unread)) goes

  pub nearer-past : (n : ℕ) → n ≤ now.taken → n ≤ new.taken
  nearer-past n h = omega (arith, h, t.count, ap (λ (a : InputView). a.taken) still)

pub Sought-fill : (old now new : InputView) (before during after : Option (List ℕ)) → Sought old now before during → Filled now new during after → new.taken ≡ now.taken → Sought old new before after
Sought-fill old now new before during after s f taken =
    record {
      came = s.came ++ f.0;
      consumed = Consumes-trans before during after s.came f.0 s.consumed f.1;
      same = λ more. ap first_cut (ap (λ (bs : List ℕ). bs ++ more) (sym (append_assoc old.unread s.came f.0)) ∙ append_assoc (old.unread ++ s.came) f.0 more) ∙ s.same (f.0 ++ more)
          ∙ ap first_cut (sym (append_assoc now.unread f.0 more) ∙ ap (λ (bs : List ℕ). bs ++ more) (sym f.2));
      count = omega (arith, s.count, taken, ap length f.2, length-append now.unread f.0, length-append s.came f.0);
      going = s.going;
    }

ended-same : (xs ys : List ℕ) → first_cut xs ≡ first_cut ys → ended_frames xs ≡ ended_frames ys
ended-same xs ys e = by (first_cut ys) refl
  where
    opens : (bs : List ℕ) (r : Option Cut) → first_cut bs ≡ r → IfSome r (λ c. c.ended ≡ false) → IfSome (first_cut bs) (λ c. c.ended ≡ false)
    opens bs r q h = rw q h

    one : (c : Cut) → first_cut ys ≡ Some c → (t : Bool) → c.ended ≡ t → ended_frames xs ≡ ended_frames ys
    one c q true t = ended-some xs c (e ∙ q) t ∙ sym (ended-some ys c q t)
    one c q false t = ended-none xs (opens xs (Some c) (e ∙ q) t) ∙ sym (ended-none ys (opens ys (Some c) q t))

    by : (r : Option Cut) → first_cut ys ≡ r → ended_frames xs ≡ ended_frames ys
    by None q = ended-none xs (opens xs None (e ∙ q) tt) ∙ sym (ended-none ys (opens ys None q tt))
    by (Some c) q = one c q c.ended refl

module _ (old now : InputView) (before during after : Option (List ℕ)) (s : Sought old now before during) where
  all-came : (came : List ℕ) → first_cut (old.unread ++ (s.came ++ came)) ≡ first_cut (now.unread ++ came)
  all-came came = ap first_cut (sym (append_assoc old.unread s.came came)) ∙ s.same came

  pub GaveFirst-sought : (new : InputView) (filing : Option FilingView) → GaveFirst filing now new during after → GaveFirst filing old new before after
  GaveFirst-sought new filing g =
      record {
        came = s.came ++ g.came;
        consumed = Consumes-trans before during after s.came g.came s.consumed g.consumed;
        whole = g.whole;
        is = all-came g.came ∙ g.is;
        rest = g.rest;
        going = s.going;
        seen = g.seen;
        count = omega (arith, s.count, g.count, length-append s.came g.came);
        filed = g.filed;
      }

  pub Starves-sought : Starves now during after → Starves old before after
  Starves-sought m = (s.came ++ m.0, Consumes-trans before during after s.came m.0 s.consumed m.1, ended-same (old.unread ++ (s.came ++ m.0)) (now.unread ++ m.0) (all-came m.0) ∙ m.2)

  pub CameTooMuch-sought : CameTooMuch now during after → CameTooMuch old before after
  CameTooMuch-sought m = (s.came ++ m.0, Consumes-trans before during after s.came m.0 s.consumed m.1, omega (arith, s.count, m.2, length-append s.came m.0))

  pub Came-sought : Came during after → Came before after
  Came-sought m = (s.came ++ m.0, Consumes-trans before during after s.came m.0 s.consumed m.1)

-- the reader failed where the bytes show no end
pub Starves-still : (now : InputView) (during after : Option (List ℕ)) → Consumes during after [] → IfSome (first_cut now.unread) (λ c. c.ended ≡ false) → Starves now during after
Starves-still now during after came goes = ([], came, ended-none (now.unread ++ []) (rw (append-nil now.unread) goes))

-- each frame takes a byte
pub GaveFirst-nearer : (old new : InputView) (before after : Option (List ℕ)) (filing : Option FilingView) → GaveFirst filing old new before after → old.taken < new.taken
GaveFirst-nearer old new before after filing g = omega (arith, g.count, ap length g.rest, first_cut-shorter (old.unread ++ g.came) g.whole g.is, length-append old.unread g.came)

-- ---- frames that are shown

-- what was kept of a frame gives its filing
pub IsFiled-kept : (kept : Option (List ℕ)) → IsFiled kept (filing_kept kept)
IsFiled-kept kept frame e = rw e (by (leb (length frame) 2000))
  where
    by : (b : Bool) → filing_kept (cond b (Some frame) None) ≡ cond b (Some (second frame)) None
    by true = refl
    by false = refl

-- the bytes that were there show the end of the frame
pub GaveFirst-shown : (old new : InputView) (before : Option (List ℕ)) (begin end : ℕ) → Agrees old before → Shows old.unread begin end → new.unread ≡ drop end old.unread → new.taken ≡ old.taken + end
    → new.item ≡ kept_of (slice_range old.unread begin end) → GaveFirst (filing_kept new.item) old new before before
GaveFirst-shown old new before begin end agrees shows rest count is =
    record {
      came = [];
      consumed = Consumes-nil before;
      whole = record { frame = slice_range old.unread begin end; rest = drop end old.unread; ended = true };
      is = ap first_cut (append-nil old.unread) ∙ shows.is;
      rest = rest;
      going = going old.ended refl;
      seen = λ _. refl;
      count = omega (arith, count, shows.within, ap length rest, length-drop end old.unread);
      filed = IsFiled-kept new.item (slice_range old.unread begin end) is;
    }
  where
    going : (b : Bool) → old.ended ≡ b → b ≡ false
    going false e = refl
    going true e = absurd (omega (arith, shows.some, shows.within, ap length (agrees e).0))

pub true-not : (b : Bool) → IsTrue b → b ≡ false → ⊥
true-not b t f = cc

text-first : (bs : List ℕ) → BeginsWithStop is_not_blank bs → since is_not_blank bs ≡ bs
text-first [] at = refl
text-first (b ∷ bs) at = rw at refl

-- what is left at the end of the input is a frame
module _ (old now new : InputView) (before after : Option (List ℕ)) (s : Sought old now before after) (at : BeginsWithStop is_not_blank now.unread) where
  is-now : first_cut (old.unread ++ s.came) ≡ cut now.unread
  unfolding first_cut
  is-now =
      ap first_cut (sym (append-nil (old.unread ++ s.came))) ∙ s.same [] ∙ ap first_cut (append-nil now.unread) ∙ ap cut (text-first now.unread at)

  goes-now : IfSome (first_cut now.unread) (λ c. c.ended ≡ false) → IfSome (cut now.unread) (λ c. c.ended ≡ false)
  unfolding first_cut
  goes-now h = rw (text-first now.unread at) at h

  pub GaveFirst-rest : IfSome (first_cut now.unread) (λ c. c.ended ≡ false) → (now.unread ≡ [] → ⊥) → new.unread ≡ [] → new.item ≡ kept_of now.unread → new.taken ≡ now.taken + length now.unread → IsTrue new.ended
      → GaveFirst (filing_kept new.item) old new before after
  GaveFirst-rest goes some none item taken ended = by (cut now.unread) refl (goes-now goes)
    where
      empty : (bs : List ℕ) → cut bs ≡ None → bs ≡ []
      empty [] e = refl
      empty (b ∷ bs) e = absurd (cc)

      by : (r : Option Cut) → cut now.unread ≡ r → IfSome r (λ c. c.ended ≡ false) → GaveFirst (filing_kept new.item) old new before after
      by None e h = absurd (some (empty now.unread e))
      by (Some c) e h =
          let rest : c.rest ≡ [] = cut-open now.unread c e h in
          let frame : now.unread ≡ c.frame = sym (cut-joins now.unread c e) ∙ ap (λ (bs : List ℕ). c.frame ++ bs) rest ∙ append-nil c.frame in
          record {
            came = s.came;
            consumed = s.consumed;
            whole = c;
            is = is-now ∙ e;
            rest = none ∙ sym rest;
            going = s.going;
            seen = λ f. absurd (true-not new.ended ended f);
            count = omega (arith, s.count, taken, ap length none);
            filed = IsFiled-kept new.item c.frame (item ∙ ap kept_of frame);
          }

  -- or there is none
  pub GaveNone-rest : now.unread ≡ [] → new ≡ now → IsTrue new.ended → GaveNone old new before after
  GaveNone-rest none same ended =
      record {
        came = s.came;
        consumed = s.consumed;
        is = is-now ∙ ap cut none;
        ended = ended;
        count = ap (λ (a : InputView). a.taken + length a.unread) same ∙ s.count;
        quiet = λ q. let f : true ≡ false = sym q ∙ s.going in absurd (cc);
      }

-- whether any is left
pub Cuts-rest : (found : Bool) (old now new : InputView) (before after : Option (List ℕ)) → Sought old now before after → BeginsWithStop is_not_blank now.unread → IfSome (first_cut now.unread) (λ c. c.ended ≡ false) → IsTrue new.ended
    → (found ≡ true → (new.unread ≡ []) × (new.item ≡ kept_of now.unread) × (new.taken ≡ now.taken + length now.unread) × (now.unread ≡ [] → ⊥)) → (found ≡ false → (now.unread ≡ []) × (new ≡ now)) → Cuts found new.item old new before after
Cuts-rest true old now new before after s at goes ended some none = let h = some refl in GaveFirst-rest old now new before after s at goes h.3 h.0 h.1 h.2 ended
Cuts-rest false old now new before after s at goes ended some none = let h = none refl in GaveNone-rest old now new before after s at h.0 h.1 ended

pub is-true : (b : Bool) → b ≡ true → IsTrue b
is-true true e = refl
is-true false e = absurd (cc)

-- no byte is left, and none comes
pub GaveNone-ended : (old : InputView) (before : Option (List ℕ)) → Agrees old before → old.ended ≡ true → GaveNone old old before before
unfolding first_cut
GaveNone-ended old before agrees e =
    let empty : old.unread ++ [] ≡ [] = append-nil old.unread ∙ (agrees e).0 in
    record { came = []; consumed = Consumes-nil before; is = ap (λ (bs : List ℕ). cut (since is_not_blank bs)) empty; ended = e; count = omega arith; quiet = λ _. refl }

-- ---- frames that are too long

until-open : (stops : ℕ → Bool) (bs more : List ℕ) → since stops bs ≡ [] → until stops (bs ++ more) ≡ bs ++ until stops more
until-open stops [] more e = refl
until-open stops (x ∷ xs) more e = by (stops x) e (until-open stops xs more)
  where
    by : (t : Bool) → cond t (x ∷ xs) (since stops xs) ≡ [] → (since stops xs ≡ [] → until stops (xs ++ more) ≡ xs ++ until stops more) → cond t [] (x ∷ until stops (xs ++ more)) ≡ x ∷ (xs ++ until stops more)
    by true e h = absurd (cc)
    by false e h = ap (λ (ys : List ℕ). x ∷ ys) (h e)

closed-going : (body u : List ℕ) → (closed body u).ended ≡ false → u ≡ []
closed-going body [] e = refl
closed-going body (b ∷ rest) e = by (eqb b 41) e
  where
    by : (t : Bool) → (cond {A = Cut} t (record { frame = 40 ∷ body ++ 41 ∷ []; rest = rest; ended = true }) (record { frame = 40 ∷ body; rest = b ∷ rest; ended = true })).ended ≡ false → b ∷ rest ≡ []
    by true h = absurd (cc)
    by false h = absurd (cc)

order-going : (frame u : List ℕ) → (order_cut frame u).ended ≡ false → u ≡ []
order-going frame [] e = refl
order-going frame (b ∷ rest) e = absurd (cc)

closed-length : (body u : List ℕ) → suc (length body) ≤ length (closed body u).frame
closed-length body [] = omega arith
closed-length body (b ∷ rest) = by (eqb b 41)
  where
    by : (t : Bool) → suc (length body) ≤ length (cond {A = Cut} t (record { frame = 40 ∷ body ++ 41 ∷ []; rest = rest; ended = true }) (record { frame = 40 ∷ body; rest = b ∷ rest; ended = true })).frame
    by true = omega (arith, length-append body (41 ∷ []))
    by false = omega arith

order-length : (frame u : List ℕ) → length frame ≤ length (order_cut frame u).frame
order-length frame [] = omega arith
order-length frame (b ∷ rest) = omega arith

-- a frame that continues has the bytes that were there
longer : (bs more : List ℕ) (c : Cut) → IfSome (cut bs) (λ d. d.ended ≡ false) → cut (bs ++ more) ≡ Some c → (bs ≡ [] → ⊥) → length bs ≤ length c.frame
longer [] more c goes e some = absurd (some refl)
longer (b ∷ bs) more c goes e some =
    let is : cond {A = Cut} (eqb b 40) (closed (until is_parenthesis (bs ++ more)) (since is_parenthesis (bs ++ more))) (order_cut (b ∷ until ends_order (bs ++ more)) (since ends_order (bs ++ more))) ≡ c = cc in
    subst (λ (d : Cut). suc (length bs) ≤ length d.frame) is (by (eqb b 40) goes)
  where
    by : (t : Bool) → (cond {A = Cut} t (closed (until is_parenthesis bs) (since is_parenthesis bs)) (order_cut (b ∷ until ends_order bs) (since ends_order bs))).ended ≡ false
        → suc (length bs) ≤ length (cond {A = Cut} t (closed (until is_parenthesis (bs ++ more)) (since is_parenthesis (bs ++ more))) (order_cut (b ∷ until ends_order (bs ++ more)) (since ends_order (bs ++ more)))).frame
    by true h =
        let body = until-open is_parenthesis bs more (closed-going (until is_parenthesis bs) (since is_parenthesis bs) h) in
        omega (arith, closed-length (until is_parenthesis (bs ++ more)) (since is_parenthesis (bs ++ more)), ap length body, length-append bs (until is_parenthesis more))
    by false h =
        let body = until-open ends_order bs more (order-going (b ∷ until ends_order bs) (since ends_order bs) h) in
        omega (arith, order-length (b ∷ until ends_order (bs ++ more)) (since ends_order (bs ++ more)), ap length body, length-append bs (until ends_order more))

long-filing : (frame : List ℕ) → 2000 < length frame → None ≡ filing_of frame
long-filing frame h = rw (lt-leb (length frame) 2000 h) refl

first-is : (bs : List ℕ) → 2000 < length bs → bs ≡ get_or bs 0 0 ∷ drop 1 bs
first-is [] h = absurd (omega arith)
first-is (b ∷ bs) h = refl

-- the first byte of a frame that is too long was taken, then the others as they came
module _ (old then : InputView) (first : ℕ) (at : BeginsWithStop is_not_blank old.unread) (is : first ≡ get_or old.unread 0 0) (rest : then.unread ≡ drop 1 old.unread) (taken : then.taken ≡ old.taken + 1) (long : 2000 < length old.unread) where
  was : old.unread ≡ first ∷ then.unread
  was = first-is old.unread long ∙ ap (λ (b : ℕ). b ∷ drop 1 old.unread) (sym is) ∙ ap (λ (bs : List ℕ). first ∷ bs) (sym rest)

  cut-is : (came : List ℕ) → first_cut (old.unread ++ came) ≡ cut (first ∷ (then.unread ++ came))
  unfolding first_cut
  cut-is came =
      let begins : BeginsWithStop is_not_blank (first ∷ then.unread) = subst (λ (bs : List ℕ). BeginsWithStop is_not_blank bs) was at in
      ap (λ (bs : List ℕ). cut (since is_not_blank (bs ++ came))) was ∙ ap cut (text-first (first ∷ (then.unread ++ came)) begins)

  pub GaveFirst-long : (new : InputView) (before after : Option (List ℕ)) → old.ended ≡ false → IfSome (first_cut old.unread) (λ c. c.ended ≡ false) → Finished first then new before after → new.item ≡ None → GaveFirst (filing_kept new.item) old new before after
  GaveFirst-long new before after going goes f item =
      let opens : IfSome (cut (first ∷ then.unread)) (λ c. c.ended ≡ false) =
      subst (λ (o : Option Cut). IfSome o (λ c. c.ended ≡ false)) (ap first_cut (sym (append-nil old.unread)) ∙ cut-is [] ∙ ap (λ (bs : List ℕ). cut (first ∷ bs)) (append-nil then.unread)) goes in
      let far : length (first ∷ then.unread) ≤ length f.whole.frame = longer (first ∷ then.unread) f.came f.whole opens f.is (λ e. absurd (cc)) in
      record {
        came = f.came;
        consumed = f.consumed;
        whole = f.whole;
        is = cut-is f.came ∙ f.is;
        rest = f.rest;
        going = going;
        seen = f.seen;
        count = omega (arith, f.count, taken, ap length was);
        filed = ap filing_kept item ∙ long-filing f.whole.frame (omega (arith, far, long, ap length was));
      }

  pub Starves-long : (before after : Option (List ℕ)) → Unfinished first then before after → Starves old before after
  Starves-long before after u = (u.0, u.1, ended-none (old.unread ++ u.0) (subst (λ (o : Option Cut). IfSome o (λ c. c.ended ≡ false)) (sym (cut-is u.0)) u.2))
