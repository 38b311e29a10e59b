-- Frames that are answered, one after the other.
use Rattle.std.proofs.Common.{◌≡◌, ℕ, suc, ◌+◌, ◌-◌, ◌≤◌, ◌<◌, ◌⊎◌, inl, inr, Bool, true, false, cond, leb, nat_lt, List, [], ◌∷◌, ◌++◌, length, drop, filter, refl, ap, sym, ◌∙◌, subst, arith, ◌==◌, Option, Some, None, Result, Ok, Err, OnOk, append_assoc, length-append}
use Rattle.std.proofs.lemmas.List.{append-nil, map-append, length-map}
use Rattle.std.proofs.Math.Seq.{drop-append_seam}
use Rattle.std.proofs.lemmas.Bool.{ltb-true}
use Rattle.std.proofs.lemmas.Bool.Decides.{nat_tests}
use Rattle.std.specs.List.{All, AllByRecursion, Contains}
use Rattle.std.proofs.lemmas.List.Elements.{All-contains_itself}
use mathlib.Core.List.{IsPrefix}
use Rattle.fpl_message.specs.Filings.{FilingView}
use Rattle.flow_plans.specs.Settings.{SetupView}
use Rattle.flow_input.specs.NextFrame.{second, filing_of}
use Rattle.flow_input.specs.Filings.{filings}
use Rattle.flow_input.proofs.Filings.{filings-append, one-whole, one-long, is-long, is-whole, whole-is}
use Rattle.flow_core.specs.State.{EntryView}
use Rattle.flow_core.specs.CoreView.{texts_of}
use Rattle.flow_core.specs.Output.{answer_of, too_long_line}
use Rattle.flow_desk.specs.Followers.{newest_entries, newest_answers, answers_with}
use Rattle.flow_desk.specs.Histories.{own, after, IsLawful}
use Rattle.flow_desk.specs.FeederPasses.{PassView, SawOthers, FiledInTurn, FiledFront, entry}
use Rattle.flow_desk.proofs.Collecting.{answer-early}
use Rattle.flow_desk.proofs.Fronts.{prefix_self, prefix_trans, prefix_length}
use Rattle.flow_desk.proofs.Owning.{own-append, own-snoc}
use Rattle.flow_live.specs.Told.{told, full_answers}
use Rattle.flow_live.specs.Feeding.{Serves, Prepares, TakesNext}
use Rattle.flow_live.proofs.Tolds.{told-none, told-long, told-whole, told-front, told-same, told-filings}

-- ---- texts that were filed in turn

-- their entries, which are all that came to the history
record Entered (s : SetupView) (p : PassView) (ts : List FilingView) (q : PassView) : Type 0 where
  entries : List EntryView
  seen : q.seen ≡ p.seen ++ entries
  feeder : q.feeder ≡ p.feeder
  own_are : own p.feeder entries ≡ entries
  texts_are : texts_of entries ≡ ts
  full : s.max_entries ≤ length p.seen → entries ≡ []

own-cons : (k : ℕ) (e : EntryView) (es : List EntryView) → e.input.feeder ≡ k → own k es ≡ es → own k (e ∷ es) ≡ e ∷ es
own-cons k e es is own_are =
    own-append k (e ∷ []) es ∙ (ap (λ (one : List EntryView). one ++ own k es) (own-snoc k [] e is) ∙ ap (λ (ls : List EntryView). e ∷ ls) own_are)

entered : (s : SetupView) (p : PassView) (ts : List FilingView) (q : PassView) → FiledInTurn s p ts q → Entered s p ts q
entered s p [] q same = record {
  entries = [];
  seen = ap (λ (v : PassView). v.seen) same ∙ sym (append-nil p.seen);
  feeder = ap (λ (v : PassView). v.feeder) same;
  own_are = refl;
  texts_are = refl;
  full = λ _. refl;
}
entered s p (t ∷ ts) q h =
    let m : PassView = h.1 in
    let next = h.2 in
    let rest = entered s m ts q h.3 in
    let e : EntryView = entry p.feeder t h.0 in
    let longer : m.seen ≡ p.seen ++ e ∷ [] = next.filed.seen ∙ ap (λ (es : List EntryView). es ++ e ∷ []) next.at_once in
    record {
      entries = e ∷ rest.entries;
      seen = rest.seen ∙ (ap (λ (es : List EntryView). es ++ rest.entries) longer ∙ append_assoc p.seen (e ∷ []) rest.entries);
      feeder = rest.feeder ∙ next.filed.feeder;
      own_are = own-cons p.feeder e rest.entries refl (subst (λ (k : ℕ). own k rest.entries ≡ rest.entries) next.filed.feeder rest.own_are);
      texts_are = ap (λ (us : List FilingView). t ∷ us) rest.texts_are;
      full = λ most. absurd (omega (arith, most, next.filed.room, ap (λ (es : List EntryView). length es) next.at_once));
    }

-- ---- answers in a longer history

all-filter : (P : EntryView → Type 0) (test : EntryView → Bool) (es : List EntryView) → AllByRecursion P es → AllByRecursion P (filter test es)
all-filter P test [] all = tt
all-filter P test (e ∷ es) all = by (test e) (all-filter P test es all.1)
  where
    by : (b : Bool) → AllByRecursion P (filter test es) → AllByRecursion P (cond b (e ∷ filter test es) (filter test es))
    by true rest = (all.0, rest)
    by false rest = rest

all-back : (P : EntryView → Type 0) (front back : List EntryView) → AllByRecursion P (front ++ back) → AllByRecursion P back
all-back P [] back all = all
all-back P (e ∷ front) back all = all-back P front back all.1

all-each : (P : EntryView → Type 0) (es : List EntryView) → All P es → AllByRecursion P es
all-each P [] all = tt
all-each P (e ∷ es) all = (all 0 e (omega arith), all-each P es (λ k d lt. all (suc k) d (omega (arith, lt))))

all-so : (P Q : EntryView → Type 0) (es : List EntryView) → ((e : EntryView) → P e → Q e) → AllByRecursion P es → AllByRecursion Q es
all-so P Q [] so all = tt
all-so P Q (e ∷ es) so all = (so e all.0, all-so P Q es so all.1)

-- what was told of a feeder's last entries is the same in a longer history
pub told-later : (s : SetupView) (q r : List EntryView) (k : ℕ) (front es : List EntryView) (fs : List (List ℕ)) → IsPrefix q r → IsLawful s r → own k q ≡ front ++ es
    → told (after s r) fs es ≡ told (after s q) fs es
told-later s q r k front es fs p lawful are =
    let Same : EntryView → Type 0 = λ e. answer_of (after s r) e ≡ answer_of (after s q) e in
    let all : AllByRecursion Same q = all-so (Contains q) Same q (λ e has. answer-early s q r e p lawful has) (all-each (Contains q) q (All-contains_itself q)) in
    told-same (after s q) (after s r) fs es (all-back Same front es (subst (λ (ls : List EntryView). AllByRecursion Same ls) are (all-filter Same (λ (e : EntryView). e.input.feeder == k) q all)))

-- ---- frames that were answered

texts-length : (es : List EntryView) → length (texts_of es) ≡ length es
texts-length es = length-map es (λ (e : EntryView). e.input.text)

texts-append : (es fs : List EntryView) → texts_of (es ++ fs) ≡ texts_of es ++ texts_of fs
texts-append es fs = map-append (λ (e : EntryView). e.input.text) es fs

-- none were, though others' entries were seen
pub Serves-saw : (s : SetupView) (p q : PassView) → SawOthers p q → IsLawful s q.seen → Serves s p [] q []
unfolding filings
Serves-saw s p q saw lawful = record {
  entries = [];
  later = saw.more.later;
  feeder = saw.more.feeder;
  own_are = saw.none_own ∙ sym (append-nil (own p.feeder p.seen));
  lawful = lawful;
  front = ([], refl);
  whole = λ _. refl;
  full = λ _. refl;
  text_is = sym (told-none (after s q.seen) []);
}

-- none were
pub Serves-none : (s : SetupView) (p : PassView) → IsLawful s p.seen → Serves s p [] p []
unfolding filings
Serves-none s p lawful = record {
  entries = [];
  later = prefix_self p.seen;
  feeder = refl;
  own_are = sym (append-nil (own p.feeder p.seen));
  lawful = lawful;
  front = ([], refl);
  whole = λ _. refl;
  full = λ _. refl;
  text_is = sym (told-none (after s p.seen) []);
}

-- the first entries, those of a feeder, have no more filings than their frames
fits : (s : SetupView) (p q : PassView) (done : List (List ℕ)) (text : List ℕ) (h : Serves s p done q text) → length h.entries ≤ length (filings done)
fits s p q done text h = omega (arith, prefix_length (texts_of h.entries) (filings done) h.front, texts-length h.entries)

room-or : (m n : ℕ) → (m < n) ⊎ (n ≤ m)
room-or m n = by (nat_lt m n) refl
  where
    by : (b : Bool) → nat_lt m n ≡ b → (m < n) ⊎ (n ≤ m)
    by true is = inl (ltb-true m n is)
    by false is = inr (grind (arith, nat_tests))

module _ (s : SetupView) (p q r : PassView) (done more : List (List ℕ)) (text next : List ℕ) (a : Serves s p done q text) (b : Serves s q more r next) where
  still-told : told (after s r.seen) done a.entries ≡ text
  still-told = told-later s q.seen r.seen q.feeder (own p.feeder p.seen) a.entries done b.later b.lawful a.own_are ∙ sym a.text_is

  both-whole : length q.seen < s.max_entries → texts_of (a.entries ++ b.entries) ≡ filings done ++ texts_of b.entries
  both-whole room = texts-append a.entries b.entries ∙ ap (λ (ts : List FilingView). ts ++ texts_of b.entries) (a.whole room)

  both-own : own r.feeder r.seen ≡ own p.feeder p.seen ++ (a.entries ++ b.entries)
  both-own = b.own_are ∙ (ap (λ (es : List EntryView). es ++ b.entries) a.own_are ∙ append_assoc (own p.feeder p.seen) a.entries b.entries)

  earlier : (n : ℕ) → length r.seen < n → length q.seen < n
  earlier n room = omega (arith, room, prefix_length q.seen r.seen b.later)

  Serves-room : length q.seen < s.max_entries → Serves s p (done ++ more) r (text ++ next)
  Serves-room room = record {
    entries = a.entries ++ b.entries;
    later = prefix_trans p.seen q.seen r.seen a.later b.later;
    feeder = b.feeder ∙ a.feeder;
    own_are = both-own;
    lawful = b.lawful;
    front = (
      b.front.0,
      ap (λ (ts : List FilingView). ts ++ b.front.0) (both-whole room) ∙ (append_assoc (filings done) (texts_of b.entries) b.front.0 ∙ (ap (λ (ts : List FilingView). filings done ++ ts) b.front.1 ∙ sym (filings-append done more))),
    );
    whole = λ left. both-whole room ∙ (ap (λ (ts : List FilingView). filings done ++ ts) (b.whole left) ∙ sym (filings-append done more));
    full = λ most. absurd (omega (arith, most, room, prefix_length p.seen q.seen a.later));
    text_is = ap (λ (t : List ℕ). t ++ next) (sym still-told) ∙ (ap (λ (t : List ℕ). told (after s r.seen) done a.entries ++ t) b.text_is
        ∙ sym (told-whole (after s r.seen) done more a.entries b.entries (sym (texts-length a.entries) ∙ ap (λ (ts : List FilingView). length ts) (a.whole room))));
  }

  Serves-full : s.max_entries ≤ length q.seen → Serves s p (done ++ more) r (text ++ next)
  Serves-full most =
      let none : b.entries ≡ [] = b.full most in
      record {
        entries = a.entries;
        later = prefix_trans p.seen q.seen r.seen a.later b.later;
        feeder = b.feeder ∙ a.feeder;
        own_are = b.own_are ∙ (ap (λ (es : List EntryView). own q.feeder q.seen ++ es) none ∙ (append-nil (own q.feeder q.seen) ∙ a.own_are));
        lawful = b.lawful;
        front = (
          a.front.0 ++ filings more,
          sym (append_assoc (texts_of a.entries) a.front.0 (filings more)) ∙ (ap (λ (ts : List FilingView). ts ++ filings more) a.front.1 ∙ sym (filings-append done more)),
        );
        whole = λ left. absurd (omega (arith, most, left, prefix_length q.seen r.seen b.later));
        full = a.full;
        text_is = ap (λ (t : List ℕ). t ++ next) (sym still-told)
            ∙ (ap (λ (t : List ℕ). told (after s r.seen) done a.entries ++ t) (b.text_is ∙ ap (λ (es : List EntryView). told (after s r.seen) more es) none)
            ∙ sym (told-front (after s r.seen) done more a.entries (fits s p q done text a)));
      }

  -- some were, and then others
  pub Serves-then : Serves s p (done ++ more) r (text ++ next)
  Serves-then = elim (room-or (length q.seen) s.max_entries) [
    | inl room ↦ Serves-room room
    | inr most ↦ Serves-full most
  ]

-- one more was, which is too long
pub Serves-long : (s : SetupView) (p q : PassView) (done : List (List ℕ)) (text frame : List ℕ) → None ≡ filing_of frame → Serves s p done q text
    → Serves s p (done ++ frame ∷ []) q (text ++ (too_long_line ++ 10 ∷ []))
Serves-long s p q done text frame none h =
    let long : leb (length frame) 2000 ≡ false = is-long frame none in
    let same : filings done ≡ filings (done ++ frame ∷ []) = sym (filings-append done (frame ∷ []) ∙ (ap (λ (ts : List FilingView). filings done ++ ts) (one-long frame long) ∙ append-nil (filings done))) in
    record {
      entries = h.entries;
      later = h.later;
      feeder = h.feeder;
      own_are = h.own_are;
      lawful = h.lawful;
      front = (h.front.0, h.front.1 ∙ same);
      whole = λ room. h.whole room ∙ same;
      full = h.full;
      text_is = ap (λ (t : List ℕ). t ++ (too_long_line ++ 10 ∷ [])) h.text_is
          ∙ (ap (λ (t : List ℕ). told (after s q.seen) done h.entries ++ t) (sym (told-long (after s q.seen) frame long))
          ∙ sym (told-front (after s q.seen) done (frame ∷ []) h.entries (fits s p q done text h)));
    }

-- ---- a batch

module _ (s : SetupView) (p q : PassView) (waiting : List (List ℕ)) (ready left : List FilingView) (h : FiledFront s p ready q left) (are : filings waiting ≡ ready) (each : length ready ≡ length waiting) where
  -- what was filed of it, and what its answers are
  pub Serves-batch : IsLawful s q.seen → (length q.seen < s.max_entries → left ≡ []) → Serves s p waiting q (newest_answers s (length ready - length left) (10 ∷ []) q.seen ++ full_answers (length left))
  Serves-batch lawful last =
      let saw : PassView = h.saw in
      let e = entered s saw h.front q h.filed in
      let es : List EntryView = e.entries in
      let front_is : texts_of es ++ left ≡ filings waiting = ap (λ (ts : List FilingView). ts ++ left) e.texts_are ∙ (h.texts_are ∙ sym are) in
      let many : length ready ≡ length es + length left =
      sym (ap (λ (ts : List FilingView). length ts) (front_is ∙ are)) ∙ (length-append (texts_of es) left ∙ ap (λ (n : ℕ). n + length left) (texts-length es)) in
      let seen_many : length q.seen ≡ length saw.seen + length es = ap (λ (ls : List EntryView). length ls) e.seen ∙ length-append saw.seen es in
      let index : length q.seen - (length ready - length left) ≡ length saw.seen = omega (arith, many, seen_many) in
      let newest_is : newest_entries (length ready - length left) q.seen ≡ es = ap (λ (n : ℕ). drop n q.seen) index ∙ (ap (λ (ls : List EntryView). drop (length saw.seen) ls) e.seen ∙ drop-append_seam saw.seen es) in
      record {
        entries = es;
        later = prefix_trans p.seen saw.seen q.seen h.others.more.later (es, sym e.seen);
        feeder = e.feeder ∙ h.others.more.feeder;
        own_are = ap (λ (k : ℕ). own k q.seen) e.feeder ∙ (ap (λ (ls : List EntryView). own saw.feeder ls) e.seen ∙ (own-append saw.feeder saw.seen es
            ∙ (ap (λ (ls : List EntryView). own saw.feeder saw.seen ++ ls) e.own_are ∙ ap (λ (ls : List EntryView). ls ++ es) h.others.none_own)));
        lawful = lawful;
        front = (left, front_is);
        whole = λ room. sym (append-nil (texts_of es)) ∙ (ap (λ (ts : List FilingView). texts_of es ++ ts) (sym (last room)) ∙ front_is);
        full = λ most. e.full (omega (arith, most, prefix_length p.seen saw.seen h.others.more.later));
        text_is = ap (λ (ls : List EntryView). answers_with (10 ∷ []) (after s q.seen) ls ++ full_answers (length left)) newest_is
            ∙ sym (told-filings (after s q.seen) waiting es (length left) (ap (λ (ts : List FilingView). length ts) are ∙ each) (omega (arith, many, each)));
      }

-- ---- frames that were answered or are ready

no-filings : filings [] ≡ []
unfolding filings
no-filings = refl

none-of : {X : Type 0} (xs : List X) → length xs ≡ 0 → xs ≡ []
none-of [] none = refl
none-of (x ∷ xs) none = absurd (omega (arith, none))

-- all were answered
pub Prepares-all : (s : SetupView) (p q : PassView) (done : List (List ℕ)) (text : List ℕ) (ready : List FilingView) → ready ≡ [] → Serves s p done q text → Prepares s p done q text ready
Prepares-all s p q done text ready none h = record {
  answered = done;
  waiting = [];
  served = h;
  done_is = sym (append-nil done);
  ready_is = no-filings ∙ sym none;
  each = ap (λ (ts : List FilingView). length ts) none;
}

module _ (s : SetupView) (p q : PassView) (done : List (List ℕ)) (text : List ℕ) (ready : List FilingView) (h : Prepares s p done q text ready) where
  -- where none is ready all were
  pub Prepares-none : ready ≡ [] → Serves s p done q text
  Prepares-none none =
      let empty : h.waiting ≡ [] = none-of h.waiting (sym h.each ∙ ap (λ (ts : List FilingView). length ts) none) in
      let is : h.answered ≡ done = sym (h.done_is ∙ (ap (λ (fs : List (List ℕ)). h.answered ++ fs) empty ∙ append-nil h.answered)) in
      subst (λ (fs : List (List ℕ)). Serves s p fs q text) is h.served

  -- those that were ready were filed
  pub Prepares-filed : (r : PassView) (left : List FilingView) → FiledFront s q ready r left → IsLawful s r.seen → (length r.seen < s.max_entries → left ≡ [])
      → Serves s p done r (text ++ (newest_answers s (length ready - length left) (10 ∷ []) r.seen ++ full_answers (length left)))
  Prepares-filed r left filed lawful last =
      let next : List ℕ = newest_answers s (length ready - length left) (10 ∷ []) r.seen ++ full_answers (length left) in
      subst (λ (fs : List (List ℕ)). Serves s p fs r (text ++ next)) (sym h.done_is)
      (Serves-then s p q r h.answered h.waiting text next h.served (Serves-batch s q r h.waiting ready left filed h.ready_is h.each lawful last))

  -- one more is ready
  pub Prepares-one : (frame : List ℕ) (filing : FilingView) → Some filing ≡ filing_of frame → Prepares s p (done ++ frame ∷ []) q text (ready ++ filing ∷ [])
  Prepares-one frame filing is =
      let one : filings (frame ∷ []) ≡ filing ∷ [] = one-whole frame (is-whole frame filing is) ∙ ap (λ (f : FilingView). f ∷ []) (sym (whole-is frame filing is)) in
      record {
        answered = h.answered;
        waiting = h.waiting ++ frame ∷ [];
        served = h.served;
        done_is = ap (λ (fs : List (List ℕ)). fs ++ frame ∷ []) h.done_is ∙ append_assoc h.answered h.waiting (frame ∷ []);
        ready_is = filings-append h.waiting (frame ∷ []) ∙ (ap (λ (ts : List FilingView). ts ++ filings (frame ∷ [])) h.ready_is ∙ ap (λ (ts : List FilingView). ready ++ ts) one);
        each = omega (arith, h.each, length-append ready (filing ∷ []), length-append h.waiting (frame ∷ []));
      }

-- ---- what a call for a batch does

-- all that were ready were filed
pub filed-all : (s : SetupView) (p q r : PassView) (done : List (List ℕ)) (text : List ℕ) (ready left : List FilingView) (longer : List ℕ) → Prepares s p done q text ready → FiledFront s q ready r left → IsLawful s r.seen → left ≡ []
    → longer ≡ text ++ newest_answers s (length ready - length left) (10 ∷ []) r.seen → Serves s p done r longer
filed-all s p q r done text ready left longer h filed lawful none are =
    let collected : List ℕ = newest_answers s (length ready - length left) (10 ∷ []) r.seen in
    let same : text ++ (collected ++ full_answers (length left)) ≡ longer =
    ap (λ (n : ℕ). text ++ (collected ++ full_answers n)) (ap (λ (ts : List FilingView). length ts) none) ∙ (ap (λ (t : List ℕ). text ++ t) (append-nil collected) ∙ sym are) in
    subst (λ (t : List ℕ). Serves s p done r t) same (Prepares-filed s p q done text ready h r left filed lawful (λ room. none))

-- the others found the journal full
pub filed-left : {T E : Type 0} (result : Result T E) (s : SetupView) (q r : PassView) (text : List ℕ) (ready left : List FilingView) (longer longest : List ℕ) → FiledFront s q ready r left → IsLawful s r.seen → length r.seen ≡ s.max_entries
    → longer ≡ text ++ newest_answers s (length ready - length left) (10 ∷ []) r.seen → OnOk result (longest ≡ longer ++ full_answers (length left))
    → OnOk result ((p : PassView) (done : List (List ℕ)) → Prepares s p done q text ready → Serves s p done r longest)
filed-left (Err e) s q r text ready left longer longest filed lawful full are more = tt
filed-left (Ok x) s q r text ready left longer longest filed lawful full are more = λ p done h.
    let collected : List ℕ = newest_answers s (length ready - length left) (10 ∷ []) r.seen in
    let same : text ++ (collected ++ full_answers (length left)) ≡ longest =
    sym (append_assoc text collected (full_answers (length left))) ∙ (ap (λ (t : List ℕ). t ++ full_answers (length left)) (sym are) ∙ sym more) in
    subst (λ (t : List ℕ). Serves s p done r t) same (Prepares-filed s p q done text ready h r left filed lawful (λ room. absurd (omega (arith, room, full))))

-- the frame that was taken is too long: those that were ready were answered, and then it was
pub takes-long : {T E : Type 0} (result : Result T E) (s : SetupView) (kept : Option FilingView) (q r : PassView) (text longer longest line : List ℕ) (ready left : List FilingView) → kept ≡ None → left ≡ [] → line ≡ too_long_line
    → ((p : PassView) (done : List (List ℕ)) → Prepares s p done q text ready → Serves s p done r longer) → OnOk result (longest ≡ longer ++ (line ++ 10 ∷ []))
    → OnOk result (TakesNext s kept q text ready r longest left)
takes-long (Err e) s kept q r text longer longest line ready left none empty is served more = tt
takes-long (Ok x) s kept q r text longer longest line ready left none empty is served more = λ p done frame of h.
    let same : longer ++ (too_long_line ++ 10 ∷ []) ≡ longest = ap (λ (l : List ℕ). longer ++ (l ++ 10 ∷ [])) (sym is) ∙ sym more in
    Prepares-all s p r (done ++ frame ∷ []) longest left empty
    (subst (λ (t : List ℕ). Serves s p (done ++ frame ∷ []) r t) same (Serves-long s p r done longer frame (sym none ∙ of) (served p done h)))

-- it is ready
pub takes-one : (s : SetupView) (kept : Option FilingView) (bytes : List ℕ) (q : PassView) (text same : List ℕ) (ready more : List FilingView) → kept ≡ Some (second bytes) → more ≡ ready ++ second bytes ∷ [] → same ≡ text
    → TakesNext s kept q text ready q same more
takes-one s kept bytes q text same ready more some is text_is p done frame of h =
    let one = Prepares-one s p q done text ready h frame (second bytes) (sym some ∙ of) in
    subst (λ (ts : List FilingView). Prepares s p (done ++ frame ∷ []) q same ts) (sym is) (subst (λ (t : List ℕ). Prepares s p (done ++ frame ∷ []) q t (ready ++ second bytes ∷ [])) (sym text_is) one)

-- it was ready, and all were answered
pub takes-all : {T E : Type 0} (result : Result T E) (s : SetupView) (kept : Option FilingView) (q r : PassView) (text mid longer : List ℕ) (ready more left : List FilingView) → TakesNext s kept q text ready q mid more
    → OnOk result ((p : PassView) (done : List (List ℕ)) → Prepares s p done q mid more → Serves s p done r longer) → OnOk result (left ≡ []) → OnOk result (TakesNext s kept q text ready r longer left)
takes-all (Err e) s kept q r text mid longer ready more left next served none = tt
takes-all (Ok x) s kept q r text mid longer ready more left next served none = λ p done frame of h.
    Prepares-all s p r (done ++ frame ∷ []) longer left none (served p (done ++ frame ∷ []) (next p done frame of h))

-- nothing was taken yet
pub Prepares-start : (s : SetupView) (p : PassView) (text : List ℕ) (ready : List FilingView) → IsLawful s p.seen → ready ≡ [] → text ≡ [] → Prepares s p [] p text ready
Prepares-start s p text ready lawful none empty =
    Prepares-all s p p [] text ready none (subst (λ (t : List ℕ). Serves s p [] p t) (sym empty) (Serves-none s p lawful))
