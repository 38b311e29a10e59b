-- Answering frames, one after the other.
use Rattle.std.proofs.Common.{◌≡◌, ◌≤◌, ℕ, ◌⊎◌, inl, inr, Bool, true, false, cond, List, [], ◌∷◌, ◌++◌, length, arith, refl, sym, ap, ◌∙◌, subst, Option, Some, None, append_assoc, ltb, leb, codes, IfSome, Result, Err, IsErrOf}
use Rattle.std.specs.Result.{IsErrAnd}
use Rattle.std.proofs.lemmas.Result.{err_from_is_err_and}
use Rattle.std.proofs.lemmas.List.{append-nil}
use Rattle.std.specs.Io.KnownBytes.{Appends, Keeps}
use Rattle.std.proofs.KnownBytes.{Appends-nil, Appends-trans, Consumes-nil}
use Rattle.fpl_message.specs.Filings.{FilingView}
use Rattle.flow_input.specs.Frames.{frames}
use Rattle.flow_input.specs.Reader.{InputView, Agrees, Came, CameTooMuch}
use Rattle.flow_input.specs.NextFrame.{second, filing_of, GaveFirst, GaveNone, Starves}
use Rattle.flow_input.specs.Cutting.{Cutting, CutFront, Overrun}
use Rattle.flow_input.specs.Writes.{AppendsFront}
use Rattle.flow_input.proofs.Cuttings.{Cutting-start, Cutting-one, Cutting-end, Cutting-within, CutFront-came, CutFront-one, CutEnded-read, Overrun-came}
use Rattle.flow_input.proofs.Written.{AppendsFront-both}
use Rattle.flow_core.specs.State.{State}
use Rattle.flow_core.specs.Steps.{step}
use Rattle.flow_core.specs.Output.{answer_text}
use Rattle.flow_core.specs.Served.{served, answer_to, output, served_all, as_input}
use Rattle.flow_core.specs.Serving.{Answered, AnswersFrame, AnswersPart, AppendsMore, ServedMore, Serving, Stopped, Starved, fault_of}
use Rattle.flow_core.specs.declared.serving.ServeFault.TheVariants as serve
use Rattle.flow_input.specs.declared.fault.IntakeFault.{IntakeFault}
use Rattle.flow_input.specs.declared.fault.IntakeFault.TheVariants as intake

module _ (s : State) (frame : List ℕ) where
  -- a frame that is too long
  pub served-long : None ≡ filing_of frame → served s frame ≡ s
  unfolding served
  served-long h = by (leb (length frame) 2000) h
    where
      by : (b : Bool) → None ≡ (cond b (Some (second frame)) None) → cond b (cond (ltb (length s.journal) s.setup.max_entries) (step s (as_input frame)) s) s ≡ s
      by true h = absurd (cc)
      by false h = refl

  pub said-long : None ≡ filing_of frame → answer_to s frame ≡ codes "- NO 90 TooLong\n"
  unfolding answer_to
  said-long h = by (leb (length frame) 2000) h
    where
      by : (b : Bool) → None ≡ (cond b (Some (second frame)) None) → cond b (cond (ltb (length s.journal) s.setup.max_entries) (answer_text (step s (as_input frame)) (length s.journal)) (codes "- NO 91 JournalFull\n")) (codes "- NO 90 TooLong\n") ≡ codes "- NO 90 TooLong\n"
      by true h = absurd (cc)
      by false h = refl

  -- a frame that is a filing
  pub served-whole : (text : FilingView) → Some text ≡ filing_of frame → ltb (length s.journal) s.setup.max_entries ≡ true → served s frame ≡ step s (record { feeder = 0; text = text })
  unfolding served
  served-whole text h r = by (leb (length frame) 2000) h
    where
      by : (b : Bool) → Some text ≡ (cond b (Some (second frame)) None) → cond b (cond (ltb (length s.journal) s.setup.max_entries) (step s (as_input frame)) s) s ≡ step s (record { feeder = 0; text = text })
      by true e = let same : second frame ≡ text = cc in rw r (ap (λ (t : FilingView). step s (record { feeder = 0; text = t })) same)
      by false e = absurd (cc)

  pub said-whole : (text : FilingView) → Some text ≡ filing_of frame → ltb (length s.journal) s.setup.max_entries ≡ true → answer_to s frame ≡ answer_text (step s (record { feeder = 0; text = text })) (length s.journal)
  unfolding answer_to
  said-whole text h r = by (leb (length frame) 2000) h
    where
      by : (b : Bool) → Some text ≡ (cond b (Some (second frame)) None) → cond b (cond (ltb (length s.journal) s.setup.max_entries) (answer_text (step s (as_input frame)) (length s.journal)) (codes "- NO 91 JournalFull\n")) (codes "- NO 90 TooLong\n") ≡ answer_text (step s (record { feeder = 0; text = text })) (length s.journal)
      by true e = let same : second frame ≡ text = cc in rw r (ap (λ (t : FilingView). answer_text (step s (record { feeder = 0; text = t })) (length s.journal)) same)
      by false e = absurd (cc)

  -- a filing at a full journal
  pub served-full : (text : FilingView) → Some text ≡ filing_of frame → ltb (length s.journal) s.setup.max_entries ≡ false → served s frame ≡ s
  unfolding served
  served-full text h r = by (leb (length frame) 2000)
    where
      by : (b : Bool) → cond b (cond (ltb (length s.journal) s.setup.max_entries) (step s (as_input frame)) s) s ≡ s
      by true = rw r refl
      by false = refl

  pub said-full : (text : FilingView) → Some text ≡ filing_of frame → ltb (length s.journal) s.setup.max_entries ≡ false → answer_to s frame ≡ codes "- NO 91 JournalFull\n"
  unfolding answer_to
  said-full text h r = by (leb (length frame) 2000) h
    where
      by : (b : Bool) → Some text ≡ (cond b (Some (second frame)) None) → cond b (cond (ltb (length s.journal) s.setup.max_entries) (answer_text (step s (as_input frame)) (length s.journal)) (codes "- NO 91 JournalFull\n")) (codes "- NO 90 TooLong\n") ≡ codes "- NO 91 JournalFull\n"
      by true e = rw r refl
      by false e = absurd (cc)

-- ---- lists of frames

output-append : (s : State) (fs gs : List (List ℕ)) → output s (fs ++ gs) ≡ output s fs ++ output (served_all s fs) gs
unfolding output served_all
output-append s [] gs = refl
output-append s (f ∷ fs) gs = ap (λ (bs : List ℕ). answer_to s f ++ bs) (output-append (served s f) fs gs) ∙ sym (append_assoc (answer_to s f) (output (served s f) fs) (output (served_all (served s f) fs) gs))

after-append : (s : State) (fs gs : List (List ℕ)) → served_all s (fs ++ gs) ≡ served_all (served_all s fs) gs
unfolding served_all
after-append s [] gs = refl
after-append s (f ∷ fs) gs = after-append (served s f) fs gs

output-one : (s : State) (f : List ℕ) → output s (f ∷ []) ≡ answer_to s f
unfolding output
output-one s f = append-nil (answer_to s f)

after-one : (s : State) (f : List ℕ) → served_all s (f ∷ []) ≡ served s f
unfolding served_all
after-one s f = refl

after-nil : (s : State) → served_all s [] ≡ s
unfolding served_all
after-nil s = refl

output-nil : (s : State) → output s [] ≡ []
unfolding output
output-nil s = refl

AppendsFront-whole : (old new : Option (List ℕ)) (bytes more all : List ℕ) → Appends old new bytes → bytes ++ more ≡ all → AppendsFront old new all
AppendsFront-whole None new bytes more all a e = tt
AppendsFront-whole (Some o) None bytes more all a e = absurd a
AppendsFront-whole (Some o) (Some n) bytes more all a e = (bytes, more, sym e, a)

AppendsMore-whole : (old new : Option (List ℕ)) (bytes : List ℕ) → Appends old new bytes → AppendsMore old new bytes
AppendsMore-whole old new bytes a = ([], subst (λ (bs : List ℕ). Appends old new bs) (sym (append-nil bytes)) a)

AppendsMore-front : (old mid new : Option (List ℕ)) (bytes more : List ℕ) → Appends old mid bytes → AppendsFront mid new more → AppendsMore old new bytes
AppendsMore-front None mid new bytes more a f = ([], tt)
AppendsMore-front (Some o) None new bytes more a f = absurd a
AppendsMore-front (Some o) (Some m) None bytes more a f = absurd f
AppendsMore-front (Some o) (Some m) (Some n) bytes more a f = (f.0, f.3 ∙ ap (λ (q : List ℕ). q ++ f.0) a ∙ append_assoc o bytes f.0)

-- where just the output of what was served was written, an end of an answer is missing nowhere
pub Stopped-answered : (first now : State) (begun written input rest : Option (List ℕ)) → Answered first now begun written input rest → Stopped first now begun written input rest
Stopped-answered first now begun written input rest a =
    record {
      read = a.read;
      consumed = a.consumed;
      answered = a.answered;
      last = [];
      others = a.others;
      whole = a.whole;
      one = omega arith;
      state = a.state ∙ ap (served_all first) (sym (append-nil a.answered));
      most = AppendsMore-whole begun written (output first a.answered) a.appended;
      front = AppendsFront-whole begun written (output first a.answered) [] (output first (a.answered ++ [])) a.appended (append-nil (output first a.answered) ∙ ap (output first) (sym (append-nil a.answered)));
    }

-- ---- frames that were served

-- none
pub Served-none : (s : State) (written : Option (List ℕ)) (ahead : InputView) (rest : Option (List ℕ)) → ServedMore s s written written ahead ahead rest rest
Served-none s written ahead rest =
    record {
      frames = [];
      cutting = λ done input cut. subst (λ (fs : List (List ℕ)). Cutting fs ahead input rest) (sym (append-nil done)) cut;
      state = sym (after-nil s);
      appended = subst (λ (bs : List ℕ). Appends written written bs) (sym (output-nil s)) (Appends-nil written);
    }

-- one that came
pub Served-one : (s next : State) (written then : Option (List ℕ)) (old new : InputView) (mid rest : Option (List ℕ)) (filing : Option FilingView) → GaveFirst filing old new mid rest → AnswersFrame filing s next written then → ServedMore s next written then old new mid rest
Served-one s next written then old new mid rest filing f a =
    let did = a f.whole.frame f.filed in
    record {
      frames = f.whole.frame ∷ [];
      cutting = λ done input cut. Cutting-one done old input mid cut new rest filing f;
      state = did.0 ∙ sym (after-one s f.whole.frame);
      appended = subst (λ (bs : List ℕ). Appends written then bs) (sym (output-one s f.whole.frame)) did.1;
    }

-- some, and then others
pub Served-both : (s next last : State) (written then now : Option (List ℕ)) (old mid new : InputView) (input some rest : Option (List ℕ)) → ServedMore s next written then old mid input some → ServedMore next last then now mid new some rest → ServedMore s last written now old new input rest
Served-both s next last written then now old mid new input some rest a b =
    record {
      frames = a.frames ++ b.frames;
      cutting = λ done whole cut. subst (λ (fs : List (List ℕ)). Cutting fs new whole rest) (append_assoc done a.frames b.frames) (b.cutting (done ++ a.frames) whole (a.cutting done whole cut));
      state = b.state ∙ ap (λ (t : State). served_all t b.frames) a.state ∙ sym (after-append s a.frames b.frames);
      appended = subst (λ (bs : List ℕ). Appends written now bs) (ap (λ (t : State). output s a.frames ++ output t b.frames) a.state ∙ sym (output-append s a.frames b.frames))
          (Appends-trans written then now (output s a.frames) (output next b.frames) a.appended b.appended);
    }

-- ---- in the middle

-- nothing was read yet
pub Serving-start : (s : State) (begun : Option (List ℕ)) (ahead : InputView) (input : Option (List ℕ)) → ahead ≡ record { unread = []; taken = 0; ended = false; item = Some [] } → Serving s s begun begun ahead input input
Serving-start s begun ahead input e =
    record {
      done = [];
      cutting = Cutting-start ahead input e;
      state = sym (after-nil s);
      appended = subst (λ (bs : List ℕ). Appends begun begun bs) (sym (output-nil s)) (Appends-nil begun);
    }

Appends-kept : (begun written kept : Option (List ℕ)) (bytes : List ℕ) → Appends begun written bytes → Keeps written kept → Appends begun kept bytes
Appends-kept None written kept bytes a k = tt
Appends-kept (Some b) None kept bytes a k = absurd a
Appends-kept (Some b) (Some w) None bytes a k = absurd k
Appends-kept (Some b) (Some w) (Some v) bytes a k = k ∙ a

-- and it comes on by the frames that were served
pub Serving-more : (first now next : State) (begun written then : Option (List ℕ)) (old new : InputView) (input mid rest : Option (List ℕ)) → Serving first now begun written old input mid → ServedMore now next written then old new mid rest → Serving first next begun then new input rest
Serving-more first now next begun written then old new input mid rest s more =
    record {
      done = s.done ++ more.frames;
      cutting = more.cutting s.done input s.cutting;
      state = more.state ∙ ap (λ (t : State). served_all t more.frames) s.state ∙ sym (after-append first s.done more.frames);
      appended = subst (λ (bs : List ℕ). Appends begun then bs) (ap (λ (t : State). output first s.done ++ output t more.frames) s.state ∙ sym (output-append first s.done more.frames))
          (Appends-trans begun written then (output first s.done) (output now more.frames) s.appended more.appended);
    }

-- what was written is flushed
pub Serving-kept : (first now : State) (begun written kept : Option (List ℕ)) (ahead : InputView) (input mid : Option (List ℕ))
    → Serving first now begun written ahead input mid → Keeps written kept → Serving first now begun kept ahead input mid
Serving-kept first now begun written kept ahead input mid s k =
    record { done = s.done; cutting = s.cutting; state = s.state; appended = Appends-kept begun written kept (output first s.done) s.appended k }

module _ (first now : State) (begun written : Option (List ℕ)) (old : InputView) (input mid : Option (List ℕ)) (s : Serving first now begun written old input mid) where
  -- if flushing failed, nothing more was read
  pub Answered-here : Answered first now begun written input mid
  Answered-here =
      let cut = s.cutting in
      record { read = cut.read; consumed = cut.consumed; answered = s.done; others = frames old.unread; whole = cut.whole; state = s.state; appended = s.appended }

  -- where reading stopped, the frames that were served are the first of what was read
  pub Answered-none : (rest : Option (List ℕ)) → old.ended ≡ false → Came mid rest → Answered first now begun written input rest
  Answered-none rest going m =
      let cut = CutFront-came s.done old input mid s.cutting rest going m in
      record { read = cut.read; consumed = cut.consumed; answered = s.done; others = cut.others; whole = cut.whole; state = s.state; appended = s.appended }

  -- where the reader failed, they are those that had ended
  pub Starved-read : (rest : Option (List ℕ)) → old.ended ≡ false → Starves old mid rest → Starved first now begun written input rest
  Starved-read rest going m =
      let cut = CutEnded-read s.done old input mid s.cutting rest going m in
      record {
        read = cut.read;
        consumed = cut.consumed;
        state = s.state ∙ ap (served_all first) (sym cut.whole);
        whole = subst (λ (fs : List (List ℕ)). Appends begun written (output first fs)) (sym cut.whole) s.appended;
      }

  pub Overrun-read : (rest : Option (List ℕ)) → CameTooMuch old mid rest → Overrun input rest
  Overrun-read rest m = Overrun-came s.done old input mid s.cutting rest m

  -- at the end all frames were served
  pub Served-output : (new : InputView) (rest : Option (List ℕ)) → GaveNone old new mid rest → Agrees new rest → IfSome input (λ bytes. Appends begun written (output first (frames bytes)))
  Served-output new rest f agrees = Cutting-end s.done old input mid s.cutting new rest (λ fs. Appends begun written (output first fs)) f agrees s.appended

  pub Served-state : (new : InputView) (rest : Option (List ℕ)) → GaveNone old new mid rest → Agrees new rest → IfSome input (λ bytes. now ≡ served_all first (frames bytes))
  Served-state new rest f agrees = Cutting-end s.done old input mid s.cutting new rest (λ fs. now ≡ served_all first fs) f agrees s.state

  -- and the input isn't too long
  pub Served-within : (new : InputView) (rest : Option (List ℕ)) → GaveNone old new mid rest → Agrees new rest → new.taken ≤ 4000000000 → IfSome input (λ bytes. length bytes ≤ 4000000000)
  Served-within new rest f agrees within = Cutting-within s.done old input mid s.cutting new rest f agrees within

  -- a frame came
  module _ (new : InputView) (rest : Option (List ℕ)) (filing : Option FilingView) (f : GaveFirst filing old new mid rest) where
    said-one : output first (s.done ++ f.whole.frame ∷ []) ≡ output first s.done ++ answer_to now f.whole.frame
    said-one =
        output-append first s.done (f.whole.frame ∷ []) ∙ ap (λ (t : State). output first s.done ++ output t (f.whole.frame ∷ [])) (sym s.state) ∙ ap (λ (bs : List ℕ). output first s.done ++ bs) (output-one now f.whole.frame)

    served-one : served now f.whole.frame ≡ served_all first (s.done ++ f.whole.frame ∷ [])
    served-one = ap (λ (t : State). served t f.whole.frame) s.state ∙ sym (after-append first s.done (f.whole.frame ∷ []) ∙ after-one (served_all first s.done) f.whole.frame)

    front-one : CutFront (s.done ++ f.whole.frame ∷ []) input rest
    front-one = CutFront-one s.done old input mid s.cutting new rest filing f

    -- its answer wasn't written whole
    pub Stopped-part : (next : State) (then : Option (List ℕ)) → AnswersPart filing now next written then → Stopped first next begun then input rest
    Stopped-part next then a =
        let did = a f.whole.frame f.filed in
        let cut = front-one in
        record {
          read = cut.read;
          consumed = cut.consumed;
          answered = s.done;
          last = f.whole.frame ∷ [];
          others = cut.others;
          whole = cut.whole ∙ append_assoc s.done (f.whole.frame ∷ []) cut.others;
          one = omega arith;
          state = did.0 ∙ served-one;
          most = AppendsMore-front begun written then (output first s.done) (answer_to now f.whole.frame) s.appended did.1;
          front = AppendsFront-both begun written then (output first s.done) (answer_to now f.whole.frame) (output first (s.done ++ f.whole.frame ∷ [])) s.appended did.1 (sym said-one);
        }

    -- or it wasn't served
    pub Answered-not : (next : State) (then : Option (List ℕ)) → next ≡ now → then ≡ written → Answered first next begun then input rest
    Answered-not next then same kept =
        let cut = front-one in
        record {
          read = cut.read;
          consumed = cut.consumed;
          answered = s.done;
          others = f.whole.frame ∷ cut.others;
          whole = cut.whole ∙ append_assoc s.done (f.whole.frame ∷ []) cut.others;
          state = same ∙ s.state;
          appended = subst (λ (w : Option (List ℕ)). Appends begun w (output first s.done)) (sym kept) s.appended;
        }

-- an allocation failed: nothing was read
pub Answered-start : (s : State) (begun input : Option (List ℕ)) → Answered s s begun begun input input
Answered-start s begun input =
    record {
      read = [];
      consumed = Consumes-nil input;
      answered = [];
      others = frames [];
      whole = refl;
      state = sym (after-nil s);
      appended = subst (λ (bs : List ℕ). Appends begun begun bs) (sym (output-nil s)) (Appends-nil begun);
    }

-- what holds in each of two cases
pub in_both : {A B P : Type 0} → A ⊎ B → (A → P) → (B → P) → P
in_both (inl a) f h = f a
in_both (inr b) f h = h b

pub err_is : {T E : Type 0} {x y : E} → x ≡ y → IsErrOf {T = T} (Err x) y
err_is {T} {E} {x} {y} e = let again : E → Result T E = λ z. Err z in ap again e

-- why no frame came, by the fault of serving
pub of-read : (e : IntakeFault) → fault_of e ≡ serve.Read → e ≡ intake.Read
of-read intake.Read is = refl
of-read intake.TooMuch is = absurd (cc)
of-read intake.OutOfMemory is = absurd (cc)

pub of-much : (e : IntakeFault) → fault_of e ≡ serve.TooMuch → e ≡ intake.TooMuch
of-much intake.Read is = absurd (cc)
of-much intake.TooMuch is = refl
of-much intake.OutOfMemory is = absurd (cc)

-- the fault that a `?` makes
pub err-made : {T E : Type 0} {y : E} (r : Result T E) → IsErrAnd r (λ e. e ≡ y) → r ≡ Err y
err-made r made = let p = err_from_is_err_and r made in p.1 ∙ ap Err p.2
