-- Frames that are taken from an input, one after the other.
use Rattle.std.proofs.Common.{◌≡◌, ◌≤◌, ℕ, length, Bool, true, false, List, [], ◌∷◌, ◌++◌, refl, sym, ap, ◌∙◌, subst, arith, Option, Some, append_assoc, append-nil, IfSome, length-append}
use Rattle.std.proofs.KnownBytes.{Consumes-nil, Consumes-trans, Consumes-whole}
use Rattle.fpl_message.specs.Filings.{FilingView}
use Rattle.flow_input.specs.Frames.{first_cut, frames, ended_frames}
use Rattle.flow_input.specs.Reader.{InputView, Agrees, Came, CameTooMuch}
use Rattle.flow_input.specs.NextFrame.{GaveFirst, GaveNone, Starves}
use Rattle.flow_input.specs.Cutting.{Cutting, CutFront, CutEnded, Overrun}
use Rattle.flow_input.proofs.FrameLists.{extended, frames-some, frames-none, ended-some, first_cut-more}

-- nothing was read yet
pub Cutting-start : (ahead : InputView) (input : Option (List ℕ)) → ahead ≡ record { unread = []; taken = 0; ended = false; item = Some [] } → Cutting [] ahead input input
Cutting-start ahead input e =
    record {
      read = [];
      consumed = Consumes-nil input;
      count = rw e refl;
      whole = rw e refl;
      goes_on = λ _ more. rw e (refl, refl);
    }

module _ (done : List (List ℕ)) (old : InputView) (input mid : Option (List ℕ)) (s : Cutting done old input mid) where
  -- where reading stopped
  pub CutFront-came : (rest : Option (List ℕ)) → old.ended ≡ false → Came mid rest → CutFront done input rest
  CutFront-came rest going m =
      record { read = s.read ++ m.0; consumed = Consumes-trans input mid rest s.read m.0 s.consumed m.1; others = frames (old.unread ++ m.0); whole = (s.goes_on going m.0).0 }

  -- where the reader failed
  pub CutEnded-read : (rest : Option (List ℕ)) → old.ended ≡ false → Starves old mid rest → CutEnded done input rest
  CutEnded-read rest going m =
      record {
        read = s.read ++ m.0;
        consumed = Consumes-trans input mid rest s.read m.0 s.consumed m.1;
        whole = (s.goes_on going m.0).1 ∙ ap (λ (fs : List (List ℕ)). done ++ fs) m.2 ∙ append-nil done;
      }

  -- where too many bytes came
  pub Overrun-came : (rest : Option (List ℕ)) → CameTooMuch old mid rest → Overrun input rest
  Overrun-came rest m =
      record { read = s.read ++ m.0; consumed = Consumes-trans input mid rest s.read m.0 s.consumed m.1; long = omega (arith, m.2, s.count, length-append s.read m.0) }

  -- at the end all frames were taken
  all-cut : (new : InputView) (rest : Option (List ℕ)) (f : GaveNone old new mid rest) (ended : Bool) → old.ended ≡ ended → frames (s.read ++ f.came) ≡ done
  all-cut new rest f true e =
      let none : f.came ≡ [] = f.quiet e in
      let left : frames old.unread ≡ [] = frames-none old.unread (ap first_cut (sym (ap (λ (bs : List ℕ). old.unread ++ bs) none ∙ append-nil old.unread)) ∙ f.is) in
      ap (λ (bs : List ℕ). frames (s.read ++ bs)) none ∙ ap frames (append-nil s.read) ∙ s.whole ∙ ap (λ (fs : List (List ℕ)). done ++ fs) left ∙ append-nil done
  all-cut new rest f false e = (s.goes_on e f.came).0 ∙ ap (λ (fs : List (List ℕ)). done ++ fs) (frames-none (old.unread ++ f.came) f.is) ∙ append-nil done

  -- so what holds of them holds of the frames of the known input
  pub Cutting-end : (new : InputView) (rest : Option (List ℕ)) (P : List (List ℕ) → Type 0) → GaveNone old new mid rest → Agrees new rest → P done → IfSome input (λ bytes. P (frames bytes))
  Cutting-end new rest P f agrees p =
      Consumes-whole input rest (s.read ++ f.came) (λ bytes. P (frames bytes)) (Consumes-trans input mid rest s.read f.came s.consumed f.consumed) (agrees f.ended).1
      (subst P (sym (all-cut new rest f old.ended refl)) p)

  -- and the known input isn't too long
  pub Cutting-within : (new : InputView) (rest : Option (List ℕ)) → GaveNone old new mid rest → Agrees new rest → new.taken ≤ 4000000000 → IfSome input (λ bytes. length bytes ≤ 4000000000)
  Cutting-within new rest f agrees within =
      let none : length new.unread ≡ 0 = ap length (agrees f.ended).0 in
      Consumes-whole input rest (s.read ++ f.came) (λ bytes. length bytes ≤ 4000000000) (Consumes-trans input mid rest s.read f.came s.consumed f.consumed) (agrees f.ended).1
      (omega (arith, s.count, f.count, none, within, length-append s.read f.came))

  -- a frame came
  module _ (new : InputView) (rest : Option (List ℕ)) (filing : Option FilingView) (f : GaveFirst filing old new mid rest) where
    one-more : (fs : List (List ℕ)) → done ++ f.whole.frame ∷ fs ≡ (done ++ f.whole.frame ∷ []) ++ fs
    one-more fs = sym (append_assoc done (f.whole.frame ∷ []) fs)

    read-more : (more : List ℕ) → (s.read ++ f.came) ++ more ≡ s.read ++ (f.came ++ more)
    read-more more = append_assoc s.read f.came more

    left-more : (more : List ℕ) → old.unread ++ (f.came ++ more) ≡ (old.unread ++ f.came) ++ more
    left-more more = sym (append_assoc old.unread f.came more)

    came-frames : frames (s.read ++ f.came) ≡ done ++ f.whole.frame ∷ frames f.whole.rest
    came-frames = (s.goes_on f.going f.came).0 ∙ ap (λ (fs : List (List ℕ)). done ++ fs) (frames-some (old.unread ++ f.came) f.whole f.is)

    goes-frames : new.ended ≡ false → (more : List ℕ) → frames ((s.read ++ f.came) ++ more) ≡ (done ++ f.whole.frame ∷ []) ++ frames (new.unread ++ more)
    goes-frames e more =
        ap frames (read-more more) ∙ (s.goes_on f.going (f.came ++ more)).0 ∙ ap (λ (bs : List ℕ). done ++ frames bs) (left-more more)
        ∙ ap (λ (fs : List (List ℕ)). done ++ fs) (frames-some ((old.unread ++ f.came) ++ more) (extended f.whole more) (first_cut-more (old.unread ++ f.came) more f.whole f.is (f.seen e)))
        ∙ one-more (frames (f.whole.rest ++ more)) ∙ ap (λ (bs : List ℕ). (done ++ f.whole.frame ∷ []) ++ frames (bs ++ more)) (sym f.rest)

    goes-ended : new.ended ≡ false → (more : List ℕ) → ended_frames ((s.read ++ f.came) ++ more) ≡ (done ++ f.whole.frame ∷ []) ++ ended_frames (new.unread ++ more)
    goes-ended e more =
        ap ended_frames (read-more more) ∙ (s.goes_on f.going (f.came ++ more)).1 ∙ ap (λ (bs : List ℕ). done ++ ended_frames bs) (left-more more)
        ∙ ap (λ (fs : List (List ℕ)). done ++ fs) (ended-some ((old.unread ++ f.came) ++ more) (extended f.whole more) (first_cut-more (old.unread ++ f.came) more f.whole f.is (f.seen e)) refl)
        ∙ one-more (ended_frames (f.whole.rest ++ more)) ∙ ap (λ (bs : List ℕ). (done ++ f.whole.frame ∷ []) ++ ended_frames (bs ++ more)) (sym f.rest)

    pub Cutting-one : Cutting (done ++ f.whole.frame ∷ []) new input rest
    Cutting-one =
        record {
          read = s.read ++ f.came;
          consumed = Consumes-trans input mid rest s.read f.came s.consumed f.consumed;
          count = omega (arith, s.count, f.count, length-append s.read f.came);
          whole = came-frames ∙ one-more (frames f.whole.rest) ∙ ap (λ (bs : List ℕ). (done ++ f.whole.frame ∷ []) ++ frames bs) (sym f.rest);
          goes_on = λ e more. (goes-frames e more, goes-ended e more);
        }

    -- the frame is the next of what was read
    pub CutFront-one : CutFront (done ++ f.whole.frame ∷ []) input rest
    CutFront-one =
        record { read = s.read ++ f.came; consumed = Consumes-trans input mid rest s.read f.came s.consumed f.consumed; others = frames f.whole.rest; whole = came-frames ∙ one-more (frames f.whole.rest) }
