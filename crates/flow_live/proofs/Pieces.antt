-- Pieces of an input, one after the other, and the end of a feed.
use Rattle.std.proofs.Common.{◌≡◌, ◌≤◌, ℕ, false, List, length, [], ◌∷◌, ◌++◌, refl, sym, subst, Option, Some, None, IfSome, Result, Ok, Err, OnOk, OnErr, IfErr, append_assoc}
use Rattle.std.specs.Io.KnownBytes.{Appends}
use Rattle.fpl_message.specs.Filings.{FilingView}
use Rattle.flow_plans.specs.Settings.{SetupView}
use Rattle.flow_input.specs.Cutting.{Cutting}
use Rattle.flow_input.specs.Frames.{frames}
use Rattle.flow_input.specs.NextFrame.{GaveFirst, GaveNone, Starves, filing_of, filing_kept}
use Rattle.flow_input.specs.Reader.{InputView, Agrees, CameTooMuch}
use Rattle.flow_input.specs.Source.{failures_with}
use Rattle.flow_input.specs.Writes.{AppendsFront}
use Rattle.flow_input.specs.declared.fault.IntakeFault.{IntakeFault}
use Rattle.flow_input.specs.declared.fault.IntakeFault.TheVariants as intake
use Rattle.flow_input.proofs.Cuttings.{Cutting-start, Cutting-one, Cutting-end, Cutting-within, CutFront-came, CutEnded-read, Overrun-came}
use Rattle.flow_input.proofs.Written.{Appends-none, Appends-both, AppendsFront-both}
use Rattle.flow_desk.specs.Histories.{IsLawful}
use Rattle.flow_desk.specs.FeederPasses.{PassView, SawOthers}
use Rattle.flow_live.specs.Feeding.{AnswersWith, CutsMore, CutsTaken, EndsBy, Feeds, Fed, FedUnlessStopped, PieceIs, Prepares, Serves, sink_failures, source_failures}
use Rattle.flow_live.specs.declared.fault.FeedEnd.{FeedEnd}
use Rattle.flow_live.specs.declared.fault.FeedEnd.TheVariants as end
use Rattle.flow_live.proofs.Servings.{Serves-saw, Serves-then}

-- ---- frames that were cut off

module _ (is now : List (List ℕ) → Type 0) (ahead mid : InputView) (input rest : Option (List ℕ)) (c : CutsMore is ahead mid input rest) where
  -- what is true of them otherwise
  pub Cuts-so : ((fs : List (List ℕ)) → is fs → now fs) → CutsMore now ahead mid input rest
  Cuts-so so = record { more = c.more; cutting = c.cutting; true_of = so c.more c.true_of }

  -- and one more
  pub Cuts-then : (left : InputView) (filing : Option FilingView) → GaveFirst filing mid left rest rest
      → ((fs : List (List ℕ)) (frame : List ℕ) → filing ≡ filing_of frame → is fs → now (fs ++ frame ∷ [])) → CutsMore now ahead left input rest
  Cuts-then left filing gave so =
      record {
        more = c.more ++ gave.whole.frame ∷ [];
        cutting = λ done bytes cut. subst (λ (fs : List (List ℕ)). Cutting fs left bytes rest) (append_assoc done c.more (gave.whole.frame ∷ []))
            (Cutting-one (done ++ c.more) mid bytes rest (c.cutting done bytes cut) left rest filing gave);
        true_of = so c.more gave.whole.frame gave.filed c.true_of;
      }

-- the first one
pub Cuts-first : (is : List (List ℕ) → Type 0) (ahead taken : InputView) (mid rest : Option (List ℕ)) (filing : Option FilingView) → GaveFirst filing ahead taken mid rest
    → ((frame : List ℕ) → filing ≡ filing_of frame → is (frame ∷ [])) → CutsMore is ahead taken mid rest
Cuts-first is ahead taken mid rest filing gave so =
    record {
      more = gave.whole.frame ∷ [];
      cutting = λ done input cut. Cutting-one done ahead input mid cut taken rest filing gave;
      true_of = so gave.whole.frame gave.filed;
    }

-- ---- a feed

both : {X : Type 0} (P Q : X → Type 0) (o : Option X) → IfSome o P → IfSome o Q → IfSome o (λ x. P x × Q x)
both P Q None p q = tt
both P Q (Some x) p q = (p, q)

-- nothing was read yet
pub Feeds-start : (s : SetupView) (p q : PassView) (begun input : Option (List ℕ)) (ahead : InputView) → SawOthers p q → IsLawful s q.seen → ahead ≡ record { unread = []; taken = 0; ended = false; item = Some [] }
    → Feeds s p q begun begun ahead input input
Feeds-start s p q begun input ahead saw lawful fresh =
    record { done = []; text = []; served = Serves-saw s p q saw lawful; cutting = Cutting-start ahead input fresh; wrote = Appends-none begun }

module _ (s : SetupView) (p q : PassView) (begun written : Option (List ℕ)) (old : InputView) (input mid : Option (List ℕ)) (f : Feeds s p q begun written old input mid) where
  -- a piece was answered
  pub Feeds-more : (r : PassView) (now : Option (List ℕ)) (new : InputView) (rest : Option (List ℕ)) → CutsMore (λ more. AnswersWith s q more r (λ text. Appends written now text)) old new mid rest
      → Feeds s p r begun now new input rest
  Feeds-more r now new rest c =
      let a = c.true_of in
      record {
        done = f.done ++ c.more;
        text = f.text ++ a.text;
        served = Serves-then s p q r f.done c.more f.text a.text f.served a.served;
        cutting = c.cutting f.done input f.cutting;
        wrote = Appends-both begun written now f.text a.text (f.text ++ a.text) f.wrote a.text_wrote refl;
      }

  -- a piece was answered, and not all of it written
  pub Fed-write : (r : PassView) (now : Option (List ℕ)) (new : InputView) (rest : Option (List ℕ)) → CutsMore (λ more. AnswersWith s q more r (λ text. AppendsFront written now text)) old new mid rest
      → Fed s p r end.Write begun now input rest
  Fed-write r now new rest c =
      let a = c.true_of in
      let cut = c.cutting f.done input f.cutting in
      record {
        done = f.done ++ c.more;
        text = f.text ++ a.text;
        served = Serves-then s p q r f.done c.more f.text a.text f.served a.served;
        took = record { read = cut.read; consumed = cut.consumed; others = frames new.unread; whole = cut.whole };
        wrote = AppendsFront-both begun written now f.text a.text (f.text ++ a.text) f.wrote a.text_wrote refl;
      }

  -- no frame came
  pub Fed-finished : (new : InputView) (rest : Option (List ℕ)) → GaveNone old new mid rest → Agrees new rest → new.taken ≤ 4000000000 → Fed s p q end.Finished begun written input rest
  Fed-finished new rest gave agrees within =
      record {
        done = f.done;
        text = f.text;
        served = f.served;
        took = both (λ (bytes : List ℕ). f.done ≡ frames bytes) (λ (bytes : List ℕ). length bytes ≤ 4000000000) input
            (Cutting-end f.done old input mid f.cutting new rest (λ fs. f.done ≡ fs) gave agrees refl) (Cutting-within f.done old input mid f.cutting new rest gave agrees within);
        wrote = f.wrote;
      }

  -- the reader failed
  pub Fed-read : (rest : Option (List ℕ)) → old.ended ≡ false → Starves old mid rest → Fed s p q end.Read begun written input rest
  Fed-read rest going starves =
      record { done = f.done; text = f.text; served = f.served; took = CutEnded-read f.done old input mid f.cutting rest going starves; wrote = f.wrote }

  -- it gave too much
  pub Fed-much : (rest : Option (List ℕ)) → old.ended ≡ false → CameTooMuch old mid rest → Fed s p q end.TooMuch begun written input rest
  Fed-much rest going much =
      record {
        done = f.done;
        text = f.text;
        served = f.served;
        took = (CutFront-came f.done old input mid f.cutting rest going (much.0, much.1), Overrun-came f.done old input mid f.cutting rest much);
        wrote = f.wrote;
      }

-- what was ready of the frames that were cut off was answered
pub Prepares-done : {T E : Type 0} (result : Result T E) (s : SetupView) (p q r : PassView) (text longer : List ℕ) (ready : List FilingView) (taken mid left : InputView) → left ≡ mid
    → CutsTaken s p (λ more. Prepares s p more q text ready) taken mid
    → OnOk result ((o : PassView) (done : List (List ℕ)) → Prepares s o done q text ready → Serves s o done r longer)
    → OnOk result (CutsTaken s p (λ more. Serves s p more r longer) taken left)
Prepares-done (Err e) s p q r text longer ready taken mid left same cuts served = tt
Prepares-done (Ok x) s p q r text longer ready taken mid left same cuts served = λ lawful ahead input rest gave agrees.
    subst (λ (a : InputView). CutsMore (λ more. Serves s p more r longer) ahead a input rest) (sym same)
    (Cuts-so (λ more. Prepares s p more q text ready) (λ more. Serves s p more r longer) ahead mid input rest (cuts lawful ahead input rest gave agrees) (λ fs h. served p fs h))

-- ---- what was written of a piece

-- all
pub Piece-all : {T : Type 0} (result : Result T FeedEnd) (s : SetupView) (p q : PassView) (text : List ℕ) (written now : Option (List ℕ)) (taken left : InputView)
    → CutsTaken s p (λ more. Serves s p more q text) taken left → OnOk result (Appends written now text) → OnErr result (AppendsFront written now text) → IfErr result (λ e. e ≡ end.Write)
    → PieceIs result s p q written now taken left
Piece-all (Ok x) s p q text written now taken left cuts all part kind = λ lawful ahead mid rest gave agrees.
    Cuts-so (λ more. Serves s p more q text) (λ more. AnswersWith s p more q (λ t. Appends written now t)) ahead left mid rest (cuts lawful ahead mid rest gave agrees)
    (λ fs h. record { text = text; served = h; text_wrote = all })
Piece-all (Err end.Write) s p q text written now taken left cuts all part kind = λ lawful ahead mid rest gave agrees.
    Cuts-so (λ more. Serves s p more q text) (λ more. AnswersWith s p more q (λ t. AppendsFront written now t)) ahead left mid rest (cuts lawful ahead mid rest gave agrees)
    (λ fs h. record { text = text; served = h; text_wrote = part })
Piece-all (Err end.Open) s p q text written now taken left cuts all part kind = absurd (cc (kind))
Piece-all (Err end.Finished) s p q text written now taken left cuts all part kind = absurd (cc (kind))
Piece-all (Err end.Read) s p q text written now taken left cuts all part kind = absurd (cc (kind))
Piece-all (Err end.TooMuch) s p q text written now taken left cuts all part kind = absurd (cc (kind))
Piece-all (Err (end.Stopped fault)) s p q text written now taken left cuts all part kind = tt

-- a piece that failed ends the feed
pub Piece-ends : {T : Type 0} (result : Result T FeedEnd) (s : SetupView) (p q r : PassView) (begun written now : Option (List ℕ)) (old taken left : InputView) (input mid rest : Option (List ℕ))
    → PieceIs result s q r written now taken left → (IsLawful s p.seen → Feeds s p q begun written old input mid) → GaveFirst (filing_kept taken.item) old taken mid rest → Agrees taken rest
    → IfErr result (λ how. IsLawful s p.seen → FedUnlessStopped s p r how begun now input rest)
Piece-ends (Ok x) s p q r begun written now old taken left input mid rest piece feeds gave agrees = tt
Piece-ends (Err end.Open) s p q r begun written now old taken left input mid rest piece feeds gave agrees = λ lawful. absurd piece
Piece-ends (Err end.Finished) s p q r begun written now old taken left input mid rest piece feeds gave agrees = λ lawful. absurd piece
Piece-ends (Err end.Read) s p q r begun written now old taken left input mid rest piece feeds gave agrees = λ lawful. absurd piece
Piece-ends (Err end.TooMuch) s p q r begun written now old taken left input mid rest piece feeds gave agrees = λ lawful. absurd piece
Piece-ends (Err end.Write) s p q r begun written now old taken left input mid rest piece feeds gave agrees = λ lawful.
    let f = feeds lawful in
    Fed-write s p q begun written old input mid f r now left rest (piece f.served.lawful old mid rest gave agrees)
Piece-ends (Err (end.Stopped fault)) s p q r begun written now old taken left input mid rest piece feeds gave agrees = λ lawful. tt

-- a piece that was written lets the feed go on
pub Piece-goes : {T : Type 0} (result : Result T FeedEnd) (s : SetupView) (p q r : PassView) (begun written now : Option (List ℕ)) (old taken left : InputView) (input mid rest : Option (List ℕ)) (x : T) → result ≡ Ok x
    → PieceIs result s q r written now taken left → (IsLawful s p.seen → Feeds s p q begun written old input mid) → GaveFirst (filing_kept taken.item) old taken mid rest → Agrees taken rest
    → IsLawful s p.seen → Feeds s p r begun now left input rest
Piece-goes (Err e) s p q r begun written now old taken left input mid rest x is piece feeds gave agrees lawful = absurd (cc (is))
Piece-goes (Ok y) s p q r begun written now old taken left input mid rest x is piece feeds gave agrees lawful =
    let f = feeds lawful in
    Feeds-more s p q begun written old input mid f r now left rest (piece f.served.lawful old mid rest gave agrees)

-- ---- where no frame came

pub Fed-fault : (fault : IntakeFault) (how : FeedEnd) (s : SetupView) (p q : PassView) (begun written : Option (List ℕ)) (old : InputView) (input mid rest : Option (List ℕ)) → EndsBy fault how → (IsLawful s p.seen → Feeds s p q begun written old input mid)
    → old.ended ≡ false → (fault ≡ intake.Read → Starves old mid rest) → (fault ≡ intake.TooMuch → CameTooMuch old mid rest) → IsLawful s p.seen → FedUnlessStopped s p q how begun written input rest
Fed-fault intake.Read how s p q begun written old input mid rest ends feeds going starves much lawful =
    subst (λ (h : FeedEnd). FedUnlessStopped s p q h begun written input rest) (sym ends) (Fed-read s p q begun written old input mid (feeds lawful) rest going (starves refl))
Fed-fault intake.TooMuch how s p q begun written old input mid rest ends feeds going starves much lawful =
    subst (λ (h : FeedEnd). FedUnlessStopped s p q h begun written input rest) (sym ends) (Fed-much s p q begun written old input mid (feeds lawful) rest going (much refl))
Fed-fault intake.OutOfMemory how s p q begun written old input mid rest ends feeds going starves much lawful = absurd ends

-- ---- how many calls have failed

-- of the reader, where no frame came
pub fault-source : (fault : IntakeFault) (how : FeedEnd) (old new : ℕ) → EndsBy fault how → new ≡ failures_with fault old → new ≡ source_failures how old
fault-source intake.Read how old new ends count = subst (λ (h : FeedEnd). new ≡ source_failures h old) (sym ends) count
fault-source intake.TooMuch how old new ends count = subst (λ (h : FeedEnd). new ≡ source_failures h old) (sym ends) count
fault-source intake.OutOfMemory how old new ends count = absurd ends

-- of the writer
pub fault-sink : (fault : IntakeFault) (how : FeedEnd) (old new : ℕ) → EndsBy fault how → new ≡ old → new ≡ sink_failures how old
fault-sink intake.Read how old new ends count = subst (λ (h : FeedEnd). new ≡ sink_failures h old) (sym ends) count
fault-sink intake.TooMuch how old new ends count = subst (λ (h : FeedEnd). new ≡ sink_failures h old) (sym ends) count
fault-sink intake.OutOfMemory how old new ends count = absurd ends

-- of the reader, where a piece failed: it isn't called then
pub piece-source : {T : Type 0} (result : Result T FeedEnd) (how : FeedEnd) (s : SetupView) (p q : PassView) (written now : Option (List ℕ)) (taken left : InputView) (old new : ℕ) → result ≡ Err how → PieceIs result s p q written now taken left → new ≡ old → new ≡ source_failures how old
piece-source result end.Write s p q written now taken left old new is piece same = same
piece-source result (end.Stopped fault) s p q written now taken left old new is piece same = same
piece-source result end.Open s p q written now taken left old new is piece same = same
piece-source result end.Finished s p q written now taken left old new is piece same = same
piece-source result end.TooMuch s p q written now taken left old new is piece same = same
piece-source {T = T} result end.Read s p q written now taken left old new is piece same = absurd (subst (λ (r : Result T FeedEnd). PieceIs r s p q written now taken left) is piece)
