-- Frames that are read one after the other.
use Rattle.std.proofs.Common.{◌≡◌, ◌≢◌, ℕ, ◌+◌, Bool, true, false, cond, leb, List, [], ◌∷◌, ◌++◌, length, take, codes, refl, ap, sym, ◌∙◌, subst, arith, Option, Some, None, IfSome, IfErr, OnErr, Result, Ok, Err, append_assoc, length-append}
use Rattle.std.proofs.lemmas.List.{append-nil}
use Rattle.std.specs.Io.KnownBytes.{Appends}
use Rattle.std.proofs.KnownBytes.{Appends-nil, Consumes-nil}
use Rattle.fpl_message.specs.Filings.{FilingView}
use Rattle.flow_input.specs.NextFrame.{second, filing_of, filing_kept}
use Rattle.flow_input.specs.Writes.{AppendsFront}
use Rattle.flow_input.proofs.Written.{Appends-both, Appends-none, AppendsFront-both, AppendsFront-more}
use Rattle.flow_runs.specs.Dealing.{AreDealt}
use Rattle.flow_input.specs.Reader.{InputView, Agrees, Came, CameTooMuch}
use Rattle.flow_input.specs.NextFrame.{GaveFirst, GaveNone, Starves}
use Rattle.flow_input.specs.Cutting.{Overrun, CutFront}
use Rattle.flow_input.specs.Frames.{frames, ended_frames, ended_in}
use Rattle.flow_input.proofs.Cuttings.{Cutting-start, Cutting-one, Cutting-end, CutFront-came, CutFront-one, CutEnded-read, Overrun-came}
use Rattle.flow_input.specs.declared.fault.IntakeFault.{IntakeFault}
use Rattle.flow_input.specs.declared.fault.IntakeFault.TheVariants as intake
use Rattle.flow_runs.specs.declared.fault.RunFault.{RunFault}
use Rattle.flow_runs.specs.Faults.{fault_of_frame}
use Rattle.flow_runs.specs.declared.fault.RunFault.TheVariants as fault
use Rattle.flow_input.specs.Filings.{filings}
use Rattle.flow_input.proofs.Filings.{filings-append, one-whole, one-long, is-long, is-whole, whole-is}
use Rattle.flow_runs.specs.Reading.{long_lines, HasRead, ReadsNext, Reading, ToldFirst, ToldEnded, ToldFront, ToldUntil, LeavesNext}

lines-append : (xs ys : List (List ℕ)) → long_lines (xs ++ ys) ≡ long_lines xs ++ long_lines ys
unfolding long_lines
lines-append [] ys = refl
lines-append (x ∷ xs) ys = by (leb (length x) 2000) (lines-append xs ys)
  where
    by : (b : Bool) → long_lines (xs ++ ys) ≡ long_lines xs ++ long_lines ys → cond b (long_lines (xs ++ ys)) (codes "- NO 90 TooLong\n" ++ long_lines (xs ++ ys)) ≡ cond b (long_lines xs) (codes "- NO 90 TooLong\n" ++ long_lines xs) ++ long_lines ys
    by true e = e
    by false e = ap (λ (q : List ℕ). codes "- NO 90 TooLong\n" ++ q) e ∙ sym (append_assoc (codes "- NO 90 TooLong\n") (long_lines xs) (long_lines ys))

line-whole : (x : List ℕ) → leb (length x) 2000 ≡ true → long_lines (x ∷ []) ≡ []
unfolding long_lines
line-whole x e = rw e refl

line-long : (x : List ℕ) → leb (length x) 2000 ≡ false → long_lines (x ∷ []) ≡ codes "- NO 90 TooLong\n"
unfolding long_lines
line-long x e = rw e (append-nil (codes "- NO 90 TooLong\n"))

-- the line of a frame that is too long was written
pub ReadsNext-long : (kept : Option (List ℕ)) (feeds : List (List FilingView)) (count : ℕ) (before after : Option (List ℕ)) → kept ≡ None → Appends before after (codes "- NO 90 TooLong\n") → ReadsNext (filing_kept kept) feeds count feeds count before after
ReadsNext-long kept feeds count before after none a feeders frames frame begun is h =
    let long : leb (length frame) 2000 ≡ false = is-long frame (ap filing_kept (sym none) ∙ is) in
    let same : filings frames ≡ filings (frames ++ frame ∷ []) = sym (filings-append frames (frame ∷ []) ∙ (ap (λ (q : List FilingView). filings frames ++ q) (one-long frame long) ∙ append-nil (filings frames))) in
    let more : long_lines frames ++ codes "- NO 90 TooLong\n" ≡ long_lines (frames ++ frame ∷ []) = sym (lines-append frames (frame ∷ []) ∙ ap (λ (q : List ℕ). long_lines frames ++ q) (line-long frame long)) in
    record {
      dealt = subst (λ (q : List FilingView). AreDealt feeders q feeds) same h.dealt;
      counted = h.counted ∙ ap length same;
      told = Appends-both begun before after (long_lines frames) (codes "- NO 90 TooLong\n") (long_lines (frames ++ frame ∷ [])) h.told a more;
    }

-- the filing of a frame was dealt
pub ReadsNext-whole : (kept : Option (List ℕ)) (bytes : List ℕ) (filing : FilingView) (old new : List (List FilingView)) (count longer : ℕ) (before : Option (List ℕ)) → kept ≡ Some bytes → filing ≡ second bytes
    → ((feeders : ℕ) (fs : List FilingView) → AreDealt feeders fs old → count ≡ length fs → AreDealt feeders (fs ++ filing ∷ []) new) → longer ≡ count + 1 → ReadsNext (filing_kept kept) old count new longer before before
ReadsNext-whole kept bytes filing old new count longer before some is-second deals one feeders frames frame begun is h =
    let given : Some (second bytes) ≡ filing_of frame = ap filing_kept (sym some) ∙ is in
    let whole : leb (length frame) 2000 ≡ true = is-whole frame (second bytes) given in
    let it : filing ≡ second frame = is-second ∙ whole-is frame (second bytes) given in
    let next : filings frames ++ filing ∷ [] ≡ filings (frames ++ frame ∷ []) =
    ap (λ (f : FilingView). filings frames ++ f ∷ []) it ∙ sym (filings-append frames (frame ∷ []) ∙ ap (λ (q : List FilingView). filings frames ++ q) (one-whole frame whole)) in
    let same : long_lines frames ++ [] ≡ long_lines (frames ++ frame ∷ []) = sym (lines-append frames (frame ∷ []) ∙ ap (λ (q : List ℕ). long_lines frames ++ q) (line-whole frame whole)) in
    record {
      dealt = subst (λ (q : List FilingView). AreDealt feeders q new) next (deals feeders (filings frames) h.dealt h.counted);
      counted = omega (arith, h.counted, one, ap length next, length-append (filings frames) (filing ∷ []));
      told = Appends-both begun before before (long_lines frames) [] (long_lines (frames ++ frame ∷ [])) h.told (Appends-none before) same;
    }

-- nothing was read yet
pub Reading-start : (n : ℕ) (feeds : List (List FilingView)) (count : ℕ) (begun : Option (List ℕ)) (ahead : InputView) (input : Option (List ℕ)) → AreDealt n [] feeds → count ≡ 0 → ahead ≡ record { unread = []; taken = 0; ended = false; item = Some [] } → Reading n feeds count begun begun ahead input input
unfolding filings long_lines
Reading-start n feeds count begun ahead input none zero fresh =
    record { done = []; cutting = Cutting-start ahead input fresh; has = record { dealt = none; counted = zero; told = Appends-none begun } }

module _ (n : ℕ) (feeds : List (List FilingView)) (count : ℕ) (begun written : Option (List ℕ)) (old : InputView) (input mid : Option (List ℕ)) (r : Reading n feeds count begun written old input mid) where
  -- one more frame was read
  pub Reading-one : (new : InputView) (rest : Option (List ℕ)) (filing : Option FilingView) → GaveFirst filing old new mid rest → (longer : List (List FilingView)) (more : ℕ) (now : Option (List ℕ)) → ReadsNext filing feeds count longer more written now → Reading n longer more begun now new input rest
  Reading-one new rest filing f longer more now next =
      record { done = r.done ++ f.whole.frame ∷ []; cutting = Cutting-one r.done old input mid r.cutting new rest filing f; has = next n r.done f.whole.frame begun f.filed r.has }

  -- all frames were read
  pub HasRead-end : (new : InputView) (rest : Option (List ℕ)) → GaveNone old new mid rest → Agrees new rest → IfSome input (λ bytes. HasRead n (frames bytes) feeds count begun written)
  HasRead-end new rest f agrees = Cutting-end r.done old input mid r.cutting new rest (λ fs. HasRead n fs feeds count begun written) f agrees r.has

  -- more came than may
  pub Overrun-read : (rest : Option (List ℕ)) → CameTooMuch old mid rest → Overrun input rest
  Overrun-read rest m = Overrun-came r.done old input mid r.cutting rest m

-- ---- where reading ended with a fault

take-none : {X : Type 0} (xs : List X) → take 0 xs ≡ []
take-none [] = refl
take-none (x ∷ xs) = refl

take-front : {X : Type 0} (xs ys : List X) → take (length xs) (xs ++ ys) ≡ xs
take-front [] ys = take-none ys
take-front (x ∷ xs) ys = ap (λ q. x ∷ q) (take-front xs ys)

no-lines : long_lines [] ≡ []
unfolding long_lines
no-lines = refl

-- nothing was read, and nothing written
pub ToldFirst-none : (begun input : Option (List ℕ)) → ToldFirst begun begun input input
ToldFirst-none begun input =
    record {
      read = [];
      consumed = Consumes-nil input;
      count = 0;
      told = subst (λ (q : List ℕ). Appends begun begun q) (sym (ap long_lines (take-none (frames [])) ∙ no-lines)) (Appends-nil begun);
    }

no-ended : ended_frames [] ≡ []
unfolding ended_frames ended_in
no-ended = refl

pub ToldEnded-none : (begun input : Option (List ℕ)) → ToldEnded begun begun input input
ToldEnded-none begun input =
    record { read = []; consumed = Consumes-nil input; told = subst (λ (q : List ℕ). Appends begun begun q) (sym (ap long_lines no-ended ∙ no-lines)) (Appends-nil begun) }

front-none : (old : Option (List ℕ)) (bytes : List ℕ) → AppendsFront old old bytes
front-none None bytes = tt
front-none (Some xs) bytes = ([], bytes, refl, sym (append-nil xs))

pub ToldFront-none : (begun input : Option (List ℕ)) → ToldFront begun begun input input
ToldFront-none begun input = record { read = []; consumed = Consumes-nil input; told = front-none begun (long_lines (frames [])) }

-- if no frame came
pub told-no_frame : (e : IntakeFault) (begun written input rest : Option (List ℕ)) → (e ≡ intake.Read → ToldEnded begun written input rest) → ToldFirst begun written input rest → ToldUntil (fault_of_frame e) begun written input rest
told-no_frame intake.Read begun written input rest starved first = starved refl
told-no_frame intake.TooMuch begun written input rest starved first = first
told-no_frame intake.OutOfMemory begun written input rest starved first = first

module _ (n : ℕ) (feeds : List (List FilingView)) (count : ℕ) (begun written : Option (List ℕ)) (old : InputView) (input mid : Option (List ℕ)) (r : Reading n feeds count begun written old input mid) where
  -- the lines that were written are those of the first frames of what was read
  pub ToldFirst-came : (rest : Option (List ℕ)) → old.ended ≡ false → Came mid rest → ToldFirst begun written input rest
  ToldFirst-came rest going m =
      let cut = CutFront-came r.done old input mid r.cutting rest going m in
      record {
        read = cut.read;
        consumed = cut.consumed;
        count = length r.done;
        told = subst (λ (fs : List (List ℕ)). Appends begun written (long_lines fs)) (sym (ap (take (length r.done)) cut.whole ∙ take-front r.done cut.others)) r.has.told;
      }

  -- where the reader failed, they are those of the frames that had ended
  pub ToldEnded-read : (rest : Option (List ℕ)) → old.ended ≡ false → Starves old mid rest → ToldEnded begun written input rest
  ToldEnded-read rest going m =
      let cut = CutEnded-read r.done old input mid r.cutting rest going m in
      record { read = cut.read; consumed = cut.consumed; told = subst (λ (fs : List (List ℕ)). Appends begun written (long_lines fs)) (sym cut.whole) r.has.told }

  -- a frame came, with a fault
  module _ (new : InputView) (rest : Option (List ℕ)) (filing : Option FilingView) (f : GaveFirst filing old new mid rest) where
    pub told-part : (e : RunFault) (now : Option (List ℕ)) → LeavesNext e filing written now → ToldUntil e begun now input rest
    told-part fault.OutOfMemory now l =
        let cut : CutFront (r.done ++ f.whole.frame ∷ []) input rest = CutFront-one r.done old input mid r.cutting new rest filing f in
        let whole : frames cut.read ≡ r.done ++ (f.whole.frame ∷ cut.others) = cut.whole ∙ append_assoc r.done (f.whole.frame ∷ []) cut.others in
        record {
          read = cut.read;
          consumed = cut.consumed;
          count = length r.done;
          told = subst (λ (w : Option (List ℕ)). Appends begun w (long_lines (take (length r.done) (frames cut.read)))) (sym l)
              (subst (λ (fs : List (List ℕ)). Appends begun written (long_lines fs)) (sym (ap (take (length r.done)) whole ∙ take-front r.done (f.whole.frame ∷ cut.others))) r.has.told);
        }
    told-part fault.Write now l =
        let cut : CutFront (r.done ++ f.whole.frame ∷ []) input rest = CutFront-one r.done old input mid r.cutting new rest filing f in
        let long = is-long f.whole.frame (sym l.0 ∙ f.filed) in
        let line : List ℕ = codes "- NO 90 TooLong\n" in
        let behind : List ℕ = long_lines cut.others in
        let whole : frames cut.read ≡ r.done ++ ((f.whole.frame ∷ []) ++ cut.others) = cut.whole ∙ append_assoc r.done (f.whole.frame ∷ []) cut.others in
        let is : long_lines r.done ++ (line ++ behind) ≡ long_lines (frames cut.read) =
        sym (ap long_lines whole ∙ (lines-append r.done ((f.whole.frame ∷ []) ++ cut.others)
        ∙ ap (λ (q : List ℕ). long_lines r.done ++ q) (lines-append (f.whole.frame ∷ []) cut.others ∙ ap (λ (q : List ℕ). q ++ behind) (line-long f.whole.frame long)))) in
        record {
          read = cut.read;
          consumed = cut.consumed;
          told = AppendsFront-both begun written now (long_lines r.done) (line ++ behind) (long_lines (frames cut.read)) r.has.told (AppendsFront-more written now line behind (line ++ behind) l.1 refl) is;
        }
    told-part _ now l = absurd l

-- a frame that is too long, whose line was not written whole
pub left-long : (e : RunFault) (kept : Option (List ℕ)) (before after : Option (List ℕ)) → kept ≡ None → e ≡ fault.Write → AppendsFront before after (codes "- NO 90 TooLong\n") → LeavesNext e (filing_kept kept) before after
left-long fault.Write kept before after none is a = (ap filing_kept none, a)
left-long _ kept before after none is a = absurd (cc)

pub left-result : {T : Type 0} (r : Result T RunFault) (kept before after : Option (List ℕ)) → kept ≡ None → IfErr r (λ e. e ≡ fault.Write) → OnErr r (AppendsFront before after (codes "- NO 90 TooLong\n")) → IfErr r (λ e. LeavesNext e (filing_kept kept) before after)
left-result (Ok x) kept before after none is a = tt
left-result (Err e) kept before after none is a = left-long e kept before after none is a
