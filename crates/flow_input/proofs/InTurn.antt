-- Calls for frames answer the frames of the whole input, one after the other.
use Rattle.std.proofs.Common.{◌≡◌, ◌↔◌, ℕ, ◌≤◌, List, [], ◌∷◌, ◌++◌, length, map, refl, sym, ap, ◌∙◌, arith, Option, Some, None, Result, Ok, Err, IfOk, OnOk}
use Rattle.std.proofs.Math.ListN.{length-append}
use Rattle.std.specs.Io.KnownBytes.{prepend_known}
use Rattle.fpl_message.specs.Filings.{FilingView}
use Rattle.flow_input.specs.declared.intake.Frame.{Frame}
use Rattle.flow_input.specs.declared.intake.Frame.TheVariants.{Whole}
use Rattle.flow_input.specs.declared.fault.IntakeFault.{IntakeFault}
use Rattle.flow_input.specs.Frames.{Cut, first_cut, frames}
use Rattle.flow_input.specs.Reader.{InputView}
use Rattle.flow_input.specs.NextFrame.{GivesFrame, Misses, filing_in, filing_of}
use Rattle.flow_input.specs.Source.{IsFirst, CutsFirst, SameTotal}
use Rattle.flow_input.specs.InTurn.{filings_of, IsNext, GivesNext, AnswerInTurn, EndsWithin}
use Rattle.flow_input.proofs.FrameLists.{frames-some, frames-none}

-- an input has no frames if none can be taken
pub frames-no : (bytes : List ℕ) → (first_cut bytes ≡ None) ↔ (frames bytes ≡ [])
frames-no bytes = (frames-none bytes, (λ e. cases (first_cut bytes) refl e)) where
  cases : (o : Option Cut) → first_cut bytes ≡ o → frames bytes ≡ [] → first_cut bytes ≡ None
  cases None is e = is
  cases (Some c) is e = absurd (let some : frames bytes ≡ c.frame ∷ frames c.rest = frames-some bytes c is in cc)

IsNext-first : {A : Type 0} (frame : Option (Frame A)) (old new : List ℕ) → IsFirst frame old new → IsNext frame old new
IsNext-first None old new f = (ap (map filing_of) (frames-none old f.0), f.1)
IsNext-first (Some frame) old new f =
    ap (map filing_of) (frames-some old f.0 f.1) ∙ ap (λ (g : Option FilingView). g ∷ filings_of (f.0).rest) (sym f.3) ∙ ap (λ (bs : List ℕ). filing_in frame ∷ filings_of bs) (sym f.2)

pub GivesNext-cut : (A : Type 0) (frame : Option (Frame A)) (before after : Option (List ℕ)) → CutsFirst frame before after → GivesNext frame before after
GivesNext-cut A frame None after f = tt
GivesNext-cut A frame (Some old) None f = f
GivesNext-cut A frame (Some old) (Some new) f = IsNext-first frame old new f

pub GivesNext-ok : (A : Type 0) (result : Result (Option (Frame A)) IntakeFault) (before after : Option (List ℕ)) → IfOk result (λ frame. CutsFirst frame before after) → IfOk result (λ frame. GivesNext frame before after)
GivesNext-ok A (Err e) before after f = f
GivesNext-ok A (Ok frame) before after f = GivesNext-cut A frame before after f

pub in_turn : (filings : List (Option FilingView)) (old new : List ℕ) → AnswerInTurn filings old new → filings_of old ≡ filings ++ filings_of new
in_turn [] old new a = ap filings_of (sym a)
in_turn (f ∷ fs) old new a =
    ap (map filing_of) (frames-some old a.0 a.1) ∙ ap (λ (g : Option FilingView). g ∷ filings_of (a.0).rest) (sym a.2) ∙ ap (λ (gs : List (Option FilingView)). f ∷ gs) (in_turn fs (a.0).rest new a.3)

pub in_turn-whole : (filings : List (Option FilingView)) (old new : List ℕ) → AnswerInTurn filings old new → first_cut new ≡ None → filings_of old ≡ filings
in_turn-whole [] old new a e = ap filings_of (sym a) ∙ ap (map filing_of) (frames-none new e)
in_turn-whole (f ∷ fs) old new a e =
    ap (map filing_of) (frames-some old a.0 a.1) ∙ ap (λ (g : Option FilingView). g ∷ filings_of (a.0).rest) (sym a.2) ∙ ap (λ (gs : List (Option FilingView)). f ∷ gs) (in_turn-whole fs (a.0).rest new a.3 e)

-- an input that has ended isn't too long
EndsWithin-total : {A : Type 0} (frame : Option (Frame A)) (n m : ℕ) (before after : Option (List ℕ)) → CutsFirst frame before after → SameTotal n before m after → m ≤ 4000000000 → EndsWithin frame n before
EndsWithin-total (Some frame) n m before after c t h = tt
EndsWithin-total None n m None after c t h = tt
EndsWithin-total None n m (Some old) None c t h = absurd c
EndsWithin-total None n m (Some old) (Some new) c t h = omega (arith, t, ap length c.1)

pub EndsWithin-ok : (A : Type 0) (result : Result (Option (Frame A)) IntakeFault) (n m : ℕ) (before after : Option (List ℕ)) → IfOk result (λ frame. CutsFirst frame before after) → OnOk result (SameTotal n before m after) → OnOk result (m ≤ 4000000000) → IfOk result (λ frame. EndsWithin frame n before)
EndsWithin-ok A (Err e) n m before after c t h = tt
EndsWithin-ok A (Ok frame) n m before after c t h = EndsWithin-total frame n m before after c t h

-- the same number of bytes
SameTotal-given : (A : Type 0) (frame : Option (Frame A)) (old new : InputView) (before after : Option (List ℕ)) → GivesFrame frame old new before after → SameTotal old.taken (prepend_known old.unread before) new.taken (prepend_known new.unread after)
SameTotal-given A frame old new None after f = tt
SameTotal-given A None old new (Some xs) None f = absurd f.consumed
SameTotal-given A (Some frame) old new (Some xs) None f = absurd f.consumed
SameTotal-given A None old new (Some xs) (Some ys) f =
    omega (arith, f.count, ap length f.consumed, length-append f.came ys, length-append old.unread xs, length-append new.unread ys)
SameTotal-given A (Some frame) old new (Some xs) (Some ys) f =
    omega (arith, f.count, ap length f.consumed, length-append f.came ys, length-append old.unread xs, length-append new.unread ys)

pub SameTotal-ok : (A : Type 0) (r : Result (Option (Frame A)) IntakeFault) (old new : InputView) (before after left : Option (List ℕ)) (taken : ℕ) → IfOk r (λ frame. GivesFrame frame old new before after) → prepend_known old.unread before ≡ left → old.taken ≡ taken
    → OnOk r (SameTotal taken left new.taken (prepend_known new.unread after))
SameTotal-ok A (Err e) old new before after left taken f is at = f
SameTotal-ok A (Ok frame) old new before after left taken f is at = rw (← is, ← at) (SameTotal-given A frame old new before after f)

pub SameTotal-missed : (old new : InputView) (before after left : Option (List ℕ)) (taken : ℕ) → Misses old new before after → prepend_known old.unread before ≡ left → old.taken ≡ taken → SameTotal taken left new.taken (prepend_known new.unread after)
SameTotal-missed old new before after left taken m is at = rw (← is, ← at) (SameTotal-given (Unit {0}) (Some (Whole m.0)) old new before after m.1)
