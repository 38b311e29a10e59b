-- The known bytes that frames are taken from.
use Rattle.std.proofs.Common.{◌≡◌, ℕ, Bool, true, false, List, [], ◌++◌, refl, sym, ap, ◌∙◌, Option, Some, None, Result, Ok, Err, IfOk, OnOk, append_assoc, append-nil}
use Rattle.std.specs.Io.KnownBytes.{prepend_known}
use Rattle.flow_input.specs.declared.intake.Frame.{Frame}
use Rattle.flow_input.specs.declared.intake.Frame.TheVariants.{Whole}
use Rattle.flow_input.specs.declared.fault.IntakeFault.{IntakeFault}
use Rattle.flow_input.specs.Frames.{first_cut}
use Rattle.flow_input.specs.Reader.{InputView, Agrees}
use Rattle.flow_input.specs.NextFrame.{GaveFirst, GaveNone, GivesFrame, Misses, filing_in}
use Rattle.flow_input.specs.Source.{IsFirst, CutsFirst, MissesFirst}
use Rattle.flow_input.proofs.FrameLists.{extended, first_cut-more}

-- the known bytes are those unread, those that came, and the rest
known : (unread xs came ys : List ℕ) → xs ≡ came ++ ys → unread ++ xs ≡ (unread ++ came) ++ ys
known unread xs came ys e = ap (λ (bs : List ℕ). unread ++ bs) e ∙ sym (append_assoc unread came ys)

module _ {A : Type 0} (frame : Frame A) (old new : InputView) (xs ys : List ℕ) where
  first-known : (ended : Bool) → new.ended ≡ ended → GaveFirst (filing_in frame) old new (Some xs) (Some ys) → Agrees new (Some ys) → IsFirst (Some frame) (old.unread ++ xs) (new.unread ++ ys)
  first-known true e f agrees =
      let end : ys ≡ [] = (agrees e).1 in
      let old-is : old.unread ++ xs ≡ old.unread ++ f.came = known old.unread xs f.came ys f.consumed ∙ ap (λ (bs : List ℕ). (old.unread ++ f.came) ++ bs) end ∙ append-nil (old.unread ++ f.came) in
      (f.whole, ap first_cut old-is ∙ f.is, ap (λ (bs : List ℕ). new.unread ++ bs) end ∙ append-nil new.unread ∙ f.rest, f.filed)
  first-known false e f agrees =
      (extended f.whole ys, ap first_cut (known old.unread xs f.came ys f.consumed) ∙ first_cut-more (old.unread ++ f.came) ys f.whole f.is (f.seen e), ap (λ (bs : List ℕ). bs ++ ys) f.rest, f.filed)

none-known : (A : Type 0) (old new : InputView) (xs ys : List ℕ) → GaveNone old new (Some xs) (Some ys) → Agrees new (Some ys) → IsFirst {A = A} None (old.unread ++ xs) (new.unread ++ ys)
none-known A old new xs ys f agrees =
    let end : (new.unread ≡ []) × (ys ≡ []) = agrees f.ended in
    let old-is : old.unread ++ xs ≡ old.unread ++ f.came = known old.unread xs f.came ys f.consumed ∙ ap (λ (bs : List ℕ). (old.unread ++ f.came) ++ bs) end.1 ∙ append-nil (old.unread ++ f.came) in
    (ap first_cut old-is ∙ f.is, ap (λ (bs : List ℕ). bs ++ ys) end.0 ∙ end.1)

pub CutsFirst-given : (A : Type 0) (frame : Option (Frame A)) (old new : InputView) (before after : Option (List ℕ)) → GivesFrame frame old new before after → Agrees new after
    → CutsFirst frame (prepend_known old.unread before) (prepend_known new.unread after)
CutsFirst-given A frame old new None after f agrees = tt
CutsFirst-given A None old new (Some xs) None f agrees = absurd f.consumed
CutsFirst-given A (Some frame) old new (Some xs) None f agrees = absurd f.consumed
CutsFirst-given A None old new (Some xs) (Some ys) f agrees = none-known A old new xs ys f agrees
CutsFirst-given A (Some frame) old new (Some xs) (Some ys) f agrees = first-known frame old new xs ys new.ended refl f agrees

pub CutsFirst-ok : (A : Type 0) (r : Result (Option (Frame A)) IntakeFault) (old new : InputView) (before after left : Option (List ℕ)) → IfOk r (λ frame. GivesFrame frame old new before after) → OnOk r (Agrees new after) → prepend_known old.unread before ≡ left
    → IfOk r (λ frame. CutsFirst frame left (prepend_known new.unread after))
CutsFirst-ok A (Err e) old new before after left f agrees is = f
CutsFirst-ok A (Ok frame) old new before after left f agrees is = rw (← is) (CutsFirst-given A frame old new before after f agrees)

pub MissesFirst-given : (old new : InputView) (before after left : Option (List ℕ)) → Misses old new before after → Agrees new after → prepend_known old.unread before ≡ left → MissesFirst left (prepend_known new.unread after)
MissesFirst-given old new before after left m agrees is = rw (← is) (m.0, CutsFirst-given (Unit {0}) (Some (Whole m.0)) old new before after m.1 agrees)
