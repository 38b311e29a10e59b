-- What answering a reading promises, for each way in which it ends: of the state that is left, and
-- what undoes it.
use Rattle.std.proofs.Common.{◌≡◌, ◌≤◌, ◌+◌, ◌++◌, List, length, Option, Some, None, Ok, Err, sym, ap, subst, ◌∙◌, arith, length-append, inl}
use Rattle.std.specs.declared.alloc.AllocError.{AllocError}
use Rattle.fpl_message.specs.declared.refusal.Refusal.{Refusal}
use Rattle.fpl_message.specs.Reads.{ReadingView}
use Rattle.flow_plans.specs.declared.setup.TheConstants.{MAX_PLANS}
use Rattle.flow_regulations.specs.Listing.{IsSettled, HasPair}
use Rattle.flow_regulations.specs.declared.notice.Told.{Told}
use Rattle.flow_regulations.specs.declared.notice.Notice.{Notice}
use Rattle.flow_traffic.specs.declared.undo.Last.{Last}
use Rattle.flow_traffic.specs.declared.undo.Last.TheVariants as last
use Rattle.flow_traffic.specs.declared.verdict.Verdict.{Verdict}
use Rattle.flow_traffic.specs.declared.verdict.Verdict.TheVariants.{Refused}
use Rattle.flow_traffic.specs.Traffic.{Traffic, TrafficView}
use Rattle.flow_traffic.specs.State.{TrafficState, traffic_of}
use Rattle.flow_traffic.specs.Asked.{asked}
use Rattle.flow_traffic.specs.Answers.{Answers}
use Rattle.flow_traffic.specs.Answering.{AnswersReading}
use Rattle.flow_traffic.specs.Frozen.{frozen_pairs}
use Rattle.flow_traffic.specs.Memory.{MayTakeMemory}
use Rattle.flow_traffic.specs.Undoing.{UndoingView, undone_traffic}
use Rattle.flow_traffic.proofs.Answered.{refused}
use Rattle.flow_traffic.proofs.FrozenStay.{frozen-settled}

-- what is left
abbrev pub left : TrafficState → List (Option Told) → List Notice → UndoingView → TrafficView
left s told notices u = record { traffic = traffic_of s told notices; before = undone_traffic u.which u s told notices }

-- the reading is refused
pub refusing : (reading : ReadingView) (old : TrafficView) (s : TrafficState) (told : List (Option Told)) (notices : List Notice) (u : UndoingView) (r : Refusal)
    → u.which ≡ last.Refused → traffic_of s told notices ≡ old.traffic → asked old.traffic reading ≡ Err r
    → AnswersReading reading old (left s told notices u) (Ok (Refused r))
refusing reading old s told notices u r which same e =
    let A : Traffic → Type 0 = λ t. Answers reading old.traffic t (Refused r) in
    let count : length notices ≡ length old.traffic.notices = ap (λ (t : Traffic). length t.notices) same in
    record {
      answers = subst A (sym same) (refused reading old.traffic r e);
      frozen = λ id a h. (let H : Traffic → Type 0 = λ t. HasPair a (frozen_pairs id t.regulations) in inl (subst H (sym same) h));
      before = ap (λ (w : Last). undone_traffic w u s told notices) which ∙ ap Some same;
      err = tt;
      memory = tt;
      grow = omega (arith, count);
      few = omega (arith, count);
    }

-- allocation fails
pub running-out : (reading : ReadingView) (old : TrafficView) (s : TrafficState) (told : List (Option Told)) (notices : List Notice) (u : UndoingView) (e : AllocError)
    → u.which ≡ last.Nothing → traffic_of s told notices ≡ old.traffic → MayTakeMemory reading old.traffic
    → AnswersReading reading old (left s told notices u) (Err e)
running-out reading old s told notices u e which same may =
    let W : Last → TrafficView = λ w. record { traffic = traffic_of s told notices; before = undone_traffic w u s told notices } in
    let T : Traffic → TrafficView = λ t. record { traffic = t; before = None } in
    let count : length notices ≡ length old.traffic.notices = ap (λ (t : Traffic). length t.notices) same in
    record {
      answers = tt;
      frozen = tt;
      before = tt;
      err = ap W which ∙ ap T same;
      memory = may;
      grow = omega (arith, count);
      few = omega (arith, count);
    }

-- it is accepted, in a state of settled slot lists
pub accepting : (reading : ReadingView) (old : TrafficView) (s : TrafficState) (told : List (Option Told)) (notices : List Notice)
    (new : TrafficState) (new_told : List (Option Told)) (new_notices more : List Notice) (u : UndoingView) (v : Verdict)
    → traffic_of s told notices ≡ old.traffic → IsSettled s.store.taxi s.time s.store.plans s.listing.lists
    → Answers reading old.traffic (traffic_of new new_told new_notices) v → undone_traffic u.which u new new_told new_notices ≡ Some old.traffic
    → new_notices ≡ notices ++ more → length new_notices ≤ length notices + MAX_PLANS
    → AnswersReading reading old (left new new_told new_notices u) (Ok v)
accepting reading old s told notices new new_told new_notices more u v same settled answers before e few =
    let count : length notices ≡ length old.traffic.notices = ap (λ (t : Traffic). length t.notices) same in
    record {
      answers = answers;
      frozen = frozen-settled reading s told notices old.traffic (traffic_of new new_told new_notices) v same settled answers;
      before = before;
      err = tt;
      memory = tt;
      grow = omega (arith, count, ap (λ (ns : List Notice). length ns) e, length-append notices more);
      few = omega (arith, count, few);
    }
