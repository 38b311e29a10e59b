-- Texts that answer no entry but these.
use Rattle.std.proofs.Common.{◌≡◌, ℕ, zero, suc, ◌-◌, inl, inr, List, [], ◌∷◌, ◌++◌, length, drop, refl, sym, ap, ◌∙◌, subst, Result, Ok, Err, OnOk}
use Rattle.std.specs.List.{All, Contains, flat_map}
use Rattle.std.proofs.lemmas.List.{append-nil}
use Rattle.std.proofs.lemmas.List.Concat.{flat_map-append}
use Rattle.std.proofs.lemmas.List.Elements.{All-nil, All-push, All-append, All-weaker, All-head, All-tail, All-drop, All-contains_itself, Contains-append_left}
use mathlib.Core.List.{IsPrefix}
use Rattle.fpl_message.specs.Filings.{FilingView}
use Rattle.flow_plans.specs.Settings.{SetupView}
use Rattle.flow_core.specs.State.{State, EntryView}
use Rattle.flow_core.specs.Output.{answer_of, too_long_line, journal_full_line}
use Rattle.flow_desk.specs.Followers.{answers_with, newest_entries, newest_answers, unseen_answers}
use Rattle.flow_desk.specs.Histories.{after, IsLawful}
use Rattle.flow_desk.specs.FeederPasses.{PassView, FiledInTurn, FiledFront}
use Rattle.flow_desk.proofs.Collecting.{answer-early}
use Rattle.flow_desk.proofs.Fronts.{prefix_self, prefix_trans}
use Rattle.flow_live.specs.Told.{full_answers}
use Rattle.flow_live.specs.Keeping.{AnswersOnly, AnswersSeen, IsPiece}
use Rattle.flow_live.proofs.Followings.{answers-plain}

module _ (s : SetupView) (stored : List EntryView) where
  pub only-none : AnswersOnly s stored []
  only-none = record { pieces = []; text_is = refl; each = All-nil (IsPiece s stored) }

  pub only-both : (a b : List ℕ) → AnswersOnly s stored a → AnswersOnly s stored b → AnswersOnly s stored (a ++ b)
  only-both a b x y = record {
    pieces = x.pieces ++ y.pieces;
    text_is = ap (λ (t : List ℕ). t ++ b) x.text_is ∙ (ap (λ (t : List ℕ). flat_map (λ (p : List ℕ). p) x.pieces ++ t) y.text_is ∙ sym (flat_map-append (λ (p : List ℕ). p) x.pieces y.pieces));
    each = All-append (IsPiece s stored) x.pieces y.pieces x.each y.each;
  }

  only-one : (text : List ℕ) → IsPiece s stored text → AnswersOnly s stored text
  only-one text is = record {
    pieces = text ∷ [];
    text_is = sym (append-nil text);
    each = All-push (IsPiece s stored) [] text (All-nil (IsPiece s stored)) is;
  }

  pub only-empty_line : AnswersOnly s stored (10 ∷ [])
  only-empty_line = only-one (10 ∷ []) (inr (inr (inr refl)))

  pub only-too_long : AnswersOnly s stored (too_long_line ++ 10 ∷ [])
  only-too_long = only-both too_long_line (10 ∷ []) (only-one too_long_line (inr (inl refl))) only-empty_line

  pub only-full : (n : ℕ) → AnswersOnly s stored (full_answers n)
  only-full zero = only-none
  only-full (suc n) =
      only-both (journal_full_line ++ 10 ∷ []) (full_answers n) (only-both journal_full_line (10 ∷ []) (only-one journal_full_line (inr (inr (inl refl)))) only-empty_line) (only-full n)

  -- the answers to some of them
  pub only-answers : (end : List ℕ) → AnswersOnly s stored end → (es : List EntryView) → All (Contains stored) es → AnswersOnly s stored (answers_with end (after s stored) es)
  only-answers end last [] all = only-none
  only-answers end last (e ∷ es) all =
      let one : List ℕ = answer_of (after s stored) e in
      only-both (one ++ end) (answers_with end (after s stored) es) (only-both one end (only-one one (inl (e, All-head (Contains stored) e es all, refl))) last)
      (only-answers end last es (All-tail (Contains stored) e es all))

  -- and those to the last of them
  pub only-newest : (end : List ℕ) (n : ℕ) → AnswersOnly s stored end → AnswersOnly s stored (newest_answers s n end stored)
  only-newest end n last = only-answers end last (newest_entries n stored) (All-drop (Contains stored) (length stored - n) stored (All-contains_itself stored))

  pub only-unseen : (seen : ℕ) → AnswersOnly s stored (unseen_answers s seen stored)
  only-unseen seen = only-answers [] only-none (drop seen stored) (All-drop (Contains stored) seen stored (All-contains_itself stored))

-- when more is stored these are answers to it, too
pub only-later : (s : SetupView) (stored more : List EntryView) (text : List ℕ) → IsPrefix stored more → IsLawful s more → AnswersOnly s stored text → AnswersOnly s more text
only-later s stored more text p lawful x = record {
  pieces = x.pieces;
  text_is = x.text_is;
  each = All-weaker (IsPiece s stored) (IsPiece s more) later x.pieces x.each;
}
  where
    later : (piece : List ℕ) → IsPiece s stored piece → IsPiece s more piece
    later piece (inl is) = inl (is.0, subst (λ (es : List EntryView). Contains es is.0) p.1 (Contains-append_left stored p.0 is.0 is.1), is.2 ∙ sym (answer-early s stored more is.0 p lawful is.1))
    later piece (inr line) = inr line

-- the answers to the last entries of a journal all of which are stored
pub only-rest : (s : SetupView) (st : State) (stored : List EntryView) (seen : ℕ) → st ≡ after s st.journal → stored ≡ st.journal → AnswersOnly s stored (flat_map (answer_of st) (drop seen st.journal))
only-rest s st stored seen is same =
    let text : unseen_answers s seen st.journal ≡ flat_map (answer_of st) (drop seen st.journal) =
    answers-plain (after s st.journal) (drop seen st.journal) ∙ ap (λ (t : State). flat_map (answer_of t) (drop seen st.journal)) (sym is) in
    subst (λ (es : List EntryView). AnswersOnly s es (flat_map (answer_of st) (drop seen st.journal))) (sym same)
    (subst (λ (t : List ℕ). AnswersOnly s st.journal t) text (only-unseen s st.journal seen))

-- ---- a feeder

turn-later : (s : SetupView) (p : PassView) (ts : List FilingView) (q : PassView) → FiledInTurn s p ts q → IsPrefix p.seen q.seen
turn-later s p [] q is = subst (λ (v : PassView). IsPrefix p.seen v.seen) (sym is) (prefix_self p.seen)
turn-later s p (t ∷ ts) q h =
    let m : PassView = h.1 in
    prefix_trans p.seen m.seen q.seen (prefix_trans p.seen h.2.filed.before m.seen h.2.filed.later (_, sym h.2.filed.seen)) (turn-later s m ts q h.3)

-- what was ready was filed
pub seen-filed : (s : SetupView) (p q : PassView) (before seen : List EntryView) (text now : List ℕ) (ready left : List FilingView) → AnswersSeen s p before text → FiledFront s p ready q left → IsLawful s q.seen → seen ≡ q.seen
    → now ≡ text ++ newest_answers s (length ready - length left) (10 ∷ []) q.seen → AnswersSeen s q seen now
seen-filed s p q before seen text now ready left a filed lawful is now_is =
    let later : IsPrefix before q.seen = subst (λ (es : List EntryView). IsPrefix es q.seen) (sym a.seen_is) (prefix_trans p.seen filed.saw.seen q.seen filed.others.more.later (turn-later s filed.saw filed.front q filed.filed)) in
    let n : ℕ = length ready - length left in
    let both : AnswersOnly s q.seen (text ++ newest_answers s n (10 ∷ []) q.seen) =
    only-both s q.seen text (newest_answers s n (10 ∷ []) q.seen) (only-later s before q.seen text later lawful a.only) (only-newest s q.seen (10 ∷ []) n (only-empty_line s q.seen)) in
    record {
      seen_is = is;
      lawful = subst (λ (es : List EntryView). IsLawful s es) (sym is) lawful;
      only = subst (λ (es : List EntryView). AnswersOnly s es now) (sym is) (subst (λ (t : List ℕ). AnswersOnly s q.seen t) (sym now_is) both);
    }

-- a text that answers none was appended
pub seen-more : {T E : Type 0} (result : Result T E) (s : SetupView) (p : PassView) (seen : List EntryView) (text more now : List ℕ) → AnswersSeen s p seen text → AnswersOnly s seen more → OnOk result (now ≡ text ++ more) → OnOk result (AnswersSeen s p seen now)
seen-more (Err e) s p seen text more now a only is = tt
seen-more (Ok x) s p seen text more now a only is = record {
  seen_is = a.seen_is;
  lawful = a.lawful;
  only = subst (λ (t : List ℕ). AnswersOnly s seen t) (sym is) (only-both s seen text more a.only only);
}
