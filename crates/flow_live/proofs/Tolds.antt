-- What is written for frames, one after the other.
use Rattle.std.proofs.Common.{◌≡◌, ℕ, zero, suc, ◌+◌, ◌≤◌, Bool, true, false, cond, leb, List, [], ◌∷◌, ◌++◌, length, drop, refl, ap, sym, ◌∙◌, arith, append_assoc}
use Rattle.std.specs.List.{AllByRecursion}
use Rattle.flow_input.specs.NextFrame.{second}
use Rattle.flow_input.specs.Filings.{filings}
use Rattle.flow_core.specs.State.{State, EntryView}
use Rattle.flow_core.specs.Output.{answer_of, too_long_line, journal_full_line}
use Rattle.flow_desk.specs.Followers.{answers_with}
use Rattle.flow_live.specs.Told.{first_answer, told, full_answers}

-- a line, an empty one, and what is written next
line-then : (line all front back : List ℕ) → all ≡ front ++ back → line ++ 10 ∷ all ≡ (line ++ 10 ∷ front) ++ back
line-then line all front back e = ap (λ (q : List ℕ). line ++ 10 ∷ q) e ∙ sym (append_assoc line (10 ∷ front) back)

pub told-none : (s : State) (es : List EntryView) → told s [] es ≡ []
unfolding told
told-none s es = refl

-- a frame that is too long
pub told-long : (s : State) (f : List ℕ) → leb (length f) 2000 ≡ false → told s (f ∷ []) [] ≡ too_long_line ++ 10 ∷ []
unfolding told
told-long s f e = rw e refl

-- of the first frames all filings have entries, and then come others
pub told-whole : (s : State) (fs gs : List (List ℕ)) (es es' : List EntryView) → length es ≡ length (filings fs) → told s (fs ++ gs) (es ++ es') ≡ told s fs es ++ told s gs es'
unfolding told filings
told-whole s [] gs [] es' same = refl
told-whole s [] gs (e ∷ es) es' same = absurd (omega (arith, same))
told-whole s (f ∷ fs) gs [] es' same = by (leb (length f) 2000) same (told-whole s fs gs [] es')
  where
    by : (b : Bool) → 0 ≡ length (cond b (second f ∷ filings fs) (filings fs)) → (0 ≡ length (filings fs) → told s (fs ++ gs) es' ≡ told s fs [] ++ told s gs es')
        → cond b (first_answer s es' ++ 10 ∷ told s (fs ++ gs) (drop 1 es')) (too_long_line ++ 10 ∷ told s (fs ++ gs) es')
        ≡ cond b (journal_full_line ++ 10 ∷ told s fs []) (too_long_line ++ 10 ∷ told s fs []) ++ told s gs es'
    by true same next = absurd (omega (arith, same))
    by false same next = line-then too_long_line (told s (fs ++ gs) es') (told s fs []) (told s gs es') (next same)
told-whole s (f ∷ fs) gs (e ∷ es) es' same = by (leb (length f) 2000) same (told-whole s fs gs es es') (told-whole s fs gs (e ∷ es) es')
  where
    by : (b : Bool) → suc (length es) ≡ length (cond b (second f ∷ filings fs) (filings fs))
        → (length es ≡ length (filings fs) → told s (fs ++ gs) (es ++ es') ≡ told s fs es ++ told s gs es')
        → (suc (length es) ≡ length (filings fs) → told s (fs ++ gs) (e ∷ (es ++ es')) ≡ told s fs (e ∷ es) ++ told s gs es')
        → cond b (answer_of s e ++ 10 ∷ told s (fs ++ gs) (es ++ es')) (too_long_line ++ 10 ∷ told s (fs ++ gs) (e ∷ (es ++ es')))
        ≡ cond b (answer_of s e ++ 10 ∷ told s fs es) (too_long_line ++ 10 ∷ told s fs (e ∷ es)) ++ told s gs es'
    by true same next same_next = line-then (answer_of s e) (told s (fs ++ gs) (es ++ es')) (told s fs es) (told s gs es') (next (omega (arith, same)))
    by false same next same_next = line-then too_long_line (told s (fs ++ gs) (e ∷ (es ++ es'))) (told s fs (e ∷ es)) (told s gs es') (same_next same)

-- of the first frames the first filings have entries, and others have none
pub told-front : (s : State) (fs gs : List (List ℕ)) (es : List EntryView) → length es ≤ length (filings fs) → told s (fs ++ gs) es ≡ told s fs es ++ told s gs []
unfolding told filings
told-front s [] gs [] most = refl
told-front s [] gs (e ∷ es) most = absurd (omega (arith, most))
told-front s (f ∷ fs) gs [] most = by (leb (length f) 2000) (told-front s fs gs [] (omega arith))
  where
    by : (b : Bool) → told s (fs ++ gs) [] ≡ told s fs [] ++ told s gs []
        → cond b (journal_full_line ++ 10 ∷ told s (fs ++ gs) []) (too_long_line ++ 10 ∷ told s (fs ++ gs) [])
        ≡ cond b (journal_full_line ++ 10 ∷ told s fs []) (too_long_line ++ 10 ∷ told s fs []) ++ told s gs []
    by true next = line-then journal_full_line (told s (fs ++ gs) []) (told s fs []) (told s gs []) next
    by false next = line-then too_long_line (told s (fs ++ gs) []) (told s fs []) (told s gs []) next
told-front s (f ∷ fs) gs (e ∷ es) most = by (leb (length f) 2000) most (told-front s fs gs es) (told-front s fs gs (e ∷ es))
  where
    by : (b : Bool) → suc (length es) ≤ length (cond b (second f ∷ filings fs) (filings fs))
        → (length es ≤ length (filings fs) → told s (fs ++ gs) es ≡ told s fs es ++ told s gs [])
        → (suc (length es) ≤ length (filings fs) → told s (fs ++ gs) (e ∷ es) ≡ told s fs (e ∷ es) ++ told s gs [])
        → cond b (answer_of s e ++ 10 ∷ told s (fs ++ gs) es) (too_long_line ++ 10 ∷ told s (fs ++ gs) (e ∷ es))
        ≡ cond b (answer_of s e ++ 10 ∷ told s fs es) (too_long_line ++ 10 ∷ told s fs (e ∷ es)) ++ told s gs []
    by true most next same_next = line-then (answer_of s e) (told s (fs ++ gs) es) (told s fs es) (told s gs []) (next (omega (arith, most)))
    by false most next same_next = line-then too_long_line (told s (fs ++ gs) (e ∷ es)) (told s fs (e ∷ es)) (told s gs []) (same_next most)

-- the same is told of entries whose answers are the same
pub told-same : (s t : State) (fs : List (List ℕ)) (es : List EntryView) → AllByRecursion (λ e. answer_of t e ≡ answer_of s e) es → told t fs es ≡ told s fs es
unfolding told
told-same s t [] es same = refl
told-same s t (f ∷ fs) [] same = by (leb (length f) 2000) (told-same s t fs [] same)
  where
    by : (b : Bool) → told t fs [] ≡ told s fs []
        → cond b (journal_full_line ++ 10 ∷ told t fs []) (too_long_line ++ 10 ∷ told t fs [])
        ≡ cond b (journal_full_line ++ 10 ∷ told s fs []) (too_long_line ++ 10 ∷ told s fs [])
    by true next = ap (λ (q : List ℕ). journal_full_line ++ 10 ∷ q) next
    by false next = ap (λ (q : List ℕ). too_long_line ++ 10 ∷ q) next
told-same s t (f ∷ fs) (e ∷ es) same = by (leb (length f) 2000) same.0 (told-same s t fs es same.1) (told-same s t fs (e ∷ es) same)
  where
    by : (b : Bool) → answer_of t e ≡ answer_of s e → told t fs es ≡ told s fs es → told t fs (e ∷ es) ≡ told s fs (e ∷ es)
        → cond b (answer_of t e ++ 10 ∷ told t fs es) (too_long_line ++ 10 ∷ told t fs (e ∷ es))
        ≡ cond b (answer_of s e ++ 10 ∷ told s fs es) (too_long_line ++ 10 ∷ told s fs (e ∷ es))
    by true first next same_next = ap (λ (q : List ℕ). q ++ 10 ∷ told t fs es) first ∙ ap (λ (q : List ℕ). answer_of s e ++ 10 ∷ q) next
    by false first next same_next = ap (λ (q : List ℕ). too_long_line ++ 10 ∷ q) same_next

pub filings-short : (fs : List (List ℕ)) → length (filings fs) ≤ length fs
unfolding filings
filings-short [] = omega arith
filings-short (f ∷ fs) = by (leb (length f) 2000) (filings-short fs)
  where
    by : (b : Bool) → length (filings fs) ≤ length fs → length (cond b (second f ∷ filings fs) (filings fs)) ≤ suc (length fs)
    by true next = omega (arith, next)
    by false next = omega (arith, next)

-- where no frame is too long the answers to their entries are told, and that the others found the
-- journal full
pub told-filings : (s : State) (fs : List (List ℕ)) (es : List EntryView) (left : ℕ) → length (filings fs) ≡ length fs → length fs ≡ length es + left
    → told s fs es ≡ answers_with (10 ∷ []) s es ++ full_answers left
unfolding told filings
told-filings s [] [] zero short all = refl
told-filings s [] [] (suc n) short all = absurd (omega (arith, all))
told-filings s [] (e ∷ es) left short all = absurd (omega (arith, all))
told-filings s (f ∷ fs) [] zero short all = absurd (omega (arith, all))
told-filings s (f ∷ fs) [] (suc n) short all = by (leb (length f) 2000) short (told-filings s fs [] n)
  where
    by : (b : Bool) → length (cond b (second f ∷ filings fs) (filings fs)) ≡ suc (length fs)
        → (length (filings fs) ≡ length fs → length fs ≡ 0 + n → told s fs [] ≡ full_answers n)
        → cond b (journal_full_line ++ 10 ∷ told s fs []) (too_long_line ++ 10 ∷ told s fs []) ≡ (journal_full_line ++ 10 ∷ []) ++ full_answers n
    by true short next = line-then journal_full_line (told s fs []) [] (full_answers n) (next (omega (arith, short)) (omega (arith, all)))
    by false short next = absurd (omega (arith, short, filings-short fs))
told-filings s (f ∷ fs) (e ∷ es) left short all = by (leb (length f) 2000) short (told-filings s fs es left)
  where
    by : (b : Bool) → length (cond b (second f ∷ filings fs) (filings fs)) ≡ suc (length fs)
        → (length (filings fs) ≡ length fs → length fs ≡ length es + left → told s fs es ≡ answers_with (10 ∷ []) s es ++ full_answers left)
        → cond b (answer_of s e ++ 10 ∷ told s fs es) (too_long_line ++ 10 ∷ told s fs (e ∷ es))
        ≡ ((answer_of s e ++ 10 ∷ []) ++ answers_with (10 ∷ []) s es) ++ full_answers left
    by true short next =
        line-then (answer_of s e) (told s fs es) (answers_with (10 ∷ []) s es) (full_answers left) (next (omega (arith, short)) (omega (arith, all)))
        ∙ ap (λ (q : List ℕ). q ++ full_answers left) (sym (append_assoc (answer_of s e) (10 ∷ []) (answers_with (10 ∷ []) s es)))
    by false short next = absurd (omega (arith, short, filings-short fs))
