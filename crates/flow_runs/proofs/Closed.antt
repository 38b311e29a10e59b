-- What the feeders of a closed desk have filed, feeder by feeder.
use Rattle.std.proofs.Common.{◌≡◌, ◌≢◌, ℕ, zero, suc, ◌+◌, ◌<◌, ◌==◌, true, List, [], ◌∷◌, ◌++◌, length, Option, None, Some, slice_get, refl, sym, ap, subst, ◌∙◌, inl, inr, arith, length-append}
use Rattle.std.specs.List.{All}
use Rattle.std.proofs.lemmas.List.{append_cancel_left, append-nil, get_or-append_right}
use Rattle.std.proofs.lemmas.List.Folds.{list_any_at}
use Rattle.std.proofs.lemmas.Bool.Decides.{nat_tests}
use Rattle.std.proofs.lemmas.Option.{slice_get_within, slice_get-get_or, get_or_from_slice_get}
use mathlib.Core.List.{IsPrefix}
use lib.ListN.{get_or}
use Rattle.fpl_message.specs.Filings.{FilingView}
use Rattle.flow_plans.specs.Settings.{SetupView}
use Rattle.flow_core.specs.declared.receipt.StepFault.TheVariants as step
use Rattle.flow_core.specs.State.{EntryView}
use Rattle.flow_core.specs.CoreView.{texts_of}
use Rattle.flow_core.specs.History.{History, state_of}
use Rattle.flow_desk.specs.declared.feeders.End.{End}
use Rattle.flow_desk.specs.declared.feeders.End.TheVariants.{Finished, Stopped, NotStarted}
use Rattle.flow_desk.specs.Desks.{AreOpened, IsMissing, has_pass}
use Rattle.flow_desk.specs.Feeds.{EndsAs}
use Rattle.flow_desk.specs.Histories.{own, after}
use Rattle.flow_desk.specs.Locks.{AgreesWithPass}
use Rattle.flow_desk.specs.FeederPasses.{PassView}
use Rattle.flow_desk.proofs.Fronts.{prefix_trans, prefix_length}
use Rattle.flow_desk.proofs.Owning.{own-append}
use Rattle.flow_runs.specs.declared.fault.RunFault.{RunFault}
use Rattle.flow_runs.specs.Ends.{EndsWell}
use Rattle.flow_runs.specs.Filing.{HasFiled, RanFeed, RanFeeds}

-- how one feed of many has run, by which pass, and what is true of that pass and of its end
record RunAt (s : SetupView) (Q : PassView → Type 0) (E : End → Type 0) (ps : List PassView) (qs : List PassView) (k : ℕ) (feed : List FilingView) : Type 0 where
  p : PassView
  q : PassView
  left : List FilingView
  end : End
  at_p : slice_get ps k ≡ Some p
  at_q : slice_get qs k ≡ Some q
  ran : RanFeed s p feed q left end
  is_q : Q q
  is_end : E end

all-tail : {X : Type 0} (P : X → Type 0) (x : X) (xs : List X) → All P (x ∷ xs) → All P xs
all-tail P x xs all = λ k d lt. all (suc k) d (omega (arith, lt))

run-at : (s : SetupView) (Q : PassView → Type 0) (E : End → Type 0) (ps : List PassView) (fs : List (List FilingView)) (qs : List PassView) (ls : List (List FilingView)) (es : List End)
    → RanFeeds s ps fs qs ls es → All Q qs → All E es → (k : ℕ) (feed : List FilingView) → slice_get fs k ≡ Some feed → RunAt s Q E ps qs k feed
run-at s Q E ps [] qs ls es h all ends k feed at = absurd (omega (arith, slice_get_within [] k feed at))
run-at s Q E [] (f ∷ fs) qs ls es h all ends k feed at = absurd h
run-at s Q E (p ∷ ps) (f ∷ fs) [] ls es h all ends k feed at = absurd h
run-at s Q E (p ∷ ps) (f ∷ fs) (q ∷ qs) [] es h all ends k feed at = absurd h
run-at s Q E (p ∷ ps) (f ∷ fs) (q ∷ qs) (l ∷ ls) [] h all ends k feed at = absurd h
run-at s Q E (p ∷ ps) (f ∷ fs) (q ∷ qs) (l ∷ ls) (e ∷ es) h all ends zero feed at =
    let same : f ≡ feed = cc at in
    record {
      p = p;
      q = q;
      left = l;
      end = e;
      at_p = refl;
      at_q = refl;
      ran = subst (λ (t : List FilingView). RanFeed s p t q l e) same h.0;
      is_q = all 0 q (omega arith);
      is_end = ends 0 e (omega arith);
    }
run-at s Q E (p ∷ ps) (f ∷ fs) (q ∷ qs) (l ∷ ls) (e ∷ es) h all ends (suc k) feed at =
    let i = run-at s Q E ps fs qs ls es h.1 (all-tail Q q qs all) (all-tail E e es ends) k feed at in
    record {
      p = i.p;
      q = i.q;
      left = i.left;
      end = i.end;
      at_p = i.at_p;
      at_q = i.at_q;
      ran = i.ran;
      is_q = i.is_q;
      is_end = i.is_end;
    }

-- of the entries after those read, this feeder's are its feed up to what is left
filed-at : (s : SetupView) (E : End → Type 0) (n : ℕ) (read entries : List EntryView) (ps qs : List PassView) (k : ℕ) (feed : List FilingView) (r : RunAt s (AgreesWithPass (read ++ entries)) E ps qs k feed)
    → AreOpened n read ps → texts_of (own k entries) ++ r.left ≡ feed
filed-at s E n read entries ps qs k feed r opened =
    let ran = r.ran.filed.ran in
    let opened_p : r.p ≡ record { feeder = k; receipts = length (own k read); seen = read } = opened.1 k r.p r.at_p in
    let feeder_p : r.p.feeder ≡ k = ap (λ (v : PassView). v.feeder) opened_p in
    let seen_p : r.p.seen ≡ read = ap (λ (v : PassView). v.seen) opened_p in
    let feeder_q : r.q.feeder ≡ k = ran.feeder ∙ feeder_p in
    let journal : List EntryView = read ++ entries in
    let all_own : own k journal ≡ own k read ++ ran.entries =
    ap (λ (j : ℕ). own j journal) (sym feeder_q) ∙ (r.is_q.none_own ∙ (ran.own_are ∙ (ap (λ (j : ℕ). own j r.p.seen ++ ran.entries) feeder_p ∙ ap (λ (es : List EntryView). own k es ++ ran.entries) seen_p))) in
    let mine : own k entries ≡ ran.entries = append_cancel_left (own k read) (own k entries) ran.entries (sym (own-append k read entries) ∙ all_own) in
    ap (λ (es : List EntryView). texts_of es ++ r.left) mine ∙ ran.texts

-- where the journal isn't full, nothing is left of a feed for which no allocation failed
none-left : (s : SetupView) (journal : List EntryView) (end : End) (q : PassView) (left : List FilingView) → EndsAs s end q left → EndsWell end → IsPrefix q.seen journal → length journal < s.max_entries → left ≡ []
none-left s journal Finished q left ends well later room = ends
none-left s journal (Stopped step.JournalFull) q left ends well later room = absurd (omega (arith, ends.1 refl, prefix_length q.seen journal later, room))
none-left s journal (Stopped step.OutOfMemory) q left ends well later room = absurd (well refl)
none-left s journal NotStarted q left ends well later room = absurd ends

-- so it is filed whole
whole-at : (s : SetupView) (read entries : List EntryView) (ps qs : List PassView) (k : ℕ) (feed : List FilingView) (r : RunAt s (AgreesWithPass (read ++ entries)) EndsWell ps qs k feed)
    → length (read ++ entries) < s.max_entries → texts_of (own k entries) ++ r.left ≡ feed → texts_of (own k entries) ≡ feed
whole-at s read entries ps qs k feed r room filed =
    let none : r.left ≡ [] = none-left s (read ++ entries) r.end r.q r.left r.ran.ends r.is_end r.is_q.later room in
    sym (append-nil (texts_of (own k entries))) ∙ (ap (λ (ts : List FilingView). texts_of (own k entries) ++ ts) (sym none) ∙ filed)

-- what holds of all entries holds of those after
all-behind : {X : Type 0} (P : X → Type 0) (xs ys : List X) → All P (xs ++ ys) → All P ys
all-behind P xs ys all = λ k d lt.
    let there : get_or (xs ++ ys) (length xs + k) d ≡ get_or ys k d = get_or-append_right xs ys (length xs) (length xs + k) d refl (omega arith) ∙ ap (λ (i : ℕ). get_or ys i d) (omega arith) in
    subst P there (all (length xs + k) d (omega (arith, length-append xs ys, lt)))

-- the first feed's pass saw the entries read, and the journal begins with what it saw at last
read-first : (s : SetupView) (E : End → Type 0) (n : ℕ) (read journal : List EntryView) (ps qs : List PassView) (k : ℕ) (feed : List FilingView)
    → RunAt s (AgreesWithPass journal) E ps qs k feed → AreOpened n read ps → IsPrefix read journal
read-first s E n read journal ps qs k feed r opened =
    let seen_p : r.p.seen ≡ read = ap (λ (v : PassView). v.seen) (opened.1 k r.p r.at_p) in
    subst (λ (es : List EntryView). IsPrefix es journal) seen_p (prefix_trans r.p.seen r.q.seen journal r.ran.filed.ran.later r.is_q.later)

-- the feeders have filed what the closed desk has
pub closed : (s : SetupView) (n : ℕ) (read : List EntryView) (ps : List PassView) (fs : List (List FilingView)) (qs qs' : List PassView) (ls : List (List FilingView)) (es : List End) (core : History) (stop : Option RunFault)
    → 0 < n → length fs ≡ n → AreOpened n read ps → RanFeeds s ps fs qs ls es → (stop ≡ None → length (state_of core).journal < s.max_entries → All EndsWell es) → (stop ≢ None → length (state_of core).journal < s.max_entries) → qs' ≡ qs
    → core.setup ≡ s → state_of core ≡ after s (state_of core).journal → All (λ (e : EntryView). e.input.feeder < n) (state_of core).journal → All (AgreesWithPass (state_of core).journal) qs'
    → HasFiled s read n fs core stop
closed s n read ps fs qs qs' ls es core stop some wide opened ran well few same setup_is one below agree' =
    let journal : List EntryView = (state_of core).journal in
    let agree : All (AgreesWithPass journal) qs = subst (λ (v : List PassView). All (AgreesWithPass journal) v) same agree' in
    let any : End → Type 0 = λ e. Unit {0} in
    let first : List FilingView = get_or fs 0 [] in
    let front : IsPrefix read journal = read-first s any n read journal ps qs 0 first (run-at s (AgreesWithPass journal) any ps fs qs ls es ran agree (λ k d lt. tt) 0 first (slice_get-get_or fs 0 [] (omega (arith, some, wide)))) opened in
    let entries : List EntryView = front.0 in
    let is : journal ≡ read ++ entries = sym front.1 in
    let agrees : All (AgreesWithPass (read ++ entries)) qs = subst (λ (j : List EntryView). All (AgreesWithPass j) qs) is agree in
    record {
      entries = entries;
      setup_is = setup_is;
      journal = is;
      one_thread = one ∙ ap (after s) is;
      below = all-behind (λ (e : EntryView). e.input.feeder < n) read entries (subst (λ (j : List EntryView). All (λ (e : EntryView). e.input.feeder < n) j) is below);
      fronts = λ k feed at. (let r = run-at s (AgreesWithPass (read ++ entries)) any ps fs qs ls es ran agrees (λ k d lt. tt) k feed at in (r.left, filed-at s any n read entries ps qs k feed r opened));
      room = λ stopped. subst (λ (j : List EntryView). length j < s.max_entries) is (few stopped);
      whole = λ none room k feed at. (let r = run-at s (AgreesWithPass (read ++ entries)) EndsWell ps fs qs ls es ran agrees (well none (subst (λ (j : List EntryView). length j < s.max_entries) front.1 room)) k feed at in whole-at s read entries ps qs k feed r room (filed-at s EndsWell n read entries ps qs k feed r opened));
    }

-- all passes are returned
pub as-many : (s : SetupView) (ps : List PassView) (fs : List (List FilingView)) (qs : List PassView) (ls : List (List FilingView)) (es : List End) → RanFeeds s ps fs qs ls es → length qs ≡ length ps
as-many s [] [] [] ls es h = refl
as-many s [] (f ∷ fs) qs ls es h = absurd h
as-many s [] [] (q ∷ qs) ls es h = absurd h
as-many s (p ∷ ps) [] qs ls es h = absurd h
as-many s (p ∷ ps) (f ∷ fs) [] ls es h = absurd h
as-many s (p ∷ ps) (f ∷ fs) (q ∷ qs) [] es h = absurd h
as-many s (p ∷ ps) (f ∷ fs) (q ∷ qs) (l ∷ ls) [] h = absurd h
as-many s (p ∷ ps) (f ∷ fs) (q ∷ qs) (l ∷ ls) (e ∷ es) h = ap suc (as-many s ps fs qs ls es h.1)

-- no feeder's pass is missing when all have run
pub none-missing : (s : SetupView) (n : ℕ) (read : List EntryView) (ps : List PassView) (fs : List (List FilingView)) (qs : List PassView) (ls : List (List FilingView)) (es : List End)
    → length fs ≡ n → AreOpened n read ps → RanFeeds s ps fs qs ls es → IsMissing n qs → ⊥
none-missing s n read ps fs qs ls es wide opened ran missing =
    let k : ℕ = missing.0 in
    let feed : List FilingView = get_or fs k [] in
    let any_pass : PassView → Type 0 = λ q. Unit {0} in
    let any_end : End → Type 0 = λ e. Unit {0} in
    let r = run-at s any_pass any_end ps fs qs ls es ran (λ i d lt. tt) (λ i d lt. tt) k feed (slice_get-get_or fs k [] (omega (arith, missing.1, wide))) in
    let feeder : r.q.feeder ≡ k = r.ran.filed.ran.feeder ∙ ap (λ (v : PassView). v.feeder) (opened.1 k r.p r.at_p) in
    let its : (r.q.feeder == k) ≡ true = grind (arith, nat_tests) in
    let there : ((get_or qs k r.q).feeder == k) ≡ true = ap (λ (v : PassView). v.feeder == k) (get_or_from_slice_get qs k r.q r.q r.at_q) ∙ its in
    let has : has_pass qs k ≡ true = list_any_at (λ (v : PassView). v.feeder == k) qs k r.q (slice_get_within qs k r.q r.at_q) there in
    absurd (cc (missing.2, has))
