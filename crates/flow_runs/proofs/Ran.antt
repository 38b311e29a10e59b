-- What a run with many feeders has come to, from its parts.
use Rattle.std.proofs.Common.{◌≡◌, ◌≢◌, ◌⊎◌, inl, inr, ℕ, ◌-◌, ◌≤◌, Bool, List, [], ◌∷◌, ◌++◌, length, drop, refl, ap, sym, ◌∙◌, subst, arith, Option, Some, None, IfSome, Result, Ok, Err, OnOk, IfErr, IsErrOf, length-append}
use Rattle.std.specs.Io.KnownBytes.{Appends}
use Rattle.std.proofs.KnownBytes.{Keeps-refl}
use Rattle.flow_plans.specs.Settings.{SetupView}
use Rattle.flow_input.specs.Frames.{frames}
use Rattle.flow_input.specs.Writes.{AppendsFront, Writes}
use Rattle.flow_input.specs.declared.counted.Counted.{Counted}
use Rattle.flow_input.proofs.Written.{Appends-both, AppendsFront-both, Writes-then}
use Rattle.fpl_message.specs.Filings.{FilingView}
use Rattle.flow_core.specs.State.{State, Input, EntryView}
use Rattle.flow_core.specs.Steps.{run}
use Rattle.flow_core.specs.Journal.{HoldsJournal}
use Rattle.flow_input.specs.Cutting.{Overrun}
use Rattle.flow_input.specs.declared.input.TheConstants.{MAX_INPUT}
use Rattle.flow_desk.specs.Blanks.{first_beyond}
use Rattle.flow_core.specs.History.{History, state_of}
use Rattle.flow_desk.specs.Histories.{after}
use Rattle.flow_runs.specs.Dealing.{dealt}
use Rattle.flow_input.specs.Filings.{filings}
use Rattle.flow_runs.specs.Reading.{long_lines, HasRead, ToldUntil, EndedBefore}
use Rattle.flow_runs.proofs.Readings.{ToldFirst-none, ToldEnded-none, ToldFront-none}
use Rattle.flow_runs.specs.Filing.{HasFiled}
use Rattle.flow_runs.specs.declared.fault.RunFault.{RunFault}
use Rattle.flow_runs.specs.declared.fault.RunFault.TheVariants as fault
use Rattle.flow_runs.specs.ManyRuns.{answers, answered_now, ended, ended_before_replay, end_lines, end_before_replay, answers_and_end, WritesWithReplay, RanMany, RanTo, RanOn, OverrunAfter, HoldsBeyond, HoldsSome}
use Rattle.flow_runs.specs.ManyRuns.{HaveFiled, FiledAll, IsCutShort, AnsweredUntil, EndedByMemory, EndedBy, EndedOnBy}

drop-length : {X : Type 0} (xs ys : List X) → drop (length xs) (xs ++ ys) ≡ ys
drop-length [] ys = refl
drop-length (x ∷ xs) ys = drop-length xs ys

module _ (setup : SetupView) (read : List EntryView) (feeders : ℕ) (journal : Bool) (input : List (List ℕ)) (feeds : List (List FilingView)) (count : ℕ) (begun mid written : Option (List ℕ)) (core : History) (stop : Option RunFault) (r : ℕ)
    (h : HasRead feeders input feeds count begun mid) (f : HasFiled setup read feeders feeds core stop) (start : r ≡ length read) where
  behind : drop r (state_of core).journal ≡ f.entries
  behind = ap (λ (n : ℕ). drop n (state_of core).journal) start ∙ (ap (drop (length read)) f.journal ∙ drop-length read f.entries)

  left : count - (length (state_of core).journal - r) ≡ length (filings input) - length f.entries
  left = omega (arith, h.counted, start, ap length f.journal, length-append read f.entries)

  pub same-ended : long_lines input ++ answers_and_end (state_of core) r count journal
      ≡ long_lines input ++ (answers (after setup (read ++ f.entries)) f.entries ++ end_lines (after setup (read ++ f.entries)) (length (filings input) - length f.entries) journal)
  same-ended =
      ap (λ (q : List EntryView). long_lines input ++ (answers (state_of core) q ++ end_lines (state_of core) (count - (length (state_of core).journal - r)) journal)) behind
      ∙ (ap (λ (n : ℕ). long_lines input ++ (answers (state_of core) f.entries ++ end_lines (state_of core) n journal)) left
      ∙ ap (λ (q : State). long_lines input ++ (answers q f.entries ++ end_lines q (length (filings input) - length f.entries) journal)) f.one_thread)

  -- all was read, filed and answered
  pub RanMany-made : stop ≡ None → Appends mid written (answers_and_end (state_of core) r count journal) → RanMany setup read feeders journal input begun written
  RanMany-made none a =
      record {
        entries = f.entries;
        one_thread = ap (λ (q : State). q.journal) (sym f.one_thread) ∙ f.journal;
        below = f.below;
        fronts = λ k in_k. f.fronts k (dealt feeders k (filings input)) (h.dealt.each k in_k);
        whole = λ few k in_k. f.whole none few k (dealt feeders k (filings input)) (h.dealt.each k in_k);
        output = Appends-both begun mid written (long_lines input) (answers_and_end (state_of core) r count journal)
            (long_lines input ++ (answers (after setup (read ++ f.entries)) f.entries ++ end_lines (after setup (read ++ f.entries)) (length (filings input) - length f.entries) journal)) h.told a same-ended;
      }

  -- so are the answers alone, and what precedes the replay
  same-answered : long_lines input ++ answers (state_of core) (drop r (state_of core).journal) ≡ answered_now setup read input f.entries
  same-answered =
      ap (λ (q : List EntryView). long_lines input ++ answers (state_of core) q) behind ∙ ap (λ (q : State). long_lines input ++ answers q f.entries) f.one_thread

  same-before : long_lines input ++ (answers (state_of core) (drop r (state_of core).journal) ++ end_before_replay (state_of core) (count - (length (state_of core).journal - r)) journal) ≡ ended_before_replay setup read journal input f.entries
  same-before =
      ap (λ (q : List EntryView). long_lines input ++ (answers (state_of core) q ++ end_before_replay (state_of core) (count - (length (state_of core).journal - r)) journal)) behind
      ∙ (ap (λ (n : ℕ). long_lines input ++ (answers (state_of core) f.entries ++ end_before_replay (state_of core) n journal)) left
      ∙ ap (λ (q : State). long_lines input ++ (answers q f.entries ++ end_before_replay q (length (filings input) - length f.entries) journal)) f.one_thread)

  -- all was read and filed, and this is so of the entries
  pub filed-so : (Is : List EntryView → Type 0) → Is f.entries → HaveFiled setup read feeders input Is
  filed-so Is is =
      record {
        entries = f.entries;
        one_thread = ap (λ (q : State). q.journal) (sym f.one_thread) ∙ f.journal;
        below = f.below;
        fronts = λ k in_k. f.fronts k (dealt feeders k (filings input)) (h.dealt.each k in_k);
        is = is;
      }

  pub front-filed : AppendsFront mid written (answers_and_end (state_of core) r count journal) → HaveFiled setup read feeders input (λ entries. AppendsFront begun written (ended setup read journal input entries))
  front-filed a =
      filed-so (λ entries. AppendsFront begun written (ended setup read journal input entries))
      (AppendsFront-both begun mid written (long_lines input) (answers_and_end (state_of core) r count journal) (ended setup read journal input f.entries) h.told a same-ended)

  cut-short : (stop ≢ None) × Appends mid written (answers (state_of core) (drop r (state_of core).journal)) → IsCutShort setup read input begun written f.entries
  cut-short a =
      (f.room a.0, Appends-both begun mid written (long_lines input) (answers (state_of core) (drop r (state_of core).journal)) (answered_now setup read input f.entries) h.told a.1 same-answered)

  pub memory-filed : (((stop ≢ None) × Appends mid written (answers (state_of core) (drop r (state_of core).journal)))
      ⊎ ((stop ≡ None) × Appends mid written (answers (state_of core) (drop r (state_of core).journal) ++ end_before_replay (state_of core) (count - (length (state_of core).journal - r)) journal)))
      → EndedByMemory setup read feeders journal input begun written
  memory-filed (inl a) =
      inr (filed-so (λ entries. IsCutShort setup read input begun written entries ⊎ (FiledAll setup read feeders input entries × Appends begun written (ended_before_replay setup read journal input entries))) (inl (cut-short a)))
  memory-filed (inr a) =
      inr (filed-so (λ entries. IsCutShort setup read input begun written entries ⊎ (FiledAll setup read feeders input entries × Appends begun written (ended_before_replay setup read journal input entries)))
      (inr (
        λ few k in_k. f.whole a.0 few k (dealt feeders k (filings input)) (h.dealt.each k in_k),
        Appends-both begun mid written (long_lines input) (answers (state_of core) (drop r (state_of core).journal) ++ end_before_replay (state_of core) (count - (length (state_of core).journal - r)) journal)
            (ended_before_replay setup read journal input f.entries) h.told a.1 same-before,
      )))

-- whatever the input was
pub RanMany-all : (setup : SetupView) (read : List EntryView) (feeders : ℕ) (journal : Bool) (input : Option (List ℕ)) (feeds : List (List FilingView)) (count : ℕ) (begun mid written : Option (List ℕ)) (core : History) (stop : Option RunFault) (r : ℕ)
    → IfSome input (λ bytes. HasRead feeders (frames bytes) feeds count begun mid) → HasFiled setup read feeders feeds core stop → stop ≡ None → r ≡ length read → Appends mid written (answers_and_end (state_of core) r count journal)
    → IfSome input (λ bytes. RanMany setup read feeders journal (frames bytes) begun written)
RanMany-all setup read feeders journal None feeds count begun mid written core stop r h f none start a = tt
RanMany-all setup read feeders journal (Some bytes) feeds count begun mid written core stop r h f none start a = RanMany-made setup read feeders journal (frames bytes) feeds count begun mid written core stop r h f start none a

-- and the desk is then this one
pub RanTo-all : (setup : SetupView) (read : List EntryView) (feeders : ℕ) (journal : Bool) (input : Option (List ℕ)) (feeds : List (List FilingView)) (count : ℕ) (begun mid written : Option (List ℕ)) (core : History) (stop : Option RunFault) (r : ℕ)
    → IfSome input (λ bytes. HasRead feeders (frames bytes) feeds count begun mid) → HasFiled setup read feeders feeds core stop → stop ≡ None → r ≡ length read → Appends mid written (answers_and_end (state_of core) r count journal)
    → IfSome input (λ bytes. RanTo setup read feeders journal (frames bytes) begun written core)
unfolding RanMany-made
RanTo-all setup read feeders journal None feeds count begun mid written core stop r h f none start a = tt
RanTo-all setup read feeders journal (Some bytes) feeds count begun mid written core stop r h f none start a =
    (RanMany-made setup read feeders journal (frames bytes) feeds count begun mid written core stop r h f start none a, f.one_thread)

-- the answers were written, and then what follows them, or how far that was
pub answered-rest : {D E : Type 0} {contents : D → Option (List ℕ)} {x : Unit {0}} {old mid : Counted D} (r : Result (Unit {0}) RunFault) (new : Counted D) (stop : Option RunFault) (s : State) (read count : ℕ) (journal : Bool) → stop ≡ None
    → Writes {E = E} contents (Ok x) old mid (answers s (drop read s.journal)) → WritesWithReplay contents r mid new (end_before_replay s (count - (length s.journal - read)) journal)
    → IfErr r (λ e. AnsweredUntil e stop s read count journal (contents old.device) (contents new.device))
answered-rest (Ok x) new stop s read count journal none told rest = tt
answered-rest (Err fault.Write) new stop s read count journal none told rest = (Writes-then (Err fault.Write) (answers_and_end s read count journal) told rest refl).err
answered-rest (Err fault.OutOfMemory) new stop s read count journal none told rest =
    inr (none, (Writes-then (Ok (tt {0})) (answers s (drop read s.journal) ++ end_before_replay s (count - (length s.journal - read)) journal) told rest refl).ok)
answered-rest (Err _) new stop s read count journal none told rest = rest

-- all of it, if no fault came
pub answered-whole : {D E : Type 0} {contents : D → Option (List ℕ)} {x : Unit {0}} {old mid : Counted D} (r : Result (Unit {0}) RunFault) (new : Counted D) (s : State) (read count : ℕ) (journal : Bool)
    → Writes {E = E} contents (Ok x) old mid (answers s (drop read s.journal)) → WritesWithReplay contents r mid new (end_before_replay s (count - (length s.journal - read)) journal)
    → OnOk r (Appends (contents old.device) (contents new.device) (answers_and_end s read count journal))
answered-whole (Ok y) new s read count journal told rest = (Writes-then (Ok y) (answers_and_end s read count journal) told rest refl).ok
answered-whole (Err e) new s read count journal told rest = tt

-- the answers were written, and a feed ended with this fault
pub answered-stop : (e : RunFault) (stop : Option RunFault) (s : State) (read count : ℕ) (journal : Bool) (begun written : Option (List ℕ)) → stop ≡ Some e → e ≡ fault.OutOfMemory
    → Appends begun written (answers s (drop read s.journal)) → AnsweredUntil e stop s read count journal begun written
answered-stop e stop s read count journal begun written is memory told =
    subst (λ (k : RunFault). AnsweredUntil k stop s read count journal begun written) (sym memory) (inl (λ none. cc (is, none), told))

-- ---- where a run ended with a fault

pub if-some : {X : Type 0} {P Q : X → Type 0} (o : Option X) → ((x : X) → P x → Q x) → IfSome o P → IfSome o Q
if-some None f p = p
if-some (Some x) f p = f x p

module _ (setup : SetupView) (read : List EntryView) (feeders : ℕ) (journal : Bool) where
  -- while its frames were read
  ended-told : (e : RunFault) (begun written input rest : Option (List ℕ)) → ToldUntil e begun written input rest → EndedBy e setup read feeders journal begun written input rest
  ended-told fault.Read begun written input rest t = t
  ended-told fault.TooMuch begun written input rest t = t
  ended-told fault.Write begun written input rest t = inl t
  ended-told fault.OutOfMemory begun written input rest t = inl t
  ended-told _ begun written input rest t = absurd t

  -- before any frame was read
  pub ended-first : (e : RunFault) (begun input : Option (List ℕ)) → e ≢ fault.NotStarted → EndedBy e setup read feeders journal begun begun input input
  ended-first fault.Read begun input none = ToldEnded-none begun input
  ended-first fault.TooMuch begun input none = ToldFirst-none begun input
  ended-first fault.Write begun input none = inl (ToldFront-none begun input)
  ended-first fault.OutOfMemory begun input none = inl (ToldFirst-none begun input)
  ended-first fault.NotStarted begun input none = absurd (none refl)
  ended-first _ begun input none = Keeps-refl begun

  -- before a feeder began
  pub ended-before : (e : RunFault) (begun written input rest : Option (List ℕ)) → EndedBefore e begun written input rest → EndedBy e setup read feeders journal begun written input rest
  ended-before e begun written input rest (inl told) = ended-told e begun written input rest told
  ended-before e begun written input rest (inr memory) =
      subst (λ (k : RunFault). EndedBy k setup read feeders journal begun written input rest) (sym memory.0)
      (inr (if-some {P = λ bytes. Appends begun written (long_lines (frames bytes))} {Q = λ bytes. EndedByMemory setup read feeders journal (frames bytes) begun written} input (λ bytes told. inl told) memory.1))

  -- when the feeders had filed
  pub ended-filed : (e : RunFault) (input rest : Option (List ℕ)) (feeds : List (List FilingView)) (count : ℕ) (begun mid written : Option (List ℕ)) (core : History) (stop : Option RunFault) (r : ℕ)
      → IfSome input (λ bytes. HasRead feeders (frames bytes) feeds count begun mid) → HasFiled setup read feeders feeds core stop → r ≡ length read
      → AnsweredUntil e stop (state_of core) r count journal mid written → EndedBy e setup read feeders journal begun written input rest
  ended-filed fault.Write None rest feeds count begun mid written core stop r h f start a = inr tt
  ended-filed fault.Write (Some bytes) rest feeds count begun mid written core stop r h f start a = inr (front-filed setup read feeders journal (frames bytes) feeds count begun mid written core stop r h f start a)
  ended-filed fault.OutOfMemory None rest feeds count begun mid written core stop r h f start a = inr tt
  ended-filed fault.OutOfMemory (Some bytes) rest feeds count begun mid written core stop r h f start a = inr (memory-filed setup read feeders journal (frames bytes) feeds count begun mid written core stop r h f start a)
  ended-filed _ input rest feeds count begun mid written core stop r h f start a = absurd a

-- before any frame after the journal text was read
pub ended-on-first : (e : RunFault) (feeders : ℕ) (journal : Bool) (begun input rest : Option (List ℕ)) → e ≢ fault.TooMuch → e ≢ fault.Write → e ≢ fault.NotStarted → EndedOnBy e feeders journal begun begun input rest
ended-on-first fault.Read feeders journal begun input rest much write started = inl (Keeps-refl begun)
ended-on-first fault.TooMuch feeders journal begun input rest much write started = absurd (much refl)
ended-on-first fault.Write feeders journal begun input rest much write started = absurd (write refl)
ended-on-first fault.OutOfMemory feeders journal begun input rest much write started = inl (Keeps-refl begun)
ended-on-first fault.NotStarted feeders journal begun input rest much write started = absurd (started refl)
ended-on-first _ feeders journal begun input rest much write started = Keeps-refl begun

-- after it
pub ended-on : (e : RunFault) (setup : SetupView) (filed : List Input) (feeders : ℕ) (journal : Bool) (begun written input mid rest : Option (List ℕ)) → HoldsJournal setup filed input mid → e ≢ fault.BadJournal
    → (e ≢ fault.BadFeeders → first_beyond feeders 1 (run setup filed).journal ≡ None) → EndedBy e setup (run setup filed).journal feeders journal begun written mid rest → EndedOnBy e feeders journal begun written input rest
ended-on fault.NoReader setup filed feeders journal begun written input mid rest h others within ended = ended
ended-on fault.BadFeeders setup filed feeders journal begun written input mid rest h others within ended = ended
ended-on fault.BadJournal setup filed feeders journal begun written input mid rest h others within ended = absurd (others refl)
ended-on fault.Read setup filed feeders journal begun written input mid rest h others within ended = inr (record { setup = setup; filed = filed; mid = mid; holds = h; within = within (λ e. cc); ended = ended })
ended-on fault.OutOfMemory setup filed feeders journal begun written input mid rest h others within ended = inr (record { setup = setup; filed = filed; mid = mid; holds = h; within = within (λ e. cc); ended = ended })
ended-on fault.TooMuch setup filed feeders journal begun written input mid rest h others within ended = record { setup = setup; filed = filed; mid = mid; holds = h; within = within (λ e. cc); ended = ended }
ended-on fault.Write setup filed feeders journal begun written input mid rest h others within ended = record { setup = setup; filed = filed; mid = mid; holds = h; within = within (λ e. cc); ended = ended }
ended-on fault.NotStarted setup filed feeders journal begun written input mid rest h others within ended = absurd ended

-- ---- after a journal text

-- the journal text was read, and the run resumed there
pub RanOn-made : (setup : SetupView) (filed : List Input) (feeders : ℕ) (journal : Bool) (input mid begun written : Option (List ℕ)) → HoldsJournal setup filed input mid → first_beyond feeders 1 (run setup filed).journal ≡ None
    → IfSome mid (λ bytes. length bytes ≤ MAX_INPUT) → IfSome mid (λ bytes. RanMany setup (run setup filed).journal feeders journal (frames bytes) begun written) → IfSome input (λ bytes. RanOn bytes feeders journal begun written)
RanOn-made setup filed feeders journal None mid begun written h within most ran = tt
RanOn-made setup filed feeders journal (Some bytes) None begun written h within most ran = absurd h
RanOn-made setup filed feeders journal (Some bytes) (Some rest) begun written h within most ran =
    record { setup = setup; filed = filed; text = h.0; rest = rest; is = h.1; most = most; holds = h.2; within = within; ran = ran }

pub HoldsBeyond-made : (setup : SetupView) (filed : List Input) (feeders number : ℕ) (input rest : Option (List ℕ)) → HoldsJournal setup filed input rest → first_beyond feeders 1 (run setup filed).journal ≡ Some number → HoldsBeyond feeders input rest
HoldsBeyond-made setup filed feeders number input rest h b = record { setup = setup; filed = filed; holds = h; number = number; beyond = b }

-- ---- results of calls

pub if_err_map : {T E : Type 0} {P Q : E → Type 0} (r : Result T E) → ((e : E) → P e → Q e) → IfErr r P → IfErr r Q
if_err_map (Ok x) f p = tt
if_err_map (Err e) f p = f e p

-- ---- a run at the desk that was just made

-- of its setup and its entries
pub ended-at : {T : Type 0} (r : Result T RunFault) (s t : SetupView) (es fs : List EntryView) (feeders : ℕ) (journal : Bool) (begun written input rest : Option (List ℕ)) → s ≡ t → es ≡ fs
    → IfErr r (λ e. EndedBy e s es feeders journal begun written input rest) → IfErr r (λ e. EndedBy e t fs feeders journal begun written input rest)
ended-at (Ok x) s t es fs feeders journal begun written input rest same equal h = tt
ended-at (Err e) s t es fs feeders journal begun written input rest same equal h =
    subst (λ (q : SetupView). EndedBy e q fs feeders journal begun written input rest) same (subst (λ (q : List EntryView). EndedBy e s q feeders journal begun written input rest) equal h)

-- it doesn't end with a fault that doesn't come
pub not-with : {T : Type 0} {e : RunFault} (r : Result T RunFault) → IfErr r (λ x. x ≢ e) → IsErrOf r e → ⊥
not-with (Ok x) other is = absurd (cc)
not-with (Err x) other is = other (cc)

pub none-unless : {X Z : Type 0} (o : Option X) → (o ≢ None → Z) → (Z → ⊥) → o ≡ None
none-unless None f never = refl
none-unless (Some x) f never = absurd (never (f (λ e. cc)))

pub some-of : {X : Type 0} (o : Option X) → o ≢ None → (x : X) × (o ≡ Some x)
some-of None some = absurd (some refl)
some-of (Some x) some = (x, refl)

pub HoldsSome-made : (setup : SetupView) (filed : List Input) (input rest : Option (List ℕ)) → HoldsJournal setup filed input rest → HoldsSome input rest
HoldsSome-made setup filed input rest h = record { setup = setup; filed = filed; holds = h }
