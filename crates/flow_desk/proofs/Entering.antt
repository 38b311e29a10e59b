-- One more entry of a tally.
use Rattle.std.proofs.Common.{◌≡◌, ℕ, ◌+◌, ◌<◌, List, [], ◌∷◌, ◌++◌, length, slice_index, slice_set, refl, subst, sym, ap, ◌∙◌}
use Rattle.flow_core.specs.declared.change.Change.{Change}
use Rattle.fpl_message.specs.Filings.{FilingView}
use Rattle.flow_plans.specs.Settings.{SetupView}
use Rattle.flow_core.specs.declared.receipt.Receipt.{Receipt}
use Rattle.flow_core.specs.State.{State, Input, EntryView}
use Rattle.flow_core.specs.Steps.{step}
use Rattle.flow_core.specs.History.{History, state_of}
use Rattle.flow_desk.specs.Boards.{LeadTo}
use Rattle.flow_desk.specs.Locks.{Counts, Enters}
use Rattle.flow_desk.specs.FeederPasses.{PassView, FiledNext, entry, having_seen}
use Rattle.flow_desk.specs.Histories.{after}
use Rattle.flow_desk.proofs.Journals.{one_thread}
use Rattle.flow_desk.proofs.Owning.{counted-snoc}
use Rattle.flow_desk.proofs.Turns.{next-shown}

-- what is said of the rows that the last filing changed
abbrev pub Noted : History → List Change → List Change → Type 0
Noted new cs cs' = (before : History) (last : Input) (es : List EntryView) → new.setup ≡ before.setup → new.filed ≡ before.filed ++ last ∷ []
    → LeadTo before.setup es (state_of before).journal cs → LeadTo before.setup es (state_of new).journal cs'

pub enters : (n : ℕ) (old new : History) (cs cs' : List Change) (counts : List ℕ) (e : EntryView) → new.setup ≡ old.setup → new.filed ≡ old.filed ++ e.input ∷ []
    → state_of new ≡ step (state_of old) e.input → (state_of new).journal ≡ (state_of old).journal ++ e ∷ [] → length (state_of old).journal < old.setup.max_entries
    → Noted new cs cs' → Counts n (state_of old).journal counts → e.input.feeder < n
    → Enters n old new (slice_set counts e.input.feeder (slice_index counts e.input.feeder + 1)) cs cs' e
enters n old new cs cs' counts e setup filed stepped appended room noted counted below = record {
  setup = setup;
  room = room;
  step = stepped;
  appended = appended;
  counted = subst (λ (es : List EntryView). Counts n es (slice_set counts e.input.feeder (slice_index counts e.input.feeder + 1))) (sym appended)
      (counted-snoc n (state_of old).journal counts e (slice_index counts e.input.feeder + 1) counted below refl);
  rows = λ es lead. noted old e.input es setup filed lead;
}

-- and of a pass that has seen all before
pub next-entered : (n : ℕ) (s : SetupView) (p : PassView) (k : ℕ) (old new : History) (counts : List ℕ) (cs cs' : List Change) (t : FilingView) (r : Receipt) → k ≡ p.feeder → old.setup ≡ s
    → Enters n old new counts cs cs' (entry k t r) → FiledNext s (having_seen p (state_of old).journal) t r (having_seen p (state_of new).journal)
next-entered n s p k old new counts cs cs' t r is setup e =
    let there : state_of old ≡ after s (state_of old).journal = one_thread old ∙ ap (λ (z : SetupView). after z (state_of old).journal) setup in
    next-shown s p k (state_of old).journal (state_of new).journal t r is (subst (λ (z : SetupView). length (state_of old).journal < z.max_entries) setup e.room)
    (ap (λ (z : State). (step z (record { feeder = k; text = t })).journal) (sym there) ∙ ap (λ (z : State). z.journal) (sym e.step))
    e.appended
