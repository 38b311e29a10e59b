-- What contracts see of a pass, and what filing does to it.
use Rattle.std.specs.Prelude.{◌≡◌, ℕ, ◌+◌, ◌<◌, ◌≤◌, true, List, [], ◌∷◌, ◌++◌, length, Option, Some, None, MatchOption}
use mathlib.Core.List.{IsPrefix}
use Rattle.logbook.specs.Pages.{Book}
use Rattle.fpl_message.specs.Filings.{FilingView}
use Rattle.flow_plans.specs.Settings.{SetupView}
use Rattle.flow_core.specs.declared.receipt.Receipt.{Receipt}
use Rattle.flow_core.specs.State.{EntryView}
use Rattle.flow_core.specs.Steps.{step}
use Rattle.flow_desk.specs.Seats.{SeatView}
use Rattle.flow_desk.specs.Histories.{own, after}

-- whose pass it is, how many receipts it had, and the history that it has seen
pub record PassView : Type 0 where
  pub feeder : ℕ
  pub receipts : ℕ
  pub seen : List EntryView

-- what has been read from a seat
abbrev pub seen_from : Option SeatView → List EntryView
seen_from None = []
seen_from (Some s) = s.read

-- what is true of the fields of a pass
pub record IsFeederPass (book : Book) (setup : SetupView) (feeders feeder receipts : ℕ) (seat : Option SeatView) : Type 0 where
  pub below : feeder < feeders
  pub seated : MatchOption seat ⊥ (λ s. (s.knows ≡ true) × (s.book ≡ book) × (s.setup ≡ setup))
  pub own_seen : receipts ≤ length (own feeder (seen_from seat))

-- q is the pass p, which has seen no less
pub record SawMore (p q : PassView) : Type 0 where
  pub later : IsPrefix p.seen q.seen
  pub feeder : q.feeder ≡ p.feeder
  pub receipts : q.receipts ≡ p.receipts

-- q is the pass p, which has seen no less, none of it of its own; its receipts are all of its
-- feeder's entries
pub record SawOthers (p q : PassView) : Type 0 where
  pub more : SawMore p q
  pub none_own : own q.feeder q.seen ≡ own p.feeder p.seen
  pub all_own : length (own q.feeder q.seen) ≡ q.receipts

-- an entry of this feeder, text and receipt
abbrev pub entry : ℕ → FilingView → Receipt → EntryView
entry feeder text r = record { input = record { feeder = feeder; text = text }; receipt = r }

-- before this filing the history began with all that p had seen, and p's receipts were all of its
-- feeder's entries; the journal wasn't full, and the filing is one step of the one-thread desk
-- there, which appends this one entry, and q has seen that
pub record Filed (setup : SetupView) (p : PassView) (text : FilingView) (r : Receipt) (q : PassView) : Type 0 where
  pub before : List EntryView
  pub room : length before < setup.max_entries
  pub later : IsPrefix p.seen before
  pub all_own : length (own p.feeder before) ≡ p.receipts
  pub none_own : own p.feeder before ≡ own p.feeder p.seen
  pub step : (step (after setup before) (record { feeder = p.feeder; text = text })).journal ≡ before ++ entry p.feeder text r ∷ []
  pub seen : q.seen ≡ before ++ entry p.feeder text r ∷ []
  pub feeder : q.feeder ≡ p.feeder
  pub receipts : q.receipts ≡ p.receipts + 1

-- the pass p as it is when it has seen all of this history, and has a receipt for each entry of its
-- feeder
abbrev pub having_seen : PassView → List EntryView → PassView
having_seen p es = record p { receipts = length (own p.feeder es); seen = es }

-- filed when p had seen the whole history: nobody else's entry came between
pub record FiledNext (setup : SetupView) (p : PassView) (text : FilingView) (r : Receipt) (q : PassView) : Type 0 where
  pub filed : Filed setup p text r q
  pub at_once : filed.before ≡ p.seen

-- from p to q these texts were filed one after the other, with nobody else's entry between
abbrev pub FiledInTurn : SetupView → PassView → List FilingView → PassView → Type 0
FiledInTurn s p [] q = q ≡ p
FiledInTurn s p (t ∷ ts) q = (r : Receipt) × (m : PassView) × FiledNext s p t r m × FiledInTurn s m ts q

-- the pass p saw what others had filed. Then a prefix of these texts was filed in turn, and the
-- others are left
pub record FiledFront (setup : SetupView) (p : PassView) (texts : List FilingView) (q : PassView) (left : List FilingView) : Type 0 where
  pub saw : PassView
  pub others : SawOthers p saw
  pub front : List FilingView
  pub texts_are : front ++ left ≡ texts
  pub filed : FiledInTurn setup saw front q
