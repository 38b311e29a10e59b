-- Feeds that were filed, whatever their receipts are.
use Rattle.std.proofs.Common.{◌≡◌, ◌≢◌, ℕ, suc, ◌<◌, List, [], ◌∷◌, ◌++◌, length, map, slice_index_or, refl, sym, subst, arith}
use Rattle.std.proofs.lemmas.List.{append-nil}
use Rattle.fpl_message.specs.Filings.{FilingView}
use Rattle.flow_plans.specs.Settings.{SetupView}
use Rattle.flow_desk.specs.declared.feeders.End.{End}
use Rattle.flow_desk.specs.FeederPasses.{PassView, FiledFront}
use Rattle.flow_desk.specs.Feeds.{Ran}
use Rattle.flow_desk.proofs.Turns.{ran-front}
use Rattle.flow_runs.specs.Filing.{FiledTo, RanFeed, RanFeeds}

-- some more texts of a feed were filed at once
pub filed-front : (s : SetupView) (p q q' : PassView) (feed texts left : List FilingView) → FiledFront s q texts q' left → FiledTo p feed q texts → FiledTo p feed q' left
filed-front s p q q' feed texts left f h =
    let more = ran-front s p q q' feed h.receipts texts left [] f (subst (λ (ls : List FilingView). Ran p feed q h.receipts ls) (sym (append-nil texts)) h.ran) in
    record { receipts = more.0; ran = subst (λ (ls : List FilingView). Ran p feed q' more.0 ls) (append-nil left) more.1 }

-- what holds feed by feed holds of all
pub feeds-ran : {X : Type 0} (s : SetupView) (pass : X → PassView) (left : X → List FilingView) (end : X → End) (olds news : List X) → length news ≡ length olds
    → ((i : ℕ) (d : X) → i < length olds → RanFeed s (pass (slice_index_or olds i d)) (left (slice_index_or olds i d)) (pass (slice_index_or news i d)) (left (slice_index_or news i d)) (end (slice_index_or news i d)))
    → RanFeeds s (map pass olds) (map left olds) (map pass news) (map left news) (map end news)
feeds-ran s pass left end [] [] same each = tt
feeds-ran s pass left end [] (y ∷ ys) same each = absurd (omega (arith, same))
feeds-ran s pass left end (x ∷ xs) [] same each = absurd (omega (arith, same))
feeds-ran s pass left end (x ∷ xs) (y ∷ ys) same each =
    (each 0 x (omega arith), feeds-ran s pass left end xs ys (omega (arith, same)) (λ i d lt. each (suc i) d (omega (arith, lt))))
