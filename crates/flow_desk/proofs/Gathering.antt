-- Feeds that have run, list by list.
use Rattle.std.proofs.Common.{◌≡◌, ℕ, suc, ◌<◌, List, [], ◌∷◌, ◌++◌, length, map, slice_index_or, arith}
use Rattle.fpl_message.specs.Filings.{FilingView}
use Rattle.flow_plans.specs.Settings.{SetupView}
use Rattle.flow_core.specs.declared.receipt.Receipt.{Receipt}
use Rattle.flow_desk.specs.declared.feeders.End.{End}
use Rattle.flow_desk.specs.FeederPasses.{PassView}
use Rattle.flow_desk.specs.Feeds.{HasRun, HaveRun}

-- what holds at each index holds of the lists
run-each : {X : Type 0} (s : SetupView) (pass : X → PassView) (left : X → List FilingView) (receipts : X → List Receipt) (end : X → End) (olds news : List X) → length news ≡ length olds
    → ((i : ℕ) (d : X) → i < length olds → HasRun s (pass (slice_index_or olds i d)) (left (slice_index_or olds i d)) (pass (slice_index_or news i d)) (receipts (slice_index_or news i d)) (left (slice_index_or news i d)) (end (slice_index_or news i d)))
    → HaveRun s (map pass olds) (map left olds) (map pass news) (map receipts news) (map left news) (map end news)
run-each s pass left receipts end [] [] same each = tt
run-each s pass left receipts end [] (y ∷ ys) same each = absurd (omega (arith, same))
run-each s pass left receipts end (x ∷ xs) [] same each = absurd (omega (arith, same))
run-each s pass left receipts end (x ∷ xs) (y ∷ ys) same each = (each 0 x (omega arith), run-each s pass left receipts end xs ys (omega (arith, same)) (λ i d lt. each (suc i) d (omega (arith, lt))))

-- feeds that were made of these passes and texts, where there was none
pub gathered : {X : Type 0} (s : SetupView) (pass : X → PassView) (left : X → List FilingView) (receipts : X → List Receipt) (end : X → End) (none olds news : List X) (ps : List PassView) (fs : List (List FilingView))
    → none ≡ [] → map pass olds ≡ map pass none ++ ps → map left olds ≡ map left none ++ fs → length news ≡ length olds
    → ((i : ℕ) (d : X) → i < length olds → HasRun s (pass (slice_index_or olds i d)) (left (slice_index_or olds i d)) (pass (slice_index_or news i d)) (receipts (slice_index_or news i d)) (left (slice_index_or news i d)) (end (slice_index_or news i d)))
    → HaveRun s ps fs (map pass news) (map receipts news) (map left news) (map end news)
gathered s pass left receipts end [] olds news ps fs empty are_ps are_fs same each = rw (← are_ps, ← are_fs) (run-each s pass left receipts end olds news same each)
gathered s pass left receipts end (x ∷ xs) olds news ps fs empty are_ps are_fs same each = absurd (cc empty)
