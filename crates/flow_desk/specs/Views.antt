-- The rule of the board, and what its steps show.
use Rattle.std.specs.Prelude.{◌≡◌, ℕ, true, false, List, []}
use mathlib.Core.Option.{some}
use mathlib.Core.List.{IsPrefix}
use lib.ListN.{get_elem?}
use Rattle.flow_desk.specs.Boards.{BoardView, IsBoard}
use Rattle.flow_desk.specs.declared.rule.View.{View}
use Rattle.fpl_text.specs.declared.minute.TheConstants.{YEAR_2000}

-- who knows nothing yet
abbrev pub newcomer : View
newcomer = record {
  knows = false;
  setup = record { start = YEAR_2000; taxi = 0; max_plans = 1; max_entries = 1 };
  front = record { book = record { number = 0; log_name = 0; cells_name = 0 }; entries = [] };
}

-- a newcomer learns what w knows
abbrev pub informed : View → View → View
informed v w = w

-- what is known of the board is true: its desk, and a prefix of its entries
pub record Fits (b : BoardView) (v : View) : Type 0 where
  pub book : v.knows ≡ true → v.front.book ≡ b.book
  pub setup : v.knows ≡ true → v.setup ≡ b.setup
  pub entries : IsPrefix v.front.entries b.entries

-- the board shows what its entries leave, and each one's knowledge of it is true
pub record Keeps (b : BoardView) (views : List View) : Type 0 where
  pub board : IsBoard b
  pub each : (seat : ℕ) (v : View) → get_elem? views seat ≡ some v → Fits b v

-- the board y is seen: it is of the desk that was known, and its entries begin with those that were
-- seen
pub record Reads (v : View) (x y : BoardView) (w : View) : Type 0 where
  pub known : (w.knows ≡ true) × (w.front.book ≡ y.book) × (w.setup ≡ y.setup) × (w.front.entries ≡ y.entries)
  pub book : v.knows ≡ true → w.front.book ≡ v.front.book
  pub setup : v.knows ≡ true → w.setup ≡ v.setup
  pub later : IsPrefix v.front.entries w.front.entries
  pub board : IsBoard y
