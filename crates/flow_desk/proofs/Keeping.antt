-- The steps that keep the rule of the board.
use Rattle.std.proofs.Common.{◌≡◌, ℕ, ◌≢◌, true, Option, List, [], ◌∷◌, ◌++◌, length, set, fold, Result, Ok, Err, IsOk, MatchResult, refl, sym, ap, subst, ◌∙◌, ⊎_elim}
use Rattle.std.proofs.lemmas.List.Sums.{fold-append}
use mathlib.Core.Option.{some}
use mathlib.Core.List.{IsPrefix}
use lib.ListN.{get_elem?}
use Rattle.left_right.specs.Register.{Admits, TurnsAt, Forks, Merges}
use Rattle.atomic_table.proofs.Lists.{at_set, at_snoc}
use Rattle.flow_plans.specs.Settings.{SetupView}
use Rattle.flow_core.specs.State.{EntryView}
use Rattle.flow_core.specs.declared.row.Row.{Row}
use Rattle.flow_core.specs.Boards.{padded, put_all}
use Rattle.flow_desk.specs.Histories.{rows_after, row_at}
use Rattle.flow_desk.specs.Boards.{BoardView, IsBoard, OperationView, absorbed, shown_row}
use Rattle.flow_desk.specs.Views.{Keeps, Reads, Fits, newcomer, informed}
use Rattle.flow_desk.specs.declared.rule.View.{View}
use Rattle.flow_desk.proofs.Fronts.{prefix_self, prefix_trans}
use Rattle.flow_desk.proofs.Rows.{shown-is}

-- a newcomer knows nothing
fits-newcomer : (b : BoardView) → Fits b newcomer
fits-newcomer b = record { book = λ k. absurd cc; setup = λ k. absurd cc; entries = (b.entries, refl) }

pub admits : Admits Keeps newcomer
admits b views h = record {
  board = h.board;
  each = λ seat v at. ⊎_elim (h.each seat v) (λ (e : newcomer ≡ v). subst (λ (u : View). Fits b u) e (fits-newcomer b)) (at_snoc views newcomer v seat at);
}

pub first-kept : (b : BoardView) → IsBoard b → Keeps b (newcomer ∷ [])
first-kept b is = admits b [] (record { board = is; each = λ seat v at. absurd cc })

abbrev sight : BoardView → View
sight y = record { knows = true; setup = y.setup; front = record { book = y.book; entries = y.entries } }

fits-later : (x y : BoardView) (u : View) → IsPrefix x.entries y.entries → y.book ≡ x.book → y.setup ≡ x.setup → Fits x u → Fits y u
fits-later x y u later book setup f = record {
  book = λ k. f.book k ∙ sym book;
  setup = λ k. f.setup k ∙ sym setup;
  entries = prefix_trans u.front.entries x.entries y.entries f.entries later;
}

-- a step to a later board of the same desk keeps the rule, and shows that board
pub sees : (seat : ℕ) (v : View) (x y : BoardView) → IsPrefix x.entries y.entries → y.book ≡ x.book → y.setup ≡ x.setup → (IsBoard x → IsBoard y) → TurnsAt Keeps seat v x y Reads
sees seat v x y later book setup board views h at =
    let f : Fits y v = fits-later x y v later book setup (h.each seat v at) in
    let mine : Fits y (sight y) = record { book = λ _. refl; setup = λ _. refl; entries = prefix_self y.entries } in (
      sight y,
      record {
        board = board h.board;
        each = λ j u e. ⊎_elim
            (λ (t : (j ≡ seat) × (sight y ≡ u)). subst (λ (w : View). Fits y w) t.1 mine)
            (λ (t : (j ≢ seat) × (get_elem? views j ≡ some u)). fits-later x y u later book setup (h.each j u t.1))
            (at_set views seat j (sight y) u e);
      },
      record {
        known = (refl, refl, refl, refl);
        book = λ k. sym (f.book k);
        setup = λ k. sym (f.setup k);
        later = f.entries;
        board = board h.board;
      },
    )

-- so a step that changes nothing
pub reads : (seat : ℕ) (v : View) (x : BoardView) → TurnsAt Keeps seat v x x Reads
reads seat v x = sees seat v x x (prefix_self x.entries) refl refl (λ b. b)

-- and one that absorbs an operation after others that change nothing
pub publishes : (seat : ℕ) (v : View) (x next : BoardView) (op : OperationView) (idle : List OperationView) → fold absorbed x idle ≡ x → next ≡ fold absorbed x (idle ++ op ∷ [])
    → op.front.book ≡ x.book → IsPrefix x.entries op.front.entries → op.number ≡ length op.front.entries
    → put_all (padded x.setup.max_plans (rows_after x.setup x.entries)) op.changes ≡ padded x.setup.max_plans (rows_after x.setup op.front.entries) → TurnsAt Keeps seat v x next Reads
publishes seat v x next op idle none is book later number rows =
    let y : BoardView = absorbed x op in
    let so : next ≡ y = is ∙ (fold-append absorbed x idle (op ∷ []) ∙ ap (λ (z : BoardView). absorbed z op) none) in
    let board : IsBoard x → IsBoard y = λ b. record { counted = number; rows = ap (λ (rs : List (Option Row)). put_all rs op.changes) b.rows ∙ rows } in
    subst (λ (z : BoardView). TurnsAt Keeps seat v x z Reads) (sym so) (sees seat v x y later book refl board)

-- and one that absorbs only such
pub settles : (seat : ℕ) (v : View) (x next : BoardView) (idle : List OperationView) → fold absorbed x idle ≡ x → next ≡ fold absorbed x idle → TurnsAt Keeps seat v x next Reads
settles seat v x next idle none is = subst (λ (z : BoardView). TurnsAt Keeps seat v x z Reads) (sym (is ∙ none)) (reads seat v x)

-- what was published, with the pending operations
pub published : (x y : BoardView) (op : OperationView) (idle : List OperationView) → fold absorbed x idle ≡ x → y ≡ fold absorbed x (idle ++ op ∷ []) → y ≡ absorbed x op
published x y op idle none is = is ∙ (fold-append absorbed x idle (op ∷ []) ∙ ap (λ (z : BoardView). absorbed z op) none)

-- the board that was made of a core
pub whole-board : (b : BoardView) (s : SetupView) (es : List EntryView) → b.count ≡ length es → b.entries ≡ es → b.setup ≡ s → b.rows ≡ padded s.max_plans (rows_after s es) → IsBoard b
whole-board b s es count entries setup rows = record {
  counted = count ∙ sym (ap length entries);
  rows = rw (entries, setup) rows;
}

each-set : (b : BoardView) (views : List View) (seat : ℕ) (v : View) → Keeps b views → Fits b v → Keeps b (set views seat v)
each-set b views seat v h f = record {
  board = h.board;
  each = λ j u e. ⊎_elim
      (λ (t : (j ≡ seat) × (v ≡ u)). subst (λ (w : View). Fits b w) t.1 f)
      (λ (t : (j ≢ seat) × (get_elem? views j ≡ some u)). h.each j u t.1)
      (at_set views seat j v u e);
}

each-snoc : (b : BoardView) (views : List View) (v : View) → Keeps b views → Fits b v → Keeps b (views ++ v ∷ [])
each-snoc b views v h f = record {
  board = h.board;
  each = λ seat u at. ⊎_elim (h.each seat u) (λ (e : v ≡ u). subst (λ (w : View). Fits b w) e f) (at_snoc views v u seat at);
}

-- what the writer knows can be shown
pub forks : (seat : ℕ) (v : View) → Forks Keeps seat v v v
forks seat v b views h at =
    let f : Fits b v = h.each seat v at in
    each-snoc b (set views seat v) v (each-set b views seat v h f) f

pub merges : (seat : ℕ) (v : View) (other : ℕ) (w : View) → Merges Keeps seat v other w (informed v w) newcomer
merges seat v other w b views h at apart there =
    let f : Fits b w = ⊎_elim
    (λ (t : (other ≡ seat) × (w ≡ w)). absurd (apart t.0))
    (λ (t : (other ≢ seat) × (get_elem? views other ≡ some w)). h.each other w t.1)
    (at_set views seat other w w there) in
    each-set b (set views seat w) other newcomer (each-set b views seat w h f) (fits-newcomer b)

-- what holds of a step that can't fail
pub done : {E : Type 0} (r : Result (Unit {0}) E) (P Q : Type 0) → IsOk r → MatchResult r (λ _. P) (λ _. Q) → P
done (Ok x) P Q ok m = m
done (Err e) P Q ok m = absurd cc

-- the row that a version shows of a plan
pub row-read : (v : View) (x y : BoardView) (w : View) → Reads v x y w → (plan : ℕ) → shown_row y.rows plan ≡ row_at w.setup w.front.entries plan
row-read v x y w r plan = rw (r.known.2, r.known.3) (shown-is y r.board plan)
