-- A row is the one that reads its lineup: two settled rows of one lineup are the same.
use Rattle.std.proofs.Common.{◌≡◌, ℕ, ◌+◌, Bool, List, [], ◌∷◌, length, Option, None, Some, refl, sym, ap, ◌∙◌, arith}
use Rattle.std.specs.Bool.{Decides}
use Rattle.fpl_text.specs.declared.part.Part.{Part}
use Rattle.flow_slots.specs.declared.cell.Cell.{Cell}
use Rattle.flow_slots.specs.declared.cell.Cell.TheVariants.{Empty, Waiting, Fixed}
use Rattle.flow_slots.specs.Period.{Period, first_slot}
use Rattle.flow_slots.specs.Assignment.{Placed, greedy, slots}
use Rattle.flow_slots.specs.Row.{waiting_of, fixed_of, placed_of}
use Rattle.flow_slots.specs.Lineup.{Lineup, IsKept, len_of, flight_in}
use Rattle.flow_slots.proofs.Fresh.{greedy-row}
use Rattle.flow_slots.proofs.Held.{flight_in-here, fixed_of-later, placed_of-later}
use Rattle.flow_slots.proofs.Kept.{lineup_of}
use Rattle.flow_slots.proofs.Periods.{first_slot-monotone}

-- no flight of the cells after slot `k` is in it
fixed_of-none : (k : ℕ) (a : Placed) (xs : List Placed) (rest : List Cell) → a.slot ≡ k → fixed_of (k + 1) rest ≡ a ∷ xs → ⊥
fixed_of-none k a xs rest at e =
    let here = flight_in-here k a xs at in
    let none : flight_in k (a ∷ xs) ≡ None = ap (flight_in k) (sym e) ∙ fixed_of-later k (k + 1) rest (omega arith) in
    cc

placed_of-none : (k : ℕ) (a : Placed) (xs : List Placed) (rest : List Cell) → a.slot ≡ k → placed_of (k + 1) rest ≡ a ∷ xs → ⊥
placed_of-none k a xs rest at e =
    let here = flight_in-here k a xs at in
    let none : flight_in k (a ∷ xs) ≡ None = ap (flight_in k) (sym e) ∙ placed_of-later k (k + 1) rest (omega arith) in
    cc

-- cells are determined by their number, and by the provisional flights and those that are frozen,
-- with their slots
row-told : (k : ℕ) (cs ds : List Cell) → length cs ≡ length ds → waiting_of cs ≡ waiting_of ds → placed_of k cs ≡ placed_of k ds → fixed_of k cs ≡ fixed_of k ds → cs ≡ ds
row-told k [] [] n w p f = refl
row-told k [] (b ∷ ds) n w p f = absurd (omega arith)
row-told k (a ∷ cs) [] n w p f = absurd (omega arith)
row-told k (Empty ∷ cs) (Empty ∷ ds) n w p f = ap (λ rest. Empty ∷ rest) (row-told (k + 1) cs ds (omega arith) w p f)
row-told k (Empty ∷ cs) (Waiting v ∷ ds) n w p f = absurd (placed_of-none k _ _ cs refl p)
row-told k (Empty ∷ cs) (Fixed g ∷ ds) n w p f = absurd (fixed_of-none k _ _ cs refl f)
row-told k (Waiting u ∷ cs) (Empty ∷ ds) n w p f = absurd (placed_of-none k _ _ ds refl (sym p))
row-told k (Waiting u ∷ cs) (Waiting v ∷ ds) n w p f =
    let same : u ≡ v = cc in
    let waiting : waiting_of cs ≡ waiting_of ds = cc in
    let placed : placed_of (k + 1) cs ≡ placed_of (k + 1) ds = cc in
    let others = row-told (k + 1) cs ds (omega arith) waiting placed f in
    ap (λ c. Waiting c ∷ cs) same ∙ ap (λ rest. Waiting v ∷ rest) others
row-told k (Waiting u ∷ cs) (Fixed g ∷ ds) n w p f = absurd (fixed_of-none k _ _ cs refl f)
row-told k (Fixed h ∷ cs) (Empty ∷ ds) n w p f = absurd (fixed_of-none k _ _ ds refl (sym f))
row-told k (Fixed h ∷ cs) (Waiting v ∷ ds) n w p f = absurd (fixed_of-none k _ _ ds refl (sym f))
row-told k (Fixed h ∷ cs) (Fixed g ∷ ds) n w p f =
    let here = flight_in-here k (record { flight = h; slot = k }) (fixed_of (k + 1) cs) refl in
    let there = flight_in-here k (record { flight = g; slot = k }) (fixed_of (k + 1) ds) refl in
    let both : Some h ≡ Some g = sym here ∙ (ap (flight_in k) f ∙ there) in
    let same : h ≡ g = cc in
    let fixed : fixed_of (k + 1) cs ≡ fixed_of (k + 1) ds = cc in
    let others = row-told (k + 1) cs ds (omega arith) w p fixed in
    ap (λ c. Fixed c ∷ cs) same ∙ ap (λ rest. Fixed g ∷ rest) others

-- the slots of the provisional flights of a lineup
abbrev placed_in : Lineup → List Placed
placed_in l = greedy (λ e. first_slot l.period e) (slots l.fixed) l.waiting

-- the rows of two slot lists of one lineup
pub row-same : (p q : Period) (m n : ℕ) (cs ds : List Cell) (xs ys : List (Option ℕ)) → IsKept p m cs xs → IsKept q n ds ys → lineup_of p m cs ≡ lineup_of q n ds → cs ≡ ds
row-same p q m n cs ds xs ys kept kept' e =
    let len : length cs ≡ length ds = kept.len ∙ (ap len_of e ∙ sym kept'.len) in
    let here : placed_in (lineup_of p m cs) ≡ placed_of 0 cs = greedy-row (λ v. first_slot p v) (first_slot-monotone p) cs kept.settled in
    let there : placed_in (lineup_of q n ds) ≡ placed_of 0 ds = greedy-row (λ v. first_slot q v) (first_slot-monotone q) ds kept'.settled in
    row-told 0 cs ds len (ap (λ l. l.waiting) e) (sym here ∙ (ap placed_in e ∙ there)) (ap (λ l. l.fixed) e)

-- and the lineup of two slot lists of one row
pub lineup-same : (p q : Period) (m n : ℕ) (cs ds : List Cell) → p ≡ q → m ≡ n → cs ≡ ds → lineup_of p m cs ≡ lineup_of q n ds
lineup-same p q m n cs ds e c r =
    ap (λ v. lineup_of v m cs) e ∙ (ap (λ v. lineup_of q v cs) c ∙ ap (lineup_of q n) r)

abbrev period : ℕ → ℕ → ℕ → List Part → Period
period a b r ps = record { start = a; end = b; rate = r; parts = ps }

-- two periods are the same where their first and last times and rates are and their further parts
pub period-same : (a b r a' b' r' : ℕ) (ps qs : List Part) (t : Bool) → a ≡ a' → b ≡ b' → r ≡ r' → Decides t (ps ≡ qs) → Decides t (period a b r ps ≡ period a' b' r' qs)
period-same a b r a' b' r' ps qs t x y z d =
    let whole : ps ≡ qs → period a b r ps ≡ period a' b' r' qs = λ e. (ap (λ v. period v b r ps) x ∙ (ap (λ v. period a' v r ps) y ∙ (ap (λ v. period a' b' v ps) z ∙ ap (period a' b' r') e))) in
    ((λ h. whole (d.0 h)), (λ e. d.1 (ap (λ p. p.parts) e)))
