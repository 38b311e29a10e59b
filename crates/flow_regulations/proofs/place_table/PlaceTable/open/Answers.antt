use Rattle.std.proofs.Common.{◌≡◌, ◌∙◌, ℕ, List, length, refl, subst, arith}
use Rattle.flow_regulations.specs.Listing.{RegulationView}
use Rattle.flow_regulations.specs.Marks.{mask_of, IsOpenedIn}
use Rattle.flow_regulations.proofs.Rows.{rows-last, written-rows}
use Rattle.flow_regulations.proofs.place_table.PlaceTable.open.Goals as goal

pub returns : goal.returns
returns g c = λ rows.
    (let s = c.self.inside in
    let ws : List ℕ = c.open_row.new.table in
    let ls : List RegulationView = c.args.regulations.now in
    let len : s.rows.len ≡ length ws = omega (arith, c.open_row.auto.table, c.deref_mut.ensures.len) in
    let O : List ℕ → Type 0 = λ vs. (r : ℕ) → IsOpenedIn c.row.result (length ls) r (mask_of vs r) (mask_of ws r) in
    written-rows s.rows.len ws _ _ len
    (rows-last c.args.self.now ws (length ls) c.row.result ls c.args.opened.now refl c.row.ensures (subst O (c.deref_mut.ensures.value ∙ c.self.view_is) c.open_row.ensures) rows))
