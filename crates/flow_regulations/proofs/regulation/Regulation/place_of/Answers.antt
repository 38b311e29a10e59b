use Rattle.std.proofs.Common.{◌≡◌, None, Some, sym, ap, subst, ◌∙◌}
use Rattle.flow_slots.specs.Period.{IsWithin}
use Rattle.flow_slots.specs.Lineup.{fixed_slot, waiting_entry}
use Rattle.flow_regulations.specs.Listing.{RegulationView}
use Rattle.flow_regulations.proofs.PutBack.{stands-fixed, stands-waiting, stands-nowhere}
use Rattle.flow_regulations.proofs.regulation.Regulation.place_of.Goals as goal

pub returns-in-Some : goal.returns-in-Some
returns-in-Some g c =
    let e = c.in-Some.ensures in
    stands-fixed c.args.number c.in-Some.slot c.args.self.now (sym e.slot) e.order.lined e.below

pub returns-in-Some-entry_of : goal.returns-in-Some-entry_of
returns-in-Some-entry_of g c =
    let n = c.args.number in
    let l : RegulationView = c.args.self.now in
    let unfixed : fixed_slot l.lineup n ≡ None = sym c.fixed_slot.ensures.slot ∙ c.in_default.is in
    let waits : waiting_entry l.lineup n ≡ Some c.in-Some-entry_of.entry = ap (λ v. waiting_entry v.lineup n) (sym c.self.view_is) ∙ sym c.in-Some-entry_of.ensures.entry in
    let W : RegulationView → Type 0 = λ v. IsWithin v.lineup.period c.in-Some-entry_of.entry in
    stands-waiting n c.in-Some-entry_of.entry l unfixed waits c.fixed_slot.ensures.order.lined (subst W c.self.view_is c.in-Some-entry_of.ensures.within)

pub returns-in-None : goal.returns-in-None
returns-in-None g c =
    let n = c.args.number in
    let l : RegulationView = c.args.self.now in
    let unfixed : fixed_slot l.lineup n ≡ None = sym c.fixed_slot.ensures.slot ∙ c.in_default.is in
    let absent : waiting_entry l.lineup n ≡ None = ap (λ v. waiting_entry v.lineup n) (sym c.self.view_is) ∙ sym c.in-None.ensures.entry in
    stands-nowhere n l unfixed absent
