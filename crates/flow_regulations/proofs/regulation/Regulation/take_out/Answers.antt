use Rattle.std.proofs.Common.{◌≡◌, sym, ap, ◌∙◌, None}
use Rattle.flow_slots.specs.Lineup.{held_slot, without_flight}
use Rattle.flow_regulations.specs.Listing.{with_lineup}
use Rattle.flow_regulations.proofs.Placing.{without-absent, is_none-from}
use Rattle.flow_regulations.proofs.regulation.Regulation.take_out.Goals as goal

pub returns-else-is_some : goal.returns-else-is_some
returns-else-is_some g c =
    let l = c.self.inside.list.lineup in
    let none : held_slot l c.args.number ≡ None = sym c.slot_of.ensures.slot ∙ is_none-from c.slot_of.result c.is_some.result c.is_some.ensures c.if-is_some.false in
    let now = ap (λ v. v.lineup) c.self.view_is in
    let same : without_flight c.args.number c.args.self.now.lineup ≡ c.args.self.now.lineup = ap (without_flight c.args.number) (sym now) ∙ (without-absent c.args.number l none ∙ now) in
    sym (ap (λ v. with_lineup v c.args.self.now) same)
