use Rattle.std.proofs.Common.{sym, subst, ◌∙◌}
use Rattle.flow_regulations.specs.declared.slot_state.Place.{Place}
use Rattle.flow_regulations.specs.Listing.{RegulationView}
use Rattle.flow_regulations.specs.SlotStates.{IsPlaceOf, MayStand}
use Rattle.flow_regulations.proofs.Looked.{out-absent}
use Rattle.flow_regulations.proofs.PutBack.{same-place, stood-there}
use Rattle.flow_regulations.proofs.regulation.Regulation.put_back.Goals as goal

pub returns-then-is : goal.returns-then-is
returns-then-is g c = λ before is same.
    (let P : Place → Type 0 = λ p. IsPlaceOf c.args.number p c.args.self.now in
    same-place c.args.number c.args.place c.args.self.now before (subst P (c.is.ensures.0 c.if-is.true) c.place_of.ensures) is same)

pub stand_in-requires-clause-absent : goal.stand_in-requires-clause-absent
stand_in-requires-clause-absent g c = out-absent c.args.number c.args.self.now c.take_out.new.self c.take_out.ensures

pub stand_in-requires-clause-may : goal.stand_in-requires-clause-may
stand_in-requires-clause-may g c =
    let b = c.requires.before in
    let M : RegulationView → Type 0 = λ v. MayStand c.args.place v.lineup in
    subst M (sym (c.take_out.ensures ∙ b.2)) b.1.may

pub returns : goal.returns
returns g c = λ before is same. stood-there c.args.number c.args.place c.args.self.now c.take_out.new.self c.stand_in.new.self before is same c.take_out.ensures c.stand_in.ensures
