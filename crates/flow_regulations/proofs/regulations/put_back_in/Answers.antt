use Rattle.std.proofs.Common.{ℕ, ◌<◌, ◌≤◌, List, length, get_or, sym, ap, subst, ◌∙◌, arith}
use Rattle.flow_regulations.specs.declared.slot_state.Place.{Place}
use Rattle.flow_regulations.specs.Listing.{RegulationView, without_in}
use Rattle.flow_regulations.specs.SlotStates.{IsPlaceOf}
use Rattle.flow_regulations.proofs.PutBack.{IsBack, same-count, map-at, rest-at, back-more, all-back}
use Rattle.flow_regulations.proofs.Walks.{all-at}
use Rattle.flow_regulations.proofs.regulations.put_back_in.Goals as goal

pub put_back-requires-clause-last : goal.put_back-requires-clause-last
put_back-requires-clause-last g c =
    let os : List RegulationView = c.args.regulations.now in
    let i : ℕ = c.loop-index.index in
    let d : RegulationView = c.index-regulations-index.result in
    let P : RegulationView → Type 0 = λ l. c.args.number ≤ l.lineup.capacity in
    let within : i < length os = omega (arith, c.loop-index-test.true, c.loop-index.auto.regulations) in
    subst P (sym (rest-at i os c.loop-index.regulations d c.loop-index.invariant.rest)) (all-at P i os d within c.requires.room)

pub put_back-requires-clause-before : goal.put_back-requires-clause-before
put_back-requires-clause-before g c =
    let b = c.requires.before in
    let n = c.args.number in
    let os : List RegulationView = c.args.regulations.now in
    let i : ℕ = c.loop-index.index in
    let d : RegulationView = c.index-regulations-index.result in
    let within : i < length os = omega (arith, c.loop-index-test.true, c.loop-index.auto.regulations) in
    let inside : i < length b.0 = omega (arith, within, same-count n os b.0 b.2) in
    let P : Place → Type 0 = λ p. IsPlaceOf n p (get_or b.0 i d) in (
      get_or b.0 i d,
      subst P (sym c.place_at.ensures) (b.1 i d inside),
      ap (without_in n) (rest-at i os c.loop-index.regulations d c.loop-index.invariant.rest) ∙ map-at n i os b.0 d d within b.2,
    )

pub loop-index-preserved : goal.loop-index-preserved
loop-index-preserved g c =
    let n = c.args.number in
    let zs : List RegulationView = c.loop-index.regulations in
    let i : ℕ = c.loop-index.index in
    let d : RegulationView = c.index-regulations-index.result in
    let B : Place → Type 0 = λ p. IsBack n p (get_or zs i d) c.put_back.new.self in
    let within : i < length zs = omega (arith, c.loop-index-test.true, c.loop-index.auto.regulations) in
    back-more n i c.args.places.now c.args.regulations.now zs d c.put_back.new.self within c.loop-index.auto.regulations (subst B c.place_at.ensures c.put_back.ensures) c.loop-index.invariant

pub returns : goal.returns
returns g c = λ before are same.
    all-back c.args.number c.loop-index.index c.args.places.now c.args.regulations.now c.loop-index.regulations before (omega (arith, c.loop-index-test.false, c.loop-index.auto.regulations)) c.loop-index.auto.regulations c.loop-index.invariant are same
