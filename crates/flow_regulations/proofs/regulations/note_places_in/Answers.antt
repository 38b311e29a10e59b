use Rattle.std.proofs.Common.{ℕ, ◌+◌, ◌<◌, List, [], length, refl, sym, subst, ◌∙◌, arith}
use Rattle.flow_regulations.specs.declared.slot_state.NotedPlace.{NotedPlace}
use Rattle.flow_regulations.specs.Listing.{RegulationView}
use Rattle.flow_regulations.specs.SlotStates.{IsPlaceOf}
use Rattle.flow_regulations.proofs.Passing.{AreNoted, noted-more, noted-past}
use Rattle.flow_regulations.proofs.regulations.note_places_in.Goals as goal

pub loop-index-init : goal.loop-index-init
loop-index-init g c =
    let n = c.args.number in
    let ls : List RegulationView = c.args.regulations.now in
    let j : ℕ = c.next_marked-index.result in
    let N : List NotedPlace → Type 0 = λ ps. AreNoted n j ps ls in
    let none : AreNoted n 0 [] ls = record { below = tt; places = λ i d less l. absurd (omega (arith, less)) } in
    record {
      noted = subst N (sym c.clear.ensures.items) (noted-past n c.args.word 0 j [] ls c.requires.covers c.next_marked-index.ensures.from c.next_marked-index.ensures.passed none);
      count = omega (arith, c.clear.ensures.len, c.next_marked-index.ensures.from);
      capacity = refl;
    }

pub loop-index-preserved : goal.loop-index-preserved
loop-index-preserved g c =
    let s = c.loop-index in
    let j : ℕ = s.index in
    let ls : List RegulationView = c.args.regulations.now in
    let n = c.args.number in
    let within : j < length ls = c.loop-index-test.true in
    let P : RegulationView → Type 0 = λ l. IsPlaceOf n c.place_of-place.result l in
    let here : IsPlaceOf n c.place_of-place.result c.index-regulations-index.result = record { is = c.place_of-place.ensures.is; may = c.place_of-place.ensures.may; back = c.place_of-place.ensures.back } in
    let N : List NotedPlace → Type 0 = λ ps. AreNoted n (j + 1) ps ls in
    let one = subst N (sym c.push_reserved.ensures.items) (noted-more n j s.places.items ls c.index-regulations-index.result c.place_of-place.result within (subst P c.index-regulations-index.is here) s.invariant.noted) in
    record {
      noted = noted-past n c.args.word (j + 1) c.next_marked-index-in-loop-index.result c.push_reserved.new.self.items ls c.requires.covers c.next_marked-index-in-loop-index.ensures.from c.next_marked-index-in-loop-index.ensures.passed one;
      count = omega (arith, c.push_reserved.ensures.len, s.invariant.count, c.next_marked-index-in-loop-index.ensures.from);
      capacity = c.push_reserved.ensures.capacity ∙ s.invariant.capacity;
    }

pub returns-clause-places : goal.returns-clause-places
returns-clause-places g c = λ i d l. c.loop-index.invariant.noted.places i d (omega (arith, l, c.loop-index-test.false)) l
