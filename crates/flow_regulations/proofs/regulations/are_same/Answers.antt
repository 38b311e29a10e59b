use Rattle.std.proofs.Common.{◌≡◌, ℕ, ◌<◌, List, length, get_or, sym, ap, ◌∙◌, arith}
use Rattle.std.proofs.lemmas.List.{take_more_same}
use Rattle.flow_regulations.specs.Listing.{RegulationView}
use Rattle.flow_regulations.proofs.regulations.are_same.Goals as goal

pub loop-index-preserved : goal.loop-index-preserved
loop-index-preserved g c =
    let xs : List RegulationView = c.args.regulations.now in
    let ys : List RegulationView = c.args.others.now in
    let i : ℕ = c.loop-index.index in
    let x : RegulationView = c.index-regulations-index.result in
    let y : RegulationView = c.index-others-index.result in
    let within : i < length ys = omega arith in
    let same : x ≡ y = c.is.ensures.0 c.if-not-is.false in
    let there : y ≡ get_or ys i x = c.index-others-index.is ∙ ap (get_or ys i) (sym same) in
    take_more_same xs ys i x c.loop-index-test.true within c.loop-index.invariant (sym c.index-regulations-index.is ∙ (same ∙ there))
