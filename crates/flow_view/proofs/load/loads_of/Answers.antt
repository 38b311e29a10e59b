use Rattle.std.proofs.Common.{◌≡◌, ◌<◌, ◌∙◌, ◌+◌, ◌-◌, ◌*◌, ◌/◌, ◌++◌, ◌∷◌, [], ap, ℕ, List, arith, subst}
use Rattle.flow_slots.specs.Period.{Period}
use Rattle.flow_view.specs.declared.load.Load.{Load}
use Rattle.flow_view.specs.declared.slot_row.SlotRow.{SlotRow}
use Rattle.flow_view.specs.Load.{loads_before}
use Rattle.flow_view.proofs.Loads.{begins-within, next-load}
use Rattle.flow_view.proofs.load.loads_of.Goals as goal

pub load_at-requires-clause-within : goal.load_at-requires-clause-within
load_at-requires-clause-within g c =
    let minutes : c.saturating_sub-minutes.result ≡ c.args.shape.now.end - c.args.shape.now.start
    = omega (arith, c.saturating_sub-minutes.ensures, c.minutes.ensures.value, c.minutes-2.ensures.value, c.period-start.ensures.start, c.period-start.ensures.end) in
    let within : c.args.step * c.loop-index.index < c.saturating_sub-minutes.result
    = begins-within c.saturating_sub-minutes.result c.args.step c.loop-index.index c.requires.some c.loop-index-test.true in
    subst (λ n. c.args.step * c.loop-index.index < n) minutes within

pub loop-index-preserved : goal.loop-index-preserved
loop-index-preserved g c =
    let p : Period = c.args.shape.now in
    let rows : List SlotRow = c.args.rows.now in
    let i : ℕ = c.loop-index.index in
    c.in_ok-push.ensures.items
    ∙ (ap (λ (ls : List Load). ls ++ c.load_at.result ∷ []) c.loop-index.invariant
    ∙ (ap (λ (l : Load). loads_before i c.args.step p rows ++ l ∷ []) c.load_at.ensures
    ∙ next-load i c.args.step p rows))

pub returns : goal.returns
returns g c =
    let p : Period = c.args.shape.now in
    let rows : List SlotRow = c.args.rows.now in
    let minutes : c.saturating_sub-minutes.result ≡ p.end - p.start
    = omega (arith, c.saturating_sub-minutes.ensures, c.minutes.ensures.value, c.minutes-2.ensures.value, c.period-start.ensures.start, c.period-start.ensures.end) in
    let all : c.loop-index.index ≡ (c.saturating_sub-minutes.result + c.args.step - 1) / c.args.step = omega (arith, c.loop-index-test.false, c.loop-index.auto.index-end) in
    c.loop-index.invariant
    ∙ (ap (λ n. loads_before n c.args.step p rows) all
    ∙ ap (λ n. loads_before ((n + c.args.step - 1) / c.args.step) c.args.step p rows) minutes)
