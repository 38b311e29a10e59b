use Rattle.std.proofs.Common.{◌≡◌, ◌∙◌, ◌+◌, ◌++◌, [], ◌∷◌, ℕ, List, length, length-append, take, subst, ap, arith, Option, IfSome}
use Rattle.std.specs.List.{filter_map, cons_option}
use Rattle.std.proofs.lemmas.List.{append-nil}
use Rattle.std.proofs.Math.Seq.{take-length}
use Rattle.flow_traffic.specs.Traffic.{Traffic}
use Rattle.flow_core.specs.declared.change.Change.{Change}
use Rattle.flow_core.specs.declared.row.Row.{Row}
use Rattle.flow_core.specs.Changes.{rows_in, change_at}
use Rattle.flow_core.proofs.ChangedRows.{if-told, if-more, if-all, numbers-few}
use Rattle.flow_core.proofs.change.note_changes.Goals as goal
use Rattle.flow_core.proofs.change.note_changes.Goals.{in-Some, in_default}

pub change_at-requires-clause-told : goal.change_at-requires-clause-told
change_at-requires-clause-told g c =
    if-told c.args.traffic.now.before c.changed.result.0.now c.changed.result.1.now c.loop-index.index c.index-told-index.result c.changed.ensures.told c.loop-index-test.true c.index-told-index.is

pub push_reserved-requires : goal.push_reserved-requires
push_reserved-requires g c =
    let few = numbers-few c.args.traffic.now.traffic c.changed.result.0.now c.changed.ensures.rising c.changed.ensures.numbers c.changed.ensures.each in
    omega (arith, c.loop-index.invariant.few, c.loop-index.invariant.capacity, c.loop-index-test.true, few, c.clear.ensures.capacity, c.requires.room, c.loop-index.changes.ok.0)

pub loop-index-preserved : goal.loop-index-preserved
loop-index-preserved g c =
    let o : Option Traffic = c.args.traffic.now.before in
    let rows : List Row = rows_in c.args.traffic.now.traffic in
    let ns : List ℕ = c.changed.result.0.now in
    let j : ℕ = c.loop-index.index in
    let cs : List Change = c.loop-index.changes.items in
    let next = if-more o rows ns j cs c.change_at.result c.loop-index-test.true c.loop-index.invariant.changes c.change_at.ensures in
    let C : List Change → Type 0 = λ ds. IfSome o (λ b. ds ≡ filter_map (change_at (rows_in b) rows) (take (j + 1) ns)) in
    elim c.match-change_at.branch [
      | in-Some w ↦ record {
        changes = rw (w.changes-is, w.push_reserved.ensures.items) (subst C (ap (λ (r : Option Change). cs ++ cons_option r []) w.in-Some.is) next);
        few = rw (w.changes-is, w.push_reserved.ensures.items, length-append cs (w.in-Some.change ∷ [])) (omega (arith, c.loop-index.invariant.few));
        capacity = rw w.changes-is (w.push_reserved.ensures.capacity ∙ c.loop-index.invariant.capacity);
      }
      | in_default w ↦ record {
        changes = rw w.changes-is (subst C (ap (λ (r : Option Change). cs ++ cons_option r []) w.in_default.is ∙ append-nil cs) next);
        few = rw w.changes-is (omega (arith, c.loop-index.invariant.few));
        capacity = rw w.changes-is c.loop-index.invariant.capacity;
      }
    ]

pub returns-clause-changes : goal.returns-clause-changes
returns-clause-changes g c =
    let o : Option Traffic = c.args.traffic.now.before in
    let ns : List ℕ = c.changed.result.0.now in
    let all : c.loop-index.index ≡ length ns = omega (arith, c.loop-index-test.false, c.loop-index.auto.index-end) in
    let cs : List Change = c.loop-index.changes.items in
    let C : List ℕ → Type 0 = λ ms. IfSome o (λ b. cs ≡ filter_map (change_at (rows_in b) (rows_in c.args.traffic.now.traffic)) ms) in
    if-all o c.args.traffic.now.traffic ns cs c.changed.ensures.rising c.changed.ensures.numbers c.changed.ensures.others c.changed.ensures.each_before c.changed.ensures.each
    (subst C (ap (λ k. take k ns) all ∙ take-length ns) c.loop-index.invariant.changes)
