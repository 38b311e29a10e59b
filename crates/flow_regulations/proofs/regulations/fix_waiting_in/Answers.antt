use Rattle.std.proofs.Common.{rules, ℕ, ◌+◌, ◌<◌, ◌≤◌, List, length, get_or, refl, arith}
use Rattle.flow_regulations.specs.Listing.{RegulationView, IsFixedWaiting}
use Rattle.flow_regulations.proofs.Passing.{fixes-past}
use Rattle.flow_regulations.proofs.Walks.{walked-step, walked-end}
use Rattle.flow_regulations.proofs.regulations.fix_waiting_in.Goals as goal

pub loop-index-init : goal.loop-index-init
loop-index-init g c =
    fixes-past c.args.number c.args.word 0 c.next_marked-index.result c.args.regulations.now c.args.regulations.now c.requires c.next_marked-index.ensures.from c.next_marked-index.ensures.passed refl

pub loop-index-preserved : goal.loop-index-preserved
loop-index-preserved g c =
    let s = c.loop-index in
    let ys : List RegulationView = s.regulations in
    let d : RegulationView = c.index-regulations-index.result in
    let z : RegulationView = c.fix_waiting.new.self in
    let f = c.fix_waiting.ensures in
    let n : ℕ = c.args.number in
    let i : ℕ = s.index in
    let within : i < length ys = omega (arith, c.loop-index-test.true, s.auto.regulations) in
    let here : IsFixedWaiting n (get_or ys i d) z = record { same = f.fixed; capacity = f.capacity; lined = λ _. f.lined; regular = λ _. f.regular } in
    let next : i + 1 ≤ c.next_marked-index-in-loop-index.result = omega (arith, c.next_marked-index-in-loop-index.ensures.from) in
    fixes-past n c.args.word (i + 1) c.next_marked-index-in-loop-index.result c.args.regulations.now _ c.requires next c.next_marked-index-in-loop-index.ensures.passed
    (walked-step (IsFixedWaiting n) i c.args.regulations.now ys d z within here s.invariant)

pub returns : goal.returns
returns g c =
    let xs : List RegulationView = c.loop-index.regulations in
    let n : ℕ = c.args.number in
    walked-end (IsFixedWaiting n) c.loop-index.index (length xs) c.args.regulations.now xs refl (omega (arith, c.loop-index-test.false, c.loop-index.auto.regulations)) c.loop-index.invariant

pub offset_bounds-regulations-index : goal.offset_bounds-regulations-index
offset_bounds-regulations-index g c = let h : c.loop-index.index < length c.args.regulations.now = omega (arith, c.loop-index-test.true, c.loop-index.auto.regulations) in search rules
