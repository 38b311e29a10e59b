use Rattle.std.proofs.Common.{rules, ◌≡◌, ℕ, ◌+◌, ◌<◌, ◌≤◌, List, false, length, refl, sym, ◌∙◌, arith}
use Rattle.std.proofs.lemmas.Bool.{true≢false, false_from_ne_true}
use Rattle.flow_regulations.specs.Listing.{RegulationView, IsLookedAgain}
use Rattle.flow_regulations.specs.Marks.{may_stand, IsOut}
use Rattle.flow_regulations.proofs.Marking.{covers-at, covers-set}
use Rattle.flow_regulations.proofs.Passing.{looks-past}
use Rattle.flow_regulations.proofs.Walks.{walked-step, walked-end, all-set, all-at}
use Rattle.flow_regulations.proofs.regulations.reallocate_in.Goals as goal

pub loop-index-init : goal.loop-index-init
loop-index-init g c = record {
  walked =
      looks-past c.args.number c.args.plans.now.taxi c.args.now c.args.word c.args.near 0 c.next_marked-index.result c.args.plans.now.plans c.args.regulations.now c.args.regulations.now c.requires.some c.requires.within c.requires.covers
      c.requires.near c.next_marked-index.ensures.from c.next_marked-index.ensures.passed refl;
  room = c.requires.room;
  covers = c.requires.covers;
}

pub look_where-stands-requires-clause-out : goal.look_where-stands-requires-clause-out
look_where-stands-requires-clause-out g c = λ e.
    (let s = c.loop-index in
    let ys : List RegulationView = s.regulations in
    let i : ℕ = s.index in
    let within : i < length ys = omega (arith, c.loop-index-test.true, s.auto.regulations) in
    covers-at s.marked c.args.number i ys c.index-regulations-index.result within s.invariant.covers (sym c.may_stand-stand.ensures ∙ e))

pub look_where-stands-requires-clause-room : goal.look_where-stands-requires-clause-room
look_where-stands-requires-clause-room g c =
    let s = c.loop-index in
    let ys : List RegulationView = s.regulations in
    let i : ℕ = s.index in
    let within : i < length ys = omega (arith, c.loop-index-test.true, s.auto.regulations) in
    all-at (λ r. c.args.number ≤ r.lineup.capacity) i ys c.index-regulations-index.result within s.invariant.room

pub offset_bounds-regulations-index : goal.offset_bounds-regulations-index
offset_bounds-regulations-index g c = let h : c.loop-index.index < length c.args.regulations.now = omega (arith, c.loop-index-test.true, c.loop-index.auto.regulations) in search rules

pub loop-index-preserved : goal.loop-index-preserved
loop-index-preserved g c =
    let s = c.loop-index in
    let ys : List RegulationView = s.regulations in
    let z : RegulationView = c.look_where-stands.new.self in
    let d : RegulationView = c.index-regulations-index.result in
    let e = c.look_where-stands.ensures.looked in
    let i : ℕ = s.index in
    let n : ℕ = c.args.number in
    let plans = c.args.plans.now in
    let within : i < length ys = omega (arith, c.loop-index-test.true, s.auto.regulations) in
    let room = all-at (λ r. n ≤ r.lineup.capacity) i ys d within s.invariant.room in
    let out : may_stand c.mark_where-marked.result i ≡ false → IsOut n z =
    λ no. c.look_where-stands.ensures.out (false_from_ne_true c.look_where-stands.result (λ q. true≢false (sym (c.mark_where-marked.ensures.marked q) ∙ no))) in
    let next : i + 1 ≤ c.next_marked-index-in-loop-index.result = omega (arith, c.next_marked-index-in-loop-index.ensures.from) in
    record {
      walked =
          looks-past n plans.taxi c.args.now c.args.word c.args.near (i + 1) c.next_marked-index-in-loop-index.result plans.plans c.args.regulations.now _ c.requires.some c.requires.within c.requires.covers
          c.requires.near next c.next_marked-index-in-loop-index.ensures.passed
          (walked-step (IsLookedAgain n plans.taxi c.args.now plans.plans) i c.args.regulations.now ys d z within (record { same = e.same; capacity = e.capacity; others = e.others; alone = e.alone; renewed = e.renewed }) s.invariant.walked);
      room = all-set (λ r. n ≤ r.lineup.capacity) i ys z (let all : n ≤ z.lineup.capacity = omega (arith, e.capacity, room) in all) s.invariant.room;
      covers = covers-set s.marked c.mark_where-marked.result n i ys z c.mark_where-marked.ensures.kept out s.invariant.covers;
    }

pub returns-clause-walked : goal.returns-clause-walked
returns-clause-walked g c =
    let xs : List RegulationView = c.loop-index.regulations in
    walked-end (IsLookedAgain c.args.number c.args.plans.now.taxi c.args.now c.args.plans.now.plans) c.loop-index.index (length xs) c.args.regulations.now xs refl (omega (arith, c.loop-index-test.false, c.loop-index.auto.regulations)) c.loop-index.invariant.walked
