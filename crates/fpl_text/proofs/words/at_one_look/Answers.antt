use Rattle.std.proofs.Common.{◌≡◌, ◌≤◌, ◌+◌, ◌-◌, length, arith}
use Rattle.fpl_text.proofs.WordsLemmas.{looked, look-holds, look-split}
use Rattle.fpl_text.proofs.words.at_one_look.Goals as goal
use Rattle.fpl_text.proofs.words.at_one_look.Goals.{then-end-at+else-end-text, else-end-at}

pub measured_in-requires : goal.measured_in-requires
measured_in-requires c =
    let f = looked c.args.text.now c.load-lanes.result c.args.from c.args.at c.set_lanes_from.result c.requires.before c.requires.inside c.set_lanes_from.ensures.bound c.load-lanes.ensures.lanes
    (c.set_lanes_from.ensures.set _ c.other_lanes.ensures) (c.set_lanes_from.ensures.stops _ c.other_lanes.ensures) in
    look-holds c.args.text.now c.load-lanes.result c.args.from (c.args.from - c.args.at) c.set_lanes_from.result f

pub returns-clause-split : goal.returns-clause-split
returns-clause-split c =
    let f = looked c.args.text.now c.load-lanes.result c.args.from c.args.at c.set_lanes_from.result c.requires.before c.requires.inside c.set_lanes_from.ensures.bound c.load-lanes.ensures.lanes
    (c.set_lanes_from.ensures.set _ c.other_lanes.ensures) (c.set_lanes_from.ensures.stops _ c.other_lanes.ensures) in
    let ends : c.args.from - c.args.at + c.set_lanes_from.result ≡ 16 → length c.args.text.now ≤ c.args.from + c.set_lanes_from.result = (λ all.
    elim c.if-end-at.branch [ then-end-at+else-end-text w ↦ w.if-end-text.false | else-end-at w ↦ absurd (w.if-end-at.false (omega (arith, all, c.requires.before))) ]) in
    rw c.measured_in.ensures.word (look-split c.args.text.now c.load-lanes.result c.args.from (c.args.from - c.args.at) c.set_lanes_from.result f ends)
