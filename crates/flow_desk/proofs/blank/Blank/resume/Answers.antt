use Rattle.std.proofs.Common.{rules, ◌≡◌, ◌<◌, ◌≤◌, ◌⊎◌, None, Some}
use Rattle.flow_core.specs.History.{state_of}
use Rattle.flow_desk.specs.Blanks.{first_beyond}
use Rattle.flow_desk.proofs.Faults.{size-refused, feeder-refused, wanted-size, wanted-beyond}
use Rattle.flow_desk.proofs.blank.Blank.resume.Goals as goal

pub returns-then-not-is_desk_size-clause-beyond : goal.returns-then-not-is_desk_size-clause-beyond
returns-then-not-is_desk_size-clause-beyond g c =
    let out : (c.args.feeders ≡ 0) ⊎ (64 < c.args.feeders) = search rules in
    size-refused c.args.feeders (first_beyond c.args.feeders 1 (state_of c.args.core).journal) out

pub returns-in-Some-clause-beyond : goal.returns-in-Some-clause-beyond
returns-in-Some-clause-beyond g c =
    let size : (0 < c.args.feeders) × (c.args.feeders ≤ 64) = search rules in
    let is : first_beyond c.args.feeders 1 (state_of c.args.core).journal ≡ Some c.in-Some.number = search rules in
    feeder-refused c.args.feeders c.in-Some.number (first_beyond c.args.feeders 1 (state_of c.args.core).journal) size.0 size.1 is

pub returns-in-None-clause-feeders : goal.returns-in-None-clause-feeders
returns-in-None-clause-feeders g c =
    let size : (0 < c.args.feeders) × (c.args.feeders ≤ 64) = search rules in
    wanted-size c.made_of.result c.args.feeders size.0 size.1 c.made_of.ensures.fault

pub returns-in-None-clause-beyond : goal.returns-in-None-clause-beyond
returns-in-None-clause-beyond g c =
    let none : first_beyond c.args.feeders 1 (state_of c.args.core).journal ≡ None = search rules in
    wanted-beyond c.made_of.result c.args.feeders (first_beyond c.args.feeders 1 (state_of c.args.core).journal) none c.made_of.ensures.fault
