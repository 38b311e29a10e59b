use Rattle.flow_runs.proofs.answers.write_replay.Goals as goal

pub is_same-requires-clause-setup : goal.is_same-requires-clause-setup
is_same-requires-clause-setup g c = (rw c.in-Some.is at c.requires).0

pub is_same-requires-clause-filed : goal.is_same-requires-clause-filed
is_same-requires-clause-filed g c = (rw c.in-Some.is at c.requires).1
