use Rattle.flow_runs.proofs.FeedsRun.{filed-front}
use Rattle.flow_runs.proofs.feeding.file_next.Goals as goal

pub returns-clause-ran : goal.returns-clause-ran
returns-clause-ran g c p texts h =
    filed-front g.N.Name.setup p c.args.feed.now.pass c.file_all.new.pass texts c.args.feed.now.left c.file_all.new.queue c.file_all.ensures.filed h

pub returns-in-Err-clause-ran : goal.returns-in-Err-clause-ran
returns-in-Err-clause-ran g c p texts h =
    filed-front g.N.Name.setup p c.args.feed.now.pass c.file_all.new.pass texts c.args.feed.now.left c.file_all.new.queue c.file_all.ensures.filed h

pub returns-in-Err-clause-ends : goal.returns-in-Err-clause-ends
returns-in-Err-clause-ends g c refused = (c.in-Err.ensures.remaining, c.in-Err.ensures.full, c.in-Err.ensures.memory)
