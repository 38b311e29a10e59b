use Rattle.flow_runs.proofs.run.run_dealt.Given as goal

-- the desk that was just made
abbrev pub ghosts-file_input : goal.ghosts-file_input
ghosts-file_input g a = record { book = a.blank.book; setup = a.blank.setup; feeders = a.blank.feeders; stored = a.blank.book }
