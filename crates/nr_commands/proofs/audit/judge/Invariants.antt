use Rattle.nr_commands.proofs.audit.judge.Given as goal

-- a ledger of its own
abbrev pub ghosts-judge_on : goal.ghosts-judge_on
ghosts-judge_on a = record { name = a.blank.name; parts = a.blank.parts }
