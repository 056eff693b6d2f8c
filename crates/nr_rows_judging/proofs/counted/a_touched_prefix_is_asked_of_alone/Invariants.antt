use Rattle.nr_rows_judging.proofs.counted.a_touched_prefix_is_asked_of_alone.Given as goal

-- a ledger of its own
abbrev pub ghosts-asked : goal.ghosts-asked
ghosts-asked g a = record { name = a.blank.name; parts = a.blank.parts }
