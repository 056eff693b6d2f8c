use Rattle.nr_rows_judging.proofs.promises.differing.Given as goal

-- a ledger of its own
abbrev pub ghosts-broken : goal.ghosts-broken
ghosts-broken a = record { name = a.blank.name; parts = a.blank.parts }
