-- The times of the entries of an answer never run back.
use Rattle.std.proofs.Common.{◌≡◌, ℕ, List, [], ◌∷◌, subst}
use Rattle.nr_spec_log.specs.Chain.{LogEntry}
use Rattle.nr_spec_log.specs.Answer.{AreEntriesFrom}
use Rattle.nr_judging.specs.Times.{NeverBack}

never_back : (last : ℕ) (entries : List LogEntry) → AreEntriesFrom last entries → NeverBack last entries
never_back last [] fit = tt
never_back last (e ∷ entries) fit = (fit.1, never_back e.time entries fit.2)

pub in_order : (all read : List LogEntry) → read ≡ all → AreEntriesFrom 0 read → NeverBack 0 all
in_order all read is fit = never_back 0 all (subst (AreEntriesFrom 0) is fit)
