-- The runs of an append, by how far it came.
use Rattle.std.proofs.Common.{◌≡◌, ℕ, ◌<◌, ◌≤◌, true, false, ltb, List, [], ◌∷◌, ◌++◌, length, Result, Ok, Err, refl, sym, ap, ◌∙◌}
use Rattle.std.proofs.lemmas.Bool.{lt-ltb, le-ltb}
use Rattle.nr_spec_plans.specs.Disk.{Disk, Memory}
use Rattle.nr_spec_plans.specs.Plans.{Done, Refuse, Halt, Refused, Faulted, Runs, want, ◌>>=◌}
use Rattle.nr_spec_plans.proofs.PlanLemmas.{ran, stopped, done, wanted, unfound, known, declined}
use Rattle.nr_spec_log.specs.Chain.{LogEntry}
use Rattle.nr_spec_store.specs.LogFile.{LogFile, most_log, batch, with_batch}
use Rattle.nr_spec_store.specs.StorePlans.{Refusal, Limit, Work, within_limit, gate_plan, append_plan}

pub permitted : (size : ℕ) → size ≤ most_log → within_limit size ≡ Done tt
unfolding within_limit
permitted size within = let h : ltb most_log size ≡ false = le-ltb most_log size within in rw h refl

pub refused_past : (size : ℕ) → most_log < size → within_limit size ≡ Refuse (Limit size)
unfolding within_limit
refused_past size past = let h : ltb most_log size ≡ true = lt-ltb most_log size past in rw h refl

module _ (name : List ℕ) (log : LogFile) (es : List LogEntry) (old : Disk) where
  size : ℕ
  size = length (with_batch log es).front

  abbrev body : List ℕ
  body = batch es ++ 0 ∷ []

  abbrev gates : Work LogFile
  gates = gate_plan name (length log.front) body >>= (λ opened. Done (with_batch log es))

  abbrev fitted : Work LogFile
  fitted = want >>= (λ room. gates)

  abbrev asked : Work LogFile
  asked = within_limit (length (with_batch log es).front) >>= (λ fits. fitted)

  pub finds_none : Runs (append_plan name log es) old old (Err (Faulted Memory))
  unfolding append_plan
  finds_none = unfound (λ spelled. asked) old

  pub past_limit : (size : ℕ) → size ≡ length (with_batch log es).front → most_log < size → Runs (append_plan name log es) old old (Err (Refused (Limit size)))
  unfolding append_plan
  past_limit size is past =
      let no : within_limit (length (with_batch log es).front) ≡ Refuse (Limit size) = ap within_limit (sym is) ∙ refused_past size past in
      wanted (λ spelled. asked) old old (Err (Refused (Limit size))) (declined (within_limit (length (with_batch log es).front)) (λ fits. fitted) old (Limit size) no)

  go_on : (new : Disk) (result : Result LogFile (Halt Refusal)) → length (with_batch log es).front ≤ most_log → Runs gates old new result → Runs (append_plan name log es) old new result
  unfolding append_plan
  go_on new result within runs =
      wanted (λ spelled. asked) old new result (known (within_limit (length (with_batch log es).front)) (λ fits. fitted) old new tt result (permitted (length (with_batch log es).front) within) (wanted (λ room. gates) old new result runs))

  pub gate_stops : (new : Disk) (halt : Halt Refusal) → length (with_batch log es).front ≤ most_log → Runs (gate_plan name (length log.front) body) old new (Err halt) → Runs (append_plan name log es) old new (Err halt)
  gate_stops new halt within runs = go_on new (Err halt) within (stopped (gate_plan name (length log.front) body) (λ opened. Done (with_batch log es)) old new halt runs)

  pub gate_opens : (new : Disk) → length (with_batch log es).front ≤ most_log → Runs (gate_plan name (length log.front) body) old new (Ok tt) → Runs (append_plan name log es) old new (Ok (with_batch log es))
  gate_opens new within runs =
      go_on new (Ok (with_batch log es)) within (ran (gate_plan name (length log.front) body) (λ opened. Done (with_batch log es)) old new new tt (Ok (with_batch log es)) runs (done Refusal (with_batch log es) new))
