-- Each step of a load, a birth and an append is of a kind, where those under the log's name are.
use Rattle.std.proofs.Common.{◌≡◌, ◌≢◌, ℕ, ◌-◌, Bool, true, false, List, [], ◌∷◌, ◌++◌, length, drop, Option, None, Some, Result, Ok, Err, refl}
use Rattle.std.specs.Prelude.{nat_lt, unwrap_or}
use Rattle.nr_spec_plans.specs.Plans.{Action, Done, followed_by, Ask, Read, Sync, Write, ◌>>=◌}
use Rattle.nr_spec_plans.specs.Laws.{Each, Spares}
use Rattle.nr_spec_plans.proofs.PlanLaws.{each_followed}
use Rattle.nr_spec_crash.specs.Firm.{firm}
use Rattle.nr_spec_log.specs.Chain.{LogEntry}
use Rattle.nr_spec_store.specs.LogFile.{LogFile, batch, birth_size, born, log_of, most_log, with_batch}
use Rattle.nr_spec_store.specs.StorePlans.{Refusal, Work, append_plan, birth_plan, close_plan, found_plan, gate_plan, load_plan, understood, within_limit}

limit_each : {B : Type 0} (K : Action → Type 0) (size : ℕ) (p : Work B) → Each K p → Each K (within_limit size >>= (λ fits. p))
unfolding within_limit followed_by
limit_each K size p each = by_limit (nat_lt most_log size) refl
  where
    by_limit : (b : Bool) → nat_lt most_log size ≡ b → Each K (within_limit size >>= (λ fits. p))
    by_limit true is = rw is tt
    by_limit false is = rw is each

understood_each : (K : Action → Type 0) (read : Result (Option LogFile) ℕ) → Each K (understood read)
understood_each K (Ok value) = tt
understood_each K (Err place) = tt

found_each : (K : Action → Type 0) (name : List ℕ) (size : Option ℕ) → K (Sync name) → ((size : ℕ) → K (Read name size)) → Each K (found_plan name size)
unfolding found_plan followed_by
found_each K name None sync read = tt
found_each K name (Some size) sync read = limit_each K size _ (sync, λ synced. (read size, λ bytes. understood_each K (log_of bytes)))

pub load_each : (K : Action → Type 0) (name : List ℕ) → K (Ask name) → K (Sync name) → ((size : ℕ) → K (Read name size)) → Each K (load_plan name)
unfolding load_plan followed_by
load_each K name ask sync read = (ask, λ size. found_each K name size sync read)

firm_each : (K : Action → Type 0) (name : List ℕ) (at : ℕ) (bytes : List ℕ) → K (Write name at bytes) → K (Sync name) → Each K (firm {E = Refusal} name at bytes)
unfolding firm followed_by
firm_each K name at bytes write sync = (write, λ wrote. (sync, λ synced. tt))

gate_each : (K : Action → Type 0) (name : List ℕ) (end : ℕ) (body : List ℕ) → ((at : ℕ) (bytes : List ℕ) → K (Write name at bytes)) → K (Sync name) → Each K (gate_plan name end body)
unfolding gate_plan
gate_each K name end body write sync =
    each_followed K (firm name end body) (λ put. firm name (end - 1) (1 ∷ [])) (firm_each K name end body (write end body) sync) (λ put. firm_each K name (end - 1) (1 ∷ []) (write (end - 1) (1 ∷ [])) sync)

pub append_each : (K : Action → Type 0) (name : List ℕ) (log : LogFile) (es : List LogEntry) → ((at : ℕ) (bytes : List ℕ) → K (Write name at bytes)) → K (Sync name) → Each K (append_plan name log es)
unfolding append_plan followed_by
append_each K name log es write sync =
    let body = batch es ++ 0 ∷ [] in
    limit_each K (length (with_batch log es).front) _
    (each_followed K (gate_plan name (length log.front) body) (λ opened. Done (with_batch log es)) (gate_each K name (length log.front) body write sync) (λ opened. tt))

close_each : (K : Action → Type 0) (name : List ℕ) (size : ℕ) → ((at : ℕ) (bytes : List ℕ) → K (Write name at bytes)) → K (Sync name) → Each K (close_plan name size)
unfolding close_plan
close_each K name size write sync = by_size (nat_lt size birth_size) refl
  where
    by_size : (b : Bool) → nat_lt size birth_size ≡ b → Each K (close_plan name size)
    by_size true is = rw is (firm_each K name 0 (0 ∷ []) (write 0 (0 ∷ [])) sync)
    by_size false is = rw is tt

birth_each : (K : Action → Type 0) (name : List ℕ) (asn : ℕ) (root : List ℕ) → K (Ask name) → ((at : ℕ) (bytes : List ℕ) → K (Write name at bytes)) → K (Sync name) → Each K (birth_plan name asn root)
unfolding birth_plan followed_by
birth_each K name asn root ask write sync =
    let log = born asn root in (
      ask,
      λ size. limit_each K (unwrap_or size 0) _
          (each_followed K (close_plan name (unwrap_or size 0)) (λ closed. gate_plan name 1 (drop 1 log.front) >>= (λ opened. Done log)) (close_each K name (unwrap_or size 0) write sync)
          (λ closed. each_followed K (gate_plan name 1 (drop 1 log.front)) (λ opened. Done log) (gate_each K name 1 (drop 1 log.front) write sync) (λ opened. tt))),
    )

-- ---- other names

pub load_spares : (name other : List ℕ) → other ≢ name → Each (Spares other) (load_plan name)
load_spares name other ne = load_each (Spares other) name tt ne (λ size. tt)

pub birth_spares : (name other : List ℕ) (asn : ℕ) (root : List ℕ) → other ≢ name → Each (Spares other) (birth_plan name asn root)
birth_spares name other asn root ne = birth_each (Spares other) name asn root tt (λ at bytes. ne) ne

pub append_spares : (name other : List ℕ) (log : LogFile) (es : List LogEntry) → other ≢ name → Each (Spares other) (append_plan name log es)
append_spares name other log es ne = append_each (Spares other) name log es (λ at bytes. ne) ne
