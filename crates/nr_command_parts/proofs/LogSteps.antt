-- Loading a log, and bearing one, as steps of this program's plans, and what the file has after them.
use Rattle.std.proofs.Common.{◌≡◌, ◌≢◌, ◌∙◌, ℕ, ◌<◌, ◌^◌, Bool, true, false, cond, List, ◌∷◌, length, Option, None, Some, Result, Ok, Err, ap, refl, sym, subst, arith}
use Rattle.std.specs.Prelude.{IfSome, nat_lt, option_map}
use Rattle.nr_spec_plans.specs.Disk.{Disk, Told, bytes_of}
use Rattle.nr_spec_plans.specs.Plans.{Halt, Runs, halting, refusing}
use Rattle.nr_spec_plans.proofs.PlanLemmas.{refused_as}
use Rattle.nr_spec_log.specs.Authenticator.{digest_size}
use Rattle.nr_spec_store.specs.LogFile.{IsLog, LogFile, log_of, most_log}
use Rattle.nr_spec_store.specs.StorePlans.{Limit, Refusal, birth_plan, load_plan, loading, refused_at}
use Rattle.nr_spec_store.specs.StoreCrashes.{Keeps}
use Rattle.nr_laws_crash.proofs.CrashLaws.{field_kept, was_told}
use Rattle.nr_laws_store.proofs.BirthLaws.{birth_keeps}
use Rattle.nr_laws_store.proofs.LoadLaws.{load_gives, load_keeps}
use Rattle.nr_laws_program.proofs.LogKinds.{birth_log_each, load_log_each}
use Rattle.nr_laws_program.proofs.Phases.{SparesContents, spares_contents}
use Rattle.nr_store.specs.Views.{why_not_appended, why_not_loaded}
use Rattle.nr_store.specs.declared.fault.LoadError.{LoadError}
use Rattle.nr_store.specs.declared.fault.LoadError.TheVariants as load
use Rattle.nr_store.specs.declared.fault.AppendError.{AppendError}
use Rattle.nr_store.specs.declared.fault.AppendError.TheVariants as append
use Rattle.nr_spec_history.specs.KeyFiles.{Key, key_root}
use Rattle.nr_spec_program.specs.Recording.{born_plan, log_plan, unread_log, unwritten_log}
use Rattle.nr_command_parts.specs.declared.refusal.Stop.{Stop}
use Rattle.nr_command_parts.specs.Logs.{HasLog}
use Rattle.nr_command_parts.specs.Views.{unappended_of, unloaded_of, why}

-- ---- what is told before and after

pub other_name : (name : List ℕ) → (0 ∷ name) ≢ name
other_name name is = omega (arith, ap length is)

load_same : (name : List ℕ) (old new : Disk) (result : Result (Option LogFile) (Halt Refusal)) → Runs (load_plan name) old new result
    → option_map (λ t. t.holds name) new.told ≡ option_map (λ t. t.holds name) old.told
load_same name old new result runs =
    spares_contents name (load_plan name) old new result (load_log_each (SparesContents name) name (record { ask = tt; sync = tt; read = λ size. tt })) runs

born_told : (name : List ℕ) (asn : ℕ) (root : List ℕ) (old new : Disk) (result : Result LogFile (Halt Refusal)) (u : Told) → new.told ≡ Some u → Runs (birth_plan name asn root) old new result
    → (t : Told) × (old.told ≡ Some t)
born_told name asn root old new result u told runs =
    was_told (λ t. t.holds (0 ∷ name)) old.told new.told u told
    (spares_contents (0 ∷ name) (birth_plan name asn root) old new result (birth_log_each (SparesContents (0 ∷ name)) name asn root tt (record { write = λ at bytes. other_name name; sync = tt })) runs)

-- ---- loading

pub loaded_ok : (name : List ℕ) (old new : Disk) (found : Option LogFile) → Runs (load_plan name) old new (Ok found) → Runs (log_plan name) old new (Ok found)
loaded_ok name old new found runs = refused_as unread_log (load_plan name) old new (Ok found) runs

pub loaded_err : (name : List ℕ) (old new : Disk) (e : LoadError) (s : Stop) → Runs (load_plan name) old new (Err (why_not_loaded e)) → s ≡ unloaded_of e → Runs (log_plan name) old new (Err (why s))
loaded_err name old new load.Read s runs is = rw is (refused_as unread_log (load_plan name) old new _ runs)
loaded_err name old new load.Write s runs is = rw is (refused_as unread_log (load_plan name) old new _ runs)
loaded_err name old new (load.Limit size) s runs is = rw is (refused_as unread_log (load_plan name) old new _ runs)
loaded_err name old new (load.At place) s runs is = rw is (refused_as unread_log (load_plan name) old new _ runs)
loaded_err name old new load.Memory s runs is = rw is (refused_as unread_log (load_plan name) old new _ runs)

loading_none : (bytes : List ℕ) → loading bytes ≡ Ok None → log_of bytes ≡ Ok None
loading_none bytes is = by (nat_lt most_log (length bytes)) is
  where
    of : (read : Result (Option LogFile) ℕ) → refused_at read ≡ Ok None → read ≡ Ok None
    of (Ok found) e = let same : found ≡ None = cc in ap (λ f. Ok f) same
    of (Err place) e = absurd cc

    by : (b : Bool) → cond b (Err (Limit (length bytes))) (refused_at (log_of bytes)) ≡ Ok None → log_of bytes ≡ Ok None
    by true e = absurd cc
    by false e = of (log_of bytes) e

pub load_has : (name : List ℕ) (old new : Disk) (found : Option LogFile) → IfSome found (λ log. IsLog log) → Runs (load_plan name) old new (Ok found) → HasLog new name found
load_has name old new None is runs = λ u told.
    let same = load_same name old new (Ok None) runs in
    let t = was_told (λ t. t.holds name) old.told new.told u told same in
    let held = field_kept (λ t. t.holds name) old.told new.told t.0 u t.1 told same in
    subst (λ (h : Option (List ℕ)). log_of (bytes_of h) ≡ Ok None) (sym held) (loading_none (bytes_of (t.0.holds name)) (load_gives name old new t.0 (Ok None) t.1 runs))
load_has name old new (Some log) is runs = λ u told.
    let t = was_told (λ t. t.holds name) old.told new.told u told (load_same name old new (Ok (Some log)) runs) in
    load_keeps name old new t.0 log t.1 is runs

pub ruleset loading_logs = (loaded_ok, loaded_err, load_has)

-- ---- bearing

pub born_some : (name : List ℕ) (key : Key) (log : LogFile) (old : Disk) → Runs (born_plan name key (Some log)) old old (Ok log)
unfolding born_plan Runs
born_some name key log old = (refl, refl)

-- the birth of the plan, by the values that the code has
birth_by : (name : List ℕ) (key : Key) (asn : ℕ) (root : List ℕ) (old new : Disk) (result : Result LogFile (Halt Refusal)) → key.asn ≡ asn → key_root key ≡ root
    → Runs (birth_plan name asn root) old new result → Runs (birth_plan name key.asn (key_root key)) old new result
birth_by name key asn root old new result is_asn is_root runs =
    subst (λ (n : ℕ). Runs (birth_plan name n (key_root key)) old new result) (sym is_asn) (subst (λ (r : List ℕ). Runs (birth_plan name asn r) old new result) (sym is_root) runs)

pub born_ok : (name : List ℕ) (key : Key) (asn : ℕ) (root : List ℕ) (log : LogFile) (old new : Disk) → key.asn ≡ asn → key_root key ≡ root → Runs (birth_plan name asn root) old new (Ok log)
    → Runs (born_plan name key None) old new (Ok log)
unfolding born_plan
born_ok name key asn root log old new is_asn is_root runs =
    refused_as unwritten_log (birth_plan name key.asn (key_root key)) old new (Ok log) (birth_by name key asn root old new (Ok log) is_asn is_root runs)

-- why a log that isn't born, or appended to, ends a command, is why the plan gives no value
pub unwritten_is : (e : AppendError) → halting {A = LogFile} unwritten_log (Err (why_not_appended e)) ≡ Err (why (unappended_of e))
unwritten_is append.Read = refl
unwritten_is append.Write = refl
unwritten_is (append.Limit size) = refl
unwritten_is append.Memory = refl

pub born_err : (name : List ℕ) (key : Key) (asn : ℕ) (root : List ℕ) (old new : Disk) (e : AppendError) (s : Stop) → key.asn ≡ asn → key_root key ≡ root
    → Runs (birth_plan name asn root) old new (Err (why_not_appended e)) → s ≡ unappended_of e → Runs (born_plan name key None) old new (Err (why s))
unfolding born_plan
born_err name key asn root old new e s is_asn is_root runs is =
    subst (Runs (refusing unwritten_log (birth_plan name key.asn (key_root key))) old new) (unwritten_is e ∙ ap (λ (s : Stop). Err (why s)) (sym is))
    (refused_as unwritten_log (birth_plan name key.asn (key_root key)) old new (Err (why_not_appended e)) (birth_by name key asn root old new (Err (why_not_appended e)) is_asn is_root runs))

pub birth_has : (name : List ℕ) (asn : ℕ) (root : List ℕ) (log : LogFile) (old new : Disk) → asn < 2 ^ 32 → length root ≡ digest_size → Runs (birth_plan name asn root) old new (Ok log) → HasLog new name (Some log)
birth_has name asn root log old new small sized runs = λ u told.
    let t = born_told name asn root old new (Ok log) u told runs in
    let k = birth_keeps name asn root log old new t.0 small sized t.1 runs in
    subst (Keeps new name) (sym k.0) k.1

pub ruleset bearing_logs = (born_some, born_ok, born_err, birth_has)
