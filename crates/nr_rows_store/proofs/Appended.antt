-- What a birth and an append leave of the logs of these rows.
use Rattle.std.proofs.Common.{◌≡◌, ◌∙◌, ℕ, ◌<◌, ◌^◌, List, [], ◌∷◌, ◌++◌, length, None, Some, Result, Ok, Err, IfOk, refl, sym, ap, subst, arith, codes}
use Rattle.nr_spec_plans.specs.Disk.{Disk, Told, bytes_of}
use Rattle.nr_spec_plans.specs.Plans.{Runs}
use Rattle.nr_spec_log.specs.Chain.{LogEntry}
use Rattle.nr_spec_log.specs.Authenticator.{digest_size}
use Rattle.nr_spec_log.specs.Answer.{IsEntry, last_time}
use Rattle.nr_spec_store.specs.LogFile.{LogFile, MayFollow, born, log_of, with_batch}
use Rattle.nr_spec_store.specs.StorePlans.{append_plan, birth_plan, loading}
use Rattle.nr_spec_store.specs.StoreCrashes.{Holds}
use Rattle.nr_laws_store.proofs.BirthLaws.{birth_keeps}
use Rattle.nr_laws_store.proofs.GateLaws.{append_keeps, keeps_holds}
use Rattle.nr_laws_store.proofs.Loads.{read_as}
use Rattle.nr_ports.specs.Ports.{MemoryFiles, Named, calling, disk_of, held_in, listed, told_of}
use Rattle.nr_store.specs.Views.{appended}
use Rattle.nr_store.specs.declared.fault.AppendError.{AppendError}
use Rattle.nr_rows_store.specs.Logs.{HasNone, HasThree, plain}

plain_fits : (time : ℕ) → time < 2 ^ 64 → IsEntry (plain time)
plain_fits time small = record { time = small; kind = omega arith; content = omega arith }

-- no file, no log
pub none_born : (m : MemoryFiles) (t : Told) → m.files ≡ [] → Some (told_of m) ≡ Some t
    → log_of (bytes_of (t.holds (codes "log"))) ≡ Ok None
unfolding log_of
none_born m t none told =
    let same : t ≡ told_of m = cc in
    ap (λ (u : Told). log_of (bytes_of (u.holds (codes "log")))) same
    ∙ ap (λ (files : List Named). log_of (bytes_of (held_in files (codes "log")))) none

born_none_ok : (root : List ℕ) (log : LogFile) (old new : Disk) (t : Told) → length root ≡ digest_size
    → old.told ≡ Some t → Runs (birth_plan (codes "log") 64500 root) old new (Ok log) → HasNone new log
born_none_ok root log old new t len told runs =
    let kept = birth_keeps (codes "log") 64500 root log old new t (omega arith) len told runs in
    record {
      holds = subst (λ (l : LogFile). Holds new (codes "log") l) (sym kept.0) (keeps_holds new (codes "log") (born 64500 root) kept.1);
      entries = ap (λ (l : LogFile). l.entries) kept.0;
    }

pub born_none : (root : List ℕ) (old new : MemoryFiles) (result : Result LogFile AppendError) → length root ≡ digest_size
    → Runs (birth_plan (codes "log") 64500 root) (disk_of old) (disk_of new) (appended (λ store. store) result)
    → IfOk result (λ store. HasNone (disk_of new) store)
born_none root old new (Ok log) len runs = born_none_ok root log (disk_of old) (disk_of new) (told_of old) len refl runs
born_none root old new (Err fault) len runs = tt

three_follow : (before : List LogEntry) → before ≡ [] → MayFollow (last_time 0 before) (plain 1 ∷ plain 1 ∷ plain 1 ∷ [])
three_follow before is = subst (λ (es : List LogEntry). MayFollow (last_time 0 es) (plain 1 ∷ plain 1 ∷ plain 1 ∷ [])) (sym is)
    (record {
      fit = (plain_fits 1 (omega arith), omega arith, (plain_fits 1 (omega arith), omega arith, (plain_fits 1 (omega arith), omega arith, tt)));
      some = omega arith;
    })

pub two_follow : (before : List LogEntry) → before ≡ plain 1 ∷ plain 1 ∷ plain 1 ∷ []
    → MayFollow (last_time 0 before) (plain 2 ∷ plain 2 ∷ [])
two_follow before is = subst (λ (es : List LogEntry). MayFollow (last_time 0 es) (plain 2 ∷ plain 2 ∷ [])) (sym is)
    (record { fit = (plain_fits 2 (omega arith), omega arith, (plain_fits 2 (omega arith), omega arith, tt)); some = omega arith })

longer_entries : (log : LogFile) (es : List LogEntry) → log.entries ≡ [] → (with_batch log es).entries ≡ es
unfolding with_batch
longer_entries log es is = ap (λ (before : List LogEntry). before ++ es) is

three_more_ok : (log longer : LogFile) (old new : Disk) → HasNone old log
    → Runs (append_plan (codes "log") log (plain 1 ∷ plain 1 ∷ plain 1 ∷ [])) old new (Ok longer) → HasThree new longer
three_more_ok log longer old new has runs =
    let es = plain 1 ∷ plain 1 ∷ plain 1 ∷ [] in
    let kept = append_keeps (codes "log") log es longer old new has.holds (three_follow log.entries has.entries) runs in
    record {
      holds = subst (λ (l : LogFile). Holds new (codes "log") l) (sym kept.0) (keeps_holds new (codes "log") (with_batch log es) kept.1);
      entries = ap (λ (l : LogFile). l.entries) kept.0 ∙ longer_entries log es has.entries;
    }

pub three_more : (log : LogFile) (es : List LogEntry) (old new : MemoryFiles) (result : Result LogFile AppendError)
    → es ≡ plain 1 ∷ plain 1 ∷ plain 1 ∷ [] → HasNone (disk_of old) log
    → Runs (append_plan (codes "log") log es) (disk_of old) (disk_of new) (appended (λ store. store) result)
    → IfOk result (λ longer. HasThree (disk_of new) longer)
three_more log es old new (Ok longer) is has runs =
    three_more_ok log longer (disk_of old) (disk_of new) has (subst (λ (l : List LogEntry). Runs (append_plan (codes "log") log l) (disk_of old) (disk_of new) (Ok longer)) is runs)
three_more log es old new (Err fault) is has runs = tt

pub three_may_follow : (log : LogFile) (d : Disk) → HasNone d log → MayFollow (last_time 0 log.entries) (plain 1 ∷ plain 1 ∷ plain 1 ∷ [])
three_may_follow log d has = three_follow log.entries has.entries

pub two_may_follow : (log : LogFile) (d : Disk) → HasThree d log → MayFollow (last_time 0 log.entries) (plain 2 ∷ plain 2 ∷ [])
two_may_follow log d has = two_follow log.entries has.entries

-- what an append asks of its file
pub held_log : (m : MemoryFiles) (log : LogFile) (t : Told) → Holds (disk_of m) (codes "log") log → Some (told_of m) ≡ Some t
    → log_of (bytes_of (t.holds (codes "log"))) ≡ Ok (Some log)
held_log m log t holds told =
    let was : Some t ≡ Some holds.now = sym told ∙ holds.told in
    let same : t ≡ holds.now = cc in
    ap (λ (u : Told). log_of (bytes_of (u.holds (codes "log")))) same ∙ read_as (bytes_of (holds.now.holds (codes "log"))) (Some log) holds.loads

-- A number of a call that is to fail changes no file.
pub three_still : (before after : MemoryFiles) (number : ℕ) (log : LogFile) → HasThree (disk_of before) log
    → after ≡ calling (listed number before.calls) before → HasThree (disk_of after) log
three_still before after number log has is =
    subst (λ (m : MemoryFiles). HasThree (disk_of m) log) (sym is)
    (record {
      holds = record {
        now = told_of (calling (listed number before.calls) before);
        told = refl;
        is_log = has.holds.is_log;
        loads =
            let told : Some has.holds.now ≡ Some (told_of before) = sym has.holds.told in
            let e : has.holds.now ≡ told_of before = cc in
            ap (λ (t : Told). loading (bytes_of (t.holds (codes "log")))) (sym e) ∙ has.holds.loads;
      };
      entries = has.entries;
    })
