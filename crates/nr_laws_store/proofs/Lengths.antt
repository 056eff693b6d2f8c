-- How long the file of a log gets, now and at any moment of a plan.
use Rattle.std.proofs.Common.{◌≡◌, ℕ, ◌+◌, ◌-◌, ◌≤◌, Bool, true, false, List, [], ◌∷◌, ◌++◌, length, drop, Result, refl, ap, arith}
use Rattle.std.specs.Prelude.{nat_lt, unwrap_or}
use Rattle.std.proofs.lemmas.Bool.{ltb-false}
use Rattle.std.proofs.lemmas.List.{length-append, length-drop}
use Rattle.byteorder.specs.Endian.{big_bytes}
use Rattle.byteorder.specs.Numbers.{length-bytes_high_first}
use Rattle.nr_spec_plans.specs.Disk.{Disk}
use Rattle.nr_spec_plans.specs.Plans.{Ask, Done, Halt, Runs, followed_by, ◌>>=◌}
use Rattle.nr_spec_plans.specs.Laws.{Each}
use Rattle.nr_spec_plans.proofs.PlanLaws.{each_followed, step_keeps}
use Rattle.nr_spec_crash.specs.Images.{IsImage}
use Rattle.nr_spec_crash.specs.Crashes.{Crashes, IsWithin, Rests}
use Rattle.nr_spec_crash.specs.Firm.{firm}
use Rattle.nr_laws_crash.proofs.CrashLaws.{KeepsBy, run_keeps, sometime_kept}
use Rattle.nr_laws_crash.proofs.FirmLaws.{firm_keeps_within, within_kept, within_left}
use Rattle.nr_spec_log.specs.Authenticator.{digest_size}
use Rattle.nr_spec_log.specs.Chain.{LogEntry}
use Rattle.nr_spec_store.specs.LogFile.{LogFile, IsLog, batch, born, most_log, spelled, with_batch}
use Rattle.nr_spec_store.specs.StorePlans.{Refusal, Work, append_plan, birth_plan, close_plan, gate_plan, within_limit}
use Rattle.nr_laws_store.proofs.Grown.{born_length, grows}

-- Neither a read nor a crash gives more than a file may have.
abbrev pub IsSmall : List ℕ → Disk → Type 0
IsSmall name d = IsWithin name most_log d

pub rests_within : (name file : List ℕ) (most : ℕ) (d : Disk) → Rests d name file → length file ≤ most → IsWithin name most d
rests_within name file most d rests small =
    record { now = rests.now; told = rests.told; size = omega (arith, ap length rests.bytes, small); greatest = rw (rests.loose) small }

pub within_more : (name : List ℕ) (less most : ℕ) (d : Disk) → less ≤ most → IsWithin name less d → IsWithin name most d
within_more name less most d le within =
    record { now = within.now; told = within.told; size = omega (arith, le, within.size); greatest = omega (arith, le, within.greatest) }

-- A plan each of whose steps keeps that leaves nothing longer, to a crash and to a read.
pub crash_length : {A : Type 0} (name image : List ℕ) (p : Work A) (old : Disk) → Each (KeepsBy (IsSmall name)) p → IsSmall name old → Crashes p old name image → length image ≤ most_log
crash_length name image p old each small crash =
    let d = sometime_kept (IsSmall name) (λ m. IsImage m name image) p old each small crash in
    within_left d.0 name image most_log d.1 d.2

pub run_small : {A : Type 0} (name : List ℕ) (p : Work A) (old new : Disk) (result : Result A (Halt Refusal)) → Each (KeepsBy (IsSmall name)) p → IsSmall name old → Runs p old new result → IsSmall name new
run_small name p old new result each small runs = run_keeps (IsSmall name) p old new result each small runs

gate_each : (name : List ℕ) (end : ℕ) (body : List ℕ) → 1 ≤ end → end + length body ≤ most_log → Each (KeepsBy (IsSmall name)) (gate_plan name end body)
unfolding gate_plan
gate_each name end body gate small =
    each_followed (KeepsBy (IsSmall name)) (firm name end body) (λ put. firm name (end - 1) (1 ∷ [])) (firm_keeps_within Refusal name end body most_log small)
    (λ put. firm_keeps_within Refusal name (end - 1) (1 ∷ []) most_log (omega (arith, gate, small)))

limited_each : {B : Type 0} (name : List ℕ) (size : ℕ) (p : Work B) → (size ≤ most_log → Each (KeepsBy (IsSmall name)) p) → Each (KeepsBy (IsSmall name)) (within_limit size >>= (λ fits. p))
unfolding within_limit followed_by
limited_each name size p each = by_limit (nat_lt most_log size) refl
  where
    by_limit : (b : Bool) → nat_lt most_log size ≡ b → Each (KeepsBy (IsSmall name)) (within_limit size >>= (λ fits. p))
    by_limit true is = rw is tt
    by_limit false is = rw is (each (ltb-false _ _ is))

pub body_size : (log : LogFile) (es : List LogEntry) → IsLog log → length log.front + length (batch es ++ 0 ∷ []) ≡ length (with_batch log es).front
body_size log es is =
    omega (arith, (grows log es is).size, length-append (batch es) (0 ∷ []), length-append (big_bytes 4 (length (spelled es))) (spelled es), length-bytes_high_first 4 (length (spelled es)))

pub append_each : (name : List ℕ) (log : LogFile) (es : List LogEntry) → IsLog log → Each (KeepsBy (IsSmall name)) (append_plan name log es)
unfolding append_plan followed_by
append_each name log es is =
    let body = batch es ++ 0 ∷ [] in
    limited_each name (length (with_batch log es).front) _
    (λ small. each_followed (KeepsBy (IsSmall name)) (gate_plan name (length log.front) body) (λ opened. Done (with_batch log es))
    (gate_each name (length log.front) body (grows log es is).positive (omega (arith, body_size log es is, small))) (λ opened. tt))

close_each : (name : List ℕ) (size : ℕ) → Each (KeepsBy (IsSmall name)) (close_plan name size)
unfolding close_plan
close_each name size = by_size (nat_lt size 44) refl
  where
    by_size : (b : Bool) → nat_lt size 44 ≡ b → Each (KeepsBy (IsSmall name)) (close_plan name size)
    by_size true is = rw is (firm_keeps_within Refusal name 0 (0 ∷ []) most_log (omega arith))
    by_size false is = rw is tt

ask_small : (name : List ℕ) → KeepsBy (IsSmall name) (Ask name)
ask_small name old mid got small acts = within_kept name most_log old mid (step_keeps name (Ask name) old mid got tt acts) small

pub birth_each : (name : List ℕ) (asn : ℕ) (root : List ℕ) → length root ≡ digest_size → Each (KeepsBy (IsSmall name)) (birth_plan name asn root)
unfolding birth_plan followed_by
birth_each name asn root len =
    let log = born asn root in
    let body = drop 1 log.front in
    let size : length body ≤ 43 = omega (arith, length-drop 1 log.front, born_length asn root len) in (
      ask_small name,
      λ size_is. limited_each name (unwrap_or size_is 0) _
          (λ fits. each_followed (KeepsBy (IsSmall name)) (close_plan name (unwrap_or size_is 0)) (λ closed. gate_plan name 1 body >>= (λ opened. Done log)) (close_each name (unwrap_or size_is 0))
          (λ closed. each_followed (KeepsBy (IsSmall name)) (gate_plan name 1 body) (λ opened. Done log) (gate_each name 1 body (omega arith) (omega (arith, size))) (λ opened. tt))),
    )
