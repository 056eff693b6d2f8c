-- After the closing of a birth gate the file isn't empty.
use Rattle.std.proofs.Common.{◌≡◌, ℕ, ◌-◌, ◌^◌, ◌<◌, ◌≤◌, Bool, true, false, List, [], ◌∷◌, length, take, drop, Option, Some, Result, Ok, Err, refl, sym, ap, subst, ◌∙◌, arith}
use Rattle.std.proofs.lemmas.List.{append-nil, take_all, length-drop}
use Rattle.std.specs.Prelude.{unwrap_or, nat_lt}
use Rattle.std.proofs.lemmas.Bool.{ltb-false}
use Rattle.nr_spec_plans.specs.Disk.{Disk, Told, bytes_of, size_of}
use Rattle.nr_spec_plans.specs.Plans.{Acts, Done, Halt, Faulted, Runs, Ask, act, ◌>>=◌}
use Rattle.nr_spec_plans.proofs.PlanLemmas.{acted, done, known, ran, stopped, wanted}
use Rattle.nr_spec_plans.proofs.PlanLaws.{step_keeps}
use Rattle.nr_laws_crash.proofs.CrashLaws.{was_told, field_kept}
use Rattle.nr_laws_crash.proofs.FirmLaws.{room_after}
use Rattle.nr_spec_log.specs.Authenticator.{digest_size}
use Rattle.nr_spec_store.specs.LogFile.{LogFile, born, log_of, most_log}
use Rattle.nr_spec_store.specs.StorePlans.{Refusal, Work, birth_plan, close_plan, gate_plan, within_limit}
use Rattle.nr_laws_store.proofs.Grown.{born_length, born_reads}
use Rattle.nr_ports.specs.Views.{write_fault_of}
use Rattle.nr_ports.specs.declared.fault.WriteFault.{WriteFault}
use Rattle.nr_store.specs.Views.{unwritten_of, why_not_appended, wrote}
use Rattle.nr_store.proofs.Appended.{why_unwritten}
use Rattle.nr_store.proofs.Owned.{made, Made}
use Rattle.nr_laws_store.proofs.BirthLaws.{sized}

asked_size : (name : List ℕ) (size : Option ℕ) (old mid : Disk) (t : Told) → Acts (Ask name) old mid (Ok size) → mid.told ≡ Some t → unwrap_or size 0 ≡ size_of t name
asked_size name size old mid t acts told =
    let kept = step_keeps name (Ask name) old mid (Ok size) tt acts in
    let was = was_told (λ (t : Told). t.holds name) old.told mid.told t told kept.holds in
    let holds = field_kept (λ (t : Told). t.holds name) old.told mid.told was.0 t was.1 told kept.holds in
    ap (λ (s : Option ℕ). unwrap_or s 0) (acts.size was.0 was.1) ∙ sized (was.0.holds name) ∙ ap (λ (h : Option (List ℕ)). length (bytes_of h)) (sym holds)

run_done : (mid new : Disk) → Runs {E = Refusal} {A = Unit {0}} (Done tt) mid new (Ok tt) → new ≡ mid
unfolding Runs
run_done mid new (same, is) = same

close_some : (name : List ℕ) (size : Option ℕ) (old mid new : Disk) (b : Bool) → nat_lt (unwrap_or size 0) 44 ≡ b → Acts (Ask name) old mid (Ok size) → Runs (close_plan name (unwrap_or size 0)) mid new (Ok tt) → (t : Told) → new.told ≡ Some t → 1 ≤ size_of t name
unfolding close_plan
close_some name size old mid new true is acts runs t told = let r = rw is at runs in room_after Refusal name 0 (0 ∷ []) mid new (λ u was. omega arith) r t told
close_some name size old mid new false is acts runs t told =
    let r = rw is at runs in
    let same = run_done mid new r in
    let at = asked_size name size old mid t acts (ap (λ (d : Disk). d.told) (sym same) ∙ told) in
    omega (arith, ltb-false _ _ is, at)

pub closed_file : (name : List ℕ) (size : Option ℕ) (n : ℕ) (old mid new : Disk) → n ≡ unwrap_or size 0 → Acts (Ask name) old mid (Ok size) → Runs (close_plan name n) mid new (Ok tt) → (t : Told) → new.told ≡ Some t → 1 ≤ size_of t name
closed_file name size n old mid new is acts runs t told = close_some name size old mid new (nat_lt (unwrap_or size 0) 44) refl acts (subst (λ (k : ℕ). Runs (close_plan name k) mid new (Ok tt)) is runs) t told

-- ---- the runs of a birth

-- the slice that is written
pub piece_one : (items front : List ℕ) → items ≡ front → take (length items - 1) (drop 1 items) ≡ drop 1 front
piece_one items front is =
    let long : length (drop 1 items) ≤ length items - 1 = omega (arith, length-drop 1 items) in
    take_all (length items - 1) (drop 1 items) long ∙ ap (drop 1) is

module _ (name : List ℕ) (asn : ℕ) (root : List ℕ) (size : Option ℕ) (n : ℕ) (piece : List ℕ) (old mid last : Disk) (is : n ≡ unwrap_or size 0) (acts : Acts (Ask name) old mid (Ok size)) (fits : within_limit n ≡ Done tt) (closed : Runs (close_plan name n) mid last (Ok tt)) (piece_is : piece ≡ drop 1 (born asn root).front) where
  abbrev opening : Work LogFile
  opening = gate_plan name 1 (drop 1 (born asn root).front) >>= (λ opened. Done (born asn root))

  abbrev closing : ℕ → Work LogFile
  closing k = close_plan name k >>= (λ closed. opening)

  abbrev limited : ℕ → Work LogFile
  limited k = within_limit k >>= (λ fits. closing k)

  go_on : (new : Disk) (result : Result LogFile (Halt Refusal)) → Runs opening last new result → Runs (birth_plan name asn root) old new result
  unfolding birth_plan
  go_on new result runs =
      let shut : Runs (limited n) mid new result = known (within_limit n) (λ fits. closing n) mid new tt result fits (ran (close_plan name n) (λ closed. opening) mid last new tt result closed runs) in
      wanted (λ room. act (Ask name) >>= (λ s. limited (unwrap_or s 0))) old new result
      (acted (Ask name) (λ s. limited (unwrap_or s 0)) old mid new size result acts (subst (λ (k : ℕ). Runs (limited k) mid new result) is shut))

  gate_as : (new : Disk) (result : Result (Unit {0}) (Halt Refusal)) → Runs (gate_plan name 1 piece) last new result → Runs (gate_plan name 1 (drop 1 (born asn root).front)) last new result
  gate_as new result runs = subst (λ (b : List ℕ). Runs (gate_plan name 1 b) last new result) piece_is runs

  pub birth_stops : (new : Disk) (fault : WriteFault) → Runs (gate_plan name 1 piece) last new (wrote (Err fault)) → Runs (birth_plan name asn root) old new (Err (why_not_appended (unwritten_of fault)))
  birth_stops new fault runs =
      rw (why_unwritten fault) (go_on new (Err (Faulted (write_fault_of fault))) (stopped (gate_plan name 1 (drop 1 (born asn root).front)) (λ opened. Done (born asn root)) last new (Faulted (write_fault_of fault)) (gate_as new (Err (Faulted (write_fault_of fault))) runs)))

  pub birth_done : (new : Disk) (store : LogFile) → Runs (gate_plan name 1 piece) last new (Ok tt) → store ≡ born asn root → Runs (birth_plan name asn root) old new (Ok store)
  birth_done new store runs same =
      rw same (go_on new (Ok (born asn root)) (ran (gate_plan name 1 (drop 1 (born asn root).front)) (λ opened. Done (born asn root)) last new new tt (Ok (born asn root)) (gate_as new (Ok tt) runs) (done Refusal (born asn root) new)))

-- ---- the store that is born

pub born_made : (asn : ℕ) (root bytes : List ℕ) → asn < 2 ^ 32 → length root ≡ digest_size → bytes ≡ (born asn root).front → Made asn root bytes (born asn root)
born_made asn root bytes small len is =
    let reads : log_of (born asn root).front ≡ Ok (Some (born asn root)) = ap log_of (sym (append-nil (born asn root).front)) ∙ born_reads asn root [] small len in
    made asn root bytes (born asn root) refl refl is (ap log_of is ∙ reads)

pub born_size : (asn : ℕ) (root bytes : List ℕ) → length root ≡ digest_size → bytes ≡ (born asn root).front → length bytes ≤ most_log
born_size asn root bytes len is = omega (arith, ap length is, born_length asn root len)
