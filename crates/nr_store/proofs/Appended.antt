-- What an append makes of a store, by how far it came.
use Rattle.std.proofs.Common.{◌≡◌, ℕ, ◌+◌, ◌-◌, ◌≤◌, List, [], ◌∷◌, ◌++◌, length, set, take, drop, Some, Result, Ok, Err, refl, sym, ap, subst, ◌∙◌, arith}
use Rattle.std.proofs.lemmas.List.{take_all, drop_at, length-append, length-drop}
use Rattle.nr_spec_plans.specs.Disk.{Disk}
use Rattle.nr_spec_plans.specs.Plans.{Halt, Faulted, Runs}
use Rattle.nr_spec_wire.specs.Reading.{IsBytes}
use Rattle.nr_spec_log.specs.Chain.{LogEntry}
use Rattle.nr_spec_log.specs.Answer.{last_time}
use Rattle.nr_spec_store.specs.LogFile.{LogFile, IsLog, MayFollow, batch, log_of, most_log, spelled, with_batch}
use Rattle.nr_spec_store.specs.StorePlans.{Refusal, append_plan, gate_plan}
use Rattle.nr_laws_store.proofs.LogLaws.{front_of}
use Rattle.nr_laws_store.proofs.GateLaws.{follows_within}
use Rattle.nr_laws_store.proofs.Grown.{grows, same_asn, same_root, stands}
use Rattle.nr_ports.specs.Views.{write_fault_of}
use Rattle.nr_ports.specs.declared.fault.WriteFault.{WriteFault}
use Rattle.nr_ports.specs.declared.fault.WriteFault.TheVariants as write
use Rattle.nr_store.specs.declared.fault.AppendError.{AppendError}
use Rattle.nr_store.specs.declared.fault.AppendError.TheVariants as append
use Rattle.nr_store.specs.Views.{Extends, unwritten_of, why_not_appended, wrote}
use Rattle.nr_store.specs.Walks.{entries_in}
use Rattle.nr_store.proofs.Owned.{own, made, Made}
use Rattle.nr_store.proofs.Runs.{finds_none, past_limit, gate_stops, gate_opens}

-- a store's log, and where its front ends
pub record End (log : LogFile) (bytes : List ℕ) (end : ℕ) : Type 0 where
  pub is_log : IsLog log
  pub front : bytes ≡ log.front
  pub end_is : end ≡ length log.front
  pub positive : 1 ≤ end

pub end_at : (asn : ℕ) (root bytes mid now : List ℕ) (log : LogFile) → IsBytes mid → now ≡ mid → mid ≡ bytes → log_of bytes ≡ Ok (Some (record { asn = asn; root = root; entries = entries_in (log_of bytes); front = bytes }))
    → record { asn = asn; root = root; entries = entries_in (log_of bytes); front = bytes } ≡ log → End log bytes (length now)
end_at asn root bytes mid now log fits same value reads view =
    let o = own asn root bytes (entries_in (log_of bytes)) log (subst IsBytes value fits) reads view in
    let at : length now ≡ length log.front = ap length (same ∙ value ∙ o.front) in
    record { is_log = o.is_log; front = o.front; end_is = at; positive = omega (arith, at, (grows log [] o.is_log).positive) }

-- the size of the log with a batch
pub size_is : (log : LogFile) (es : List LogEntry) (bytes : List ℕ) (end : ℕ) → End log bytes end → length bytes + length (spelled es) + 5 ≡ length (with_batch log es).front
size_is log es bytes end e = omega (arith, ap length e.front, (grows log es e.is_log).size)

pub room_in : (file : List ℕ) (log : LogFile) (bytes : List ℕ) (end : ℕ) → End log bytes end → log_of file ≡ Ok (Some log) → end ≤ length file
room_in file log bytes end e reads = let f = front_of file log reads in omega (arith, e.end_is, ap length f.parts, length-append log.front f.rest)

-- ---- stops

pub extend_stops : (name : List ℕ) (log : LogFile) (es : List LogEntry) (old : Disk) (size : ℕ) (e : AppendError) → size ≡ length (with_batch log es).front → Extends size (Err e) → Runs (append_plan name log es) old old (Err (why_not_appended e))
extend_stops name log es old size (append.Limit found) is (same, past) = past_limit name log es old found (same ∙ is) (omega (arith, same, past))
extend_stops name log es old size append.Memory is ends = finds_none name log es old
extend_stops name log es old size append.Read is ends = absurd ends
extend_stops name log es old size append.Write is ends = absurd ends

pub why_unwritten : (fault : WriteFault) → why_not_appended (unwritten_of fault) ≡ Faulted (write_fault_of fault)
why_unwritten write.Failed = refl
why_unwritten write.Memory = refl

-- the slice that is written
piece_is : (items bytes body now : List ℕ) → items ≡ bytes ++ body → length now ≡ length bytes → take (length items - length now) (drop (length now) items) ≡ body
piece_is items bytes body now grown same =
    let rest : drop (length now) items ≡ body = ap (λ (t : List ℕ). drop (length now) t) grown ∙ drop_at bytes body (length now) (sym same) in
    let long : length (drop (length now) items) ≤ length items - length now = omega (arith, length-drop (length now) items) in
    take_all (length items - length now) (drop (length now) items) long ∙ rest

gate_as : (name : List ℕ) (end front : ℕ) (piece body : List ℕ) (old new : Disk) (result : Result (Unit {0}) (Halt Refusal)) → end ≡ front → piece ≡ body → Runs (gate_plan name end piece) old new result → Runs (gate_plan name front body) old new result
gate_as name end front piece body old new result at is runs = subst (λ (b : List ℕ). Runs (gate_plan name front b) old new result) is (subst (λ (k : ℕ). Runs (gate_plan name k piece) old new result) at runs)

module _ (name : List ℕ) (log : LogFile) (es : List LogEntry) (bytes now items : List ℕ) (old : Disk) (e : End log bytes (length now)) (grown : items ≡ bytes ++ (batch es ++ 0 ∷ [])) (ends : length bytes + length (spelled es) + 5 ≤ most_log) where
  within : length (with_batch log es).front ≤ most_log
  within = omega (arith, size_is log es bytes (length now) e, ends)

  same_end : length now ≡ length bytes
  same_end = e.end_is ∙ ap length (sym e.front)

  pub gate_runs : (new : Disk) (result : Result (Unit {0}) (Halt Refusal)) → Runs (gate_plan name (length now) (take (length items - length now) (drop (length now) items))) old new result → Runs (gate_plan name (length log.front) (batch es ++ 0 ∷ [])) old new result
  gate_runs new result runs = gate_as name (length now) (length log.front) _ (batch es ++ 0 ∷ []) old new result e.end_is (piece_is items bytes (batch es ++ 0 ∷ []) now grown same_end) runs

  pub write_stops : (new : Disk) (fault : WriteFault) → Runs (gate_plan name (length now) (take (length items - length now) (drop (length now) items))) old new (wrote (Err fault)) → Runs (append_plan name log es) old new (Err (why_not_appended (unwritten_of fault)))
  write_stops new fault runs = rw (why_unwritten fault) (gate_stops name log es old new (Faulted (write_fault_of fault)) within (gate_runs new (Err (Faulted (write_fault_of fault))) runs))

  -- ---- the store that is left

  pub left_front : set items (length now - 1) 1 ≡ (with_batch log es).front
  left_front =
      ap (λ (t : List ℕ). set t (length now - 1) 1) (grown ∙ ap (λ (t : List ℕ). t ++ (batch es ++ 0 ∷ [])) e.front)
      ∙ ap (λ (k : ℕ). set (log.front ++ (batch es ++ 0 ∷ [])) (k - 1) 1) e.end_is ∙ (grows log es e.is_log).grown

  pub left_size : length (set items (length now - 1) 1) ≤ most_log
  left_size = omega (arith, ap length left_front, within)

  pub left_made : (asn : ℕ) (root : List ℕ) → asn ≡ log.asn → root ≡ log.root → MayFollow (last_time 0 log.entries) es → Made asn root (set items (length now - 1) 1) (with_batch log es)
  left_made asn root a r more =
      made asn root (set items (length now - 1) 1) (with_batch log es) (a ∙ sym (same_asn log es)) (r ∙ sym (same_root log es)) left_front
      (ap log_of left_front ∙ stands log es e.is_log (follows_within log es e.is_log more within))

  pub append_done : (new : Disk) (store : LogFile) → Runs (gate_plan name (length now) (take (length items - length now) (drop (length now) items))) old new (Ok tt) → store ≡ with_batch log es → Runs (append_plan name log es) old new (Ok store)
  append_done new store runs is = rw is (gate_opens name log es old new within (gate_runs new (Ok tt) runs))
