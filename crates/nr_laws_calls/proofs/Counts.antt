-- What a load leaves of all contents, and what an append leaves of the counts of reading.
use Rattle.std.proofs.Common.{◌≡◌, ◌≢◌, ℕ, true, false, List, Option, Some, Result, Ok, Err, refl, sym, ap, ◌∙◌, inl, inr, ◌⊎◌, ⊎_elim}
use Rattle.std.specs.Str.{bytes_eq}
use Rattle.std.proofs.lemmas.Bool.{cases_Bool}
use Rattle.std.proofs.lemmas.Slice.Eq.{bytes_eq-Decides}
use Rattle.nr_spec_plans.specs.Disk.{ChangesOnly, Disk, Fault, Leaves, Loose, Memory, ReadFault, Told, WriteFault, bytes_of, settled, ticking}
use Rattle.nr_spec_plans.specs.Plans.{Action, Ask, Halt, Read, Runs, Sync, Write}
use Rattle.nr_spec_plans.specs.Laws.{IsRead}
use Rattle.nr_spec_plans.proofs.PlanLaws.{step_unchanged}
use Rattle.nr_laws_crash.proofs.CrashLaws.{KeepsBy, field_kept, run_keeps, was_told}
use Rattle.nr_spec_log.specs.Chain.{LogEntry}
use Rattle.nr_spec_store.specs.LogFile.{LogFile}
use Rattle.nr_laws_calls.proofs.Steps.{append_each, load_each}
use Rattle.nr_spec_store.specs.StorePlans.{Refusal, append_plan, load_plan}

-- ---- contents

abbrev pub HoldsAs : Told → List ℕ → Disk → Type 0
HoldsAs t other d = (u : Told) × (d.told ≡ Some u) × (u.holds other ≡ t.holds other)

read_holds : (t : Told) (other : List ℕ) (action : Action) → IsRead action → KeepsBy (HoldsAs t other) action
read_holds t other action reads = λ old mid got held acts.
    let same = step_unchanged action old mid got reads acts in
    let u = was_told (λ (t : Told). t.holds) mid.told old.told held.0 held.1 (sym same.holds) in
    let holds = field_kept (λ (t : Told). t.holds) old.told mid.told held.0 u.0 held.1 u.1 same.holds in
    (u.0, u.1, ap (λ (h : List ℕ → Option (List ℕ)). h other) holds ∙ held.2)

which : (name other : List ℕ) → (other ≡ name) ⊎ (other ≢ name)
which name other = elim (cases_Bool (bytes_eq other name)) [
  | inl is ↦ inl ((bytes_eq-Decides other name).0 is)
  | inr is ↦ inr (λ same. let h : bytes_eq other name ≡ true = (bytes_eq-Decides other name).1 same in absurd (let e : true ≡ false = sym h ∙ is in cc))
]

synced_holds : (name other : List ℕ) (got : Result (Unit {0}) Fault) (v u : Told)
    → Leaves got (λ t u. ChangesOnly name (λ file. file ≡ t.holds name) (settled (bytes_of (t.holds name))) t u) (λ t u. u ≡ ticking 1 t) v u → u.holds other ≡ v.holds other
synced_holds name other (Ok x) v u c = ⊎_elim (λ (same : other ≡ name). ap u.holds same ∙ c.named ∙ ap v.holds (sym same)) (λ (ne : other ≢ name). c.others other ne) (which name other)
synced_holds name other (Err ReadFault) v u c = absurd c
synced_holds name other (Err WriteFault) v u same = ap (λ (t : Told). t.holds other) same
synced_holds name other (Err Memory) v u same = ap (λ (t : Told). t.holds other) same

sync_holds : (t : Told) (name other : List ℕ) → KeepsBy (HoldsAs t other) (Sync name)
sync_holds t name other = λ old mid got held acts.
    let u = acts.told held.0 held.1 in
    (u.0, u.1, synced_holds name other got held.0 u.0 u.2 ∙ held.2)

pub load_holds : (name other : List ℕ) (old new : Disk) (t : Told) (result : Result (Option LogFile) (Halt Refusal)) → old.told ≡ Some t → Runs (load_plan name) old new result → HoldsAs t other new
load_holds name other old new t result told runs =
    run_keeps (HoldsAs t other) (load_plan name) old new result
    (load_each (KeepsBy (HoldsAs t other)) name (read_holds t other (Ask name) tt) (sync_holds t name other) (λ size. read_holds t other (Read name size) tt)) (t, told, refl) runs

-- ---- counts

abbrev pub CountsAs : Told → Disk → Type 0
CountsAs t d = (u : Told) × (d.told ≡ Some u) × (u.asks ≡ t.asks) × (u.reads ≡ t.reads)

changed_counts : (name : List ℕ) (got : Result (Unit {0}) Fault) (P Q : Told → Option (List ℕ) → Type 0) (now then : Told → Loose) (v u : Told)
    → Leaves got (λ t u. ChangesOnly name (P t) (now t) t u) (λ t u. ChangesOnly name (Q t) (then t) t u) v u → (u.asks ≡ v.asks) × (u.reads ≡ v.reads)
changed_counts name (Ok x) P Q now then v u c = (c.asks, c.reads)
changed_counts name (Err ReadFault) P Q now then v u c = absurd c
changed_counts name (Err WriteFault) P Q now then v u c = (c.asks, c.reads)
changed_counts name (Err Memory) P Q now then v u same = (ap (λ (t : Told). t.asks) same, ap (λ (t : Told). t.reads) same)

synced_counts : (name : List ℕ) (got : Result (Unit {0}) Fault) (v u : Told)
    → Leaves got (λ t u. ChangesOnly name (λ file. file ≡ t.holds name) (settled (bytes_of (t.holds name))) t u) (λ t u. u ≡ ticking 1 t) v u → (u.asks ≡ v.asks) × (u.reads ≡ v.reads)
synced_counts name (Ok x) v u c = (c.asks, c.reads)
synced_counts name (Err ReadFault) v u c = absurd c
synced_counts name (Err WriteFault) v u same = (ap (λ (t : Told). t.asks) same, ap (λ (t : Told). t.reads) same)
synced_counts name (Err Memory) v u same = (ap (λ (t : Told). t.asks) same, ap (λ (t : Told). t.reads) same)

write_counts : (t : Told) (name : List ℕ) (at : ℕ) (bytes : List ℕ) → KeepsBy (CountsAs t) (Write name at bytes)
write_counts t name at bytes = λ old mid got held acts.
    let u = acts.told held.0 held.1 in
    let c = changed_counts name got _ _ _ _ held.0 u.0 u.2 in
    (u.0, u.1, c.0 ∙ held.2, c.1 ∙ held.3)

sync_counts : (t : Told) (name : List ℕ) → KeepsBy (CountsAs t) (Sync name)
sync_counts t name = λ old mid got held acts.
    let u = acts.told held.0 held.1 in
    let c = synced_counts name got held.0 u.0 u.2 in
    (u.0, u.1, c.0 ∙ held.2, c.1 ∙ held.3)

pub append_counts : (name : List ℕ) (log : LogFile) (es : List LogEntry) (old new : Disk) (t : Told) (result : Result LogFile (Halt Refusal)) → old.told ≡ Some t → Runs (append_plan name log es) old new result → CountsAs t new
append_counts name log es old new t result told runs =
    run_keeps (CountsAs t) (append_plan name log es) old new result
    (append_each (KeepsBy (CountsAs t)) name log es (write_counts t name) (sync_counts t name)) (t, told, refl, refl) runs
