-- Crashes of an append.
use Rattle.std.proofs.Common.{◌≡◌, ℕ, ◌+◌, ◌-◌, ◌<◌, ◌≤◌, Bool, true, false, List, [], ◌∷◌, ◌++◌, length, Some, Result, Ok, Err, refl, sym, ap, subst, ◌∙◌, inl, inr, ◌⊎◌, ⊎_elim, arith}
use Rattle.std.specs.Prelude.{nat_lt}
use Rattle.std.proofs.lemmas.Bool.{ltb-true, ltb-false}
use Rattle.std.proofs.lemmas.List.{length-append}
use Rattle.nr_spec_plans.specs.Disk.{Disk, Moment, Told, ReadFault, Memory, Fault, bytes_of, size_of, written, TornWrite}
use Rattle.nr_spec_plans.specs.Plans.{Act, Acts, Answer, Write, Sync, Done, Refuse, Room, Halt, Refused, Faulted, Runs, followed_by, want, ◌>>=◌}
use Rattle.nr_spec_plans.proofs.PlanLaws.{taken_apart}
use Rattle.nr_spec_crash.specs.Images.{IsImage}
use Rattle.nr_spec_crash.specs.Crashes.{MayLeave, Sometime, Crashes, Rests, Now, IsSound}
use Rattle.nr_spec_crash.specs.Firm.{firm}
use Rattle.nr_laws_crash.proofs.CrashLaws.{crash_sequence, crash_after, done_crash}
use Rattle.nr_laws_crash.proofs.ImageLaws.{written_torn}
use Rattle.nr_laws_crash.proofs.FirmLaws.{some_told, firm_crash, firm_ok, firm_rests, rests_image, written_size}
use Rattle.nr_laws_crash.proofs.SoundLaws.{read_is_image}
use Rattle.nr_spec_log.specs.Chain.{LogEntry}
use Rattle.nr_spec_log.specs.Answer.{last_time}
use Rattle.nr_spec_store.specs.LogFile.{LogFile, IsLog, MayFollow, log_of, most_log, batch, with_batch}
use Rattle.nr_spec_store.specs.StorePlans.{Refusal, Limit, Work, within_limit, loading, gate_plan, append_plan}
use Rattle.nr_spec_store.specs.StoreCrashes.{IsBeforeOrAfter, Keeps, Holds}
use Rattle.nr_laws_store.proofs.LogLaws.{Follows, front_of, gated, more_log}
use Rattle.nr_laws_store.proofs.GateImages.{IsEither, torn_after, torn_gate}
use Rattle.nr_laws_store.proofs.Loads.{loads_as, read_as, small_as}
use Rattle.nr_laws_store.proofs.Lengths.{append_each, body_size, crash_length, rests_within}
use Rattle.nr_laws_store.proofs.Grown.{opened_after, appends, grows}

-- ---- a body, and the gate before it

-- what a crash may leave of the two writes: bytes where the front ends, and the gate at its end
abbrev pub AreImages : ℕ → List ℕ → List ℕ → List ℕ → Type 0
AreImages end body file image = TornWrite end (length body) file image ⊎ TornWrite (end - 1) 1 (written end body file) image

pub gate_crash : (name : List ℕ) (end : ℕ) (body file image : List ℕ) (old : Disk) → Rests old name file → 1 ≤ end → end ≤ length file → Crashes (gate_plan name end body) old name image → AreImages end body file image
unfolding gate_plan
gate_crash name end body file image old rests gate room crash =
    ⊎_elim (λ first. inl (firm_crash Refusal name end body file image old rests room first))
    (λ second. inr (firm_crash Refusal name (end - 1) (1 ∷ []) (written end body file) image second.1 (firm_ok Refusal name end body file old second.1 rests second.2) (omega (arith, room, (written_torn end body file room).no_shorter)) second.3))
    (crash_sequence (firm name end body) (λ put. firm name (end - 1) (1 ∷ [])) old (λ m. IsImage m name image) crash)

-- After Ok the file rests with the body and the open gate, whatever might have been left before.
pub gate_ok : (name : List ℕ) (end : ℕ) (body : List ℕ) (old new : Disk) (t : Told) → old.told ≡ Some t → Runs (gate_plan name end body) old new (Ok tt) → Rests new name (opened_after end body (bytes_of (t.holds name)))
unfolding gate_plan
gate_ok name end body old new t told runs =
    ⊎_elim
    (λ w.
    let put = firm_rests Refusal name end body old w.0 t told w.2 in
    subst (λ (f : List ℕ). Rests new name (written (end - 1) (1 ∷ []) f)) put.bytes (firm_rests Refusal name (end - 1) (1 ∷ []) w.0 new put.now put.told w.3))
    (λ w. absurd (let e = w.2 in cc))
    (taken_apart (firm name end body) (λ put. firm name (end - 1) (1 ∷ [])) old new (Ok tt) runs)

-- ---- the limit

limit_by : (size : ℕ) (old : Disk) (Q : Moment → Type 0) (b : Bool) → nat_lt most_log size ≡ b → Sometime (within_limit size) old Q → Now old Q
unfolding within_limit Sometime
limit_by size old Q true is crash = let left = rw is at crash in left
limit_by size old Q false is crash = let left = rw is at crash in left

pub limit_crash : (size : ℕ) (old : Disk) (Q : Moment → Type 0) → Sometime (within_limit size) old Q → Now old Q
limit_crash size old Q crash = limit_by size old Q (nat_lt most_log size) refl crash

ran_by : (size : ℕ) (old new : Disk) (x : Unit {0}) (b : Bool) → nat_lt most_log size ≡ b → Runs (within_limit size) old new (Ok x) → (new ≡ old) × (size ≤ most_log)
unfolding within_limit Runs
ran_by size old new x true is runs = let r = rw is at runs in absurd (let e = r.1 in cc)
ran_by size old new x false is runs = let r = rw is at runs in (r.0, ltb-false _ _ is)

pub limit_ok : (size : ℕ) (old new : Disk) (x : Unit {0}) → Runs (within_limit size) old new (Ok x) → (new ≡ old) × (size ≤ most_log)
limit_ok size old new x runs = ran_by size old new x (nat_lt most_log size) refl runs

stopped_by : (size : ℕ) (old new : Disk) (halt : Halt Refusal) (b : Bool) → nat_lt most_log size ≡ b → Runs (within_limit size) old new (Err halt) → (new ≡ old) × (halt ≡ Refused (Limit size)) × (most_log < size)
unfolding within_limit Runs
stopped_by size old new halt true is runs = let r = rw is at runs in (r.0, (let h : halt ≡ Refused (Limit size) = cc in h), ltb-true _ _ is)
stopped_by size old new halt false is runs = let r = rw is at runs in absurd (let e = r.1 in cc)

pub limit_stops : (size : ℕ) (old new : Disk) (halt : Halt Refusal) → Runs (within_limit size) old new (Err halt) → (new ≡ old) × (halt ≡ Refused (Limit size)) × (most_log < size)
limit_stops size old new halt runs = stopped_by size old new halt (nat_lt most_log size) refl runs

-- ---- an append

abbrev body_of : List LogEntry → List ℕ
body_of es = batch es ++ 0 ∷ []

-- what follows where the log with the batch is within the limit
abbrev fitted : (name : List ℕ) → LogFile → List LogEntry → Work LogFile
fitted name log es = want >>= (λ room. gate_plan name (length log.front) (body_of es) >>= (λ opened. Done (with_batch log es)))

abbrev spelled_first : (name : List ℕ) → LogFile → List LogEntry → Work LogFile
spelled_first name log es = within_limit (length (with_batch log es).front) >>= (λ fits. fitted name log es)

pub want_crash : {B : Type 0} (f : Unit {0} → Work B) (old : Disk) (Q : Moment → Type 0) → Sometime (want >>= f) old Q → Sometime (f tt) old Q
unfolding Sometime followed_by
want_crash f old Q crash = crash

pub want_ok : {B : Type 0} (f : Unit {0} → Work B) (old new : Disk) (value : B) → Runs (want >>= f) old new (Ok value) → Runs (f tt) old new (Ok value)
unfolding Runs followed_by
want_ok f old new value (inl (same, is)) = absurd cc
want_ok f old new value (inr runs) = runs

pub done_value : {B : Type 0} (v : B) (old new : Disk) (value : B) → Runs {E = Refusal} (Done v) old new (Ok value) → (new ≡ old) × (value ≡ v)
unfolding Runs
done_value v old new value (same, is) = (same, let e : value ≡ v = cc in e)

-- a batch that fits in the file has a length of four bytes
pub follows_within : (log : LogFile) (es : List LogEntry) → IsLog log → MayFollow (last_time 0 log.entries) es → length (with_batch log es).front ≤ most_log → Follows (last_time 0 log.entries) es
follows_within log es is more within = let g = grows log es is in record { fit = more.fit; some = more.some; size = omega (arith, g.size, within) }

images_of_append : (log : LogFile) (es : List LogEntry) (file image : List ℕ) → IsLog log → Follows (last_time 0 log.entries) es → log_of file ≡ Ok (Some log) → AreImages (length log.front) (body_of es) file image → IsEither log es image
images_of_append log es file image is more e (inl torn) = torn_after log es (length (body_of es)) file image is e torn
images_of_append log es file image is more e (inr torn) = torn_gate log es file image is more e torn

before : (log : LogFile) (es : List LogEntry) (file image : List ℕ) → log_of file ≡ Ok (Some log) → image ≡ file → IsEither log es image
before log es file image e same = inl (record { front = log.front; holds = ap log_of same ∙ e })

append_either : (name : List ℕ) (log : LogFile) (es : List LogEntry) (file image : List ℕ) (old : Disk) → Rests old name file → IsLog log → log_of file ≡ Ok (Some log) → MayFollow (last_time 0 log.entries) es
    → Crashes (append_plan name log es) old name image → IsEither log es image
unfolding append_plan
append_either name log es file image old rests is e more crash =
    let Q : Moment → Type 0 = λ m. IsImage m name image in
    let size = length (with_batch log es).front in
    ⊎_elim (λ first. before log es file image e (rests_image old name file image rests (limit_crash size old Q first)))
    (λ second.
    let fits = limit_ok size old second.1 second.0 second.2 in
    let rest = subst (λ (d : Disk). Sometime (fitted name log es) d Q) fits.0 second.3 in
    let gates = done_crash (gate_plan name (length log.front) (body_of es)) (with_batch log es) old Q (want_crash (λ room. gate_plan name (length log.front) (body_of es) >>= (λ opened. Done (with_batch log es))) old Q rest) in
    let f = front_of file log e in
    let room : length log.front ≤ length file = omega (arith, ap length f.parts, length-append log.front f.rest) in
    images_of_append log es file image is (follows_within log es is more fits.1) e (gate_crash name (length log.front) (body_of es) file image old rests (omega (arith, (gated log is).1.size_is)) room gates))
    (crash_sequence (within_limit size) (λ fits. fitted name log es) old Q (want_crash (λ room. spelled_first name log es) old Q crash))

-- within the limit it loads so
loads_either : (log : LogFile) (es : List LogEntry) (image : List ℕ) → length image ≤ most_log → IsEither log es image → IsBeforeOrAfter log es image
loads_either log es image small (inl before) = inl (record { front = before.front; loads = loads_as image _ small before.holds })
loads_either log es image small (inr after) = inr (loads_as image _ small after)

-- A crash at any moment of an append leaves what loads as the entries before it, or as those with the whole batch.
pub append_leaves : (name : List ℕ) (log : LogFile) (es : List LogEntry) (image : List ℕ) (old : Disk) → Keeps old name log → MayFollow (last_time 0 log.entries) es → Crashes (append_plan name log es) old name image → IsBeforeOrAfter log es image
append_leaves name log es image old keeps more crash =
    let small = rests_within name keeps.file most_log old keeps.rests (small_as keeps.file (Some log) keeps.loads) in
    loads_either log es image (crash_length name image (append_plan name log es) old (append_each name log es keeps.is_log) small crash)
    (append_either name log es keeps.file image old keeps.rests keeps.is_log (read_as keeps.file (Some log) keeps.loads) more crash)

-- ---- after Ok

-- how long what is written gets
pub opened_size : (end : ℕ) (body file : List ℕ) (most : ℕ) → 1 ≤ end → end + length body ≤ most → length file ≤ most → length (opened_after end body file) ≤ most
opened_size end body file most gate small size =
    omega (arith, gate, small, size, written_size end body file, written_size (end - 1) (1 ∷ []) (written end body file))

gate_then : (name : List ℕ) (log : LogFile) (es : List LogEntry) (value : LogFile) (old new : Disk) → Holds old name log → Follows (last_time 0 log.entries) es → length (with_batch log es).front ≤ most_log → (mid : Disk) (x : Unit {0})
    → Runs (gate_plan name (length log.front) (body_of es)) old mid (Ok x) → (new ≡ mid) × (value ≡ with_batch log es) → (value ≡ with_batch log es) × Keeps new name (with_batch log es)
gate_then name log es value old new holds follows small mid tt runs done =
    let file = bytes_of (holds.now.holds name) in
    let rests = gate_ok name (length log.front) (body_of es) old mid holds.now holds.told runs in
    let size = opened_size (length log.front) (body_of es) file most_log (omega (arith, (gated log holds.is_log).1.size_is)) (omega (arith, body_size log es holds.is_log, small)) (small_as file (Some log) holds.loads) in (
      done.1,
      record {
        file = opened_after (length log.front) (body_of es) file;
        rests = subst (λ (d : Disk). Rests d name (opened_after (length log.front) (body_of es) file)) (sym done.0) rests;
        is_log = more_log log es holds.is_log follows;
        loads = loads_as _ _ size (appends log es file holds.is_log follows (read_as file (Some log) holds.loads)).appended;
      },
    )

-- After Ok the file rests with the log that has the batch.
pub append_keeps : (name : List ℕ) (log : LogFile) (es : List LogEntry) (value : LogFile) (old new : Disk) → Holds old name log → MayFollow (last_time 0 log.entries) es → Runs (append_plan name log es) old new (Ok value)
    → (value ≡ with_batch log es) × Keeps new name (with_batch log es)
unfolding append_plan
append_keeps name log es value old new holds more runs =
    let size = length (with_batch log es).front in
    ⊎_elim
    (λ w.
    let fits = limit_ok size old w.0 w.1 w.2 in
    let rest = subst (λ (d : Disk). Runs (fitted name log es) d new (Ok value)) fits.0 w.3 in
    let gates = want_ok (λ room. gate_plan name (length log.front) (body_of es) >>= (λ opened. Done (with_batch log es))) old new value rest in
    let follows = follows_within log es holds.is_log more fits.1 in
    ⊎_elim (λ g. gate_then name log es value old new holds follows fits.1 g.0 g.1 g.2 (done_value (with_batch log es) g.0 new value g.3)) (λ g. absurd (let h = g.2 in cc))
    (taken_apart (gate_plan name (length log.front) (body_of es)) (λ opened. Done (with_batch log es)) old new (Ok value) gates))
    (λ w. absurd (let h = w.2 in cc))
    (taken_apart (within_limit size) (λ fits. fitted name log es) old new (Ok value) (want_ok (λ room. spelled_first name log es) old new value runs))

pub keeps_holds : (d : Disk) (name : List ℕ) (log : LogFile) → Keeps d name log → Holds d name log
keeps_holds d name log k = record { now = k.rests.now; told = k.rests.told; is_log = k.is_log; loads = ap loading k.rests.bytes ∙ k.loads }

-- However an append ended, a crash after it leaves the entries before it, or those with the whole batch.
pub stop_leaves : (name : List ℕ) (log : LogFile) (es : List LogEntry) (image : List ℕ) (old new : Disk) (result : Result LogFile (Halt Refusal)) → Keeps old name log → MayFollow (last_time 0 log.entries) es
    → Runs (append_plan name log es) old new result → MayLeave new name image → IsBeforeOrAfter log es image
stop_leaves name log es image old new result keeps more runs left =
    append_leaves name log es image old keeps more (crash_after (append_plan name log es) old new result (λ m. IsImage m name image) runs left)

-- and what a read gives is such an image
pub read_leaves : (name : List ℕ) (log : LogFile) (es : List LogEntry) (old new : Disk) (u : Told) (result : Result LogFile (Halt Refusal)) → Keeps old name log → MayFollow (last_time 0 log.entries) es
    → Runs (append_plan name log es) old new result → new.told ≡ Some u → IsBeforeOrAfter log es (bytes_of (u.holds name))
read_leaves name log es old new u result keeps more runs told =
    let r = keeps.rests in
    let size : size_of r.now name ≡ length keeps.file = ap length r.bytes in
    let sound : IsSound name old = record { now = r.now; told = r.told; least = rw (r.loose) (omega (arith, size)); greatest = rw (r.loose) (omega (arith, size)) } in
    let image = read_is_image name (append_plan name log es) old new result sound runs in
    let same : u ≡ image.0 = some_told new.told image.0 u image.1 told in
    subst (λ (v : Told). IsBeforeOrAfter log es (bytes_of (v.holds name))) (sym same) (stop_leaves name log es (bytes_of (image.0.holds name)) old new result keeps more runs image.2)

-- ---- causes

not_read : {A : Type 0} (result : Result A (Halt Refusal)) (fault : Fault) → result ≡ Err (Faulted fault) → (fault ≡ ReadFault → ⊥) → result ≡ Err (Faulted ReadFault) → ⊥
not_read result fault is never e = never (let h : Err (Faulted fault) ≡ Err (Faulted ReadFault) = sym is ∙ e in cc)

writes_fail : (name : List ℕ) (at : ℕ) (from : List ℕ) (old new : Disk) (fault : Fault) → Acts (Write name at from) old new (Err fault) → fault ≡ ReadFault → ⊥
writes_fail name at from old new fault acts is = acts.cause (ap (λ (f : Fault). Err f) is)

syncs_fail : (name : List ℕ) (old new : Disk) (fault : Fault) → Acts (Sync name) old new (Err fault) → fault ≡ ReadFault → ⊥
syncs_fail name old new fault acts is = acts.cause (ap (λ (f : Fault). Err f) is)

firm_writes : (name : List ℕ) (at : ℕ) (from : List ℕ) (old new : Disk) (result : Result (Unit {0}) (Halt Refusal)) → Runs (firm name at from) old new result → result ≡ Err (Faulted ReadFault) → ⊥
unfolding Runs followed_by firm
firm_writes name at from old new result (mid, Err fault, acts, (same, is)) = not_read result fault is (writes_fail name at from old mid fault acts)
firm_writes name at from old new result (mid, Ok x, acts, (last, Err fault, syncs, (same, is))) = not_read result fault is (syncs_fail name mid last fault syncs)
firm_writes name at from old new result (mid, Ok x, acts, (last, Ok y, syncs, (same, is))) = λ e. absurd (let h : Ok y ≡ Err (Faulted ReadFault) = sym is ∙ e in cc)

gate_writes : (name : List ℕ) (end : ℕ) (body : List ℕ) (old new : Disk) (result : Result (Unit {0}) (Halt Refusal)) → Runs (gate_plan name end body) old new result → result ≡ Err (Faulted ReadFault) → ⊥
unfolding gate_plan
gate_writes name end body old new result runs e =
    ⊎_elim (λ w. firm_writes name (end - 1) (1 ∷ []) w.0 new result w.3 e) (λ w. firm_writes name end body old new (Err w.0) w.1 (sym w.2 ∙ e)) (taken_apart (firm name end body) (λ put. firm name (end - 1) (1 ∷ [])) old new result runs)

done_writes : {B : Type 0} (v : B) (old new : Disk) (result : Result B (Halt Refusal)) → Runs (Done v) old new result → result ≡ Err (Faulted ReadFault) → ⊥
unfolding Runs
done_writes v old new result (same, is) e = absurd (let h : Ok v ≡ Err (Faulted ReadFault) = sym is ∙ e in cc)

want_writes : {B : Type 0} (f : Unit {0} → Work B) (old new : Disk) (result : Result B (Halt Refusal)) → Runs (want >>= f) old new result → (result ≡ Err (Faulted Memory)) ⊎ Runs (f tt) old new result
unfolding Runs followed_by
want_writes f old new result (inl (same, is)) = inl is
want_writes f old new result (inr runs) = inr runs

same_halt : {B : Type 0} (halt : Halt Refusal) (result : Result B (Halt Refusal)) → result ≡ Err halt → result ≡ Err (Faulted ReadFault) → halt ≡ Faulted ReadFault
same_halt halt result is e = let h : Err halt ≡ Err (Faulted ReadFault) = sym is ∙ e in cc

sized_writes : (name : List ℕ) (log : LogFile) (es : List LogEntry) (old new : Disk) (result : Result LogFile (Halt Refusal)) → Runs (spelled_first name log es) old new result → result ≡ Err (Faulted ReadFault) → ⊥
sized_writes name log es old new result runs e =
    let size = length (with_batch log es).front in
    let gate = gate_plan name (length log.front) (body_of es) in
    ⊎_elim
    (λ w.
    ⊎_elim (λ memory. absurd (let h : Err (Faulted Memory) ≡ Err (Faulted ReadFault) = sym memory ∙ e in cc))
    (λ gates.
    ⊎_elim (λ g. done_writes (with_batch log es) g.0 new result g.3 e) (λ g. gate_writes name (length log.front) (body_of es) w.0 new (Err g.0) g.1 (ap (λ (h : Halt Refusal). Err h) (same_halt g.0 result g.2 e)))
    (taken_apart gate (λ opened. Done (with_batch log es)) w.0 new result gates))
    (want_writes (λ room. gate >>= (λ opened. Done (with_batch log es))) w.0 new result w.3))
    (λ w. let stops = limit_stops size old new w.0 w.1 in absurd (let h : Err (Refused (Limit size)) ≡ Err (Faulted ReadFault) = ap (λ (h : Halt Refusal). Err h) (sym stops.1) ∙ sym w.2 ∙ e in cc))
    (taken_apart (within_limit size) (λ fits. fitted name log es) old new result runs)

-- An append never fails by a read.
pub append_writes : (name : List ℕ) (log : LogFile) (es : List LogEntry) (old new : Disk) (result : Result LogFile (Halt Refusal)) → Runs (append_plan name log es) old new result → result ≡ Err (Faulted ReadFault) → ⊥
unfolding append_plan
append_writes name log es old new result runs e =
    ⊎_elim (λ memory. absurd (let h : Err (Faulted Memory) ≡ Err (Faulted ReadFault) = sym memory ∙ e in cc)) (λ rest. sized_writes name log es old new result rest e) (want_writes (λ room. spelled_first name log es) old new result runs)

-- ---- refusals

-- The plan is never refused.
abbrev pub Never : {A : Type 0} → Work A → Type 0
Never (Done value) = Unit {0}
Never (Refuse refusal) = ⊥
Never (Room next) = Never next
Never (Act action next) = (answer : Answer action) → Never (next answer)

pub never_refused : {A : Type 0} (p : Work A) (old new : Disk) (r : Refusal) → Never p → Runs p old new (Err (Refused r)) → ⊥
unfolding Runs
never_refused (Done value) old new r never (same, is) = cc
never_refused (Refuse refusal) old new r never runs = never
never_refused (Room next) old new r never (inl (same, is)) = cc
never_refused (Room next) old new r never (inr runs) = never_refused next old new r never runs
never_refused (Act action next) old new r never (mid, Ok answer, acts, goes) = never_refused (next answer) mid new r (never answer) goes
never_refused (Act action next) old new r never (mid, Err fault, acts, (same, is)) = cc

pub never_followed : {A B : Type 0} (p : Work A) (f : A → Work B) → Never p → ((value : A) → Never (f value)) → Never (followed_by p f)
unfolding followed_by
never_followed (Done value) f never then = then value
never_followed (Refuse refusal) f never then = absurd never
never_followed (Room next) f never then = never_followed next f never then
never_followed (Act action next) f never then = λ answer. never_followed (next answer) f (never answer) then

pub firm_never : (name : List ℕ) (at : ℕ) (from : List ℕ) → Never (firm name at from)
unfolding firm followed_by
firm_never name at from = λ wrote. λ synced. tt

pub gate_never : (name : List ℕ) (end : ℕ) (body : List ℕ) → Never (gate_plan name end body)
unfolding gate_plan
gate_never name end body = never_followed (firm name end body) (λ put. firm name (end - 1) (1 ∷ [])) (firm_never name end body) (λ put. firm_never name (end - 1) (1 ∷ []))

-- what is refused of a plan that asks for the limit and is never refused after it
pub limit_refuses : {B : Type 0} (size : ℕ) (p : Work B) (old new : Disk) (r : Refusal) → Never p → Runs (within_limit size >>= (λ fits. p)) old new (Err (Refused r)) → (new ≡ old) × (r ≡ Limit size) × (most_log < size)
limit_refuses size p old new r never runs =
    ⊎_elim
    (λ w. absurd (never_refused p w.0 new r never w.3))
    (λ w.
    let stops = limit_stops size old new w.0 w.1 in
    let same : r ≡ Limit size = let e : Err (Refused r) ≡ Err (Refused (Limit size)) = w.2 ∙ ap (λ (h : Halt Refusal). Err h) stops.1 in cc in
    (stops.0, same, stops.2))
    (taken_apart (within_limit size) (λ fits. p) old new (Err (Refused r)) runs)

fitted_never : (name : List ℕ) (log : LogFile) (es : List LogEntry) → Never (fitted name log es)
unfolding followed_by
fitted_never name log es = never_followed (gate_plan name (length log.front) (body_of es)) (λ opened. Done (with_batch log es)) (gate_never name (length log.front) (body_of es)) (λ opened. tt)

-- An append is refused past the limit alone, and then changes nothing.
pub append_refused : (name : List ℕ) (log : LogFile) (es : List LogEntry) (old new : Disk) (r : Refusal) → Runs (append_plan name log es) old new (Err (Refused r))
    → (new ≡ old) × (r ≡ Limit (length (with_batch log es).front)) × (most_log < length (with_batch log es).front)
unfolding append_plan
append_refused name log es old new r runs =
    ⊎_elim
    (λ memory. absurd (let h : Err (Refused r) ≡ Err (Faulted Memory) = memory in cc))
    (λ rest. limit_refuses (length (with_batch log es).front) (fitted name log es) old new r (fitted_never name log es) rest)
    (want_writes (λ room. spelled_first name log es) old new (Err (Refused r)) runs)
