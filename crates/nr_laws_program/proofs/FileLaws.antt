-- What a run leaves of the files, and what the files make of its ending.
use Rattle.std.proofs.Common.{◌≡◌, ◌≢◌, ℕ, ◌≤◌, length, List, [], ◌∷◌, ◌++◌, Option, Some, None, Result, Ok, Err, refl, sym, ap, subst, ◌∙◌, inl, inr, ◌⊎◌, ⊎_elim, arith}
use Rattle.std.specs.Prelude.{nat_lt, option_map}
use Rattle.std.proofs.lemmas.Bool.{cases_Bool}
use Rattle.nr_spec_log.specs.Authenticator.{auths_of}
use Rattle.nr_spec_slices.specs.Reading.{slice_of}
use Rattle.nr_spec_evidence.specs.Evidence.{EvidenceFile, evidence_file, most_evidence}
use Rattle.nr_spec_saving.specs.Saving.{TooLong, evidence_parts, save_evidence, save_parts}
use Rattle.nr_spec_plans.specs.Disk as disk
use Rattle.nr_spec_plans.specs.Plans.{Done, Room, Halt, want, Refused, Faulted, Runs, followed_by, ◌>>=◌, save, Action, Ask, Read, Cut, Write, Sync, Plan}
use Rattle.nr_spec_plans.specs.Laws.{Each, IsRead, Unchanged, CountsOne, fault_in, outcome, Spares, Kept, Saved, Gives, IsAmong, IsLeftBy, reads_after, writes_after}
use Rattle.nr_spec_plans.specs.Steps.{DoneBy, OnlyBy}
use Rattle.nr_spec_plans.proofs.StepLaws.{done_by, done_only, each_as}
use Rattle.nr_spec_plans.proofs.PlanLaws.{writes_nothing, counts_one, ends_so, taken_apart, saved, gives_outcome, spares_others}
use Rattle.nr_spec_plans.proofs.SaveLaws.{save_leaves, reads_alone}
use Rattle.nr_spec_history.specs.KeyFiles.{Key, key_file}
use Rattle.nr_spec_commands.specs.Words.{named, AuditRequest, CollectRequest, KeygenRequest, Request, Answer, Audit, Check, Collect, Keygen, Record, Verify, request_in}
use Rattle.nr_spec_program.specs.Command.{AnswerInput, well_formed, judged, audit_plan, evidence_plan, long_evidence, Work, Ending, Refusal, refusal_ending, fault_ending, key_plan, keygen_plan, key_ending}
use Rattle.nr_spec_program.specs.Collecting.{collect_plan, frames_plan}
use Rattle.nr_spec_program.specs.Table.{plan_of, plan_in, plan_for}
use Rattle.nr_spec_program.specs.Running.{RunsTo, Concludes, Answers}
use Rattle.nr_spec_program.specs.Causes.{Answered, EndOf, EndsAs, EndsBy, IsReadOrSync, LeavesContents, LeavesFiles, NoneRose, NotMetLate, OnlyTheSinkFails, SavesKey, Touches, WroteNothing, ended, log_in, log_names, read_in, read_names, written_in, written_names}
use Rattle.nr_laws_program.proofs.Names.{among_either, among_first, among_last}
use Rattle.nr_laws_program.proofs.Phases.{IsWriting, phased_refusing, phased_then, phased_writing, IsLooking, IsPhased, SparesContents, WroteBy, looked_or_wrote, none_refuses, only_holds, only_unchanged, only_writes, phased_after, phased_each, phased_gives, spares_contents}
use Rattle.nr_laws_program.proofs.LogKinds.{KindLoads}
use Rattle.nr_laws_program.proofs.PlanKinds.{KindReads, audit_each, check_each, collect_each, concluded_each, ends_low, frames_each, neither, key_each, keygen_each, load_each, parts_each, parts_refuse, promise_each, verify_each, well_formed_each, refusal_status, request_ends}
use Rattle.nr_laws_program.proofs.RecordPlans.{IsLate, answer_each, answer_phased, record_each, record_phased}
use Rattle.nr_laws_program.proofs.StatusLaws.{ending_says, sink_alone, still_writes, answered_so, own_status}

-- ---- kinds of steps

key_is_read : (q : KeygenRequest) → Each IsRead (key_plan q)
key_is_read q = key_each IsRead q (record { ask = tt; read = λ size. tt })

abbrev TouchesOf : Request → Action → Type 0
TouchesOf request = Touches (read_names request) (log_names request) (written_names request)

touches : (request : Request) (name : List ℕ) → IsAmong name (read_names request) → KindReads (TouchesOf request) name
touches request name is = record { ask = is; read = λ size. is }

named_has : (given : Option (List ℕ)) (n : List ℕ) → given ≡ Some n → IsAmong n (named given)
named_has None n is = absurd cc
named_has (Some m) n is = inl (let e : n ≡ m = cc in e)

pub touches_named : (request : Request) → Each (TouchesOf request) (plan_of request)
touches_named (Audit q) = audit_each (TouchesOf (Audit q)) q (touches (Audit q) q.promise (inl refl)) (touches (Audit q) q.answer (inr (inl refl))) (touches (Audit q) q.auths (inr (inr (inl refl))))
    (λ n is. record { cut = named_has q.evidence n is; write = λ at bytes. named_has q.evidence n is; sync = named_has q.evidence n is })
touches_named (Keygen q) = keygen_each (TouchesOf (Keygen q)) q (touches (Keygen q) q.seed (inl refl)) (inl refl) (λ bytes. inl refl) (inl refl)
touches_named (Check q) = check_each (TouchesOf (Check q)) q (touches (Check q) q.promise (inl refl))
touches_named (Record q) =
    record_each (TouchesOf (Record q)) q (touches (Record q) q.promise (inl refl)) (touches (Record q) q.key (inr (inl refl)))
    (λ name is. touches (Record q) name (inr (inr (among_first name q.files (q.log ∷ []) is))))
    (record { ask = inr (inr (among_last q.log q.files)); sync = inl refl; read = λ size. inr (inr (among_last q.log q.files)) })
    (record { write = λ at bytes. inl refl; sync = inl refl })
touches_named (Verify q) = verify_each (TouchesOf (Verify q)) q (touches (Verify q) q.evidence (inl refl))
touches_named (Collect q) = collect_each (TouchesOf (Collect q)) q (touches (Collect q) q.frames (inl refl)) (inl refl) (λ bytes. inl refl) (inl refl)
touches_named (Answer q) =
    answer_each (TouchesOf (Answer q)) q (touches (Answer q) q.key (inl refl))
    (record { ask = inr (inl refl); sync = inl refl; read = λ size. inr (inl refl) })
    (record { cut = inl refl; write = λ bytes. inl refl; sync = inr (inl refl) })

-- what the words name
abbrev TouchesIn : Option Request → Action → Type 0
TouchesIn request = Touches (read_in request) (log_in request) (written_in request)

touches_in : (request : Option Request) → Each (TouchesIn request) (plan_in request)
touches_in None = tt
touches_in (Some request) = touches_named request

-- where no name is to be written or synced, each step reads
touches_reads : (read : List (List ℕ)) (action : Action) → Touches read [] [] action → IsRead action
touches_reads read (Ask name) is = tt
touches_reads read (Read name size) is = tt
touches_reads read (Cut name len) is = is
touches_reads read (Write name at bytes) is = is
touches_reads read (Sync name) is = is

reads_in : (request : Option Request) → written_in request ≡ [] → log_in request ≡ [] → Each IsRead (plan_in request)
reads_in request none unsynced =
    each_as (Touches (read_in request) [] []) IsRead (touches_reads (read_in request)) (plan_in request)
    (subst (λ (synced : List (List ℕ)). Each (Touches (read_in request) synced []) (plan_in request)) unsynced
    (subst (λ (written : List (List ℕ)). Each (Touches (read_in request) (log_in request) written) (plan_in request)) none (touches_in request)))

-- a name that isn't to be written or synced is spared
touches_spares : (read synced written : List (List ℕ)) (other : List ℕ) → (IsAmong other synced → ⊥) → (IsAmong other written → ⊥) → (action : Action) → Touches read synced written action → Spares other action
touches_spares read synced written other unsynced spared (Ask name) is = tt
touches_spares read synced written other unsynced spared (Read name size) is = tt
touches_spares read synced written other unsynced spared (Cut name len) is = λ same. spared (subst (λ (n : List ℕ). IsAmong n written) (sym same) is)
touches_spares read synced written other unsynced spared (Write name at bytes) is = λ same. spared (subst (λ (n : List ℕ). IsAmong n written) (sym same) is)
touches_spares read synced written other unsynced spared (Sync name) is = λ same. ⊎_elim (λ w. unsynced w) (λ w. spared w) (among_either other synced written (subst (λ (n : List ℕ). IsAmong n (synced ++ written)) (sym same) is))

spares_in : (request : Option Request) (other : List ℕ) → (IsAmong other (log_in request) → ⊥) → (IsAmong other (written_in request) → ⊥) → Each (Spares other) (plan_in request)
spares_in request other unsynced spared =
    each_as (TouchesIn request) (Spares other) (touches_spares (read_in request) (log_in request) (written_in request) other unsynced spared) (plan_in request) (touches_in request)

-- the contents of a name that isn't to be written are spared
touches_contents : (read synced written : List (List ℕ)) (other : List ℕ) → (IsAmong other written → ⊥) → (action : Action) → Touches read synced written action → SparesContents other action
touches_contents read synced written other spared (Ask name) is = tt
touches_contents read synced written other spared (Read name size) is = tt
touches_contents read synced written other spared (Cut name len) is = λ same. spared (subst (λ (n : List ℕ). IsAmong n written) (sym same) is)
touches_contents read synced written other spared (Write name at bytes) is = λ same. spared (subst (λ (n : List ℕ). IsAmong n written) (sym same) is)
touches_contents read synced written other spared (Sync name) is = tt

contents_in : (request : Option Request) (other : List ℕ) → (IsAmong other (written_in request) → ⊥) → Each (SparesContents other) (plan_in request)
contents_in request other spared =
    each_as (TouchesIn request) (SparesContents other) (touches_contents (read_in request) (log_in request) (written_in request) other spared) (plan_in request) (touches_in request)

-- ---- first what looks, then what writes

abbrev LooksIn : Request → Action → Type 0
LooksIn request = IsReadOrSync (log_names request)

pub looks : (synced : List (List ℕ)) (name : List ℕ) → KindReads (IsReadOrSync synced) name
looks synced name = record { ask = tt; read = λ size. tt }

pub loads_log : (name : List ℕ) → KindLoads (IsReadOrSync (name ∷ [])) name
loads_log name = record { ask = tt; sync = inl refl; read = λ size. tt }

-- after a key is there, no refusal comes
key_phased : (kind : Action → Type 0) (late : Refusal → Type 0) (q : KeygenRequest) → KindReads kind q.seed → IsPhased kind late (plan_of (Keygen q))
unfolding plan_of keygen_plan save followed_by
key_phased kind late q seed = phased_after kind late (key_plan q) _ (key_each kind q seed) (λ key. inr (tt, λ a. ((tt, λ b. (tt, λ c. tt)), λ b c. tt)))

-- after the frames are there, no refusal comes
collect_phased : (kind : Action → Type 0) (late : Refusal → Type 0) (q : CollectRequest) → KindReads kind q.frames → IsPhased kind late (plan_of (Collect q))
unfolding plan_of collect_plan save followed_by
collect_phased kind late q frames = phased_after kind late (frames_plan q) _ (frames_each kind q frames) (λ found. inr (tt, λ a. ((tt, λ b. (tt, λ c. tt)), λ b c. tt)))

saved_phased : (kind : Action → Type 0) (late : TooLong → Type 0) (name : List ℕ) (e : EvidenceFile) → IsPhased kind late (save_evidence name e)
unfolding save_evidence
saved_phased kind late name e =
    elim (cases_Bool (nat_lt most_evidence (length (evidence_file e)))) [
      | inl by ↦ rw by tt
      | inr by ↦ rw by (phased_writing kind late (save_parts name (evidence_parts e)) (parts_each TooLong IsWriting name (record { cut = tt; write = λ at bytes. tt; sync = tt }) e)
          (none_refuses late (save_parts name (evidence_parts e)) (parts_refuse TooLong name (evidence_parts e))))
    ]

-- evidence that is too long is refused before anything is written
evidence_phased : (kind : Action → Type 0) (late : Refusal → Type 0) (name : Option (List ℕ)) (e : EvidenceFile) → IsPhased kind late (evidence_plan name e)
unfolding evidence_plan
evidence_phased kind late None e = tt
evidence_phased kind late (Some n) e = phased_refusing kind late long_evidence (save_evidence n e) (saved_phased kind (λ refusal. late (long_evidence refusal)) n e)

audit_phased : (kind : Action → Type 0) (late : Refusal → Type 0) (q : AuditRequest) → KindReads kind q.promise → KindReads kind q.answer → KindReads kind q.auths → IsPhased kind late (plan_of (Audit q))
unfolding plan_of audit_plan
audit_phased kind late q promise answer auths =
    phased_after kind late _ _ (promise_each kind q.promise promise) (λ promise.
    phased_after kind late _ _ (load_each kind _ q.answer answer) (λ answer_bytes.
    phased_after kind late (Room (well_formed AnswerInput (slice_of answer_bytes))) _ (well_formed_each kind _ (slice_of answer_bytes)) (λ answer.
    phased_after kind late _ _ (load_each kind _ q.auths auths) (λ auths_bytes.
    phased_after kind late _ _ (well_formed_each kind _ (auths_of auths_bytes)) (λ auths.
    phased_after kind late (Room (judged q.root promise answer q.period auths)) _ (concluded_each kind _) (λ report.
    phased_after kind late want _ tt (λ room.
    phased_then kind late (evidence_plan q.evidence _) _ (evidence_phased kind late q.evidence _) (λ saved. tt) (λ saved. tt))))))))

pub phased_request : (request : Request) → IsPhased (LooksIn request) IsLate (plan_of request)
phased_request (Audit q) = audit_phased (LooksIn (Audit q)) IsLate q (looks [] q.promise) (looks [] q.answer) (looks [] q.auths)
phased_request (Keygen q) = key_phased (LooksIn (Keygen q)) IsLate q (looks [] q.seed)
phased_request (Check q) = phased_each (LooksIn (Check q)) IsLate (plan_of (Check q)) (check_each (LooksIn (Check q)) q (looks [] q.promise))
phased_request (Verify q) = phased_each (LooksIn (Verify q)) IsLate (plan_of (Verify q)) (verify_each (LooksIn (Verify q)) q (looks [] q.evidence))
phased_request (Collect q) = collect_phased (LooksIn (Collect q)) IsLate q (looks [] q.frames)
phased_request (Record q) = record_phased (LooksIn (Record q)) q (looks (q.log ∷ []) q.promise) (looks (q.log ∷ []) q.key) (λ name is. looks (q.log ∷ []) name) (loads_log q.log)
phased_request (Answer q) = answer_phased (LooksIn (Answer q)) q (looks (q.log ∷ []) q.key) (loads_log q.log)

pub reads_or_syncs : (synced : List (List ℕ)) (action : Action) → IsReadOrSync synced action → IsLooking action
reads_or_syncs synced (Ask name) is = tt
reads_or_syncs synced (Read name size) is = tt
reads_or_syncs synced (Cut name len) is = is
reads_or_syncs synced (Write name at bytes) is = is
reads_or_syncs synced (Sync name) is = tt

-- ---- what the words ask for

pub runs_for : (words : List (List ℕ)) (request : Request) (old new : disk.Disk) (result : Result Ending (Halt Refusal)) → request_in words ≡ Some request → Runs (plan_for words) old new result → Runs (Room (plan_of request)) old new result
runs_for words request old new result is runs = subst (λ (r : Option Request). Runs (Room (plan_in r)) old new result) is runs

unchanged_by : (old mid new : disk.Disk) → new ≡ mid → Unchanged old.told mid.told → Unchanged old.told new.told
unchanged_by old mid new is u = subst (λ (d : disk.Disk). Unchanged old.told d.told) (sym is) u

nothing_changed : (d : disk.Disk) → Unchanged d.told d.told
nothing_changed d = record { holds = refl; loose = refl; past = refl }

-- ---- commands that write nothing

not_write : (result : Result Ending (Halt Refusal)) → result ≢ Err (Faulted disk.WriteFault) → fault_in result ≢ Err disk.WriteFault
not_write (Ok ending) ne is = absurd cc
not_write (Err (Refused refusal)) ne is = absurd cc
not_write (Err (Faulted fault)) ne is = let e : fault ≡ disk.WriteFault = cc in ne (ap (λ f. Err (Faulted f)) e)

reading_alone : (request : Option Request) (old new : disk.Disk) (result : Result Ending (Halt Refusal)) → written_in request ≡ [] → log_in request ≡ [] → Runs (Room (plan_in request)) old new result → fault_in result ≢ Err disk.WriteFault
reading_alone request old new result none unsynced runs = not_write result (reads_alone (Room (plan_in request)) old new result (reads_in request none unsynced) runs)

writes_stand : {A : Type 0} (plan : Plan Refusal A) (old new : disk.Disk) (result : Result A (Halt Refusal)) → fault_in result ≢ Err disk.WriteFault → Runs plan old new result → new.write_faults ≡ old.write_faults
writes_stand plan old new result ne runs = (counts_one plan old new result runs).writes ∙ still_writes (fault_in result) old.write_faults ne

-- steps that read leave all files
leaves_by : (old new : disk.Disk) → OnlyBy IsRead old new → LeavesFiles old new
leaves_by old new only = record { told = only_unchanged old new only; writes = only_writes old new only; only = only }

reading_leaves : (request : Option Request) (old new : disk.Disk) (result : Result Ending (Halt Refusal)) → written_in request ≡ [] → log_in request ≡ [] → Runs (Room (plan_in request)) old new result → LeavesFiles old new
reading_leaves request old new result none unsynced runs = leaves_by old new (done_only IsRead (Room (plan_in request)) old new result (reads_in request none unsynced) runs)

pub run_reading : (words : List (List ℕ)) (old new : disk.Disk) (before after : disk.Tape) (status : ℕ) → written_in (request_in words) ≡ [] → log_in (request_in words) ≡ [] → RunsTo (plan_for words) old new before after status → LeavesFiles old new
run_reading words old new before after status none unsynced run = reading_leaves (request_in words) old new run.result none unsynced run.runs

pub sink_fails : (words : List (List ℕ)) (old new : disk.Disk) (before after : disk.Tape) (status : ℕ) → written_in (request_in words) ≡ [] → log_in (request_in words) ≡ [] → RunsTo (plan_for words) old new before after status → OnlyTheSinkFails old new before after status
sink_fails words old new before after status none unsynced run =
    let ne = reading_alone (request_in words) old new run.result none unsynced run.runs in
    record {
      writes = writes_stand (plan_for words) old new run.result ne run.runs;
      sink = sink_alone (request_in words) run.result run.ending run.delivers.got before after status (ending_says (request_in words) old new run.result run.ending run.runs run.concludes) ne run.delivers.offers run.delivers.answers;
    }

-- ---- the steps of a run

pub run_steps : (words : List (List ℕ)) (old new : disk.Disk) (before after : disk.Tape) (status : ℕ) (run : RunsTo (plan_for words) old new before after status)
    → DoneBy (TouchesIn (request_in words)) (fault_in run.result) old new
run_steps words old new before after status run = done_by (TouchesIn (request_in words)) (Room (plan_in (request_in words))) old new run.result (touches_in (request_in words)) run.runs

pub run_spares : (words : List (List ℕ)) (other : List ℕ) (old new : disk.Disk) (before after : disk.Tape) (status : ℕ) → (IsAmong other (log_in (request_in words)) → ⊥) → (IsAmong other (written_in (request_in words)) → ⊥)
    → RunsTo (plan_for words) old new before after status → Kept other old.told new.told
run_spares words other old new before after status unsynced spared run = spares_others other (Room (plan_in (request_in words))) old new run.result (spares_in (request_in words) other unsynced spared) run.runs

pub run_holds : (words : List (List ℕ)) (other : List ℕ) (old new : disk.Disk) (before after : disk.Tape) (status : ℕ) → (IsAmong other (written_in (request_in words)) → ⊥) → RunsTo (plan_for words) old new before after status
    → option_map (λ t. t.holds other) new.told ≡ option_map (λ t. t.holds other) old.told
run_holds words other old new before after status spared run = spares_contents other (Room (plan_in (request_in words))) old new run.result (contents_in (request_in words) other spared) run.runs

-- ---- keygen

not_three : (status : ℕ) → (status ≡ 3) ⊎ (status ≡ 7) → 0 ≡ status → ⊥
not_three status (inl a) is = omega (arith, a, is)
not_three status (inr a) is = omega (arith, a, is)

not_zero : (fault : disk.Fault) → 0 ≡ (fault_ending fault).status → ⊥
not_zero disk.ReadFault is = omega (arith, is)
not_zero disk.WriteFault is = omega (arith, is)
not_zero disk.Memory is = omega (arith, is)

-- a run whose ending has status 0 has given that
pub gave : (plan : Work Ending) (old new : disk.Disk) (result : Result Ending (Halt Refusal)) (e : Ending) → Runs plan old new result → Concludes result e → e.status ≡ 0 → (ending : Ending) × Runs plan old new (Ok ending) × (e ≡ ending)
gave plan old new (Ok ending) e runs concludes zero = (ending, runs, concludes)
gave plan old new (Err (Refused refusal)) e runs (inl is) zero = absurd (not_three (refusal_ending refusal).status (refusal_status refusal) (sym zero ∙ ap (λ (e : Ending). e.status) is))
gave plan old new (Err (Refused refusal)) e runs (inr is) zero = absurd (not_zero disk.Memory (sym zero ∙ ap (λ (e : Ending). e.status) is))
gave plan old new (Err (Faulted fault)) e runs is zero = absurd (not_zero fault (sym zero ∙ ap (λ (e : Ending). e.status) is))

-- what is told after steps that leave what the files hold
pub told_still : (old new : Option disk.Told) (t : disk.Told) → old ≡ Some t → option_map (λ t. t.holds) new ≡ option_map (λ t. t.holds) old → (u : disk.Told) × (new ≡ Some u) × (u.holds ≡ t.holds)
told_still None new t is same = absurd cc
told_still (Some s) None t is same = absurd cc
told_still (Some s) (Some v) t is same = (v, refl, (let e : v.holds ≡ s.holds = cc in let f : s ≡ t = cc in e ∙ ap (λ (t : disk.Told). t.holds) f))

pub told_after : (old new : Option disk.Told) (t : disk.Told) → old ≡ Some t → Unchanged old new → (u : disk.Told) × (new ≡ Some u) × (u.holds ≡ t.holds)
told_after old new t is u = told_still old new t is u.holds

-- what is left by bytes that were written in whole, and of which an ending came
pub saved_whole : (name bytes : List ℕ) (last : Ending) (mid new : disk.Disk) (t m : disk.Told) (ending : Ending) → mid.told ≡ Some m → m.holds ≡ t.holds
    → Runs {E = Refusal} (save name bytes >>= λ done. Done last) mid new (Ok ending) → (u : disk.Told) × (new.told ≡ Some u) × Saved name bytes t u
unfolding Runs
saved_whole name bytes last mid new t m ending told same runs =
    ⊎_elim
    (λ w.
    let s = saved Refusal name bytes mid w.0 m told w.2 in
    (s.0, ap (λ (d : disk.Disk). d.told) w.3.0 ∙ s.1, record { holds = s.2.holds; synced = s.2.synced; others = λ other ne. s.2.others other ne ∙ ap (λ h. h other) same }))
    (λ w. absurd (let e = w.2 in cc))
    (taken_apart (save name bytes) (λ done. Done last) mid new (Ok ending) runs)

key_left : (q : KeygenRequest) (old new : disk.Disk) (t : disk.Told) (ending : Ending) → old.told ≡ Some t → Runs (plan_of (Keygen q)) old new (Ok ending)
    → (key : Key) × (outcome t.holds (key_plan q) ≡ Ok key) × ((u : disk.Told) × (new.told ≡ Some u) × Saved q.key (key_file key) t u)
unfolding Runs followed_by plan_of keygen_plan
key_left q old new t ending told runs =
    ⊎_elim
    (λ w.
    let m = told_after old.told w.0.told t told (writes_nothing (key_plan q) old w.0 (Ok w.1) (key_is_read q) w.2) in (
      w.1,
      gives_outcome (key_plan q) t.holds old w.0 (Ok w.1) (key_is_read q) (ap (option_map (λ (t : disk.Told). t.holds)) told) w.2,
      ⊎_elim (λ none. absurd (let e = none.1 in cc)) (λ rest. saved_whole q.key (key_file w.1) (key_ending w.1) w.0 new t m.0 ending m.1 m.2 rest) w.3,
    ))
    (λ w. absurd (let e = w.2 in cc))
    (taken_apart (key_plan q) _ old new (Ok ending) runs)

key_left_in : (q : KeygenRequest) (old new : disk.Disk) (t : disk.Told) (ending : Ending) → old.told ≡ Some t → Runs (Room (plan_of (Keygen q))) old new (Ok ending)
    → (key : Key) × (outcome t.holds (key_plan q) ≡ Ok key) × ((u : disk.Told) × (new.told ≡ Some u) × Saved q.key (key_file key) t u)
unfolding Runs
key_left_in q old new t ending told (inl (same, is)) = absurd cc
key_left_in q old new t ending told (inr runs) = key_left q old new t ending told runs

-- an ending of 0, whether or not the sink took it
pub is_zero : (e : Ending) (got : Result (Unit {0}) disk.Fault) (status : ℕ) → Answers e got status → Answered (λ s. s ≡ 0) e status → e.status ≡ 0
is_zero e got status is answered = answered_so (λ s. s ≡ 0) e got status (λ no. omega (arith, no)) (λ no. omega (arith, no)) is answered

pub run_left : (words : List (List ℕ)) (q : KeygenRequest) (old new : disk.Disk) (before after : disk.Tape) (status : ℕ) (t : disk.Told) → request_in words ≡ Some (Keygen q) → old.told ≡ Some t
    → (run : RunsTo (plan_for words) old new before after status) → Answered (λ s. s ≡ 0) run.ending status
    → (key : Key) × (outcome t.holds (key_plan q) ≡ Ok key) × ((u : disk.Told) × (new.told ≡ Some u) × Saved q.key (key_file key) t u)
run_left words q old new before after status t is told run zero =
    let g = gave (Room (plan_of (Keygen q))) old new run.result run.ending (runs_for words (Keygen q) old new run.result is run.runs) run.concludes (is_zero run.ending run.delivers.got status run.delivers.answers zero) in
    key_left_in q old new t g.0 told g.1

-- a file was written in whole, whatever the files tell
pub record SavedBy (name bytes : List ℕ) (read new : disk.Disk) : Type 0 where
  pub cut : disk.Disk
  pub wrote : disk.Disk
  pub cuts : disk.Cuts name 0 read cut (Ok tt)
  pub writes : disk.Writes name 0 bytes cut wrote (Ok tt)
  pub syncs : disk.Syncs name wrote new (Ok tt)

pub saved_by : (name bytes : List ℕ) (last : Ending) (read new : disk.Disk) (ending : Ending) → Runs {E = Refusal} (save name bytes >>= λ done. Done last) read new (Ok ending) → SavedBy name bytes read new
unfolding Runs followed_by save
saved_by name bytes last read new ending (m1, Err f, cuts, (same, is)) = absurd cc
saved_by name bytes last read new ending (m1, Ok x, cuts, (m2, Err f, writes, (same, is))) = absurd cc
saved_by name bytes last read new ending (m1, Ok x, cuts, (m2, Ok y, writes, (m3, Err f, syncs, (same, is)))) = absurd cc
saved_by name bytes last read new ending (m1, Ok x, cuts, (m2, Ok y, writes, (m3, Ok z, syncs, (same, is)))) =
    record { cut = m1; wrote = m2; cuts = cuts; writes = writes; syncs = subst (λ (d : disk.Disk). disk.Syncs name m2 d (Ok tt)) (sym same) syncs }

saves_key : (q : KeygenRequest) (key : Key) (old read new : disk.Disk) (ending : Ending) → Runs (key_plan q) old read (Ok key) → Runs {E = Refusal} (save q.key (key_file key) >>= λ done. Done (key_ending key)) read new (Ok ending) → SavesKey q old new
saves_key q key old read new ending gets runs =
    let s = saved_by q.key (key_file key) (key_ending key) read new ending runs in
    record { key = key; read = read; cut = s.cut; wrote = s.wrote; gets = gets; cuts = s.cuts; writes = s.writes; syncs = s.syncs }

key_saves : (q : KeygenRequest) (old new : disk.Disk) (ending : Ending) → Runs (plan_of (Keygen q)) old new (Ok ending) → SavesKey q old new
unfolding Runs followed_by plan_of keygen_plan
key_saves q old new ending runs =
    ⊎_elim (λ w. ⊎_elim (λ none. absurd (let e = none.1 in cc)) (λ rest. saves_key q w.1 old w.0 new ending w.2 rest) w.3) (λ w. absurd (let e = w.2 in cc)) (taken_apart (key_plan q) _ old new (Ok ending) runs)

key_saves_in : (q : KeygenRequest) (old new : disk.Disk) (ending : Ending) → Runs (Room (plan_of (Keygen q))) old new (Ok ending) → SavesKey q old new
unfolding Runs
key_saves_in q old new ending (inl (same, is)) = absurd cc
key_saves_in q old new ending (inr runs) = key_saves q old new ending runs

pub run_saves : (words : List (List ℕ)) (q : KeygenRequest) (old new : disk.Disk) (before after : disk.Tape) (status : ℕ) → request_in words ≡ Some (Keygen q) → (run : RunsTo (plan_for words) old new before after status)
    → Answered (λ s. s ≡ 0) run.ending status → SavesKey q old new
run_saves words q old new before after status is run zero =
    let g = gave (Room (plan_of (Keygen q))) old new run.result run.ending (runs_for words (Keygen q) old new run.result is run.runs) run.concludes (is_zero run.ending run.delivers.got status run.delivers.answers zero) in
    key_saves_in q old new g.0 g.1

-- whatever came of it, the key file holds what writing it in whole may leave
MayLeave : (q : KeygenRequest) (old new : disk.Disk) (t : disk.Told) → Type 0
MayLeave q old new t =
    Unchanged old.told new.told ⊎ ((key : Key) × (outcome t.holds (key_plan q) ≡ Ok key) × ((u : disk.Told) × (new.told ≡ Some u) × IsLeftBy (key_file key) (t.holds q.key) (u.holds q.key)))

-- what is left by writing bytes in whole, whatever came of it
pub left_by : (name bytes : List ℕ) (last : Ending) (mid new : disk.Disk) (t m : disk.Told) (result : Result Ending (Halt Refusal)) → mid.told ≡ Some m → m.holds ≡ t.holds
    → Runs {E = Refusal} (save name bytes >>= λ done. Done last) mid new result → (u : disk.Told) × (new.told ≡ Some u) × IsLeftBy bytes (t.holds name) (u.holds name)
unfolding Runs
left_by name bytes last mid new t m result told same runs =
    ⊎_elim
    (λ w.
    let s = save_leaves Refusal name bytes mid w.0 m (Ok tt) told w.2 in
    (s.0, ap (λ (d : disk.Disk). d.told) w.3.0 ∙ s.1, subst (λ (h : disk.Contents). IsLeftBy bytes (h name) (s.0.holds name)) same s.2))
    (λ w.
    let s = save_leaves Refusal name bytes mid new m (Err w.0) told w.1 in
    (s.0, s.1, subst (λ (h : disk.Contents). IsLeftBy bytes (h name) (s.0.holds name)) same s.2))
    (taken_apart (save name bytes) (λ done. Done last) mid new result runs)

may_leave : (q : KeygenRequest) (old new : disk.Disk) (t : disk.Told) (result : Result Ending (Halt Refusal)) → old.told ≡ Some t → Runs (plan_of (Keygen q)) old new result → MayLeave q old new t
unfolding Runs followed_by plan_of keygen_plan MayLeave
may_leave q old new t result told runs =
    ⊎_elim
    (λ w.
    let still = writes_nothing (key_plan q) old w.0 (Ok w.1) (key_is_read q) w.2 in
    let m = told_after old.told w.0.told t told still in
    let gives = gives_outcome (key_plan q) t.holds old w.0 (Ok w.1) (key_is_read q) (ap (option_map (λ (t : disk.Told). t.holds)) told) w.2 in
    ⊎_elim (λ none. inl (unchanged_by old w.0 new none.0 still)) (λ rest. inr (w.1, gives, left_by q.key (key_file w.1) (key_ending w.1) w.0 new t m.0 result m.1 m.2 rest)) w.3)
    (λ w. inl (writes_nothing (key_plan q) old new (Err w.0) (key_is_read q) w.1))
    (taken_apart (key_plan q) _ old new result runs)

may_leave_in : (q : KeygenRequest) (old new : disk.Disk) (t : disk.Told) (result : Result Ending (Halt Refusal)) → old.told ≡ Some t → Runs (Room (plan_of (Keygen q))) old new result → MayLeave q old new t
unfolding Runs MayLeave
may_leave_in q old new t result told (inl (same, is)) = inl (unchanged_by old old new same (nothing_changed old))
may_leave_in q old new t result told (inr runs) = may_leave q old new t result told runs

pub run_may_leave : (words : List (List ℕ)) (q : KeygenRequest) (old new : disk.Disk) (before after : disk.Tape) (status : ℕ) (t : disk.Told) → request_in words ≡ Some (Keygen q) → old.told ≡ Some t
    → RunsTo (plan_for words) old new before after status
    → Unchanged old.told new.told ⊎ ((key : Key) × (outcome t.holds (key_plan q) ≡ Ok key) × ((u : disk.Told) × (new.told ≡ Some u) × IsLeftBy (key_file key) (t.holds q.key) (u.holds q.key)))
unfolding MayLeave
run_may_leave words q old new before after status t is told run = may_leave_in q old new t run.result told (runs_for words (Keygen q) old new run.result is run.runs)

-- ---- endings with which no file has changed

-- what wrote gives such an ending only where it is refused late
not_written : (request : Request) (late : Refusal → Type 0) (old new : disk.Disk) (result : Result Ending (Halt Refusal)) (e : Ending)
    → ((refusal : Refusal) → result ≡ Err (Refused refusal) → late refusal → ⊥) → Runs (plan_of request) old new result → Concludes result e → WroteNothing e.status → WroteBy late result → ⊥
not_written request late old new (Ok ending) e early runs c none wrote = neither e.status (subst (λ (x : Ending). x.status ≤ 1) (sym c) (ends_low request ending (ends_so (EndOf request) (plan_of request) old new ending (request_ends request) runs))) none.0 none.1
not_written request late old new (Err (Refused refusal)) e early runs c none wrote = early refusal refl wrote
not_written request late old new (Err (Faulted disk.ReadFault)) e early runs c none wrote = wrote
not_written request late old new (Err (Faulted disk.WriteFault)) e early runs c none wrote = none.2 (ap (λ (x : Ending). x.status) c)
not_written request late old new (Err (Faulted disk.Memory)) e early runs c none wrote = none.3 (ap (λ (x : Ending). x.status) c)

-- steps of the first kind alone were done then
looked_alone : (request : Request) (kind : Action → Type 0) (late : Refusal → Type 0) (old new : disk.Disk) (result : Result Ending (Halt Refusal)) (e : Ending)
    → ((refusal : Refusal) → result ≡ Err (Refused refusal) → late refusal → ⊥) → IsPhased kind late (plan_of request) → Runs (Room (plan_of request)) old new result → Concludes result e → WroteNothing e.status → OnlyBy kind old new
unfolding Runs
looked_alone request kind late old new result e early phased (inl (same, is)) c none = record { steps = []; lead = same; each = tt }
looked_alone request kind late old new result e early phased (inr runs) c none =
    ⊎_elim (λ only. only) (λ wrote. absurd (not_written request late old new result e early runs c none wrote)) (looked_or_wrote kind late (plan_of request) old new result phased runs)

refused_leave : (request : Option Request) (old new : disk.Disk) (result : Result Ending (Halt Refusal)) (e : Ending) → log_in request ≡ [] → Runs (Room (plan_in request)) old new result → Concludes result e → WroteNothing e.status → LeavesFiles old new
refused_leave None old new result e unsynced runs c none = reading_leaves None old new result refl refl runs
refused_leave (Some (Audit q)) old new result e unsynced runs c none =
    leaves_by old new (looked_alone (Audit q) IsRead (λ refusal. ⊥) old new result e (λ refusal is late. late) (audit_phased IsRead (λ refusal. ⊥) q (reads q.promise) (reads q.answer) (reads q.auths)) runs c none)
  where
    reads : (name : List ℕ) → KindReads IsRead name
    reads name = record { ask = tt; read = λ size. tt }
refused_leave (Some (Keygen q)) old new result e unsynced runs c none =
    leaves_by old new (looked_alone (Keygen q) IsRead (λ refusal. ⊥) old new result e (λ refusal is late. late) (key_phased IsRead (λ refusal. ⊥) q (record { ask = tt; read = λ size. tt })) runs c none)
refused_leave (Some (Collect q)) old new result e unsynced runs c none =
    leaves_by old new (looked_alone (Collect q) IsRead (λ refusal. ⊥) old new result e (λ refusal is late. late) (collect_phased IsRead (λ refusal. ⊥) q (record { ask = tt; read = λ size. tt })) runs c none)
refused_leave (Some (Check q)) old new result e unsynced runs c none = reading_leaves (Some (Check q)) old new result refl refl runs
refused_leave (Some (Verify q)) old new result e unsynced runs c none = reading_leaves (Some (Verify q)) old new result refl refl runs
refused_leave (Some (Record q)) old new result e unsynced runs c none = absurd cc
refused_leave (Some (Answer q)) old new result e unsynced runs c none = absurd cc

-- an ending with which nothing was written, whether or not the sink took it
wrote_nothing : (e : Ending) (got : Result (Unit {0}) disk.Fault) (status : ℕ) → Answers e got status → Answered WroteNothing e status → WroteNothing e.status
wrote_nothing e got status is answered = answered_so WroteNothing e got status (λ no. no.2 refl) (λ no. no.3 refl) is answered

pub run_refused : (words : List (List ℕ)) (old new : disk.Disk) (before after : disk.Tape) (status : ℕ) → log_in (request_in words) ≡ [] → (run : RunsTo (plan_for words) old new before after status) → Answered WroteNothing run.ending status → LeavesFiles old new
run_refused words old new before after status unsynced run answered =
    refused_leave (request_in words) old new run.result run.ending unsynced run.runs run.concludes (wrote_nothing run.ending run.delivers.got status run.delivers.answers answered)

-- ---- endings with which no file holds anything else

looks_only : (synced : List (List ℕ)) (action : Action) → IsRead action → IsReadOrSync synced action
looks_only synced (Ask name) is = tt
looks_only synced (Read name size) is = tt
looks_only synced (Cut name len) is = is
looks_only synced (Write name at bytes) is = is
looks_only synced (Sync name) is = absurd is

contents_left : (synced : List (List ℕ)) (old new : disk.Disk) → OnlyBy (IsReadOrSync synced) old new → LeavesContents synced old new
contents_left synced old new only = record { holds = only_holds (IsReadOrSync synced) old new (reads_or_syncs synced) only; only = only }

-- a plan of steps that read
reading_left : (request : Option Request) (old new : disk.Disk) (result : Result Ending (Halt Refusal)) → written_in request ≡ [] → log_in request ≡ [] → Runs (Room (plan_in request)) old new result → LeavesContents (log_in request) old new
reading_left request old new result none unsynced runs =
    contents_left (log_in request) old new (done_only (IsReadOrSync (log_in request)) (Room (plan_in request)) old new result (each_as IsRead (IsReadOrSync (log_in request)) (looks_only (log_in request)) (Room (plan_in request)) (reads_in request none unsynced)) runs)

not_late : (result : Result Ending (Halt Refusal)) → NotMetLate result → (refusal : Refusal) → result ≡ Err (Refused refusal) → IsLate refusal → ⊥
not_late result early refusal is late = let no = early refusal is in absurd cc

contents_leave : (request : Option Request) (old new : disk.Disk) (result : Result Ending (Halt Refusal)) (e : Ending) → NotMetLate result → Runs (Room (plan_in request)) old new result → Concludes result e → WroteNothing e.status
    → LeavesContents (log_in request) old new
contents_leave None old new result e early runs c none = reading_left None old new result refl refl runs
contents_leave (Some (Audit q)) old new result e early runs c none = contents_left [] old new (looked_alone (Audit q) (LooksIn (Audit q)) IsLate old new result e (not_late result early) (phased_request (Audit q)) runs c none)
contents_leave (Some (Check q)) old new result e early runs c none = reading_left (Some (Check q)) old new result refl refl runs
contents_leave (Some (Verify q)) old new result e early runs c none = reading_left (Some (Verify q)) old new result refl refl runs
contents_leave (Some (Keygen q)) old new result e early runs c none = contents_left [] old new (looked_alone (Keygen q) (LooksIn (Keygen q)) IsLate old new result e (not_late result early) (phased_request (Keygen q)) runs c none)
contents_leave (Some (Collect q)) old new result e early runs c none = contents_left [] old new (looked_alone (Collect q) (LooksIn (Collect q)) IsLate old new result e (not_late result early) (phased_request (Collect q)) runs c none)
contents_leave (Some (Record q)) old new result e early runs c none = contents_left (q.log ∷ []) old new (looked_alone (Record q) (LooksIn (Record q)) IsLate old new result e (not_late result early) (phased_request (Record q)) runs c none)
contents_leave (Some (Answer q)) old new result e early runs c none = contents_left (q.log ∷ []) old new (looked_alone (Answer q) (LooksIn (Answer q)) IsLate old new result e (not_late result early) (phased_request (Answer q)) runs c none)

pub run_refused_contents : (words : List (List ℕ)) (old new : disk.Disk) (before after : disk.Tape) (status : ℕ) (run : RunsTo (plan_for words) old new before after status) → Answered WroteNothing run.ending status → NotMetLate run.result
    → LeavesContents (log_in (request_in words)) old new
run_refused_contents words old new before after status run answered early =
    contents_leave (request_in words) old new run.result run.ending early run.runs run.concludes (wrote_nothing run.ending run.delivers.got status run.delivers.answers answered)

-- ---- what the files make of the ending

request_gives : (request : Request) (held : disk.Contents) (old new : disk.Disk) (result : Result Ending (Halt Refusal)) → option_map (λ t. t.holds) old.told ≡ Some held → Runs (Room (plan_of request)) old new result
    → Gives result (outcome held (plan_of request))
request_gives request held old new result told runs = phased_gives (LooksIn request) IsLate (reads_or_syncs (log_names request)) (Room (plan_of request)) held old new result (phased_request request) told runs

ends_by : (plan : Work Ending) (held : disk.Contents) (result : Result Ending (Halt Refusal)) (e : Ending) → Gives result (outcome held plan) → Concludes result e → EndsBy held plan result e
ends_by plan held (Ok ending) e gives c = inl (c ∙ sym (ap ended gives))
ends_by plan held (Err (Refused refusal)) e gives (inl is) = inl (is ∙ sym (ap ended gives))
ends_by plan held (Err (Refused refusal)) e gives (inr is) = inr (inl is)
ends_by plan held (Err (Faulted fault)) e gives c = inr (inr (fault, refl, c))

pub run_ends_by : (words : List (List ℕ)) (request : Request) (held : disk.Contents) (old new : disk.Disk) (before after : disk.Tape) (status : ℕ) → request_in words ≡ Some request → option_map (λ t. t.holds) old.told ≡ Some held
    → (run : RunsTo (plan_for words) old new before after status) → EndsBy held (plan_of request) run.result run.ending
run_ends_by words request held old new before after status is told run =
    ends_by (plan_of request) held run.result run.ending (request_gives request held old new run.result told (runs_for words request old new run.result is run.runs)) run.concludes

-- ---- where no count rose

no_fault_ends : (held : disk.Contents) (plan : Work Ending) (old new : disk.Disk) (before after : disk.Tape) (result : Result Ending (Halt Refusal)) (e : Ending) → EndsBy held plan result e → CountsOne old new result → NoneRose old new before after
    → (e ≡ ended (outcome held plan)) ⊎ (e ≡ fault_ending disk.Memory)
no_fault_ends held plan old new before after result e (inl is) counts none = inl is
no_fault_ends held plan old new before after result e (inr (inl is)) counts none = inr is
no_fault_ends held plan old new before after result e (inr (inr (disk.ReadFault, by, is))) counts none = absurd (none.reads (counts.reads ∙ ap (λ f. reads_after f old.read_faults) by))
no_fault_ends held plan old new before after result e (inr (inr (disk.WriteFault, by, is))) counts none = absurd (none.writes (counts.writes ∙ ap (λ f. writes_after f old.write_faults) by))
no_fault_ends held plan old new before after result e (inr (inr (disk.Memory, by, is))) counts none = inr is

pub run_ends_as : (words : List (List ℕ)) (request : Request) (held : disk.Contents) (old new : disk.Disk) (before after : disk.Tape) (status : ℕ) → request_in words ≡ Some request → option_map (λ t. t.holds) old.told ≡ Some held
    → (run : RunsTo (plan_for words) old new before after status) → NoneRose old new before after → EndsAs held (plan_of request) run.ending status
run_ends_as words request held old new before after status is told run none = record {
  ending = no_fault_ends held (plan_of request) old new before after run.result run.ending (run_ends_by words request held old new before after status is told run) (counts_one (plan_for words) old new run.result run.runs) none;
  answers = own_status run.ending run.delivers.got before after status none.sink run.delivers.offers run.delivers.answers;
}
