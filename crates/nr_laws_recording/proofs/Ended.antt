-- How turns end.
use Rattle.std.proofs.Common.{◌≡◌, inl, inr, ⊎_elim, ℕ, List, [], ◌∷◌, ◌++◌, length, Some, Result, Ok, Err, refl, ap, sym, subst, ◌∙◌, append-nil, arith}
use Rattle.nr_spec_plans.specs.Disk.{Disk, Moment, Told, bytes_of, size_of}
use Rattle.nr_spec_plans.specs.Plans.{Halt, Runs, followed_by, refusing}
use Rattle.nr_spec_plans.proofs.PlanLaws.{taken_apart}
use Rattle.nr_spec_crash.specs.Images.{IsImage}
use Rattle.nr_spec_crash.specs.Crashes.{IsSound, MayLeave, Since}
use Rattle.nr_laws_crash.proofs.CrashLaws.{crash_after, since_a_run}
use Rattle.nr_laws_crash.proofs.FirmLaws.{some_told}
use Rattle.nr_laws_crash.proofs.SoundLaws.{read_is_image}
use Rattle.nr_spec_log.specs.Chain.{LogEntry}
use Rattle.nr_spec_log.specs.Answer.{AreEntriesFrom, last_time}
use Rattle.nr_spec_store.specs.LogFile.{LogFile, MayFollow, with_batch}
use Rattle.nr_spec_store.specs.StorePlans.{append_plan}
use Rattle.nr_spec_store.specs.StoreCrashes.{Keeps}
use Rattle.nr_laws_store.proofs.GateLaws.{append_keeps, keeps_holds}
use Rattle.nr_spec_steps.specs.Events.{Event}
use Rattle.nr_spec_steps.specs.Steps.{Recorder, Spent}
use Rattle.nr_spec_steps.specs.Turns.{log_after, turn, with_turn}
use Rattle.nr_spec_program.specs.Command.{Refusal}
use Rattle.nr_spec_program.specs.Recording.{batch_plan, turned, turns_plan, unwritten_log}
use Rattle.nr_laws_recording.specs.FirstTurns.{LoadsFirstTurns, TurnsFit}
use Rattle.nr_laws_recording.proofs.Crashing.{appending, refusing_ok, turns_crash}

-- ---- after turns that ended in whatever way

pub stop_leaves : (name : List ℕ) (r : Recorder) (log : LogFile) (turns : List (List Event)) (image : List ℕ) (old new : Disk) (result : Result LogFile (Halt Refusal)) → Keeps old name log
    → TurnsFit r log.entries turns → Runs (turns_plan name r log turns) old new result → MayLeave new name image → LoadsFirstTurns image r log turns
stop_leaves name r log turns image old new result keeps fits runs left =
    turns_crash name r turns image log old keeps fits (crash_after (turns_plan name r log turns) old new result (λ m. IsImage m name image) runs left)

keeps_sound : (d : Disk) (name : List ℕ) (log : LogFile) → Keeps d name log → IsSound name d
keeps_sound d name log keeps =
    let r = keeps.rests in
    let size : size_of r.now name ≡ length keeps.file = ap length r.bytes in
    record { now = r.now; told = r.told; least = rw (r.loose) (omega (arith, size)); greatest = rw (r.loose) (omega (arith, size)) }

pub read_leaves : (name : List ℕ) (r : Recorder) (log : LogFile) (turns : List (List Event)) (old new : Disk) (u : Told) (result : Result LogFile (Halt Refusal)) → Keeps old name log
    → TurnsFit r log.entries turns → Runs (turns_plan name r log turns) old new result → new.told ≡ Some u → LoadsFirstTurns (bytes_of (u.holds name)) r log turns
read_leaves name r log turns old new u result keeps fits runs told =
    let image = read_is_image name (turns_plan name r log turns) old new result (keeps_sound old name log keeps) runs in
    let same : u ≡ image.0 = some_told new.told image.0 u image.1 told in
    subst (λ (v : Told). LoadsFirstTurns (bytes_of (v.holds name)) r log turns) (sym same) (stop_leaves name r log turns (bytes_of (image.0.holds name)) old new result keeps fits runs image.2)

pub past_leaves : (name : List ℕ) (r : Recorder) (log : LogFile) (turns : List (List Event)) (image : List ℕ) (old new : Disk) (t u : Told) (past : List Moment) (result : Result LogFile (Halt Refusal))
    → Keeps old name log → TurnsFit r log.entries turns → Runs (turns_plan name r log turns) old new result → old.told ≡ Some t → t.past ≡ Some past → new.told ≡ Some u
    → Since (length past) u (λ m. IsImage m name image) → LoadsFirstTurns image r log turns
past_leaves name r log turns image old new t u past result keeps fits runs was at told since =
    turns_crash name r turns image log old keeps fits (since_a_run (turns_plan name r log turns) old new result t u past (λ m. IsImage m name image) runs was at told since)

-- ---- after turns that went well

abbrev pub KeepAll : List ℕ → Recorder → LogFile → LogFile → List (List Event) → Disk → Type 0
KeepAll name r log longer turns new =
    (longer.asn ≡ log.asn) × (longer.root ≡ log.root) × (longer.entries ≡ log_after r log.entries turns) × Keeps new name longer

-- what is known of the turns behind one
abbrev Behind : List ℕ → Recorder → List (List Event) → Type 0
Behind name r others =
    (log longer : LogFile) (old new : Disk) → Keeps old name log → TurnsFit r log.entries others → Runs (turns_plan name r log others) old new (Ok longer)
    → KeepAll name r log longer others new

kept_more : (name : List ℕ) (r : Recorder) (log mid longer : LogFile) (events : List Event) (others : List (List Event)) (batch : List LogEntry) (new : Disk)
    → turn r log.entries events ≡ Ok batch → mid.asn ≡ log.asn → mid.root ≡ log.root → mid.entries ≡ log.entries ++ batch
    → KeepAll name r mid longer others new → KeepAll name r log longer (events ∷ others) new
unfolding log_after
kept_more name r log mid longer events others batch new done asn root is k =
    let entries : mid.entries ≡ with_turn log.entries (turn r log.entries events) = is ∙ ap (with_turn log.entries) (sym done) in
    (k.0 ∙ asn, k.1 ∙ root, k.2 ∙ ap (λ (l : List LogEntry). log_after r l others) entries, k.3)

batch_ok : (name : List ℕ) (r : Recorder) (log longer : LogFile) (events : List Event) (others : List (List Event)) (batch : List LogEntry) (old new : Disk)
    → Keeps old name log → turn r log.entries events ≡ Ok batch → AreEntriesFrom (last_time 0 log.entries) batch → TurnsFit r (log.entries ++ batch) others → Behind name r others
    → Runs (appending name r log others batch) old new (Ok longer) → KeepAll name r log longer (events ∷ others) new
unfolding batch_plan followed_by with_batch
batch_ok name r log longer events others [] old new keeps done fits rest behind runs =
    let same : log.entries ++ [] ≡ log.entries = append-nil log.entries in
    kept_more name r log log longer events others [] new done refl refl (sym same)
    (behind log longer old new keeps (subst (λ (l : List LogEntry). TurnsFit r l others) same rest) runs)
batch_ok name r log longer events others (e ∷ es) old new keeps done fits rest behind runs =
    let batch = e ∷ es in
    let more : MayFollow (last_time 0 log.entries) batch = record { fit = fits; some = omega arith } in
    let mid = with_batch log batch in
    ⊎_elim
    (λ w.
    let kept = append_keeps name log batch w.1 old w.0 (keeps_holds old name log keeps) more (refusing_ok unwritten_log (append_plan name log batch) old w.0 w.1 w.2) in
    let later : Runs (turns_plan name r mid others) w.0 new (Ok longer) = subst (λ (l : LogFile). Runs (turns_plan name r l others) w.0 new (Ok longer)) kept.0 w.3 in
    kept_more name r log mid longer events others batch new done refl refl refl (behind mid longer w.0 new kept.1 rest later))
    (λ w. absurd (let h = w.2 in cc))
    (taken_apart (refusing unwritten_log (append_plan name log batch)) (λ l. turns_plan name r l others) old new (Ok longer) runs)

turn_ok : (name : List ℕ) (r : Recorder) (log longer : LogFile) (events : List Event) (others : List (List Event)) (turned_as : Result (List LogEntry) Spent) (old new : Disk)
    → Keeps old name log → turn r log.entries events ≡ turned_as → TurnsFit r log.entries (events ∷ others) → Behind name r others
    → Runs (followed_by (turned turned_as) (appending name r log others)) old new (Ok longer) → KeepAll name r log longer (events ∷ others) new
unfolding Runs followed_by
turn_ok name r log longer events others (Ok batch) old new keeps done fits behind runs =
    let f = fits batch done in batch_ok name r log longer events others batch old new keeps done f.0 f.1 behind runs
turn_ok name r log longer events others (Err spent) old new keeps done fits behind (same, is) = absurd cc

pub turns_ok : (name : List ℕ) (r : Recorder) (turns : List (List Event)) → Behind name r turns
unfolding turns_plan Runs followed_by log_after
turns_ok name r [] log longer old new keeps fits (same, is) =
    let value : longer ≡ log = cc in
    let kept : Keeps new name log = subst (λ (d : Disk). Keeps d name log) (sym same) keeps in
    (ap (λ (l : LogFile). l.asn) value, ap (λ (l : LogFile). l.root) value, ap (λ (l : LogFile). l.entries) value, subst (λ (l : LogFile). Keeps new name l) (sym value) kept)
turns_ok name r (events ∷ others) log longer old new keeps fits (inl (same, is)) = absurd cc
turns_ok name r (events ∷ others) log longer old new keeps fits (inr runs) =
    turn_ok name r log longer events others (turn r log.entries events) old new keeps refl fits (turns_ok name r others) runs
