-- Crashes of turns.
use Rattle.std.proofs.Common.{◌≡◌, inl, inr, ⊎_elim, ℕ, suc, List, [], ◌∷◌, ◌++◌, take, Some, Result, Ok, Err, refl, ap, sym, subst, ◌∙◌, append-nil, arith}
use Rattle.nr_spec_plans.specs.Disk.{Disk, Moment}
use Rattle.nr_spec_plans.specs.Plans.{Act, Done, Plan, Refuse, Room, Runs, followed_by, refusing}
use Rattle.nr_spec_crash.specs.Images.{IsImage}
use Rattle.nr_spec_crash.specs.Crashes.{Crashes, MayLeave, Sometime}
use Rattle.nr_laws_crash.proofs.CrashLaws.{crash_sequence}
use Rattle.nr_laws_crash.proofs.FirmLaws.{rests_image}
use Rattle.nr_spec_log.specs.Chain.{LogEntry}
use Rattle.nr_spec_log.specs.Answer.{AreEntriesFrom, last_time}
use Rattle.nr_spec_store.specs.LogFile.{LogFile, MayFollow, with_batch}
use Rattle.nr_spec_store.specs.StorePlans.{append_plan, loading}
use Rattle.nr_spec_store.specs.StoreCrashes.{Keeps, LoadsEntries}
use Rattle.nr_laws_store.proofs.GateLaws.{append_keeps, append_leaves, keeps_holds}
use Rattle.nr_spec_steps.specs.Events.{Event}
use Rattle.nr_spec_steps.specs.Steps.{Recorder, Spent}
use Rattle.nr_spec_steps.specs.Turns.{log_after, turn, with_turn}
use Rattle.nr_spec_program.specs.Command.{Work}
use Rattle.nr_spec_program.specs.Recording.{batch_plan, turned, turns_plan, unwritten_log}
use Rattle.nr_laws_recording.specs.FirstTurns.{AreDone, LoadsFirstTurns, TurnsFit}

-- ---- plans whose refusals are told in other words

pub refusing_crash : {E F A : Type 0} (as_said : E → F) (p : Plan E A) (old : Disk) (Q : Moment → Type 0) → Sometime (refusing as_said p) old Q → Sometime p old Q
unfolding Sometime refusing
refusing_crash as_said (Done value) old Q crash = crash
refusing_crash as_said (Refuse refusal) old Q crash = crash
refusing_crash as_said (Room next) old Q crash = refusing_crash as_said next old Q crash
refusing_crash as_said (Act action next) old Q (inl left) = inl left
refusing_crash as_said (Act action next) old Q (inr (mid, Ok answer, acts, crash)) = inr (mid, Ok answer, acts, refusing_crash as_said (next answer) mid Q crash)
refusing_crash as_said (Act action next) old Q (inr (mid, Err fault, acts, left)) = inr (mid, Err fault, acts, left)

pub refusing_ok : {E F A : Type 0} (as_said : E → F) (p : Plan E A) (old new : Disk) (value : A) → Runs (refusing as_said p) old new (Ok value) → Runs p old new (Ok value)
unfolding Runs refusing
refusing_ok as_said (Done v) old new value (same, is) = let e : value ≡ v = cc in (same, ap (λ a. Ok a) e)
refusing_ok as_said (Refuse refusal) old new value (same, is) = absurd cc
refusing_ok as_said (Room next) old new value (inl (same, is)) = absurd cc
refusing_ok as_said (Room next) old new value (inr runs) = inr (refusing_ok as_said next old new value runs)
refusing_ok as_said (Act action next) old new value (mid, Ok answer, acts, goes) = (mid, Ok answer, acts, refusing_ok as_said (next answer) mid new value goes)
refusing_ok as_said (Act action next) old new value (mid, Err fault, acts, (same, is)) = absurd cc

-- ---- logs that are alike

alike : (file : List ℕ) (longer log : LogFile) (es fs : List LogEntry) → longer.asn ≡ log.asn → longer.root ≡ log.root → es ≡ fs
    → LoadsEntries file longer es → LoadsEntries file log fs
alike file longer log es fs asn root is l = record {
  front = l.front;
  loads = l.loads ∙ (λ i. Ok (Some (record { asn = asn i; root = root i; entries = is i; front = l.front })));
}

pub before : (name : List ℕ) (log : LogFile) (image : List ℕ) (d : Disk) → Keeps d name log → MayLeave d name image → LoadsEntries image log log.entries
before name log image d keeps left = record { front = log.front; loads = ap loading (rests_image d name keeps.file image keeps.rests left) ∙ keeps.loads }

pub first_none : (image : List ℕ) (r : Recorder) (log : LogFile) (turns : List (List Event)) → LoadsEntries image log log.entries → LoadsFirstTurns image r log turns
unfolding log_after
first_none image r log turns is = record { count = 0; within = omega arith; done = tt; loads = is }

-- A turn that was appended, and some first ones of the others.
first_more : (image : List ℕ) (r : Recorder) (log longer : LogFile) (events : List Event) (others : List (List Event)) (batch : List LogEntry)
    → turn r log.entries events ≡ Ok batch → longer.asn ≡ log.asn → longer.root ≡ log.root → longer.entries ≡ log.entries ++ batch
    → LoadsFirstTurns image r longer others → LoadsFirstTurns image r log (events ∷ others)
unfolding log_after
first_more image r log longer events others batch done asn root is first =
    let t = take first.count others in
    let entries : longer.entries ≡ with_turn log.entries (turn r log.entries events) = is ∙ ap (with_turn log.entries) (sym done) in
    record {
      count = suc first.count;
      within = omega (arith, first.within);
      done = (batch, done, subst (λ (l : List LogEntry). AreDone r l t) is first.done);
      loads = alike image longer log (log_after r longer.entries t) (log_after r (with_turn log.entries (turn r log.entries events)) t) asn root (ap (λ (l : List LogEntry). log_after r l t) entries) first.loads;
    }

-- ---- one turn and those behind it

-- what is known of the turns behind one
abbrev Behind : List ℕ → Recorder → List ℕ → List (List Event) → Type 0
Behind name r image others =
    (log : LogFile) (old : Disk) → Keeps old name log → TurnsFit r log.entries others → Crashes (turns_plan name r log others) old name image
    → LoadsFirstTurns image r log others

-- what is left to do of a turn that appends this, and of the turns behind it
abbrev pub appending : List ℕ → Recorder → LogFile → List (List Event) → List LogEntry → Work LogFile
appending name r log others batch = followed_by (batch_plan name log batch) (λ longer. turns_plan name r longer others)

batch_crash : (name : List ℕ) (r : Recorder) (log : LogFile) (events : List Event) (others : List (List Event)) (batch : List LogEntry) (image : List ℕ) (old : Disk)
    → Keeps old name log → turn r log.entries events ≡ Ok batch → AreEntriesFrom (last_time 0 log.entries) batch → TurnsFit r (log.entries ++ batch) others → Behind name r image others
    → Crashes (appending name r log others batch) old name image → LoadsFirstTurns image r log (events ∷ others)
unfolding batch_plan followed_by with_batch
batch_crash name r log events others [] image old keeps done fits rest behind crash =
    let same : log.entries ++ [] ≡ log.entries = append-nil log.entries in
    first_more image r log log events others [] done refl refl (sym same)
    (behind log old keeps (subst (λ (l : List LogEntry). TurnsFit r l others) same rest) crash)
batch_crash name r log events others (e ∷ es) image old keeps done fits rest behind crash =
    let batch = e ∷ es in
    let more : MayFollow (last_time 0 log.entries) batch = record { fit = fits; some = omega arith } in
    let longer = with_batch log batch in
    let plan = refusing unwritten_log (append_plan name log batch) in
    ⊎_elim
    (λ first. ⊎_elim
    (λ (is : LoadsEntries image log log.entries). first_none image r log (events ∷ others) is)
    (λ (is : loading image ≡ Ok (Some longer)). first_more image r log longer events others batch done refl refl refl
    (first_none image r longer others (record { front = longer.front; loads = is })))
    (append_leaves name log batch image old keeps more (refusing_crash unwritten_log (append_plan name log batch) old (λ m. IsImage m name image) first)))
    (λ second.
    let kept = append_keeps name log batch second.0 old second.1 (keeps_holds old name log keeps) more (refusing_ok unwritten_log (append_plan name log batch) old second.1 second.0 second.2) in
    let later : Crashes (turns_plan name r longer others) second.1 name image = subst (λ (l : LogFile). Crashes (turns_plan name r l others) second.1 name image) kept.0 second.3 in
    first_more image r log longer events others batch done refl refl refl (behind longer second.1 kept.1 rest later))
    (crash_sequence plan (λ longer. turns_plan name r longer others) old (λ m. IsImage m name image) crash)

turn_crash : (name : List ℕ) (r : Recorder) (log : LogFile) (events : List Event) (others : List (List Event)) (turned_as : Result (List LogEntry) Spent) (image : List ℕ) (old : Disk)
    → Keeps old name log → turn r log.entries events ≡ turned_as → TurnsFit r log.entries (events ∷ others) → Behind name r image others
    → Crashes (followed_by (turned turned_as) (appending name r log others)) old name image → LoadsFirstTurns image r log (events ∷ others)
unfolding Sometime followed_by
turn_crash name r log events others (Ok batch) image old keeps done fits behind crash =
    let f = fits batch done in batch_crash name r log events others batch image old keeps done f.0 f.1 behind crash
turn_crash name r log events others (Err spent) image old keeps done fits behind crash = first_none image r log (events ∷ others) (before name log image old keeps crash)

pub turns_crash : (name : List ℕ) (r : Recorder) (turns : List (List Event)) (image : List ℕ) → Behind name r image turns
unfolding turns_plan Sometime followed_by
turns_crash name r [] image log old keeps fits crash = first_none image r log [] (before name log image old keeps crash)
turns_crash name r (events ∷ others) image log old keeps fits crash =
    turn_crash name r log events others (turn r log.entries events) image old keeps refl fits (turns_crash name r others image) crash
