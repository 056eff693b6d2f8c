-- That the turns of a recording fit behind the log that was found, or one that is born.
use Rattle.std.proofs.Common.{◌≡◌, ℕ, ◌^◌, ◌<◌, List, [], ◌∷◌, map, Option, Some, None, Result, Ok, refl, sym, subst, inl, inr, arith}
use Rattle.std.specs.Prelude.{unwrap_or}
use Rattle.nr_spec_bgp.specs.Records.{Item}
use Rattle.nr_spec_wire.specs.Reading.{IsBytes}
use Rattle.nr_spec_log.specs.Answer.{last_time}
use Rattle.nr_spec_log.specs.Chain.{LogEntry}
use Rattle.nr_spec_history.specs.KeyFiles.{key_root}
use Rattle.nr_spec_plans.specs.Disk.{Contents, bytes_of}
use Rattle.nr_spec_plans.specs.Laws.{IsAmong}
use Rattle.nr_spec_store.specs.LogFile.{AreBatchesFrom, LogFile, born, entries_of}
use Rattle.nr_spec_store.specs.StorePlans.{loading}
use Rattle.nr_laws_store.proofs.Loads.{read_as}
use Rattle.nr_laws_store.proofs.LogLaws.{log_takes}
use Rattle.nr_spec_recording.specs.Records.{records_of}
use Rattle.nr_spec_recording.specs.Events.{records_in_order, too_long}
use Rattle.nr_spec_commands.specs.Words.{RecordRequest}
use Rattle.nr_spec_program.specs.Recording.{long_message, speakers_of, turns_for}
use Rattle.nr_laws_accuracy.proofs.Times.{time_join}
use Rattle.nr_laws_record.specs.Recorded.{IsPrepared, Prepared, RecordFits, log_before, recorder_in, turns_in}
use Rattle.nr_laws_fitting.specs.Files.{HoldBytes}
use Rattle.nr_laws_fitting.specs.Frames.{AreTimely}
use Rattle.nr_laws_fitting.proofs.Behind.{last_small}
use Rattle.nr_laws_fitting.proofs.Frameless.{frameless_fit}
use Rattle.nr_laws_fitting.proofs.Recorders.{own_numbers}
use Rattle.nr_laws_fitting.proofs.Recordings.{recording_roomy}
use Rattle.nr_laws_fitting.proofs.Timely.{file_timely}

-- ---- the last time of a log that was read

batches_last : (last : ℕ) (batches : List (List LogEntry)) → last < 2 ^ 64 → AreBatchesFrom last batches → last_time last (entries_of batches) < 2 ^ 64
batches_last last [] lt fit = lt
batches_last last (es ∷ batches) lt fit =
    let next : last_time last es < 2 ^ 64 = last_small last es lt fit.0 in
    let rest : last_time (last_time last es) (entries_of batches) < 2 ^ 64 = batches_last (last_time last es) batches next fit.3 in
    subst (λ (n : ℕ). n < 2 ^ 64) (sym (time_join last es (entries_of batches))) rest

log_last : (bytes : List ℕ) (log : LogFile) → IsBytes bytes → loading bytes ≡ Ok (Some log) → last_time 0 log.entries < 2 ^ 64
log_last bytes log fits is =
    let l = log_takes bytes log fits (read_as bytes (Some log) is) in
    subst (λ (es : List LogEntry). last_time 0 es < 2 ^ 64) (sym l.entries) (batches_last 0 l.batches (omega arith) l.fit)

found_last : (bytes : List ℕ) (found : Option LogFile) (fresh : LogFile) → fresh.entries ≡ [] → IsBytes bytes → loading bytes ≡ Ok found → last_time 0 (unwrap_or found fresh).entries < 2 ^ 64
found_last bytes None fresh none fits is = subst (λ (es : List LogEntry). last_time 0 es < 2 ^ 64) (sym none) (omega arith)
found_last bytes (Some log) fresh none fits is = log_last bytes log fits is

-- ---- the records of the files

abbrev Given : Contents → List ℕ → Result (List Item) ℕ
Given held name = records_of (bytes_of (held name))

files_timely : (held : Contents) (names : List (List ℕ)) (files : List (List Item)) → ((name : List ℕ) → IsAmong name names → IsBytes (bytes_of (held name))) → map (Given held) names ≡ map (λ f. Ok f) files → AreTimely files
files_timely held [] [] fits is = tt
files_timely held [] (f ∷ files) fits is = absurd cc
files_timely held (name ∷ names) [] fits is = absurd cc
files_timely held (name ∷ names) (f ∷ files) fits is =
    let first : Given held name ≡ Ok f = cc in
    let rest : map (Given held) names ≡ map (λ f. Ok f) files = cc in
    (file_timely (bytes_of (held name)) f (fits name (inl refl)) first, files_timely held names files (λ other among. fits other (inr among)) rest)

not_long : (found : Option ℕ) → long_message found ≡ None → found ≡ None
not_long None is = refl
not_long (Some n) is = absurd cc

pub recording_fits : (held : Contents) (q : RecordRequest) (p : Prepared) → IsPrepared held q p → HoldBytes held q → RecordFits q p
unfolding turns_for
recording_fits held q p is holds =
    frameless_fit (recorder_in p) (log_before p).entries (turns_in q p) (own_numbers (bytes_of (held q.promise)) p.promise is.promise) (λ log bytes. refl)
    (found_last (bytes_of (held q.log)) p.found (born p.key.asn (key_root p.key)) refl holds.log is.found)
    (recording_roomy (speakers_of p.promise) p.files q.until (files_timely held q.files p.files holds.files is.files) holds.until (not_long (too_long (records_in_order (speakers_of p.promise) p.files)) is.roomy))
