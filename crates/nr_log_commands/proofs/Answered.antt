-- The answer of a log, by its last seal.
use Rattle.std.proofs.Common.{◌≡◌, ◌∙◌, [], ◌∷◌, ◌++◌, ℕ, ◌<◌, ◌≤◌, List, Option, None, Some, Result, Ok, Err, ap, refl, sym, subst, length, take}
use Rattle.std.specs.Prelude.{option_map}
use Rattle.std.proofs.lemmas.Bool.{le-ltb, lt-ltb}
use Rattle.std.proofs.lemmas.List.{length-take-le}
use Rattle.nr_spec_log.specs.Chain.{LogEntry}
use Rattle.nr_spec_log.specs.Answer.{AnswerFile, AreEntriesFrom, answer_file}
use Rattle.nr_spec_keys.specs.Trees.{KeyTree, root_of, tree_of}
use Rattle.nr_spec_history.specs.KeyFiles.{Key, key_root}
use Rattle.nr_spec_entry.specs.Contents.{auditor}
use Rattle.std.specs.Prelude.{codes}
use Rattle.std.specs.Fmt.{decimal}
use Rattle.nr_spec_history.specs.Lines.{line}
use Rattle.nr_spec_plans.specs.Plans.{Done, Halt, Refuse, Refused, Runs, followed_by, save, want, ◌>>=◌}
use Rattle.nr_spec_plans.proofs.PlanLemmas.{declined, gives, known, ran, stopped, wanted}
use Rattle.nr_spec_plans.specs.Disk.{Disk}
use Rattle.nr_spec_steps.specs.Heads.{answer_from_first, head_of, last_commit, whole_answer}
use Rattle.nr_spec_program.specs.Command.{Ending, LongAnswer, Prevented, Refusal, Unsealed, Work}
use Rattle.nr_spec_program.specs.Recording.{answer_bytes, answered_ending, entries_in, sealed_answer}
use Rattle.nr_answer.specs.Writing.{Writes}
use Rattle.nr_answer.specs.declared.writing.WriteError.{WriteError}
use Rattle.nr_answer.specs.declared.writing.WriteError.TheVariants as errors
use Rattle.nr_command_parts.specs.Views.{unanswered_of}
use Rattle.nr_command_parts.specs.declared.refusal.Stop.{Stop}
use Rattle.nr_log_commands.specs.Answering.{AnswersLog, IsWhole, sealing_plan}
use Rattle.nr_spec_store.specs.LogFile.{LogFile}
use Rattle.nr_log_commands.specs.declared.answering.WholeAnswer.{WholeAnswer}
use Rattle.nr_heads.specs.Seals.{Seal, seal_at, seal_of}
use Rattle.nr_heads.proofs.SealLaws.{of_seal}

-- ---- trees

pub same_tree : (tree : KeyTree) (seed : List ℕ) (height : ℕ) → tree ≡ tree_of seed height → tree ≡ tree_of seed tree.height
unfolding tree_of
same_tree tree seed height is = is ∙ ap (tree_of seed) (sym (ap (λ (t : KeyTree). t.height) is))

pub same_root : (tree : KeyTree) (key : Key) → tree ≡ tree_of key.seed key.height → root_of tree ≡ key_root key
unfolding key_root
same_root tree key is = ap root_of is

-- ---- answers

pub whole_is : (key : Key) (log : List LogEntry) (seal : Seal) → Some seal ≡ seal_of key.asn log → whole_answer key log ≡ Some (answer_from_first key (take seal.seq log))
unfolding seal_of whole_answer
whole_is key log seal is = by (last_commit auditor log) is
  where
    by : (found : Option ℕ) → Some seal ≡ option_map (seal_at key.asn log) found → option_map (λ k. answer_from_first key (take k log)) found ≡ Some (answer_from_first key (take seal.seq log))
    by None e = absurd cc
    by (Some k) e =
        let same : seal ≡ seal_at key.asn log k = cc in
        ap (λ n. Some (answer_from_first key (take n log))) (sym (ap (λ (s : Seal). s.seq) same))

pub none_is : (key : Key) (log : List LogEntry) → None ≡ seal_of key.asn log → (sealed_answer (whole_answer key log) >>= answer_bytes) ≡ Refuse (Prevented Unsealed)
unfolding seal_of whole_answer followed_by
none_is key log is = by (last_commit auditor log) is
  where
    by : (found : Option ℕ) → None ≡ option_map (seal_at key.asn log) found → (sealed_answer (option_map (λ k. answer_from_first key (take k log)) found) >>= answer_bytes) ≡ Refuse (Prevented Unsealed)
    by None e = refl
    by (Some k) e = absurd cc

pub head_is : (key : Key) (log : List LogEntry) (seal : Seal) → Some seal ≡ seal_of key.asn log → (head_of key (take seal.seq log)).seq ≡ seal.seq
unfolding head_of
head_is key log seal is = length-take-le seal.seq log (of_seal key.asn log seal is).within

pub short_is : (answer : AnswerFile) → length (answer_file answer) ≤ 2147483647 → answer_bytes answer ≡ Done (answer_file answer)
unfolding answer_bytes
short_is answer few = let h = le-ltb 2147483647 (length (answer_file answer)) few in rw h refl

long_bytes : (answer : AnswerFile) → 2147483647 < length (answer_file answer) → answer_bytes answer ≡ Refuse (Prevented (LongAnswer (length (answer_file answer))))
unfolding answer_bytes
long_bytes answer many = let h = lt-ltb 2147483647 (length (answer_file answer)) many in rw h refl

pub long_is : (key : Key) (log : List LogEntry) (answer : AnswerFile) (n : ℕ) → whole_answer key log ≡ Some answer → n ≡ length (answer_file answer) → 2147483647 < length (answer_file answer)
    → (sealed_answer (whole_answer key log) >>= answer_bytes) ≡ Refuse (Prevented (LongAnswer n))
unfolding followed_by
long_is key log answer n whole size many = rw (whole, size) (long_bytes answer many)

-- an answer that isn't written is too long, or memory ran out
pub unwritten_is : (key : Key) (log : List LogEntry) (answer : AnswerFile) (fault : WriteError) (s : Stop) → whole_answer key log ≡ Some answer
    → Writes {V = WholeAnswer} (λ w. w.bytes.items) (Err fault) (answer_file answer) → s ≡ unanswered_of fault → AnswersLog key log (Err s)
unwritten_is key log answer (errors.TooLong n) s whole writes is = rw is (long_is key log answer n whole writes.0 writes.1)
unwritten_is key log answer errors.Memory s whole writes is = rw is tt

pub whole_made : (key : Key) (log : List LogEntry) (seal : Seal) (w : WholeAnswer) → Some seal ≡ seal_of key.asn log → w.last ≡ seal.seq
    → w.bytes.items ≡ answer_file (answer_from_first key (take seal.seq log)) → length (answer_file (answer_from_first key (take seal.seq log))) ≤ 2147483647 → IsWhole key log w
whole_made key log seal w is last bytes few = record {
  answer = answer_from_first key (take seal.seq log);
  whole = whole_is key log seal is;
  bytes = short_is (answer_from_first key (take seal.seq log)) few ∙ ap (λ b. Done b) (sym bytes);
  first = refl;
  last = head_is key log seal is ∙ sym last;
}

-- ---- the first entries

pub fits_first : (last : ℕ) (front rest : List LogEntry) → AreEntriesFrom last (front ++ rest) → AreEntriesFrom last front
fits_first last [] rest fits = tt
fits_first last (e ∷ front) rest fits = (fits.0, fits.1, fits_first e.time front rest fits.2)

-- a log that isn't born has no answer
pub none_born : (key : Key) → (sealed_answer (whole_answer key []) >>= answer_bytes) ≡ Refuse (Prevented Unsealed)
unfolding seal_of
none_born key = none_is key [] refl

-- ---- the plan

-- an answer that is made leads on with its bytes
pub whole_goes : (key : Key) (log : List LogEntry) (w : WholeAnswer) (f : AnswerFile → List ℕ → Work Ending) (old new : Disk) (result : Result Ending (Halt Refusal)) (is : IsWhole key log w)
    → Runs (f is.answer w.bytes.items) old new result → Runs (sealed_answer (whole_answer key log) >>= (λ answer. answer_bytes answer >>= (λ bytes. f answer bytes))) old new result
unfolding followed_by
whole_goes key log w f old new result is runs = rw is.whole (known (answer_bytes is.answer) (f is.answer) old new w.bytes.items result is.bytes runs)

-- and one that is refused stops the plan
pub whole_stops : (key : Key) (log : List LogEntry) (f : AnswerFile → List ℕ → Work Ending) (old : Disk) (refusal : Refusal) → (sealed_answer (whole_answer key log) >>= answer_bytes) ≡ Refuse refusal
    → Runs (sealed_answer (whole_answer key log) >>= (λ answer. answer_bytes answer >>= (λ bytes. f answer bytes))) old old (Err (Refused refusal))
unfolding followed_by
whole_stops key log f old refusal is = by (whole_answer key log) is
  where
    by : (found : Option AnswerFile) → (sealed_answer found >>= answer_bytes) ≡ Refuse refusal → Runs (sealed_answer found >>= (λ answer. answer_bytes answer >>= (λ bytes. f answer bytes))) old old (Err (Refused refusal))
    by None e = let same : Prevented Unsealed ≡ refusal = cc in declined {A = AnswerFile} (sealed_answer None) (λ answer. answer_bytes answer >>= (λ bytes. f answer bytes)) old refusal (ap (λ r. Refuse r) same)
    by (Some answer) e = declined (answer_bytes answer) (f answer) old refusal e

-- the ending tells the first and the last entry
pub ending_tells : (key : Key) (log : List LogEntry) (w : WholeAnswer) (is : IsWhole key log w) → answered_ending is.answer ≡ record { status = 0; text = line (codes "answer" ∷ decimal 1 ∷ decimal w.last ∷ []) }
unfolding answered_ending
ending_tells key log w is = rw (is.first, is.last) refl

-- the whole plan, by what writing the file gives
abbrev rest_of : (out : List ℕ) → AnswerFile → List ℕ → Work Ending
rest_of out answer bytes = want >>= λ room. save out bytes >>= λ saved. Done (answered_ending answer)

pub sealing_done : (out : List ℕ) (key : Key) (found : Option LogFile) (w : WholeAnswer) (bytes : List ℕ) (ending : Ending) (old new : Disk) → IsWhole key (entries_in found) w → bytes ≡ w.bytes.items
    → ending ≡ record { status = 0; text = line (codes "answer" ∷ decimal 1 ∷ decimal w.last ∷ []) } → Runs {E = Refusal} (save out bytes) old new (Ok tt) → Runs (sealing_plan out key found) old new (Ok ending)
unfolding sealing_plan
sealing_done out key found w bytes ending old new is same tells runs =
    wanted _ old new (Ok ending)
    (whole_goes key (entries_in found) w (rest_of out) old new (Ok ending) is
    (wanted _ old new (Ok ending)
    (ran (save out w.bytes.items) (λ saved. Done (answered_ending is.answer)) old new new tt (Ok ending) (subst (λ b. Runs {E = Refusal} (save out b) old new (Ok tt)) same runs)
    (gives Refusal (answered_ending is.answer) ending new (ending_tells key (entries_in found) w is ∙ sym tells)))))

pub sealing_halts : (out : List ℕ) (key : Key) (found : Option LogFile) (w : WholeAnswer) (bytes : List ℕ) (halt : Halt Refusal) (old new : Disk) → IsWhole key (entries_in found) w → bytes ≡ w.bytes.items
    → Runs {E = Refusal} (save out bytes) old new (Err halt) → Runs (sealing_plan out key found) old new (Err halt)
unfolding sealing_plan
sealing_halts out key found w bytes halt old new is same runs =
    wanted _ old new (Err halt)
    (whole_goes key (entries_in found) w (rest_of out) old new (Err halt) is
    (wanted _ old new (Err halt) (stopped (save out w.bytes.items) (λ saved. Done (answered_ending is.answer)) old new halt (subst (λ b. Runs {E = Refusal} (save out b) old new (Err halt)) same runs))))

pub ruleset sealing = (whole_stops, sealing_done, sealing_halts)

pub ruleset answering_logs = (none_is, long_is, whole_is, whole_made)
