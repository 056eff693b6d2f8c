-- What `answer` leaves.
use Rattle.std.proofs.Common.{◌≡◌, ◌≢◌, ℕ, List, [], ◌∷◌, length, Option, Some, None, Result, Ok, Err, refl, sym, ap, subst, ◌∙◌, inl, inr, ◌⊎◌, ⊎_elim}
use Rattle.std.specs.Prelude.{nat_lt, option_map}
use Rattle.std.proofs.lemmas.Bool.{cases_Bool}
use Rattle.nr_spec_plans.specs.Disk as disk
use Rattle.nr_spec_plans.specs.Plans.{Action, Ask, Done, Halt, Room, Runs, act, followed_by, ◌>>=◌, save, want}
use Rattle.nr_spec_plans.specs.Laws.{Each, Saved, outcome}
use Rattle.nr_spec_plans.proofs.PlanLaws.{each_followed, ends_followed, ends_so, taken_apart}
use Rattle.nr_spec_plans.proofs.StepLaws.{done_only}
use Rattle.nr_spec_log.specs.Answer.{AnswerFile, answer_file}
use Rattle.nr_spec_history.specs.KeyFiles.{Key}
use Rattle.nr_spec_steps.specs.Heads.{whole_answer}
use Rattle.nr_spec_commands.specs.Words.{AnswerRequest, Answer, request_in}
use Rattle.nr_spec_program.specs.Keys.{key_of}
use Rattle.nr_spec_program.specs.Command.{AnswerInput, Ending, KeyInput, Refusal, Work, input_limit, load, well_formed}
use Rattle.nr_spec_program.specs.Recording.{answer_bytes, answer_plan, answered_ending, entries_in, key_file_plan, log_plan, present, sealed_answer, unless}
use Rattle.nr_spec_program.specs.Running.{RunsTo}
use Rattle.nr_spec_program.specs.Table.{plan_for, plan_of}
use Rattle.nr_spec_program.specs.Causes.{Answered, IsReadOrSync}
use Rattle.nr_laws_program.specs.Replies.{IsReply, LeftByWriting, SavesAnswer, reply_plan}
use Rattle.nr_laws_program.proofs.Phases.{SparesContents, only_holds, phased_each, phased_gives, spares_contents}
use Rattle.nr_laws_program.proofs.LogKinds.{KindLoads}
use Rattle.nr_laws_program.proofs.Outcomes.{apart, formed_gives, load_gives, log_gives, together_so}
use Rattle.nr_laws_program.proofs.PlanKinds.{KindReads}
use Rattle.nr_laws_program.proofs.RecordPlans.{IsLate, bytes_each, key_file_each, log_each, present_each, save_each, sealed_each, unless_each}
use Rattle.nr_laws_program.proofs.FileLaws.{gave, is_zero, left_by, loads_log, looks, reads_or_syncs, runs_for, saved_by, saved_whole, told_still}

-- ---- the first part of the plan

reply_each : (kind : Action → Type 0) (q : AnswerRequest) → KindReads kind q.key → KindLoads kind q.log → Each kind (reply_plan q)
unfolding reply_plan
reply_each kind q key loads =
    each_followed kind _ _ (key_file_each kind q.key key) (λ k.
    each_followed kind _ _ (loads.ask, λ size. tt) (λ size.
    each_followed kind _ _ (present_each kind size) (λ there.
    each_followed kind _ _ (log_each kind q.log loads) (λ found.
    each_followed kind _ _ (unless_each kind _) (λ b.
    each_followed kind want _ tt (λ c.
    each_followed kind _ _ (unless_each kind _) (λ d.
    each_followed kind want _ tt (λ e.
    each_followed kind _ _ (sealed_each kind _) (λ answer.
    each_followed kind _ _ (bytes_each kind answer) (λ bytes. tt))))))))))

abbrev LooksFor : AnswerRequest → Action → Type 0
LooksFor q = IsReadOrSync (q.log ∷ [])

reply_looks : (q : AnswerRequest) → Each (LooksFor q) (reply_plan q)
reply_looks q = reply_each (LooksFor q) q (looks (q.log ∷ []) q.key) (loads_log q.log)

reply_holds : (q : AnswerRequest) (old new : disk.Disk) (result : Result AnswerFile (Halt Refusal)) → Runs (reply_plan q) old new result → option_map (λ t. t.holds) new.told ≡ option_map (λ t. t.holds) old.told
reply_holds q old new result runs = only_holds (LooksFor q) old new (reads_or_syncs (q.log ∷ [])) (done_only (LooksFor q) (reply_plan q) old new result (reply_looks q) runs)

-- the second part, once there is an answer
abbrev kept : AnswerRequest → AnswerFile → Work Ending
kept q answer = save q.out (answer_file answer) >>= λ saved. Done (answered_ending answer)

abbrev rest : AnswerRequest → AnswerFile → Work Ending
rest q answer = want >>= λ room. kept q answer

bytes_rest : (q : AnswerRequest) (answer : AnswerFile)
    → followed_by (answer_bytes answer >>= λ bytes. Done answer) (rest q) ≡ (answer_bytes answer >>= λ bytes. want >>= λ room. save q.out bytes >>= λ saved. Done (answered_ending answer))
unfolding answer_bytes followed_by
bytes_rest q answer = elim (cases_Bool (nat_lt (input_limit AnswerInput) (length (answer_file answer)))) [ inl is ↦ rw is refl | inr is ↦ rw is refl ]

answer_parts : (q : AnswerRequest) → (reply_plan q >>= rest q) ≡ plan_of (Answer q)
unfolding plan_of answer_plan reply_plan
answer_parts q =
    together_so (key_file_plan q.key) _ (rest q) _ (λ key.
    together_so (act (Ask q.log)) _ (rest q) _ (λ size.
    together_so (present size) _ (rest q) _ (λ there.
    together_so (log_plan q.log) _ (rest q) _ (λ found.
    together_so (unless _) _ (rest q) _ (λ network.
    together_so want _ (rest q) _ (λ tree.
    together_so (unless _) _ (rest q) _ (λ root.
    together_so want _ (rest q) _ (λ ready.
    together_so (sealed_answer _) _ (rest q) _ (λ answer. bytes_rest q answer)))))))))

in_parts : (q : AnswerRequest) (old new : disk.Disk) (result : Result Ending (Halt Refusal)) → Runs (plan_of (Answer q)) old new result → Runs (reply_plan q >>= rest q) old new result
in_parts q old new result runs = subst (λ (p : Work Ending). Runs p old new result) (sym (answer_parts q)) runs

-- ---- what the first part gives

pub key_file_gives : (held : disk.Contents) (name : List ℕ) (key : Key) → outcome held (key_file_plan name) ≡ Ok key → key_of (disk.bytes_of (held name)) ≡ Ok key
unfolding key_file_plan
key_file_gives held name key is =
    let a = apart held (load KeyInput name) (λ bytes. well_formed KeyInput (key_of bytes)) key is in
    ap key_of (sym (load_gives held KeyInput name a.0 a.1)) ∙ formed_gives held KeyInput (key_of a.0) key a.2

sealed_gives : (held : disk.Contents) (found : Option AnswerFile) (answer : AnswerFile) → outcome held (sealed_answer found) ≡ Ok answer → found ≡ Some answer
sealed_gives held None answer is = absurd cc
sealed_gives held (Some a) answer is = let e : a ≡ answer = cc in ap (λ x. Some x) e

reply_is : (held : disk.Contents) (q : AnswerRequest) (answer : AnswerFile) → outcome held (reply_plan q) ≡ Ok answer → IsReply held q answer
unfolding reply_plan
reply_is held q answer is =
    let k = apart held (key_file_plan q.key) _ answer is in
    let s = apart held (act (Ask q.log)) _ answer k.2 in
    let p = apart held (present s.0) _ answer s.2 in
    let l = apart held (log_plan q.log) _ answer p.2 in
    let n = apart held (unless _) _ answer l.2 in
    let t = apart held want _ answer n.2 in
    let r = apart held (unless _) _ answer t.2 in
    let d = apart held want _ answer r.2 in
    let a = apart held (sealed_answer (whole_answer k.0 (entries_in l.0))) _ answer d.2 in
    let b = apart held (answer_bytes a.0) _ answer a.2 in
    let e : a.0 ≡ answer = (let g = b.2 in cc) in
    record {
      key = k.0;
      found = l.0;
      keyed = key_file_gives held q.key k.0 k.1;
      loads = log_gives held q.log l.0 l.1;
      whole = sealed_gives held (whole_answer k.0 (entries_in l.0)) a.0 a.1 ∙ ap (λ x. Some x) e;
    }

reply_gives : (q : AnswerRequest) (old mid : disk.Disk) (t : disk.Told) (answer : AnswerFile) → old.told ≡ Some t → Runs (reply_plan q) old mid (Ok answer) → IsReply t.holds q answer
reply_gives q old mid t answer told runs =
    reply_is t.holds q answer
    (phased_gives (LooksFor q) IsLate (reads_or_syncs (q.log ∷ [])) (reply_plan q) t.holds old mid (Ok answer) (phased_each (LooksFor q) IsLate (reply_plan q) (reply_looks q)) (ap (option_map (λ (t : disk.Told). t.holds)) told) runs)

-- ---- where it answers 0

-- the first part and what came of the second
record Halves (q : AnswerRequest) (old new : disk.Disk) (result : Result Ending (Halt Refusal)) : Type 0 where
  pub answer : AnswerFile
  pub read : disk.Disk
  pub gets : Runs (reply_plan q) old read (Ok answer)
  pub keeps : Runs (kept q answer) read new result

halves : (q : AnswerRequest) (old new : disk.Disk) (ending : Ending) → Runs (plan_of (Answer q)) old new (Ok ending) → Halves q old new (Ok ending)
unfolding Runs followed_by
halves q old new ending runs =
    ⊎_elim
    (λ w. ⊎_elim (λ none. absurd (let e = none.1 in cc)) (λ keeps. record { answer = w.1; read = w.0; gets = w.2; keeps = keeps }) w.3)
    (λ w. absurd (let e = w.2 in cc))
    (taken_apart (reply_plan q) (rest q) old new (Ok ending) (in_parts q old new (Ok ending) runs))

halves_in : (q : AnswerRequest) (old new : disk.Disk) (ending : Ending) → Runs (Room (plan_of (Answer q))) old new (Ok ending) → Halves q old new (Ok ending)
unfolding Runs
halves_in q old new ending (inl (same, is)) = absurd cc
halves_in q old new ending (inr runs) = halves q old new ending runs

kept_ending : (q : AnswerRequest) (answer : AnswerFile) (read new : disk.Disk) (ending : Ending) → Runs (kept q answer) read new (Ok ending) → ending ≡ answered_ending answer
kept_ending q answer read new ending runs =
    ends_so (λ e. e ≡ answered_ending answer) (kept q answer) read new ending (ends_followed (λ e. e ≡ answered_ending answer) (save q.out (answer_file answer)) _ (λ saved. refl)) runs

pub run_replies : (words : List (List ℕ)) (q : AnswerRequest) (old new : disk.Disk) (before after : disk.Tape) (status : ℕ) → request_in words ≡ Some (Answer q) → (run : RunsTo (plan_for words) old new before after status)
    → Answered (λ s. s ≡ 0) run.ending status → SavesAnswer q old new
run_replies words q old new before after status is run zero =
    let g = gave (Room (plan_of (Answer q))) old new run.result run.ending (runs_for words (Answer q) old new run.result is run.runs) run.concludes (is_zero run.ending run.delivers.got status run.delivers.answers zero) in
    let h = halves_in q old new g.0 g.1 in
    let s = saved_by q.out (answer_file h.answer) (answered_ending h.answer) h.read new g.0 h.keeps in
    record { answer = h.answer; read = h.read; cut = s.cut; wrote = s.wrote; gets = h.gets; cuts = s.cuts; writes = s.writes; syncs = s.syncs }

pub run_reply_left : (words : List (List ℕ)) (q : AnswerRequest) (old new : disk.Disk) (before after : disk.Tape) (status : ℕ) (t : disk.Told) → request_in words ≡ Some (Answer q) → old.told ≡ Some t
    → (run : RunsTo (plan_for words) old new before after status) → Answered (λ s. s ≡ 0) run.ending status
    → (answer : AnswerFile) × IsReply t.holds q answer × (run.ending ≡ answered_ending answer) × ((u : disk.Told) × (new.told ≡ Some u) × Saved q.out (answer_file answer) t u)
run_reply_left words q old new before after status t is told run zero =
    let g = gave (Room (plan_of (Answer q))) old new run.result run.ending (runs_for words (Answer q) old new run.result is run.runs) run.concludes (is_zero run.ending run.delivers.got status run.delivers.answers zero) in
    let h = halves_in q old new g.0 g.1 in
    let m = told_still old.told h.read.told t told (reply_holds q old h.read (Ok h.answer) h.gets) in (
      h.answer,
      reply_gives q old h.read t h.answer told h.gets,
      g.2 ∙ kept_ending q h.answer h.read new g.0 h.keeps,
      saved_whole q.out (answer_file h.answer) (answered_ending h.answer) h.read new t m.0 g.0 m.1 m.2 h.keeps,
    )

-- ---- whatever came of it

MayReply : (q : AnswerRequest) (old new : disk.Disk) (t : disk.Told) → Type 0
MayReply q old new t =
    (option_map (λ t. t.holds) new.told ≡ option_map (λ t. t.holds) old.told)
    ⊎ ((answer : AnswerFile) × IsReply t.holds q answer × ((u : disk.Told) × (new.told ≡ Some u) × LeftByWriting q.out (answer_file answer) t u))

pub same_holds : (old mid new : disk.Disk) → new ≡ mid → option_map (λ t. t.holds) mid.told ≡ option_map (λ t. t.holds) old.told → option_map (λ t. t.holds) new.told ≡ option_map (λ t. t.holds) old.told
same_holds old mid new same holds = ap (λ (d : disk.Disk). option_map (λ (t : disk.Told). t.holds) d.told) same ∙ holds

pub one_held : (other : List ℕ) (old new : Option disk.Told) (m u : disk.Told) → old ≡ Some m → new ≡ Some u → option_map (λ t. t.holds other) new ≡ option_map (λ t. t.holds other) old → u.holds other ≡ m.holds other
one_held other old new m u was is same = let e : Some (u.holds other) ≡ Some (m.holds other) = ap (option_map (λ (t : disk.Told). t.holds other)) (sym is) ∙ same ∙ ap (option_map (λ (t : disk.Told). t.holds other)) was in cc

kept_spares : (q : AnswerRequest) (answer : AnswerFile) (other : List ℕ) → other ≢ q.out → Each (SparesContents other) (kept q answer)
kept_spares q answer other ne = each_followed (SparesContents other) (save q.out (answer_file answer)) _ (save_each (SparesContents other) q.out (answer_file answer) (record { cut = ne; write = λ bytes. ne; sync = tt })) (λ saved. tt)

kept_leaves : (q : AnswerRequest) (answer : AnswerFile) (mid new : disk.Disk) (t m : disk.Told) (result : Result Ending (Halt Refusal)) → mid.told ≡ Some m → m.holds ≡ t.holds → Runs (kept q answer) mid new result
    → (u : disk.Told) × (new.told ≡ Some u) × LeftByWriting q.out (answer_file answer) t u
kept_leaves q answer mid new t m result told same runs =
    let l = left_by q.out (answer_file answer) (answered_ending answer) mid new t m result told same runs in (
      l.0,
      l.1,
      record {
        left = l.2;
        others = λ other ne. one_held other mid.told new.told m l.0 told l.1 (spares_contents other (kept q answer) mid new result (kept_spares q answer other ne) runs) ∙ ap (λ h. h other) same;
      },
    )

may_reply : (q : AnswerRequest) (old new : disk.Disk) (t : disk.Told) (result : Result Ending (Halt Refusal)) → old.told ≡ Some t → Runs (plan_of (Answer q)) old new result → MayReply q old new t
unfolding Runs followed_by MayReply
may_reply q old new t result told runs =
    ⊎_elim
    (λ w.
    let still = reply_holds q old w.0 (Ok w.1) w.2 in
    let m = told_still old.told w.0.told t told still in
    ⊎_elim (λ none. inl (same_holds old w.0 new none.0 still)) (λ keeps. inr (w.1, reply_gives q old w.0 t w.1 told w.2, kept_leaves q w.1 w.0 new t m.0 result m.1 m.2 keeps)) w.3)
    (λ w. inl (reply_holds q old new (Err w.0) w.1))
    (taken_apart (reply_plan q) (rest q) old new result (in_parts q old new result runs))

may_reply_in : (q : AnswerRequest) (old new : disk.Disk) (t : disk.Told) (result : Result Ending (Halt Refusal)) → old.told ≡ Some t → Runs (Room (plan_of (Answer q))) old new result → MayReply q old new t
unfolding Runs MayReply
may_reply_in q old new t result told (inl (same, is)) = inl (same_holds old old new same refl)
may_reply_in q old new t result told (inr runs) = may_reply q old new t result told runs

pub run_reply_may_leave : (words : List (List ℕ)) (q : AnswerRequest) (old new : disk.Disk) (before after : disk.Tape) (status : ℕ) (t : disk.Told) → request_in words ≡ Some (Answer q) → old.told ≡ Some t
    → RunsTo (plan_for words) old new before after status
    → (option_map (λ t. t.holds) new.told ≡ option_map (λ t. t.holds) old.told)
    ⊎ ((answer : AnswerFile) × IsReply t.holds q answer × ((u : disk.Told) × (new.told ≡ Some u) × LeftByWriting q.out (answer_file answer) t u))
unfolding MayReply
run_reply_may_leave words q old new before after status t is told run = may_reply_in q old new t run.result told (runs_for words (Answer q) old new run.result is run.runs)
