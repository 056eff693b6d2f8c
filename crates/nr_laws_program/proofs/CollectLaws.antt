-- What `collect` leaves.
use Rattle.std.proofs.Common.{◌≡◌, ℕ, List, Some, Ok, refl, ap, ◌∙◌, inl, inr, ⊎_elim}
use Rattle.std.specs.Prelude.{option_map}
use Rattle.nr_spec_plans.specs.Disk as disk
use Rattle.nr_spec_plans.specs.Plans.{Done, Room, Runs, followed_by, save, ◌>>=◌}
use Rattle.nr_spec_plans.specs.Laws.{Each, IsRead, Saved, outcome}
use Rattle.nr_spec_plans.proofs.PlanLaws.{ends_followed, ends_so, gives_outcome, taken_apart, writes_nothing}
use Rattle.nr_spec_log.specs.Authenticator.{auths_file}
use Rattle.nr_spec_collecting.specs.Collecting.{heads_from}
use Rattle.nr_spec_commands.specs.Words.{CollectRequest, Collect, request_in}
use Rattle.nr_spec_program.specs.Command.{Ending, Work}
use Rattle.nr_spec_program.specs.Collecting.{collect_plan, collected_ending, frames_plan}
use Rattle.nr_spec_program.specs.Running.{RunsTo}
use Rattle.nr_spec_program.specs.Table.{plan_for, plan_of}
use Rattle.nr_spec_program.specs.Causes.{Answered, SavesHeads}
use Rattle.nr_laws_program.proofs.PlanKinds.{frames_each}
use Rattle.nr_laws_program.proofs.FileLaws.{gave, is_zero, runs_for, saved_by, saved_whole, told_after}

-- the second part, once the frames are there
abbrev kept : CollectRequest → List (List ℕ) → Work Ending
kept q frames = save q.out (auths_file (heads_from q.asn frames)) >>= λ saved. Done (collected_ending (heads_from q.asn frames))

-- the first part and what came of the second
record Halves (q : CollectRequest) (old new : disk.Disk) (ending : Ending) : Type 0 where
  pub frames : List (List ℕ)
  pub read : disk.Disk
  pub gets : Runs (frames_plan q) old read (Ok frames)
  pub keeps : Runs (kept q frames) read new (Ok ending)

halves : (q : CollectRequest) (old new : disk.Disk) (ending : Ending) → Runs (plan_of (Collect q)) old new (Ok ending) → Halves q old new ending
unfolding Runs followed_by plan_of collect_plan
halves q old new ending runs =
    ⊎_elim
    (λ w. ⊎_elim (λ none. absurd (let e = none.1 in cc)) (λ keeps. record { frames = w.1; read = w.0; gets = w.2; keeps = keeps }) w.3)
    (λ w. absurd (let e = w.2 in cc))
    (taken_apart (frames_plan q) _ old new (Ok ending) runs)

halves_in : (q : CollectRequest) (old new : disk.Disk) (ending : Ending) → Runs (Room (plan_of (Collect q))) old new (Ok ending) → Halves q old new ending
unfolding Runs
halves_in q old new ending (inl (same, is)) = absurd cc
halves_in q old new ending (inr runs) = halves q old new ending runs

kept_ending : (q : CollectRequest) (frames : List (List ℕ)) (read new : disk.Disk) (ending : Ending) → Runs (kept q frames) read new (Ok ending) → ending ≡ collected_ending (heads_from q.asn frames)
kept_ending q frames read new ending runs =
    let last = collected_ending (heads_from q.asn frames) in
    ends_so (λ e. e ≡ last) (kept q frames) read new ending (ends_followed (λ e. e ≡ last) (save q.out (auths_file (heads_from q.asn frames))) _ (λ saved. refl)) runs

frames_are_read : (q : CollectRequest) → Each IsRead (frames_plan q)
frames_are_read q = frames_each IsRead q (record { ask = tt; read = λ size. tt })

pub run_collects : (words : List (List ℕ)) (q : CollectRequest) (old new : disk.Disk) (before after : disk.Tape) (status : ℕ) → request_in words ≡ Some (Collect q) → (run : RunsTo (plan_for words) old new before after status)
    → Answered (λ s. s ≡ 0) run.ending status → SavesHeads q run.ending old new
run_collects words q old new before after status is run zero =
    let g = gave (Room (plan_of (Collect q))) old new run.result run.ending (runs_for words (Collect q) old new run.result is run.runs) run.concludes (is_zero run.ending run.delivers.got status run.delivers.answers zero) in
    let h = halves_in q old new g.0 g.1 in
    let s = saved_by q.out (auths_file (heads_from q.asn h.frames)) (collected_ending (heads_from q.asn h.frames)) h.read new g.0 h.keeps in
    record {
      frames = h.frames;
      read = h.read;
      cut = s.cut;
      wrote = s.wrote;
      gets = h.gets;
      cuts = s.cuts;
      writes = s.writes;
      syncs = s.syncs;
      offers = g.2 ∙ kept_ending q h.frames h.read new g.0 h.keeps;
    }

pub run_heads_left : (words : List (List ℕ)) (q : CollectRequest) (old new : disk.Disk) (before after : disk.Tape) (status : ℕ) (t : disk.Told) → request_in words ≡ Some (Collect q) → old.told ≡ Some t
    → (run : RunsTo (plan_for words) old new before after status) → Answered (λ s. s ≡ 0) run.ending status
    → (frames : List (List ℕ)) × (outcome t.holds (frames_plan q) ≡ Ok frames) × (run.ending ≡ collected_ending (heads_from q.asn frames))
    × ((u : disk.Told) × (new.told ≡ Some u) × Saved q.out (auths_file (heads_from q.asn frames)) t u)
run_heads_left words q old new before after status t is told run zero =
    let g = gave (Room (plan_of (Collect q))) old new run.result run.ending (runs_for words (Collect q) old new run.result is run.runs) run.concludes (is_zero run.ending run.delivers.got status run.delivers.answers zero) in
    let h = halves_in q old new g.0 g.1 in
    let m = told_after old.told h.read.told t told (writes_nothing (frames_plan q) old h.read (Ok h.frames) (frames_are_read q) h.gets) in (
      h.frames,
      gives_outcome (frames_plan q) t.holds old h.read (Ok h.frames) (frames_are_read q) (ap (option_map (λ (t : disk.Told). t.holds)) told) h.gets,
      g.2 ∙ kept_ending q h.frames h.read new g.0 h.keeps,
      saved_whole q.out (auths_file (heads_from q.asn h.frames)) (collected_ending (heads_from q.asn h.frames)) h.read new t m.0 g.0 m.1 m.2 h.keeps,
    )
