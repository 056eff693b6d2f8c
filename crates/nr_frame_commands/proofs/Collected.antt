-- The plan of `collect`, step by step.
use Rattle.std.proofs.Common.{◌≡◌, ℕ, List, [], ◌∷◌, suc, length, map, Result, refl, sym, ap, subst}
use Rattle.nr_spec_frames.specs.Frames.{frames_of}
use Rattle.nr_spec_plans.specs.Disk.{Disk}
use Rattle.nr_spec_plans.specs.Plans.{Halt, Runs, ◌>>=◌}
use Rattle.nr_spec_commands.specs.Words.{CollectRequest}
use Rattle.nr_spec_program.specs.Command.{Ending, FramesInput, Refusal, Work, load, well_formed}
use Rattle.nr_spec_program.specs.Collecting.{collect_plan, frames_plan}
use Rattle.nr_laws_program.proofs.Outcomes.{together}
use Rattle.nr_answer.specs.declared.auth.Auth.{Auth}
use Rattle.nr_answer.specs.Views.{auth_of}
use Rattle.nr_frame_commands.specs.Collecting.{heads_plan}

abbrev pub steps : CollectRequest → Work Ending
steps q = load FramesInput q.frames >>= λ bytes. well_formed FramesInput (frames_of bytes) >>= heads_plan q

steps_are : (q : CollectRequest) → collect_plan q ≡ steps q
unfolding collect_plan frames_plan heads_plan
steps_are q = together (load FramesInput q.frames) (λ bytes. well_formed FramesInput (frames_of bytes)) (heads_plan q)

pub collecting : (q : CollectRequest) (old new : Disk) (result : Result Ending (Halt Refusal)) → Runs (steps q) old new result → Runs (collect_plan q) old new result
collecting q old new result runs = subst (λ (p : Work Ending). Runs p old new result) (sym (steps_are q)) runs

-- the authenticators are as many as their views
pub as_many : (heads : List Auth) → length (map auth_of heads) ≡ length heads
as_many [] = refl
as_many (h ∷ hs) = ap (λ (n : ℕ). suc n) (as_many hs)
