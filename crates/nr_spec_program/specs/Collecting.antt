-- What `collect` does with its files.
use Rattle.std.specs.Prelude.{ℕ, List, [], ◌∷◌, length, codes}
use Rattle.std.specs.Fmt.{decimal}
use Rattle.nr_spec_log.specs.Authenticator.{Authenticator, auths_file}
use Rattle.nr_spec_frames.specs.Frames.{frames_of}
use Rattle.nr_spec_collecting.specs.Collecting.{heads_from}
use Rattle.nr_spec_history.specs.Lines.{line}
use Rattle.nr_spec_plans.specs.Plans.{Done, want, save, ◌>>=◌}
use Rattle.nr_spec_commands.specs.Words.{CollectRequest}
use Rattle.nr_spec_program.specs.Command.{Ending, FramesInput, Work, load, well_formed}

-- how many authenticators there are
unfoldable pub collected_ending : List Authenticator → Ending
collected_ending heads = record {
  status = 0;
  text = line (codes "authenticators" ∷ decimal (length heads) ∷ []);
}

-- the bytes of the frames that a file holds
unfoldable pub frames_plan : CollectRequest → Work (List (List ℕ))
frames_plan q = do
  bytes ← load FramesInput q.frames
  well_formed FramesInput (frames_of bytes)

-- The authenticators of the frames from the AS are written, after all that is wanted of memory.
unfoldable pub collect_plan : CollectRequest → Work Ending
collect_plan q = do
  frames ← frames_plan q
  room ← want
  saved ← save q.out (auths_file (heads_from q.asn frames))
  Done (collected_ending (heads_from q.asn frames))
