-- The second part of `collect`.
use Rattle.std.specs.Prelude.{ℕ, List}
use Rattle.nr_spec_log.specs.Authenticator.{auths_file}
use Rattle.nr_spec_collecting.specs.Collecting.{heads_from}
use Rattle.nr_spec_plans.specs.Plans.{Done, save, want, ◌>>=◌}
use Rattle.nr_spec_commands.specs.Words.{CollectRequest}
use Rattle.nr_spec_program.specs.Command.{Ending, Work}
use Rattle.nr_spec_program.specs.Collecting.{collected_ending}

-- what `collect` does once it has the bytes of the frames: their authenticators are written in whole
unfoldable pub heads_plan : CollectRequest → List (List ℕ) → Work Ending
heads_plan q frames = do
  room ← want
  saved ← save q.out (auths_file (heads_from q.asn frames))
  Done (collected_ending (heads_from q.asn frames))
