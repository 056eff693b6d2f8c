-- What the program does: from its words to a plan over files, which gives a status and a text.
use Rattle.std.specs.Prelude.{ℕ, List, Option, None, Some}
use Rattle.nr_spec_plans.specs.Plans.{Done, Room}
use Rattle.nr_spec_commands.specs.Words.{Answer, Audit, Check, Collect, Keygen, Record, Request, Verify, request_in}
use Rattle.nr_spec_program.specs.Command.{Ending, Work, audit_plan, check_plan, keygen_plan, usage_ending}
use Rattle.nr_spec_program.specs.Recording.{answer_plan, record_plan}
use Rattle.nr_spec_program.specs.Verifying.{verify_plan}
use Rattle.nr_spec_program.specs.Collecting.{collect_plan}

-- the table of commands
unfoldable pub plan_of : Request → Work Ending
plan_of (Audit q) = audit_plan q
plan_of (Keygen q) = keygen_plan q
plan_of (Check q) = check_plan q
plan_of (Record q) = record_plan q
plan_of (Answer q) = answer_plan q
plan_of (Verify q) = verify_plan q
plan_of (Collect q) = collect_plan q

-- what a request asks to be done, or the usage
abbrev pub plan_in : Option Request → Work Ending
plan_in None = Done usage_ending
plan_in (Some request) = plan_of request

-- what is done for the words
abbrev pub plan_for : List (List ℕ) → Work Ending
plan_for words = Room (plan_in (request_in words))
