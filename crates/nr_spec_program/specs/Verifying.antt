-- What `verify` does with its file.
use Rattle.std.specs.Prelude.{ℕ, if◌then◌else◌, Bool, true, false, not, List, [], ◌∷◌, ◌++◌, length, Result, Ok, Err, codes}
use Rattle.std.specs.Fmt.{decimal}
use Rattle.std.specs.List.{flat_map, list_any}
use Rattle.nr_spec_history.specs.Lines.{line}
use Rattle.nr_spec_plans.specs.Plans.{Done, Refuse, Room, want, ◌>>=◌}
use Rattle.nr_spec_verify.specs.Verified as evidence
use Rattle.nr_spec_verify.specs.Verified.{verified}
use Rattle.nr_spec_commands.specs.Words.{VerifyRequest}
use Rattle.nr_spec_program.specs.Command.{Ending, EvidenceInput, Malformed, Refused, Work, load}

-- the truth of each claim, where nothing refuses the evidence
abbrev pub checked : Result (List Bool) evidence.Refusal → Work (List Bool)
checked (Ok claims) = Done claims
checked (Err (evidence.Malformed place)) = Refuse (Malformed EvidenceInput place)
checked (Err (evidence.Refused fact)) = Refuse (Refused fact)

-- the line of a claim
abbrev pub claim_line : (is_true : Bool) → List ℕ
claim_line true = line (codes "accepted" ∷ [])
claim_line false = line (codes "not" ∷ codes "accepted" ∷ [])

-- How many claims there are, then a line of each. The status is 1 where one isn't true.
unfoldable pub verified_ending : List Bool → Ending
verified_ending claims = record {
  status = if list_any not claims then 1 else 0;
  text = line (codes "claims" ∷ decimal (length claims) ∷ []) ++ flat_map claim_line claims;
}

-- what is true of each claim of a file of evidence, or the first thing that refuses that
unfoldable pub verify_plan : VerifyRequest → Work Ending
verify_plan q = do
  bytes ← load EvidenceInput q.evidence
  claims ← Room (checked (verified q.root bytes))
  room ← want
  Done (verified_ending claims)
