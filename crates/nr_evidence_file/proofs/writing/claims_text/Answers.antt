use Rattle.std.proofs.Common.{ℕ, List, ◌++◌, ap, ◌∙◌}
use Rattle.std.specs.List.{flat_map}
use Rattle.nr_spec_evidence.specs.Evidence.{claim_bytes}
use Rattle.nr_evidence.specs.Views.{claim_of}
use Rattle.nr_evidence_file.proofs.Pieces.{flat_of_map}
use Rattle.nr_evidence_file.proofs.writing.claims_text.Goals as goal

pub returns : goal.returns
returns c =
    c.in_ok-put_claims.ensures
    ∙ (ap (λ (o : List ℕ). o ++ flat_map (λ x. claim_bytes (claim_of x)) c.args.claims.now) c.new-out.ensures.items
    ∙ flat_of_map claim_of claim_bytes c.args.claims.now)
