-- The digest of the body with which a CHECKPOINT is compared.
use Rattle.std.specs.Prelude.{◌≡◌, ℕ, Bool, List, Option, Some, false, true}
use Rattle.sha2.specs.Sha256.{sha256}
use Rattle.nr_spec_entry.specs.Contents.{Checkpoint, Content}
use Rattle.nr_spec_routes.specs.Keys.{Row}
use Rattle.nr_spec_counts.specs.Tallies.{Tally}
use Rattle.nr_spec_counts.specs.Bodies.{checkpoint_body}

abbrev pub is_checkpoint : Option Content → Bool
is_checkpoint (Some (Checkpoint body)) = true
is_checkpoint other = false

-- where a content is a CHECKPOINT, this is the digest of the body of the state before it
abbrev pub IsDigestFor : Option Content → Tally → List Row → List ℕ → Type 0
IsDigestFor content t rows digest = is_checkpoint content ≡ true → digest ≡ sha256 (checkpoint_body t rows)
