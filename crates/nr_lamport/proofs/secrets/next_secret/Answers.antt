-- The bytes drawn are the words of a secret.
use Rattle.std.proofs.Common.{ℕ, List, ap, ◌∙◌}
use Rattle.rand_chacha.specs.ChaCha.{ChaCha}
use Rattle.nr_lamport.proofs.WordLemmas.{fill-words_of}
use Rattle.nr_lamport.proofs.secrets.next_secret.Goals as goal

pub returns-clause-value : goal.returns-clause-value
returns-clause-value c = ap (λ (p : List ℕ × ChaCha). p.0) (c.fill_bytes_via_u32.ensures ∙ fill-words_of c.args.secrets.now c.requires)

pub returns-clause-onward : goal.returns-clause-onward
returns-clause-onward c = ap (λ (p : List ℕ × ChaCha). p.1) (c.fill_bytes_via_u32.ensures ∙ fill-words_of c.args.secrets.now c.requires)
