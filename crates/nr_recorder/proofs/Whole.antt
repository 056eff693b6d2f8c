-- The answer of a whole log, and the spelling of its head.
use Rattle.std.proofs.Common.{◌≡◌, ℕ, ◌++◌, [], List, length, ◌∙◌}
use Rattle.nr_spec_log.specs.Chain.{LogEntry, value_after}
use Rattle.nr_spec_log.specs.Authenticator.{authenticator, signature}
use Rattle.nr_spec_log.specs.Answer.{last_time}
use Rattle.nr_spec_keys.specs.Trees.{signature_by}
use Rattle.nr_spec_history.specs.KeyFiles.{Key}
use Rattle.nr_spec_steps.specs.Heads.{head_body, head_of, last_leaf, log_chain}

pub head_spelled : (key : Key) (log : List LogEntry) (value : List ℕ) (time leaf seq : ℕ) (out : List ℕ) → value ≡ value_after (log_chain key.asn) log → time ≡ last_time 0 log → seq ≡ length log → leaf ≡ last_leaf key.height log
    → out ≡ head_body key.asn seq time value ++ signature (signature_by key.seed key.height leaf (head_body key.asn seq time value)) → out ≡ authenticator (head_of key log)
unfolding head_of
head_spelled key log value time leaf seq out value_is time_is seq_is leaf_is out_is =
    out_is ∙ (λ i. head_body key.asn (seq_is i) (time_is i) (value_is i) ++ signature (signature_by key.seed key.height (leaf_is i) (head_body key.asn (seq_is i) (time_is i) (value_is i))))

-- a body, and the signature of what is the same body
pub with_signature : (seed : List ℕ) (height leaf : ℕ) (body empty read again put out : List ℕ) → empty ≡ [] → read ≡ body → again ≡ body → put ≡ empty ++ read → out ≡ put ++ signature (signature_by seed height leaf again)
    → out ≡ body ++ signature (signature_by seed height leaf body)
with_signature seed height leaf body empty read again put out empty_is read_is again_is put_is out_is =
    out_is ∙ (λ i. (put_is ∙ (λ j. empty_is j ++ read_is j)) i ++ signature (signature_by seed height leaf (again_is i)))
