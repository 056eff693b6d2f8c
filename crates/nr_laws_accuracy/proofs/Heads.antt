-- The heads that a log's COMMITs sign.
use Rattle.std.proofs.Common.{◌≡◌, ℕ, eqb, List, [], ◌∷◌, ◌++◌, map, Option, Some, None, refl, sym, ap, subst, ◌∙◌, append_assoc}
use Rattle.std.specs.List.{IsDistinct, cons_option}
use Rattle.nr_spec_log.specs.Chain.{LogEntry, Chain, shown, chained, link_value}
use Rattle.nr_spec_entry.specs.Contents.{Ack, Checkpoint, Commit, Content, Promise, Recv, Send, State}
use Rattle.nr_spec_entry.specs.ContentReading.{content_of}
use Rattle.nr_spec_counts.specs.Tallies.{Numbers}
use Rattle.nr_spec_steps.specs.Heads.{SignedHead, head_body, head_in, heads_from, leaf_in, log_chain, signed_heads}
use Rattle.nr_laws_accuracy.specs.Allowed.{IsAllowed, leaves_of}
use Rattle.nr_laws_accuracy.proofs.Turns.{leaves_differ}

abbrev leaf : SignedHead → ℕ
leaf head = head.leaf

leaf_by : (o : Option Content) (body : List ℕ) (heads : List SignedHead) (leaves : List ℕ) → map leaf heads ≡ leaves → map leaf (head_in o body ++ heads) ≡ cons_option (leaf_in o) leaves
leaf_by None body heads leaves e = e
leaf_by (Some (Send n as4 raw)) body heads leaves e = e
leaf_by (Some (Recv n as4 raw)) body heads leaves e = e
leaf_by (Some (State n old new)) body heads leaves e = e
leaf_by (Some (Ack n upto seq time hash sig)) body heads leaves e = e
leaf_by (Some (Commit n number)) body heads leaves e = ap (λ (l : List ℕ). number ∷ l) e
leaf_by (Some (Checkpoint digest)) body heads leaves e = e
leaf_by (Some (Promise file count delay)) body heads leaves e = e

-- what is signed of an entry at a place of the chain
abbrev body_at : ℕ → Chain → LogEntry → List ℕ
body_at asn chain e = head_body asn chain.seq e.time (link_value chain.value chain.seq (shown e))

leaves_from : (asn : ℕ) (es : List LogEntry) (chain : Chain) → map leaf (heads_from asn chain es) ≡ leaves_of es
leaves_from asn [] chain = refl
leaves_from asn (e ∷ es) chain = leaf_by (content_of e) (body_at asn chain e) (heads_from asn (chained chain (shown e)) es) (leaves_of es) (leaves_from asn es (chained chain (shown e)))

pub head_leaves : (asn : ℕ) (log : List LogEntry) → map leaf (signed_heads asn log) ≡ leaves_of log
unfolding signed_heads
head_leaves asn log = leaves_from asn log (log_chain asn)

pub heads_differ : (own : Numbers) (asn : ℕ) (log : List LogEntry) → IsAllowed own log → IsDistinct eqb (map leaf (signed_heads asn log))
heads_differ own asn log allowed = subst (IsDistinct eqb) (sym (head_leaves asn log)) (leaves_differ own log allowed)

grow_from : (asn : ℕ) (es later : List LogEntry) (chain : Chain) → (more : List SignedHead) × (heads_from asn chain (es ++ later) ≡ heads_from asn chain es ++ more)
grow_from asn [] later chain = (heads_from asn chain later, refl)
grow_from asn (e ∷ es) later chain =
    let next = chained chain (shown e) in
    let g = grow_from asn es later next in
    let here = head_in (content_of e) (body_at asn chain e) in
    (g.0, ap (λ (l : List SignedHead). here ++ l) g.1 ∙ sym (append_assoc here (heads_from asn next es) g.0))

-- what was signed stays what is signed
pub heads_grow : (asn : ℕ) (log later : List LogEntry) → (more : List SignedHead) × (signed_heads asn (log ++ later) ≡ signed_heads asn log ++ more)
unfolding signed_heads
heads_grow asn log later = grow_from asn log later (log_chain asn)
