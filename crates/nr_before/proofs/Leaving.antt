-- One entry more.
use Rattle.std.proofs.Common.{◌≡◌, ℕ, ◌+◌, ◌<◌, ◌≤◌, ◌^◌, List, [], ◌∷◌, ◌++◌, length, slice_index, Result, Ok, Err, IfOk, IfErr, refl, sym, ap, subst, ◌∙◌, length-append, arith}
use Rattle.std.proofs.lemmas.List.Sums.{count_by-le-length}
use Rattle.nr_spec_log.specs.Chain.{Chain, LogEntry, chained, link_value, shown, value_after}
use Rattle.nr_spec_entry.specs.ContentReading.{content_of}
use Rattle.nr_spec_routes.specs.Keys.{Row}
use Rattle.nr_spec_routes.specs.Rows.{rows_after}
use Rattle.nr_spec_counts.specs.Tallies.{Tally, is_commit, is_send_to, nothing_yet, tally_after}
use Rattle.nr_spec_steps.specs.Heads.{log_chain}
use Rattle.nr_spec_steps.specs.Steps.{known}
use Rattle.nr_discipline.specs.Kept as counts
use Rattle.nr_discipline.specs.Kept.{IsKeptOf}
use Rattle.nr_spec_counts.specs.Bodies.{checkpoint_body}
use Rattle.nr_spec_report.specs.Wrong.{nothing_before}
use Rattle.nr_spec_bodies.specs.Bases.{body_of, state_after}
use Rattle.nr_discipline.specs.Lengths.{SaysTooLong}
use Rattle.nr_discipline.specs.declared.encoding.EncodeError.{EncodeError}
use Rattle.nr_before.specs.Behinds.{IsLeftBy, Kept}

-- ---- room for one more

pub room_sends : (log : List LogEntry) (k : counts.Kept) → IsKeptOf (known log) k → length log < 2 ^ 62 → (n : ℕ) → n < 256 → slice_index k.sends n + 1 < 2 ^ 64
unfolding tally_after
room_sends log k kept few n below =
    let is = kept.sends n below in
    let most = count_by-le-length (λ e. is_send_to n (content_of e)) log in
    omega arith

most_commits : (log : List LogEntry) → (known log).commits ≤ length log
unfolding tally_after
most_commits log = let most = count_by-le-length (λ e. is_commit (content_of e)) log in omega arith

pub room_commits : (log : List LogEntry) (k : counts.Kept) → IsKeptOf (known log) k → length log < 2 ^ 62 → k.commits + 1 < 2 ^ 64
room_commits log k kept few =
    let is = kept.commits in
    let most = most_commits log in
    omega arith

-- ---- none, and one more

pub known_none : known [] ≡ nothing_yet
unfolding tally_after
known_none = refl

pub rows_none : (rows : List Row) → rows ≡ [] → rows ≡ rows_after [] []
unfolding rows_after
rows_none rows none = none

pub counts_none : (k : counts.Kept) → IsKeptOf nothing_yet k → IsKeptOf (known []) k
counts_none k kept = subst (λ (t : Tally). IsKeptOf t k) (sym known_none) kept

value_more : (chain : Chain) (log : List LogEntry) (e : LogEntry) → value_after chain (log ++ e ∷ []) ≡ link_value (value_after chain log) (chain.seq + length log) (shown e)
value_more chain [] e = let same : chain.seq ≡ chain.seq + 0 = omega arith in ap (λ (k : ℕ). link_value chain.value k (shown e)) same
value_more chain (x ∷ xs) e =
    let next : chain.seq + 1 + length xs ≡ chain.seq + length (x ∷ xs) = omega arith in
    value_more (chained chain (shown x)) xs e ∙ ap (λ (k : ℕ). link_value (value_after (chained chain (shown x)) xs) k (shown e)) next

pub left_more : (asn : ℕ) (log : List LogEntry) (e : LogEntry) (k more : Kept) → IsLeftBy asn log k
    → ((base : List Row) (past : List LogEntry) → k.rows ≡ rows_after base past → more.rows ≡ rows_after base (past ++ e ∷ []))
    → ((base : Tally) (past : List LogEntry) → IsKeptOf (tally_after base past) k.counts → IsKeptOf (tally_after base (past ++ e ∷ [])) more.counts)
    → more.chain ≡ chained k.chain (shown e) → IsLeftBy asn (log ++ e ∷ []) more
left_more asn log e k more left rows counted walked = record {
  rows = rows [] log left.rows;
  counts = counted nothing_yet log left.counts;
  value =
      let at : k.chain.seq ≡ 1 + length log = omega (arith, left.seq) in
      ap (λ (c : Chain). c.value) walked ∙ (λ i. link_value (left.value i) (at i) (shown e)) ∙ sym (value_more (log_chain asn) log e);
  seq =
      let long = length-append log (e ∷ []) in
      let next : more.chain.seq ≡ k.chain.seq + 1 = ap (λ (c : Chain). c.seq) walked in
      omega (arith, left.seq, long, next);
}

-- ---- the body

body_is : (asn : ℕ) (log : List LogEntry) (k : Kept) → IsLeftBy asn log k → checkpoint_body (known log) k.rows ≡ body_of (state_after nothing_before log)
body_is asn log k left = ap (checkpoint_body (known log)) left.rows

pub ok_body : {V : Type 0} (result : Result V EncodeError) (items : V → List ℕ) (inside k : Kept) → inside ≡ k
    → ((t : Tally) → IsKeptOf t inside.counts → IfOk result (λ v. items v ≡ checkpoint_body t inside.rows))
    → IfOk result (λ v. (asn : ℕ) (log : List LogEntry) → IsLeftBy asn log k → items v ≡ body_of (state_after nothing_before log))
ok_body (Ok v) items inside k same given = λ asn log left.
    let own = subst (IsLeftBy asn log) (sym same) left in
    given (known log) own.counts ∙ body_is asn log inside own
ok_body (Err e) items inside k same given = tt

pub long_body : {V : Type 0} (result : Result V EncodeError) (inside k : Kept) → inside ≡ k
    → ((t : Tally) → IsKeptOf t inside.counts → IfErr result (λ e. SaysTooLong e (length (checkpoint_body t inside.rows))))
    → IfErr result (λ e. (asn : ℕ) (log : List LogEntry) → IsLeftBy asn log k → SaysTooLong e (length (body_of (state_after nothing_before log))))
long_body (Ok v) inside k same given = tt
long_body (Err e) inside k same given = λ asn log left.
    let own = subst (IsLeftBy asn log) (sym same) left in
    subst (λ (body : List ℕ). SaysTooLong e (length body)) (body_is asn log inside own) (given (known log) own.counts)
