-- What an authenticator of a COMMIT signs is what the COMMIT signs.
use Rattle.std.proofs.Common.{◌≡◌, ℕ, ◌+◌, ◌-◌, ◌%◌, ◌^◌, ◌<◌, ◌≤◌, Bool, true, false, cond, List, [], ◌∷◌, ◌++◌, length, take, Option, Some, None, refl, sym, ap, subst, ◌∙◌, append_assoc, arith}
use Rattle.std.proofs.lemmas.Bool.{eqb-true}
use Rattle.std.proofs.lemmas.List.{length-append}
use Rattle.std.proofs.Math.Nat.{mod-eq_of_lt}
use Rattle.std.specs.Option.{option_map, unwrap_or}
use Rattle.nr_spec_log.specs.Chain.{LogEntry, Chain, chained, link_value, shown, value_after}
use Rattle.nr_spec_log.specs.Answer.{AnswerFile, last_time}
use Rattle.nr_spec_keys.specs.Trees.{signature_by}
use Rattle.nr_spec_history.specs.KeyFiles.{Key}
use Rattle.nr_spec_entry.specs.Contents.{Ack, auditor, Checkpoint, Commit, Content, Promise, Recv, Send, State}
use Rattle.nr_spec_entry.specs.ContentReading.{content_of}
use Rattle.nr_spec_routes.specs.LookBack.{after_last, last_of, later_or}
use Rattle.nr_spec_routes.proofs.Words.{last_of-push}
use Rattle.nr_spec_counts.specs.Tallies.{is_commit, is_commit_to, Numbers}
use Rattle.nr_spec_steps.specs.Steps.{known}
use Rattle.nr_spec_steps.specs.Heads.{SignedHead, answer_from_first, head_body, head_in, head_of, heads_from, last_leaf, leaf_in, log_chain, signed_heads, whole_answer}
use Rattle.nr_laws_accuracy.specs.Allowed.{IsAllowed}
use Rattle.nr_laws_accuracy.specs.Signed.{IsSignedIn}
use Rattle.nr_laws_accuracy.proofs.Allowed.{clean_within}
use Rattle.nr_laws_accuracy.proofs.Lives.{commits_more, leaf_by}

-- ---- the chain at an entry

abbrev chain_after : Chain → List LogEntry → Chain
chain_after chain [] = chain
chain_after chain (e ∷ es) = chain_after (chained chain (shown e)) es

value_at : (before : List LogEntry) (e : LogEntry) (chain : Chain) → value_after chain (before ++ e ∷ []) ≡ link_value (chain_after chain before).value (chain_after chain before).seq (shown e)
value_at [] e chain = refl
value_at (x ∷ before) e chain = value_at before e (chained chain (shown x))

seq_at : (before : List LogEntry) (chain : Chain) → (chain_after chain before).seq ≡ chain.seq + length before
seq_at [] chain = omega arith
seq_at (x ∷ before) chain = let later = seq_at before (chained chain (shown x)) in omega (arith, later)

time_at : (before : List LogEntry) (e : LogEntry) (last : ℕ) → last_time last (before ++ e ∷ []) ≡ e.time
time_at [] e last = refl
time_at (x ∷ before) e last = time_at before e x.time

-- what is signed of an entry behind others
abbrev body_behind : ℕ → Chain → LogEntry → List ℕ
body_behind asn chain e = head_body asn chain.seq e.time (link_value chain.value chain.seq (shown e))

heads_at : (asn : ℕ) (before : List LogEntry) (e : LogEntry) (later : List LogEntry) (chain : Chain)
    → heads_from asn chain (before ++ e ∷ later) ≡ heads_from asn chain before ++ (head_in (content_of e) (body_behind asn (chain_after chain before) e) ++ heads_from asn (chained (chain_after chain before) (shown e)) later)
heads_at asn [] e later chain = refl
heads_at asn (x ∷ before) e later chain =
    let next = chained chain (shown x) in
    let here = head_in (content_of x) (body_behind asn chain x) in
    let rest = head_in (content_of e) (body_behind asn (chain_after next before) e) ++ heads_from asn (chained (chain_after next before) (shown e)) later in
    ap (λ (l : List SignedHead). here ++ l) (heads_at asn before e later next) ∙ sym (append_assoc here (heads_from asn next before) rest)

-- ---- the leaf

-- the leaf of the last entry, where it is a COMMIT with a leaf of the key
leaf_is : (height : ℕ) (before : List LogEntry) (e : LogEntry) (n leaf : ℕ) → content_of e ≡ Some (Commit n leaf) → leaf < 2 ^ height → last_leaf height (before ++ e ∷ []) ≡ leaf
leaf_is height before e n leaf is lt =
    let found : last_of (λ x. leaf_in (content_of x)) (before ++ e ∷ []) ≡ later_or (Some leaf) (last_of (λ x. leaf_in (content_of x)) before) =
    last_of-push (λ x. leaf_in (content_of x)) before e ∙ ap (λ (o : Option Content). later_or (leaf_in o) (last_of (λ x. leaf_in (content_of x)) before)) is in
    ap (λ (o : Option ℕ). unwrap_or o 0 % 2 ^ height) found ∙ mod-eq_of_lt lt

leaf_fits : (own : Numbers) (height : ℕ) (before : List LogEntry) (e : LogEntry) (later : List LogEntry) (n leaf : ℕ) → IsAllowed own (before ++ e ∷ later) → (known (before ++ e ∷ later)).commits ≤ 2 ^ height → content_of e ≡ Some (Commit n leaf) → leaf < 2 ^ height
leaf_fits own height before e later n leaf allowed le is =
    let same = leaf_by own before e n leaf (clean_within own before [] e later allowed) is in
    let more = commits_more before later e (ap is_commit is) in
    omega (arith, same, more, le)

-- ---- the authenticator of a COMMIT

signed_by : (own : Numbers) (key : Key) (before : List LogEntry) (e : LogEntry) (later : List LogEntry) (n leaf : ℕ) → IsAllowed own (before ++ e ∷ later) → (known (before ++ e ∷ later)).commits ≤ 2 ^ key.height → content_of e ≡ Some (Commit n leaf)
    → IsSignedIn key (before ++ e ∷ later) (head_of key (before ++ e ∷ []))
unfolding head_of signed_heads
signed_by own key before e later n leaf allowed le is =
    let start = log_chain key.asn in
    let at = chain_after start before in
    let body = body_behind key.asn at e in
    let head : SignedHead = record { leaf = leaf; body = body } in
    let seq : length (before ++ e ∷ []) ≡ at.seq = omega (arith, length-append before (e ∷ []), seq_at before start) in
    let time : last_time 0 (before ++ e ∷ []) ≡ e.time = time_at before e 0 in
    let value : value_after start (before ++ e ∷ []) ≡ link_value at.value at.seq (shown e) = value_at before e start in
    let same : head_body key.asn (length (before ++ e ∷ [])) (last_time 0 (before ++ e ∷ [])) (value_after start (before ++ e ∷ [])) ≡ body = λ i. head_body key.asn (seq i) (time i) (value i) in
    let number : last_leaf key.height (before ++ e ∷ []) ≡ leaf = leaf_is key.height before e n leaf is (leaf_fits own key.height before e later n leaf allowed le is) in
    record {
      earlier = heads_from key.asn start before;
      head = head;
      later = heads_from key.asn (chained at (shown e)) later;
      among = heads_at key.asn before e later start
          ∙ ap (λ (o : Option Content). heads_from key.asn start before ++ (head_in o body ++ heads_from key.asn (chained at (shown e)) later)) is;
      body = same;
      sig = λ i. signature_by key.seed key.height (number i) (same i);
    }

pub commit_signed : (own : Numbers) (key : Key) (log before later : List LogEntry) (e : LogEntry) (n leaf : ℕ) → IsAllowed own log → (known log).commits ≤ 2 ^ key.height → log ≡ before ++ e ∷ later → content_of e ≡ Some (Commit n leaf)
    → IsSignedIn key log (head_of key (before ++ e ∷ []))
commit_signed own key log before later e n leaf allowed le is content =
    subst (λ (l : List LogEntry). IsSignedIn key l (head_of key (before ++ e ∷ []))) (sym is)
    (signed_by own key before e later n leaf (subst (IsAllowed own) is allowed) (subst (λ (l : List LogEntry). (known l).commits ≤ 2 ^ key.height) is le) content)

-- ---- whole answers

-- where the last that passes stands
record Last (test : LogEntry → Bool) (log later : List LogEntry) : Type 0 where
  pub before : List LogEntry
  pub e : LogEntry
  pub is : log ≡ before ++ e ∷ later
  pub passes : test e ≡ true

last_by : (b : Bool) (o : Option (List LogEntry)) (test : LogEntry → Bool) (d : LogEntry) (es later : List LogEntry) → test d ≡ b → ((l : List LogEntry) → o ≡ Some l → Last test es l)
    → later_or o (cond b (Some es) None) ≡ Some later → Last test (d ∷ es) later
last_by b (Some l) test d es later is found e =
    let same : l ≡ later = cc in
    let k = found l refl in
    subst (Last test (d ∷ es)) same (record { before = d ∷ k.before; e = k.e; is = ap (λ (x : List LogEntry). d ∷ x) k.is; passes = k.passes })
last_by true None test d es later is found e =
    let same : es ≡ later = cc in
    record { before = []; e = d; is = ap (λ (x : List LogEntry). d ∷ x) same; passes = is }
last_by false None test d es later is found e = absurd cc

last_at : (test : LogEntry → Bool) (log later : List LogEntry) → after_last test log ≡ Some later → Last test log later
last_at test [] later e = absurd cc
last_at test (d ∷ es) later e = last_by (test d) (after_last test es) test d es later refl (λ l is. last_at test es l is) e

-- a COMMIT to a neighbour has some leaf
record IsTo (n : ℕ) (o : Option Content) : Type 0 where
  pub leaf : ℕ
  pub is : o ≡ Some (Commit n leaf)

to_by : (n : ℕ) (o : Option Content) → is_commit_to n o ≡ true → IsTo n o
to_by n None e = absurd cc
to_by n (Some (Send k as4 raw)) e = absurd cc
to_by n (Some (Recv k as4 raw)) e = absurd cc
to_by n (Some (State k old new)) e = absurd cc
to_by n (Some (Ack k upto seq time hash sig)) e = absurd cc
to_by n (Some (Commit k leaf)) e = record { leaf = leaf; is = ap (λ (x : ℕ). Some (Commit x leaf)) (eqb-true k n e) }
to_by n (Some (Checkpoint body)) e = absurd cc
to_by n (Some (Promise file count delay)) e = absurd cc

take_front : (xs ys : List LogEntry) → take (length xs) (xs ++ ys) ≡ xs
take_front [] ys = refl
take_front (x ∷ xs) ys = ap (λ (l : List LogEntry). x ∷ l) (take_front xs ys)

-- the entries up to one
take_to : (before : List LogEntry) (e : LogEntry) (later : List LogEntry) → take (length (before ++ e ∷ later) - length later) (before ++ e ∷ later) ≡ before ++ e ∷ []
take_to before e later =
    let size : length (before ++ e ∷ later) - length later ≡ length (before ++ e ∷ []) = omega (arith, length-append before (e ∷ later), length-append before (e ∷ [])) in
    let same : before ++ e ∷ later ≡ (before ++ e ∷ []) ++ later = sym (append_assoc before (e ∷ []) later) in
    (λ i. take (size i) (same i)) ∙ take_front (before ++ e ∷ []) later

answer_by : (own : Numbers) (key : Key) (log : List LogEntry) (answer : AnswerFile) (o : Option (List LogEntry)) → after_last (λ e. is_commit_to auditor (content_of e)) log ≡ o → IsAllowed own log → (known log).commits ≤ 2 ^ key.height
    → option_map (λ k. answer_from_first key (take k log)) (option_map (λ (later : List LogEntry). length log - length later) o) ≡ Some answer → IsSignedIn key log answer.head
answer_by own key log answer None found allowed le e = absurd cc
answer_by own key log answer (Some later) found allowed le e =
    let k = last_at (λ x. is_commit_to auditor (content_of x)) log later found in
    let to = to_by auditor (content_of k.e) k.passes in
    let same : answer_from_first key (take (length log - length later) log) ≡ answer = cc in
    let front : take (length log - length later) log ≡ k.before ++ k.e ∷ [] = ap (λ (l : List LogEntry). take (length l - length later) l) k.is ∙ take_to k.before k.e later in
    subst (λ (a : AnswerFile). IsSignedIn key log a.head) (ap (answer_from_first key) (sym front) ∙ same) (commit_signed own key log k.before later k.e auditor to.leaf allowed le k.is to.is)

pub answer_signed : (own : Numbers) (key : Key) (log : List LogEntry) (answer : AnswerFile) → IsAllowed own log → (known log).commits ≤ 2 ^ key.height → whole_answer key log ≡ Some answer → IsSignedIn key log answer.head
unfolding whole_answer
answer_signed own key log answer allowed le e =
    answer_by own key log answer (after_last (λ x. is_commit_to auditor (content_of x)) log) refl allowed le e
