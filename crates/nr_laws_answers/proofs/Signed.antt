-- The head of a whole answer.
use Rattle.std.proofs.Common.{◌≡◌, ℕ, suc, ◌+◌, ◌%◌, ◌^◌, ◌<◌, Bool, true, false, List, [], ◌∷◌, ◌++◌, length, take, Option, Some, None, Ok, Result, refl, ap, sym, subst, ◌∙◌, append_assoc, arith, eq-eqb}
use Rattle.std.specs.Prelude.{Contains, nat_le, not, option_map, unwrap_or}
use Rattle.std.specs.Str.{bytes_eq}
use Rattle.std.proofs.Math.Nat.{mod-eq_of_lt}
use Rattle.std.proofs.lemmas.Nat.{mod_below, pow_pos}
use Rattle.std.proofs.lemmas.List.{length-append, take_at}
use Rattle.std.proofs.lemmas.List.Elements.{Contains-append_left, Contains-append_right}
use Rattle.std.proofs.lemmas.Slice.Eq.{bytes_eq-Decides}
use Rattle.nr_spec_log.specs.Chain.{Chain, LogEntry, chained, link_value, shown, value_after}
use Rattle.nr_spec_log.specs.Authenticator.{Authenticator, signed_body}
use Rattle.nr_spec_log.specs.Answer.{AnswerFile, last_time}
use Rattle.nr_spec_keys.specs.Trees.{signature_by}
use Rattle.nr_spec_keys.proofs.TreeLemmas.{signature_by-leads}
use Rattle.nr_spec_history.specs.Conflicts.{Period, answer_value, is_signed}
use Rattle.nr_spec_history.specs.KeyFiles.{Key, key_root}
use Rattle.nr_spec_entry.specs.Contents.{Commit, auditor}
use Rattle.nr_spec_entry.specs.ContentReading.{content_of}
use Rattle.nr_spec_routes.specs.LookBack.{last_of, later_or}
use Rattle.nr_spec_truth.specs.Truths.{Truth}
use Rattle.nr_spec_report.specs.Wrong.{nothing_before}
use Rattle.nr_spec_outcome.specs.Report.{Report}
use Rattle.nr_spec_outcome.specs.Outcome.{Audited, Fact, Form, Head, Network, Promise, Short, Unsigned, digests_in_force, file_of_other, first_digest, holds_or, misfit, numbers_of_all, outcome, outcome_over, promise_fact, refused_by, report_of}
use Rattle.nr_spec_steps.specs.Heads.{SignedHead, answer_from_first, head_body, head_in, head_of, heads_from, last_leaf, leaf_in, log_chain, signed_heads, whole_answer}
use Rattle.nr_laws_answers.specs.Commits.{IsLastCommit}
use Rattle.nr_laws_answers.specs.Refusals.{IsNotOfItself}
use Rattle.nr_laws_answers.proofs.Looking.{Found, last_of_found, one_last, one_leaf}
use Rattle.nr_laws_answers.proofs.Whole.{made}

-- ---- signature and hash

bytes_same : (x y : List ℕ) → x ≡ y → bytes_eq x y ≡ true
bytes_same x y is = (bytes_eq-Decides x y).1 is

head_is_signed : (key : Key) (log : List LogEntry) → is_signed (key_root key) (head_of key log) ≡ true
unfolding head_of key_root
head_is_signed key log =
    let body = head_body key.asn (length log) (last_time 0 log) (value_after (log_chain key.asn) log) in
    let leaf = last_leaf key.height log in
    bytes_same _ _ (signature_by-leads key.seed body key.height leaf (mod_below _ (2 ^ key.height) (pow_pos key.height)))

pub whole_is_signed : (key : Key) (log : List LogEntry) (answer : AnswerFile) → whole_answer key log ≡ Some answer → is_signed (key_root key) answer.head ≡ true
whole_is_signed key log answer is =
    let m = made key log answer is in
    subst (λ (a : AnswerFile). is_signed (key_root key) a.head ≡ true) m.is (head_is_signed key (take m.seq log))

head_ends_chain : (key : Key) (log : List LogEntry) → bytes_eq ((answer_from_first key log).head).hash (answer_value (answer_from_first key log)) ≡ true
unfolding head_of
head_ends_chain key log = let value = value_after (log_chain key.asn) log in bytes_same value value refl

pub whole_ends_chain : (key : Key) (log : List LogEntry) (answer : AnswerFile) → whole_answer key log ≡ Some answer → bytes_eq answer.head.hash (answer_value answer) ≡ true
whole_ends_chain key log answer is =
    let m = made key log answer is in
    subst (λ (a : AnswerFile). bytes_eq a.head.hash (answer_value a) ≡ true) m.is (head_ends_chain key (take m.seq log))

-- ---- what it isn't refused for

met : (test : Bool) (fact : Fact) (next : Result Report Fact) → test ≡ true → IsNotOfItself next → IsNotOfItself (holds_or test fact next)
met true fact next is fine = fine
met false fact next is fine = absurd cc

short_or : (test : Bool) (head to : ℕ) (next : Result Report Fact) → IsNotOfItself next → IsNotOfItself (holds_or test (Short head to) next)
short_or true head to next fine = fine
short_or false head to next fine = tt

other_or : (other : Option Audited) (asn : ℕ) (next : Result Report Fact) → IsNotOfItself next → IsNotOfItself (refused_by (option_map (λ f. Network asn f.network) other) next)
other_or None asn next fine = fine
other_or (Some f) asn next fine = tt

promise_or : (found : Option (Option (List ℕ))) (file : List ℕ) (report : Report) → IsNotOfItself (refused_by (option_map (λ digest. Promise digest file) found) (Ok report))
promise_or None file report = tt
promise_or (Some digest) file report = tt

not_of_itself : (root : List ℕ) (files : List Audited) (truth : Truth) (a : AnswerFile) (period : Period) (auths : List Authenticator)
    → is_signed root a.head ≡ true → bytes_eq a.head.hash (answer_value a) ≡ true → IsNotOfItself (outcome_over root files truth nothing_before a period auths)
unfolding outcome_over
not_of_itself root files truth a period auths signed ends =
    let report = report_of root files truth nothing_before a period auths in
    let numbers = numbers_of_all files in
    let digests = digests_in_force nothing_before period a.entries in
    let above = not (nat_le a.head.time period.to) in
    let promised : Result Report Fact = refused_by (promise_fact numbers digests) (Ok report) in
    let in_time : Result Report Fact = holds_or above (Short a.head.time period.to) promised in
    let hashed : Result Report Fact = holds_or (bytes_eq a.head.hash (answer_value a)) (Head a.head.hash (answer_value a)) in_time in
    let proved : Result Report Fact = holds_or (is_signed root a.head) Unsigned hashed in
    other_or (file_of_other a.asn files) a.asn proved
    (met (is_signed root a.head) Unsigned hashed signed
    (met (bytes_eq a.head.hash (answer_value a)) (Head a.head.hash (answer_value a)) in_time ends
    (short_or above a.head.time period.to promised (promise_or (misfit numbers digests) (first_digest numbers) report))))

pub whole_is_not_refused : (key : Key) (log : List LogEntry) (answer : AnswerFile) (files : List Audited) (truth : Truth) (period : Period) (auths : List Authenticator)
    → whole_answer key log ≡ Some answer → IsNotOfItself (outcome (key_root key) files truth answer period auths)
unfolding outcome
whole_is_not_refused key log answer files truth period auths is =
    let m = made key log answer is in
    let first : answer.first ≡ 1 = ap (λ (a : AnswerFile). a.first) (sym m.is) in
    met _ Form _ (eq-eqb answer.first 1 first)
    (not_of_itself (key_root key) files truth answer period auths (whole_is_signed key log answer is) (whole_ends_chain key log answer is))

-- ---- what the last COMMIT signs

-- the entries up to the COMMIT, and with it
up_to : (log : List LogEntry) (seq : ℕ) (f : Found auditor log seq) → take seq log ≡ f.at.before ++ (f.at.entry ∷ [])
up_to log seq f =
    let c = f.at in
    let front = c.before ++ (c.entry ∷ []) in
    let long : length front ≡ seq = omega (arith, length-append c.before (c.entry ∷ []), f.number) in
    ap (take seq) (c.is ∙ sym (append_assoc c.before (c.entry ∷ []) f.later)) ∙ take_at front f.later seq long

last_of_end : {E A : Type 0} (f : E → Option A) (xs : List E) (y : E) (a : A) → f y ≡ Some a → last_of f (xs ++ (y ∷ [])) ≡ Some a
last_of_end f [] y a is = is
last_of_end f (x ∷ xs) y a is = ap (λ o. later_or o (f x)) (last_of_end f xs y a is)

leaf_kept : (height leaf : ℕ) (before : List LogEntry) (e : LogEntry) → content_of e ≡ Some (Commit auditor leaf) → leaf < 2 ^ height
    → last_leaf height (before ++ (e ∷ [])) ≡ leaf
leaf_kept height leaf before e content less =
    ap (λ o. unwrap_or o 0 % 2 ^ height) (last_of_end (λ x. leaf_in (content_of x)) before e leaf (ap leaf_in content)) ∙ mod-eq_of_lt less

-- a head that is signed with a leaf
abbrev signed_with : ℕ → ℕ → ℕ → ℕ → List ℕ → SignedHead
signed_with leaf asn seq time value = record { leaf = leaf; body = head_body asn seq time value }

is_signed_by : (asn : ℕ) (chain : Chain) (last : ℕ) (before later : List LogEntry) (e : LogEntry) (n leaf : ℕ) → content_of e ≡ Some (Commit n leaf)
    → Contains (heads_from asn chain (before ++ (e ∷ later)))
    (signed_with leaf asn (chain.seq + length before) (last_time last (before ++ (e ∷ []))) (value_after chain (before ++ (e ∷ []))))
is_signed_by asn chain last [] later e n leaf content =
    let value = link_value chain.value chain.seq (shown e) in
    let one = signed_with leaf asn chain.seq e.time value in
    let heads = head_in (content_of e) (head_body asn chain.seq e.time value) in
    let is : heads ≡ one ∷ [] = ap (λ o. head_in o (head_body asn chain.seq e.time value)) content in
    let first : Contains (one ∷ []) one = (0, omega arith, refl) in
    let whole = Contains-append_left heads (heads_from asn (chained chain (shown e)) later) one (subst (λ (t : List SignedHead). Contains t one) (sym is) first) in
    let number : chain.seq ≡ chain.seq + 0 = omega arith in
    subst (λ (k : ℕ). Contains (heads ++ heads_from asn (chained chain (shown e)) later) (signed_with leaf asn k e.time value)) number whole
is_signed_by asn chain last (x ∷ xs) later e n leaf content =
    let next = chained chain (shown x) in
    let time = last_time x.time (xs ++ (e ∷ [])) in
    let value = value_after next (xs ++ (e ∷ [])) in
    let heads = head_in (content_of x) (head_body asn chain.seq x.time (link_value chain.value chain.seq (shown x))) in
    let others = heads_from asn next (xs ++ (e ∷ later)) in
    let number : chain.seq + 1 + length xs ≡ chain.seq + suc (length xs) = omega arith in
    let there = Contains-append_right heads others (signed_with leaf asn (chain.seq + 1 + length xs) time value) (is_signed_by asn next x.time xs later e n leaf content) in
    subst (λ (k : ℕ). Contains (heads ++ others) (signed_with leaf asn k time value)) number there

-- the answer is made of the COMMIT that is the last
record Ends (key : Key) (log : List LogEntry) (answer : AnswerFile) (leaf : ℕ) : Type 0 where
  before : List LogEntry
  later : List LogEntry
  entry : LogEntry
  content : content_of entry ≡ Some (Commit auditor leaf)
  is : answer_from_first key (before ++ (entry ∷ [])) ≡ answer
  whole : log ≡ before ++ (entry ∷ later)

ends_with : (key : Key) (log : List LogEntry) (answer : AnswerFile) (seq leaf : ℕ) → whole_answer key log ≡ Some answer → IsLastCommit auditor log seq leaf → Ends key log answer leaf
ends_with key log answer seq leaf is last =
    let m = made key log answer is in
    let found = last_of_found auditor log m.seq m.at in
    let number : seq ≡ m.seq = one_last auditor log seq m.seq leaf m.at.at.leaf last found in
    let same : m.at.at.leaf ≡ leaf = one_leaf auditor log m.seq m.at.at.leaf leaf found.is_one (subst (λ (k : ℕ). IsLastCommit auditor log k leaf) number last).is_one in
    record {
      before = m.at.at.before;
      later = m.at.later;
      entry = m.at.at.entry;
      content = m.at.at.content ∙ ap (λ (l : ℕ). Some (Commit auditor l)) same;
      is = ap (answer_from_first key) (sym (up_to log m.seq m.at)) ∙ m.is;
      whole = m.at.at.is;
    }

pub whole_has_leaf : (key : Key) (log : List LogEntry) (answer : AnswerFile) (seq leaf : ℕ) → whole_answer key log ≡ Some answer
    → IsLastCommit auditor log seq leaf → leaf < 2 ^ key.height → answer.head.sig.leaf ≡ leaf
unfolding head_of signature_by
whole_has_leaf key log answer seq leaf is last less =
    let e = ends_with key log answer seq leaf is last in
    ap (λ (a : AnswerFile). a.head.sig.leaf) (sym e.is) ∙ leaf_kept key.height leaf e.before e.entry e.content less

pub whole_is_among : (key : Key) (log : List LogEntry) (answer : AnswerFile) (seq leaf : ℕ) → whole_answer key log ≡ Some answer
    → IsLastCommit auditor log seq leaf → leaf < 2 ^ key.height → Contains (signed_heads key.asn log) (record { leaf = leaf; body = signed_body answer.head })
unfolding head_of signed_heads
whole_is_among key log answer seq leaf is last less =
    let e = ends_with key log answer seq leaf is last in
    let front = e.before ++ (e.entry ∷ []) in
    let chain = log_chain key.asn in
    let number : 1 + length e.before ≡ length front = omega (arith, length-append e.before (e.entry ∷ [])) in
    let there = is_signed_by key.asn chain 0 e.before e.later e.entry auditor leaf e.content in
    let of_log = subst (λ (t : List LogEntry). Contains (heads_from key.asn chain t) (signed_with leaf key.asn (1 + length e.before) (last_time 0 front) (value_after chain front))) (sym e.whole) there in
    let of_front = subst (λ (k : ℕ). Contains (heads_from key.asn chain log) (signed_with leaf key.asn k (last_time 0 front) (value_after chain front))) number of_log in
    subst (λ (a : AnswerFile). Contains (heads_from key.asn chain log) (record { leaf = leaf; body = signed_body a.head })) e.is of_front
