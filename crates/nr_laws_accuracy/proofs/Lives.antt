-- A recorder's logs, one after another.
use Rattle.std.proofs.Common.{◌≡◌, ℕ, ◌+◌, ◌<◌, ◌≤◌, inl, inr, Bool, true, false, cond, not, eqb, List, [], ◌∷◌, ◌++◌, Some, refl, sym, ap, subst, append_assoc, arith}
use Rattle.std.proofs.lemmas.Bool.{eqb-true}
use Rattle.std.proofs.lemmas.List.Sums.{sum_by-append}
use Rattle.std.specs.List.{AllByRecursion, IsDistinct}
use Rattle.nr_spec_log.specs.Chain.{LogEntry}
use Rattle.nr_spec_entry.specs.Contents.{Commit, Content}
use Rattle.nr_spec_entry.specs.ContentReading.{content_of}
use Rattle.nr_spec_counts.specs.Tallies.{is_commit, Numbers, tally_after}
use Rattle.nr_spec_counts.specs.Causes.{is_wrong_leaf}
use Rattle.nr_spec_steps.specs.Steps.{known, Recorder}
use Rattle.nr_spec_steps.specs.Telling.{IsRecorder}
use Rattle.nr_laws_accuracy.specs.Allowed.{IsAllowed, leaves_of}
use Rattle.nr_laws_accuracy.specs.Lives.{AreLivesFrom, Follows, Turned}
use Rattle.nr_laws_accuracy.proofs.Allowed.{Clean, clean_within}
use Rattle.nr_laws_accuracy.specs.Times.{AreOrdered}
use Rattle.nr_laws_accuracy.proofs.Times.{ordered_join, turn_ordered}
use Rattle.nr_laws_accuracy.proofs.Turns.{Holds, turn_allowed, turn_leaves, empty_holds, leaves_differ, leaves_fit}

-- ---- lives

turned_holds : (r : Recorder) (log next : List LogEntry) → IsRecorder r → Holds r log → Turned r log next → Holds r next
turned_holds r log next is h t = subst (Holds r) (sym t.is) (record {
  allowed = turn_allowed r t.events log t.batch is h.allowed t.may t.done;
  leaves = turn_leaves r t.events log t.batch is h.allowed h.leaves t.may t.done;
})

follows_holds : (r : Recorder) (log next : List LogEntry) → IsRecorder r → Holds r log → Follows r log next → Holds r next
follows_holds r log next is h (inl same) = subst (Holds r) (sym same) h
follows_holds r log next is h (inr t) = turned_holds r log next is h t

lives_hold : (r : Recorder) (logs : List (List LogEntry)) (log : List LogEntry) → IsRecorder r → Holds r log → AreLivesFrom r log logs → AllByRecursion (Holds r) logs
lives_hold r [] log is h lives = tt
lives_hold r (next ∷ others) log is h lives = let k = follows_holds r log next is h lives.0 in (k, lives_hold r others next is k lives.1)

map_all : {P Q : List LogEntry → Type 0} → ((log : List LogEntry) → P log → Q log) → (logs : List (List LogEntry)) → AllByRecursion P logs → AllByRecursion Q logs
map_all f [] h = tt
map_all f (log ∷ logs) h = (f log h.0, map_all f logs h.1)

pub lives_allowed : (r : Recorder) (logs : List (List LogEntry)) → IsRecorder r → AreLivesFrom r [] logs → AllByRecursion (λ log. IsAllowed r.own log) logs
lives_allowed r logs is lives = map_all {P = Holds r} {Q = λ log. IsAllowed r.own log} (λ log h. h.allowed) logs (lives_hold r logs [] is (empty_holds r) lives)

pub lives_differ : (r : Recorder) (logs : List (List LogEntry)) → IsRecorder r → AreLivesFrom r [] logs → AllByRecursion (λ log. IsDistinct eqb (leaves_of log)) logs
lives_differ r logs is lives = map_all {P = Holds r} {Q = λ log. IsDistinct eqb (leaves_of log)} (λ log h. leaves_differ r.own log h.allowed) logs (lives_hold r logs [] is (empty_holds r) lives)

pub lives_fit : (r : Recorder) (logs : List (List LogEntry)) → IsRecorder r → AreLivesFrom r [] logs → AllByRecursion (λ log. AllByRecursion (λ leaf. leaf < r.leaves) (leaves_of log)) logs
lives_fit r logs is lives = map_all {P = Holds r} {Q = λ log. AllByRecursion (λ leaf. leaf < r.leaves) (leaves_of log)} (λ log h. leaves_fit r log h) logs (lives_hold r logs [] is (empty_holds r) lives)

follows_ordered : (r : Recorder) (log next : List LogEntry) → AreOrdered 0 log → Follows r log next → AreOrdered 0 next
follows_ordered r log next h (inl same) = subst (AreOrdered 0) (sym same) h
follows_ordered r log next h (inr t) = subst (AreOrdered 0) (sym t.is) (ordered_join 0 log t.batch h (turn_ordered r t.events log t.batch t.done))

lives_ordered : (r : Recorder) (logs : List (List LogEntry)) (log : List LogEntry) → AreOrdered 0 log → AreLivesFrom r log logs → AllByRecursion (λ log. AreOrdered 0 log) logs
lives_ordered r [] log h lives = tt
lives_ordered r (next ∷ others) log h lives = let k = follows_ordered r log next h lives.0 in (k, lives_ordered r others next k lives.1)

pub law_lives_ordered : (r : Recorder) (logs : List (List LogEntry)) → AreLivesFrom r [] logs → AllByRecursion (λ log. AreOrdered 0 log) logs
law_lives_ordered r logs lives = lives_ordered r logs [] tt lives

-- ---- no leaf stands in two COMMITs

pub leaf_by : (own : Numbers) (past : List LogEntry) (e : LogEntry) (n leaf : ℕ) → Clean own past e → content_of e ≡ Some (Commit n leaf) → leaf ≡ (known past).commits
leaf_by own past e n leaf c is =
    let t = known past in
    let same : c.content ≡ Commit n leaf = cc (c.is) in
    let right : is_wrong_leaf t (Commit n leaf) ≡ false = subst (λ (x : Content). is_wrong_leaf t x ≡ false) same c.leaf in
    eqb-true _ _ (by (eqb leaf t.commits) right)
  where
    by : (b : Bool) → not b ≡ false → b ≡ true
    by true e = refl
    by false e = absurd cc

pub commits_more : (before middle : List LogEntry) (d : LogEntry) → is_commit (content_of d) ≡ true → (known before).commits + 1 ≤ (known (before ++ d ∷ middle)).commits
unfolding tally_after
commits_more before middle d is =
    let one = sum_by-append (λ (x : LogEntry). cond (is_commit (content_of x)) 1 0) before (d ∷ middle) in
    let two = sum_by-append (λ (x : LogEntry). cond (is_commit (content_of x)) 1 0) (d ∷ []) middle in
    let here = ap (λ (b : Bool). let k : ℕ = cond b 1 0 in k) is in
    omega (arith, one, two, here)

pub one_commit : (own : Numbers) (log before middle after : List LogEntry) (d e : LogEntry) (m n leaf : ℕ) → IsAllowed own log → log ≡ before ++ d ∷ (middle ++ e ∷ after)
    → content_of d ≡ Some (Commit m leaf) → content_of e ≡ Some (Commit n leaf) → ⊥
one_commit own log before middle after d e m n leaf allowed is first second =
    let split : IsAllowed own (before ++ d ∷ (middle ++ e ∷ after)) = subst (IsAllowed own) is allowed in
    let again : before ++ d ∷ (middle ++ e ∷ after) ≡ (before ++ d ∷ middle) ++ e ∷ after = sym (append_assoc before (d ∷ middle) (e ∷ after)) in
    let a = leaf_by own before d m leaf (clean_within own before [] d (middle ++ e ∷ after) split) first in
    let b = leaf_by own (before ++ d ∷ middle) e n leaf (clean_within own (before ++ d ∷ middle) [] e after (subst (IsAllowed own) again split)) second in
    let more = commits_more before middle d (ap is_commit first) in
    omega (arith, a, b, more)
