-- Entries one behind another, none of which is wrong.
use Rattle.std.proofs.Common.{◌≡◌, ℕ, suc, ◌+◌, ◌^◌, ◌<◌, inl, Bool, true, false, not, ◌&&◌, ◌||◌, eqb, List, [], ◌∷◌, ◌++◌, length, Option, Some, None, refl, sym, ap, subst, ◌∙◌, append_assoc, append-nil, arith}
use Rattle.std.proofs.lemmas.Bool.{eq-eqb, ne_eqb}
use Rattle.std.specs.List.{AllByRecursion}
use Rattle.nr_spec_log.specs.Chain.{LogEntry}
use Rattle.nr_spec_entry.specs.Contents.{auditor, Commit, Content, IsContent, kind_of, most_neighbours, promise_kind}
use Rattle.nr_spec_routes.specs.Keys.{Row}
use Rattle.nr_spec_routes.specs.Rows.{rows_after}
use Rattle.nr_spec_counts.specs.Tallies.{Numbers, Tally}
use Rattle.nr_spec_counts.specs.Causes.{cause_in, is_declared, is_stranger, is_wrong_ack, is_wrong_checkpoint, is_wrong_leaf, is_wrong_promise, leaves_overdue, lowest_overdue}
use Rattle.nr_spec_counts.specs.Steps.{counted}
use Rattle.nr_spec_steps.specs.Steps.{commits_to, is_due, known, made, neighbours_with}
use Rattle.nr_laws_accuracy.specs.Allowed.{AreAllowedAfter, cause_in_log}
use Rattle.nr_laws_entry.proofs.Spelled.{content_again}
use Rattle.nr_laws_accuracy.proofs.Ranges.{lowest_none, lowest_some, passing_first, passing_rest, passing_none}
use Rattle.nr_laws_accuracy.proofs.Tallying.{known_next, due_but, Declares, due_declared, declared_is, not_first, Sound, sound_next}

-- ---- one entry

-- what keeps a content that is appended now from each cause
pub record Fine (own : Numbers) (log : List LogEntry) (now : ℕ) (c : Content) : Type 0 where
  pub content : IsContent c
  pub first : length log ≡ 0 → kind_of c ≡ 7
  pub neighbour : is_stranger (known log).in_force c ≡ false
  pub ack : is_wrong_ack (known log) c ≡ false
  pub leaf : is_wrong_leaf (known log) c ≡ false
  pub checkpoint : is_wrong_checkpoint (known log) (rows_after [] log) c ≡ false
  pub numbers : is_wrong_promise (own ∷ []) c ≡ false
  pub overdue : leaves_overdue (lowest_overdue (known log) now) c ≡ false

first_by : (k kind : ℕ) (b : Bool) → eqb kind 7 ≡ b → (k ≡ 0 → kind ≡ 7) → (eqb (1 + k) 1 && not b) ≡ false
first_by k kind true is h = by (eqb (1 + k) 1)
  where
    by : (a : Bool) → (a && false) ≡ false
    by true = refl
    by false = refl
first_by k kind false is h = let n : eqb (1 + k) 1 ≡ false = ne_eqb (1 + k) 1 (λ e. let z : k ≡ 0 = omega arith in let s : eqb kind 7 ≡ true = eq-eqb kind 7 (h z) in cc) in rw n refl

-- no cause holds where each test is passed
pub no_cause : (files : List Numbers) (t : Tally) (rows : List Row) (seq time kind : ℕ) (c : Content) → (eqb seq 1 && not (eqb kind promise_kind)) ≡ false → is_stranger t.in_force c ≡ false → is_wrong_ack t c ≡ false → is_wrong_leaf t c ≡ false
    → is_wrong_checkpoint t rows c ≡ false → is_wrong_promise files c ≡ false → leaves_overdue (lowest_overdue t time) c ≡ false → cause_in files t rows seq time kind (Some c) ≡ None
unfolding cause_in
no_cause files t rows seq time kind c first stranger ack leaf checkpoint numbers overdue =
    rw first (rw stranger (rw ack (rw leaf (rw checkpoint (rw numbers (rw overdue refl))))))

pub one_fine : (own : Numbers) (log : List LogEntry) (now : ℕ) (c : Content) → Fine own log now c → cause_in_log (own ∷ []) log (made now c) ≡ None
one_fine own log now c f =
    ap (λ (x : Option Content). cause_in (own ∷ []) (known log) (rows_after [] log) (1 + length log) now (kind_of c) x) (content_again c f.content)
    ∙ no_cause (own ∷ []) (known log) (rows_after [] log) (1 + length log) now (kind_of c) c (first_by (length log) (kind_of c) (eqb (kind_of c) 7) refl f.first) f.neighbour f.ack f.leaf f.checkpoint f.numbers f.overdue

-- ---- entries behind a log

-- none of them is wrong, and what is known behind them is sound
pub record Went (own : Numbers) (log batch : List LogEntry) : Type 0 where
  pub right : AreAllowedAfter (own ∷ []) log batch
  pub sound : Sound own (known (log ++ batch))

pub right_join : (own : Numbers) (xs log ys : List LogEntry) → AreAllowedAfter (own ∷ []) log xs → AreAllowedAfter (own ∷ []) (log ++ xs) ys → AreAllowedAfter (own ∷ []) log (xs ++ ys)
right_join own [] log ys first second = subst (λ (l : List LogEntry). AreAllowedAfter (own ∷ []) l ys) (append-nil log) second
right_join own (x ∷ xs) log ys first second =
    let there : AreAllowedAfter (own ∷ []) ((log ++ x ∷ []) ++ xs) ys = subst (λ (l : List LogEntry). AreAllowedAfter (own ∷ []) l ys) (sym (append_assoc log (x ∷ []) xs)) second in
    (first.0, right_join own xs (log ++ x ∷ []) ys first.1 there)

pub joined : (own : Numbers) (log xs ys : List LogEntry) → Went own log xs → Went own (log ++ xs) ys → Went own log (xs ++ ys)
joined own log xs ys first second = record {
  right = right_join own xs log ys first.right second.right;
  sound = subst (λ (l : List LogEntry). Sound own (known l)) (append_assoc log xs ys) second.sound;
}

pub nothing : (own : Numbers) (log : List LogEntry) → Sound own (known log) → Went own log []
nothing own log sound = record { right = tt; sound = subst (λ (l : List LogEntry). Sound own (known l)) (sym (append-nil log)) sound }

pub one_went : (own : Numbers) (log : List LogEntry) (now : ℕ) (c : Content) → Sound own (known log) → Fine own log now c → Went own log (made now c ∷ [])
one_went own log now c sound f = record {
  right = (one_fine own log now c f, tt);
  sound = subst (Sound own) (sym (known_next log now c f.content)) (sound_next own (known log) c now f.ack f.numbers sound);
}

-- ---- COMMITs

-- those that are overdue at a time, lowest first
abbrev pub due : Tally → ℕ → List ℕ
due t now = neighbours_with (is_due t now)

-- A COMMIT leaves as they are the promise in force and what was sent and acknowledged.
pub record Alike (t u : Tally) : Type 0 where
  pub force : u.in_force ≡ t.in_force
  pub acked : (n : ℕ) → u.acked n ≡ t.acked n
  pub sends : (n : ℕ) → u.sends n ≡ t.sends n

pub alike_self : (t : Tally) → Alike t t
alike_self t = record { force = refl; acked = λ n. refl; sends = λ n. refl }

alike_then : (t u v : Tally) → Alike t u → Alike u v → Alike t v
alike_then t u v a b = record { force = b.force ∙ a.force; acked = λ n. b.acked n ∙ a.acked n; sends = λ n. b.sends n ∙ a.sends n }

alike_commit : (t : Tally) (n leaf now : ℕ) → Alike t (counted t (Some (Commit n leaf)) now)
alike_commit t n leaf now = record { force = refl; acked = λ m. refl; sends = λ m. omega arith }

-- COMMITs that were appended behind a log
pub record Committed (own : Numbers) (log batch : List LogEntry) (now count : ℕ) : Type 0 where
  pub went : Went own log batch
  pub alike : Alike (known log) (known (log ++ batch))
  pub commits : (known (log ++ batch)).commits ≡ (known log).commits + count
  pub none : due (known (log ++ batch)) now ≡ []

no_commit : (own : Numbers) (log : List LogEntry) (now : ℕ) → Sound own (known log) → due (known log) now ≡ [] → Committed own log [] now 0
no_commit own log now sound none =
    let same : log ≡ log ++ [] = sym (append-nil log) in
    record {
      went = nothing own log sound;
      alike = subst (λ (l : List LogEntry). Alike (known log) (known l)) same (alike_self (known log));
      commits = subst (λ (l : List LogEntry). (known l).commits ≡ (known log).commits + 0) same (omega arith);
      none = subst (λ (l : List LogEntry). due (known l) now ≡ []) same none;
    }

one_more : (own : Numbers) (log : List LogEntry) (now n : ℕ) (batch : List LogEntry) (count : ℕ) → Sound own (known log) → Fine own log now (Commit n (known log).commits)
    → Committed own (log ++ made now (Commit n (known log).commits) ∷ []) batch now count → Committed own log (made now (Commit n (known log).commits) ∷ batch) now (suc count)
one_more own log now n batch count sound f later =
    let t = known log in
    let e = made now (Commit n t.commits) in
    let is : known (log ++ e ∷ []) ≡ counted t (Some (Commit n t.commits)) now = known_next log now (Commit n t.commits) f.content in
    let first : Alike t (known (log ++ e ∷ [])) = subst (Alike t) (sym is) (alike_commit t n t.commits now) in
    let one : (known (log ++ e ∷ [])).commits ≡ t.commits + 1 = ap (λ (u : Tally). u.commits) is in
    let same : (log ++ e ∷ []) ++ batch ≡ log ++ (e ∷ batch) = append_assoc log (e ∷ []) batch in
    record {
      went = joined own log (e ∷ []) batch (one_went own log now (Commit n t.commits) sound f) later.went;
      alike = subst (λ (l : List LogEntry). Alike t (known l)) same (alike_then t (known (log ++ e ∷ [])) (known ((log ++ e ∷ []) ++ batch)) first later.alike);
      commits = subst (λ (l : List LogEntry). (known l).commits ≡ t.commits + suc count) same (omega (arith, later.commits, one));
      none = subst (λ (l : List LogEntry). due (known l) now ≡ []) same later.none;
    }

or_true : (a b : Bool) → b ≡ true → not (a || b) ≡ false
or_true true b e = refl
or_true false true e = refl
or_true false false e = absurd cc

-- a COMMIT with the next leaf to a neighbour that is declared
commit_fine : (own : Numbers) (log : List LogEntry) (now n : ℕ) → Sound own (known log) → Declares (known log).in_force n → (known log).commits < 2 ^ 32
    → leaves_overdue (lowest_overdue (known log) now) (Commit n (known log).commits) ≡ false → Fine own log now (Commit n (known log).commits)
commit_fine own log now n sound d low timely = record {
  content = (inl d.fits, low);
  first = λ e. absurd (not_first log d.force d.is e);
  neighbour = or_true (eqb n auditor) (is_declared (known log).in_force n) (declared_is (known log).in_force n d);
  ack = refl;
  leaf = ap not (eq-eqb (known log).commits (known log).commits refl);
  checkpoint = refl;
  numbers = refl;
  overdue = timely;
}

itself : (t : Tally) (now n leaf : ℕ) → lowest_overdue t now ≡ Some n → leaves_overdue (lowest_overdue t now) (Commit n leaf) ≡ false
itself t now n leaf e = ap (λ x. leaves_overdue x (Commit n leaf)) e ∙ ap not (eq-eqb n n refl)

pub none_left : (t : Tally) (now : ℕ) (c : Content) → due t now ≡ [] → leaves_overdue (lowest_overdue t now) c ≡ false
none_left t now c e = ap (λ x. leaves_overdue x c) (lowest_none most_neighbours (is_due t now) e)

-- to neighbours that are declared, where none is overdue
pub declared_then : (own : Numbers) (now : ℕ) (ns : List ℕ) (log : List LogEntry) → Sound own (known log) → due (known log) now ≡ [] → AllByRecursion (Declares (known log).in_force) ns → (0 < length ns → (known log).commits + length ns < 2 ^ 32)
    → Committed own log (commits_to now (known log).commits ns) now (length ns)
declared_then own now [] log sound none all low = no_commit own log now sound none
declared_then own now (n ∷ ns) log sound none all low =
    let t = known log in
    let fits : t.commits + length (n ∷ ns) < 2 ^ 32 = low (omega arith) in
    let e = made now (Commit n t.commits) in
    let f = commit_fine own log now n sound all.0 (omega arith) (none_left t now (Commit n t.commits) none) in
    let next : known (log ++ e ∷ []) ≡ counted t (Some (Commit n t.commits)) now = known_next log now (Commit n t.commits) f.content in
    let one : (known (log ++ e ∷ [])).commits ≡ t.commits + 1 = ap (λ (u : Tally). u.commits) next in
    let force : t.in_force ≡ (known (log ++ e ∷ [])).in_force = sym (ap (λ (u : Tally). u.in_force) next) in
    let rest : due (known (log ++ e ∷ [])) now ≡ [] =
    ap (λ (u : Tally). due u now) next ∙ passing_none most_neighbours (is_due t now) (is_due (counted t (Some (Commit n t.commits)) now) now) n (due_but t n t.commits now) none in
    let others : AllByRecursion (Declares (known (log ++ e ∷ [])).in_force) ns = subst (λ (g : Option Numbers). AllByRecursion (Declares g) ns) force all.1 in
    let later = declared_then own now ns (log ++ e ∷ []) (one_went own log now (Commit n t.commits) sound f).sound rest others (λ h. omega (arith, one, fits)) in
    one_more own log now n (commits_to now (t.commits + 1) ns) (length ns) sound f (subst (λ (k : ℕ). Committed own (log ++ e ∷ []) (commits_to now k ns) now (length ns)) one later)

-- first to all that are overdue, lowest first: each is the lowest one when its COMMIT is appended, and none is left;
-- then to neighbours that are declared
pub heads_fine : (own : Numbers) (now : ℕ) (ns ws : List ℕ) (log : List LogEntry) → Sound own (known log) → due (known log) now ≡ ns → AllByRecursion (Declares (known log).in_force) ws
    → (0 < length (ns ++ ws) → (known log).commits + length (ns ++ ws) < 2 ^ 32) → Committed own log (commits_to now (known log).commits (ns ++ ws)) now (length (ns ++ ws))
heads_fine own now [] ws log sound is all low = declared_then own now ws log sound is all low
heads_fine own now (n ∷ ns) ws log sound is all low =
    let t = known log in
    let fits : t.commits + length (n ∷ (ns ++ ws)) < 2 ^ 32 = low (omega arith) in
    let e = made now (Commit n t.commits) in
    let d = due_declared t now n (passing_first most_neighbours (is_due t now) n ns is) in
    let f = commit_fine own log now n sound d (omega arith) (itself t now n t.commits (lowest_some most_neighbours (is_due t now) n ns is)) in
    let next : known (log ++ e ∷ []) ≡ counted t (Some (Commit n t.commits)) now = known_next log now (Commit n t.commits) f.content in
    let one : (known (log ++ e ∷ [])).commits ≡ t.commits + 1 = ap (λ (u : Tally). u.commits) next in
    let force : t.in_force ≡ (known (log ++ e ∷ [])).in_force = sym (ap (λ (u : Tally). u.in_force) next) in
    let rest : due (known (log ++ e ∷ [])) now ≡ ns =
    ap (λ (u : Tally). due u now) next ∙ passing_rest most_neighbours (is_due t now) (is_due (counted t (Some (Commit n t.commits)) now) now) n ns (due_but t n t.commits now) is in
    let others : AllByRecursion (Declares (known (log ++ e ∷ [])).in_force) ws = subst (λ (g : Option Numbers). AllByRecursion (Declares g) ws) force all in
    let later = heads_fine own now ns ws (log ++ e ∷ []) (one_went own log now (Commit n t.commits) sound f).sound rest others (λ h. omega (arith, one, fits)) in
    one_more own log now n (commits_to now (t.commits + 1) (ns ++ ws)) (length (ns ++ ws)) sound f (subst (λ (k : ℕ). Committed own (log ++ e ∷ []) (commits_to now k (ns ++ ws)) now (length (ns ++ ws))) one later)

pub overdue_fine : (own : Numbers) (now : ℕ) (log : List LogEntry) → Sound own (known log) → (0 < length (due (known log) now) → (known log).commits + length (due (known log) now) < 2 ^ 32)
    → Committed own log (commits_to now (known log).commits (due (known log) now)) now (length (due (known log) now))
overdue_fine own now log sound low =
    let ns = due (known log) now in
    let same : ns ++ [] ≡ ns = append-nil ns in
    subst (λ (l : List ℕ). Committed own log (commits_to now (known log).commits l) now (length l)) same
    (heads_fine own now ns [] log sound refl tt (λ h. subst (λ (l : List ℕ). (known log).commits + length l < 2 ^ 32) (sym same) (low (subst (λ (l : List ℕ). 0 < length l) same h))))
