-- What an entry that is allowed is, in the words of a reader.
use Rattle.std.proofs.Common.{◌≡◌, ◌≢◌, ℕ, zero, suc, ◌+◌, ◌<◌, ◌≤◌, Bool, true, false, cond, not, ◌&&◌, ◌||◌, eqb, ltb, List, [], ◌∷◌, ◌++◌, length, Option, Some, None, refl, sym, ap, subst, ◌∙◌, append_assoc, append-nil, arith}
use Rattle.std.proofs.lemmas.Bool.{eqb-true, eq-eqb, ltb-true, ltb-false, lt-ltb, le-ltb}
use Rattle.std.proofs.lemmas.Slice.Eq.{bytes_eq-Decides}
use Rattle.std.specs.List.{find, range_with_len}
use Rattle.std.specs.Str.{bytes_eq}
use Rattle.nr_spec_log.specs.Chain.{LogEntry}
use Rattle.nr_spec_entry.specs.Contents.{Ack, auditor, Checkpoint, Commit, Content, most_neighbours, Promise, promise_kind, Recv, Send, State}
use Rattle.nr_spec_routes.specs.Rows.{rows_after}
use Rattle.nr_spec_counts.specs.Tallies.{is_commit_to, Numbers, Tally}
use Rattle.nr_spec_counts.specs.Causes.{cause_in, is_declared, is_overdue, is_stranger, is_wrong_ack, is_wrong_checkpoint, is_wrong_leaf, is_wrong_promise, leaves_overdue, lowest, lowest_overdue}
use Rattle.nr_spec_steps.specs.Steps.{body_digest, known}
use Rattle.nr_laws_accuracy.specs.Allowed.{AreAllowedAfter, cause_in_log, IsAllowed}
use Rattle.nr_laws_accuracy.specs.Right.{CommitsLowest, IsCommitTo, IsDeclared, IsOverdue, IsRight, Names}
use Rattle.nr_spec_counts.proofs.Waits.{overdue_is}
use Rattle.nr_laws_accuracy.proofs.Tallying.{both_true, neither, wrong_promise_is}
use Rattle.nr_laws_accuracy.proofs.Walk.{no_cause}
use Rattle.nr_laws_accuracy.proofs.Allowed.{clean_within}

-- ---- each test in words

not_false : (b : Bool) → not b ≡ false → b ≡ true
not_false true e = refl
not_false false e = absurd cc

first_word : (k kind : ℕ) → (eqb (1 + k) 1 && not (eqb kind promise_kind)) ≡ false → k ≡ 0 → kind ≡ promise_kind
first_word k kind e z =
    let one : eqb (1 + k) 1 ≡ true = eq-eqb (1 + k) 1 (omega arith) in
    let rest : not (eqb kind promise_kind) ≡ false = (rw one at e) in
    eqb-true _ _ (not_false (eqb kind promise_kind) rest)

declared_word : (f : Option Numbers) (n : ℕ) → is_declared f n ≡ true → IsDeclared f n
declared_word None n e = absurd cc
declared_word (Some g) n e = record { force = g; is = refl; below = ltb-true _ _ e }

same_declared : (f : Option Numbers) (n m : ℕ) → m ≡ n → not (is_declared f n) ≡ false → IsDeclared f m
same_declared f n m e h = subst (IsDeclared f) (sym e) (declared_word f n (not_false (is_declared f n) h))

past_auditor : (b : Bool) (f : Option Numbers) (n : ℕ) → eqb n auditor ≡ b → n ≢ auditor → not (b || is_declared f n) ≡ false → not (is_declared f n) ≡ false
past_auditor true f n is other h = absurd (other (eqb-true _ _ is))
past_auditor false f n is other h = h

neighbour_word : (f : Option Numbers) (c : Content) → is_stranger f c ≡ false → (m : ℕ) → Names c m → IsDeclared f m
neighbour_word f (Send n as4 raw) e m h = same_declared f n m h e
neighbour_word f (Recv n as4 raw) e m h = same_declared f n m h e
neighbour_word f (State n old new) e m h = same_declared f n m h e
neighbour_word f (Ack n upto seq time hash sig) e m h = same_declared f n m h e
neighbour_word f (Commit n leaf) e m h = same_declared f n m h.0 (past_auditor (eqb n auditor) f n refl h.1 e)
neighbour_word f (Checkpoint body) e m h = absurd h
neighbour_word f (Promise file count delay) e m h = absurd h

ack_word : (t : Tally) (c : Content) (n upto seq time : ℕ) (hash sig : List ℕ) → is_wrong_ack t c ≡ false → c ≡ Ack n upto seq time hash sig → (t.acked n ≤ upto) × (upto ≤ t.sends n)
ack_word t c n upto seq time hash sig e is =
    let h = neither (ltb upto (t.acked n)) (ltb (t.sends n) upto) (subst (λ (x : Content). is_wrong_ack t x ≡ false) is e) in
    (ltb-false _ _ h.0, ltb-false _ _ h.1)

leaf_word : (t : Tally) (c : Content) (n leaf : ℕ) → is_wrong_leaf t c ≡ false → c ≡ Commit n leaf → leaf ≡ t.commits
leaf_word t c n leaf e is = eqb-true _ _ (not_false (eqb leaf t.commits) (subst (λ (x : Content). is_wrong_leaf t x ≡ false) is e))

checkpoint_word : (before : List LogEntry) (c : Content) (body : List ℕ) → is_wrong_checkpoint (known before) (rows_after [] before) c ≡ false → c ≡ Checkpoint body → body ≡ body_digest before
checkpoint_word before c body e is =
    (bytes_eq-Decides body (body_digest before)).0 (not_false (bytes_eq body (body_digest before)) (subst (λ (x : Content). is_wrong_checkpoint (known before) (rows_after [] before) x ≡ false) is e))

numbers_word : (own : Numbers) (c : Content) (file : List ℕ) (count delay : ℕ) → is_wrong_promise (own ∷ []) c ≡ false → c ≡ Promise file count delay → file ≡ own.digest → (count ≡ own.count) × (delay ≡ own.delay)
numbers_word own c file count delay e is same =
    let one : bytes_eq file own.digest ≡ true = (bytes_eq-Decides file own.digest).1 same in
    let here : (bytes_eq file own.digest && not (eqb count own.count && eqb delay own.delay)) ≡ false = sym (wrong_promise_is own file count delay) ∙ subst (λ (x : Content). is_wrong_promise (own ∷ []) x ≡ false) is e in
    let rest : not (eqb count own.count && eqb delay own.delay) ≡ false = (rw one at here) in
    let h = both_true (eqb count own.count) (eqb delay own.delay) (not_false (eqb count own.count && eqb delay own.delay) rest) in
    (eqb-true _ _ h.0, eqb-true _ _ h.1)

-- ---- the lowest that is overdue

overdue_test : (t : Tally) (time n : ℕ) → IsOverdue t time n → is_overdue t time t.in_force n ≡ true
overdue_test t time n o = (overdue_is t time n).1 (o.force, o.since, o.is, o.below, o.waits, o.late)

overdue_read : (t : Tally) (time n : ℕ) → is_overdue t time t.in_force n ≡ true → IsOverdue t time n
overdue_read t time n e =
    let k = (overdue_is t time n).0 e in
    record { force = k.0; since = k.1; is = k.2; below = k.3; waits = k.4; late = k.5 }

-- the first that passes
pub record Found (p : ℕ → Bool) (n : ℕ) (found : Option ℕ) : Type 0 where
  pub lowest : ℕ
  pub is : found ≡ Some lowest
  pub passes : p lowest ≡ true
  pub least : lowest ≤ n

found_in : (p : ℕ → Bool) (n from size : ℕ) → from ≤ n → n < from + size → p n ≡ true → Found p n (find p (range_with_len from size))
found_in p n from zero a b e = absurd (omega arith)
found_in p n from (suc size) a b e = by (p from) refl (λ h. found_in p n (from + 1) size h (omega arith) e)
  where
    by : (t : Bool) → p from ≡ t → (from + 1 ≤ n → Found p n (find p (range_with_len (from + 1) size))) → Found p n (cond t (Some from) (find p (range_with_len (from + 1) size)))
    by true is later = record { lowest = from; is = refl; passes = is; least = a }
    by false is later =
        let other : from + 1 ≤ n = above (λ s. let q : p from ≡ true = ap p s ∙ e in absurd cc) in
        let f = later other in
        record { lowest = f.lowest; is = f.is; passes = f.passes; least = f.least }
      where
        above : (from ≡ n → ⊥) → from + 1 ≤ n
        above h = omega (arith, h)

lowest_found : (bound : ℕ) (p : ℕ → Bool) (n : ℕ) → n < bound → p n ≡ true → Found p n (lowest bound p)
unfolding lowest
lowest_found bound p n lt e = found_in p n 0 bound (omega arith) (omega arith) e

commit_word : (c : Content) (n : ℕ) → is_commit_to n (Some c) ≡ true → IsCommitTo c n
commit_word (Send k as4 raw) n e = absurd cc
commit_word (Recv k as4 raw) n e = absurd cc
commit_word (State k old new) n e = absurd cc
commit_word (Ack k upto seq time hash sig) n e = absurd cc
commit_word (Commit k leaf) n e = record { leaf = leaf; is = ap (λ (x : ℕ). Commit x leaf) (eqb-true _ _ e) }
commit_word (Checkpoint body) n e = absurd cc
commit_word (Promise file count delay) n e = absurd cc

overdue_word : (t : Tally) (time : ℕ) (c : Content) → leaves_overdue (lowest_overdue t time) c ≡ false → (n : ℕ) → n < most_neighbours → IsOverdue t time n → CommitsLowest t time c n
overdue_word t time c e n lt o =
    let f = lowest_found most_neighbours (is_overdue t time t.in_force) n lt (overdue_test t time n o) in
    let here : not (is_commit_to f.lowest (Some c)) ≡ false = subst (λ x. leaves_overdue x c ≡ false) f.is e in
    record { lowest = f.lowest; late = overdue_read t time f.lowest f.passes; commit = commit_word c f.lowest (not_false (is_commit_to f.lowest (Some c)) here); least = f.least }

pub allowed_right : (own : Numbers) (before after : List LogEntry) (e : LogEntry) → IsAllowed own (before ++ e ∷ after) → IsRight own before e
allowed_right own before after e allowed =
    let t = clean_within own before [] e after allowed in
    record {
      content = t.content;
      read = t.is;
      first = first_word (length before) e.kind t.first;
      neighbour = neighbour_word (known before).in_force t.content t.neighbour;
      ack = λ n upto seq time hash sig is. ack_word (known before) t.content n upto seq time hash sig t.ack is;
      leaf = λ n leaf is. leaf_word (known before) t.content n leaf t.leaf is;
      checkpoint = λ body is. checkpoint_word before t.content body t.checkpoint is;
      numbers = λ file count delay is same. numbers_word own t.content file count delay t.numbers is same;
      overdue = overdue_word (known before) e.time t.content t.overdue;
    }

-- ---- and back

first_test : (k kind : ℕ) (b : Bool) → eqb (1 + k) 1 ≡ b → (k ≡ 0 → kind ≡ promise_kind) → (b && not (eqb kind promise_kind)) ≡ false
first_test k kind true is h = let z : 1 + k ≡ 1 = eqb-true _ _ is in ap not (eq-eqb kind promise_kind (h (omega arith)))
first_test k kind false is h = refl

declared_test : (f : Option Numbers) (n : ℕ) → IsDeclared f n → not (is_declared f n) ≡ false
declared_test f n d = ap not (ap (λ x. is_declared x n) d.is ∙ lt-ltb _ _ d.below)

commit_test : (b : Bool) (f : Option Numbers) (n : ℕ) → eqb n auditor ≡ b → (n ≢ auditor → IsDeclared f n) → not (b || is_declared f n) ≡ false
commit_test true f n is h = refl
commit_test false f n is h = declared_test f n (h (λ e. let k : eqb n auditor ≡ true = eq-eqb _ _ e in absurd cc))

neighbour_test : (f : Option Numbers) (c : Content) → ((m : ℕ) → Names c m → IsDeclared f m) → is_stranger f c ≡ false
neighbour_test f (Send n as4 raw) h = declared_test f n (h n refl)
neighbour_test f (Recv n as4 raw) h = declared_test f n (h n refl)
neighbour_test f (State n old new) h = declared_test f n (h n refl)
neighbour_test f (Ack n upto seq time hash sig) h = declared_test f n (h n refl)
neighbour_test f (Commit n leaf) h = commit_test (eqb n auditor) f n refl (λ other. h n (refl, other))
neighbour_test f (Checkpoint body) h = refl
neighbour_test f (Promise file count delay) h = refl

ack_test : (t : Tally) (c : Content) → ((n upto seq time : ℕ) (hash sig : List ℕ) → c ≡ Ack n upto seq time hash sig → (t.acked n ≤ upto) × (upto ≤ t.sends n)) → is_wrong_ack t c ≡ false
ack_test t (Send n as4 raw) h = refl
ack_test t (Recv n as4 raw) h = refl
ack_test t (State n old new) h = refl
ack_test t (Ack n upto seq time hash sig) h = let k = h n upto seq time hash sig refl in rw (le-ltb upto (t.acked n) k.0, le-ltb (t.sends n) upto k.1) refl
ack_test t (Commit n leaf) h = refl
ack_test t (Checkpoint body) h = refl
ack_test t (Promise file count delay) h = refl

leaf_test : (t : Tally) (c : Content) → ((n leaf : ℕ) → c ≡ Commit n leaf → leaf ≡ t.commits) → is_wrong_leaf t c ≡ false
leaf_test t (Send n as4 raw) h = refl
leaf_test t (Recv n as4 raw) h = refl
leaf_test t (State n old new) h = refl
leaf_test t (Ack n upto seq time hash sig) h = refl
leaf_test t (Commit n leaf) h = ap not (eq-eqb _ _ (h n leaf refl))
leaf_test t (Checkpoint body) h = refl
leaf_test t (Promise file count delay) h = refl

checkpoint_test : (before : List LogEntry) (c : Content) → ((body : List ℕ) → c ≡ Checkpoint body → body ≡ body_digest before) → is_wrong_checkpoint (known before) (rows_after [] before) c ≡ false
checkpoint_test before (Send n as4 raw) h = refl
checkpoint_test before (Recv n as4 raw) h = refl
checkpoint_test before (State n old new) h = refl
checkpoint_test before (Ack n upto seq time hash sig) h = refl
checkpoint_test before (Commit n leaf) h = refl
checkpoint_test before (Checkpoint body) h = ap not ((bytes_eq-Decides body (body_digest before)).1 (h body refl))
checkpoint_test before (Promise file count delay) h = refl

numbers_by : (own : Numbers) (file : List ℕ) (count delay : ℕ) (b : Bool) → bytes_eq file own.digest ≡ b → (file ≡ own.digest → (count ≡ own.count) × (delay ≡ own.delay)) → (b && not (eqb count own.count && eqb delay own.delay)) ≡ false
numbers_by own file count delay true is h =
    let k = h ((bytes_eq-Decides file own.digest).0 is) in
    rw (eq-eqb count own.count k.0, eq-eqb delay own.delay k.1) refl
numbers_by own file count delay false is h = refl

numbers_test : (own : Numbers) (c : Content) → ((file : List ℕ) (count delay : ℕ) → c ≡ Promise file count delay → file ≡ own.digest → (count ≡ own.count) × (delay ≡ own.delay)) → is_wrong_promise (own ∷ []) c ≡ false
numbers_test own (Send n as4 raw) h = refl
numbers_test own (Recv n as4 raw) h = refl
numbers_test own (State n old new) h = refl
numbers_test own (Ack n upto seq time hash sig) h = refl
numbers_test own (Commit n leaf) h = refl
numbers_test own (Checkpoint body) h = refl
numbers_test own (Promise file count delay) h = wrong_promise_is own file count delay ∙ numbers_by own file count delay (bytes_eq file own.digest) refl (h file count delay refl)

-- what is found passes and is in the range
find_by : (p : ℕ → Bool) (top from size n : ℕ) → from + size ≡ top → find p (range_with_len from size) ≡ Some n → (from ≤ n) × (p n ≡ true) × (n < top)
find_by p top from zero n all e = absurd cc
find_by p top from (suc size) n all e = by (p from) refl (λ h. find_by p top (from + 1) size n (omega arith) h) e
  where
    by : (b : Bool) → p from ≡ b → (find p (range_with_len (from + 1) size) ≡ Some n → (from + 1 ≤ n) × (p n ≡ true) × (n < top)) → cond b (Some from) (find p (range_with_len (from + 1) size)) ≡ Some n → (from ≤ n) × (p n ≡ true) × (n < top)
    by true is later h = let same : from ≡ n = cc in (omega arith, ap p (sym same) ∙ is, omega arith)
    by false is later h = let k = later h in (omega (arith, k), k.1, k.2)

lowest_is : (bound : ℕ) (p : ℕ → Bool) (n : ℕ) → lowest bound p ≡ Some n → (p n ≡ true) × (n < bound)
unfolding lowest
lowest_is bound p n e = let k = find_by p bound 0 bound n (omega arith) e in (k.1, k.2)

least_of : (bound : ℕ) (p : ℕ → Bool) (n m : ℕ) → lowest bound p ≡ Some n → m < bound → p m ≡ true → n ≤ m
least_of bound p n m e lt passes =
    let f = lowest_found bound p m lt passes in
    let same : n ≡ f.lowest = cc (e, f.is) in
    omega (arith, same, f.least)

overdue_by_lowest : (t : Tally) (time : ℕ) (c : Content) (o : Option ℕ) → lowest_overdue t time ≡ o → ((n : ℕ) → n < most_neighbours → IsOverdue t time n → CommitsLowest t time c n) → leaves_overdue o c ≡ false
overdue_by_lowest t time c None e h = refl
overdue_by_lowest t time c (Some n) e h =
    let is = lowest_is most_neighbours (is_overdue t time t.in_force) n e in
    let k = h n is.1 (overdue_read t time n is.0) in
    let other : n ≤ k.lowest = least_of most_neighbours (is_overdue t time t.in_force) n k.lowest e (omega (arith, k.least, is.1)) (overdue_test t time k.lowest k.late) in
    let same : k.lowest ≡ n = omega (arith, k.least, other) in
    ap (λ (x : Content). not (is_commit_to n (Some x))) k.commit.is ∙ ap not (eq-eqb k.lowest n same)

right_none : (own : Numbers) (before : List LogEntry) (e : LogEntry) → IsRight own before e → cause_in_log (own ∷ []) before e ≡ None
right_none own before e r =
    let t = known before in
    let c = r.content in
    ap (λ (x : Option Content). cause_in (own ∷ []) t (rows_after [] before) (1 + length before) e.time e.kind x) r.read
    ∙ no_cause (own ∷ []) t (rows_after [] before) (1 + length before) e.time e.kind c (first_test (length before) e.kind (eqb (1 + length before) 1) refl r.first) (neighbour_test t.in_force c r.neighbour) (ack_test t c r.ack) (leaf_test t c r.leaf)
    (checkpoint_test before c r.checkpoint) (numbers_test own c r.numbers) (overdue_by_lowest t e.time c (lowest_overdue t e.time) refl r.overdue)

right_from : (own : Numbers) (es past : List LogEntry) → ((xs ys : List LogEntry) (y : LogEntry) → es ≡ xs ++ y ∷ ys → IsRight own (past ++ xs) y) → AreAllowedAfter (own ∷ []) past es
right_from own [] past h = tt
right_from own (e ∷ es) past h =
    let here : IsRight own past e = subst (λ (l : List LogEntry). IsRight own l e) (append-nil past) (h [] es e refl) in
    let later = right_from own es (past ++ e ∷ []) (λ xs ys y is. subst (λ (l : List LogEntry). IsRight own l y) (sym (append_assoc past (e ∷ []) xs)) (h (e ∷ xs) ys y (ap (λ (l : List LogEntry). e ∷ l) is))) in
    (right_none own past e here, later)

pub allowed_in_words : (own : Numbers) (log : List LogEntry) → (IsAllowed own log → (before after : List LogEntry) (e : LogEntry) → log ≡ before ++ e ∷ after → IsRight own before e) × (((before after : List LogEntry) (e : LogEntry) → log ≡ before ++ e ∷ after → IsRight own before e) → IsAllowed own log)
allowed_in_words own log =
    (λ allowed before after e is. allowed_right own before after e (subst (IsAllowed own) is allowed), λ h. right_from own log [] h)
