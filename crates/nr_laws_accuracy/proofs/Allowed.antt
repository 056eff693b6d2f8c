-- What a log has of which no entry is wrong.
use Rattle.std.proofs.Common.{◌≡◌, ℕ, zero, suc, ◌+◌, ◌<◌, ◌≤◌, Bool, true, false, cond, not, ◌&&◌, eqb, List, [], ◌∷◌, ◌++◌, length, Option, Some, None, refl, sym, ap, subst, ◌∙◌, append_assoc, append-nil, arith}
use Rattle.std.proofs.lemmas.Bool.{eqb-true, ne_eqb}
use Rattle.std.specs.List.{AllByRecursion, IsDistinct, range_with_len, filter_map, cons_option}
use Rattle.nr_spec_log.specs.Chain.{LogEntry}
use Rattle.nr_spec_entry.specs.Contents.{Ack, Checkpoint, Commit, Content, Promise, promise_kind, Recv, Send, State}
use Rattle.nr_spec_entry.specs.ContentReading.{content_of}
use Rattle.nr_spec_routes.specs.Rows.{rows_after}
use Rattle.nr_spec_counts.specs.Tallies.{nothing_yet, Numbers, Tally}
use Rattle.nr_spec_counts.specs.Causes.{cause_in, is_stranger, is_wrong_ack, is_wrong_checkpoint, is_wrong_leaf, is_wrong_promise, leaves_overdue, lowest_overdue}
use Rattle.nr_spec_counts.specs.Steps.{counted}
use Rattle.nr_spec_steps.specs.Steps.{known}
use Rattle.nr_spec_steps.specs.Heads.{leaf_in}
use Rattle.nr_laws_accuracy.specs.Allowed.{AreAllowedAfter, cause_in_log, IsAllowed, leaves_of}
use Rattle.nr_spec_counts.specs.declared.cause.Cause.{Cause}
use Rattle.nr_spec_counts.proofs.OneMore.{one_counted}
use Rattle.nr_laws_accuracy.proofs.Tallying.{Sound, sound_next, sound_first}

passed : (b : Bool) (cause : Cause) (rest : Option Cause) → cond b (Some cause) rest ≡ None → (b ≡ false) × (rest ≡ None)
passed true cause rest e = absurd cc
passed false cause rest e = (refl, e)

-- the tests that an entry without a cause passes
pub record Clean (own : Numbers) (past : List LogEntry) (e : LogEntry) : Type 0 where
  pub content : Content
  pub is : content_of e ≡ Some content
  pub first : (eqb (1 + length past) 1 && not (eqb e.kind promise_kind)) ≡ false
  pub neighbour : is_stranger (known past).in_force content ≡ false
  pub ack : is_wrong_ack (known past) content ≡ false
  pub leaf : is_wrong_leaf (known past) content ≡ false
  pub checkpoint : is_wrong_checkpoint (known past) (rows_after [] past) content ≡ false
  pub numbers : is_wrong_promise (own ∷ []) content ≡ false
  pub overdue : leaves_overdue (lowest_overdue (known past) e.time) content ≡ false

clean_by : (own : Numbers) (past : List LogEntry) (e : LogEntry) (o : Option Content) → content_of e ≡ o → cause_in (own ∷ []) (known past) (rows_after [] past) (1 + length past) e.time e.kind o ≡ None → Clean own past e
unfolding cause_in
clean_by own past e None is none = absurd cc
clean_by own past e (Some c) is none =
    let t = known past in
    let a = passed (eqb (1 + length past) 1 && not (eqb e.kind promise_kind)) _ _ none in
    let b = passed (is_stranger t.in_force c) _ _ a.1 in
    let d = passed (is_wrong_ack t c) _ _ b.1 in
    let l = passed (is_wrong_leaf t c) _ _ d.1 in
    let k = passed (is_wrong_checkpoint t (rows_after [] past) c) _ _ l.1 in
    let p = passed (is_wrong_promise (own ∷ []) c) _ _ k.1 in
    let w = passed (leaves_overdue (lowest_overdue t e.time) c) _ _ p.1 in
    record { content = c; is = is; first = a.0; neighbour = b.0; ack = d.0; leaf = l.0; checkpoint = k.0; numbers = p.0; overdue = w.0 }

clean : (own : Numbers) (past : List LogEntry) (e : LogEntry) → cause_in_log (own ∷ []) past e ≡ None → Clean own past e
clean own past e none = clean_by own past e (content_of e) refl none

-- of an entry among others
pub clean_within : (own : Numbers) (xs past : List LogEntry) (y : LogEntry) (ys : List LogEntry) → AreAllowedAfter (own ∷ []) past (xs ++ y ∷ ys) → Clean own (past ++ xs) y
clean_within own [] past y ys right = subst (λ (l : List LogEntry). Clean own l y) (sym (append-nil past)) (clean own past y right.0)
clean_within own (x ∷ xs) past y ys right =
    subst (λ (l : List LogEntry). Clean own l y) (append_assoc past (x ∷ []) xs) (clean_within own xs (past ++ x ∷ []) y ys right.1)

next_is : (own : Numbers) (past : List LogEntry) (e : LogEntry) (c : Clean own past e) → known (past ++ e ∷ []) ≡ counted (known past) (Some c.content) e.time
next_is own past e c = one_counted nothing_yet past e ∙ ap (λ x. counted (known past) x e.time) c.is

sound_from : (own : Numbers) (es past : List LogEntry) → Sound own (known past) → AreAllowedAfter (own ∷ []) past es → Sound own (known (past ++ es))
sound_from own [] past sound right = subst (λ (l : List LogEntry). Sound own (known l)) (sym (append-nil past)) sound
sound_from own (e ∷ es) past sound right =
    let c = clean own past e right.0 in
    let next : Sound own (known (past ++ e ∷ [])) = subst (Sound own) (sym (next_is own past e c)) (sound_next own (known past) c.content e.time c.ack c.numbers sound) in
    subst (λ (l : List LogEntry). Sound own (known l)) (append_assoc past (e ∷ []) es) (sound_from own es (past ++ e ∷ []) next right.1)

pub allowed_sound : (own : Numbers) (log : List LogEntry) → IsAllowed own log → Sound own (known log)
allowed_sound own log right = sound_from own log [] (sound_first own) right

-- ---- the leaves count up from 0

pub record InOrder (from : ℕ) (leaves : List ℕ) (to : ℕ) : Type 0 where
  pub count : ℕ
  pub are : leaves ≡ range_with_len from count
  pub ends : to ≡ from + count

-- a COMMIT's leaf is the number of COMMITs before it, and any other content has none
leaf_step : (t : Tally) (c : Content) (leaves : List ℕ) (time to : ℕ) → is_wrong_leaf t c ≡ false → InOrder (counted t (Some c) time).commits leaves to → InOrder t.commits (filter_map (λ (o : Option Content). leaf_in o) (Some c ∷ []) ++ leaves) to
leaf_step t (Commit n leaf) leaves time to e o =
    let same : leaf ≡ t.commits = eqb-true _ _ (not_false (eqb leaf t.commits) e) in
    record { count = suc o.count; are = ap (λ (l : List ℕ). leaf ∷ l) o.are ∙ ap (λ (x : ℕ). x ∷ range_with_len (t.commits + 1) o.count) same; ends = omega (arith, o.ends) }
  where
    not_false : (b : Bool) → not b ≡ false → b ≡ true
    not_false true e = refl
    not_false false e = absurd cc
leaf_step t (Send n as4 raw) leaves time to e o = record { count = o.count; are = o.are ∙ ap (λ (x : ℕ). range_with_len x o.count) (omega arith); ends = omega (arith, o.ends) }
leaf_step t (Recv n as4 raw) leaves time to e o = record { count = o.count; are = o.are ∙ ap (λ (x : ℕ). range_with_len x o.count) (omega arith); ends = omega (arith, o.ends) }
leaf_step t (State n old new) leaves time to e o = record { count = o.count; are = o.are ∙ ap (λ (x : ℕ). range_with_len x o.count) (omega arith); ends = omega (arith, o.ends) }
leaf_step t (Ack n upto seq at hash sig) leaves time to e o = record { count = o.count; are = o.are ∙ ap (λ (x : ℕ). range_with_len x o.count) (omega arith); ends = omega (arith, o.ends) }
leaf_step t (Checkpoint body) leaves time to e o = record { count = o.count; are = o.are ∙ ap (λ (x : ℕ). range_with_len x o.count) (omega arith); ends = omega (arith, o.ends) }
leaf_step t (Promise file count delay) leaves time to e o = record { count = o.count; are = o.are ∙ ap (λ (x : ℕ). range_with_len x o.count) (omega arith); ends = omega (arith, o.ends) }

leaves_next : (e : LogEntry) (es : List LogEntry) (c : Content) → content_of e ≡ Some c → leaves_of (e ∷ es) ≡ filter_map (λ (o : Option Content). leaf_in o) (Some c ∷ []) ++ leaves_of es
leaves_next e es c is = by (leaf_in (Some c)) (ap leaf_in is)
  where
    by : (o : Option ℕ) → leaf_in (content_of e) ≡ o → cons_option (leaf_in (content_of e)) (leaves_of es) ≡ cons_option o [] ++ leaves_of es
    by None h = rw h refl
    by (Some leaf) h = rw h refl

pub leaves_from : (own : Numbers) (es past : List LogEntry) → AreAllowedAfter (own ∷ []) past es → InOrder (known past).commits (leaves_of es) (known (past ++ es)).commits
leaves_from own [] past right = record { count = 0; are = refl; ends = ap (λ (l : List LogEntry). (known l).commits) (append-nil past) ∙ omega arith }
leaves_from own (e ∷ es) past right =
    let c = clean own past e right.0 in
    let is = next_is own past e c in
    let to = (known (past ++ (e ∷ es))).commits in
    let later : InOrder (known (past ++ e ∷ [])).commits (leaves_of es) to =
    subst (λ (l : List LogEntry). InOrder (known (past ++ e ∷ [])).commits (leaves_of es) (known l).commits) (append_assoc past (e ∷ []) es) (leaves_from own es (past ++ e ∷ []) right.1) in
    let here : InOrder (counted (known past) (Some c.content) e.time).commits (leaves_of es) to = subst (λ (u : Tally). InOrder u.commits (leaves_of es) to) is later in
    subst (λ (l : List ℕ). InOrder (known past).commits l to) (sym (leaves_next e es c.content c.is)) (leaf_step (known past) c.content (leaves_of es) e.time to c.leaf here)

pub allowed_leaves : (own : Numbers) (log : List LogEntry) → IsAllowed own log → InOrder (known []).commits (leaves_of log) (known log).commits
allowed_leaves own log right = leaves_from own log [] right

-- ---- numbers that count up differ

apart : (n from size : ℕ) → n < from → AllByRecursion (λ y. eqb n y ≡ false) (range_with_len from size)
apart n from zero lt = tt
apart n from (suc size) lt = (ne_eqb n from (λ e. omega arith), apart n (from + 1) size (omega arith))

pub counting_differs : (from size : ℕ) → IsDistinct eqb (range_with_len from size)
unfolding IsDistinct
counting_differs from zero = tt
counting_differs from (suc size) = (apart from (from + 1) size (omega arith), counting_differs (from + 1) size)

pub counting_below : (top from size : ℕ) → from + size ≤ top → AllByRecursion (λ y. y < top) (range_with_len from size)
counting_below top from zero le = tt
counting_below top from (suc size) le = (omega arith, counting_below top (from + 1) size (omega arith))
