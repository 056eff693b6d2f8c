-- What one event appends.
use Rattle.std.proofs.Common.{◌≡◌, ℕ, zero, suc, ◌+◌, ◌^◌, ◌<◌, ◌≤◌, ◌⊎◌, inl, inr, Bool, true, false, cond, not, ◌&&◌, ◌||◌, eqb, ltb, List, [], ◌∷◌, ◌++◌, length, Option, Some, None, Ok, refl, sym, ap, subst, ◌∙◌, append_assoc, append-nil, arith}
use Rattle.std.specs.Prelude.{IsTrue}
use Rattle.std.proofs.lemmas.Bool.{eq-eqb, ltb-true, ltb-false, lt-ltb, le-ltb}
use Rattle.std.proofs.lemmas.List.Sums.{count_by-le-length}
use Rattle.std.proofs.Math.Nat.{pow-le-pow_right}
use Rattle.std.specs.Option.{is_some}
use Rattle.std.specs.Str.{bytes_eq}
use Rattle.std.specs.List.{AllByRecursion}
use Rattle.sha2.proofs.Facts256.{length-sha256}
use Rattle.nr_spec_log.specs.Chain.{LogEntry}
use Rattle.nr_spec_entry.specs.Contents.{Ack, auditor, Checkpoint, Commit, Content, IsContent, kind_of, most_neighbours, Promise, Recv, Send, State}
use Rattle.nr_spec_entry.specs.ContentReading.{content_of}
use Rattle.nr_spec_routes.specs.Keys.{Row}
use Rattle.nr_spec_routes.specs.Rows.{rows_after}
use Rattle.nr_spec_routes.specs.LookBack.{later_or}
use Rattle.nr_spec_counts.specs.Tallies.{is_commit, is_send_to, Numbers, promise_in, Tally, tally_after}
use Rattle.nr_spec_counts.specs.Causes.{is_declared, is_stranger, is_wrong_ack, is_wrong_checkpoint, is_wrong_leaf, is_wrong_promise}
use Rattle.nr_spec_counts.specs.Steps.{counted}
use Rattle.nr_spec_steps.specs.Events.{Begin, Close, Event, FrameCame, Heard, Said, StateChanged}
use Rattle.nr_spec_steps.specs.Steps.{appended, body_digest, commits_to, core_step, entry_for, is_due, is_in_force, is_spent, known, leaves_for, made, moment, neighbours_with, Recorder, spoken, told, waits}
use Rattle.nr_spec_steps.specs.Telling.{IsFairAck, IsOwn, IsRecorder, MayCome}
use Rattle.nr_laws_accuracy.proofs.Done.{step_is}
use Rattle.nr_laws_accuracy.proofs.Ranges.{passing_each, passing_same}
use Rattle.nr_laws_accuracy.proofs.Tallying.{wrong_promise_is, known_next, due_same, Declares, not_first, Sound, own_in_force, bytes_same, both_true}
use Rattle.nr_laws_accuracy.proofs.Walk.{Fine, Went, joined, nothing, one_went, due, Alike, Committed, heads_fine, overdue_fine, none_left}

-- ---- the entry that an event is about

-- what keeps it from each cause, wherever no one is overdue
pub record Fits (own : Numbers) (u : Tally) (c : Content) : Type 0 where
  pub content : IsContent c
  pub first : (kind_of c ≡ 7) ⊎ (u.in_force ≡ Some own)
  pub neighbour : is_stranger u.in_force c ≡ false
  pub ack : is_wrong_ack u c ≡ false
  pub leaf : is_wrong_leaf u c ≡ false
  pub checkpoint : (rows : List Row) → is_wrong_checkpoint u rows c ≡ false
  pub numbers : is_wrong_promise (own ∷ []) c ≡ false
  pub plain : is_commit (Some c) ≡ false
  pub after : later_or (promise_in (Some c)) u.in_force ≡ Some own

fits_fine : (own : Numbers) (log : List LogEntry) (now : ℕ) (c : Content) → Fits own (known log) c → due (known log) now ≡ [] → Fine own log now c
fits_fine own log now c f none = record {
  content = f.content;
  first = λ e. elim f.first [ inl h ↦ h | inr h ↦ absurd (not_first log own h e) ];
  neighbour = f.neighbour;
  ack = f.ack;
  leaf = f.leaf;
  checkpoint = f.checkpoint (rows_after [] log);
  numbers = f.numbers;
  overdue = none_left (known log) now c none;
}

is_true : (b : Bool) → IsTrue b → b ≡ true
is_true b h = h

-- a neighbour of the own file is no stranger
no_stranger : (own : Numbers) (f : Option Numbers) (n : ℕ) → f ≡ Some own → n < own.count → not (is_declared f n) ≡ false
no_stranger own f n e lt = ap (λ x. not (is_declared x n)) e ∙ ap not (lt-ltb n own.count lt)

below_neither : (upto acked sends : ℕ) → acked ≤ upto → upto ≤ sends → (ltb upto acked || ltb sends upto) ≡ false
below_neither upto acked sends a b = rw (le-ltb upto acked a, le-ltb sends upto b) refl

own_again : (own : Numbers) → (bytes_eq own.digest own.digest && not (eqb own.count own.count && eqb own.delay own.delay)) ≡ false
own_again own = rw (bytes_same own.digest, eq-eqb own.count own.count refl, eq-eqb own.delay own.delay refl) refl

begin_fits : (own : Numbers) (u : Tally) → IsOwn own → Fits own u (Promise own.digest own.count own.delay)
begin_fits own u is = record {
  content = (is.digest, is.count, is.delay);
  first = inl refl;
  neighbour = refl;
  ack = refl;
  leaf = refl;
  checkpoint = λ rows. refl;
  numbers = wrong_promise_is own own.digest own.count own.delay ∙ own_again own;
  plain = refl;
  after = refl;
}

few_sends : (log : List LogEntry) (n : ℕ) → (known log).sends n ≤ length log
unfolding tally_after
few_sends log n = omega (arith, count_by-le-length (λ e. is_send_to n (content_of e)) log)

ack_fits : (own : Numbers) (log : List LogEntry) (u : Tally) (c : Content) → IsOwn own → length log < 2 ^ 61 → Alike (known log) u → u.in_force ≡ Some own → IsFairAck own (known log) c → Fits own u c
ack_fits own log u (Ack n upto seq time hash sig) is room alike force h = record {
  content = (omega (arith, h.0, is.count), omega (arith, few_sends log n, h.2), h.3, h.4, h.5, h.6);
  first = inr force;
  neighbour = no_stranger own u.in_force n force h.0;
  ack = below_neither upto (u.acked n) (u.sends n) (omega (arith, alike.acked n, h.1)) (omega (arith, alike.sends n, h.2));
  leaf = refl;
  checkpoint = λ rows. refl;
  numbers = refl;
  plain = refl;
  after = force;
}
ack_fits own log u (Send n as4 raw) is room alike force h = absurd h
ack_fits own log u (Recv n as4 raw) is room alike force h = absurd h
ack_fits own log u (State n old new) is room alike force h = absurd h
ack_fits own log u (Commit n leaf) is room alike force h = absurd h
ack_fits own log u (Checkpoint body) is room alike force h = absurd h
ack_fits own log u (Promise file count delay) is room alike force h = absurd h

same_content : (own : Numbers) (u : Tally) (c d : Content) → Some c ≡ Some d → Fits own u c → Fits own u d
same_content own u c d e f = let same : c ≡ d = cc in subst (Fits own u) same f

begun_by : (b : Bool) (own : Numbers) (u : Tally) (c : Content) → IsOwn own → cond b None (Some (Promise own.digest own.count own.delay)) ≡ Some c → Fits own u c
begun_by true own u c is e = absurd cc
begun_by false own u c is e = same_content own u (Promise own.digest own.count own.delay) c e (begin_fits own u is)

own_now : (r : Recorder) (log : List LogEntry) (u : Tally) → Sound r.own (known log) → Alike (known log) u → IsTrue (is_in_force r.own (known log).in_force) → u.in_force ≡ Some r.own
own_now r log u sound alike h = alike.force ∙ own_in_force r.own (known log) sound (is_true (is_in_force r.own (known log).in_force) h)

pub told_fits : (r : Recorder) (log : List LogEntry) (event : Event) (u : Tally) (c : Content) → IsRecorder r → Sound r.own (known log) → MayCome r log event → Alike (known log) u → told r log event ≡ Some c → Fits r.own u c
told_fits r log (Begin time) u c is sound may alike e = begun_by (is_in_force r.own (known log).in_force) r.own u c is.own e
told_fits r log (Heard time n as4 raw) u c is sound may alike e =
    let force = own_now r log u sound alike may.begun in
    same_content r.own u (Recv n as4 raw) c e (record { content = omega (arith, may.named, is.own.count); first = inr force; neighbour = no_stranger r.own u.in_force n force may.named; ack = refl; leaf = refl; checkpoint = λ rows. refl; numbers = refl; plain = refl; after = force })
told_fits r log (Said time n as4 raw) u c is sound may alike e =
    let force = own_now r log u sound alike may.begun in
    same_content r.own u (Send n as4 raw) c e (record { content = omega (arith, may.named, is.own.count); first = inr force; neighbour = no_stranger r.own u.in_force n force may.named; ack = refl; leaf = refl; checkpoint = λ rows. refl; numbers = refl; plain = refl; after = force })
told_fits r log (StateChanged time n old new) u c is sound may alike e =
    let force = own_now r log u sound alike may.begun in
    same_content r.own u (State n old new) c e (record { content = (omega (arith, may.named.0, is.own.count), may.named.1, may.named.2); first = inr force; neighbour = no_stranger r.own u.in_force n force may.named.0; ack = refl; leaf = refl; checkpoint = λ rows. refl; numbers = refl; plain = refl; after = force })
told_fits r log (FrameCame bytes) u c is sound may alike e =
    ack_fits r.own log u c is.own may.room alike (own_now r log u sound alike may.begun) (is.fair log bytes c may.named sound.acks e)
told_fits r log (Close time) u c is sound may alike e = absurd cc

-- ---- one event

-- what one event appended, and how many leaves it took
pub record Stepped (own : Numbers) (log batch : List LogEntry) (taken : ℕ) : Type 0 where
  pub went : Went own log batch
  pub commits : (known (log ++ batch)).commits ≡ (known log).commits + taken
  pub force : (known (log ++ batch)).in_force ≡ Some own

nothing_stepped : (own : Numbers) (log : List LogEntry) → Sound own (known log) → (known log).in_force ≡ Some own → Stepped own log [] 0
nothing_stepped own log sound force = record {
  force = subst (λ (l : List LogEntry). (known l).in_force ≡ Some own) (sym (append-nil log)) force;
  went = nothing own log sound;
  commits = subst (λ (l : List LogEntry). (known l).commits ≡ (known log).commits + 0) (sym (append-nil log)) (omega arith);
}

no_leaf : (b : Bool) (n : ℕ) → b ≡ false → n + cond b 1 0 ≡ n
no_leaf true n e = absurd cc
no_leaf false n e = omega arith

-- an entry behind the heads
told_stepped : (own : Numbers) (log heads : List LogEntry) (now count : ℕ) (c : Content) → Committed own log heads now count → Fits own (known (log ++ heads)) c → Stepped own log (heads ++ (made now c ∷ [])) (count + 0)
told_stepped own log heads now count c h f =
    let fine = fits_fine own (log ++ heads) now c f h.none in
    let next : known ((log ++ heads) ++ made now c ∷ []) ≡ counted (known (log ++ heads)) (Some c) now = known_next (log ++ heads) now c f.content in
    let same : (log ++ heads) ++ made now c ∷ [] ≡ log ++ (heads ++ made now c ∷ []) = append_assoc log heads (made now c ∷ []) in
    let number : (known ((log ++ heads) ++ made now c ∷ [])).commits ≡ (known (log ++ heads)).commits = ap (λ (u : Tally). u.commits) next ∙ no_leaf (is_commit (Some c)) (known (log ++ heads)).commits f.plain in
    record {
      went = joined own log heads (made now c ∷ []) h.went (one_went own (log ++ heads) now c h.went.sound fine);
      commits = subst (λ (l : List LogEntry). (known l).commits ≡ (known log).commits + (count + 0)) same (omega (arith, number, h.commits));
      force = subst (λ (l : List LogEntry). (known l).in_force ≡ Some own) same (ap (λ (u : Tally). u.in_force) next ∙ f.after);
    }

-- an event that isn't the end of a turn
plain_by : (own : Numbers) (log : List LogEntry) (now : ℕ) (o : Option Content) → Sound own (known log)
    → ((u : Tally) (c : Content) → Alike (known log) u → o ≡ Some c → Fits own u c) → (o ≡ None → (known log).in_force ≡ Some own)
    → (0 < cond (not (is_some o || false)) 0 (length (due (known log) now) + 0) → (known log).commits + cond (not (is_some o || false)) 0 (length (due (known log) now) + 0) < 2 ^ 32)
    → Stepped own log (cond (not (is_some o || false)) [] (commits_to now (known log).commits (due (known log) now) ++ (entry_for now o ++ []))) (cond (not (is_some o || false)) 0 (length (due (known log) now) + 0))
plain_by own log now None sound fits idle low = nothing_stepped own log sound (idle refl)
plain_by own log now (Some c) sound fits idle low =
    let size = length (due (known log) now) in
    let heads = commits_to now (known log).commits (due (known log) now) in
    let committed = overdue_fine own now log sound (λ h. let k : (known log).commits + (size + 0) < 2 ^ 32 = low (omega (arith, h)) in omega arith) in
    told_stepped own log heads now size c committed (fits (known (log ++ heads)) c committed.alike refl)

-- ---- the end of a turn

declared_by : (f : Option Numbers) (n : ℕ) → n < most_neighbours → is_declared f n ≡ true → Declares f n
declared_by None n lt e = absurd cc
declared_by (Some g) n lt e = record { force = g; is = refl; below = ltb-true _ _ e; fits = lt }

waiting_declared : (t : Tally) (now n : ℕ) → ((waits t n && not (is_due t now n)) ≡ true) × (n < most_neighbours) → Declares t.in_force n
waiting_declared t now n h = declared_by t.in_force n h.1 (both_true (is_declared t.in_force n) (is_some (t.oldest n)) (both_true (waits t n) (not (is_due t now n)) h.0).0).0

each_declared : (t : Tally) (now : ℕ) (ns : List ℕ) → AllByRecursion (λ n. ((waits t n && not (is_due t now n)) ≡ true) × (n < most_neighbours)) ns → AllByRecursion (Declares t.in_force) ns
each_declared t now [] h = tt
each_declared t now (n ∷ ns) h = (waiting_declared t now n h.0, each_declared t now ns h.1)

-- all others that wait
abbrev others_waiting : Tally → ℕ → List ℕ
others_waiting t now = neighbours_with (λ n. waits t n && not (is_due t now n))

-- the checkpoint and the head for the auditor, behind the heads
seal_went : (own : Numbers) (log : List LogEntry) (now leaf : ℕ) → Sound own (known log) → (known log).in_force ≡ Some own → due (known log) now ≡ [] → (known log).commits ≡ leaf → leaf < 2 ^ 32
    → Stepped own log (made now (Checkpoint (body_digest log)) ∷ made now (Commit auditor leaf) ∷ []) 1
seal_went own log now leaf sound force none is low =
    let ck = Checkpoint (body_digest log) in
    let f : Fine own log now ck = record {
      content = length-sha256 _;
      first = λ e. absurd (not_first log own force e);
      neighbour = refl;
      ack = refl;
      leaf = refl;
      checkpoint = ap not (bytes_same (body_digest log));
      numbers = refl;
      overdue = none_left (known log) now ck none;
    } in
    let one = one_went own log now ck sound f in
    let log2 = log ++ made now ck ∷ [] in
    let next : known log2 ≡ counted (known log) (Some ck) now = known_next log now ck f.content in
    let still : due (known log2) now ≡ [] = ap (λ (u : Tally). due u now) next ∙ passing_same most_neighbours (is_due (known log) now) (is_due (counted (known log) (Some ck) now) now) (due_same (known log) (body_digest log) now) ∙ none in
    let number : (known log2).commits ≡ leaf = ap (λ (u : Tally). u.commits) next ∙ (no_leaf false (known log).commits refl ∙ is) in
    let force2 : (known log2).in_force ≡ Some own = ap (λ (u : Tally). u.in_force) next ∙ force in
    let ca = Commit auditor leaf in
    let g : Fine own log2 now ca = record {
      content = (inr refl, low);
      first = λ e. absurd (not_first log2 own force2 e);
      neighbour = refl;
      ack = refl;
      leaf = ap not (eq-eqb leaf (known log2).commits (sym number));
      checkpoint = refl;
      numbers = refl;
      overdue = none_left (known log2) now ca still;
    } in
    let two = one_went own log2 now ca one.sound g in
    let last : known (log2 ++ made now ca ∷ []) ≡ counted (known log2) (Some ca) now = known_next log2 now ca g.content in
    let count : (known (log2 ++ made now ca ∷ [])).commits ≡ (known log2).commits + 1 = ap (λ (u : Tally). u.commits) last in
    let same : log2 ++ made now ca ∷ [] ≡ log ++ (made now ck ∷ made now ca ∷ []) = append_assoc log (made now ck ∷ []) (made now ca ∷ []) in
    record {
      went = joined own log (made now ck ∷ []) (made now ca ∷ []) one two;
      commits = subst (λ (l : List LogEntry). (known l).commits ≡ (known log).commits + 1) same (omega (arith, count, number, is));
      force = subst (λ (l : List LogEntry). (known l).in_force ≡ Some own) same (ap (λ (u : Tally). u.in_force) last ∙ force2);
    }

close_stepped : (own : Numbers) (log : List LogEntry) (now : ℕ) → Sound own (known log) → (known log).in_force ≡ Some own
    → (known log).commits + (length (due (known log) now ++ others_waiting (known log) now) + 1) < 2 ^ 32
    → Stepped own log
    (commits_to now (known log).commits (due (known log) now ++ others_waiting (known log) now)
    ++ (made now (Checkpoint (body_digest (log ++ commits_to now (known log).commits (due (known log) now ++ others_waiting (known log) now))))
    ∷ made now (Commit auditor ((known log).commits + length (due (known log) now ++ others_waiting (known log) now))) ∷ []))
    (length (due (known log) now ++ others_waiting (known log) now) + 1)
close_stepped own log now sound force low =
    let t = known log in
    let ns = due t now ++ others_waiting t now in
    let heads = commits_to now t.commits ns in
    let each = each_declared t now (others_waiting t now) (passing_each most_neighbours (λ n. waits t n && not (is_due t now n))) in
    let h : Committed own log heads now (length ns) = heads_fine own now (due t now) (others_waiting t now) log sound refl each (λ k. omega (arith, low)) in
    let s = seal_went own (log ++ heads) now (t.commits + length ns) h.went.sound (h.alike.force ∙ force) h.none h.commits (omega (arith, low)) in
    let end = made now (Checkpoint (body_digest (log ++ heads))) ∷ made now (Commit auditor (t.commits + length ns)) ∷ [] in
    let same : (log ++ heads) ++ end ≡ log ++ (heads ++ end) = append_assoc log heads end in
    record {
      went = joined own log heads end h.went s.went;
      commits = subst (λ (l : List LogEntry). (known l).commits ≡ t.commits + (length ns + 1)) same (omega (arith, s.commits, h.commits));
      force = subst (λ (l : List LogEntry). (known l).in_force ≡ Some own) same s.force;
    }

-- ---- the step

idle_by : (b : Bool) (c : Content) → cond b None (Some c) ≡ None → b ≡ true
idle_by true c e = refl
idle_by false c e = absurd cc

pub appended_stepped : (r : Recorder) (log : List LogEntry) (event : Event) → IsRecorder r → Sound r.own (known log) → MayCome r log event
    → (0 < leaves_for r log event → (known log).commits + leaves_for r log event < 2 ^ 32) → Stepped r.own log (appended r log event) (leaves_for r log event)
unfolding spoken
appended_stepped r log (Begin time) is sound may low =
    plain_by r.own log (moment log time) (told r log (Begin time)) sound (λ u c alike e. told_fits r log (Begin time) u c is sound may alike e) (λ e. own_in_force r.own (known log) sound (idle_by (is_in_force r.own (known log).in_force) _ e)) low
appended_stepped r log (Heard time n as4 raw) is sound may low =
    plain_by r.own log (moment log time) (told r log (Heard time n as4 raw)) sound (λ u c alike e. told_fits r log (Heard time n as4 raw) u c is sound may alike e) (λ e. own_in_force r.own (known log) sound may.begun) low
appended_stepped r log (Said time n as4 raw) is sound may low =
    plain_by r.own log (moment log time) (told r log (Said time n as4 raw)) sound (λ u c alike e. told_fits r log (Said time n as4 raw) u c is sound may alike e) (λ e. own_in_force r.own (known log) sound may.begun) low
appended_stepped r log (StateChanged time n old new) is sound may low =
    plain_by r.own log (moment log time) (told r log (StateChanged time n old new)) sound (λ u c alike e. told_fits r log (StateChanged time n old new) u c is sound may alike e) (λ e. own_in_force r.own (known log) sound may.begun) low
appended_stepped r log (FrameCame bytes) is sound may low =
    plain_by r.own log (moment log 0) (told r log (FrameCame bytes)) sound (λ u c alike e. told_fits r log (FrameCame bytes) u c is sound may alike e) (λ e. own_in_force r.own (known log) sound may.begun) low
appended_stepped r log (Close time) is sound may low =
    let now = moment log time in
    let ns = due (known log) now ++ others_waiting (known log) now in
    let force = own_in_force r.own (known log) sound (is_true (is_in_force r.own (known log).in_force) may.begun) in
    let pos : 0 < length ns + 1 = omega arith in
    close_stepped r.own log now sound force (low pos)

pub not_spent : (leaves before taken : ℕ) → is_spent leaves before taken ≡ false → 0 < taken → before + taken ≤ leaves
not_spent leaves before taken e pos =
    let h : ltb 0 taken ≡ true = lt-ltb 0 taken pos in
    let k : ltb leaves (before + taken) ≡ false = (rw h at e) in
    ltb-false _ _ k

pub few_leaves : (r : Recorder) → IsRecorder r → r.leaves ≤ 2 ^ 16
few_leaves r is = let h : 2 ^ is.height ≤ 2 ^ 16 = pow-le-pow_right {n = 2} (omega arith) is.most in omega (arith, is.leaves)

-- a step that isn't refused
pub record Accurate (r : Recorder) (log batch : List LogEntry) : Type 0 where
  pub went : Went r.own log batch
  pub leaves : (known log).commits ≤ r.leaves → (known (log ++ batch)).commits ≤ r.leaves

-- and behind it the own promise is in force
pub record Done (r : Recorder) (log batch : List LogEntry) : Type 0 where
  pub accurate : Accurate r log batch
  pub force : (known (log ++ batch)).in_force ≡ Some r.own

pub step_accurate : (r : Recorder) (log : List LogEntry) (event : Event) (batch : List LogEntry) → IsRecorder r → Sound r.own (known log) → MayCome r log event → core_step r log event ≡ Ok batch → Done r log batch
step_accurate r log event batch is sound may e =
    let done = step_is r log event batch e in
    let few = few_leaves r is in
    let room : 0 < leaves_for r log event → (known log).commits + leaves_for r log event ≤ r.leaves = not_spent r.leaves (known log).commits (leaves_for r log event) done.spare in
    let s = appended_stepped r log event is sound may (λ h. omega (arith, room h)) in
    subst (Done r log) done.are (record {
      accurate = record { went = s.went; leaves = λ le. fits (leaves_for r log event) (known log).commits r.leaves le room s.commits };
      force = s.force;
    })
  where
    fits : (taken before leaves : ℕ) {after : ℕ} → before ≤ leaves → (0 < taken → before + taken ≤ leaves) → after ≡ before + taken → after ≤ leaves
    fits zero before leaves le room e = omega arith
    fits (suc taken) before leaves le room e = omega (arith, room (omega arith))
