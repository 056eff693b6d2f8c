-- The COMMITs of a step are those that are listed.
use Rattle.std.proofs.Common.{◌≡◌, ℕ, suc, ◌+◌, ◌^◌, ◌<◌, ◌≤◌, inl, inr, Bool, true, false, cond, ltb, List, [], ◌∷◌, ◌++◌, length, Option, Some, None, Ok, refl, sym, ap, ◌∙◌, append_assoc, append-nil, arith}
use Rattle.std.proofs.lemmas.Bool.{le-ltb}
use Rattle.std.proofs.lemmas.List.Elements.{filter-append}
use Rattle.std.specs.List.{filter, AllByRecursion}
use Rattle.sha2.proofs.Facts256.{length-sha256}
use Rattle.nr_spec_log.specs.Chain.{LogEntry}
use Rattle.nr_spec_entry.specs.Contents.{Ack, auditor, Checkpoint, Commit, Content, Promise, Recv, Send, State, most_neighbours}
use Rattle.nr_spec_entry.specs.ContentReading.{content_of}
use Rattle.nr_spec_counts.specs.Tallies.{is_commit, Numbers, Tally}
use Rattle.nr_spec_steps.specs.Events.{Begin, Close, Event, FrameCame, Heard, Said, StateChanged, is_close, time_of}
use Rattle.nr_spec_steps.specs.Steps.{Recorder, body_digest, commits_to, core_step, entry_for, heads_for, is_due, is_idle, known, leaves_for, made, moment, neighbours_with, sealed, spoken, told}
use Rattle.nr_spec_steps.specs.Heads.{Committed, committed_by, numbered}
use Rattle.nr_spec_steps.specs.Telling.{IsRecorder, MayCome}
use Rattle.nr_laws_entry.proofs.Spelled.{content_again}
use Rattle.nr_laws_accuracy.specs.Allowed.{IsAllowed}
use Rattle.nr_laws_accuracy.specs.Commits.{commits_in, committed_at, own_commits}
use Rattle.nr_laws_accuracy.proofs.Ranges.{passing_each}
use Rattle.nr_laws_accuracy.proofs.Done.{step_is}
use Rattle.nr_laws_accuracy.proofs.Tallying.{Sound}
use Rattle.nr_laws_accuracy.proofs.Walk.{alike_self}
use Rattle.nr_laws_accuracy.proofs.Step.{Fits, told_fits, not_spent, few_leaves}
use Rattle.nr_laws_accuracy.proofs.Allowed.{allowed_sound}

-- ---- COMMITs among entries that are joined

commits_join : (xs ys : List LogEntry) (seq : ℕ) → commits_in seq (xs ++ ys) ≡ commits_in seq xs ++ commits_in (seq + length xs) ys
commits_join [] ys seq = ap (λ (k : ℕ). commits_in k ys) (omega arith)
commits_join (x ∷ xs) ys seq =
    let here = committed_at seq (content_of x) in
    let size : seq + 1 + length xs ≡ seq + length (x ∷ xs) = omega arith in
    ap (λ (l : List Committed). here ++ l) (commits_join xs ys (seq + 1) ∙ ap (λ (k : ℕ). commits_in (seq + 1) xs ++ commits_in k ys) size)
    ∙ sym (append_assoc here (commits_in (seq + 1) xs) (commits_in (seq + length (x ∷ xs)) ys))

-- those to neighbours, with leaves of four bytes
are_numbered : (now : ℕ) (ns : List ℕ) (seq leaf : ℕ) → AllByRecursion (λ n. n < most_neighbours) ns → (0 < length ns → leaf + length ns ≤ 2 ^ 32) → commits_in seq (commits_to now leaf ns) ≡ numbered seq ns
are_numbered now [] seq leaf all low = refl
are_numbered now (n ∷ ns) seq leaf all low =
    let fits : leaf + length (n ∷ ns) ≤ 2 ^ 32 = low (omega arith) in
    let small : leaf < 2 ^ 32 = omega (arith, fits) in
    let one : Committed = record { neighbour = n; seq = seq } in
    let here : committed_at seq (content_of (made now (Commit n leaf))) ≡ one ∷ [] = ap (committed_at seq) (content_again (Commit n leaf) (inl all.0, small)) in
    ap (λ (l : List Committed). l ++ commits_in (seq + 1) (commits_to now (leaf + 1) ns)) here
    ∙ ap (λ (l : List Committed). one ∷ l) (are_numbered now ns (seq + 1) (leaf + 1) all.1 (λ h. omega (arith, fits)))

size_to : (now leaf : ℕ) (ns : List ℕ) → length (commits_to now leaf ns) ≡ length ns
size_to now leaf [] = refl
size_to now leaf (n ∷ ns) = ap suc (size_to now (leaf + 1) ns)

none_at : (seq : ℕ) (c : Content) → is_commit (Some c) ≡ false → committed_at seq (Some c) ≡ []
none_at seq (Send n as4 raw) e = refl
none_at seq (Recv n as4 raw) e = refl
none_at seq (State n old new) e = refl
none_at seq (Ack n upto at time hash sig) e = refl
none_at seq (Commit n leaf) e = absurd cc
none_at seq (Checkpoint body) e = refl
none_at seq (Promise file count delay) e = refl

-- the entry that an event is about is no COMMIT
none_told : (own : Numbers) (u : Tally) (now seq : ℕ) (o : Option Content) → ((c : Content) → o ≡ Some c → Fits own u c) → commits_in seq (entry_for now o) ≡ []
none_told own u now seq None fits = refl
none_told own u now seq (Some c) fits =
    let f = fits c refl in
    ap (λ (l : List Committed). l ++ []) (ap (committed_at seq) (content_again c f.content) ∙ none_at seq c f.plain)

-- ---- those to neighbours of the own file

abbrev listed : Numbers → Committed → Bool
listed own c = ltb c.neighbour own.count

-- COMMITs to neighbours, an entry that is no COMMIT, and an end without a COMMIT to a neighbour of the own file
spoken_by : (own : Numbers) (now leaf seq : ℕ) (ns : List ℕ) (told_of end : List LogEntry) → AllByRecursion (λ n. n < most_neighbours) ns → (0 < length ns → leaf + length ns ≤ 2 ^ 32)
    → ((k : ℕ) → commits_in k told_of ≡ []) → ((k : ℕ) → filter (listed own) (commits_in k end) ≡ [])
    → own_commits own seq (commits_to now leaf ns ++ (told_of ++ end)) ≡ filter (listed own) (numbered seq ns)
spoken_by own now leaf seq ns told_of end all low silent unlisted =
    let heads = commits_to now leaf ns in
    let k = seq + length heads in
    let later : commits_in k (told_of ++ end) ≡ commits_in (k + length told_of) end = commits_join told_of end k ∙ ap (λ (l : List Committed). l ++ commits_in (k + length told_of) end) (silent k) in
    let whole : commits_in seq (heads ++ (told_of ++ end)) ≡ numbered seq ns ++ commits_in (k + length told_of) end =
    commits_join heads (told_of ++ end) seq ∙ (λ i. are_numbered now ns seq leaf all low i ++ later i) in
    ap (filter (listed own)) whole ∙ (filter-append (listed own) (numbered seq ns) (commits_in (k + length told_of) end)
    ∙ (ap (λ (l : List Committed). filter (listed own) (numbered seq ns) ++ l) (unlisted (k + length told_of)) ∙ append-nil (filter (listed own) (numbered seq ns))))

not_listed : (b : Bool) (x : Committed) → b ≡ false → cond b (x ∷ []) [] ≡ []
not_listed true x e = absurd cc
not_listed false x e = refl

-- a checkpoint and the COMMIT to the auditor, who is no neighbour
seal_unlisted : (own : Numbers) (now leaf k : ℕ) (body : List ℕ) → own.count ≤ most_neighbours → length body ≡ 32 → leaf < 2 ^ 32 → filter (listed own) (commits_in k (made now (Checkpoint body) ∷ made now (Commit auditor leaf) ∷ [])) ≡ []
seal_unlisted own now leaf k body few size low =
    let one : Committed = record { neighbour = auditor; seq = k + 1 } in
    let first : committed_at k (content_of (made now (Checkpoint body))) ≡ [] = ap (committed_at k) (content_again (Checkpoint body) size) in
    let second : committed_at (k + 1) (content_of (made now (Commit auditor leaf))) ≡ one ∷ [] = ap (committed_at (k + 1)) (content_again (Commit auditor leaf) (inr refl, low)) in
    let both : commits_in k (made now (Checkpoint body) ∷ made now (Commit auditor leaf) ∷ []) ≡ one ∷ [] = λ i. first i ++ (second i ++ []) in
    ap (filter (listed own)) both ∙ not_listed (listed own one) one (le-ltb auditor own.count (omega (arith, few)))

sealed_unlisted : (own : Numbers) (log : List LogEntry) (now leaf : ℕ) (event : Event) → own.count ≤ most_neighbours → (is_close event ≡ true → leaf < 2 ^ 32) → (k : ℕ) → filter (listed own) (commits_in k (sealed log now leaf event)) ≡ []
sealed_unlisted own log now leaf (Begin time) few low k = refl
sealed_unlisted own log now leaf (Heard time n as4 raw) few low k = refl
sealed_unlisted own log now leaf (Said time n as4 raw) few low k = refl
sealed_unlisted own log now leaf (StateChanged time n old new) few low k = refl
sealed_unlisted own log now leaf (FrameCame bytes) few low k = refl
sealed_unlisted own log now leaf (Close time) few low k = seal_unlisted own now leaf k (body_digest log) few (length-sha256 _) (low refl)

-- ---- a step commits to neighbours

below : (p : ℕ → Bool) (ns : List ℕ) → AllByRecursion (λ n. (p n ≡ true) × (n < most_neighbours)) ns → AllByRecursion (λ n. n < most_neighbours) ns
below p [] h = tt
below p (n ∷ ns) h = (h.0.1, below p ns h.1)

below_join : (xs ys : List ℕ) → AllByRecursion (λ n. n < most_neighbours) xs → AllByRecursion (λ n. n < most_neighbours) ys → AllByRecursion (λ n. n < most_neighbours) (xs ++ ys)
below_join [] ys a b = b
below_join (x ∷ xs) ys a b = (a.0, below_join xs ys a.1 b)

pub neighbours_below : (p : ℕ → Bool) → AllByRecursion (λ n. n < most_neighbours) (neighbours_with p)
neighbours_below p = below p (neighbours_with p) (passing_each most_neighbours p)

heads_below : (t : Tally) (now : ℕ) (event : Event) → AllByRecursion (λ n. n < most_neighbours) (heads_for t now event)
heads_below t now (Begin time) = neighbours_below (is_due t now)
heads_below t now (Heard time n as4 raw) = neighbours_below (is_due t now)
heads_below t now (Said time n as4 raw) = neighbours_below (is_due t now)
heads_below t now (StateChanged time n old new) = neighbours_below (is_due t now)
heads_below t now (FrameCame bytes) = neighbours_below (is_due t now)
heads_below t now (Close time) = below_join (neighbours_with (is_due t now)) _ (neighbours_below (is_due t now)) (neighbours_below _)

-- how many leaves an event takes that isn't idle
abbrev pub taken : Tally → ℕ → Event → ℕ
taken t now event = length (heads_for t now event) + cond (is_close event) 1 0

spoken_listed : (r : Recorder) (log : List LogEntry) (event : Event) → IsRecorder r → Sound r.own (known log) → MayCome r log event
    → (0 < taken (known log) (moment log (time_of event)) event → (known log).commits + taken (known log) (moment log (time_of event)) event ≤ 2 ^ 32)
    → own_commits r.own (length log + 1) (spoken r log event) ≡ filter (listed r.own) (numbered (length log + 1) (heads_for (known log) (moment log (time_of event)) event))
unfolding spoken
spoken_listed r log event is sound may low =
    let t = known log in
    let now = moment log (time_of event) in
    let ns = heads_for t now event in
    let extra : ℕ = cond (is_close event) 1 0 in
    let last : is_close event ≡ true → t.commits + length ns < 2 ^ 32 = λ e. (let one : extra ≡ 1 = ap (λ (b : Bool). let k : ℕ = cond b 1 0 in k) e in let k : t.commits + (length ns + extra) ≤ 2 ^ 32 = low (omega (arith, one)) in omega (arith, one, k)) in
    spoken_by r.own now t.commits (length log + 1) ns (entry_for now (told r log event)) _ (heads_below t now event)
    (λ h. let k : t.commits + (length ns + extra) ≤ 2 ^ 32 = low (omega (arith, h)) in omega (arith, k))
    (λ k. none_told r.own t now k (told r log event) (λ c e. told_fits r log event t c is sound may (alike_self t) e))
    (sealed_unlisted r.own _ now (t.commits + length ns) event is.own.count last)

appended_by : (b : Bool) (own : Numbers) (seq : ℕ) (xs : List LogEntry) (names : List Committed) (before taken : ℕ) → (0 < cond b 0 taken → before + cond b 0 taken ≤ 2 ^ 32)
    → ((0 < taken → before + taken ≤ 2 ^ 32) → own_commits own seq xs ≡ names) → cond b [] names ≡ own_commits own seq (cond b [] xs)
appended_by true own seq xs names before taken low are = refl
appended_by false own seq xs names before taken low are = sym (are low)

pub step_listed : (r : Recorder) (log : List LogEntry) (event : Event) (batch : List LogEntry) → IsRecorder r → IsAllowed r.own log → MayCome r log event → core_step r log event ≡ Ok batch
    → committed_by r log event ≡ own_commits r.own (length log + 1) batch
unfolding committed_by
step_listed r log event batch is allowed may e =
    let done = step_is r log event batch e in
    let few = few_leaves r is in
    let room : 0 < leaves_for r log event → (known log).commits + leaves_for r log event ≤ 2 ^ 32 = λ h. omega (arith, few, not_spent r.leaves (known log).commits (leaves_for r log event) done.spare h) in
    appended_by (is_idle event (told r log event)) r.own (length log + 1) (spoken r log event) _ (known log).commits (taken (known log) (moment log (time_of event)) event) room
    (λ low. spoken_listed r log event is (allowed_sound r.own log allowed) may low)
    ∙ ap (own_commits r.own (length log + 1)) done.are
