-- What is appended are entries that fit.
use Rattle.std.proofs.Common.{◌≡◌, ℕ, ◌+◌, ◌^◌, ◌<◌, ◌≤◌, Bool, true, false, cond, List, [], ◌∷◌, ◌++◌, length, Option, Some, None, Ok, refl, sym, subst, arith}
use Rattle.std.proofs.lemmas.List.{length-append}
use Rattle.std.specs.List.{AllByRecursion}
use Rattle.byteorder.specs.Endian.{big_bytes}
use Rattle.byteorder.specs.Numbers.{length-bytes_high_first}
use Rattle.sha2.proofs.Facts256.{length-sha256}
use Rattle.nr_spec_log.specs.Chain.{LogEntry}
use Rattle.nr_spec_log.specs.Authenticator.{digest_size}
use Rattle.nr_spec_log.specs.Answer.{IsEntry, AreEntriesFrom, last_time}
use Rattle.nr_spec_entry.specs.Contents.{Ack, auditor, Checkpoint, Commit, Content, content_bytes, flag, kind_of, Promise, Recv, Send, State}
use Rattle.nr_spec_counts.specs.Tallies.{Numbers, Tally}
use Rattle.nr_spec_steps.specs.Events.{Begin, Close, Event, FrameCame, Heard, Said, StateChanged, time_of}
use Rattle.nr_spec_steps.specs.Steps.{body_digest, commits_to, core_step, entry_for, heads_for, is_idle, is_in_force, known, made, moment, Recorder, sealed, spoken, told}
use Rattle.nr_spec_steps.specs.Telling.{IsFairAck, IsNamed, IsOwn, IsRecorder, IsRoomy, MayAllCome, most_raw}
use Rattle.nr_spec_steps.specs.Turns.{turn}
use Rattle.nr_laws_accuracy.specs.Times.{AreOrdered}
use Rattle.nr_laws_accuracy.specs.Allowed.{IsAllowed}
use Rattle.nr_laws_accuracy.proofs.Tallying.{Sound}
use Rattle.nr_laws_accuracy.proofs.Step.{step_accurate}
use Rattle.nr_laws_accuracy.proofs.Allowed.{allowed_sound}
use Rattle.nr_laws_accuracy.proofs.Done.{no_turn, step_is, turn_is}
use Rattle.nr_laws_accuracy.proofs.Times.{known_last, turn_ordered, time_join}

-- ---- one entry

abbrev pub IsSized : Content → Type 0
IsSized (Send n as4 raw) = length raw ≤ most_raw
IsSized (Recv n as4 raw) = length raw ≤ most_raw
IsSized (State n old new) = Unit {0}
IsSized (Ack n upto seq time hash sig) = (length hash ≡ digest_size) × (length sig ≡ digest_size)
IsSized (Commit n leaf) = Unit {0}
IsSized (Checkpoint body) = length body ≡ digest_size
IsSized (Promise file count delay) = length file ≡ digest_size

exchange_size : (x y raw : List ℕ) → length x ≡ 2 → length y ≡ 1 → length raw ≤ most_raw → length (x ++ (y ++ raw)) < 2 ^ 16
exchange_size x y raw a b c = omega (arith, length-append x (y ++ raw), length-append y raw)

three_size : (x y z : List ℕ) → length x ≤ 64 → length y ≤ 64 → length z ≤ 64 → length (x ++ (y ++ z)) < 2 ^ 16
three_size x y z a b c = omega (arith, length-append x (y ++ z), length-append y z)

two_size : (x y : List ℕ) → length x ≤ 64 → length y ≤ 64 → length (x ++ y) < 2 ^ 16
two_size x y a b = omega (arith, length-append x y)

six_size : (a b c d e f : List ℕ) → length a ≤ 64 → length b ≤ 64 → length c ≤ 64 → length d ≤ 64 → length e ≤ 64 → length f ≤ 64 → length (a ++ (b ++ (c ++ (d ++ (e ++ f))))) < 2 ^ 16
six_size a b c d e f ha hb hc hd he hf =
    omega (arith, length-append a (b ++ (c ++ (d ++ (e ++ f)))), length-append b (c ++ (d ++ (e ++ f))), length-append c (d ++ (e ++ f)), length-append d (e ++ f), length-append e f)

number_size : (k n : ℕ) → k ≤ 64 → length (big_bytes k n) ≤ 64
number_size k n le = omega (arith, length-bytes_high_first k n)

content_size : (c : Content) → IsSized c → length (content_bytes c) < 2 ^ 16
content_size (Send n as4 raw) h = exchange_size (big_bytes 2 n) (big_bytes 1 (flag as4)) raw (length-bytes_high_first 2 n) (length-bytes_high_first 1 (flag as4)) h
content_size (Recv n as4 raw) h = exchange_size (big_bytes 2 n) (big_bytes 1 (flag as4)) raw (length-bytes_high_first 2 n) (length-bytes_high_first 1 (flag as4)) h
content_size (State n old new) h = three_size (big_bytes 2 n) (big_bytes 2 old) (big_bytes 2 new) (number_size 2 n (omega arith)) (number_size 2 old (omega arith)) (number_size 2 new (omega arith))
content_size (Ack n upto seq time hash sig) h =
    six_size (big_bytes 2 n) (big_bytes 8 upto) (big_bytes 8 seq) (big_bytes 8 time) hash sig (number_size 2 n (omega arith)) (number_size 8 upto (omega arith)) (number_size 8 seq (omega arith)) (number_size 8 time (omega arith)) (omega (arith, h.0)) (omega (arith, h.1))
content_size (Commit n leaf) h = two_size (big_bytes 2 n) (big_bytes 4 leaf) (number_size 2 n (omega arith)) (number_size 4 leaf (omega arith))
content_size (Checkpoint body) h = omega (arith, h)
content_size (Promise file count delay) h = three_size file (big_bytes 2 count) (big_bytes 4 delay) (omega (arith, h)) (number_size 2 count (omega arith)) (number_size 4 delay (omega arith))

kind_size : (c : Content) → kind_of c < 256
kind_size (Send n as4 raw) = omega arith
kind_size (Recv n as4 raw) = omega arith
kind_size (State n old new) = omega arith
kind_size (Ack n upto seq time hash sig) = omega arith
kind_size (Commit n leaf) = omega arith
kind_size (Checkpoint body) = omega arith
kind_size (Promise file count delay) = omega arith

made_fits : (now : ℕ) (c : Content) → now < 2 ^ 64 → IsSized c → IsEntry (made now c)
made_fits now c lt h = record { time = lt; kind = kind_size c; content = content_size c h }

-- ---- what an event appends

pub all_join : (xs ys : List LogEntry) → AllByRecursion IsEntry xs → AllByRecursion IsEntry ys → AllByRecursion IsEntry (xs ++ ys)
all_join [] ys a b = b
all_join (x ∷ xs) ys a b = (a.0, all_join xs ys a.1 b)

pub commits_fit : (now leaf : ℕ) (ns : List ℕ) → now < 2 ^ 64 → AllByRecursion IsEntry (commits_to now leaf ns)
commits_fit now leaf [] lt = tt
commits_fit now leaf (n ∷ ns) lt = (made_fits now (Commit n leaf) lt tt, commits_fit now (leaf + 1) ns lt)

fair_sized : (own : Numbers) (t : Tally) (c : Content) → IsFairAck own t c → IsSized c
fair_sized own t (Ack n upto seq time hash sig) h = (h.5, h.6)
fair_sized own t (Send n as4 raw) h = absurd h
fair_sized own t (Recv n as4 raw) h = absurd h
fair_sized own t (State n old new) h = absurd h
fair_sized own t (Commit n leaf) h = absurd h
fair_sized own t (Checkpoint body) h = absurd h
fair_sized own t (Promise file count delay) h = absurd h

pub begun_by : (b : Bool) (own : Numbers) (c : Content) → IsOwn own → cond b None (Some (Promise own.digest own.count own.delay)) ≡ Some c → IsSized c
begun_by true own c is e = absurd cc
begun_by false own c is e = let same : Promise own.digest own.count own.delay ≡ c = cc in subst IsSized same is.digest

told_sized : (r : Recorder) (log : List LogEntry) (event : Event) (c : Content) → IsRecorder r → Sound r.own (known log) → IsNamed r.own event → IsRoomy event → told r log event ≡ Some c → IsSized c
told_sized r log (Begin time) c is sound named roomy e = begun_by (is_in_force r.own (known log).in_force) r.own c is.own e
told_sized r log (Heard time n as4 raw) c is sound named roomy e = let same : Recv n as4 raw ≡ c = cc in subst IsSized same roomy.1
told_sized r log (Said time n as4 raw) c is sound named roomy e = let same : Send n as4 raw ≡ c = cc in subst IsSized same roomy.1
told_sized r log (StateChanged time n old new) c is sound named roomy e = let same : State n old new ≡ c = cc in subst IsSized same tt
told_sized r log (FrameCame bytes) c is sound named roomy e = fair_sized r.own (known log) c (is.fair log bytes c named sound.acks e)
told_sized r log (Close time) c is sound named roomy e = absurd cc

pub told_fit : (now : ℕ) (o : Option Content) → now < 2 ^ 64 → ((c : Content) → o ≡ Some c → IsSized c) → AllByRecursion IsEntry (entry_for now o)
told_fit now None lt h = tt
told_fit now (Some c) lt h = (made_fits now c lt (h c refl), tt)

pub sealed_fit : (log : List LogEntry) (now leaf : ℕ) (event : Event) → now < 2 ^ 64 → AllByRecursion IsEntry (sealed log now leaf event)
sealed_fit log now leaf (Begin time) lt = tt
sealed_fit log now leaf (Heard time n as4 raw) lt = tt
sealed_fit log now leaf (Said time n as4 raw) lt = tt
sealed_fit log now leaf (StateChanged time n old new) lt = tt
sealed_fit log now leaf (FrameCame bytes) lt = tt
sealed_fit log now leaf (Close time) lt = (made_fits now (Checkpoint (body_digest log)) lt (length-sha256 _), (made_fits now (Commit auditor leaf) lt tt, tt))

pub time_fits : (event : Event) → IsRoomy event → time_of event < 2 ^ 64
time_fits (Begin time) h = h
time_fits (Heard time n as4 raw) h = h.0
time_fits (Said time n as4 raw) h = h.0
time_fits (StateChanged time n old new) h = h
time_fits (FrameCame bytes) h = omega arith
time_fits (Close time) h = h

spoken_fit : (r : Recorder) (log : List LogEntry) (event : Event) → IsRecorder r → Sound r.own (known log) → IsNamed r.own event → IsRoomy event → last_time 0 log < 2 ^ 64 → AllByRecursion IsEntry (spoken r log event)
unfolding spoken
spoken_fit r log event is sound named roomy last =
    let now = moment log (time_of event) in
    let ns = heads_for (known log) now event in
    let lt : now < 2 ^ 64 = omega (arith, known_last log, last, time_fits event roomy) in
    all_join (commits_to now (known log).commits ns) _ (commits_fit now (known log).commits ns lt)
    (all_join (entry_for now (told r log event)) _ (told_fit now (told r log event) lt (λ c e. told_sized r log event c is sound named roomy e)) (sealed_fit _ now _ event lt))

pub appended_by : (b : Bool) (xs : List LogEntry) → AllByRecursion IsEntry xs → AllByRecursion IsEntry (cond b [] xs)
appended_by true xs h = tt
appended_by false xs h = h

step_fit : (r : Recorder) (log : List LogEntry) (event : Event) (batch : List LogEntry) → IsRecorder r → Sound r.own (known log) → IsNamed r.own event → IsRoomy event → last_time 0 log < 2 ^ 64 → core_step r log event ≡ Ok batch → AllByRecursion IsEntry batch
step_fit r log event batch is sound named roomy last e =
    subst (AllByRecursion IsEntry) (step_is r log event batch e).are (appended_by (is_idle event (told r log event)) (spoken r log event) (spoken_fit r log event is sound named roomy last))

pub last_fits : (es : List LogEntry) (b : ℕ) → b < 2 ^ 64 → AllByRecursion IsEntry es → last_time b es < 2 ^ 64
last_fits [] b lt h = lt
last_fits (e ∷ es) b lt h = last_fits es e.time h.0.time h.1

turn_fit : (r : Recorder) (events : List Event) (log batch : List LogEntry) → IsRecorder r → Sound r.own (known log) → MayAllCome r log events → AllByRecursion IsRoomy events → last_time 0 log < 2 ^ 64 → turn r log events ≡ Ok batch → AllByRecursion IsEntry batch
turn_fit r [] log batch is sound may roomy last e = subst (AllByRecursion IsEntry) (no_turn r log batch e) tt
turn_fit r (event ∷ events) log batch is sound may roomy last e =
    let t = turn_is r log event events batch e in
    let first = step_fit r log event t.first is sound may.0.named roomy.0 last t.step in
    let next : last_time 0 (log ++ t.first) < 2 ^ 64 = subst (λ (k : ℕ). k < 2 ^ 64) (sym (time_join 0 log t.first)) (last_fits t.first (last_time 0 log) last first) in
    let done = step_accurate r log event t.first is sound may.0 t.step in
    let others = turn_fit r events (log ++ t.first) t.others is done.accurate.went.sound (may.1 t.first t.step) roomy.1 next t.turn_on in
    subst (AllByRecursion IsEntry) t.are (all_join t.first t.others first others)

pub entries_by : (last : ℕ) (es : List LogEntry) → AreOrdered last es → AllByRecursion IsEntry es → AreEntriesFrom last es
entries_by last [] order fit = tt
entries_by last (e ∷ es) order fit = (fit.0, order.0, entries_by e.time es order.1 fit.1)

-- A batch is what an append asks: entries that fit, whose times don't run back behind the log.
pub batch_fits : (r : Recorder) (events : List Event) (log batch : List LogEntry) → IsRecorder r → IsAllowed r.own log → MayAllCome r log events → AllByRecursion IsRoomy events → last_time 0 log < 2 ^ 64 → turn r log events ≡ Ok batch → AreEntriesFrom (last_time 0 log) batch
batch_fits r events log batch is allowed may roomy last e =
    entries_by (last_time 0 log) batch (turn_ordered r events log batch e) (turn_fit r events log batch is (allowed_sound r.own log allowed) may roomy last e)
