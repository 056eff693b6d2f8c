-- The log that a file holds depends on its front alone, and a batch after an opened gate is one batch more.
use Rattle.std.proofs.Common.{◌≡◌, ℕ, suc, ◌+◌, ◌-◌, ◌^◌, ◌<◌, ◌≤◌, Bool, true, false, cond, eqb, leb, List, [], ◌∷◌, ◌++◌, length, get_or, take, drop, Option, Some, None, Result, Ok, Err, refl, sym, ap, subst, ◌∙◌, append_assoc, arith, ◌⊎◌, inl, inr}
use Rattle.std.specs.List.{flat_map}
use Rattle.std.specs.Str.{bytes_eq}
use Rattle.std.proofs.lemmas.Grind.{flat_map-append}
use Rattle.std.proofs.lemmas.Bool.{cases_Bool, eqb-true, eqb-false, ne_eqb, le-leb, leb-false, lt-leb}
use Rattle.std.proofs.lemmas.List.{length-append, append-nil, take_at, take-append-drop}
use Rattle.std.proofs.lemmas.List.Concat.{flat_map-cons}
use Rattle.std.proofs.lemmas.Slice.Eq.{bytes_eq-Decides}
use Rattle.byteorder.specs.Endian.{big_bytes}
use Rattle.byteorder.specs.Numbers.{length-bytes_high_first}
use Rattle.nr_spec_wire.specs.Reading.{Spot, ◌>>=◌, start_of, number_at, bytes_at, IsBytes}
use Rattle.nr_spec_wire.proofs.Steps.{ok_is, bind_ok}
use Rattle.nr_spec_log.specs.Chain.{LogEntry}
use Rattle.nr_spec_log.specs.Authenticator.{digest_size}
use Rattle.nr_spec_log.specs.Answer.{AreEntriesFrom, last_time}
use Rattle.nr_laws_log.specs.Laws.{Takes}
use Rattle.nr_laws_log.proofs.Fields.{Takes-then, number_step, number_again, bytes_step, bytes_again, wants_step, reads_then, wants_then}
use Rattle.nr_spec_store.specs.LogFile.{LogFile, IsLog, Birth, AreBatchesFrom, spelled, batch, open_batch, entries_of, is_open, is_born, birth, birth_at, birth_size, batches_at, born_log, log_of, log_magic, log_front, opened, with_batch}
use Rattle.nr_spec_store.specs.StoreCrashes.{HoldsEntries}
use Rattle.nr_laws_store.proofs.BatchLaws.{so_then, both_true, gate_takes, gate_again, batches_take, batches_again}

-- ---- the birth

pub record IsBirth (s : Spot) (b : Birth) (new : Spot) : Type 0 where
  pub asn : b.asn < 2 ^ 32
  pub root : length b.root ≡ digest_size
  pub takes : Takes s (birth b.asn b.root) new

tail_fits : (b : ℕ) (bytes : List ℕ) → IsBytes (b ∷ bytes) → IsBytes bytes
tail_fits b bytes h i = h (suc i)

pub birth_takes : (s : Spot) (b : Birth) (new : Spot) → IsBytes s.rest → is_open (get_or s.rest 0 0) ≡ true → birth_at s ≡ Ok (b, new) → IsBirth s b new
unfolding birth_at
birth_takes s b new fits opens e =
    let a = bind_ok (number_at 1 s) _ (b, new) e in
    let gate = gate_takes s.at s.rest a.0.0 a.0.1 a.1 in
    let one : a.0.0 ≡ 1 = eqb-true _ _ (subst (λ (r : List ℕ). is_open (get_or r 0 0) ≡ true) gate.parts opens) in
    let rest_fits : IsBytes a.0.1.rest = tail_fits a.0.0 a.0.1.rest (subst IsBytes gate.parts fits) in
    let gate_is : Takes s (a.0.0 ∷ []) a.0.1 = record { parts = gate.parts; place = gate.place; rest_fits = rest_fits } in
    let open_is : Takes s (1 ∷ []) a.0.1 = subst (λ (g : ℕ). Takes s (g ∷ []) a.0.1) one gate_is in
    let m = bytes_step 6 a.0.1 _ (b, new) rest_fits a.2 in
    let m_is = wants_step (bytes_eq m.value log_magic) a.0.1.at (m.value, m.next) _ (b, new) m.goes_on in
    let magic : m.value ≡ log_magic = (bytes_eq-Decides m.value log_magic).0 m_is.0 in
    let n = number_step 4 m.next _ (b, new) m.takes.rest_fits m_is.1 in
    let r = bytes_step digest_size n.next _ (b, new) n.takes.rest_fits n.goes_on in
    let made : Birth = record { asn = n.value; root = r.value } in
    let nr = Takes-then m.next (big_bytes 4 n.value) n.next r.value r.next n.takes r.takes in
    let mr = Takes-then a.0.1 m.value m.next (big_bytes 4 n.value ++ r.value) r.next m.takes nr in
    let mr_is : Takes a.0.1 (log_magic ++ (big_bytes 4 n.value ++ r.value)) r.next = subst (λ (t : List ℕ). Takes a.0.1 (t ++ (big_bytes 4 n.value ++ r.value)) r.next) magic mr in
    let all = Takes-then s (1 ∷ []) a.0.1 (log_magic ++ (big_bytes 4 n.value ++ r.value)) r.next open_is mr_is in
    let is : IsBirth s made r.next = record { asn = n.value_fits; root = r.value_fits; takes = all } in
    subst (λ (p : Birth × Spot). IsBirth s p.0 p.1) (ok_is (made, r.next) (b, new) r.goes_on) is

pub length-birth : (asn : ℕ) (root : List ℕ) → length root ≡ digest_size → length (birth asn root) ≡ 43
length-birth asn root len = omega (arith, len, length-append (big_bytes 4 asn) root, length-bytes_high_first 4 asn)

pub birth_again : (asn : ℕ) (root rest : List ℕ) → asn < 2 ^ 32 → length root ≡ digest_size
    → birth_at (record { at = 0; rest = birth asn root ++ rest }) ≡ Ok (record { asn = asn; root = root }, record { at = 43; rest = rest })
unfolding birth_at
birth_again asn root rest small len =
    let r2 = root ++ rest in
    let r1 = big_bytes 4 asn ++ r2 in
    let spelled : birth asn root ++ rest ≡ 1 ∷ (log_magic ++ r1) = ap (λ (t : List ℕ). 1 ∷ (log_magic ++ t)) (append_assoc (big_bytes 4 asn) root rest) in
    let gate = gate_again 0 1 (log_magic ++ r1) in
    let magic = bytes_again 6 log_magic 1 r1 refl in
    let is : bytes_eq log_magic log_magic ≡ true = (bytes_eq-Decides log_magic log_magic).1 refl in
    let number = number_again 4 asn 7 r2 (omega (arith, small)) in
    let digest = bytes_again digest_size root (7 + length (big_bytes 4 asn)) rest len in
    let places : 7 + length (big_bytes 4 asn) + length root ≡ 43 = omega (arith, len, length-bytes_high_first 4 asn) in
    let beyond : Spot = record { at = 7; rest = r1 } in
    let whole : birth_at (record { at = 0; rest = 1 ∷ (log_magic ++ r1) }) ≡ Ok (record { asn = asn; root = root }, record { at = 7 + length (big_bytes 4 asn) + length root; rest = rest }) =
    reads_then _ _ _ _ gate (reads_then _ _ _ _ magic (wants_then {A = List ℕ × Spot} (bytes_eq log_magic log_magic) 1 (log_magic, beyond) (λ m. number_at 4 m.1 >>= λ n. bytes_at digest_size n.1 >>= λ r. Ok (record { asn = n.0; root = r.0 }, r.1)) _ is (reads_then _ _ _ _ number (reads_then _ _ _ _ digest refl)))) in
    ap (λ (t : List ℕ). birth_at (record { at = 0; rest = t })) spelled ∙ whole ∙ ap (λ (k : ℕ). Ok (record { asn = asn; root = root }, record { at = k; rest = rest })) places

-- ---- the log

abbrev found : {A : Type 0} → A → Result (Option A) ℕ
found x = Ok (Some x)

some_is : {A : Type 0} (x y : A) → found x ≡ found y → x ≡ y
some_is x y e = cc

by_test : {A : Type 0} (test : Bool) (x y z : A) → cond test x y ≡ z → ((test ≡ true) × (x ≡ z)) ⊎ ((test ≡ false) × (y ≡ z))
by_test true x y z e = inl (refl, e)
by_test false x y z e = inr (refl, e)

-- a file whose log is this one is born, and reads so
pub record IsBorn (bytes : List ℕ) (log : LogFile) : Type 0 where
  pub born : is_born bytes ≡ true
  pub reads : born_log (start_of bytes) ≡ Ok log

abbrev unborn : Result (Option LogFile) ℕ
unborn = Ok None

no_log : (log : LogFile) → unborn ≡ found log → ⊥
no_log log e = cc

pub born_of : (bytes : List ℕ) (log : LogFile) → log_of bytes ≡ Ok (Some log) → IsBorn bytes log
unfolding log_of
born_of bytes log e =
    elim (by_test (is_born bytes) _ _ _ e) [
      | inl is ↦
          let b = bind_ok (born_log (start_of bytes)) _ (Some log) is.1 in
          record { born = is.0; reads = subst (λ (l : LogFile). born_log (start_of bytes) ≡ Ok l) (some_is b.0 log b.2) b.1 }
      | inr isnt ↦ absurd (no_log log isnt.1)
    ]

-- what a file begins with, whatever its bytes are
pub record HasFront (bytes : List ℕ) (log : LogFile) : Type 0 where
  pub rest : List ℕ
  pub parts : bytes ≡ log.front ++ rest

pub front_of : (bytes : List ℕ) (log : LogFile) → log_of bytes ≡ Ok (Some log) → HasFront bytes log
unfolding born_log
front_of bytes log e =
    let born = born_of bytes log e in
    let a = bind_ok (birth_at (start_of bytes)) _ log born.reads in
    let b = bind_ok (batches_at 0 (length a.0.1.rest) a.0.1) _ log a.2 in
    let k = length bytes - length b.0.1.rest in
    let made : LogFile = record { asn = a.0.0.asn; root = a.0.0.root; entries = entries_of b.0.0; front = take k bytes } in
    let is : HasFront bytes made = record { rest = drop k bytes; parts = sym (take-append-drop k bytes) } in
    subst (λ (l : LogFile). HasFront bytes l) (ok_is made log b.2) is

pub log_takes : (bytes : List ℕ) (log : LogFile) → IsBytes bytes → log_of bytes ≡ Ok (Some log) → IsLog log
unfolding born_log
log_takes bytes log fits e =
    let born = born_of bytes log e in
    let opens = (both_true (leb birth_size (length bytes)) (is_open (get_or bytes 0 0)) born.born).1 in
    let a = bind_ok (birth_at (start_of bytes)) _ log born.reads in
    let first = birth_takes (start_of bytes) a.0.0 a.0.1 fits opens a.1 in
    let b = bind_ok (batches_at 0 (length a.0.1.rest) a.0.1) _ log a.2 in
    let others = batches_take 0 (length a.0.1.rest) a.0.1 b.0.0 b.0.1 first.takes.rest_fits b.1 in
    let text = flat_map open_batch b.0.0 ++ others.gate ∷ [] in
    let all = Takes-then (start_of bytes) (birth a.0.0.asn a.0.0.root) a.0.1 text b.0.1 first.takes others.takes in
    let whole = birth a.0.0.asn a.0.0.root ++ text in
    let k = length bytes - length b.0.1.rest in
    let size : k ≡ length whole = omega (arith, ap length all.parts, length-append whole b.0.1.rest) in
    let front : take k bytes ≡ whole = ap (λ (n : ℕ). take n bytes) size ∙ ap (λ (t : List ℕ). take (length whole) t) all.parts ∙ take_at whole b.0.1.rest (length whole) refl in
    let made : LogFile = record { asn = a.0.0.asn; root = a.0.0.root; entries = entries_of b.0.0; front = take k bytes } in
    let is : IsLog made = record {
      batches = b.0.0;
      gate = others.gate;
      closed = others.closed;
      fit = others.fit;
      asn = first.asn;
      root = first.root;
      entries = refl;
      front = front;
    } in
    subst IsLog (ok_is made log b.2) is

length-batches : (batches : List (List LogEntry)) → length batches ≤ length (flat_map open_batch batches)
length-batches [] = omega arith
length-batches (es ∷ batches) = omega (arith, length-batches batches, ap length (flat_map-cons open_batch es batches), length-append (open_batch es) (flat_map open_batch batches))

pub log_again : (asn : ℕ) (root : List ℕ) (batches : List (List LogEntry)) (gate : ℕ) (rest : List ℕ) → asn < 2 ^ 32 → length root ≡ digest_size → AreBatchesFrom 0 batches → is_open gate ≡ false
    → log_of (log_front asn root batches gate ++ rest) ≡ Ok (Some (record { asn = asn; root = root; entries = entries_of batches; front = log_front asn root batches gate }))
unfolding log_of born_log
log_again asn root batches gate rest small len fits closed =
    let front = log_front asn root batches gate in
    let middle = flat_map open_batch batches in
    let beyond = middle ++ gate ∷ rest in
    let spelled : front ++ rest ≡ birth asn root ++ beyond = append_assoc (birth asn root) (middle ++ gate ∷ []) rest ∙ ap (λ (t : List ℕ). birth asn root ++ t) (append_assoc middle (gate ∷ []) rest) in
    let long : length beyond ≡ length middle + suc (length rest) = length-append middle (gate ∷ rest) in
    let born_long : leb birth_size (length (birth asn root ++ beyond)) ≡ true = le-leb _ _ (omega (arith, length-birth asn root len, length-append (birth asn root) beyond, long)) in
    let born : is_born (birth asn root ++ beyond) ≡ true = rw born_long refl in
    let first = birth_again asn root beyond small len in
    let second = batches_again 0 (length beyond) batches 43 gate rest (omega (arith, length-batches batches, long)) fits closed in
    let size : length (birth asn root ++ beyond) - length rest ≡ length front = omega (arith, ap length (sym spelled), length-append front rest) in
    let between_is : take (length (birth asn root ++ beyond) - length rest) (birth asn root ++ beyond) ≡ front =
    ap (λ (k : ℕ). take k (birth asn root ++ beyond)) size ∙ ap (λ (t : List ℕ). take (length front) t) (sym spelled) ∙ take_at front rest (length front) refl in
    let reads : born_log (record { at = 0; rest = birth asn root ++ beyond }) ≡ Ok (record { asn = asn; root = root; entries = entries_of batches; front = front }) =
    reads_then _ _ _ _ first (reads_then _ _ _ _ second (ap (λ (t : List ℕ). Ok (record { asn = asn; root = root; entries = entries_of batches; front = t })) between_is)) in
    ap log_of spelled ∙ so_then (is_born (birth asn root ++ beyond)) _ _ _ born (reads_then _ _ _ _ reads refl)

-- ---- what a log's file may become

-- Whatever stands after the front, the log is the same.
pub front_decides : (log : LogFile) (rest : List ℕ) → IsLog log → log_of (log.front ++ rest) ≡ Ok (Some log)
front_decides log rest is =
    let read = log_again log.asn log.root is.batches is.gate rest is.asn is.root is.fit is.closed in
    let log_is : LogFile → LogFile = λ l. l in
    ap (λ (t : List ℕ). log_of (t ++ rest)) is.front ∙ read
    ∙ ap (λ (es : List LogEntry). Ok (Some (record { asn = log.asn; root = log.root; entries = es; front = log_front log.asn log.root is.batches is.gate }))) (sym is.entries)
    ∙ ap (λ (t : List ℕ). Ok (Some (record { asn = log.asn; root = log.root; entries = log.entries; front = t }))) (sym is.front)

last_time-append : (last : ℕ) (xs ys : List LogEntry) → last_time last (xs ++ ys) ≡ last_time (last_time last xs) ys
last_time-append last [] ys = refl
last_time-append last (x ∷ xs) ys = last_time-append x.time xs ys

-- a batch that may follow
pub record Follows (last : ℕ) (es : List LogEntry) : Type 0 where
  pub fit : AreEntriesFrom last es
  pub some : 1 ≤ length es
  pub size : length (spelled es) < 2 ^ 32

pub batches_more : (last : ℕ) (batches : List (List LogEntry)) (es : List LogEntry) → AreBatchesFrom last batches → Follows (last_time last (entries_of batches)) es → AreBatchesFrom last (batches ++ es ∷ [])
batches_more last [] es fits more = (more.fit, more.some, more.size, tt)
batches_more last (first ∷ batches) es fits more =
    let split : last_time last (entries_of (first ∷ batches)) ≡ last_time (last_time last first) (entries_of batches) =
    ap (last_time last) (flat_map-cons (λ (b : List LogEntry). b) first batches) ∙ last_time-append last first (entries_of batches) in
    (fits.0, fits.1, fits.2, batches_more (last_time last first) batches es fits.3 (subst (λ (k : ℕ). Follows k es) split more))

pub entries_more : (batches : List (List LogEntry)) (es : List LogEntry) → entries_of (batches ++ es ∷ []) ≡ entries_of batches ++ es
entries_more batches es = flat_map-append (λ (b : List LogEntry). b) batches (es ∷ []) ∙ ap (λ (t : List LogEntry). entries_of batches ++ t) (append-nil es)

-- the front without its gate
pub record IsGated (log : LogFile) (before : List ℕ) : Type 0 where
  pub is_log : IsLog log
  pub before_is : before ≡ birth log.asn log.root ++ flat_map open_batch is_log.batches
  pub front_is : log.front ≡ before ++ is_log.gate ∷ []
  pub take_is : take (length log.front - 1) log.front ≡ before
  pub size_is : length log.front ≡ length before + 1

pub gated : (log : LogFile) → IsLog log → (before : List ℕ) × IsGated log before
gated log is =
    let before = birth log.asn log.root ++ flat_map open_batch is.batches in
    let front : log.front ≡ before ++ is.gate ∷ [] = is.front ∙ sym (append_assoc (birth log.asn log.root) (flat_map open_batch is.batches) (is.gate ∷ [])) in
    let size : length log.front ≡ length before + 1 = ap length front ∙ length-append before (is.gate ∷ []) in
    let less : length log.front - 1 ≡ length before = omega (arith, size) in
    let taken : take (length log.front - 1) log.front ≡ before = ap (λ (k : ℕ). take k log.front) less ∙ ap (λ (t : List ℕ). take (length before) t) front ∙ take_at before (is.gate ∷ []) (length before) refl in
    (before, record { is_log = is; before_is = refl; front_is = front; take_is = taken; size_is = size })

-- with any closed gate the log has the same entries
pub closed_gate : (log : LogFile) (before : List ℕ) (gate : ℕ) (rest : List ℕ) → IsGated log before → is_open gate ≡ false
    → log_of (before ++ gate ∷ rest) ≡ Ok (Some (record { asn = log.asn; root = log.root; entries = log.entries; front = before ++ gate ∷ [] }))
closed_gate log before gate rest g closed =
    let is = g.is_log in
    let front : log_front log.asn log.root is.batches gate ≡ before ++ gate ∷ [] =
    sym (append_assoc (birth log.asn log.root) (flat_map open_batch is.batches) (gate ∷ [])) ∙ ap (λ (t : List ℕ). t ++ gate ∷ []) (sym g.before_is) in
    let read = log_again log.asn log.root is.batches gate rest is.asn is.root is.fit closed in
    let spelled : before ++ gate ∷ rest ≡ log_front log.asn log.root is.batches gate ++ rest = sym (append_assoc before (gate ∷ []) rest) ∙ ap (λ (t : List ℕ). t ++ rest) (sym front) in
    ap log_of spelled ∙ read
    ∙ ap (λ (es : List LogEntry). Ok (Some (record { asn = log.asn; root = log.root; entries = es; front = log_front log.asn log.root is.batches gate }))) (sym is.entries)
    ∙ ap (λ (t : List ℕ). Ok (Some (record { asn = log.asn; root = log.root; entries = log.entries; front = t }))) front

pub closed_after : (log : LogFile) (gate : ℕ) (rest : List ℕ) → IsLog log → is_open gate ≡ false → HoldsEntries (take (length log.front - 1) log.front ++ gate ∷ rest) log log.entries
closed_after log gate rest is closed =
    let g = gated log is in
    record { front = g.0 ++ gate ∷ []; holds = ap (λ (t : List ℕ). log_of (t ++ gate ∷ rest)) g.1.take_is ∙ closed_gate log g.0 gate rest g.1 closed }

-- with the gate opened over a whole batch the log has that batch
pub open_gate : (log : LogFile) (before : List ℕ) (es : List LogEntry) (rest : List ℕ) → IsGated log before → Follows (last_time 0 log.entries) es
    → log_of (before ++ 1 ∷ (batch es ++ 0 ∷ rest)) ≡ Ok (Some (with_batch log es))
unfolding with_batch
open_gate log before es rest g more =
    let is = g.is_log in
    let batches = is.batches ++ es ∷ [] in
    let fits = batches_more 0 is.batches es is.fit (subst (λ (t : List LogEntry). Follows (last_time 0 t) es) is.entries more) in
    let read = log_again log.asn log.root batches 0 rest is.asn is.root fits refl in
    let middle : flat_map open_batch batches ≡ flat_map open_batch is.batches ++ open_batch es =
    flat_map-append open_batch is.batches (es ∷ []) ∙ ap (λ (t : List ℕ). flat_map open_batch is.batches ++ t) (append-nil (open_batch es)) in
    let old = flat_map open_batch is.batches in
    let front : log_front log.asn log.root batches 0 ≡ (before ++ 1 ∷ []) ++ (batch es ++ 0 ∷ []) =
    ap (λ (t : List ℕ). birth log.asn log.root ++ (t ++ 0 ∷ [])) middle
    ∙ ap (λ (t : List ℕ). birth log.asn log.root ++ t) (append_assoc old (open_batch es) (0 ∷ []))
    ∙ sym (append_assoc (birth log.asn log.root) old (1 ∷ (batch es ++ 0 ∷ [])))
    ∙ ap (λ (t : List ℕ). t ++ 1 ∷ (batch es ++ 0 ∷ [])) (sym g.before_is)
    ∙ sym (append_assoc before (1 ∷ []) (batch es ++ 0 ∷ [])) in
    let spelled : before ++ 1 ∷ (batch es ++ 0 ∷ rest) ≡ log_front log.asn log.root batches 0 ++ rest =
    sym (ap (λ (t : List ℕ). t ++ rest) front ∙ append_assoc (before ++ 1 ∷ []) (batch es ++ 0 ∷ []) rest ∙ append_assoc before (1 ∷ []) ((batch es ++ 0 ∷ []) ++ rest)
    ∙ ap (λ (t : List ℕ). before ++ 1 ∷ t) (append_assoc (batch es) (0 ∷ []) rest)) in
    let opened_is : log_front log.asn log.root batches 0 ≡ opened log.front ++ (batch es ++ 0 ∷ []) =
    front ∙ ap (λ (t : List ℕ). (t ++ 1 ∷ []) ++ (batch es ++ 0 ∷ [])) (sym g.take_is) in
    ap log_of spelled ∙ read
    ∙ ap (λ (t : List LogEntry). Ok (Some (record { asn = log.asn; root = log.root; entries = t; front = log_front log.asn log.root batches 0 })))
    (entries_more is.batches es ∙ ap (λ (t : List LogEntry). t ++ es) (sym is.entries))
    ∙ ap (λ (t : List ℕ). Ok (Some (record { asn = log.asn; root = log.root; entries = log.entries ++ es; front = t }))) opened_is

-- A log that was read, with one batch more, is one that can be read.
pub more_log : (log : LogFile) (es : List LogEntry) → IsLog log → Follows (last_time 0 log.entries) es → IsLog (with_batch log es)
unfolding with_batch
more_log log es was more =
    let g = gated log was in
    let before = g.0 in
    let is = g.1.is_log in
    let batches = is.batches ++ es ∷ [] in
    let fits = batches_more 0 is.batches es is.fit (subst (λ (t : List LogEntry). Follows (last_time 0 t) es) is.entries more) in
    let old = flat_map open_batch is.batches in
    let middle : flat_map open_batch batches ≡ old ++ open_batch es = flat_map-append open_batch is.batches (es ∷ []) ∙ ap (λ (t : List ℕ). old ++ t) (append-nil (open_batch es)) in
    let front : log_front log.asn log.root batches 0 ≡ (before ++ 1 ∷ []) ++ (batch es ++ 0 ∷ []) =
    ap (λ (t : List ℕ). birth log.asn log.root ++ (t ++ 0 ∷ [])) middle
    ∙ ap (λ (t : List ℕ). birth log.asn log.root ++ t) (append_assoc old (open_batch es) (0 ∷ []))
    ∙ sym (append_assoc (birth log.asn log.root) old (1 ∷ (batch es ++ 0 ∷ [])))
    ∙ ap (λ (t : List ℕ). t ++ 1 ∷ (batch es ++ 0 ∷ [])) (sym g.1.before_is)
    ∙ sym (append_assoc before (1 ∷ []) (batch es ++ 0 ∷ [])) in
    record {
      batches = batches;
      gate = 0;
      closed = refl;
      fit = fits;
      asn = is.asn;
      root = is.root;
      entries = ap (λ (t : List LogEntry). t ++ es) is.entries ∙ sym (entries_more is.batches es);
      front = sym (front ∙ ap (λ (t : List ℕ). (t ++ 1 ∷ []) ++ (batch es ++ 0 ∷ [])) (sym g.1.take_is));
    }

-- ---- files without a log

-- A file with no room for a birth, or whose birth gate isn't open, has no log.
abbrev pub IsUnborn : List ℕ → Type 0
IsUnborn file = (length file < birth_size) ⊎ (get_or file 0 0 ≡ 1 → ⊥)

pub unborn_none : (file : List ℕ) → IsUnborn file → log_of file ≡ Ok None
unfolding log_of
unborn_none file (inl short) = let h : leb 44 (length file) ≡ false = lt-leb 44 (length file) short in rw h refl
unborn_none file (inr closed) = let h : eqb (get_or file 0 0) 1 ≡ false = ne_eqb (get_or file 0 0) 1 closed in elim (cases_Bool (leb 44 (length file))) [
  | inl is ↦ rw (is, h) refl
  | inr is ↦ rw is refl
]

never_none : (r : Result LogFile ℕ) → (r >>= λ log. Ok (Some log)) ≡ unborn → ⊥
never_none (Ok log) e = absurd cc
never_none (Err place) e = absurd cc

-- and the other way round
pub none_unborn : (file : List ℕ) → log_of file ≡ Ok None → IsUnborn file
unfolding log_of
none_unborn file none = elim (cases_Bool (leb 44 (length file))) [
  | inl long ↦ elim (cases_Bool (eqb (get_or file 0 0) 1)) [
    | inl opens ↦ absurd (never_none (born_log (start_of file)) (let e = rw (long, opens) at none in e))
    | inr closed ↦ inr (eqb-false (get_or file 0 0) 1 closed)
  ]
  | inr short ↦ inl (leb-false 44 (length file) short)
]
