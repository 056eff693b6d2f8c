-- What the writes of a birth and of an append make of a file.
use Rattle.std.proofs.Common.{◌≡◌, ℕ, ◌+◌, ◌-◌, ◌<◌, ◌≤◌, ◌^◌, List, [], ◌∷◌, ◌++◌, length, take, drop, Some, Ok, refl, sym, ap, ◌∙◌, append_assoc, arith}
use Rattle.std.proofs.lemmas.List.{take_at, length-append}
use Rattle.std.proofs.Math.Seq.{drop-append-add, set-append_seam}
use Rattle.std.proofs.Math.ListN.{set}
use Rattle.byteorder.specs.Endian.{big_bytes}
use Rattle.byteorder.specs.Numbers.{length-bytes_high_first}
use Rattle.nr_spec_log.specs.Chain.{LogEntry}
use Rattle.nr_spec_log.specs.Answer.{last_time}
use Rattle.nr_spec_log.specs.Authenticator.{digest_size}
use Rattle.nr_spec_plans.specs.Disk.{written}
use Rattle.nr_spec_store.specs.LogFile.{LogFile, IsLog, MayFollow, birth, born, log_of, with_batch, batch, spelled, opened}
use Rattle.nr_laws_store.proofs.LogLaws.{log_again, length-birth, IsGated, front_of, gated, open_gate, Follows}

-- ---- lists

-- a body where a front ends, and the gate at the front's end opened
abbrev pub opened_after : ℕ → List ℕ → List ℕ → List ℕ
opened_after end body file = written (end - 1) (1 ∷ []) (written end body file)

-- what is written where the front ends stands after the front, and the front's last byte is opened
pub written_after : (before : List ℕ) (gate : ℕ) (rest body : List ℕ)
    → opened_after (length before + 1) body (before ++ gate ∷ rest) ≡ before ++ 1 ∷ (body ++ drop (length body) rest)
written_after before gate rest body =
    let front = before ++ gate ∷ [] in
    let size : length front ≡ length before + 1 = length-append before (gate ∷ []) in
    let file : before ++ gate ∷ rest ≡ front ++ rest = sym (append_assoc before (gate ∷ []) rest) in
    let beyond = body ++ drop (length body) rest in
    let first : written (length before + 1) body (before ++ gate ∷ rest) ≡ front ++ beyond =
    ap (λ (t : List ℕ). written (length before + 1) body t) file ∙ ap (λ (k : ℕ). written k body (front ++ rest)) (sym size)
    ∙ append_assoc (take (length front) (front ++ rest)) body (drop (length front + length body) (front ++ rest))
    ∙ ap (λ (t : List ℕ). t ++ (body ++ drop (length front + length body) (front ++ rest))) (take_at front rest (length front) refl)
    ∙ ap (λ (t : List ℕ). front ++ (body ++ t)) (drop-append-add front rest (length body)) in
    let less : length before + 1 - 1 ≡ length before = omega arith in
    let again : front ++ beyond ≡ before ++ (gate ∷ beyond) = append_assoc before (gate ∷ []) beyond in
    ap (λ (t : List ℕ). written (length before + 1 - 1) (1 ∷ []) t) (first ∙ again) ∙ ap (λ (k : ℕ). written k (1 ∷ []) (before ++ gate ∷ beyond)) less
    ∙ append_assoc (take (length before) (before ++ gate ∷ beyond)) (1 ∷ []) (drop (length before + 1) (before ++ gate ∷ beyond))
    ∙ ap (λ (t : List ℕ). t ++ ((1 ∷ []) ++ drop (length before + 1) (before ++ gate ∷ beyond))) (take_at before (gate ∷ beyond) (length before) refl)
    ∙ ap (λ (t : List ℕ). before ++ 1 ∷ t) (drop-append-add before (gate ∷ beyond) 1)

-- ---- appending

pub follows : (last : ℕ) (es : List LogEntry) → MayFollow last es → length (spelled es) < 2 ^ 32 → Follows last es
follows last es more size = record { fit = more.fit; some = more.some; size = size }

-- the file and the store's own front are both made those of the log with the batch
pub record Appends (log : LogFile) (es : List LogEntry) (file : List ℕ) : Type 0 where
  pub room : length log.front ≤ length file
  pub appended : log_of (opened_after (length log.front) (batch es ++ 0 ∷ []) file) ≡ Ok (Some (with_batch log es))

pub appends : (log : LogFile) (es : List LogEntry) (file : List ℕ) → IsLog log → Follows (last_time 0 log.entries) es → log_of file ≡ Ok (Some log) → Appends log es file
appends log es file is more e =
    let front = front_of file log e in
    let g = gated log is in
    let body = batch es ++ 0 ∷ [] in
    let whole : file ≡ g.0 ++ is_gate g.1 ∷ front.rest =
    front.parts ∙ ap (λ (t : List ℕ). t ++ front.rest) g.1.front_is ∙ append_assoc g.0 (is_gate g.1 ∷ []) front.rest in
    let written_is : opened_after (length log.front) body file ≡ g.0 ++ 1 ∷ (body ++ drop (length body) front.rest) =
    ap (λ (k : ℕ). opened_after k body file) g.1.size_is ∙ ap (λ (t : List ℕ). opened_after (length g.0 + 1) body t) whole ∙ written_after g.0 (is_gate g.1) front.rest body in
    let split : g.0 ++ 1 ∷ (body ++ drop (length body) front.rest) ≡ g.0 ++ 1 ∷ (batch es ++ 0 ∷ drop (length body) front.rest) =
    ap (λ (t : List ℕ). g.0 ++ 1 ∷ t) (append_assoc (batch es) (0 ∷ []) (drop (length body) front.rest)) in
    record {
      room = omega (arith, ap length front.parts, length-append log.front front.rest);
      appended = ap log_of (written_is ∙ split) ∙ open_gate log g.0 es (drop (length body) front.rest) g.1 more;
    }
  where
    is_gate : {before : List ℕ} → IsGated log before → ℕ
    is_gate g = g.is_log.gate

-- ---- the log's own bytes

pub record Grows (log : LogFile) (es : List LogEntry) : Type 0 where
  pub positive : 1 ≤ length log.front
  pub size : length (with_batch log es).front ≡ length log.front + length (spelled es) + 5
  pub grown : set (log.front ++ (batch es ++ 0 ∷ [])) (length log.front - 1) 1 ≡ (with_batch log es).front

pub grows : (log : LogFile) (es : List LogEntry) → IsLog log → Grows log es
unfolding with_batch
grows log es is =
    let g = gated log is in
    let gate = g.1.is_log.gate in
    let body = batch es ++ 0 ∷ [] in
    let less : length log.front - 1 ≡ length g.0 = omega (arith, g.1.size_is) in
    let opened_is : opened log.front ≡ g.0 ++ 1 ∷ [] = ap (λ (t : List ℕ). t ++ 1 ∷ []) g.1.take_is in
    let split : log.front ++ body ≡ g.0 ++ gate ∷ body = ap (λ (t : List ℕ). t ++ body) g.1.front_is ∙ append_assoc g.0 (gate ∷ []) body in
    let back : opened log.front ++ body ≡ g.0 ++ 1 ∷ body = ap (λ (t : List ℕ). t ++ body) opened_is ∙ append_assoc g.0 (1 ∷ []) body in
    let long : length (opened log.front ++ body) ≡ length log.front + length (spelled es) + 5 =
    omega (arith, ap length back, length-append g.0 (1 ∷ body), length-append (batch es) (0 ∷ []), length-append (big_bytes 4 (length (spelled es))) (spelled es), length-bytes_high_first 4 (length (spelled es)), g.1.size_is) in
    record {
      positive = omega (arith, g.1.size_is);
      size = long;
      grown = ap (λ (k : ℕ). set (log.front ++ body) k 1) less ∙ ap (λ (t : List ℕ). set t (length g.0) 1) split ∙ set-append_seam g.0 gate body 1 ∙ sym back;
    }

pub stands : (log : LogFile) (es : List LogEntry) → IsLog log → Follows (last_time 0 log.entries) es → log_of (with_batch log es).front ≡ Ok (Some (with_batch log es))
unfolding with_batch
stands log es is more =
    let g = gated log is in
    let back : opened log.front ++ (batch es ++ 0 ∷ []) ≡ g.0 ++ 1 ∷ (batch es ++ 0 ∷ []) =
    ap (λ (t : List ℕ). (t ++ 1 ∷ []) ++ (batch es ++ 0 ∷ [])) g.1.take_is ∙ append_assoc g.0 (1 ∷ []) (batch es ++ 0 ∷ []) in
    ap log_of back ∙ open_gate log g.0 es [] g.1 more

pub same_asn : (log : LogFile) (es : List LogEntry) → (with_batch log es).asn ≡ log.asn
unfolding with_batch
same_asn log es = refl

pub same_root : (log : LogFile) (es : List LogEntry) → (with_batch log es).root ≡ log.root
unfolding with_batch
same_root log es = refl

-- ---- birth

pub born_reads : (asn : ℕ) (root rest : List ℕ) → asn < 2 ^ 32 → length root ≡ digest_size → log_of ((born asn root).front ++ rest) ≡ Ok (Some (born asn root))
born_reads asn root rest small len = log_again asn root [] 0 rest small len tt refl

pub born_length : (asn : ℕ) (root : List ℕ) → length root ≡ digest_size → length (born asn root).front ≡ 44
born_length asn root len = omega (arith, length-birth asn root len, length-append (birth asn root) (0 ∷ []))

split_first : (file : List ℕ) → 1 ≤ length file → (gate : ℕ) × (rest : List ℕ) × (file ≡ gate ∷ rest)
split_first [] h = absurd (omega (arith, h))
split_first (gate ∷ rest) h = (gate, rest, refl)

-- a front is written after a closed birth gate, and that opened
pub born_in : (asn : ℕ) (root file front : List ℕ) → asn < 2 ^ 32 → length root ≡ digest_size → 1 ≤ length file → front ≡ (born asn root).front
    → log_of (opened_after 1 (drop 1 front) file) ≡ Ok (Some (born asn root))
born_in asn root file front small len room is =
    let f = split_first file room in
    let body = drop 1 (born asn root).front in
    let written_is : opened_after 1 body (f.0 ∷ f.1) ≡ 1 ∷ (body ++ drop (length body) f.1) = written_after [] f.0 f.1 body in
    ap (λ (t : List ℕ). log_of (opened_after 1 (drop 1 t) file)) is ∙ ap (λ (t : List ℕ). log_of (opened_after 1 body t)) f.2 ∙ ap log_of written_is ∙ born_reads asn root (drop (length body) f.1) small len
