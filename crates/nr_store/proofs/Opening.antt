-- What a file's log is, by how far it was read.
use Rattle.std.proofs.Common.{◌≡◌, ℕ, ◌-◌, true, false, leb, List, [], ◌∷◌, ◌++◌, length, get_or, take, Some, None, Ok, Err, refl, sym, ap, ◌∙◌, arith}
use Rattle.std.specs.List.{flat_map}
use Rattle.std.proofs.lemmas.List.{append-nil, length-append}
use Rattle.nr_spec_wire.specs.Reading.{Spot, Read, start_of, between, rows, fault, IsBytes}
use Rattle.nr_spec_log.specs.Chain.{LogEntry}
use Rattle.nr_spec_store.specs.LogFile.{LogFile, IsLog, Birth, log_of, born_log, is_born, is_open, birth, birth_at, birth_size, batches_at, entries_of, open_batch}
use Rattle.nr_laws_log.proofs.Fields.{Takes-then}
use Rattle.nr_laws_store.proofs.BatchLaws.{both_true, batches_take}
use Rattle.nr_laws_store.proofs.LogLaws.{birth_takes, born_of, log_takes, front_decides}
use Rattle.nr_spec_wire.proofs.Steps.{bind_ok, ok_is}
use Rattle.nr_store.specs.Walks.{end_of}

pub unborn : (bytes : List ℕ) → is_born bytes ≡ false → log_of bytes ≡ Ok None
unfolding log_of
unborn bytes is = rw is refl

pub front_fault : (bytes : List ℕ) (s : Spot) (place : ℕ) → is_born bytes ≡ true → s ≡ start_of bytes → birth_at s ≡ Err place → log_of bytes ≡ Err place
unfolding log_of born_log
front_fault bytes s place is at fault = let first : birth_at (start_of bytes) ≡ Err place = ap birth_at (sym at) ∙ fault in rw (is, first) refl

-- batches of which only the end is kept
pub record EndsSo (read : Read (List (List LogEntry))) (end : ℕ) : Type 0 where
  pub batches : List (List LogEntry)
  pub next : Spot
  pub is : read ≡ Ok (batches, next)
  pub at : next.at ≡ end

ends_so : (read : Read (List (List LogEntry))) (end : ℕ) → end_of read ≡ Ok end → EndsSo read end
ends_so (Ok bs) end e = record { batches = bs.0; next = bs.1; is = refl; at = cc }
ends_so (Err place) end e = absurd cc

fails_so : (read : Read (List (List LogEntry))) (place : ℕ) → end_of read ≡ Err place → read ≡ Err place
fails_so (Ok bs) place e = absurd cc
fails_so (Err other) place e = let same : other ≡ place = cc in ap (λ (p : ℕ). Err p) same

pub batches_fault : (bytes : List ℕ) (s next : Spot) (b : Birth) (place : ℕ) → is_born bytes ≡ true → s ≡ start_of bytes → birth_at s ≡ Ok (b, next) → end_of (batches_at 0 (length next.rest) next) ≡ Err place → log_of bytes ≡ Err place
unfolding log_of born_log
batches_fault bytes s next b place is at front fault =
    let first : birth_at (start_of bytes) ≡ Ok (b, next) = ap birth_at (sym at) ∙ front in
    let rest = fails_so (batches_at 0 (length next.rest) next) place fault in
    rw (is, first, rest) refl

-- a log that was read, and the bytes that are kept of its file
pub record Opened (bytes : List ℕ) (b : Birth) (end : ℕ) : Type 0 where
  pub log : LogFile
  pub is_log : IsLog log
  pub reads : log_of bytes ≡ Ok (Some log)
  pub asn : b.asn ≡ log.asn
  pub root : b.root ≡ log.root
  pub front : take end bytes ≡ log.front

log_is : (bytes : List ℕ) (next last : Spot) (b : Birth) (batches : List (List LogEntry)) → is_born bytes ≡ true → birth_at (start_of bytes) ≡ Ok (b, next) → batches_at 0 (length next.rest) next ≡ Ok (batches, last)
    → log_of bytes ≡ Ok (Some (record { asn = b.asn; root = b.root; entries = entries_of batches; front = between (start_of bytes) last }))
unfolding log_of born_log
log_is bytes next last b batches is first rest = rw (is, first, rest) refl

-- where the batches end, the front ends
end_is : (bytes : List ℕ) (next last : Spot) (b : Birth) (batches : List (List LogEntry)) → IsBytes bytes → is_born bytes ≡ true → birth_at (start_of bytes) ≡ Ok (b, next) → batches_at 0 (length next.rest) next ≡ Ok (batches, last)
    → last.at ≡ length bytes - length last.rest
end_is bytes next last b batches fits is first rest =
    let opens = (both_true (leb birth_size (length bytes)) (is_open (get_or bytes 0 0)) is).1 in
    let f = birth_takes (start_of bytes) b next fits opens first in
    let o = batches_take 0 (length next.rest) next batches last f.takes.rest_fits rest in
    let text = flat_map open_batch batches ++ o.gate ∷ [] in
    let all = Takes-then (start_of bytes) (birth b.asn b.root) next text last f.takes o.takes in
    omega (arith, all.place, ap length all.parts, length-append (birth b.asn b.root ++ text) last.rest)

pub opened : (bytes : List ℕ) (s next : Spot) (b : Birth) (end : ℕ) → IsBytes bytes → is_born bytes ≡ true → s ≡ start_of bytes → birth_at s ≡ Ok (b, next) → end_of (batches_at 0 (length next.rest) next) ≡ Ok end → Opened bytes b end
opened bytes s next b end fits is at front ends =
    let first : birth_at (start_of bytes) ≡ Ok (b, next) = ap birth_at (sym at) ∙ front in
    let e = ends_so (batches_at 0 (length next.rest) next) end ends in
    let reads = log_is bytes next e.next b e.batches is first e.is in
    let place : end ≡ length bytes - length e.next.rest = sym e.at ∙ end_is bytes next e.next b e.batches fits is first e.is in
    record {
      log = record { asn = b.asn; root = b.root; entries = entries_of e.batches; front = between (start_of bytes) e.next };
      is_log = log_takes bytes _ fits reads;
      reads = reads;
      asn = refl;
      root = refl;
      front = ap (λ (k : ℕ). take k bytes) place;
    }

-- the front alone is read as the same log
pub front_reads : (log : LogFile) → IsLog log → log_of log.front ≡ Ok (Some log)
front_reads log is = ap log_of (sym (append-nil log.front)) ∙ front_decides log [] is

-- ---- a log that is there

pub record HasEntries (bytes : List ℕ) (log : LogFile) (next : Spot) : Type 0 where
  pub none : fault (batches_at 0 (length next.rest) next) ≡ None
  pub entries : entries_of (rows (batches_at 0 (length next.rest) next)) ≡ log.entries

pub has_entries : (bytes : List ℕ) (log : LogFile) (s next : Spot) (b : Birth) → log_of bytes ≡ Ok (Some log) → s ≡ start_of bytes → birth_at s ≡ Ok (b, next) → HasEntries bytes log next
unfolding born_log
has_entries bytes log s next b reads at front =
    let born = born_of bytes log reads in
    let a = bind_ok (birth_at (start_of bytes)) _ log born.reads in
    let same : a.0 ≡ (b, next) = ok_is a.0 (b, next) (sym a.1 ∙ ap birth_at (sym at) ∙ front) in
    let r = bind_ok (batches_at 0 (length a.0.1.rest) a.0.1) _ log a.2 in
    let here : batches_at 0 (length next.rest) next ≡ Ok r.0 = ap (λ (p : Birth × Spot). batches_at 0 (length p.1.rest) p.1) (sym same) ∙ r.1 in
    let made : LogFile = record { asn = a.0.0.asn; root = a.0.0.root; entries = entries_of r.0.0; front = between (start_of bytes) r.0.1 } in
    record {
      none = ap fault here;
      entries = ap (λ (read : Read (List (List LogEntry))). entries_of (rows read)) here ∙ ap (λ (l : LogFile). l.entries) (ok_is made log r.2);
    }

pub front_reads_on : (bytes : List ℕ) (log : LogFile) (s : Spot) (place : ℕ) → log_of bytes ≡ Ok (Some log) → s ≡ start_of bytes → birth_at s ≡ Err place → ⊥
front_reads_on bytes log s place reads at fault = absurd (let e : Ok (Some log) ≡ Err place = sym reads ∙ front_fault bytes s place (born_of bytes log reads).born at fault in cc)
