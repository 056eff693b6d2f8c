-- The entries of a log fit, their times don't run back, and there are fewer than the file has bytes.
use Rattle.std.proofs.Common.{◌≡◌, ◌∙◌, ℕ, suc, ◌+◌, ◌≤◌, List, [], ◌∷◌, ◌++◌, Ok, Some, ap, refl, sym, subst, length, arith}
use Rattle.std.specs.List.{flat_map}
use Rattle.std.proofs.lemmas.List.{length-append}
use Rattle.std.proofs.lemmas.List.Concat.{flat_map-cons}
use Rattle.byteorder.specs.Endian.{big_bytes}
use Rattle.byteorder.specs.Numbers.{length-bytes_high_first}
use Rattle.nr_spec_wire.specs.Reading.{IsBytes}
use Rattle.nr_spec_log.specs.Chain.{LogEntry}
use Rattle.nr_spec_log.specs.Answer.{AreEntriesFrom, entry, last_time}
use Rattle.nr_spec_store.specs.LogFile.{AreBatchesFrom, IsLog, LogFile, batch, birth, entries_of, log_front, log_of, most_log, open_batch, spelled}
use Rattle.nr_laws_store.proofs.LogLaws.{log_takes}

fits_then : (last : ℕ) (xs ys : List LogEntry) → AreEntriesFrom last xs → AreEntriesFrom (last_time last xs) ys → AreEntriesFrom last (xs ++ ys)
fits_then last [] ys first rest = rest
fits_then last (x ∷ xs) ys first rest = (first.0, first.1, fits_then x.time xs ys first.2 rest)

batches_fit : (last : ℕ) (batches : List (List LogEntry)) → AreBatchesFrom last batches → AreEntriesFrom last (entries_of batches)
batches_fit last [] fits = tt
batches_fit last (first ∷ batches) fits =
    subst (AreEntriesFrom last) (sym (flat_map-cons (λ (b : List LogEntry). b) first batches)) (fits_then last first (entries_of batches) fits.0 (batches_fit (last_time last first) batches fits.3))

entry_some : (e : LogEntry) → 1 ≤ length (entry e)
entry_some e = omega (arith, length-append (big_bytes 8 e.time) (big_bytes 1 e.kind ++ (big_bytes 2 (length e.content) ++ e.content)), length-bytes_high_first 8 e.time)

spelled_more : (es : List LogEntry) → length es ≤ length (spelled es)
spelled_more [] = omega arith
spelled_more (e ∷ es) = omega (arith, ap length (flat_map-cons entry e es), length-append (entry e) (spelled es), entry_some e, spelled_more es)

batch_longer : (es : List LogEntry) → length es ≤ length (open_batch es)
batch_longer es = omega (arith, length-append (big_bytes 4 (length (spelled es))) (spelled es), spelled_more es)

batches_longer : (batches : List (List LogEntry)) → length (entries_of batches) ≤ length (flat_map open_batch batches)
batches_longer [] = omega arith
batches_longer (first ∷ batches) =
    omega (
      arith,
      ap length (flat_map-cons (λ (b : List LogEntry). b) first batches),
      length-append first (entries_of batches),
      ap length (flat_map-cons open_batch first batches),
      length-append (open_batch first) (flat_map open_batch batches),
      batch_longer first,
      batches_longer batches,
    )

log_longer : (log : LogFile) → IsLog log → length log.entries ≤ length log.front
log_longer log is =
    omega (
      arith,
      ap length is.entries,
      ap length is.front,
      length-append (birth log.asn log.root) (flat_map open_batch is.batches ++ is.gate ∷ []),
      length-append (flat_map open_batch is.batches) (is.gate ∷ []),
      batches_longer is.batches,
    )

-- what is said of the entries of a log
pub log_fits : (bytes : List ℕ) (log : LogFile) → IsBytes bytes → log_of bytes ≡ Ok (Some log) → AreEntriesFrom 0 log.entries
log_fits bytes log are is =
    let l = log_takes bytes log are is in
    subst (AreEntriesFrom 0) (sym l.entries) (batches_fit 0 l.batches l.fit)

pub log_is_short : (bytes : List ℕ) (log : LogFile) → IsBytes bytes → log_of bytes ≡ Ok (Some log) → length log.front ≤ most_log → length log.entries ≤ most_log
log_is_short bytes log are is short = omega (arith, log_longer log (log_takes bytes log are is), short)
