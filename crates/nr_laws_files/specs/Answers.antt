-- Which field of an answer file is the first malformed one: all that stands before the field is whole and as the format
-- wants, and the field itself is cut off, or isn't what the format wants there.
use Rattle.std.specs.Prelude.{◌≡◌, ◌≢◌, ℕ, ◌+◌, ◌<◌, ◌≤◌, Bool, true, false, List, [], ◌∷◌, length, take, drop, Some, Ok}
use Rattle.byteorder.specs.Endian.{big_number}
use Rattle.nr_spec_wire.specs.Reading.{Spot, start_of}
use Rattle.nr_spec_log.specs.Chain.{LogEntry}
use Rattle.nr_spec_log.specs.Authenticator.{Authenticator, wanted_at}
use Rattle.nr_spec_log.specs.Answer.{Opening, answer_magic, opening_at, entries_at, head_of, last_time, is_first, is_prev, is_body_flag, is_later, is_wanted, most_body, checkpoint_kind}
use Rattle.nr_laws_files.specs.Cuts.{IsCut}
use Rattle.nr_laws_files.specs.Authenticators.{AuthFault}

-- ---- what stands before the entries

-- the AS at 4, the number of the first entry at 8, the value before that entry at 16, the flag at 48, and after a 1 the
-- length of the body at 49
abbrev pub asn_in : List ℕ → ℕ
asn_in bytes = big_number 4 (drop 4 bytes)

abbrev pub first_in : List ℕ → ℕ
first_in bytes = big_number 8 (drop 8 bytes)

abbrev pub prev_in : List ℕ → List ℕ
prev_in bytes = take 32 (drop 16 bytes)

abbrev pub flag_in : List ℕ → ℕ
flag_in bytes = big_number 1 (drop 48 bytes)

abbrev pub size_in : List ℕ → ℕ
size_in bytes = big_number 4 (drop 49 bytes)

-- as far as the flag, all is as it has to be
pub record HasFlag (bytes : List ℕ) : Type 0 where
  pub magic : take 4 bytes ≡ answer_magic
  pub first : is_first (first_in bytes) ≡ true
  pub prev : is_prev (asn_in bytes) (first_in bytes) (prev_in bytes) ≡ true
  pub flag : is_body_flag (first_in bytes) (flag_in bytes) ≡ true

-- and as far as the body, which ends at this place
pub data HasBody (bytes : List ℕ) (end : ℕ) : Type 0 where
  no_body : HasFlag bytes → is_later (first_in bytes) ≡ false → end ≡ 49 → HasBody bytes end
  some_body : HasFlag bytes → is_later (first_in bytes) ≡ true → size_in bytes ≤ most_body → end ≡ 53 + size_in bytes
      → HasBody bytes end

pub data OpeningFault (bytes : List ℕ) (at : ℕ) : Type 0 where
  magic_cut : IsCut bytes 0 4 → at ≡ 0 → OpeningFault bytes at
  magic_other : 4 ≤ length bytes → take 4 bytes ≢ answer_magic → at ≡ 0 → OpeningFault bytes at
  asn_cut : take 4 bytes ≡ answer_magic → IsCut bytes 4 4 → at ≡ 4 → OpeningFault bytes at
  first_cut : take 4 bytes ≡ answer_magic → IsCut bytes 8 8 → at ≡ 8 → OpeningFault bytes at
  first_other : take 4 bytes ≡ answer_magic → 16 ≤ length bytes → is_first (first_in bytes) ≡ false → at ≡ 8
      → OpeningFault bytes at
  prev_cut : take 4 bytes ≡ answer_magic → is_first (first_in bytes) ≡ true → IsCut bytes 16 32 → at ≡ 16
      → OpeningFault bytes at
  prev_other : take 4 bytes ≡ answer_magic → is_first (first_in bytes) ≡ true → 48 ≤ length bytes
      → is_prev (asn_in bytes) (first_in bytes) (prev_in bytes) ≡ false → at ≡ 16 → OpeningFault bytes at
  flag_cut : take 4 bytes ≡ answer_magic → is_first (first_in bytes) ≡ true
      → is_prev (asn_in bytes) (first_in bytes) (prev_in bytes) ≡ true → IsCut bytes 48 1 → at ≡ 48
      → OpeningFault bytes at
  flag_other : take 4 bytes ≡ answer_magic → is_first (first_in bytes) ≡ true
      → is_prev (asn_in bytes) (first_in bytes) (prev_in bytes) ≡ true → 49 ≤ length bytes
      → is_body_flag (first_in bytes) (flag_in bytes) ≡ false → at ≡ 48 → OpeningFault bytes at
  size_cut : HasFlag bytes → is_later (first_in bytes) ≡ true → IsCut bytes 49 4 → at ≡ 49 → OpeningFault bytes at
  size_other : HasFlag bytes → is_later (first_in bytes) ≡ true → 53 ≤ length bytes → most_body < size_in bytes
      → at ≡ 49 → OpeningFault bytes at
  body_cut : HasFlag bytes → is_later (first_in bytes) ≡ true → size_in bytes ≤ most_body
      → IsCut bytes 53 (size_in bytes) → at ≡ 53 → OpeningFault bytes at
  count_cut : (k : ℕ) → HasBody bytes k → IsCut bytes k 4 → at ≡ k → OpeningFault bytes at
  count_other : (k : ℕ) → HasBody bytes k → k + 4 ≤ length bytes → big_number 4 (drop k bytes) ≡ 0 → at ≡ k
      → OpeningFault bytes at

-- ---- entries

-- an entry: the time at 0, which isn't before the last one's; the kind at 8 and the size at 9, which are a checkpoint's
-- where that is asked; the content at 11
pub data EntryFault (checkpoint : Bool) (last : ℕ) (bytes : List ℕ) (at : ℕ) : Type 0 where
  time_cut : IsCut bytes 0 8 → at ≡ 0 → EntryFault checkpoint last bytes at
  time_back : 8 ≤ length bytes → big_number 8 bytes < last → at ≡ 0 → EntryFault checkpoint last bytes at
  kind_cut : last ≤ big_number 8 bytes → IsCut bytes 8 1 → at ≡ 8 → EntryFault checkpoint last bytes at
  kind_other : last ≤ big_number 8 bytes → 9 ≤ length bytes
      → is_wanted checkpoint (big_number 1 (drop 8 bytes)) checkpoint_kind ≡ false → at ≡ 8
      → EntryFault checkpoint last bytes at
  size_cut : last ≤ big_number 8 bytes → is_wanted checkpoint (big_number 1 (drop 8 bytes)) checkpoint_kind ≡ true
      → IsCut bytes 9 2 → at ≡ 9 → EntryFault checkpoint last bytes at
  size_other : last ≤ big_number 8 bytes → is_wanted checkpoint (big_number 1 (drop 8 bytes)) checkpoint_kind ≡ true
      → 11 ≤ length bytes → is_wanted checkpoint (big_number 2 (drop 9 bytes)) 32 ≡ false → at ≡ 9
      → EntryFault checkpoint last bytes at
  content_cut : last ≤ big_number 8 bytes → is_wanted checkpoint (big_number 1 (drop 8 bytes)) checkpoint_kind ≡ true
      → is_wanted checkpoint (big_number 2 (drop 9 bytes)) 32 ≡ true → IsCut bytes 11 (big_number 2 (drop 9 bytes))
      → at ≡ 11 → EntryFault checkpoint last bytes at

-- ---- whole answers

-- A checkpoint is asked for where the answer starts after entry 1, at its first entry.
abbrev pub is_asked : Bool → List LogEntry → Bool
is_asked later [] = later
is_asked later (e ∷ es) = false

-- an answer: what stands before the entries, so many entries, the head, which speaks of the last entry, and no more
pub data AnswerFault (bytes : List ℕ) (at : ℕ) : Type 0 where
  opening_fault : OpeningFault bytes at → AnswerFault bytes at
  entry_fault : (o : Opening) (s : Spot) (before : List LogEntry) (t : Spot) (d : ℕ)
      → opening_at (start_of bytes) ≡ Ok (o, s) → length before < o.count
      → entries_at (is_later o.first) 0 (length before) s ≡ Ok (before, t)
      → EntryFault (is_asked (is_later o.first) before) (last_time 0 before) t.rest d → at ≡ t.at + d
      → AnswerFault bytes at
  head_fault : (o : Opening) (s : Spot) (entries : List LogEntry) (t : Spot) (d : ℕ)
      → opening_at (start_of bytes) ≡ Ok (o, s) → entries_at (is_later o.first) 0 o.count s ≡ Ok (entries, t)
      → AuthFault (Some (head_of o entries)) t.rest d → at ≡ t.at + d → AnswerFault bytes at
  more : (o : Opening) (s : Spot) (entries : List LogEntry) (t : Spot) (head : Authenticator) (end : Spot)
      → opening_at (start_of bytes) ≡ Ok (o, s) → entries_at (is_later o.first) 0 o.count s ≡ Ok (entries, t)
      → wanted_at (Some (head_of o entries)) t ≡ Ok (head, end) → 0 < length end.rest → at ≡ end.at
      → AnswerFault bytes at
