-- Promise files, and which of them the state of a log belongs to.
use Rattle.std.specs.Prelude.{ℕ, Bool, List, Option, None, Some, option_map, position, slice_get}
use Rattle.std.specs.Str.{bytes_eq}
use Rattle.nr_spec_log.specs.Chain.{LogEntry}
use Rattle.nr_spec_entry.specs.ContentReading.{content_of}
use Rattle.nr_spec_routes.specs.LookBack.{first_of}
use Rattle.nr_spec_counts.specs.Tallies.{Numbers, promise_in, tally_after}
use Rattle.nr_spec_typing.specs.declared.text.Promise.{Promise}
use Rattle.nr_spec_report.specs.Wrong.{Base}

-- a promise file: its digest, and its promises by their numbers from 0. Files are numbered from 0 too
pub record PromiseFile : Type 0 where
  pub digest : List ℕ
  pub promises : List Promise

abbrev pub promise_of : Option PromiseFile → ℕ → Option Promise
promise_of None promise = None
promise_of (Some f) promise = slice_get f.promises promise

-- ---- which file a state belongs to

abbrev pub digest_of : Numbers → List ℕ
digest_of n = n.digest

-- the digest of an entry that is a PROMISE
abbrev pub promised : LogEntry → Option (List ℕ)
promised e = option_map digest_of (promise_in (content_of e))

-- the digest of the first PROMISE among entries
abbrev pub first_promised : List LogEntry → Option (List ℕ)
first_promised entries = first_of promised entries

abbrev pub force_or : Option Numbers → Option (List ℕ) → Option (List ℕ)
force_or None first = first
force_or (Some numbers) first = Some numbers.digest

-- The digest of the promise that is in force after entries. Where none is, it is that of the first PROMISE that
-- follows: no PROMISE stands before it then, so that it is the first of all.
abbrev pub ruling : Base → Option (List ℕ) → List LogEntry → Option (List ℕ)
ruling base first past = force_or (tally_after base.tally past).in_force first

abbrev pub has_digest : List ℕ → PromiseFile → Bool
has_digest digest f = bytes_eq digest f.digest

-- the number of the first file with a digest
abbrev pub file_with : List PromiseFile → Option (List ℕ) → Option ℕ
file_with files None = None
file_with files (Some digest) = position (has_digest digest) files

-- the number of the file to which the state after entries belongs
abbrev pub file_after : List PromiseFile → Base → Option (List ℕ) → List LogEntry → Option ℕ
file_after files base first past = file_with files (ruling base first past)
