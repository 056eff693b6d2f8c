-- What `answer` gives by what the files hold, and what it leaves.
use Rattle.std.specs.Prelude.{◌≡◌, ◌≢◌, List, ℕ, Ok, Option, Some}
use Rattle.nr_spec_log.specs.Answer.{AnswerFile, answer_file}
use Rattle.nr_spec_history.specs.KeyFiles.{Key, key_root}
use Rattle.nr_spec_plans.specs.Disk.{Contents, Cuts, Disk, Syncs, Told, Writes, bytes_of}
use Rattle.nr_spec_plans.specs.Laws.{IsLeftBy}
use Rattle.nr_spec_plans.specs.Plans.{Ask, Done, Runs, act, want, ◌>>=◌}
use Rattle.nr_spec_steps.specs.Heads.{whole_answer}
use Rattle.nr_spec_store.specs.LogFile.{LogFile}
use Rattle.nr_spec_store.specs.StorePlans.{loading}
use Rattle.nr_spec_commands.specs.Words.{AnswerRequest}
use Rattle.nr_spec_program.specs.Command.{Work}
use Rattle.nr_spec_program.specs.Keys.{key_of}
use Rattle.nr_spec_program.specs.Recording.{answer_bytes, entries_in, key_file_plan, log_network, log_plan, other_root, present, sealed_answer, unless}

-- the first part of `answer`, before anything is written: the answer that is asked for
unfoldable pub reply_plan : AnswerRequest → Work AnswerFile
reply_plan q = do
  key ← key_file_plan q.key
  size ← act (Ask q.log)
  there ← present size
  found ← log_plan q.log
  network ← unless (log_network found key.asn)
  tree ← want
  root ← unless (other_root (key_root key) found)
  ready ← want
  answer ← sealed_answer (whole_answer key (entries_in found))
  bytes ← answer_bytes answer
  Done answer

-- It is the whole answer of the key and the log that the files hold.
pub record IsReply (held : Contents) (q : AnswerRequest) (answer : AnswerFile) : Type 0 where
  pub key : Key
  pub found : Option LogFile
  pub keyed : key_of (bytes_of (held q.key)) ≡ Ok key
  pub loads : loading (bytes_of (held q.log)) ≡ Ok found
  pub whole : whole_answer key (entries_in found) ≡ Some answer

-- An answer was got from the key file and the log, and after that the answer file was cut to nothing, written and
-- synced, and each of these went well.
pub record SavesAnswer (q : AnswerRequest) (old new : Disk) : Type 0 where
  pub answer : AnswerFile
  pub read : Disk
  pub cut : Disk
  pub wrote : Disk
  pub gets : Runs (reply_plan q) old read (Ok answer)
  pub cuts : Cuts q.out 0 read cut (Ok tt)
  pub writes : Writes q.out 0 (answer_file answer) cut wrote (Ok tt)
  pub syncs : Syncs q.out wrote new (Ok tt)

-- Under this name is what writing these bytes in whole may leave; every other file holds what it held.
pub record LeftByWriting (name bytes : List ℕ) (t u : Told) : Type 0 where
  pub left : IsLeftBy bytes (t.holds name) (u.holds name)
  pub others : (other : List ℕ) → other ≢ name → u.holds other ≡ t.holds other
