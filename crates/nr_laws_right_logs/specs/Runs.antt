-- Runs of `record` on one log, one after another.
use Rattle.std.specs.Prelude.{◌≡◌, ◌⊎◌, ℕ, List, [], ◌∷◌, Ok, Some}
use Rattle.nr_spec_plans.specs.Disk.{Disk, Tape, Told, bytes_of}
use Rattle.nr_spec_crash.specs.Crashes.{Crashes, Rests}
use Rattle.nr_spec_counts.specs.Tallies.{Numbers}
use Rattle.nr_spec_commands.specs.Words.{Record, RecordRequest, request_in}
use Rattle.nr_spec_texts.specs.Promises.{PromiseFile, numbers_in, promise_of}
use Rattle.nr_spec_program.specs.Running.{RunsTo}
use Rattle.nr_spec_program.specs.Table.{plan_for}
use Rattle.nr_laws_record.specs.Recorded.{MayRecord}
use Rattle.nr_laws_fitting.specs.Files.{HoldBytes}

-- These words record into the log of this name by the own promise file, over files that hold bytes.
pub record MayRun (own : Numbers) (name : List ℕ) (words : List (List ℕ)) (old : Disk) : Type 0 where
  pub q : RecordRequest
  pub now : Told
  pub asks : request_in words ≡ Some (Record q)
  pub log : q.log ≡ name
  pub may : MayRecord q old now
  pub bytes : HoldBytes now.holds q
  pub own_file : (p : PromiseFile) → promise_of (bytes_of (now.holds q.promise)) ≡ Ok p → numbers_in p ≡ own

-- A run of the words, whatever came of it.
pub record Ran (words : List (List ℕ)) (old new : Disk) : Type 0 where
  pub before : Tape
  pub after : Tape
  pub status : ℕ
  pub run : RunsTo (plan_for words) old new before after status

-- A start after a crash at any moment of a run: under the name there is what that crash left.
pub record StartsAfterCrash (words : List (List ℕ)) (name : List ℕ) (old new : Disk) : Type 0 where
  pub image : List ℕ
  pub crash : Crashes (plan_for words) old name image
  pub rests : Rests new name image

-- One disk comes from another by a run of `record`, or a crash of one.
pub record Follows (own : Numbers) (name : List ℕ) (old new : Disk) : Type 0 where
  pub words : List (List ℕ)
  pub may : MayRun own name words old
  pub came : Ran words old new ⊎ StartsAfterCrash words name old new

-- Each of these comes from the one before it, and the first from this one.
abbrev pub AreRunsFrom : Numbers → List ℕ → Disk → List Disk → Type 0
AreRunsFrom own name old [] = Unit {0}
AreRunsFrom own name old (new ∷ others) = Follows own name old new × AreRunsFrom own name new others
