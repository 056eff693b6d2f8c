-- What this crate's types stand for in the definitions.
use Rattle.std.specs.Prelude.{◌≡◌, ◌<◌, ◌≤◌, ℕ, List, length, map, slice_get, Some}
use Rattle.std.specs.List.{All}
use Rattle.nr_spec_promises.specs.Files.{PromiseFile}
use Rattle.nr_spec_promises.specs.Moments as moments
use Rattle.nr_judging.specs.declared.file.File.{File}
use Rattle.nr_judging.specs.declared.mark.Mark.{Mark}

abbrev pub file_of : File → PromiseFile
file_of f = record { digest = f.digest.0; promises = f.promises.now }

abbrev pub files_in : List File → List PromiseFile
files_in files = map file_of files

-- a moment without where its routes lie in memory
abbrev pub mark_of : Mark → moments.Mark
mark_of m = record { begin = m.time; view = moments.view_of m.state.now m.file }

-- 16 files at most, of 256 promises each at most
pub record AreFew (given : List PromiseFile) : Type 0 where
  pub files : length given ≤ 16
  pub promises : All (λ (f : PromiseFile). length f.promises ≤ 256) given

-- each promise of each file is known
abbrev pub AreKnown : (ℕ → ℕ → Type 0) → List PromiseFile → Type 0
AreKnown Known files =
    (i r : ℕ) (f : PromiseFile) → slice_get files i ≡ Some f → r < length f.promises → Known i r
