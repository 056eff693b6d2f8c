-- Searching promise files for one with a digest.
use Rattle.std.proofs.Common.{◌≡◌, ℕ, ◌+◌, ◌<◌, Bool, true, false, cond, List, length, drop, get_or, Option, Some, ap, sym, ◌∙◌}
use Rattle.std.specs.Prelude.{map}
use Rattle.std.specs.Str.{bytes_eq}
use Rattle.std.proofs.lemmas.List.{at_drop_more}
use Rattle.nr_spec_counts.specs.Tallies.{Numbers}
use Rattle.nr_spec_counts.specs.Causes.{file_with}
use Rattle.nr_verify_counts.specs.Views.{numbers_of}
use Rattle.nr_verify_counts.specs.declared.numbers.FileNumbers.{FileNumbers}

-- the first of those from number i on
abbrev pub file_from : List ℕ → List FileNumbers → ℕ → Option Numbers
file_from digest files i = file_with digest (map numbers_of (drop i files))

file_next : (digest : List ℕ) (files : List FileNumbers) (i : ℕ) (d : FileNumbers) → i < length files
    → file_from digest files i ≡ cond (bytes_eq digest (get_or files i d).digest.0) (Some (numbers_of (get_or files i d))) (file_from digest files (i + 1))
file_next digest files i d below = at_drop_more (λ (l : List FileNumbers). file_with digest (map numbers_of l)) files i d below

pub file_here : (digest : List ℕ) (files : List FileNumbers) (i : ℕ) (d : FileNumbers) (all : Option Numbers) → i < length files → bytes_eq digest (get_or files i d).digest.0 ≡ true
    → file_from digest files i ≡ all → Some (numbers_of (get_or files i d)) ≡ all
file_here digest files i d all below same is =
    sym (file_next digest files i d below ∙ ap (λ (b : Bool). cond b (Some (numbers_of (get_or files i d))) (file_from digest files (i + 1))) same) ∙ is

pub file_later : (digest : List ℕ) (files : List FileNumbers) (i : ℕ) (d : FileNumbers) (all : Option Numbers) → i < length files → bytes_eq digest (get_or files i d).digest.0 ≡ false
    → file_from digest files i ≡ all → file_from digest files (i + 1) ≡ all
file_later digest files i d all below other is =
    sym (file_next digest files i d below ∙ ap (λ (b : Bool). cond b (Some (numbers_of (get_or files i d))) (file_from digest files (i + 1))) other) ∙ is
