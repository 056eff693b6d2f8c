-- Searching promise files for one with a digest.
use Rattle.std.proofs.Common.{◌≡◌, ℕ, ◌+◌, ◌<◌, ◌≤◌, Bool, true, false, cond, List, [], ◌∷◌, length, drop, get_or, arith, Option, Some, refl, ap, sym, ◌∙◌}
use Rattle.std.specs.Prelude.{map, is_none}
use Rattle.std.specs.Str.{bytes_eq}
use Rattle.std.proofs.lemmas.List.{at_drop_more}
use Rattle.nr_spec_counts.specs.Tallies.{Numbers}
use Rattle.nr_spec_counts.specs.Causes.{file_with}
use Rattle.nr_spec_outcome.specs.Outcome.{first_digest, is_of_no_file, numbers_of_all}
use Rattle.nr_audit.specs.declared.audited.Audited.{Audited}
use Rattle.nr_audit.specs.Views.{audited_of}
use Rattle.nr_discipline.specs.Views.{numbers_of}
use Rattle.nr_discipline.specs.declared.numbers.FileNumbers.{FileNumbers}

-- whether none of those from number i on has the digest
abbrev pub none_from : List ℕ → List FileNumbers → ℕ → Bool
none_from digest files i = is_of_no_file (map numbers_of (drop i files)) digest

by_test : (b : Bool) (n : Numbers) (others : Option Numbers) → is_none (cond b (Some n) others) ≡ cond b false (is_none others)
by_test true n others = refl
by_test false n others = refl

next : (digest : List ℕ) (files : List FileNumbers) (i : ℕ) (d : FileNumbers) → i < length files
    → none_from digest files i ≡ cond (bytes_eq digest (get_or files i d).digest.0) false (none_from digest files (i + 1))
next digest files i d below =
    at_drop_more (λ (l : List FileNumbers). is_of_no_file (map numbers_of l) digest) files i d below
    ∙ by_test (bytes_eq digest (get_or files i d).digest.0) (numbers_of (get_or files i d)) (file_with digest (map numbers_of (drop (i + 1) files)))

pub file_here : (digest : List ℕ) (files : List FileNumbers) (i : ℕ) (d : FileNumbers) (all : Bool) → i < length files → bytes_eq digest (get_or files i d).digest.0 ≡ true
    → none_from digest files i ≡ all → false ≡ all
file_here digest files i d all below same is =
    sym (next digest files i d below ∙ ap (λ (b : Bool). cond b false (none_from digest files (i + 1))) same) ∙ is

pub file_later : (digest : List ℕ) (files : List FileNumbers) (i : ℕ) (d : FileNumbers) (all : Bool) → i < length files → bytes_eq digest (get_or files i d).digest.0 ≡ false
    → none_from digest files i ≡ all → none_from digest files (i + 1) ≡ all
file_later digest files i d all below other is =
    sym (next digest files i d below ∙ ap (λ (b : Bool). cond b false (none_from digest files (i + 1))) other) ∙ is

pub first_is : (files : List Audited) (d : Audited) (digest : List ℕ) → 1 ≤ length files → digest ≡ (get_or files 0 d).numbers.digest.0
    → digest ≡ first_digest (numbers_of_all (map audited_of files))
first_is [] d digest some is = absurd (omega (arith, some))
first_is (file ∷ files) d digest some is = is
