-- What is printed for a file is read as the same file.
use Rattle.std.proofs.Common.{◌≡◌, ℕ, ◌≤◌, List, [], ◌∷◌, length, map, Ok, sym, ap, subst, ◌∙◌, arith}
use Rattle.std.specs.List.{All, AllByRecursion}
use Rattle.std.proofs.lemmas.List.{length-map}
use Rattle.std.proofs.lemmas.List.Elements.{recursion_from_All}
use Rattle.nr_spec_rules.specs.declared.kind.Kind.TheVariants as k
use Rattle.nr_spec_rules.specs.Tokens.{Token, tokens_at, tokens_of, place_of}
use Rattle.nr_spec_rules.specs.Parsing.{Outcome, until}
use Rattle.nr_rule_syntax.specs.declared.tree.File.{File}
use Rattle.nr_rule_syntax.specs.declared.tree.Decl.{Decl}
use Rattle.nr_rule_syntax.specs.Nesting.{IsNested}
use Rattle.nr_rule_syntax.specs.Printing.{file_text}
use Rattle.nr_rule_syntax.specs.Reading as spec
use Rattle.nr_rule_syntax.specs.Reading.{file_of, file_in}
use Rattle.nr_rule_syntax.specs.Written.{IsWritten}
use Rattle.nr_rule_syntax.proofs.WrittenFiles.{IsRead, file_is_read}
use Rattle.nr_laws_print.specs.Bare.{bare_declaration, SameButSpans, IsReadBack}
use Rattle.nr_laws_print.proofs.Words.{Shown, word, declaration_words, all_words}
use Rattle.nr_laws_print.proofs.Gives.{Given, laid}
use Rattle.nr_laws_print.proofs.Files.{shown, laid_back, gives_until, grows_declarations}
use Rattle.nr_laws_print.proofs.SpellsFiles.{file_shows}

-- tokens that show the words of declarations are read as these declarations
declarations_read : (ds : List Decl) (ts : List Token) → AllByRecursion IsRead ds → map shown ts ≡ all_words (map declaration_words ds) (word k.End [] ∷ [])
    → Given (map bare_declaration) (map bare_declaration ds) (until k.End spec.declaration (length ts) ts) (word k.End [] ∷ [])
declarations_read ds ts all e =
    let words : List Shown = all_words (map declaration_words ds) (word k.End [] ∷ []) in
    let long : length ds ≤ length ts = omega (arith, grows_declarations ds (word k.End [] ∷ []) all, ap length e, length-map ts shown) in
    let places : List ℕ = map (λ (t : Token). t.from) ts in
    let same : laid (all_words (map declaration_words ds) (word k.End [] ∷ [])) places ≡ ts = ap (λ (ws : List Shown). laid ws places) (sym e) ∙ laid_back ts in
    subst (λ (us : List Token). Given (map bare_declaration) (map bare_declaration ds) (until k.End spec.declaration (length ts) us) (word k.End [] ∷ [])) same
    ((gives_until ds (length ts) long all).run places)

from_given : (file : File) (read : Outcome (List Decl)) (rest : List Shown) → Given (map bare_declaration) (map bare_declaration file.decls) read rest → (again : File) × (file_in read ≡ Ok again) × SameButSpans again file
from_given file read rest g =
    let again : File = record { decls = g.value; end = place_of (laid rest g.left) } in
    (again, ap file_in g.reads, ap (λ (ds : List Decl). let f : File = record { decls = ds; end = 0 } in f) g.same)

read_back : (file : File) → AllByRecursion IsRead file.decls → IsReadBack file
unfolding file_of tokens_at
read_back file all =
    let ts = tokens_of (file_text file) in
    let g = from_given file (until k.End spec.declaration (length ts) ts) (word k.End [] ∷ []) (declarations_read file.decls ts all ((file_shows file all).shows 0)) in
    record { again = g.0; reads = g.1; same = g.2 }

pub printed_is_read : (text : List ℕ) (file : File) → file_of text ≡ Ok file → IsReadBack file
printed_is_read text file e = read_back file (file_is_read text file e)

both : (ds : List Decl) → AllByRecursion IsWritten ds → AllByRecursion IsNested ds → AllByRecursion IsRead ds
both [] w n = tt
both (d ∷ ds) w n = (record { written = w.0; nested = n.0 }, both ds w.1 n.1)

pub written_is_read_back : (file : File) → All IsWritten file.decls → All IsNested file.decls → IsReadBack file
written_is_read_back file w n = read_back file (both file.decls (recursion_from_All IsWritten file.decls w) (recursion_from_All IsNested file.decls n))
