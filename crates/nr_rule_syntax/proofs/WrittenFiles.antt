-- Declarations and files that are read are written as they should be.
use Rattle.std.proofs.Common.{◌≡◌, ℕ, List, [], ◌∷◌, length, None, Ok, Err, refl, sym, ap, subst, arith}
use Rattle.std.specs.List.{All, AllByRecursion as AllOf}
use Rattle.std.proofs.lemmas.List.Elements.{All-from_recursion}
use Rattle.nr_spec_rules.specs.declared.kind.Kind.{Kind}
use Rattle.nr_spec_rules.specs.declared.kind.Kind.TheVariants as k
use Rattle.nr_spec_rules.specs.declared.span.Span.{Span}
use Rattle.nr_spec_rules.specs.Tokens.{Token, tokens_at, tokens_of}
use Rattle.nr_spec_rules.specs.Parsing.{Outcome, sees, until}
use Rattle.nr_rule_syntax.specs.declared.tree.Name.{Name}
use Rattle.nr_rule_syntax.specs.declared.tree.Num.{Num}
use Rattle.nr_rule_syntax.specs.declared.tree.PrefixText.{PrefixText}
use Rattle.nr_rule_syntax.specs.declared.tree.File.{File}
use Rattle.nr_rule_syntax.specs.declared.tree.Decl.{Decl}
use Rattle.nr_rule_syntax.specs.declared.tree.Decl.TheVariants as decls
use Rattle.nr_rule_syntax.specs.declared.formula.Level.TheVariants.{Whole}
use Rattle.nr_rule_syntax.specs.Nesting.{IsNested}
use Rattle.nr_rule_syntax.specs.Reading as spec
use Rattle.nr_rule_syntax.specs.Reading.{file_of}
use Rattle.nr_rule_syntax.specs.Written.{IsName, IsNumber, IsPrefix, IsPattern, IsKey, IsWritten}
use Rattle.nr_rule_syntax.proofs.Yields.{Yields, AreProper, yields_then, yields_pure, yields_map, yields_refuse, yields_behind, yields_expect, yields_if, yields_list, yields_until, yields_weaken}
use Rattle.nr_rule_syntax.proofs.Proper.{tokens_proper}
use Rattle.nr_rule_syntax.proofs.WrittenParts.{yields_name, yields_number, yields_address, yields_prefix, yields_root}
use Rattle.nr_rule_syntax.proofs.WrittenForms.{yields_by_kind, yields_inside}

-- what holds of a declaration that is read
pub record IsRead (d : Decl) : Type 0 where
  pub written : IsWritten d
  pub nested : IsNested d

yields_numbered : (kind : Kind) → Yields (λ (x : Num × Span). IsNumber x.0) (spec.numbered kind)
unfolding spec.numbered
yields_numbered kind = yields_then (yields_expect kind) (λ span _. yields_then yields_number (λ value h. yields_then (yields_expect k.Semicolon) (λ _ _. yields_pure h)))

yields_key : Yields IsKey spec.key
unfolding spec.key
yields_key =
    yields_if (sees k.RootWord)
    (yields_behind _ (yields_then yields_root (λ of r. yields_then (yields_expect k.NumberWord) (λ _ _. yields_then yields_number (λ number_ n. yields_pure {Q = IsKey} (r, n))))))
    (yields_pure {Q = IsKey} {x = None} tt)

yields_neighbour : Yields IsRead spec.neighbour
unfolding spec.neighbour
yields_neighbour =
    yields_behind _ (yields_then yields_name (λ called c. yields_then (yields_expect k.As) (λ _ _. yields_then yields_number (λ asn n. yields_then (yields_expect k.At) (λ _ _.
    yields_then yields_address (λ addr a. yields_then yields_key (λ signs s. yields_then (yields_expect k.Semicolon) (λ _ _.
    yields_pure {x = decls.Neighbour called asn addr signs} (record { written = (c, n, a, s); nested = tt })))))))))

yields_group : Yields IsRead spec.group
unfolding spec.group
yields_group =
    yields_behind _ (yields_then yields_name (λ called c. yields_then (yields_expect k.Equal) (λ _ _. yields_then (yields_list k.Comma yields_name) (λ members m. yields_then (yields_expect k.Semicolon) (λ _ _.
    yields_pure {x = decls.Group called members} (record { written = (c, m); nested = tt }))))))

yields_pattern : Yields IsPattern spec.pattern
unfolding spec.pattern
yields_pattern =
    yields_then yields_prefix (λ base b.
    yields_if (sees k.Le) (yields_behind _ (yields_map _ yields_number (λ most m. (b, m)))) (yields_pure (b, tt)))

yields_define : Yields IsRead spec.define
unfolding spec.define
yields_define =
    yields_behind _ (yields_then yields_name (λ called c. yields_then (yields_expect k.Equal) (λ _ _. yields_then (yields_list k.Comma yields_pattern) (λ patterns m. yields_then (yields_expect k.Semicolon) (λ _ _.
    yields_pure {x = decls.Define called patterns} (record { written = (c, m); nested = tt }))))))

yields_places : Yields (AllOf IsPrefix) spec.places
unfolding spec.places
yields_places = yields_if (sees k.At) (yields_behind _ (yields_weaken (yields_list k.Comma yields_prefix) (λ xs h. h.1))) (yields_pure {x = []} tt)

yields_terms_of_promise : Yields (λ (x : Name × Num × List PrefixText). IsName x.0 × IsNumber x.1 × AllOf IsPrefix x.2) spec.terms_of_promise
unfolding spec.terms_of_promise
yields_terms_of_promise =
    yields_then yields_name (λ called c. yields_then (yields_expect k.Grace) (λ _ _. yields_then yields_number (λ grace g. yields_then yields_places (λ at a. yields_pure (c, g, a)))))

yields_promise : Yields IsRead spec.promise
unfolding spec.promise
yields_promise =
    yields_behind _ (yields_then yields_terms_of_promise (λ head h. yields_then (yields_expect k.OpenBrace) (λ _ _. yields_then (yields_inside 65 Whole) (λ held f. yields_then (yields_expect k.CloseBrace) (λ _ _.
    yields_pure {x = decls.Promise head.0 head.1 head.2 held} (record { written = (h.0, h.1, h.2, f.written); nested = omega (arith, f.nests) }))))))

yields_declaration_by : (kind : Kind) → Yields IsRead (spec.declaration_by kind)
yields_declaration_by k.Network = yields_map (λ (x : Num × Span). decls.Network x.0 x.1) (yields_numbered k.Network) (λ x h. record { written = h; nested = tt })
yields_declaration_by k.Commit = yields_map (λ (x : Num × Span). decls.Commit x.0 x.1) (yields_numbered k.Commit) (λ x h. record { written = h; nested = tt })
yields_declaration_by k.Neighbour = yields_neighbour
yields_declaration_by k.Group = yields_group
yields_declaration_by k.Define = yields_define
yields_declaration_by k.Promise = yields_promise
yields_declaration_by _ = yields_refuse

pub yields_declaration : Yields IsRead spec.declaration
unfolding spec.declaration
yields_declaration = yields_by_kind spec.declaration_by yields_declaration_by

-- ---- files

decls_of : (read : Outcome (List Decl)) (file : File) → spec.file_in read ≡ Ok file → (rest : List Token) × (read ≡ Ok (file.decls, rest))
decls_of (Ok p) file e = let same : p.0 ≡ file.decls = cc in (p.1, ap (λ (ds : List Decl). let r : Outcome (List Decl) = Ok (ds, p.1) in r) same)
decls_of (Err x) file e = absurd cc

-- what is read is written as it should be, and nests at most 64 levels
declarations_are_read : (text : List ℕ) (ts : List Token) → ts ≡ tokens_of text → (ds : List Decl) (rest : List Token) → until k.End spec.declaration (length ts) ts ≡ Ok (ds, rest) → AllOf IsRead ds
unfolding tokens_at
declarations_are_read text ts from ds rest e =
    ((yields_until k.End yields_declaration (length ts)).holds ts ds rest (subst AreProper (sym from) (tokens_proper 0 0 text)) e).0

pub file_is_read : (text : List ℕ) (file : File) → file_of text ≡ Ok file → AllOf IsRead file.decls
unfolding file_of
file_is_read text file e =
    let d = decls_of (until k.End spec.declaration (length (tokens_of text)) (tokens_of text)) file e in
    declarations_are_read text (tokens_of text) refl file.decls d.0 d.1

only_written : (ds : List Decl) → AllOf IsRead ds → AllOf IsWritten ds
only_written [] all = tt
only_written (d ∷ ds) all = (all.0.written, only_written ds all.1)

pub declarations_written : (text : List ℕ) (ts : List Token) → ts ≡ tokens_of text → (ds : List Decl) (rest : List Token) → until k.End spec.declaration (length ts) ts ≡ Ok (ds, rest) → All IsWritten ds
declarations_written text ts from ds rest e = All-from_recursion IsWritten ds (only_written ds (declarations_are_read text ts from ds rest e))
