-- The words of a file are read as that file.
use Rattle.std.proofs.Common.{◌≡◌, ℕ, zero, suc, ◌+◌, ◌<◌, ◌≤◌, List, [], ◌∷◌, length, map, refl, ap, arith}
use Rattle.std.specs.List.{AllByRecursion}
use Rattle.nr_spec_rules.specs.declared.kind.Kind.TheVariants as k
use Rattle.nr_spec_rules.specs.Tokens.{Token, same_kind}
use Rattle.nr_spec_rules.specs.Parsing.{until}
use Rattle.nr_rule_syntax.specs.declared.tree.Decl.{Decl}
use Rattle.nr_rule_syntax.specs.declared.tree.Decl.TheVariants as decls
use Rattle.nr_rule_syntax.specs.Reading as spec
use Rattle.nr_rule_syntax.proofs.WrittenFiles.{IsRead}
use Rattle.nr_laws_print.specs.Bare.{bare_declaration}
use Rattle.nr_laws_print.proofs.Words.{Shown, word, declaration_words, all_words}
use Rattle.nr_laws_print.proofs.Gives.{Gives, IsApart, laid, gives_then, gives_pure, gives_seen, gives_unseen}
use Rattle.nr_laws_print.proofs.Declarations.{gives_declaration, grows_declaration}

apart_end : (d : Decl) (rest : List Shown) → IsApart k.End (declaration_words d rest)
unfolding same_kind
apart_end (decls.Network value span) rest = record { apart = refl }
apart_end (decls.Commit value span) rest = record { apart = refl }
apart_end (decls.Neighbour name asn addr key) rest = record { apart = refl }
apart_end (decls.Group name members) rest = record { apart = refl }
apart_end (decls.Define name patterns) rest = record { apart = refl }
apart_end (decls.Promise name grace at form) rest = record { apart = refl }

pub gives_until : (ds : List Decl) (n : ℕ) → length ds ≤ n → AllByRecursion IsRead ds
    → Gives (map bare_declaration) (map bare_declaration ds) (until k.End spec.declaration n) (all_words (map declaration_words ds) (word k.End [] ∷ [])) (word k.End [] ∷ [])
unfolding until
gives_until [] zero h all = gives_pure refl
gives_until [] (suc n) h all = gives_seen _ _ (gives_pure refl)
gives_until (d ∷ ds) zero h all = absurd (omega arith)
gives_until (d ∷ ds) (suc n) h all =
    gives_unseen _ _ (apart_end d (all_words (map declaration_words ds) (word k.End [] ∷ [])))
    (gives_then (gives_declaration d (all_words (map declaration_words ds) (word k.End [] ∷ [])) all.0.written all.0.nested) (λ first p.
    gives_then (gives_until ds n (omega arith) all.1) (λ more q. gives_pure (cc (p, q)))))

-- tokens are their words at their places
abbrev pub shown : Token → Shown
shown t = word t.kind t.text

pub laid_back : (ts : List Token) → laid (map shown ts) (map (λ t. t.from) ts) ≡ ts
laid_back [] = refl
laid_back (t ∷ ts) = ap (λ (us : List Token). t ∷ us) (laid_back ts)

pub grows_declarations : (ds : List Decl) (rest : List Shown) → AllByRecursion IsRead ds → length ds + length rest ≤ length (all_words (map declaration_words ds) rest)
grows_declarations [] rest all = omega arith
grows_declarations (d ∷ ds) rest all =
    let more : length ds + length rest ≤ length (all_words (map declaration_words ds) rest) = grows_declarations ds rest all.1 in
    let one : length (all_words (map declaration_words ds) rest) < length (declaration_words d (all_words (map declaration_words ds) rest)) = grows_declaration d (all_words (map declaration_words ds) rest) all.0.written in
    omega arith
