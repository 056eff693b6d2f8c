-- What no two names, no two neighbours and no two promises of a well typed text have in common.
use Rattle.std.specs.Prelude.{◌≡◌, ℕ, List, [], ◌∷◌, slice_get, Option, Some}
use Rattle.std.specs.List.{flat_map}
use Rattle.nr_chain.specs.declared.digest.Digest.{Digest}
use Rattle.nr_rule_syntax.specs.declared.tree.Name.{Name}
use Rattle.nr_rule_syntax.specs.declared.tree.Decl.{Decl}
use Rattle.nr_rule_syntax.specs.declared.tree.Decl.TheVariants as decls
use Rattle.nr_spec_typing.specs.declared.text.Neighbour.{Neighbour}
use Rattle.nr_spec_typing.specs.declared.text.Promise.{Promise}

-- no two places hold what is alike
abbrev pub NoTwo : {A : Type 0} → (A → A → Type 0) → List A → Type 0
NoTwo {A} Alike xs =
    (i j : ℕ) (x y : A) → slice_get xs i ≡ Some x → slice_get xs j ≡ Some y → Alike x y → i ≡ j

-- ---- names

-- the name that a declaration declares
abbrev pub name_in : Decl → List Name
name_in (decls.Network value span) = []
name_in (decls.Commit value span) = []
name_in (decls.Neighbour name asn addr key) = name ∷ []
name_in (decls.Group name members) = name ∷ []
name_in (decls.Define name patterns) = name ∷ []
name_in (decls.Promise name grace at form) = name ∷ []

-- the names that declarations declare, in their order
abbrev pub names_in : List Decl → List Name
names_in decls = flat_map name_in decls

abbrev pub SameWord : Name → Name → Type 0
SameWord one other = one.word ≡ other.word

-- ---- neighbours and promises

-- one AS and one address
abbrev pub SameAddress : Neighbour → Neighbour → Type 0
SameAddress one other = (one.asn ≡ other.asn) × (one.addr ≡ other.addr)

-- one AS, and one number under which they know this network
abbrev pub SameNumber : Neighbour → Neighbour → Type 0
SameNumber one other =
    (one.asn ≡ other.asn)
    × ((n : ℕ) × (r : Digest) × (s : Digest) × (one.key ≡ Some (r, n)) × (other.key ≡ Some (s, n)))

abbrev pub SameName : Neighbour → Neighbour → Type 0
SameName one other = one.name ≡ other.name

abbrev pub SamePromise : Promise → Promise → Type 0
SamePromise one other = one.name ≡ other.name
