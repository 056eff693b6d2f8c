-- What a declared name stands for, by its declaration and those before it.
use Rattle.std.specs.Prelude.{◌≡◌, ℕ, List, [], ◌∷◌, ◌++◌, map, length, slice_get, Option, Some, None, Ok}
use Rattle.std.specs.List.{flat_map}
use Rattle.nr_prefix.specs.declared.set.Pattern.{Pattern}
use Rattle.nr_rule_syntax.specs.declared.tree.Name.{Name}
use Rattle.nr_rule_syntax.specs.declared.tree.Num.{Num}
use Rattle.nr_rule_syntax.specs.declared.tree.PatternText.{PatternText}
use Rattle.nr_rule_syntax.specs.declared.tree.Decl.{Decl}
use Rattle.nr_rule_syntax.specs.declared.tree.Decl.TheVariants as decls
use Rattle.nr_spec_typing.specs.declared.name.Named.{Named}
use Rattle.nr_spec_typing.specs.declared.name.Named.TheVariants as named
use Rattle.nr_spec_typing.specs.declared.name.Declared.{Declared}
use Rattle.nr_spec_typing.specs.declared.text.Neighbour.{Neighbour}
use Rattle.nr_spec_typing.specs.Apart.{NoTwo, name_in, names_in}
use Rattle.nr_laws_typing.specs.Says.{neighbour_in}

-- ---- a group: the numbers of the neighbours that it names, in their order, all different

-- the neighbour of this number, in the order of the declarations, has this name
abbrev pub IsMember : List Decl → Name → ℕ → Type 0
IsMember before name n =
    (x : Neighbour) × (slice_get (flat_map neighbour_in before) n ≡ Some x) × (x.name ≡ name.word)

abbrev pub AreMembers : List Decl → List Name → List ℕ → Type 0
AreMembers before [] [] = Unit {0}
AreMembers before (name ∷ names) (n ∷ numbers) = IsMember before name n × AreMembers before names numbers
AreMembers before _ _ = ⊥

abbrev pub Same : ℕ → ℕ → Type 0
Same n m = n ≡ m

pub record IsGroup (before : List Decl) (names : List Name) (numbers : List ℕ) : Type 0 where
  pub members : AreMembers before names numbers
  pub differ : NoTwo Same numbers

-- ---- a set: its patterns, in their order. Without `le` the greatest length is the prefix's own.

abbrev pub most_said : ℕ → Option Num → ℕ
most_said len None = len
most_said len (Some most) = most.value

abbrev pub pattern_said : PatternText → Pattern
pattern_said p = record { prefix = p.prefix; most = most_said p.prefix.len p.most }

-- ---- a declaration

-- what the name of a declaration behind these stands for
abbrev pub Stands : List Decl → Decl → Named → Type 0
Stands before (decls.Neighbour name asn addr key) means =
    means ≡ named.Neighbour (length (flat_map neighbour_in before))
Stands before (decls.Group name names) means =
    (numbers : List ℕ) × IsGroup before names numbers × (means ≡ named.Group numbers)
Stands before (decls.Define name patterns) means = means ≡ named.Define (map pattern_said patterns)
Stands before (decls.Promise name grace at form) means = means ≡ named.Promise
Stands before _ means = ⊥

-- the declaration's name stands behind the names that were declared before it, and is what it stands for
pub record IsDeclared (before : List Decl) (d : Decl) (name : Name) (names : List Declared) : Type 0 where
  pub declared : Declared
  pub place : slice_get names (length (names_in before)) ≡ Some declared
  pub called : declared.word ≡ name.word
  pub stands : Stands before d declared.means

-- no names stand there but the declared ones
pub record AreDeclared (all : List Decl) (names : List Declared) : Type 0 where
  pub number : length names ≡ length (names_in all)
  pub each : (before after : List Decl) (d : Decl) (name : Name) → all ≡ before ++ d ∷ after
      → name_in d ≡ name ∷ [] → IsDeclared before d name names
