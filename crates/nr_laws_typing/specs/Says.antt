-- What a well typed text says is what its declarations say, in their order.
use Rattle.std.specs.Prelude.{◌≡◌, ℕ, List, [], ◌∷◌, map, Option, Some, None}
use Rattle.std.specs.List.{flat_map}
use Rattle.nr_chain.specs.declared.digest.Digest.{Digest}
use Rattle.nr_spec_bgp.specs.Prefixes.{Cidr}
use Rattle.nr_rule_syntax.specs.declared.tree.Num.{Num}
use Rattle.nr_rule_syntax.specs.declared.tree.RootText.{RootText}
use Rattle.nr_rule_syntax.specs.declared.tree.Decl.{Decl}
use Rattle.nr_rule_syntax.specs.declared.tree.Decl.TheVariants as decls
use Rattle.nr_spec_typing.specs.declared.text.Neighbour.{Neighbour}
use Rattle.nr_spec_typing.specs.declared.text.Promise.{Promise}
use Rattle.nr_spec_typing.specs.Declarations.{TypedText}

abbrev pub key_said : Option (RootText × Num) → Option (Digest × ℕ)
key_said None = None
key_said (Some key) = Some (key.0.digest, key.1.value)

-- a promise without its formula
pub record Head : Type 0 where
  pub name : List ℕ
  pub grace : ℕ
  pub at : List Cidr

abbrev pub head_of : Promise → Head
head_of p = record { name = p.name; grace = p.grace; at = p.at }

abbrev pub network_in : Decl → List ℕ
network_in (decls.Network value span) = value.value ∷ []
network_in _ = []

abbrev pub commit_in : Decl → List ℕ
commit_in (decls.Commit value span) = value.value ∷ []
commit_in _ = []

abbrev pub neighbour_in : Decl → List Neighbour
neighbour_in (decls.Neighbour name asn addr key) =
    record { name = name.word; asn = asn.value; addr = addr.value; key = key_said key } ∷ []
neighbour_in _ = []

abbrev pub head_in : Decl → List Head
head_in (decls.Promise name grace at form) =
    record { name = name.word; grace = grace.value; at = map (λ p. p.prefix) at } ∷ []
head_in _ = []

pub record Says (text : TypedText) (decls : List Decl) : Type 0 where
  pub network : flat_map network_in decls ≡ text.network ∷ []
  pub commit : flat_map commit_in decls ≡ text.commit ∷ []
  pub neighbours : text.neighbours ≡ flat_map neighbour_in decls
  pub promises : map head_of text.promises ≡ flat_map head_in decls
