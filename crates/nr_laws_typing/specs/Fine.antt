-- When a parsed file is well typed, declaration by declaration: what is demanded of each by those before it, in the
-- order of the text. Nothing is said of what is made of it.
use Rattle.std.specs.Prelude.{ℕ, Bool, true, false, ◌&&◌, ◌||◌, ◌==◌, not, List, [], ◌∷◌, ◌++◌, map, slice_get, count_by, nat_lt, nat_le, Option, Some, None, is_none, if◌then◌else◌}
use Rattle.std.specs.List.{list_any, flat_map}
use Rattle.std.specs.Str.{bytes_eq}
use Rattle.nr_rule_syntax.specs.declared.tree.Name.{Name}
use Rattle.nr_rule_syntax.specs.declared.tree.Num.{Num}
use Rattle.nr_rule_syntax.specs.declared.tree.RootText.{RootText}
use Rattle.nr_rule_syntax.specs.declared.tree.PatternText.{PatternText}
use Rattle.nr_rule_syntax.specs.declared.tree.PrefixText.{PrefixText}
use Rattle.nr_rule_syntax.specs.declared.tree.File.{File}
use Rattle.nr_rule_syntax.specs.declared.tree.Decl.{Decl}
use Rattle.nr_rule_syntax.specs.declared.tree.Decl.TheVariants as decls
use Rattle.nr_laws_typing.specs.Demands.{Demand, unless, or_else, first_unmet}
use Rattle.nr_laws_typing.specs.Uses.{Kind, ANeighbour, AGroup, ASet, APromise, is_neighbour, demand_of, uses}

-- ---- what a declaration declares

abbrev pub is_network : Decl → Bool
is_network (decls.Network value span) = true
is_network _ = false

abbrev pub is_commit : Decl → Bool
is_commit (decls.Commit value span) = true
is_commit _ = false

-- the kind of what it names
abbrev pub kind_of : Decl → Option Kind
kind_of (decls.Network value span) = None
kind_of (decls.Commit value span) = None
kind_of (decls.Neighbour name asn addr key) = Some ANeighbour
kind_of (decls.Group name members) = Some AGroup
kind_of (decls.Define name patterns) = Some ASet
kind_of (decls.Promise name grace at form) = Some APromise

abbrev pub declares : Decl → List ℕ → Bool
declares (decls.Network value span) word = false
declares (decls.Commit value span) word = false
declares (decls.Neighbour name asn addr key) word = bytes_eq name.word word
declares (decls.Group name members) word = bytes_eq name.word word
declares (decls.Define name patterns) word = bytes_eq name.word word
declares (decls.Promise name grace at form) word = bytes_eq name.word word

-- the kind of a name that was declared
abbrev pub kind_in : List Decl → List ℕ → Option Kind
kind_in [] word = None
kind_in (d ∷ before) word = if declares d word then kind_of d else kind_in before word

abbrev pub is_new : List Decl → Name → Bool
is_new before name = is_none (kind_in before name.word)

abbrev pub is_a : Kind → Decl → Bool
is_a ANeighbour d = elim d [ decls.Neighbour name asn addr key ↦ true | _ ↦ false ]
is_a AGroup d = elim d [ decls.Group name members ↦ true | _ ↦ false ]
is_a ASet d = elim d [ decls.Define name patterns ↦ true | _ ↦ false ]
is_a APromise d = elim d [ decls.Promise name grace at form ↦ true | _ ↦ false ]

-- fewer than so many of a kind were declared
abbrev pub has_room : ℕ → Kind → List Decl → Bool
has_room most kind before = nat_lt (count_by (is_a kind) before) most

-- ---- neighbours

abbrev pub same_number : Option (RootText × Num) → Option (RootText × Num) → Bool
same_number (Some key) (Some other) = key.1.value == other.1.value
same_number _ _ = false

-- another neighbour has this AS, and this address or this number
abbrev pub is_alike : Num → Num → Option (RootText × Num) → Decl → Bool
is_alike asn addr key (decls.Neighbour name n a k) =
    n.value == asn.value && (a.value == addr.value || same_number k key)
is_alike asn addr key _ = false

-- `number` is below 256
abbrev pub of_key : Option (RootText × Num) → List Demand
of_key None = []
of_key (Some key) = record { met = nat_le key.1.value 255; at = key.1.span } ∷ []

-- ---- groups: a member is a neighbour that was declared, and isn't named before

abbrev pub is_named : Name → List Name → Bool
is_named name before = list_any (λ m. bytes_eq m.word name.word) before

abbrev pub of_members : (List ℕ → Option Kind) → List Name → List Name → List Demand
of_members kinds before [] = []
of_members kinds before (name ∷ names) =
    record { met = is_neighbour (kinds name.word) && not (is_named name before); at = name.span }
    ∷ of_members kinds (before ++ name ∷ []) names

-- ---- sets: `le` is from the prefix's own length to 32

abbrev pub of_most : ℕ → Option Num → List Demand
of_most len None = []
of_most len (Some most) = record { met = nat_le len most.value && nat_le most.value 32; at = most.span } ∷ []

abbrev pub of_pattern : PatternText → List Demand
of_pattern p = of_most p.prefix.len p.most

-- ---- promises: 1,024 prefixes at most

abbrev pub of_place : Option PrefixText → List Demand
of_place None = []
of_place (Some p) = record { met = false; at = p.span } ∷ []

abbrev pub of_places : List PrefixText → List Demand
of_places at = of_place (slice_get at 1024)

-- ---- declarations

-- 365 days
abbrev pub most_seconds : ℕ
most_seconds = 31536000

abbrev pub of_seconds : Num → Demand
of_seconds n = record { met = nat_le n.value most_seconds; at = n.span }

-- what is demanded of a declaration after these
abbrev pub demands : List Decl → Decl → List Demand
demands before (decls.Network value span) = record { met = not (list_any is_network before); at = span } ∷ []
demands before (decls.Commit value span) =
    record { met = not (list_any is_commit before); at = span } ∷ of_seconds value ∷ []
demands before (decls.Neighbour name asn addr key) =
    record {
      met = is_new before name && has_room 256 ANeighbour before && not (list_any (is_alike asn addr key) before);
      at = name.span;
    }
    ∷ of_key key
demands before (decls.Group name members) =
    record { met = is_new before name && has_room 64 AGroup before; at = name.span }
    ∷ of_members (kind_in before) [] members
demands before (decls.Define name patterns) =
    record { met = is_new before name && has_room 64 ASet before; at = name.span } ∷ flat_map of_pattern patterns
demands before (decls.Promise name grace at form) =
    record { met = is_new before name && has_room 256 APromise before; at = name.span }
    ∷ of_seconds grace
    ∷ (of_places at ++ map (demand_of (kind_in (before ++ decls.Promise name grace at form ∷ []))) (uses form []))

-- and of the declarations that follow these
abbrev pub all_demands : List Decl → List Decl → List Demand
all_demands before [] = []
all_demands before (d ∷ decls) = demands before d ++ all_demands (before ++ d ∷ []) decls

-- the place of the first demand on a file that isn't met; `network` and `commit` are demanded at its end
abbrev pub first_mistake : File → Option ℕ
first_mistake file =
    or_else (first_unmet (all_demands [] file.decls))
    (unless (list_any is_network file.decls && list_any is_commit file.decls) file.end)
