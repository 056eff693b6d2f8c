-- The grammar of a text of promises, production by production: which tokens stand for which tree. The parts of
-- a production stand one behind another. It says nothing of how a text is read.
-- A `not`, `all`, `some`, `if` or `implies`, and a `(` round a formula, opens a level of nesting for what it
-- holds, `implies` for its right side. At most 64 levels are open at a place.
use Rattle.std.specs.Prelude.{ℕ, zero, suc, List, [], Option, Some, None}
use Rattle.nr_spec_bgp.specs.Prefixes.{masked}
use Rattle.nr_spec_rules.specs.declared.kind.Kind.{Kind}
use Rattle.nr_spec_rules.specs.declared.kind.Kind.TheVariants as k
use Rattle.nr_spec_rules.specs.declared.span.Span.{Span}
use Rattle.nr_spec_rules.specs.Figures.{number_of, address_of, prefix_of, community_of, digest_of}
use Rattle.nr_rule_syntax.specs.declared.tree.Name.{Name}
use Rattle.nr_rule_syntax.specs.declared.tree.Num.{Num}
use Rattle.nr_rule_syntax.specs.declared.tree.RootText.{RootText}
use Rattle.nr_rule_syntax.specs.declared.tree.PatternText.{PatternText}
use Rattle.nr_rule_syntax.specs.declared.tree.PrefixText.{PrefixText}
use Rattle.nr_rule_syntax.specs.declared.tree.File.{File}
use Rattle.nr_rule_syntax.specs.declared.tree.Decl.{Decl}
use Rattle.nr_rule_syntax.specs.declared.tree.Decl.TheVariants as decls
use Rattle.nr_rule_syntax.specs.declared.tree.Side.{Side}
use Rattle.nr_rule_syntax.specs.declared.tree.Side.TheVariants as sides
use Rattle.nr_rule_syntax.specs.declared.tree.Form.{Form}
use Rattle.nr_rule_syntax.specs.declared.tree.Form.TheVariants as forms
use Rattle.nr_rule_syntax.specs.declared.tree.Term.{Term}
use Rattle.nr_rule_syntax.specs.declared.tree.Term.TheVariants as terms
use Rattle.nr_rule_syntax.specs.declared.tree.Cmp.{Cmp}
use Rattle.nr_rule_syntax.specs.declared.tree.Cmp.TheVariants as cmps
use Rattle.nr_rule_syntax.specs.declared.formula.Level.{Level}
use Rattle.nr_rule_syntax.specs.declared.formula.Level.TheVariants.{Whole, Member}
use Rattle.nr_laws_rules.specs.Productions.{StandsFor, gives, ◌>>=◌, ◌>>◌, ◌<$>◌, ◌or◌, token, valued, many, list, chain}

-- ---- tokens with a value

unfoldable pub IsName : StandsFor Name
IsName = (λ x. record { word = x.0; span = x.1 }) <$> valued k.Name (λ text. Some text)

unfoldable pub IsNumber : StandsFor Num
IsNumber = (λ x. record { value = x.0; span = x.1 }) <$> valued k.Number number_of

unfoldable pub IsAddress : StandsFor Num
IsAddress = (λ x. record { value = x.0; span = x.1 }) <$> valued k.Address address_of

unfoldable pub IsCommunity : StandsFor ℕ
IsCommunity = (λ x. x.0) <$> valued k.Community community_of

unfoldable pub IsPrefix : StandsFor PrefixText
IsPrefix = (λ x. record { prefix = masked x.0.0 x.0.1; span = x.1 }) <$> valued k.Prefix prefix_of

unfoldable pub IsRoot : StandsFor RootText
IsRoot = (λ x. record { digest = record { 0 = x.0 }; span = x.1 }) <$> valued k.Root digest_of

-- ---- terms

-- "(" NAME ")"
unfoldable pub IsArgument : StandsFor Name
IsArgument = do
  token k.OpenParen
  of ← IsName
  token k.CloseParen
  gives of

-- NUMBER | ADDRESS | "bits" | ( "length" | "med" | "pref" | "origin" | "first" | "last" | "hop" | "asn" ) "(" NAME ")"
unfoldable pub IsTerm : StandsFor Term
IsTerm =
    (terms.Number <$> IsNumber) or (terms.Number <$> IsAddress) or (token k.Bits >> gives terms.Bits)
    or (token k.Length >> terms.Length <$> IsArgument)
    or (token k.Med >> terms.Med <$> IsArgument) or (token k.Pref >> terms.Pref <$> IsArgument)
    or (token k.Origin >> terms.Origin <$> IsArgument)
    or (token k.First >> terms.First <$> IsArgument) or (token k.Last >> terms.Last <$> IsArgument)
    or (token k.Hop >> terms.Hop <$> IsArgument)
    or (token k.Asn >> terms.Asn <$> IsArgument)

-- "=" | "!=" | "<" | "<=" | ">" | ">="
unfoldable pub IsCmp : StandsFor Cmp
IsCmp =
    (token k.Equal >> gives cmps.Eq) or (token k.Unequal >> gives cmps.Ne) or (token k.Less >> gives cmps.Lt)
    or (token k.LessOrEqual >> gives cmps.Le)
    or (token k.Greater >> gives cmps.Gt) or (token k.GreaterOrEqual >> gives cmps.Ge)

-- Term Cmp Term
unfoldable pub IsCompared : StandsFor Form
IsCompared = do
  left ← IsTerm
  op ← IsCmp
  right ← IsTerm
  gives (forms.Compare left op right)

-- ---- atoms

-- ( "sent" | "received" ) "(" NAME ")"
unfoldable pub IsRoute : StandsFor (Side × Name)
IsRoute =
    (token k.Sent >> (λ of. (sides.Sent, of)) <$> IsArgument)
    or (token k.Received >> (λ of. (sides.Received, of)) <$> IsArgument)

-- "has" COMMUNITY | "crosses" Term | "is" NAME, behind a NAME
unfoldable pub IsAbout : Name → StandsFor Form
IsAbout var =
    (token k.Has >> (λ c. forms.Has var c) <$> IsCommunity)
    or (token k.Crosses >> (λ t. forms.Crosses var t) <$> IsTerm)
    or (token k.Is >> (λ right. forms.Is var right) <$> IsName)

-- "prefix" "in" NAME
unfoldable pub IsInSet : StandsFor Form
IsInSet = do
  token k.PrefixWord
  token k.In
  set ← IsName
  gives (forms.PrefixIn set)

-- what a level of nesting may hold
abbrev pub Inside : Type 1
Inside = Level → StandsFor Form

-- "(" Form ")"
unfoldable pub IsParenthesized : Inside → StandsFor Form
IsParenthesized inside = do
  token k.OpenParen
  form ← inside Whole
  token k.CloseParen
  gives form

-- "all" NAME "in" NAME "{" Form "}", and the same of "some"
unfoldable pub IsOverGroup : Kind → Inside → StandsFor (Name × Name × Form)
IsOverGroup word inside = do
  token word
  var ← IsName
  token k.In
  group ← IsName
  token k.OpenBrace
  form ← inside Whole
  token k.CloseBrace
  gives (var, group, form)

-- "if" NAME "=" Route "then"
unfoldable pub IsBound : StandsFor (Name × (Side × Name))
IsBound = do
  token k.If
  var ← IsName
  token k.Equal
  from ← IsRoute
  token k.Then
  gives (var, from)

-- Form "else" Form "end"
unfoldable pub IsBranches : Inside → StandsFor (Form × Form)
IsBranches inside = do
  then_ ← inside Whole
  token k.Else
  else_ ← inside Whole
  token k.EndWord
  gives (then_, else_)

-- "if" NAME "=" Route "then" Form "else" Form "end"
unfoldable pub IsConditional : Inside → StandsFor Form
IsConditional inside = do
  head ← IsBound
  parts ← IsBranches inside
  gives (forms.If head.0 head.1.0 head.1.1 parts.0 parts.1)

-- "true" | "false" | "(" Form ")" | ( "all" | "some" ) NAME "in" NAME "{" Form "}"
-- | "if" NAME "=" Route "then" Form "else" Form "end" | Route | NAME ( "has" COMMUNITY | "crosses" Term | "is" NAME )
-- | "prefix" "in" NAME | Term Cmp Term
unfoldable pub IsAtom : Inside → StandsFor Form
IsAtom inside =
    (token k.True >> gives forms.True) or (token k.False >> gives forms.False) or IsParenthesized inside
    or ((λ x. forms.All x.0 x.1 x.2) <$> IsOverGroup k.All inside)
    or ((λ x. forms.Some x.0 x.1 x.2) <$> IsOverGroup k.Some inside) or IsConditional inside
    or ((λ from. forms.Stands from.0 from.1) <$> IsRoute) or (IsName >>= IsAbout) or IsInSet or IsCompared

-- ---- formulas

-- "not" Not | Atom
unfoldable pub IsNot : Inside → StandsFor Form
IsNot inside = (token k.Not >> forms.Not <$> inside Member) or IsAtom inside

-- Not { "and" Not }
unfoldable pub IsAnd : Inside → StandsFor Form
IsAnd inside = chain k.And forms.And (IsNot inside)

-- And { "or" And }
unfoldable pub IsOr : Inside → StandsFor Form
IsOr inside = chain k.Or forms.Or (IsAnd inside)

-- Or [ "implies" Form ]
unfoldable pub IsForm : Inside → StandsFor Form
IsForm inside = do
  left ← IsOr inside
  (do
    token k.Implies
    right ← inside Whole
    gives (forms.Implies left right)) or gives left

-- `held n` is what may stand inside a level when n levels, that one counted, may still be open; with 0 no tokens
-- may. It is a formula, or behind `not` a member of a chain.
unfoldable pub held : ℕ → Inside
held zero level ts form = ⊥
held (suc levels) Whole ts form = IsForm (held levels) ts form
held (suc levels) Member ts form = IsNot (held levels) ts form

-- a formula in which so many levels may be opened
abbrev pub IsFormOf : ℕ → StandsFor Form
IsFormOf levels = IsForm (held levels)

-- ---- declarations

-- "network" NUMBER ";", and the same of "commit"
unfoldable pub IsNumbered : Kind → StandsFor (Num × Span)
IsNumbered word = do
  span ← token word
  value ← IsNumber
  token k.Semicolon
  gives (value, span)

-- [ "root" ROOT "number" NUMBER ]
unfoldable pub IsKey : StandsFor (Option (RootText × Num))
IsKey = (do
  token k.RootWord
  of ← IsRoot
  token k.NumberWord
  number ← IsNumber
  gives (Some (of, number))) or gives None

-- "neighbour" NAME "as" NUMBER "at" ADDRESS [ "root" ROOT "number" NUMBER ] ";"
unfoldable pub IsNeighbour : StandsFor Decl
IsNeighbour = do
  token k.Neighbour
  called ← IsName
  token k.As
  asn ← IsNumber
  token k.At
  addr ← IsAddress
  signs ← IsKey
  token k.Semicolon
  gives (decls.Neighbour called asn addr signs)

-- "group" NAME "=" NAME { "," NAME } ";"
unfoldable pub IsGroup : StandsFor Decl
IsGroup = do
  token k.Group
  called ← IsName
  token k.Equal
  members ← list k.Comma IsName
  token k.Semicolon
  gives (decls.Group called members)

-- PREFIX [ "le" NUMBER ]
unfoldable pub IsPattern : StandsFor PatternText
IsPattern = do
  base ← IsPrefix
  (do
    token k.Le
    most ← IsNumber
    gives (record { prefix = base.prefix; most = Some most; span = base.span }))
      or gives (record { prefix = base.prefix; most = None; span = base.span })

-- "define" NAME "=" Pattern { "," Pattern } ";"
unfoldable pub IsDefine : StandsFor Decl
IsDefine = do
  token k.Define
  called ← IsName
  token k.Equal
  patterns ← list k.Comma IsPattern
  token k.Semicolon
  gives (decls.Define called patterns)

-- [ "at" PREFIX { "," PREFIX } ]
unfoldable pub IsPlaces : StandsFor (List PrefixText)
IsPlaces = (token k.At >> list k.Comma IsPrefix) or gives []

-- NAME "grace" NUMBER [ "at" PREFIX { "," PREFIX } ]
unfoldable pub IsHeading : StandsFor (Name × Num × List PrefixText)
IsHeading = do
  called ← IsName
  token k.Grace
  grace ← IsNumber
  at ← IsPlaces
  gives (called, grace, at)

-- "promise" NAME "grace" NUMBER [ "at" PREFIX { "," PREFIX } ] "{" Form "}"
unfoldable pub IsPromise : StandsFor Decl
IsPromise = do
  token k.Promise
  head ← IsHeading
  token k.OpenBrace
  form ← IsFormOf 64
  token k.CloseBrace
  gives (decls.Promise head.0 head.1 head.2 form)

-- "network" NUMBER ";" | "commit" NUMBER ";" | Neighbour | Group | Define | Promise
unfoldable pub IsDecl : StandsFor Decl
IsDecl =
    ((λ x. decls.Network x.0 x.1) <$> IsNumbered k.Network) or ((λ x. decls.Commit x.0 x.1) <$> IsNumbered k.Commit)
    or IsNeighbour or IsGroup or IsDefine
    or IsPromise

-- { Decl }, and the end of the text
unfoldable pub IsFile : StandsFor File
IsFile = do
  decls ← many IsDecl
  end ← token k.End
  gives (record { decls = decls; end = end.from })
