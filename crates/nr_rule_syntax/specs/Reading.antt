-- The grammar of a text of promises, production by production, as it is read with one token of look-ahead.
-- A `not`, `all`, `some`, `if` or `implies`, and a `(` round a formula, opens a level of nesting for what it
-- holds, `implies` for its right side. At most 64 levels are open at a place.
use Rattle.std.specs.Prelude.{ℕ, zero, suc, List, [], length, Option, Some, None, Result, Ok, Err, if◌then◌else◌}
use Rattle.nr_spec_bgp.specs.Prefixes.{masked}
use Rattle.nr_spec_rules.specs.declared.kind.Kind.{Kind}
use Rattle.nr_spec_rules.specs.declared.kind.Kind.TheVariants as k
use Rattle.nr_spec_rules.specs.declared.span.Span.{Span}
use Rattle.nr_spec_rules.specs.Figures.{number_of, address_of, prefix_of, community_of, digest_of}
use Rattle.nr_spec_rules.specs.Tokens.{kind_of, place_of, tokens_of}
use Rattle.nr_spec_rules.specs.Parsing.{Outcome, Parser, ◌>>=◌, ◌>>◌, ◌<$>◌, pure, refuse, passed, sees, expect, valued, list, chain, until}
use Rattle.nr_rule_syntax.specs.declared.tree.Name.{Name}
use Rattle.nr_rule_syntax.specs.declared.tree.Num.{Num}
use Rattle.nr_rule_syntax.specs.declared.tree.RootText.{RootText}
use Rattle.nr_rule_syntax.specs.declared.tree.PatternText.{PatternText}
use Rattle.nr_rule_syntax.specs.declared.tree.PrefixText.{PrefixText}
use Rattle.nr_rule_syntax.specs.declared.tree.File.{File}
use Rattle.nr_rule_syntax.specs.declared.tree.Decl.{Decl}
use Rattle.nr_rule_syntax.specs.declared.tree.Decl.TheVariants as decls
use Rattle.nr_rule_syntax.specs.declared.tree.Side.{Side}
use Rattle.nr_rule_syntax.specs.declared.tree.Side.TheVariants as sides
use Rattle.nr_rule_syntax.specs.declared.tree.Form.{Form}
use Rattle.nr_rule_syntax.specs.declared.tree.Form.TheVariants as forms
use Rattle.nr_rule_syntax.specs.declared.tree.Term.{Term}
use Rattle.nr_rule_syntax.specs.declared.tree.Term.TheVariants as terms
use Rattle.nr_rule_syntax.specs.declared.tree.Cmp.{Cmp}
use Rattle.nr_rule_syntax.specs.declared.tree.Cmp.TheVariants as cmps
use Rattle.nr_rule_syntax.specs.declared.formula.Level.{Level}
use Rattle.nr_rule_syntax.specs.declared.formula.Level.TheVariants.{Whole, Member}

-- ---- tokens with a value

unfoldable pub name : Parser Name
name = (λ x. record { word = x.0; span = x.1 }) <$> valued k.Name (λ text. Some text)

unfoldable pub number : Parser Num
number = (λ x. record { value = x.0; span = x.1 }) <$> valued k.Number number_of

unfoldable pub address : Parser Num
address = (λ x. record { value = x.0; span = x.1 }) <$> valued k.Address address_of

unfoldable pub community : Parser ℕ
community = (λ x. x.0) <$> valued k.Community community_of

unfoldable pub prefix : Parser PrefixText
prefix = (λ x. record { prefix = masked x.0.0 x.0.1; span = x.1 }) <$> valued k.Prefix prefix_of

unfoldable pub root : Parser RootText
root = (λ x. record { digest = record { 0 = x.0 }; span = x.1 }) <$> valued k.Root digest_of

-- `( NAME )`
unfoldable pub argument : Parser Name
argument = do
  opened ← expect k.OpenParen
  of ← name
  close ← expect k.CloseParen
  pure of

-- ---- terms and comparisons

abbrev pub term_by : Kind → Parser Term
term_by k.Number = terms.Number <$> number
term_by k.Address = terms.Number <$> address
term_by k.Bits = passed >> pure terms.Bits
term_by k.Length = passed >> terms.Length <$> argument
term_by k.Med = passed >> terms.Med <$> argument
term_by k.Pref = passed >> terms.Pref <$> argument
term_by k.Origin = passed >> terms.Origin <$> argument
term_by k.First = passed >> terms.First <$> argument
term_by k.Last = passed >> terms.Last <$> argument
term_by k.Hop = passed >> terms.Hop <$> argument
term_by k.Asn = passed >> terms.Asn <$> argument
term_by _ = refuse

unfoldable pub term : Parser Term
term = λ ts. term_by (kind_of ts) ts

abbrev pub comparison_by : Kind → Parser Cmp
comparison_by k.Equal = passed >> pure cmps.Eq
comparison_by k.Unequal = passed >> pure cmps.Ne
comparison_by k.Less = passed >> pure cmps.Lt
comparison_by k.LessOrEqual = passed >> pure cmps.Le
comparison_by k.Greater = passed >> pure cmps.Gt
comparison_by k.GreaterOrEqual = passed >> pure cmps.Ge
comparison_by _ = refuse

unfoldable pub comparison : Parser Cmp
comparison = λ ts. comparison_by (kind_of ts) ts

-- `Term Cmp Term`
unfoldable pub compared : Parser Form
compared = do
  left ← term
  op ← comparison
  right ← term
  pure (forms.Compare left op right)

-- ---- routes

abbrev pub route_by : Kind → Parser (Side × Name)
route_by k.Sent = passed >> (λ of. (sides.Sent, of)) <$> argument
route_by k.Received = passed >> (λ of. (sides.Received, of)) <$> argument
route_by _ = refuse

-- `sent ( NAME )` or `received ( NAME )`
unfoldable pub route : Parser (Side × Name)
route = λ ts. route_by (kind_of ts) ts

abbrev pub about_by : Name → Kind → Parser Form
about_by var k.Has = passed >> (λ c. forms.Has var c) <$> community
about_by var k.Crosses = passed >> (λ t. forms.Crosses var t) <$> term
about_by var k.Is = passed >> (λ right. forms.Is var right) <$> name
about_by var _ = refuse

-- `has COMMUNITY`, `crosses Term` or `is NAME`, after a name
unfoldable pub about : Name → Parser Form
about var = λ ts. about_by var (kind_of ts) ts

-- `prefix in NAME`
unfoldable pub in_set : Parser Form
in_set = do
  word ← expect k.PrefixWord
  among ← expect k.In
  set ← name
  pure (forms.PrefixIn set)

-- ---- formulas. The number is how many more levels may be opened, and inside reads what a level holds.

abbrev pub Inside : Type 0
Inside = Level → Parser Form

abbrev pub opens : ℕ → Parser (Unit {0})
opens zero = refuse
opens (suc levels) = passed

-- `( Form )`
unfoldable pub parenthesized : ℕ → Inside → Parser Form
parenthesized levels inside = do
  opened ← opens levels
  held ← inside Whole
  close ← expect k.CloseParen
  pure held

-- after `all` or `some`: `NAME in NAME { Form }`
unfoldable pub over_group : ℕ → Inside → Parser (Name × Name × Form)
over_group levels inside = do
  opened ← opens levels
  var ← name
  among ← expect k.In
  group ← name
  brace ← expect k.OpenBrace
  held ← inside Whole
  close ← expect k.CloseBrace
  pure (var, group, held)

-- `if NAME = Route then`
unfoldable pub bound : ℕ → Parser (Name × (Side × Name))
bound levels = do
  opened ← opens levels
  var ← name
  is ← expect k.Equal
  from ← route
  then_ ← expect k.Then
  pure (var, from)

-- `Form else Form end`
unfoldable pub branches : Inside → Parser (Form × Form)
branches inside = do
  yes_ ← inside Whole
  else_ ← expect k.Else
  no_ ← inside Whole
  close ← expect k.EndWord
  pure (yes_, no_)

-- `if NAME = Route then Form else Form end`
unfoldable pub conditional : ℕ → Inside → Parser Form
conditional levels inside = do
  head ← bound levels
  parts ← branches inside
  pure (forms.If head.0 head.1.0 head.1.1 parts.0 parts.1)

abbrev pub atom_by : ℕ → Inside → Kind → Parser Form
atom_by levels inside k.True = passed >> pure forms.True
atom_by levels inside k.False = passed >> pure forms.False
atom_by levels inside k.OpenParen = parenthesized levels inside
atom_by levels inside k.All = (λ x. forms.All x.0 x.1 x.2) <$> over_group levels inside
atom_by levels inside k.Some = (λ x. forms.Some x.0 x.1 x.2) <$> over_group levels inside
atom_by levels inside k.If = conditional levels inside
atom_by levels inside k.Sent = (λ from. forms.Stands from.0 from.1) <$> route
atom_by levels inside k.Received = (λ from. forms.Stands from.0 from.1) <$> route
atom_by levels inside k.Name = name >>= about
atom_by levels inside k.PrefixWord = in_set
atom_by levels inside _ = compared

unfoldable pub atom : ℕ → Inside → Parser Form
atom levels inside = λ ts. atom_by levels inside (kind_of ts) ts

-- `not Not`, or an atom
unfoldable pub negation : ℕ → Inside → Parser Form
negation levels inside =
    λ ts. if sees k.Not ts then (opens levels >> forms.Not <$> inside Member) ts else atom levels inside ts

-- `Not { and Not }`: a list of two or more, or the one
unfoldable pub conjunction : ℕ → Inside → Parser Form
conjunction levels inside = chain k.And forms.And (negation levels inside)

-- `And { or And }`
unfoldable pub disjunction : ℕ → Inside → Parser Form
disjunction levels inside = chain k.Or forms.Or (conjunction levels inside)

-- `Or [ implies Form ]`
unfoldable pub formula : ℕ → Inside → Parser Form
formula levels inside = do
  left ← disjunction levels inside
  (λ ts. if sees k.Implies ts
      then (opens levels >> (λ right. forms.Implies left right) <$> inside Whole) ts
      else Ok (left, ts))

-- what stands after a token that opens a level: a formula, or after `not` a member of a chain
unfoldable pub inside : ℕ → Level → Parser Form
inside zero level = refuse
inside (suc levels) Whole = formula levels (inside levels)
inside (suc levels) Member = negation levels (inside levels)

-- a formula that nests at most 64 levels
abbrev pub whole_formula : Parser Form
whole_formula = inside 65 Whole

-- ---- declarations

-- `network NUMBER ;`, and the same of `commit`: the number, and where the keyword stands
unfoldable pub numbered : Kind → Parser (Num × Span)
numbered kind = do
  span ← expect kind
  value ← number
  close ← expect k.Semicolon
  pure (value, span)

-- `[ root ROOT number NUMBER ]`
unfoldable pub key : Parser (Option (RootText × Num))
key = λ ts. if sees k.RootWord ts then (do
  word ← passed
  of ← root
  numbered_ ← expect k.NumberWord
  number_ ← number
  pure (Some (of, number_))) ts
    else Ok (None, ts)

-- `neighbour NAME as NUMBER at ADDRESS [ root ROOT number NUMBER ] ;`
unfoldable pub neighbour : Parser Decl
neighbour = do
  word ← passed
  called ← name
  as_ ← expect k.As
  asn ← number
  at ← expect k.At
  addr ← address
  signs ← key
  close ← expect k.Semicolon
  pure (decls.Neighbour called asn addr signs)

-- `group NAME = NAME { , NAME } ;`
unfoldable pub group : Parser Decl
group = do
  word ← passed
  called ← name
  is ← expect k.Equal
  members ← list k.Comma name
  close ← expect k.Semicolon
  pure (decls.Group called members)

-- `PREFIX [ le NUMBER ]`
unfoldable pub pattern : Parser PatternText
pattern = do
  base ← prefix
  (λ ts. if sees k.Le ts
      then (passed >> (λ most. record { prefix = base.prefix; most = Some most; span = base.span }) <$> number) ts
      else Ok (record { prefix = base.prefix; most = None; span = base.span }, ts))

-- `define NAME = Pattern { , Pattern } ;`
unfoldable pub define : Parser Decl
define = do
  word ← passed
  called ← name
  is ← expect k.Equal
  patterns ← list k.Comma pattern
  close ← expect k.Semicolon
  pure (decls.Define called patterns)

-- `[ at PREFIX { , PREFIX } ]`
unfoldable pub places : Parser (List PrefixText)
places = λ ts. if sees k.At ts then (passed >> list k.Comma prefix) ts else Ok ([], ts)

-- `NAME grace NUMBER [ at PREFIX { , PREFIX } ]`
unfoldable pub terms_of_promise : Parser (Name × Num × List PrefixText)
terms_of_promise = do
  called ← name
  within ← expect k.Grace
  grace ← number
  at ← places
  pure (called, grace, at)

-- `promise NAME grace NUMBER [ at PREFIX { , PREFIX } ] { Form }`
unfoldable pub promise : Parser Decl
promise = do
  word ← passed
  head ← terms_of_promise
  brace ← expect k.OpenBrace
  held ← whole_formula
  close ← expect k.CloseBrace
  pure (decls.Promise head.0 head.1 head.2 held)

abbrev pub declaration_by : Kind → Parser Decl
declaration_by k.Network = (λ x. decls.Network x.0 x.1) <$> numbered k.Network
declaration_by k.Commit = (λ x. decls.Commit x.0 x.1) <$> numbered k.Commit
declaration_by k.Neighbour = neighbour
declaration_by k.Group = group
declaration_by k.Define = define
declaration_by k.Promise = promise
declaration_by _ = refuse

unfoldable pub declaration : Parser Decl
declaration = λ ts. declaration_by (kind_of ts) ts

-- declarations up to the end of the text
abbrev pub declarations : Parser (List Decl)
declarations = λ ts. until k.End declaration (length ts) ts

abbrev pub file_in : Outcome (List Decl) → Result File ℕ
file_in (Ok p) = Ok (record { decls = p.0; end = place_of p.1 })
file_in (Err e) = Err e

-- the file that a text is, or the place of the first token that the grammar refuses
unfoldable pub file_of : List ℕ → Result File ℕ
file_of text = file_in (declarations (tokens_of text))
