-- Declarations.
use Rattle.std.proofs.Common.{◌≡◌, true, false, List, [], ◌∷◌, ◌++◌, Option, Some, None, refl, sym, subst, inl, inr}
use Rattle.nr_spec_rules.specs.declared.kind.Kind.{Kind}
use Rattle.nr_spec_rules.specs.declared.kind.Kind.TheVariants as k
use Rattle.nr_spec_rules.specs.declared.span.Span.{Span}
use Rattle.nr_spec_rules.specs.Tokens.{Token, same_kind, kind_of, goes_on}
use Rattle.nr_spec_rules.specs.Parsing as parsing
use Rattle.nr_spec_rules.specs.Parsing.{expect}
use Rattle.nr_rule_syntax.specs.declared.tree.Num.{Num}
use Rattle.nr_rule_syntax.specs.declared.tree.RootText.{RootText}
use Rattle.nr_rule_syntax.specs.declared.tree.Decl.TheVariants as decls
use Rattle.nr_rule_syntax.specs.Reading as read
use Rattle.nr_laws_rules.specs.Productions as words
use Rattle.nr_laws_rules.specs.Productions.{token}
use Rattle.nr_laws_rules.specs.Grammar.{IsNumber, IsPrefix, IsRoot, IsNumbered, IsKey, IsNeighbour, IsGroup, IsPattern, IsDefine, IsPlaces, IsHeading, IsPromise, IsDecl, IsForm, held}
use Rattle.nr_laws_rules.proofs.KindLaws.{Free}
use Rattle.nr_laws_rules.proofs.Steps.{Traced, Decides, HasWord, IsChosen, Begins, word_of, widened, widened_word, refused_at_once, bound, next, mapped, pure_decides, expect_decides, one_leads, bind_leads, leads_begin, leads_follow, or_begins, chosen, ◌else◌, by_kind, maybe_decides, DecidesAt, passed_at, chosen_at}
use Rattle.nr_laws_rules.proofs.Chains.{list_decides}
use Rattle.nr_laws_rules.proofs.Terms.{name_decides, number_decides, address_decides, prefix_decides, root_decides}
use Rattle.nr_laws_rules.proofs.Forms.{whole_decides}

numbered_decides : (kind : Kind) → same_kind k.End kind ≡ false → goes_on kind ≡ true → Decides (read.numbered kind) (IsNumbered kind) []
unfolding read.numbered IsNumbered same_kind
numbered_decides kind ne go = next (expect_decides kind ne go) (λ span. next number_decides (λ value. next (expect_decides k.Semicolon refl refl) (λ close. pure_decides)))

key_at : DecidesAt {A = Option (RootText × Num)} k.RootWord (parsing.◌>>=◌ parsing.passed (λ word. parsing.◌>>=◌ read.root (λ of. parsing.◌>>=◌ (expect k.NumberWord) (λ numbered. parsing.◌>>=◌ read.number (λ number. parsing.pure (Some (of, number)))))))
    (words.◌>>◌ (token k.RootWord) (words.◌>>=◌ IsRoot (λ of. words.◌>>◌ (token k.NumberWord) (words.◌>>=◌ IsNumber (λ number. words.gives (Some (of, number))))))) []
unfolding same_kind
key_at = passed_at k.RootWord refl refl (next root_decides (λ of. next (expect_decides k.NumberWord refl refl) (λ numbered. next number_decides (λ number. pure_decides))))

key_decides : Decides read.key IsKey (k.RootWord ∷ [])
unfolding read.key IsKey
key_decides = maybe_decides k.RootWord None (record { here = λ x free. free.0; inside = λ x free. free.1 }) (λ ts e. widened (λ w a r. inl r) (key_at.traced ts e)) key_at.leads key_at.complete key_at.goes

neighbour_at : DecidesAt k.Neighbour read.neighbour IsNeighbour []
unfolding read.neighbour IsNeighbour same_kind
neighbour_at =
    passed_at k.Neighbour refl refl (next name_decides (λ called. next (expect_decides k.As refl refl) (λ as_. next number_decides (λ asn. next (expect_decides k.At refl refl) (λ at. next address_decides (λ addr.
    bound key_decides (λ signs. next (expect_decides k.Semicolon refl refl) (λ close. pure_decides)) (λ signs. leads_follow k.Semicolon (one_leads k.Semicolon) (refl, tt))))))))

group_at : DecidesAt k.Group read.group IsGroup []
unfolding read.group IsGroup same_kind
group_at =
    passed_at k.Group refl refl (next name_decides (λ called. next (expect_decides k.Equal refl refl) (λ is.
    bound (list_decides k.Comma refl refl tt name_decides) (λ members. next (expect_decides k.Semicolon refl refl) (λ close. pure_decides)) (λ members. leads_follow k.Semicolon (one_leads k.Semicolon) (refl, tt)))))

pattern_decides : Decides read.pattern IsPattern (k.Le ∷ [])
unfolding read.pattern IsPattern same_kind
pattern_decides = next prefix_decides (λ base.
    let most = passed_at k.Le refl refl (mapped (λ (most : Num). record { prefix = base.prefix; most = Some most; span = base.span }) number_decides) in
    maybe_decides k.Le (record { prefix = base.prefix; most = None; span = base.span }) (record { here = λ x free. free.0; inside = λ x free. free.1 }) (λ ts e. widened (λ w a r. inl r) (most.traced ts e)) most.leads
    most.complete most.goes)

define_at : DecidesAt k.Define read.define IsDefine []
unfolding read.define IsDefine same_kind
define_at =
    passed_at k.Define refl refl (next name_decides (λ called. next (expect_decides k.Equal refl refl) (λ is.
    bound (list_decides k.Comma refl refl (refl, tt) pattern_decides) (λ patterns. next (expect_decides k.Semicolon refl refl) (λ close. pure_decides)) (λ patterns. leads_follow k.Semicolon (one_leads k.Semicolon) (refl, (refl, tt))))))

places_at : DecidesAt k.At (parsing.◌>>◌ parsing.passed (parsing.list k.Comma read.prefix)) (words.◌>>◌ (token k.At) (words.list k.Comma IsPrefix)) (k.Comma ∷ [])
unfolding same_kind
places_at = passed_at k.At refl refl (list_decides k.Comma refl refl tt prefix_decides)

places_decides : Decides read.places IsPlaces (k.At ∷ k.Comma ∷ [])
unfolding read.places IsPlaces
places_decides = maybe_decides k.At [] (record { here = λ x free. free.0; inside = λ x free. free.1 }) (λ ts e. widened (λ w a r. inl r) (places_at.traced ts e)) places_at.leads places_at.complete places_at.goes

heading_decides : Decides read.terms_of_promise IsHeading (k.At ∷ k.Comma ∷ [])
unfolding read.terms_of_promise IsHeading same_kind
heading_decides =
    next name_decides (λ called. next (expect_decides k.Grace refl refl) (λ within. next number_decides (λ grace.
    bound places_decides (λ at. pure_decides) (λ at. record { free = λ w x after s free. subst (λ (l : List Token). Free (k.At ∷ k.Comma ∷ []) (kind_of (l ++ after))) (sym s.0) free }))))

whole_formula_decides : Decides read.whole_formula (IsForm (held 64)) (k.Implies ∷ k.Or ∷ k.And ∷ [])
whole_formula_decides = whole_decides 63

promise_at : DecidesAt k.Promise read.promise IsPromise []
unfolding read.promise IsPromise same_kind
promise_at =
    passed_at k.Promise refl refl (bound heading_decides
    (λ head. next (expect_decides k.OpenBrace refl refl) (λ brace.
    bound whole_formula_decides (λ form. next (expect_decides k.CloseBrace refl refl) (λ close. pure_decides)) (λ form. leads_follow k.CloseBrace (one_leads k.CloseBrace) (refl, (refl, (refl, tt))))))
    (λ head. leads_follow k.OpenBrace (one_leads k.OpenBrace) (refl, (refl, tt))))

network_decides : Decides (parsing.◌<$>◌ (λ (x : Num × Span). decls.Network x.0 x.1) (read.numbered k.Network)) (words.◌<$>◌ (λ (x : Num × Span). decls.Network x.0 x.1) (IsNumbered k.Network)) []
unfolding same_kind
network_decides = mapped (λ x. decls.Network x.0 x.1) (numbered_decides k.Network refl refl)

commit_decides : Decides (parsing.◌<$>◌ (λ (x : Num × Span). decls.Commit x.0 x.1) (read.numbered k.Commit)) (words.◌<$>◌ (λ (x : Num × Span). decls.Commit x.0 x.1) (IsNumbered k.Commit)) []
unfolding same_kind
commit_decides = mapped (λ x. decls.Commit x.0 x.1) (numbered_decides k.Commit refl refl)

has_declaration : HasWord IsDecl
unfolding IsDecl
has_declaration = widened_word (λ w a r. inl r) (word_of (network_decides.traced []))

declaration_traced : (kind : Kind) (ts : List Token) → kind_of ts ≡ kind → Traced (read.declaration_by kind) IsDecl ts
unfolding IsDecl
declaration_traced k.Network ts e = widened (λ w a r. inl r) (network_decides.traced ts)
declaration_traced k.Commit ts e = widened (λ w a r. inr (inl r)) (commit_decides.traced ts)
declaration_traced k.Neighbour ts e = widened (λ w a r. inr (inr (inl r))) (neighbour_at.traced ts e)
declaration_traced k.Group ts e = widened (λ w a r. inr (inr (inr (inl r)))) (group_at.traced ts e)
declaration_traced k.Define ts e = widened (λ w a r. inr (inr (inr (inr (inl r))))) (define_at.traced ts e)
declaration_traced k.Promise ts e = widened (λ w a r. inr (inr (inr (inr (inr r))))) (promise_at.traced ts e)
declaration_traced _ ts e = refused_at_once ts has_declaration (λ y s. refl)

declaration_chosen : IsChosen read.declaration_by IsDecl []
unfolding IsDecl IsNumbered
declaration_chosen =
    chosen (leads_begin k.Network (bind_leads k.Network (one_leads k.Network)) refl) network_decides.complete network_decides.goes
    else chosen (leads_begin k.Commit (bind_leads k.Commit (one_leads k.Commit)) refl) commit_decides.complete commit_decides.goes
    else chosen_at refl neighbour_at else chosen_at refl group_at else chosen_at refl define_at else chosen_at refl promise_at

pub declaration_decides : Decides read.declaration IsDecl []
unfolding read.declaration
declaration_decides = by_kind declaration_traced declaration_chosen

pub declaration_begins : Begins (λ kind. same_kind kind k.End ≡ false) IsDecl
unfolding IsDecl IsNumbered same_kind
declaration_begins =
    or_begins (leads_begin k.Network (bind_leads k.Network (one_leads k.Network)) refl) (or_begins (leads_begin k.Commit (bind_leads k.Commit (one_leads k.Commit)) refl)
    (or_begins (leads_begin k.Neighbour neighbour_at.leads refl) (or_begins (leads_begin k.Group group_at.leads refl)
    (or_begins (leads_begin k.Define define_at.leads refl) (leads_begin k.Promise promise_at.leads refl)))))
