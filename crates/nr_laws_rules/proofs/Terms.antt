-- Tokens with a value, terms and what is said of them.
use Rattle.std.proofs.Common.{◌≡◌, ℕ, List, [], ◌∷◌, Some, refl, inl, inr}
use Rattle.std.specs.Prelude.{replicate}
use Rattle.hex.specs.Hex.{decode_pairs}
use Rattle.nr_spec_rules.specs.declared.kind.Kind.{Kind}
use Rattle.nr_spec_rules.specs.declared.kind.Kind.TheVariants as k
use Rattle.nr_spec_rules.specs.Figures.{number_of, number_to, address_of, prefix_of, community_of, digest_of, cut}
use Rattle.nr_spec_rules.specs.Tokens.{Token, same_kind, kind_of}
use Rattle.nr_rule_syntax.specs.declared.tree.Name.{Name}
use Rattle.nr_rule_syntax.specs.declared.tree.Form.TheVariants as forms
use Rattle.nr_rule_syntax.specs.declared.tree.Term.TheVariants as terms
use Rattle.nr_rule_syntax.specs.declared.tree.Cmp.TheVariants as cmps
use Rattle.nr_rule_syntax.specs.declared.tree.Side.TheVariants as sides
use Rattle.nr_rule_syntax.specs.Reading as read
use Rattle.nr_laws_rules.specs.Grammar.{IsName, IsNumber, IsAddress, IsCommunity, IsPrefix, IsRoot, IsArgument, IsTerm, IsCmp, IsCompared, IsRoute, IsAbout, IsInSet}
use Rattle.nr_laws_rules.proofs.Steps.{Traced, Decides, HasWord, IsChosen, Begins, word_of, word_behind, widened, widened_word, refused_at_once, next, mapped, pure_decides, pure_traced, expect_decides, valued_decides, one_leads, bind_leads, leads_begin, or_begins, chosen, chosen_passed, ◌else◌, by_kind, passed_traced}

-- ---- tokens with a value

pub name_decides : Decides read.name IsName []
unfolding read.name IsName same_kind
name_decides = mapped (λ x. record { word = x.0; span = x.1 }) (valued_decides k.Name (λ text. Some text) refl refl (record { is = 97 ∷ []; fine = refl }))

pub number_decides : Decides read.number IsNumber []
unfolding read.number IsNumber same_kind number_of number_to
number_decides = mapped (λ x. record { value = x.0; span = x.1 }) (valued_decides k.Number number_of refl refl (record { is = 0; fine = refl }))

pub address_decides : Decides read.address IsAddress []
unfolding read.address IsAddress same_kind address_of number_to cut
address_decides = mapped (λ x. record { value = x.0; span = x.1 })
    (valued_decides k.Address address_of refl refl (record { is = 0; fine = refl }))

pub community_decides : Decides read.community IsCommunity []
unfolding read.community IsCommunity same_kind community_of number_to cut
community_decides = mapped (λ x. x.0) (valued_decides k.Community community_of refl refl (record { is = 0; fine = refl }))

pub prefix_decides : Decides read.prefix IsPrefix []
unfolding read.prefix IsPrefix same_kind prefix_of address_of number_to cut
prefix_decides = mapped _ (valued_decides k.Prefix prefix_of refl refl (record { is = (0, 0); fine = refl }))

pub root_decides : Decides read.root IsRoot []
unfolding read.root IsRoot same_kind decode_pairs
root_decides = mapped _ (valued_decides k.Root digest_of refl refl (record { is = replicate 32 0; fine = refl }))

pub argument_decides : Decides read.argument IsArgument []
unfolding read.argument IsArgument same_kind
argument_decides = next (expect_decides k.OpenParen refl refl) (λ opened. next name_decides (λ of. next (expect_decides k.CloseParen refl refl) (λ close. pure_decides)))

-- ---- terms

has_term : HasWord IsTerm
unfolding IsTerm
has_term = widened_word (λ w a r. inl r) (word_of ((mapped terms.Number number_decides).traced []))

term_traced : (kind : Kind) (ts : List Token) → kind_of ts ≡ kind → Traced (read.term_by kind) IsTerm ts
unfolding IsTerm same_kind
term_traced k.Number ts e = widened (λ w a r. inl r) ((mapped terms.Number number_decides).traced ts)
term_traced k.Address ts e = widened (λ w a r. inr (inl r)) ((mapped terms.Number address_decides).traced ts)
term_traced k.Bits ts e = widened (λ w a r. inr (inr (inl r))) (passed_traced k.Bits refl ts e pure_traced)
term_traced k.Length ts e = widened (λ w a r. inr (inr (inr (inl r)))) (passed_traced k.Length refl ts e (mapped terms.Length argument_decides).traced)
term_traced k.Med ts e = widened (λ w a r. inr (inr (inr (inr (inl r))))) (passed_traced k.Med refl ts e (mapped terms.Med argument_decides).traced)
term_traced k.Pref ts e = widened (λ w a r. inr (inr (inr (inr (inr (inl r)))))) (passed_traced k.Pref refl ts e (mapped terms.Pref argument_decides).traced)
term_traced k.Origin ts e = widened (λ w a r. inr (inr (inr (inr (inr (inr (inl r))))))) (passed_traced k.Origin refl ts e (mapped terms.Origin argument_decides).traced)
term_traced k.First ts e = widened (λ w a r. inr (inr (inr (inr (inr (inr (inr (inl r)))))))) (passed_traced k.First refl ts e (mapped terms.First argument_decides).traced)
term_traced k.Last ts e = widened (λ w a r. inr (inr (inr (inr (inr (inr (inr (inr (inl r))))))))) (passed_traced k.Last refl ts e (mapped terms.Last argument_decides).traced)
term_traced k.Hop ts e = widened (λ w a r. inr (inr (inr (inr (inr (inr (inr (inr (inr (inl r)))))))))) (passed_traced k.Hop refl ts e (mapped terms.Hop argument_decides).traced)
term_traced k.Asn ts e = widened (λ w a r. inr (inr (inr (inr (inr (inr (inr (inr (inr (inr r)))))))))) (passed_traced k.Asn refl ts e (mapped terms.Asn argument_decides).traced)
term_traced _ ts e = refused_at_once ts has_term (λ y s. refl)

term_chosen : IsChosen read.term_by IsTerm []
unfolding IsTerm IsNumber IsAddress
term_chosen =
    let numbers = mapped terms.Number number_decides in
    let addresses = mapped terms.Number address_decides in
    chosen (leads_begin k.Number (bind_leads k.Number (one_leads k.Number)) refl) numbers.complete numbers.goes
    else chosen (leads_begin k.Address (bind_leads k.Address (one_leads k.Address)) refl) addresses.complete addresses.goes
    else chosen_passed k.Bits refl refl pure_decides
    else chosen_passed k.Length refl refl (mapped terms.Length argument_decides)
    else chosen_passed k.Med refl refl (mapped terms.Med argument_decides)
    else chosen_passed k.Pref refl refl (mapped terms.Pref argument_decides)
    else chosen_passed k.Origin refl refl (mapped terms.Origin argument_decides)
    else chosen_passed k.First refl refl (mapped terms.First argument_decides)
    else chosen_passed k.Last refl refl (mapped terms.Last argument_decides)
    else chosen_passed k.Hop refl refl (mapped terms.Hop argument_decides)
    else chosen_passed k.Asn refl refl (mapped terms.Asn argument_decides)

pub term_decides : Decides read.term IsTerm []
unfolding read.term
term_decides = by_kind term_traced term_chosen

-- what holds of each kind with which a term begins
pub term_begins : {Is : Kind → Type 0} → Is k.Number → Is k.Address → Is k.Bits → Is k.Length → Is k.Med → Is k.Pref → Is k.Origin → Is k.First → Is k.Last → Is k.Hop → Is k.Asn → Begins Is IsTerm
unfolding IsTerm IsNumber IsAddress
term_begins number address bits length med pref origin first last hop asn =
    or_begins (leads_begin k.Number (bind_leads k.Number (one_leads k.Number)) number)
    (or_begins (leads_begin k.Address (bind_leads k.Address (one_leads k.Address)) address)
    (or_begins (leads_begin k.Bits (one_leads k.Bits) bits)
    (or_begins (leads_begin k.Length (one_leads k.Length) length)
    (or_begins (leads_begin k.Med (one_leads k.Med) med)
    (or_begins (leads_begin k.Pref (one_leads k.Pref) pref)
    (or_begins (leads_begin k.Origin (one_leads k.Origin) origin)
    (or_begins (leads_begin k.First (one_leads k.First) first)
    (or_begins (leads_begin k.Last (one_leads k.Last) last)
    (or_begins (leads_begin k.Hop (one_leads k.Hop) hop)
    (leads_begin k.Asn (one_leads k.Asn) asn))))))))))

-- ---- comparisons

has_comparison : HasWord IsCmp
unfolding IsCmp same_kind
has_comparison = widened_word (λ w a r. inl r) (word_behind k.Equal (word_of (pure_traced {a = cmps.Eq} [])))

comparison_traced : (kind : Kind) (ts : List Token) → kind_of ts ≡ kind → Traced (read.comparison_by kind) IsCmp ts
unfolding IsCmp same_kind
comparison_traced k.Equal ts e = widened (λ w a r. inl r) (passed_traced k.Equal refl ts e pure_traced)
comparison_traced k.Unequal ts e = widened (λ w a r. inr (inl r)) (passed_traced k.Unequal refl ts e pure_traced)
comparison_traced k.Less ts e = widened (λ w a r. inr (inr (inl r))) (passed_traced k.Less refl ts e pure_traced)
comparison_traced k.LessOrEqual ts e = widened (λ w a r. inr (inr (inr (inl r)))) (passed_traced k.LessOrEqual refl ts e pure_traced)
comparison_traced k.Greater ts e = widened (λ w a r. inr (inr (inr (inr (inl r))))) (passed_traced k.Greater refl ts e pure_traced)
comparison_traced k.GreaterOrEqual ts e = widened (λ w a r. inr (inr (inr (inr (inr r))))) (passed_traced k.GreaterOrEqual refl ts e pure_traced)
comparison_traced _ ts e = refused_at_once ts has_comparison (λ y s. refl)

comparison_chosen : IsChosen read.comparison_by IsCmp []
unfolding IsCmp
comparison_chosen =
    chosen_passed k.Equal refl refl pure_decides
    else chosen_passed k.Unequal refl refl pure_decides
    else chosen_passed k.Less refl refl pure_decides
    else chosen_passed k.LessOrEqual refl refl pure_decides
    else chosen_passed k.Greater refl refl pure_decides
    else chosen_passed k.GreaterOrEqual refl refl pure_decides

pub comparison_decides : Decides read.comparison IsCmp []
unfolding read.comparison
comparison_decides = by_kind comparison_traced comparison_chosen

pub compared_decides : Decides read.compared IsCompared []
unfolding read.compared IsCompared
compared_decides = next term_decides (λ left. next comparison_decides (λ op. next term_decides (λ right. pure_decides)))

-- ---- routes, and what is said of a name

has_route : HasWord IsRoute
unfolding IsRoute same_kind
has_route = widened_word (λ w a r. inl r) (word_behind k.Sent (word_of ((mapped (λ (of : Name). (sides.Sent, of)) argument_decides).traced [])))

route_traced : (kind : Kind) (ts : List Token) → kind_of ts ≡ kind → Traced (read.route_by kind) IsRoute ts
unfolding IsRoute same_kind
route_traced k.Sent ts e = widened (λ w a r. inl r) (passed_traced k.Sent refl ts e (mapped _ argument_decides).traced)
route_traced k.Received ts e = widened (λ w a r. inr r) (passed_traced k.Received refl ts e (mapped _ argument_decides).traced)
route_traced _ ts e = refused_at_once ts has_route (λ y s. refl)

route_chosen : IsChosen read.route_by IsRoute []
unfolding IsRoute
route_chosen = chosen_passed k.Sent refl refl (mapped _ argument_decides) else chosen_passed k.Received refl refl (mapped _ argument_decides)

pub route_decides : Decides read.route IsRoute []
unfolding read.route
route_decides = by_kind route_traced route_chosen

pub route_begins : {Is : Kind → Type 0} → Is k.Sent → Is k.Received → Begins Is IsRoute
unfolding IsRoute
route_begins sent received = or_begins (leads_begin k.Sent (one_leads k.Sent) sent) (leads_begin k.Received (one_leads k.Received) received)

has_about : (var : Name) → HasWord (IsAbout var)
unfolding IsAbout same_kind
has_about var = widened_word (λ w a r. inl r) (word_behind k.Has (word_of ((mapped (λ (c : ℕ). forms.Has var c) community_decides).traced [])))

about_traced : (var : Name) (kind : Kind) (ts : List Token) → kind_of ts ≡ kind → Traced (read.about_by var kind) (IsAbout var) ts
unfolding IsAbout same_kind
about_traced var k.Has ts e = widened (λ w a r. inl r) (passed_traced k.Has refl ts e (mapped _ community_decides).traced)
about_traced var k.Crosses ts e = widened (λ w a r. inr (inl r)) (passed_traced k.Crosses refl ts e (mapped _ term_decides).traced)
about_traced var k.Is ts e = widened (λ w a r. inr (inr r)) (passed_traced k.Is refl ts e (mapped _ name_decides).traced)
about_traced var _ ts e = refused_at_once ts (has_about var) (λ y s. refl)

about_chosen : (var : Name) → IsChosen (read.about_by var) (IsAbout var) []
unfolding IsAbout
about_chosen var =
    chosen_passed k.Has refl refl (mapped _ community_decides) else chosen_passed k.Crosses refl refl (mapped _ term_decides)
    else chosen_passed k.Is refl refl (mapped _ name_decides)

pub about_decides : (var : Name) → Decides (read.about var) (IsAbout var) []
unfolding read.about
about_decides var = by_kind (about_traced var) (about_chosen var)

pub in_set_decides : Decides read.in_set IsInSet []
unfolding read.in_set IsInSet same_kind
in_set_decides = next (expect_decides k.PrefixWord refl refl) (λ word. next (expect_decides k.In refl refl) (λ among. next name_decides (λ set. pure_decides)))
