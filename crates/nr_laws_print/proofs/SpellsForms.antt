-- The canonical text of each formula shows its words: by induction over it.
use Rattle.std.proofs.Common.{◌≡◌, ℕ, Bool, true, ◌&&◌, leb, List, [], ◌∷◌, ◌++◌, length, map, refl, sym, ap, subst, ◌∙◌, append_assoc}
use Rattle.std.specs.Prelude.{codes}
use Rattle.std.specs.List.{AllByRecursion, list_all}
use denote.Hole.Holds.{Such}
use Rattle.nr_spec_rules.specs.declared.kind.Kind.TheVariants as k
use Rattle.nr_rule_syntax.specs.declared.tree.Name.{Name}
use Rattle.nr_rule_syntax.specs.declared.tree.Side.{Side}
use Rattle.nr_rule_syntax.specs.declared.tree.Cmp.{Cmp}
use Rattle.nr_rule_syntax.specs.declared.tree.Term.{Term}
use Rattle.nr_rule_syntax.specs.declared.tree.Form.{Form}
use Rattle.nr_rule_syntax.specs.declared.tree.Form.TheBlock.{the_family, member-Form}
use Rattle.nr_rule_syntax.specs.declared.tree.Form.TheOpen.{Form-F}
use Rattle.nr_rule_syntax.specs.declared.tree.Form.TheViews.{roll-Form}
use Rattle.nr_rule_syntax.specs.declared.tree.Form.TheFolds.{fold-roll-Form, ind-Form, map-Form, claims}
use Rattle.nr_rule_syntax.specs.Printing.{spelled, Printed, printed_step, printed, within, members_text, pair_text, bound_text, route_text, has_text, crosses_text, term_text, compared_text, community_text}
use Rattle.nr_rule_syntax.specs.Printing as text
use Rattle.nr_rule_syntax.specs.Written.{is_name, is_term, is_short, written_step, is_written}
use Rattle.nr_laws_print.proofs.Words.{Shown, Words, Worded, word, worded_step, worded, words_within, term_words, joined, and_word, or_word, not_word, implies_word, in_word, open_brace, close_brace, equal, if_word, then_word, else_word, end_word, members_words, group_words, if_words, route_words}
use Rattle.nr_laws_print.proofs.Figures.{of_both}
use Rattle.nr_laws_print.proofs.Shows.{Shows, is_free, shows_keyword, shows_space, shows_open_brace, shows_close_brace, shows_equal}
use Rattle.nr_laws_print.proofs.Spells.{Spells, by_fronts, fronts, shows_name, spells_term, spells_compared, spells_route, shows_community, spells_within, Between, Part, IsPart, bytes_of, words_of, spells_joined}
use Rattle.nr_laws_print.proofs.Keywords as key

pub record Spelled (p : Printed) (w : Worded) : Type 0 where
  pub binds : p.binds ≡ w.binds
  pub spells : Spells p.text w.words

spelled_tight : {bytes : List ℕ} {w : Words} → Spells bytes w → Spelled (record { binds = 3; text = bytes }) (record { binds = 3; words = w })
spelled_tight s = record { binds = refl; spells = s }

-- ---- by layers

abbrev Layer : Form-F Form → Type 0
Layer x = written_step (map-Form Form Bool is_written x) ≡ true → Spelled (printed_step (map-Form Form Printed printed x)) (worded_step (map-Form Form Worded worded x))

abbrev Holds : Form → Type 0
Holds form = is_written form ≡ true → Spelled (printed form) (worded form)

abbrev Held : Type 0
Held = (form : Form) × Holds form

layer_true : Layer Form-F.True
layer_true h = record { binds = refl; spells = record { spells = λ rest ws free s. shows_keyword key.true_keyword free s } }

layer_false : Layer Form-F.False
layer_false h = record { binds = refl; spells = record { spells = λ rest ws free s. shows_keyword key.false_keyword free s } }

layer_not : (held : Held) → Layer (Form-F.Not held.0)
layer_not held h =
    let s = held.1 h in
    spelled_tight (by_fronts (codes "not " ∷ within 3 (printed held.0) ∷ []) (λ more. not_word ∷ words_within 3 (worded held.0) more) (λ rest ws free t.
    shows_keyword key.not_keyword refl (shows_space ((spells_within 3 (printed held.0) (worded held.0) s.binds s.spells).spells rest ws free t))))

layer_implies : (left right : Held) → Layer (Form-F.Implies left.0 right.0)
layer_implies left right h =
    let both = of_both (is_written left.0) (is_written right.0) h in
    let l = left.1 both.0 in
    let r = right.1 both.1 in
    record {
      binds = refl;
      spells = by_fronts (within 1 (printed left.0) ∷ codes " implies " ∷ (printed right.0).text ∷ []) (λ more. words_within 1 (worded left.0) (implies_word ∷ (worded right.0).words more)) (λ rest ws free t.
          (spells_within 1 (printed left.0) (worded left.0) l.binds l.spells).spells (codes " implies " ++ ((printed right.0).text ++ rest)) (implies_word ∷ (worded right.0).words ws) refl
          (shows_space (shows_keyword key.implies_keyword refl (shows_space (r.spells.spells rest ws free t)))));
    }

-- two names with a word between
shows_pair : (left right : Name) (between : List ℕ) (w : Shown) {rest : List ℕ} {ws : List Shown} → is_name left ≡ true → is_name right ≡ true → Between between w → is_free rest ≡ true → Shows rest ws
    → Shows (fronts (left.word ∷ between ∷ right.word ∷ []) rest) (word k.Name left.word ∷ w ∷ word k.Name right.word ∷ ws)
shows_pair left right between w {rest} {ws} l r b free s =
    shows_name left l (b.free (right.word ++ rest)) (b.shows (right.word ++ rest) (word k.Name right.word ∷ ws) (shows_name right r free s))

spells_pair : (left right : Name) (between : List ℕ) (w : Shown) → is_name left ≡ true → is_name right ≡ true → Between between w
    → Spells (pair_text left between right) (λ more. word k.Name left.word ∷ w ∷ word k.Name right.word ∷ more)
spells_pair left right between w l r b = by_fronts (left.word ∷ between ∷ right.word ∷ []) _ (λ rest ws free s. shows_pair left right between w l r b free s)

between_in : Between (codes " in ") in_word
between_in = record { free = λ rest. refl; shows = λ rest ws s. shows_space (shows_keyword key.in_keyword refl (shows_space s)) }

between_is : Between (codes " is ") (word k.Is (codes "is"))
between_is = record { free = λ rest. refl; shows = λ rest ws s. shows_space (shows_keyword key.is_keyword refl (shows_space s)) }

between_and : Between (codes " and ") and_word
between_and = record { free = λ rest. refl; shows = λ rest ws s. shows_space (shows_keyword key.and_keyword refl (shows_space s)) }

between_or : Between (codes " or ") or_word
between_or = record { free = λ rest. refl; shows = λ rest ws s. shows_space (shows_keyword key.or_keyword refl (shows_space s)) }

-- ` { `, what is held, and ` }`
shows_braced : (held : List ℕ) (words : Words) {rest : List ℕ} {ws : List Shown} → Spells held words → Shows rest ws
    → Shows (codes " { " ++ (held ++ (codes " }" ++ rest))) (open_brace ∷ words (close_brace ∷ ws))
shows_braced held words {rest} {ws} h s = shows_space (shows_open_brace (shows_space (h.spells (codes " }" ++ rest) (close_brace ∷ ws) refl (shows_space (shows_close_brace s)))))

layer_all : (var group : Name) (held : Held) → Layer (Form-F.All var group held.0)
layer_all var group held h =
    let both = of_both (is_name var && is_name group) (is_written held.0) h in
    let names = of_both (is_name var) (is_name group) both.0 in
    let s = held.1 both.1 in
    spelled_tight (by_fronts (codes "all " ∷ pair_text var (codes " in ") group ∷ codes " { " ∷ (printed held.0).text ∷ codes " }" ∷ []) (group_words (word k.All (codes "all")) var group (worded held.0).words) (λ rest ws free t.
    shows_keyword key.all_keyword refl (shows_space ((spells_pair var group (codes " in ") in_word names.0 names.1 between_in).spells (codes " { " ++ ((printed held.0).text ++ (codes " }" ++ rest))) (open_brace ∷ (worded held.0).words (close_brace ∷ ws)) refl
    (shows_braced (printed held.0).text (worded held.0).words s.spells t)))))

layer_some : (var group : Name) (held : Held) → Layer (Form-F.Some var group held.0)
layer_some var group held h =
    let both = of_both (is_name var && is_name group) (is_written held.0) h in
    let names = of_both (is_name var) (is_name group) both.0 in
    let s = held.1 both.1 in
    spelled_tight (by_fronts (codes "some " ∷ pair_text var (codes " in ") group ∷ codes " { " ∷ (printed held.0).text ∷ codes " }" ∷ []) (group_words (word k.Some (codes "some")) var group (worded held.0).words) (λ rest ws free t.
    shows_keyword key.some_keyword refl (shows_space ((spells_pair var group (codes " in ") in_word names.0 names.1 between_in).spells (codes " { " ++ ((printed held.0).text ++ (codes " }" ++ rest))) (open_brace ∷ (worded held.0).words (close_brace ∷ ws)) refl
    (shows_braced (printed held.0).text (worded held.0).words s.spells t)))))

bound_words : Name → Side → Name → Words
bound_words var side of more = if_word ∷ word k.Name var.word ∷ equal ∷ route_words side of (then_word ∷ more)

shows_bound : (var : Name) (side : Side) (of : Name) {rest : List ℕ} {ws : List Shown} → is_name var ≡ true → is_name of ≡ true → Shows rest ws → Shows (bound_text var side of ++ rest) (bound_words var side of ws)
unfolding bound_words
shows_bound var side of {rest} {ws} v o s =
    subst (λ (t : List ℕ). Shows t (bound_words var side of ws)) (sym (parted (codes "if ") var.word (codes " = ") (route_text side of) (codes " then ") rest))
    (shows_keyword key.if_keyword refl (shows_space (shows_name var v refl (shows_space (shows_equal (shows_space ((spells_route side of o).spells (codes " then " ++ rest) (then_word ∷ ws) refl
    (shows_space (shows_keyword key.then_keyword refl (shows_space s))))))))))
  where
    parted : (a b c d e rest : List ℕ) → spelled (a ∷ b ∷ c ∷ d ∷ e ∷ []) ++ rest ≡ a ++ (b ++ (c ++ (d ++ (e ++ rest))))
    parted a b c d e rest = simp (append_assoc)

layer_if : (var : Name) (side : Side) (of : Name) (then_ else_ : Held) → Layer (Form-F.If var side of then_.0 else_.0)
unfolding bound_words
layer_if var side of then_ else_ h =
    let last = of_both (is_name var && is_name of && is_written then_.0) (is_written else_.0) h in
    let more = of_both (is_name var && is_name of) (is_written then_.0) last.0 in
    let names = of_both (is_name var) (is_name of) more.0 in
    let y = then_.1 more.1 in
    let z = else_.1 last.1 in
    spelled_tight (by_fronts (bound_text var side of ∷ (printed then_.0).text ∷ codes " else " ∷ (printed else_.0).text ∷ codes " end" ∷ []) (if_words var side of (worded then_.0).words (worded else_.0).words) (λ rest ws free t.
    shows_bound var side of names.0 names.1 (y.spells.spells (codes " else " ++ ((printed else_.0).text ++ (codes " end" ++ rest))) (else_word ∷ (worded else_.0).words (end_word ∷ ws)) refl
    (shows_space (shows_keyword key.else_keyword refl (shows_space (z.spells.spells (codes " end" ++ rest) (end_word ∷ ws) refl (shows_space (shows_keyword key.end_keyword free t)))))))))

-- one piece
spells_one : (piece : List ℕ) (w : Words) → Spells piece w → Spells (spelled (piece ∷ [])) w
spells_one piece w s = by_fronts (piece ∷ []) w s.spells

layer_stands : (side : Side) (of : Name) → Layer (Form-F.Stands side of)
layer_stands side of h = spelled_tight (spells_one (route_text side of) (route_words side of) (spells_route side of h))

layer_has : (var : Name) (community : ℕ) → Layer (Form-F.Has var community)
layer_has var community h =
    let both = of_both (is_name var) (is_short community) h in
    spelled_tight (spells_one (has_text var community) _ (by_fronts (var.word ∷ codes " has " ∷ community_text community ∷ []) (λ more. word k.Name var.word ∷ word k.Has (codes "has") ∷ word k.Community (community_text community) ∷ more) (λ rest ws free s.
    shows_name var both.0 refl (shows_space (shows_keyword key.has_keyword refl (shows_space (shows_community community both.1 free s)))))))

layer_crosses : (var : Name) (term : Term) → Layer (Form-F.Crosses var term)
layer_crosses var term h =
    let both = of_both (is_name var) (is_term term) h in
    spelled_tight (spells_one (crosses_text var term) _ (by_fronts (var.word ∷ codes " crosses " ∷ term_text term ∷ []) (λ more. word k.Name var.word ∷ word k.Crosses (codes "crosses") ∷ term_words term more) (λ rest ws free s.
    shows_name var both.0 refl (shows_space (shows_keyword key.crosses_keyword refl (shows_space ((spells_term term both.1).spells rest ws free s)))))))

layer_is : (left right : Name) → Layer (Form-F.Is left right)
layer_is left right h =
    let both = of_both (is_name left) (is_name right) h in
    spelled_tight (spells_one (pair_text left (codes " is ") right) _ (spells_pair left right (codes " is ") (word k.Is (codes "is")) both.0 both.1 between_is))

layer_prefix_in : (set : Name) → Layer (Form-F.PrefixIn set)
layer_prefix_in set h =
    spelled_tight (by_fronts (codes "prefix in " ∷ set.word ∷ []) (λ more. word k.PrefixWord (codes "prefix") ∷ in_word ∷ word k.Name set.word ∷ more) (λ rest ws free s.
    shows_keyword key.prefix_keyword refl (shows_space (shows_keyword key.in_keyword refl (shows_space (shows_name set h free s))))))

layer_compare : (left : Term) (op : Cmp) (right : Term) → Layer (Form-F.Compare left op right)
layer_compare left op right h =
    let both = of_both (is_term left) (is_term right) h in
    spelled_tight (spells_one (compared_text left op right) _ (spells_compared left right op both.0 both.1))

-- ---- chains

abbrev part : ℕ → Held → Part
part least held = record { bytes = within least (printed held.0); words = words_within least (worded held.0) }

same_bytes : (least : ℕ) (xs : List Held) → bytes_of (map (part least) xs) ≡ map (within least) (map printed (map (λ e. e.0) xs))
same_bytes least [] = refl
same_bytes least (x ∷ xs) = ap (λ (ts : List (List ℕ)). within least (printed x.0) ∷ ts) (same_bytes least xs)

same_words : (least : ℕ) (xs : List Held) → words_of (map (part least) xs) ≡ map (words_within least) (map worded (map (λ e. e.0) xs))
same_words least [] = refl
same_words least (x ∷ xs) = ap (λ (ws : List Words). words_within least (worded x.0) ∷ ws) (same_words least xs)

parts_spell : (least : ℕ) (xs : List Held) → list_all (λ (m : Bool). m) (map is_written (map (λ e. e.0) xs)) ≡ true → AllByRecursion IsPart (map (part least) xs)
parts_spell least [] h = tt
parts_spell least (x ∷ xs) h =
    let both = of_both (is_written x.0) (list_all (λ (m : Bool). m) (map is_written (map (λ e. e.0) xs))) h in
    let s = x.1 both.0 in
    (spells_within least (printed x.0) (worded x.0) s.binds s.spells, parts_spell least xs both.1)

spells_members : (bytes : List ℕ) (w : Shown) → Between bytes w → (least : ℕ) (xs : List Held) → list_all (λ (m : Bool). m) (map is_written (map (λ e. e.0) xs)) ≡ true
    → Spells (members_text bytes least (map printed (map (λ e. e.0) xs))) (members_words w least (map worded (map (λ e. e.0) xs)))
spells_members bytes w b least xs h =
    subst (λ (ts : List (List ℕ)). Spells (text.joined bytes ts) (members_words w least (map worded (map (λ (e : Held). e.0) xs)))) (same_bytes least xs)
    (subst (λ (ws : List Words). Spells (text.joined bytes (bytes_of (map (part least) xs))) (joined w ws)) (same_words least xs)
    (spells_joined bytes w b (map (part least) xs) (parts_spell least xs h)))

layer_and : (xs : List Held) → Layer (Form-F.And (map (λ e. e.0) xs))
layer_and xs h =
    let both = of_both (leb 2 (length (map is_written (map (λ (e : Held). e.0) xs)))) (list_all (λ (m : Bool). m) (map is_written (map (λ (e : Held). e.0) xs))) h in
    record { binds = refl; spells = spells_members (codes " and ") and_word between_and 3 xs both.1 }

layer_or : (xs : List Held) → Layer (Form-F.Or (map (λ e. e.0) xs))
layer_or xs h =
    let both = of_both (leb 2 (length (map is_written (map (λ (e : Held). e.0) xs)))) (list_all (λ (m : Bool). m) (map is_written (map (λ (e : Held). e.0) xs))) h in
    record { binds = refl; spells = spells_members (codes " or ") or_word between_or 2 xs both.1 }

layer_of : (y : Form-F (Such the_family (claims Holds) member-Form)) → Layer (map-Form _ Form (λ e. e.0) y)
layer_of Form-F.True = layer_true
layer_of Form-F.False = layer_false
layer_of (Form-F.Not held) = layer_not held
layer_of (Form-F.And members) = layer_and members
layer_of (Form-F.Or members) = layer_or members
layer_of (Form-F.Implies left right) = layer_implies left right
layer_of (Form-F.All var group held) = layer_all var group held
layer_of (Form-F.Some var group held) = layer_some var group held
layer_of (Form-F.If var side of then_ else_) = layer_if var side of then_ else_
layer_of (Form-F.Stands side of) = layer_stands side of
layer_of (Form-F.Has var community) = layer_has var community
layer_of (Form-F.Crosses var term) = layer_crosses var term
layer_of (Form-F.Is left right) = layer_is left right
layer_of (Form-F.PrefixIn set) = layer_prefix_in set
layer_of (Form-F.Compare left op right) = layer_compare left op right

from_layer : (x : Form-F Form) → Layer x → Holds (roll-Form x)
from_layer x layer w =
    let s = layer (sym (fold-roll-Form Bool written_step x) ∙ w) in
    subst (λ (p : Printed). Spelled p (worded (roll-Form x))) (sym (fold-roll-Form Printed printed_step x))
    (subst (λ (v : Worded). Spelled (printed_step (map-Form Form Printed printed x)) v) (sym (fold-roll-Form Worded worded_step x)) s)

-- the text of a formula shows its words
pub form_spelled : (form : Form) → Holds form
form_spelled = ind-Form Holds (λ x y is. subst (λ (z : Form-F Form). Holds (roll-Form z)) is (from_layer _ (layer_of y)))
