-- In links that are numbered one after another, an authenticator's entry is the one in the place of its number.
use Rattle.std.proofs.Common.{◌≡◌, ◌==◌, ℕ, ◌+◌, ◌<◌, Bool, true, false, cond, not, ◌&&◌, ◌||◌, List, [], ◌∷◌, append-nil, Option, Some, None, refl, ap, sym, ◌∙◌, subst, arith}
use Rattle.std.specs.Prelude.{filter}
use Rattle.std.specs.List.{list_any}
use Rattle.std.specs.BTreeMap.{is_at}
use Rattle.std.specs.Ordering.{nat_cmp}
use Rattle.std.proofs.lemmas.Bool.{ne_eqb, eqb-true}
use Rattle.std.proofs.lemmas.Bool.Decides.{nat_tests}
use Rattle.nr_spec_log.specs.Authenticator.{Authenticator}
use Rattle.nr_spec_log.specs.Chain.{Chain, Link, LogEntry, chained, shown, links_of}
use Rattle.nr_spec_routes.specs.LookBack.{last_of, later_or}
use Rattle.nr_spec_routes.proofs.Words.{later_or-none}
use Rattle.nr_spec_history.specs.Conflicts.{Period, is_conflict, is_presented, is_stated}
use Rattle.nr_audit.specs.declared.slots.Link as declared
use Rattle.nr_audit.specs.declared.links.Links as declared_links
use Rattle.nr_audit.specs.Links.{Links}
use Rattle.nr_audit.specs.Slots.{AreNoted, accuses, is_named, numbered, place_after, slot_of, stated_in, view_of}

-- numbered one after another from this number on
abbrev pub IsNumbered : ℕ → List Link → Type 0
IsNumbered n [] = Unit {0}
IsNumbered n (link ∷ links) = (link.seq ≡ n) × IsNumbered (n + 1) links

pub numbered_links : (chain : Chain) (entries : List LogEntry) → IsNumbered chain.seq (links_of chain entries)
numbered_links chain [] = tt
numbered_links chain (e ∷ es) = (refl, numbered_links (chained chain (shown e)) es)

same_test : (m n : ℕ) → is_at (nat_cmp m) n ≡ (m == n)
same_test m n = grind (arith, nat_tests)

own_test : (n : ℕ) → is_at (nat_cmp n) n ≡ true
own_test n = grind (arith, nat_tests)

or_false : (b : Bool) → (b || false) ≡ b
or_false true = refl
or_false false = refl

or_true : (b : Bool) → (b || true) ≡ true
or_true true = refl
or_true false = refl

-- a link with another number isn't the one that is stated
other_number : (a : Authenticator) (link : Link) → (link.seq == a.seq) ≡ false → is_stated a link ≡ false
other_number a link other = rw other refl

later_not : (k n : ℕ) (links : List Link) → IsNumbered n links → k < n → last_of (numbered k) links ≡ None
later_not k n [] are below = refl
later_not k n (link ∷ links) are below =
    let other : is_at (nat_cmp link.seq) k ≡ false = same_test link.seq k ∙ ne_eqb link.seq k (λ is. omega (arith, are.0)) in
    ap (λ x. later_or x (numbered k link)) (later_not k (n + 1) links are.1 (omega arith)) ∙ ap (λ b. cond b (Some link) None) other

stated_not : (a : Authenticator) (n : ℕ) (links : List Link) → IsNumbered n links → a.seq < n → list_any (is_stated a) links ≡ false
stated_not a n [] are below = refl
stated_not a n (link ∷ links) are below =
    let other = other_number a link (ne_eqb link.seq a.seq (λ is. omega (arith, are.0))) in
    ap (λ b. b || list_any (is_stated a) links) other ∙ stated_not a (n + 1) links are.1 (omega arith)

abbrev stated_by : Authenticator → Option Link → Bool
stated_by a None = false
stated_by a (Some link) = is_stated a link

pub only_one : (a : Authenticator) (n : ℕ) (links : List Link) → IsNumbered n links → stated_by a (last_of (numbered a.seq) links) ≡ list_any (is_stated a) links
only_one a n [] are = refl
only_one a n (link ∷ links) are = by (link.seq == a.seq) refl (only_one a (n + 1) links are.1)
  where
    by : (t : Bool) → (link.seq == a.seq) ≡ t → stated_by a (last_of (numbered a.seq) links) ≡ list_any (is_stated a) links
        → stated_by a (later_or (last_of (numbered a.seq) links) (cond (is_at (nat_cmp link.seq) a.seq) (Some link) None)) ≡ (is_stated a link || list_any (is_stated a) links)
    by true is ih =
        let same = eqb-true link.seq a.seq is in
        (λ i. stated_by a (later_or (later_not a.seq (n + 1) links are.1 (omega (arith, are.0, same)) i) (cond ((same_test link.seq a.seq ∙ is) i) (Some link) None)))
        ∙ sym (ap (λ b. is_stated a link || b) (stated_not a (n + 1) links are.1 (omega (arith, are.0, same))) ∙ or_false (is_stated a link))
    by false is ih =
        ap (λ b. stated_by a (later_or (last_of (numbered a.seq) links) (cond b (Some link) None))) (same_test link.seq a.seq ∙ is)
        ∙ (ap (stated_by a) (later_or-none (last_of (numbered a.seq) links)) ∙ (ih ∙ ap (λ b. b || list_any (is_stated a) links) (sym (other_number a link is))))

abbrev stated_view : Authenticator → Option (Option Link) → Bool
stated_view a None = false
stated_view a (Some found) = stated_by a found

seen_through : (a : Authenticator) (place : Option (Option declared.Link)) → stated_in a place ≡ stated_view a (view_of place)
seen_through a None = refl
seen_through a (Some None) = refl
seen_through a (Some (Some link)) = refl

-- what the place of a named number tells
in_place : (a : Authenticator) (auths : List Authenticator) (n : ℕ) (links : List Link) (entries : List (ℕ × Option declared.Link)) → IsNumbered n links → AreNoted auths links entries → is_named a.seq auths ≡ true
    → stated_in a (slot_of entries a.seq) ≡ list_any (is_stated a) links
in_place a auths n links entries are noted is =
    seen_through a (slot_of entries a.seq)
    ∙ (ap (stated_view a) (noted a.seq ∙ ap (λ b. place_after b a.seq links) is) ∙ only_one a n links are)

same_filter : (f g : Authenticator → Bool) (auths : List Authenticator) → ((a : Authenticator) → is_named a.seq auths ≡ true → f a ≡ g a) → filter f auths ≡ filter g auths
same_filter f g [] same = refl
same_filter f g (a ∷ auths) same =
    let here : f a ≡ g a = same a (ap (λ b. b || is_named a.seq auths) (own_test a.seq)) in
    let there = same_filter f g auths (λ b is. same b (ap (λ t. is_at (nat_cmp a.seq) b.seq || t) is ∙ or_true (is_at (nat_cmp a.seq) b.seq))) in
    λ i. cond (here i) (a ∷ there i) (there i)

-- the authenticators that accuse are the conflicts
pub accusing : (root : List ℕ) (asn : ℕ) (period : Period) (auths : List Authenticator) (chain : Chain) (entries : List LogEntry) (value : List ℕ) (l : declared_links.Links)
    → Links auths (links_of chain entries) value [] l
    → filter (accuses root asn period l.slots.links.entries) auths ≡ filter (is_conflict root asn period (links_of chain entries)) auths
accusing root asn period auths chain entries value l walked =
    let all = sym (append-nil walked.so_far) ∙ walked.joined in
    let noted : AreNoted auths (links_of chain entries) l.slots.links.entries = subst (λ (links : List Link). AreNoted auths links l.slots.links.entries) all walked.noted in
    same_filter (accuses root asn period l.slots.links.entries) (is_conflict root asn period (links_of chain entries)) auths
    (λ a is. ap (λ b. is_presented root asn period a && not b) (in_place a auths chain.seq (links_of chain entries) l.slots.links.entries (numbered_links chain entries) noted is))

pub last_value : (auths : List Authenticator) (all : List Link) (value : List ℕ) (l : declared_links.Links) → Links auths all value [] l → l.walk.value ≡ value
last_value auths all value l walked = walked.last
