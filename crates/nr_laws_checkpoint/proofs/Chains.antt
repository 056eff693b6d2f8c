-- The chain over entries goes on from the chain over the first of them, and who states an entry of a period states none
-- before it.
use Rattle.std.proofs.Common.{◌≡◌, ℕ, ◌+◌, ◌≤◌, Bool, true, false, ◌&&◌, not, leb, eqb, List, [], ◌∷◌, ◌++◌, length, filter, refl, sym, ap, ◌∙◌, arith}
use Rattle.std.specs.Prelude.{◌||◌}
use Rattle.std.specs.List.{list_any}
use Rattle.std.specs.Str.{bytes_eq}
use Rattle.std.proofs.lemmas.Bool.{leb-true, ne_eqb}
use Rattle.std.proofs.lemmas.List.Folds.{list_any-append}
use Rattle.nr_spec_log.specs.Chain.{Chain, Link, LogEntry, chained, link_value, links_of, shown, value_after}
use Rattle.nr_spec_log.specs.Authenticator.{Authenticator}
use Rattle.nr_spec_history.specs.Conflicts.{Period, is_about, is_conflict, is_presented, is_signed, is_stated}
use Rattle.nr_spec_slices.specs.Slices.{AreBefore}

-- how far a chain comes over entries
abbrev pub chain_then : Chain → List LogEntry → Chain
chain_then chain es = record { value = value_after chain es; seq = chain.seq + length es }

chain_more : (chain : Chain) (e : LogEntry) (es : List LogEntry) → chain_then (chained chain (shown e)) es ≡ chain_then chain (e ∷ es)
chain_more chain e es =
    let n : chain.seq + 1 + length es ≡ chain.seq + length (e ∷ es) = omega arith in
    λ i. record { value = value_after (chained chain (shown e)) es; seq = n i }

chain_none : (chain : Chain) → chain_then chain [] ≡ chain
chain_none chain = let n : chain.seq + 0 ≡ chain.seq = omega arith in λ i. record { value = chain.value; seq = n i }

pub links_append : (chain : Chain) (xs ys : List LogEntry) → links_of chain (xs ++ ys) ≡ links_of chain xs ++ links_of (chain_then chain xs) ys
links_append chain [] ys = ap (λ (c : Chain). links_of c ys) (sym (chain_none chain))
links_append chain (x ∷ xs) ys =
    let first : Link = record { seq = chain.seq; time = x.time; value = link_value chain.value chain.seq (shown x) } in
    ap (λ (l : List Link). first ∷ l)
    (links_append (chained chain (shown x)) xs ys ∙ ap (λ (c : Chain). links_of (chained chain (shown x)) xs ++ links_of c ys) (chain_more chain x xs))

pub value_append : (chain : Chain) (xs ys : List LogEntry) → value_after chain (xs ++ ys) ≡ value_after (chain_then chain xs) ys
value_append chain [] ys = ap (λ (c : Chain). value_after c ys) (sym (chain_none chain))
value_append chain (x ∷ xs) ys = value_append (chained chain (shown x)) xs ys ∙ ap (λ (c : Chain). value_after c ys) (chain_more chain x xs)

-- ---- conflicts

never : (a c : Bool) → (a && (false && c)) ≡ false
never true c = refl
never false c = refl

none_stated : (period : Period) (a : Authenticator) (chain : Chain) (xs : List LogEntry) → period.from ≤ a.time → AreBefore period xs → list_any (is_stated a) (links_of chain xs) ≡ false
none_stated period a chain [] le low = refl
none_stated period a chain (x ∷ xs) le low =
    let late : eqb x.time a.time ≡ false = ne_eqb x.time a.time (λ e. omega (arith, e, low.0, le)) in
    let here : is_stated a (record { seq = chain.seq; time = x.time; value = link_value chain.value chain.seq (shown x) }) ≡ false =
    rw late (never (eqb chain.seq a.seq) (bytes_eq (link_value chain.value chain.seq (shown x)) a.hash)) in
    let rest = none_stated period a (chained chain (shown x)) xs le low.1 in
    λ i. here i || rest i

both_true : (a b : Bool) → (a && b) ≡ true → (a ≡ true) × (b ≡ true)
both_true true true e = (refl, refl)
both_true true false e = absurd cc
both_true false b e = absurd cc

only_where : (p x y : Bool) → (p ≡ true → x ≡ y) → (p && not x) ≡ (p && not y)
only_where true x y h = ap not (h refl)
only_where false x y h = refl

-- An authenticator that is presented has its time in the period, so it states no entry before it.
conflict_same : (root : List ℕ) (asn : ℕ) (period : Period) (chain : Chain) (xs ys : List LogEntry) → AreBefore period xs → (a : Authenticator)
    → is_conflict root asn period (links_of chain (xs ++ ys)) a ≡ is_conflict root asn period (links_of (chain_then chain xs) ys) a
conflict_same root asn period chain xs ys low a =
    only_where (is_presented root asn period a) _ _ (λ is.
    let about = both_true (is_about asn period a) (is_signed root a) is in
    let timed = both_true (eqb a.asn asn) (leb period.from a.time && leb a.time period.to) about.0 in
    let le = both_true (leb period.from a.time) (leb a.time period.to) timed.1 in
    let none = none_stated period a chain xs (leb-true _ _ le.0) low in
    ap (list_any (is_stated a)) (links_append chain xs ys) ∙ list_any-append (is_stated a) (links_of chain xs) (links_of (chain_then chain xs) ys)
    ∙ ap (λ (b : Bool). b || list_any (is_stated a) (links_of (chain_then chain xs) ys)) none)

pub conflicts_go_on : (root : List ℕ) (asn : ℕ) (period : Period) (chain : Chain) (xs ys : List LogEntry) (auths : List Authenticator) → AreBefore period xs
    → filter (is_conflict root asn period (links_of chain (xs ++ ys))) auths ≡ filter (is_conflict root asn period (links_of (chain_then chain xs) ys)) auths
conflicts_go_on root asn period chain xs ys auths low = ap (λ (p : Authenticator → Bool). filter p auths) (λ i a. conflict_same root asn period chain xs ys low a i)
