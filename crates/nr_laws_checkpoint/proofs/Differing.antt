-- Where the checkpoint doesn't stand before the period, a head that the log bears out may be a conflict of the answer.
use Rattle.std.proofs.Common.{◌≡◌, ℕ, ◌+◌, ◌<◌, Bool, true, false, ◌&&◌, not, eqb, List, [], ◌∷◌, length, refl, ap, ◌∙◌, arith}
use Rattle.std.specs.Prelude.{◌||◌}
use Rattle.std.specs.List.{list_any}
use Rattle.std.specs.Str.{bytes_eq}
use Rattle.std.proofs.lemmas.Bool.{eqb-true, ne_eqb}
use Rattle.std.proofs.lemmas.List.Folds.{list_any-append}
use Rattle.nr_spec_log.specs.Chain.{Chain, LogEntry, chained, link_value, links_of, shown}
use Rattle.nr_spec_log.specs.Authenticator.{Authenticator}
use Rattle.nr_spec_log.specs.Answer.{AnswerFile}
use Rattle.nr_spec_history.specs.Conflicts.{Period, answer_links, chain_of, is_conflict, is_presented, is_stated}
use Rattle.nr_spec_slices.specs.Slices.{IsBehind, whole}
use Rattle.nr_laws_checkpoint.proofs.Chains.{chain_then, links_append}

first_true : (a b : Bool) → (a && b) ≡ true → a ≡ true
first_true true b e = refl
first_true false b e = absurd cc

-- who states one of some entries has its number
stated_low : (a : Authenticator) (chain : Chain) (xs : List LogEntry) → list_any (is_stated a) (links_of chain xs) ≡ true → a.seq < chain.seq + length xs
stated_low a chain [] e = absurd cc
stated_low a chain (x ∷ xs) e = by (is_stated a (record { seq = chain.seq; time = x.time; value = link_value chain.value chain.seq (shown x) })) refl (stated_low a (chained chain (shown x)) xs) e
  where
    by : (b : Bool) → is_stated a (record { seq = chain.seq; time = x.time; value = link_value chain.value chain.seq (shown x) }) ≡ b
        → (list_any (is_stated a) (links_of (chained chain (shown x)) xs) ≡ true → a.seq < chain.seq + 1 + length xs)
        → (b || list_any (is_stated a) (links_of (chained chain (shown x)) xs)) ≡ true → a.seq < chain.seq + length (x ∷ xs)
    by true is later e =
        let seq = first_true (eqb chain.seq a.seq) (eqb x.time a.time && bytes_eq (link_value chain.value chain.seq (shown x)) a.hash) is in
        let same : chain.seq ≡ a.seq = eqb-true chain.seq a.seq seq in
        omega (arith, same)
    by false is later e = let low = later e in omega (arith, low)

-- and so none behind them
never_stated : (a : Authenticator) (chain : Chain) (ys : List LogEntry) → a.seq < chain.seq → list_any (is_stated a) (links_of chain ys) ≡ false
never_stated a chain [] lt = refl
never_stated a chain (y ∷ ys) lt =
    let apart : eqb chain.seq a.seq ≡ false = ne_eqb _ _ (λ e. omega (arith, e, lt)) in
    let here : is_stated a (record { seq = chain.seq; time = y.time; value = link_value chain.value chain.seq (shown y) }) ≡ false = rw apart refl in
    let later = never_stated a (chained chain (shown y)) ys (omega (arith, lt)) in
    λ i. here i || later i

pub late_differs : (root : List ℕ) (before log : List LogEntry) (answer : AnswerFile) (period : Period) (a : Authenticator) → IsBehind before log answer
    → is_presented root answer.asn period a ≡ true → list_any (is_stated a) (links_of (chain_of (whole log answer)) before) ≡ true
    → (is_conflict root answer.asn period (answer_links (whole log answer)) a ≡ false) × (is_conflict root answer.asn period (answer_links answer) a ≡ true)
late_differs root before log answer period a is presented stated =
    let start = chain_of (whole log answer) in
    let low = stated_low a start before stated in
    let first = is.first in
    let none = never_stated a (chain_of answer) answer.entries (omega (arith, low, first)) in
    let some : list_any (is_stated a) (links_of start log) ≡ true =
    ap (λ (l : List LogEntry). list_any (is_stated a) (links_of start l)) is.entries
    ∙ ap (list_any (is_stated a)) (links_append start before answer.entries)
    ∙ list_any-append (is_stated a) (links_of start before) (links_of (chain_then start before) answer.entries)
    ∙ ap (λ (b : Bool). b || list_any (is_stated a) (links_of (chain_then start before) answer.entries)) stated in
    ((λ i. presented i && not (some i)), (λ i. presented i && not (none i)))
