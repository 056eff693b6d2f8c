-- One entry more of a log in two parts.
use Rattle.std.proofs.Common.{◌≡◌, ℕ, zero, suc, ◌+◌, ◌<◌, ◌≤◌, List, [], ◌∷◌, ◌++◌, length, map, take, drop, refl, sym, ap, subst, ◌∙◌, length-append, arith}
use Rattle.std.proofs.lemmas.List.{drop-append-le, map-append, take-append-le}
use Rattle.nr_spec_log.specs.Chain.{LogEntry}
use Rattle.nr_chain.specs.declared.item.Entry.{Entry}
use Rattle.nr_chain.specs.Views.{entry_of}
use Rattle.nr_before.specs.Behinds.{ArePartsOf, IsLeftBy, Kept, Parts}

take_whole : (n : ℕ) (log : List LogEntry) → length log ≤ n → take n log ≡ log
take_whole zero [] few = refl
take_whole zero (x ∷ xs) few = absurd (omega arith)
take_whole (suc n) [] few = refl
take_whole (suc n) (x ∷ xs) few = ap (λ (l : List LogEntry). x ∷ l) (take_whole n xs (omega arith))

drop_whole : (n : ℕ) (log : List LogEntry) → length log ≤ n → drop n log ≡ []
drop_whole zero [] few = refl
drop_whole zero (x ∷ xs) few = absurd (omega arith)
drop_whole (suc n) [] few = refl
drop_whole (suc n) (x ∷ xs) few = drop_whole n xs (omega arith)

-- fewer are taken than were asked for, so there are no more
more : (n : ℕ) (log : List LogEntry) → length (take n log) < n → length log < n
more zero log less = absurd (omega arith)
more (suc n) [] less = omega arith
more (suc n) (x ∷ xs) less = let rest = more n xs (omega arith) in omega (arith, rest)

at_least : (n : ℕ) (log : List LogEntry) → n ≤ length (take n log) → n ≤ length log
at_least zero log is = omega arith
at_least (suc n) [] is = absurd (omega arith)
at_least (suc n) (x ∷ xs) is = let rest = at_least n xs (omega arith) in omega (arith, rest)

-- it goes to the first part
pub more_before : (asn : ℕ) (log : List LogEntry) (e : LogEntry) (p : Parts) (seq : ℕ) (after : Kept) → ArePartsOf asn log p → seq ≡ length (take p.count log) + 1 → seq ≤ p.count
    → IsLeftBy asn (take p.count log ++ e ∷ []) after → ArePartsOf asn (log ++ e ∷ []) (record { count = p.count; before = after; behind = p.behind })
more_before asn log e p seq after are number within left =
    let few : length log < p.count = more p.count log (omega (arith, number, within)) in
    let long : length (log ++ e ∷ []) ≤ p.count = omega (arith, length-append log (e ∷ []), few) in
    record {
      before = subst (λ (l : List LogEntry). IsLeftBy asn l after) (ap (λ (l : List LogEntry). l ++ e ∷ []) (take_whole p.count log (omega (arith, few))) ∙ sym (take_whole p.count (log ++ e ∷ []) long)) left;
      behind = are.behind ∙ drop_whole p.count log (omega (arith, few)) ∙ sym (drop_whole p.count (log ++ e ∷ []) long);
    }

-- it goes to the second part
pub more_behind : (asn : ℕ) (log : List LogEntry) (e : LogEntry) (p : Parts) (seq : ℕ) (behind : List LogEntry) → ArePartsOf asn log p → seq ≡ length (take p.count log) + 1 → p.count < seq
    → behind ≡ p.behind ++ e ∷ [] → ArePartsOf asn (log ++ e ∷ []) (record { count = p.count; before = p.before; behind = behind })
more_behind asn log e p seq behind are number beyond longer =
    let enough : p.count ≤ length log = at_least p.count log (omega (arith, number, beyond)) in
    record {
      before = subst (λ (l : List LogEntry). IsLeftBy asn l p.before) (sym (take-append-le p.count log (e ∷ []) enough)) are.before;
      behind = longer ∙ ap (λ (l : List LogEntry). l ++ e ∷ []) are.behind ∙ sym (drop-append-le p.count log (e ∷ []) enough);
    }

pub mapped_more : (items more : List Entry) (e : Entry) → more ≡ items ++ e ∷ [] → map entry_of more ≡ map entry_of items ++ entry_of e ∷ []
mapped_more items more e longer = ap (map entry_of) longer ∙ map-append entry_of items (e ∷ [])
