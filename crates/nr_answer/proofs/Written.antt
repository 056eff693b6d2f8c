-- Entries that are written one after another.
use Rattle.std.proofs.Common.{◌≡◌, ℕ, zero, suc, ◌+◌, ◌*◌, ◌^◌, ◌<◌, ◌≤◌, List, [], ◌∷◌, ◌++◌, length, map, drop, inl, inr, sym, ap, subst, ◌∙◌, append_assoc, arith}
use Rattle.std.specs.List.{slice_get, flat_map}
use Rattle.std.specs.Prelude.{Some, None}
use Rattle.std.proofs.lemmas.Option.{same_Some, slice_get_cases}
use Rattle.std.proofs.lemmas.List.{length-append, length-map}
use Rattle.std.proofs.lemmas.List.Concat.{flat_map-cons}
use Rattle.std.specs.Prelude.{Option}
use Rattle.byteorder.specs.Endian.{big_bytes}
use Rattle.nr_chain.specs.declared.item.Entry.{Entry}
use Rattle.nr_chain.specs.Views.{entry_of}
use Rattle.nr_spec_log.specs.Chain.{LogEntry}
use Rattle.nr_spec_log.specs.Answer.{AnswerFile, AreEntriesFrom, IsEntry, answer_file, body_field, entry}
use Rattle.nr_answer.specs.Writing.{IsMadeOf, text_of}

-- ---- pieces one after another

pub three_pieces : (x a b c w1 w2 w3 : List ℕ) → w1 ≡ x ++ a → w2 ≡ w1 ++ b → w3 ≡ w2 ++ c → w3 ≡ x ++ (a ++ (b ++ c))
three_pieces x a b c w1 w2 w3 e1 e2 e3 =
    e3 ∙ ap (λ (t : List ℕ). t ++ c) (e2 ∙ ap (λ (t : List ℕ). t ++ b) e1) ∙ append_assoc (x ++ a) b c ∙ append_assoc x a (b ++ c)

pub four_pieces : (x a b c d w1 w2 w3 w4 : List ℕ) → w1 ≡ x ++ a → w2 ≡ w1 ++ b → w3 ≡ w2 ++ c → w4 ≡ w3 ++ d → w4 ≡ x ++ (a ++ (b ++ (c ++ d)))
four_pieces x a b c d w1 w2 w3 w4 e1 e2 e3 e4 = e4 ∙ ap (λ (t : List ℕ). t ++ d) (three_pieces x a b c w1 w2 w3 e1 e2 e3) ∙ append_assoc x (a ++ (b ++ c)) d ∙ ap (λ (t : List ℕ). x ++ t) (append_assoc a (b ++ c) d ∙ ap (λ (t : List ℕ). a ++ t) (append_assoc b c d))

-- four pieces, of which the first has four
pub grouped : (x a b c d e f g h w : List ℕ)
    → w ≡ x ++ ((a ++ (b ++ (c ++ d))) ++ (e ++ (f ++ (g ++ h)))) → w ≡ x ++ (a ++ (b ++ (c ++ (d ++ (e ++ (f ++ (g ++ h)))))))
grouped x a b c d e f g h w is =
    let rest = e ++ (f ++ (g ++ h)) in
    is ∙ ap (λ (t : List ℕ). x ++ t) (append_assoc a (b ++ (c ++ d)) rest
    ∙ ap (λ (t : List ℕ). a ++ t) (append_assoc b (c ++ d) rest ∙ ap (λ (t : List ℕ). b ++ t) (append_assoc c d rest)))

-- ---- a loop over entries

pub entry_fits : (last : ℕ) (xs : List Entry) (i : ℕ) (x : Entry) → AreEntriesFrom last (map entry_of xs) → slice_get xs i ≡ Some x → IsEntry (entry_of x)
entry_fits last [] i x fits e = absurd cc
entry_fits last (y ∷ ys) zero x fits e = subst (λ (t : Entry). IsEntry (entry_of t)) (same_Some y x e) fits.0
entry_fits last (y ∷ ys) (suc i) x fits e = entry_fits y.time ys i x fits.2 e

drop_next : (xs : List Entry) (i : ℕ) (x : Entry) → slice_get xs i ≡ Some x → drop i (map entry_of xs) ≡ entry_of x ∷ drop (suc i) (map entry_of xs)
drop_next [] i x e = absurd cc
drop_next (y ∷ ys) zero x e = ap (λ (t : Entry). entry_of t ∷ map entry_of ys) (same_Some y x e)
drop_next (y ∷ ys) (suc i) x e = drop_next ys i x e

-- what is left before an entry is the entry and what is left after it
pub text_next : (xs : List Entry) (i : ℕ) (x : Entry) → slice_get xs i ≡ Some x
    → flat_map entry (drop i (map entry_of xs)) ≡ entry (entry_of x) ++ flat_map entry (drop (i + 1) (map entry_of xs))
text_next xs i x got =
    let rest : List LogEntry = drop (i + 1) (map entry_of xs) in
    let one : suc i ≡ i + 1 = omega arith in
    let step : drop i (map entry_of xs) ≡ entry_of x ∷ rest = drop_next xs i x got ∙ ap (λ (k : ℕ). entry_of x ∷ drop k (map entry_of xs)) one in
    ap (λ (t : List LogEntry). flat_map entry t) step ∙ flat_map-cons entry (entry_of x) rest

pub written_more : (xs : List Entry) (i : ℕ) (x : Entry) (out new total : List ℕ) → slice_get xs i ≡ Some x → new ≡ out ++ entry (entry_of x)
    → out ++ flat_map entry (drop i (map entry_of xs)) ≡ total → new ++ flat_map entry (drop (i + 1) (map entry_of xs)) ≡ total
written_more xs i x out new total got is so_far =
    let rest = flat_map entry (drop (i + 1) (map entry_of xs)) in
    ap (λ (t : List ℕ). t ++ rest) is
    ∙ append_assoc out (entry (entry_of x)) rest
    ∙ ap (λ (t : List ℕ). out ++ t) (sym (text_next xs i x got)) ∙ so_far

pub none_given : (xs : List Entry) (i : ℕ) → i < length xs → slice_get xs i ≡ None → ⊥
none_given xs i less none = elim (slice_get_cases xs i).1 [
  | inl found ↦ some_none (sym found.2 ∙ none)
  | inr past ↦ omega (arith, less, past.0)
]
  where
    some_none : {x : Entry} → Some x ≡ None → ⊥
    some_none e = cc

-- ---- sizes

pub entry_size : (e : LogEntry) → length (entry e) ≡ 11 + length e.content
entry_size e = omega arith

pub entries_bound : (last : ℕ) (es : List LogEntry) → AreEntriesFrom last es → length (flat_map entry es) ≤ 65546 * length es
entries_bound last [] fits = omega arith
entries_bound last (e ∷ es) fits =
    let one = entry_size e in
    let split = ap length (flat_map-cons entry e es) in
    let more = entries_bound e.time es fits.2 in
    let fit = fits.0.content in
    omega (arith, one, split, length-append (entry e) (flat_map entry es), more, fit)

pub size_more : (xs : List Entry) (i : ℕ) (x : Entry) (size total : ℕ) → slice_get xs i ≡ Some x
    → size + length (flat_map entry (drop i (map entry_of xs))) ≡ total
    → size + (11 + length x.content.now) + length (flat_map entry (drop (i + 1) (map entry_of xs))) ≡ total
size_more xs i x size total got so_far =
    let next = ap length (text_next xs i x got) in
    let one = entry_size (entry_of x) in
    let joined = length-append (entry (entry_of x)) (flat_map entry (drop (i + 1) (map entry_of xs))) in
    omega (arith, next, one, joined, so_far)

-- how many bytes the parts of an answer have together
pub text_size : (asn first : ℕ) (prev : List ℕ) (body : Option (List ℕ)) (entries : List LogEntry) (head : List ℕ)
    → length (text_of asn first prev body entries head) ≡ 16 + length prev + length (body_field body) + 4 + length (flat_map entry entries) + length head
text_size asn first prev body entries head =
    let spelled = flat_map entry entries in
    let count = big_bytes 4 (length entries) in
    let behind = length-append prev (body_field body ++ (count ++ (spelled ++ head))) in
    let flagged = length-append (body_field body) (count ++ (spelled ++ head)) in
    let ended = length-append spelled head in
    omega (arith, behind, flagged, ended)

-- the text of an answer's parts is its spelling
pub text_is : (a : AnswerFile) (asn first : ℕ) (prev : List ℕ) (body : Option (List ℕ)) (entries : List LogEntry) (head : List ℕ)
    → IsMadeOf a asn first prev body entries head → text_of asn first prev body entries head ≡ answer_file a
text_is a asn first prev body entries head made =
    let spelled : answer_file a ≡ text_of asn first prev body entries head =
    λ i. text_of (made.asn_is i) (made.first_is i) (made.prev_is i) (made.body_is i) (made.entries_are i) (made.head_is i) in
    sym spelled

pub all_bound : (xs : List Entry) → AreEntriesFrom 0 (map entry_of xs) → length xs < 2 ^ 32 → length (flat_map entry (map entry_of xs)) < 2 ^ 49
all_bound xs fits few = omega (arith, entries_bound 0 (map entry_of xs) fits, length-map xs entry_of, few)
