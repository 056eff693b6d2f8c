-- Entries that are spelled one after another.
use Rattle.std.proofs.Common.{◌≡◌, ℕ, zero, suc, ◌+◌, ◌^◌, ◌<◌, List, [], ◌∷◌, ◌++◌, length, get_or, map, drop, sym, ap, ◌∙◌, append_assoc, arith}
use Rattle.std.proofs.Common.{inl, inr, subst}
use Rattle.std.specs.List.{slice_get}
use Rattle.std.specs.Prelude.{Some, None}
use Rattle.std.proofs.lemmas.Option.{slice_get_within, slice_get_cases, get_or_from_slice_get}
use Rattle.nr_chain.specs.declared.item.Entry.{Entry}
use Rattle.nr_chain.specs.Views.{entry_of}
use Rattle.std.proofs.lemmas.List.{drop_more, length-map, get_or-map}
use Rattle.std.proofs.lemmas.List.Concat.{flat_map-cons}
use Rattle.nr_spec_log.specs.Chain.{LogEntry}
use Rattle.nr_spec_log.specs.Answer.{AreEntriesFrom, entry}
use Rattle.nr_spec_store.specs.LogFile.{MayFollow, spelled}
use Rattle.nr_store.specs.Walks.{HaveSizes}

sizes_of : (last : ℕ) (es : List LogEntry) → AreEntriesFrom last es → HaveSizes es
sizes_of last [] fits = tt
sizes_of last (e ∷ es) fits = (fits.0.content, sizes_of e.time es fits.2)

pub have_sizes : (last : ℕ) (es : List LogEntry) → MayFollow last es → HaveSizes es
have_sizes last es more = sizes_of last es more.fit

-- ---- pieces one after another

pub three_pieces : (x a b c w1 w2 w3 : List ℕ) → w1 ≡ x ++ a → w2 ≡ w1 ++ b → w3 ≡ w2 ++ c → w3 ≡ x ++ (a ++ (b ++ c))
three_pieces x a b c w1 w2 w3 e1 e2 e3 =
    e3 ∙ ap (λ (t : List ℕ). t ++ c) (e2 ∙ ap (λ (t : List ℕ). t ++ b) e1) ∙ append_assoc (x ++ a) b c ∙ append_assoc x a (b ++ c)

pub four_pieces : (x a b c d w1 w2 w3 w4 : List ℕ) → w1 ≡ x ++ a → w2 ≡ w1 ++ b → w3 ≡ w2 ++ c → w4 ≡ w3 ++ d → w4 ≡ x ++ (a ++ (b ++ (c ++ d)))
four_pieces x a b c d w1 w2 w3 w4 e1 e2 e3 e4 = e4 ∙ ap (λ (t : List ℕ). t ++ d) (three_pieces x a b c w1 w2 w3 e1 e2 e3) ∙ append_assoc x (a ++ (b ++ c)) d ∙ ap (λ (t : List ℕ). x ++ t) (append_assoc a (b ++ c) d ∙ ap (λ (t : List ℕ). a ++ t) (append_assoc b c d))

-- ---- a loop that spells entries

size_at : (es : List LogEntry) (i : ℕ) (d : LogEntry) → i < length es → HaveSizes es → length (get_or es i d).content < 2 ^ 16
size_at [] i d less sizes = absurd (omega (arith, less))
size_at (e ∷ es) zero d less sizes = sizes.0
size_at (e ∷ es) (suc i) d less sizes = size_at es i d (omega (arith, less)) sizes.1

-- an entry that a list gives
pub record Given (xs : List Entry) (i : ℕ) (e : Entry) : Type 0 where
  pub more : spelled (drop i (map entry_of xs)) ≡ entry (entry_of e) ++ spelled (drop (i + 1) (map entry_of xs))
  pub size : HaveSizes (map entry_of xs) → length e.content.now < 2 ^ 16

pub given : (xs : List Entry) (i : ℕ) (e : Entry) → slice_get xs i ≡ Some e → Given xs i e
given xs i e is =
    let within = slice_get_within xs i e is in
    let at : get_or xs i e ≡ e = get_or_from_slice_get xs i e e is in
    let es = map entry_of xs in
    let long : length es ≡ length xs = length-map xs entry_of in
    let head : get_or es i (entry_of e) ≡ entry_of e = get_or-map entry_of xs i e (entry_of e) within ∙ ap entry_of at in
    record {
      more = ap spelled (drop_more es i (entry_of e) (omega (arith, within, long))) ∙ ap (λ (f : LogEntry). spelled (f ∷ drop (i + 1) es)) head ∙ flat_map-cons entry (entry_of e) (drop (i + 1) es);
      size = λ sizes. subst (λ (f : LogEntry). length f.content < 2 ^ 16) head (size_at es i (entry_of e) (omega (arith, within, long)) sizes);
    }

pub none_given : (xs : List Entry) (i : ℕ) → i < length xs → slice_get xs i ≡ None → ⊥
none_given xs i less none = elim (slice_get_cases xs i).1 [
  | inl found ↦ some_none (sym found.2 ∙ none)
  | inr past ↦ omega (arith, less, past.0)
]
  where
    some_none : {x : Entry} → Some x ≡ None → ⊥
    some_none e = cc
