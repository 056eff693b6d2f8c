-- Entries one after another from a place on.
use Rattle.std.proofs.Common.{◌≡◌, ℕ, suc, ◌+◌, ◌<◌, List, [], ◌∷◌, ◌++◌, take, drop, drop-cons, length, map, Some, sym, ap, ◌∙◌, append_assoc, arith}
use Rattle.std.specs.List.{slice_get}
use Rattle.std.proofs.lemmas.List.{map-append, take_more}
use Rattle.std.proofs.lemmas.Option.{slice_get_within, get_or_from_slice_get}
use Rattle.nr_spec_log.specs.Chain.{LogEntry}
use Rattle.nr_chain.specs.declared.item.Entry.{Entry}
use Rattle.nr_chain.specs.Views.{entry_of}

dropped : (log : List LogEntry) (place : ℕ) (e : LogEntry) → slice_get log place ≡ Some e → drop place log ≡ e ∷ drop (place + 1) log
dropped log place e is =
    let next : suc place ≡ place + 1 = omega arith in
    let within : place < length log = slice_get_within log place e is in
    drop-cons log place e within ∙ (λ i. get_or_from_slice_get log place e e is i ∷ drop (next i) log)

pub listed_more : (log : List LogEntry) (at place : ℕ) (entries new : List Entry) (e : Entry) → map entry_of entries ++ drop place log ≡ drop at log → new ≡ entries ++ e ∷ []
    → slice_get log place ≡ Some (entry_of e) → map entry_of new ++ drop (place + 1) log ≡ drop at log
listed_more log at place entries new e so_far more is =
    ap (λ (l : List Entry). map entry_of l ++ drop (place + 1) log) more
    ∙ ap (λ (l : List LogEntry). l ++ drop (place + 1) log) (map-append entry_of entries (e ∷ []))
    ∙ append_assoc (map entry_of entries) (entry_of e ∷ []) (drop (place + 1) log)
    ∙ ap (λ (l : List LogEntry). map entry_of entries ++ l) (sym (dropped log place (entry_of e) is)) ∙ so_far

pub taken_more : (log : List LogEntry) (place : ℕ) (entries new : List Entry) (e : Entry) → map entry_of entries ≡ take place log → new ≡ entries ++ e ∷ []
    → slice_get log place ≡ Some (entry_of e) → map entry_of new ≡ take (place + 1) log
taken_more log place entries new e so_far more is =
    ap (map entry_of) more ∙ map-append entry_of entries (e ∷ []) ∙ ap (λ (l : List LogEntry). l ++ entry_of e ∷ []) so_far
    ∙ sym (take_more log place (entry_of e) (slice_get_within log place (entry_of e) is) ∙ ap (λ (x : LogEntry). take place log ++ x ∷ []) (get_or_from_slice_get log place (entry_of e) (entry_of e) is))
