-- Answers that start behind some entries.
use Rattle.std.proofs.Common.{◌≡◌, ℕ, zero, suc, ◌+◌, ◌-◌, ◌<◌, ◌≤◌, Bool, false, List, [], ◌∷◌, ◌++◌, take, drop, drop-cons, length, map, Option, Some, None, Ok, Err, refl, sym, ap, subst, ◌∙◌, append_assoc, arith}
use Rattle.std.specs.Prelude.{if◌then◌else◌}
use Rattle.std.specs.List.{slice_get}
use Rattle.std.proofs.lemmas.Option.{slice_get_within, get_or_from_slice_get}
use Rattle.nr_spec_log.specs.Chain.{LogEntry}
use Rattle.nr_spec_log.specs.Answer.{AreEntriesFrom}
use Rattle.nr_spec_entry.specs.Contents.{auditor}
use Rattle.nr_spec_entry.specs.ContentReading.{content_of}
use Rattle.nr_spec_history.specs.KeyFiles.{Key}
use Rattle.nr_spec_steps.specs.Heads.{last_commit}
use Rattle.nr_spec_starts.specs.Starts.{NoCheckpoint, answer_at, answer_behind, answer_up_to, begins_with_checkpoint, is_checkpoint, started_answer}
use Rattle.nr_chain.specs.declared.item.Entry.{Entry}
use Rattle.nr_chain.specs.Views.{entry_of}
use Rattle.nr_recorder.proofs.Booking.{fit_from}

abbrev pub is_first : Option Entry → Bool
is_first None = false
is_first (Some e) = is_checkpoint (content_of (entry_of e))

pub begins : (es : List Entry) → begins_with_checkpoint (map entry_of es) ≡ is_first (slice_get es 0)
begins [] = refl
begins (e ∷ es) = refl

pub behind_more : (es : List Entry) (at i : ℕ) (later new : List Entry) (e : Entry) → later ++ drop i es ≡ drop at es → new ≡ later ++ e ∷ [] → slice_get es i ≡ Some e → new ++ drop (i + 1) es ≡ drop at es
behind_more es at i later new e so_far more is =
    let next : suc i ≡ i + 1 = omega arith in
    let within : i < length es = slice_get_within es i e is in
    let left : drop i es ≡ e ∷ drop (i + 1) es = drop-cons es i e within ∙ (λ j. get_or_from_slice_get es i e e is j ∷ drop (next j) es) in
    ap (λ (l : List Entry). l ++ drop (i + 1) es) more ∙ append_assoc later (e ∷ []) (drop (i + 1) es) ∙ ap (λ (l : List Entry). later ++ l) (sym left) ∙ so_far

pub map_drop : (n : ℕ) (es : List Entry) → map entry_of (drop n es) ≡ drop n (map entry_of es)
map_drop zero es = refl
map_drop (suc n) [] = refl
map_drop (suc n) (e ∷ es) = map_drop n es

from_any : (last : ℕ) (log : List LogEntry) → AreEntriesFrom last log → AreEntriesFrom 0 log
from_any last [] fit = tt
from_any last (e ∷ es) fit = (fit.0, omega arith, fit.2)

pub fit_behind : (n : ℕ) (es later : List Entry) → later ≡ drop n es → AreEntriesFrom 0 (map entry_of es) → AreEntriesFrom 0 (map entry_of later)
fit_behind n es later is fit =
    subst (AreEntriesFrom 0) (sym (ap (map entry_of) is ∙ map_drop n es)) (from_any _ (drop n (map entry_of es)) (fit_from n 0 (map entry_of es) fit))

pub take_within : (n m : ℕ) (log : List LogEntry) → n ≤ m → take n (take m log) ≡ take n log
take_within zero m log le = refl
take_within (suc n) zero log le = elim le [ ]
take_within (suc n) (suc m) [] le = refl
take_within (suc n) (suc m) (e ∷ es) le = ap (λ (l : List LogEntry). e ∷ l) (take_within n m es (omega (arith, le)))

pub at_behind : (key : Key) (log : List LogEntry) (before : ℕ) → 0 < before
    → answer_at key log (before + 1) ≡ (if begins_with_checkpoint (drop before log) then Ok (answer_behind key before log) else Err (NoCheckpoint (before + 1)))
at_behind key log before some =
    let same : suc (before - 1) ≡ before = omega (arith, some) in
    let next : before + 1 ≡ suc (suc (before - 1)) = omega (arith, some) in
    ap (answer_at key log) next
    ∙ (λ i. if begins_with_checkpoint (drop (same i) log) then Ok (answer_behind key (same i) log) else Err (NoCheckpoint (sym next i)))

pub chosen : (key : Key) (es later : List Entry) (before : ℕ) (begun made : Bool) → 0 < before → later ≡ drop before es → begun ≡ begins_with_checkpoint (map entry_of later) → begun ≡ made
    → answer_at key (map entry_of es) (before + 1) ≡ (if made then Ok (answer_behind key before (map entry_of es)) else Err (NoCheckpoint (before + 1)))
chosen key es later before begun made some is begun_is made_is =
    at_behind key (map entry_of es) before some
    ∙ ap (λ (b : Bool). if b then Ok (answer_behind key before (map entry_of es)) else Err (NoCheckpoint (before + 1)))
    (sym (begun_is ∙ ap begins_with_checkpoint (ap (map entry_of) is ∙ map_drop before es)) ∙ made_is)

pub up_to : (key : Key) (log : List LogEntry) (start : ℕ) (head found : Option ℕ) → head ≡ last_commit auditor log → head ≡ found → started_answer key log start ≡ answer_up_to key log start found
unfolding started_answer
up_to key log start head found value is = ap (answer_up_to key log start) (sym value ∙ is)
