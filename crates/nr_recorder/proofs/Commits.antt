-- The last COMMIT, from the last entry back.
use Rattle.std.proofs.Common.{◌≡◌, ℕ, ◌+◌, ◌-◌, ◌<◌, ◌≤◌, Bool, true, false, cond, List, [], ◌∷◌, ◌++◌, length, take, Option, Some, None, refl, sym, ap, ◌∙◌, length-append, arith}
use Rattle.std.specs.List.{slice_get}
use Rattle.std.specs.Option.{option_map}
use Rattle.std.proofs.lemmas.List.{length-take-le, take_more}
use Rattle.std.proofs.lemmas.Option.{slice_get_within, get_or_from_slice_get}
use Rattle.nr_spec_log.specs.Chain.{LogEntry}
use Rattle.nr_spec_entry.specs.ContentReading.{content_of}
use Rattle.nr_spec_routes.specs.LookBack.{after_last}
use Rattle.nr_spec_routes.proofs.Words.{after_last-push}
use Rattle.nr_spec_counts.specs.Tallies.{is_commit_to}
use Rattle.nr_spec_steps.specs.Heads.{last_commit}

counted_back : (b : Bool) (found : Option (List LogEntry)) (log : List LogEntry) (e : LogEntry)
    → option_map (λ (later : List LogEntry). length (log ++ e ∷ []) - length later) (cond b (Some []) (option_map (λ l. l ++ e ∷ []) found))
    ≡ cond b (Some (length log + 1)) (option_map (λ (later : List LogEntry). length log - length later) found)
counted_back true found log e = ap (λ (k : ℕ). Some k) (omega (arith, length-append log (e ∷ [])))
counted_back false None log e = refl
counted_back false (Some later) log e = ap (λ (k : ℕ). Some k) (omega (arith, length-append log (e ∷ []), length-append later (e ∷ [])))

commit_more : (n : ℕ) (log : List LogEntry) (e : LogEntry) → last_commit n (log ++ e ∷ []) ≡ cond (is_commit_to n (content_of e)) (Some (length log + 1)) (last_commit n log)
commit_more n log e =
    ap (option_map (λ (later : List LogEntry). length (log ++ e ∷ []) - length later)) (after_last-push (λ x. is_commit_to n (content_of x)) log e)
    ∙ counted_back (is_commit_to n (content_of e)) (after_last (λ x. is_commit_to n (content_of x)) log) log e

taken_more : (log : List LogEntry) (left : ℕ) (e : LogEntry) → 0 < left → slice_get log (left - 1) ≡ Some e → take left log ≡ take (left - 1) log ++ e ∷ []
taken_more log left e some is =
    let at : left ≡ left - 1 + 1 = omega arith in
    ap (λ (k : ℕ). take k log) at ∙ take_more log (left - 1) e (slice_get_within log (left - 1) e is) ∙ ap (λ (x : LogEntry). take (left - 1) log ++ x ∷ []) (get_or_from_slice_get log (left - 1) e e is)

one_back : (n : ℕ) (log : List LogEntry) (left : ℕ) (e : LogEntry) (b : Bool) → 0 < left → slice_get log (left - 1) ≡ Some e → b ≡ is_commit_to n (content_of e)
    → last_commit n (take left log) ≡ cond b (Some left) (last_commit n (take (left - 1) log))
one_back n log left e b some is same =
    let within = slice_get_within log (left - 1) e is in
    let size : length (take (left - 1) log) + 1 ≡ left = omega (arith, length-take-le (left - 1) log (omega arith)) in
    ap (last_commit n) (taken_more log left e some is) ∙ commit_more n (take (left - 1) log) e
    ∙ (λ i. cond (sym same i) (Some (size i)) (last_commit n (take (left - 1) log)))

pub here : (n : ℕ) (log : List LogEntry) (left : ℕ) (e : LogEntry) (b : Bool) (all : Option ℕ) → 0 < left → slice_get log (left - 1) ≡ Some e → b ≡ is_commit_to n (content_of e) → b ≡ true
    → last_commit n (take left log) ≡ all → Some left ≡ all
here n log left e b all some is same so left_is = sym (one_back n log left e b some is same ∙ ap (λ (t : Bool). cond t (Some left) (last_commit n (take (left - 1) log))) so) ∙ left_is

pub before : (n : ℕ) (log : List LogEntry) (left : ℕ) (e : LogEntry) (b : Bool) (all : Option ℕ) → 0 < left → slice_get log (left - 1) ≡ Some e → b ≡ is_commit_to n (content_of e) → b ≡ false
    → last_commit n (take left log) ≡ all → last_commit n (take (left - 1) log) ≡ all
before n log left e b all some is same so left_is = sym (one_back n log left e b some is same ∙ ap (λ (t : Bool). cond t (Some left) (last_commit n (take (left - 1) log))) so) ∙ left_is

pub nowhere : (n : ℕ) (log : List LogEntry) (left : ℕ) (all : Option ℕ) → left ≤ 0 → last_commit n (take left log) ≡ all → None ≡ all
nowhere n log left all none left_is = let e : 0 ≡ left = omega arith in ap (λ (k : ℕ). last_commit n (take k log)) e ∙ left_is
