-- What the head of entries states, from the first entry on.
use Rattle.std.proofs.Common.{◌≡◌, ℕ, suc, ◌+◌, ◌<◌, List, ◌∷◌, drop, drop-cons, length, map, Option, Some, None, refl, sym, ap, ◌∙◌, arith}
use Rattle.std.specs.List.{slice_get}
use Rattle.std.specs.Option.{unwrap_or}
use Rattle.std.proofs.lemmas.Option.{slice_get_within, get_or_from_slice_get}
use Rattle.nr_spec_log.specs.Chain.{Chain, LogEntry, chained, shown, value_after}
use Rattle.nr_spec_log.specs.Answer.{last_time}
use Rattle.nr_spec_entry.specs.ContentReading.{content_of}
use Rattle.nr_spec_routes.specs.LookBack.{last_of, later_or}
use Rattle.nr_spec_steps.specs.Heads.{leaf_in}
use Rattle.nr_chain.specs.declared.item.Entry.{Entry}
use Rattle.nr_chain.specs.Views.{entry_of}

module _ (es : List Entry) (i : ℕ) (e : Entry) (is : slice_get es i ≡ Some e) where
  left : map entry_of (drop i es) ≡ entry_of e ∷ map entry_of (drop (i + 1) es)
  left =
      let next : suc i ≡ i + 1 = omega arith in
      let within : i < length es = slice_get_within es i e is in
      ap (map entry_of) (drop-cons es i e within ∙ (λ j. get_or_from_slice_get es i e e is j ∷ drop (next j) es))

  pub value_next : (walk new : Chain) (all : List ℕ) → new ≡ chained walk (shown (entry_of e)) → value_after walk (map entry_of (drop i es)) ≡ all → value_after new (map entry_of (drop (i + 1) es)) ≡ all
  value_next walk new all more so_far =
      ap (λ (w : Chain). value_after w (map entry_of (drop (i + 1) es))) more ∙ (sym (ap (value_after walk) left) ∙ so_far)

  pub time_next : (time all : ℕ) → last_time time (map entry_of (drop i es)) ≡ all → last_time e.time (map entry_of (drop (i + 1) es)) ≡ all
  time_next time all so_far = sym (ap (last_time time) left) ∙ so_far

  later_next : (later own : Option ℕ) (leaf : ℕ) → unwrap_or later (unwrap_or own leaf) ≡ unwrap_or (later_or later own) leaf
  later_next None own leaf = refl
  later_next (Some x) own leaf = refl

  pub leaf_next : (leaf new all : ℕ) → new ≡ unwrap_or (leaf_in (content_of (entry_of e))) leaf
      → unwrap_or (last_of (λ (x : LogEntry). leaf_in (content_of x)) (map entry_of (drop i es))) leaf ≡ all
      → unwrap_or (last_of (λ (x : LogEntry). leaf_in (content_of x)) (map entry_of (drop (i + 1) es))) new ≡ all
  leaf_next leaf new all more so_far =
      ap (unwrap_or (last_of (λ (x : LogEntry). leaf_in (content_of x)) (map entry_of (drop (i + 1) es)))) more
      ∙ later_next (last_of (λ (x : LogEntry). leaf_in (content_of x)) (map entry_of (drop (i + 1) es))) (leaf_in (content_of (entry_of e))) leaf
      ∙ (sym (ap (λ (l : List LogEntry). unwrap_or (last_of (λ (x : LogEntry). leaf_in (content_of x)) l) leaf) left) ∙ so_far)
