-- One entry more of a log that is told again.
use Rattle.std.proofs.Common.{◌≡◌, ◌∙◌, ℕ, ◌<◌, ◌≤◌, ◌^◌, List, [], ◌∷◌, ◌++◌, ap, refl, sym, subst, length, arith}
use Rattle.std.proofs.lemmas.List.{append-nil, append_assoc, length-append}
use Rattle.nr_spec_log.specs.Chain.{LogEntry}
use Rattle.nr_spec_log.specs.Answer.{AreEntriesFrom, IsEntry, last_time}
use Rattle.nr_spec_store.specs.LogFile.{most_log}
use Rattle.nr_recorder.specs.Kept.{Kept, with_entries}

-- Some first entries of a log were told again, and these are left.
pub record Replayed (initial core : Kept) (left all : List LogEntry) : Type 0 where
  pub done : List LogEntry
  pub is : core ≡ with_entries initial done
  pub first : initial.log ≡ []
  pub split : done ++ left ≡ all
  pub fit : AreEntriesFrom (last_time 0 done) left
  pub few : length all ≤ most_log

last_more : (before : ℕ) (es : List LogEntry) (e : LogEntry) → last_time before (es ++ e ∷ []) ≡ e.time
last_more before [] e = refl
last_more before (x ∷ es) e = last_more x.time es e

log_is : (initial core : Kept) (left all : List LogEntry) (r : Replayed initial core left all) → core.log ≡ r.done
log_is initial core left all r = ap (λ (k : Kept). k.log) r.is ∙ ap (λ (l : List LogEntry). l ++ r.done) r.first

pub replay_begin : (core : Kept) (left all : List LogEntry) → core.log ≡ [] → left ≡ all → AreEntriesFrom 0 left → length left ≤ most_log → Replayed core core left all
replay_begin core left all first is fit few = record {
  done = [];
  is = ap (λ (l : List LogEntry). record { own = core.own; peers = core.peers; key = core.key; log = l }) (sym (append-nil core.log));
  first = first;
  split = is;
  fit = fit;
  few = subst (λ (l : List LogEntry). length l ≤ most_log) is few;
}

pub replay_room : (initial core : Kept) (left all : List LogEntry) → Replayed initial core left all → length core.log < 2 ^ 61
replay_room initial core left all r = omega (arith, ap length (log_is initial core left all r), ap length r.split, length-append r.done left, r.few)

pub replay_fits : (initial core : Kept) (e : LogEntry) (left all : List LogEntry) → Replayed initial core (e ∷ left) all → IsEntry e
replay_fits initial core e left all r = r.fit.0

pub replay_time : (initial core : Kept) (e : LogEntry) (left all : List LogEntry) → Replayed initial core (e ∷ left) all → last_time 0 core.log ≤ e.time
replay_time initial core e left all r = subst (λ (l : List LogEntry). last_time 0 l ≤ e.time) (sym (log_is initial core (e ∷ left) all r)) r.fit.1

pub replay_more : (initial core after : Kept) (e : LogEntry) (left all : List LogEntry) → Replayed initial core (e ∷ left) all → after ≡ with_entries core (e ∷ []) → Replayed initial after left all
replay_more initial core after e left all r is = record {
  done = r.done ++ e ∷ [];
  is = is ∙ ap (λ (k : Kept). with_entries k (e ∷ [])) r.is
      ∙ ap (λ (l : List LogEntry). record { own = initial.own; peers = initial.peers; key = initial.key; log = l }) (append_assoc initial.log r.done (e ∷ []));
  first = r.first;
  split = append_assoc r.done (e ∷ []) left ∙ r.split;
  fit = subst (λ (n : ℕ). AreEntriesFrom n left) (sym (last_more 0 r.done e)) r.fit.2;
  few = r.few;
}

pub replay_end : (initial core : Kept) (all : List LogEntry) → Replayed initial core [] all → core ≡ with_entries initial all
replay_end initial core all r = r.is ∙ ap (λ (l : List LogEntry). with_entries initial l) (sym (append-nil r.done) ∙ r.split)

pub ruleset replaying = (replay_begin, replay_room, replay_fits, replay_time, replay_more, replay_end)
