-- What is known after one more entry.
use Rattle.std.proofs.Common.{◌≡◌, ℕ, ◌+◌, Bool, true, false, cond, List, [], ◌∷◌, ◌++◌, Option, Some, None, refl, ap, sym, ◌∙◌, arith}
use Rattle.std.specs.Option.{unwrap_or, option_map}
use Rattle.std.specs.List.{count_by}
use Rattle.std.proofs.lemmas.List.Sums.{sum_by-append}
use Rattle.nr_spec_log.specs.Chain.{LogEntry}
use Rattle.nr_spec_entry.specs.ContentReading.{content_of}
use Rattle.nr_spec_routes.specs.LookBack.{after_last, later_or, first_of, last_of}
use Rattle.nr_spec_routes.proofs.Words.{after_last-push, first_of-push, last_of-push, later_or-assoc, unwrap_push}
use Rattle.nr_spec_counts.specs.Tallies.{Tally, ack_from, exchange_time, is_commit, is_commit_to, is_send_to, oldest_since, promise_in, tally_after}
use Rattle.nr_spec_counts.specs.Steps.{counted}

count_push : {E : Type 0} (p : E → Bool) (base : ℕ) (es : List E) (e : E) → base + count_by p (es ++ e ∷ []) ≡ base + count_by p es + cond (p e) 1 0
count_push p base es e =
    let added = sum_by-append (λ x. cond (p x) 1 0) es (e ∷ []) in
    omega arith

-- the oldest exchange: it is over at a COMMIT, and begins where there is none yet
oldest_step : (b : Bool) (found : Option (List LogEntry)) (base : Option ℕ) (past : List LogEntry) (e : LogEntry) (n : ℕ)
    → oldest_since (cond b (Some []) (option_map (λ l. l ++ e ∷ []) found)) base (past ++ e ∷ []) n ≡ cond b None (later_or (oldest_since found base past n) (exchange_time n e))
oldest_step true found base past e n = refl
oldest_step false (Some later) base past e n = first_of-push (exchange_time n) later e
oldest_step false None base past e n = ap (later_or base) (first_of-push (exchange_time n) past e) ∙ sym (later_or-assoc base (first_of (exchange_time n) past) (exchange_time n e))

pub one_counted : (base : Tally) (past : List LogEntry) (e : LogEntry) → tally_after base (past ++ e ∷ []) ≡ counted (tally_after base past) (content_of e) e.time
unfolding tally_after
one_counted base past e = λ i. record {
  sends = λ n. count_push (λ x. is_send_to n (content_of x)) (base.sends n) past e i;
  acked = λ n. unwrap_push (λ x. ack_from n (content_of x)) past e (base.acked n) i;
  oldest = λ n. (ap (λ found. oldest_since found (base.oldest n) (past ++ e ∷ []) n) (after_last-push (λ x. is_commit_to n (content_of x)) past e) ∙ oldest_step (is_commit_to n (content_of e)) (after_last (λ x. is_commit_to n (content_of x)) past) (base.oldest n) past e n) i;
  commits = count_push (λ x. is_commit (content_of x)) base.commits past e i;
  in_force = (ap (λ x. later_or x base.in_force) (last_of-push (λ x. promise_in (content_of x)) past e) ∙ later_or-assoc (promise_in (content_of e)) (last_of (λ x. promise_in (content_of x)) past) base.in_force) i;
  last = ap (λ x. unwrap_or x base.last) (last_of-push (λ x. Some x.time) past e) i;
}
