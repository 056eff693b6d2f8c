-- The counts after entries can be stated.
use Rattle.std.proofs.Common.{◌≡◌, ℕ, zero, suc, ◌+◌, ◌^◌, ◌<◌, ◌≤◌, Bool, true, false, cond, eqb, List, [], ◌∷◌, ◌++◌, length, Option, Some, None, refl, sym, ap, subst, ◌∙◌, append_assoc, append-nil, arith}
use Rattle.std.specs.List.{AllByRecursion}
use Rattle.std.specs.Option.{unwrap_or}
use Rattle.std.proofs.lemmas.Bool.{ne_eqb}
use Rattle.nr_spec_log.specs.Chain.{LogEntry}
use Rattle.nr_spec_entry.specs.Contents.{Ack, Checkpoint, Commit, Content, Promise, Recv, Send, State, most_neighbours}
use Rattle.nr_spec_entry.specs.ContentReading.{content_of}
use Rattle.nr_spec_routes.specs.LookBack.{later_or}
use Rattle.nr_spec_counts.specs.Tallies.{Numbers, Tally, ack_from, is_commit, is_commit_to, is_exchange_with, is_send_to, nothing_yet, promise_in, tally_after}
use Rattle.nr_spec_counts.specs.Steps.{counted}
use Rattle.nr_spec_counts.proofs.OneMore.{one_counted}
use Rattle.nr_spec_bounds.specs.Bounds.{AreStated, HasRoom, IsForce, IsOldest, IsTally, most_counted}
use Rattle.nr_laws_bounds.proofs.ContentFits.{IsFull, IsFullOr, content_full}

-- after no more than k entries, from a base
record IsWithin (base : Tally) (k : ℕ) (t : Tally) : Type 0 where
  pub last : t.last < 2 ^ 64
  pub force : IsForce t.in_force
  pub commits : t.commits ≤ base.commits + k
  pub sends : (n : ℕ) → t.sends n ≤ base.sends n + k
  pub acked : (n : ℕ) → t.acked n < 2 ^ 64
  pub oldest : (n : ℕ) → IsOldest (t.oldest n)
  pub no_sends : (n : ℕ) → most_neighbours ≤ n → t.sends n ≡ 0
  pub no_acked : (n : ℕ) → most_neighbours ≤ n → t.acked n ≡ 0
  pub no_oldest : (n : ℕ) → most_neighbours ≤ n → t.oldest n ≡ None

one_more : (b : Bool) (x y k : ℕ) → x ≤ y + k → x + cond b 1 0 ≤ y + (k + 1)
one_more true x y k le = omega arith
one_more false x y k le = omega arith

no_more : (b : Bool) (x : ℕ) → b ≡ false → x ≡ 0 → x + cond b 1 0 ≡ 0
no_more true x e h = absurd cc
no_more false x e h = omega (arith, h)

send_apart : (n : ℕ) (c : Option Content) → IsFullOr c → most_neighbours ≤ n → is_send_to n c ≡ false
send_apart n None h le = refl
send_apart n (Some (Send m as4 raw)) h le = let lt = h.0 in ne_eqb m n (λ e. omega (arith, e, lt))
send_apart n (Some (Recv m as4 raw)) h le = refl
send_apart n (Some (State m old new)) h le = refl
send_apart n (Some (Ack m upto seq time hash sig)) h le = refl
send_apart n (Some (Commit m leaf)) h le = refl
send_apart n (Some (Checkpoint body)) h le = refl
send_apart n (Some (Promise file count delay)) h le = refl

exchange_apart : (n : ℕ) (c : Option Content) → IsFullOr c → most_neighbours ≤ n → is_exchange_with n c ≡ false
exchange_apart n None h le = refl
exchange_apart n (Some (Send m as4 raw)) h le = let lt = h.0 in ne_eqb m n (λ e. omega (arith, e, lt))
exchange_apart n (Some (Recv m as4 raw)) h le = let lt = h.0 in ne_eqb m n (λ e. omega (arith, e, lt))
exchange_apart n (Some (State m old new)) h le = refl
exchange_apart n (Some (Ack m upto seq time hash sig)) h le = refl
exchange_apart n (Some (Commit m leaf)) h le = refl
exchange_apart n (Some (Checkpoint body)) h le = refl
exchange_apart n (Some (Promise file count delay)) h le = refl

ack_low : (b : Bool) (upto x : ℕ) → upto < 2 ^ 64 → x < 2 ^ 64 → unwrap_or (cond b (Some upto) None) x < 2 ^ 64
ack_low true upto x u h = u
ack_low false upto x u h = h

acked_low : (n : ℕ) (c : Option Content) (x : ℕ) → IsFullOr c → x < 2 ^ 64 → unwrap_or (ack_from n c) x < 2 ^ 64
acked_low n None x h lt = lt
acked_low n (Some (Send m as4 raw)) x h lt = lt
acked_low n (Some (Recv m as4 raw)) x h lt = lt
acked_low n (Some (State m old new)) x h lt = lt
acked_low n (Some (Ack m upto seq time hash sig)) x h lt = ack_low (eqb m n) upto x h.1 lt
acked_low n (Some (Commit m leaf)) x h lt = lt
acked_low n (Some (Checkpoint body)) x h lt = lt
acked_low n (Some (Promise file count delay)) x h lt = lt

ack_none : (n : ℕ) (c : Option Content) → IsFullOr c → most_neighbours ≤ n → ack_from n c ≡ None
ack_none n None h le = refl
ack_none n (Some (Send m as4 raw)) h le = refl
ack_none n (Some (Recv m as4 raw)) h le = refl
ack_none n (Some (State m old new)) h le = refl
ack_none n (Some (Ack m upto seq time hash sig)) h le = let lt = h.0 in let e : eqb m n ≡ false = ne_eqb m n (λ e. omega (arith, e, lt)) in ap (λ (b : Bool). cond b (Some upto) None) e
ack_none n (Some (Commit m leaf)) h le = refl
ack_none n (Some (Checkpoint body)) h le = refl
ack_none n (Some (Promise file count delay)) h le = refl

oldest_low : (a b : Bool) (o : Option ℕ) (time : ℕ) → IsOldest o → time < 2 ^ 64 → IsOldest (cond a None (later_or o (cond b (Some time) None)))
oldest_low true b o time h lt = tt
oldest_low false b (Some x) time h lt = h
oldest_low false true None time h lt = lt
oldest_low false false None time h lt = tt

oldest_none : (a b : Bool) (o : Option ℕ) (time : ℕ) → b ≡ false → o ≡ None → cond a None (later_or o (cond b (Some time) None)) ≡ None
oldest_none true b o time e h = refl
oldest_none false true o time e h = absurd cc
oldest_none false false o time e h = ap (λ (x : Option ℕ). later_or x None) h

force_low : (c : Option Content) (f : Option Numbers) → IsFullOr c → IsForce f → IsForce (later_or (promise_in c) f)
force_low None f h is = is
force_low (Some (Send m as4 raw)) f h is = is
force_low (Some (Recv m as4 raw)) f h is = is
force_low (Some (State m old new)) f h is = is
force_low (Some (Ack m upto seq time hash sig)) f h is = is
force_low (Some (Commit m leaf)) f h is = is
force_low (Some (Checkpoint body)) f h is = is
force_low (Some (Promise file count delay)) f h is = h

counted_within : (base : Tally) (k : ℕ) (t : Tally) (c : Option Content) (time : ℕ) → IsWithin base k t → IsFullOr c → time < 2 ^ 64 → IsWithin base (k + 1) (counted t c time)
counted_within base k t c time h full lt = record {
  last = lt;
  force = force_low c t.in_force full h.force;
  commits = one_more (is_commit c) t.commits base.commits k h.commits;
  sends = λ n. one_more (is_send_to n c) (t.sends n) (base.sends n) k (h.sends n);
  acked = λ n. acked_low n c (t.acked n) full (h.acked n);
  oldest = λ n. oldest_low (is_commit_to n c) (is_exchange_with n c) (t.oldest n) time (h.oldest n) lt;
  no_sends = λ n le. no_more (is_send_to n c) (t.sends n) (send_apart n c full le) (h.no_sends n le);
  no_acked = λ n le. ap (λ (o : Option ℕ). unwrap_or o (t.acked n)) (ack_none n c full le) ∙ h.no_acked n le;
  no_oldest = λ n le. oldest_none (is_commit_to n c) (is_exchange_with n c) (t.oldest n) time (exchange_apart n c full le) (h.no_oldest n le);
}

within_from : (base : Tally) (past es : List LogEntry) (k : ℕ) → IsWithin base k (tally_after base past) → AreStated es → IsWithin base (k + length es) (tally_after base (past ++ es))
within_from base past [] k h all =
    let e : k ≡ k + 0 = omega arith in
    subst (λ (l : List LogEntry). IsWithin base (k + 0) (tally_after base l)) (sym (append-nil past)) (subst (λ (m : ℕ). IsWithin base m (tally_after base past)) e h)
within_from base past (e ∷ es) k h all =
    let one = counted_within base k (tally_after base past) (content_of e) e.time h (content_full e all.0.content) all.0.time in
    let pushed = subst (λ (t : Tally). IsWithin base (k + 1) t) (sym (one_counted base past e)) one in
    let later = within_from base (past ++ e ∷ []) es (k + 1) pushed all.1 in
    let size : k + 1 + length es ≡ k + length (e ∷ es) = omega arith in
    subst (λ (l : List LogEntry). IsWithin base (k + length (e ∷ es)) (tally_after base l)) (append_assoc past (e ∷ []) es) (subst (λ (m : ℕ). IsWithin base m (tally_after base (past ++ e ∷ [] ++ es))) size later)

begins : (base : Tally) → IsTally base → IsWithin base 0 base
begins base is = record {
  last = is.last;
  force = is.force;
  commits = omega arith;
  sends = λ n. omega arith;
  acked = is.acked;
  oldest = is.oldest;
  no_sends = is.no_sends;
  no_acked = is.no_acked;
  no_oldest = is.no_oldest;
}

nothing_after : (base : Tally) → base ≡ tally_after base []
unfolding tally_after
nothing_after base = λ i. record {
  sends = λ n. no_more_sends (base.sends n) i;
  acked = base.acked;
  oldest = λ n. none_later (base.oldest n) i;
  commits = no_more_sends base.commits i;
  in_force = base.in_force;
  last = base.last;
}
  where
    no_more_sends : (n : ℕ) → n ≡ n + 0
    no_more_sends n = omega arith

    none_later : (o : Option ℕ) → o ≡ later_or o None
    none_later (Some x) = refl
    none_later None = refl

pub tally_fits : (base : Tally) (es : List LogEntry) → IsTally base → AreStated es → HasRoom base (length es) → IsTally (tally_after base es)
tally_fits base es is all room =
    let start = subst (λ (t : Tally). IsWithin base 0 t) (nothing_after base) (begins base is) in
    let h = within_from base [] es 0 start all in
    let c = h.commits in
    let c_room = room.commits in
    record {
      last = h.last;
      force = h.force;
      commits = omega (arith, c, c_room);
      sends = λ n. let s = h.sends n in let s_room = room.sends n in omega (arith, s, s_room);
      acked = h.acked;
      oldest = h.oldest;
      no_sends = h.no_sends;
      no_acked = h.no_acked;
      no_oldest = h.no_oldest;
    }

pub nothing_fits : IsTally nothing_yet
nothing_fits = record {
  last = omega arith;
  force = tt;
  commits = omega arith;
  sends = λ n. omega arith;
  acked = λ n. omega arith;
  oldest = λ n. tt;
  no_sends = λ n le. refl;
  no_acked = λ n le. refl;
  no_oldest = λ n le. refl;
}
