-- What one entry more does to what is known.
use Rattle.std.proofs.Common.{◌≡◌, ℕ, ◌+◌, ◌<◌, ◌≤◌, Bool, true, false, cond, not, ◌&&◌, ◌||◌, eqb, ltb, List, [], ◌∷◌, ◌++◌, length, Option, Some, None, refl, sym, ap, subst, ◌∙◌, arith}
use Rattle.std.proofs.lemmas.Bool.{eqb-true, ltb-true, ltb-false, lt-ltb}
use Rattle.std.proofs.lemmas.Slice.Eq.{bytes_eq-Decides}
use Rattle.std.specs.Option.{unwrap_or}
use Rattle.std.specs.Str.{bytes_eq}
use Rattle.nr_spec_log.specs.Chain.{LogEntry}
use Rattle.nr_spec_entry.specs.Contents.{Ack, Checkpoint, Commit, Content, IsContent, most_neighbours, Promise, Recv, Send, State}
use Rattle.nr_spec_routes.specs.LookBack.{later_or}
use Rattle.nr_spec_counts.specs.Tallies.{nothing_yet, Numbers, Tally, tally_after}
use Rattle.nr_spec_counts.specs.Causes.{is_declared, is_overdue, is_wrong_ack, is_wrong_promise, are_other_numbers, waits_too_long}
use Rattle.nr_spec_counts.specs.Steps.{counted}
use Rattle.nr_spec_steps.specs.Steps.{is_due, is_in_force, known, made}
use Rattle.nr_laws_entry.proofs.Spelled.{content_again}
use Rattle.nr_spec_counts.proofs.OneMore.{one_counted}
use Rattle.nr_laws_accuracy.proofs.Ranges.{but}

pub known_next : (log : List LogEntry) (now : ℕ) (c : Content) → IsContent c → known (log ++ made now c ∷ []) ≡ counted (known log) (Some c) now
known_next log now c h = one_counted nothing_yet log (made now c) ∙ ap (λ x. counted (known log) x now) (content_again c h)

-- ---- who is overdue

pub and_false : (a : Bool) → (a && false) ≡ false
and_false true = refl
and_false false = refl

pub and_true : (a : Bool) → (a && true) ≡ a
and_true true = refl
and_true false = refl

cut : (a b : Bool) (delay now : ℕ) (o : Option ℕ) → (a && waits_too_long delay now (cond b None (later_or o None))) ≡ ((a && waits_too_long delay now o) && not b)
cut false b delay now o = refl
cut true true delay now o = sym (and_false (waits_too_long delay now o))
cut true false delay now None = refl
cut true false delay now (Some since) = sym (and_true (waits_too_long delay now (Some since)))

-- a COMMIT takes its neighbour from those that are overdue, and no other
due_by : (f : Option Numbers) (t : Tally) (n leaf now m : ℕ) → is_overdue (counted t (Some (Commit n leaf)) now) now f m ≡ but (is_overdue t now f) n m
due_by None t n leaf now m = refl
due_by (Some g) t n leaf now m = cut (ltb m g.count) (eqb n m) g.delay now (t.oldest m)

pub due_but : (t : Tally) (n leaf now m : ℕ) → is_due (counted t (Some (Commit n leaf)) now) now m ≡ but (is_due t now) n m
due_but t n leaf now m = due_by t.in_force t n leaf now m

stays : (a : Bool) (delay now : ℕ) (o : Option ℕ) → (a && waits_too_long delay now (later_or o None)) ≡ (a && waits_too_long delay now o)
stays a delay now None = refl
stays a delay now (Some since) = refl

same_by : (f : Option Numbers) (t : Tally) (body : List ℕ) (now m : ℕ) → is_overdue (counted t (Some (Checkpoint body)) now) now f m ≡ is_overdue t now f m
same_by None t body now m = refl
same_by (Some g) t body now m = stays (ltb m g.count) g.delay now (t.oldest m)

pub due_same : (t : Tally) (body : List ℕ) (now m : ℕ) → is_due (counted t (Some (Checkpoint body)) now) now m ≡ is_due t now m
due_same t body now m = same_by t.in_force t body now m

pub both_true : (a b : Bool) → (a && b) ≡ true → (a ≡ true) × (b ≡ true)
both_true true true e = (refl, refl)
both_true true false e = absurd cc
both_true false b e = absurd cc

-- who is overdue is declared by the promise in force
pub record Declares (f : Option Numbers) (n : ℕ) : Type 0 where
  pub force : Numbers
  pub is : f ≡ Some force
  pub below : n < force.count
  pub fits : n < most_neighbours

overdue_declared : (f : Option Numbers) (t : Tally) (now n : ℕ) → n < most_neighbours → is_overdue t now f n ≡ true → Declares f n
overdue_declared None t now n lt e = absurd cc
overdue_declared (Some g) t now n lt e =
    let h = both_true (ltb n g.count) (waits_too_long g.delay now (t.oldest n)) e in
    record { force = g; is = refl; below = ltb-true _ _ h.0; fits = lt }

pub due_declared : (t : Tally) (now n : ℕ) → (is_due t now n ≡ true) × (n < most_neighbours) → Declares t.in_force n
due_declared t now n h = overdue_declared t.in_force t now n h.1 h.0

pub declared_is : (f : Option Numbers) (n : ℕ) → Declares f n → is_declared f n ≡ true
declared_is f n d = ap (λ x. is_declared x n) d.is ∙ lt-ltb _ _ d.below

-- where a promise is in force there is an entry
pub not_first : (log : List LogEntry) (g : Numbers) → (known log).in_force ≡ Some g → length log ≡ 0 → ⊥
unfolding tally_after
not_first [] g e h = cc
not_first (x ∷ log) g e h = omega arith

-- ---- what holds of what is known

pub bytes_same : (xs : List ℕ) → bytes_eq xs xs ≡ true
bytes_same xs = (bytes_eq-Decides xs xs).1 refl

-- No neighbour acknowledged more than was sent, and a promise in force that has the own digest is the own one.
pub record Sound (own : Numbers) (t : Tally) : Type 0 where
  pub acks : (n : ℕ) → t.acked n ≤ t.sends n
  pub force : (g : Numbers) → t.in_force ≡ Some g → bytes_eq g.digest own.digest ≡ true → g ≡ own

own_by : (own : Numbers) (f : Option Numbers) → ((g : Numbers) → f ≡ Some g → bytes_eq g.digest own.digest ≡ true → g ≡ own) → is_in_force own f ≡ true → f ≡ Some own
own_by own None fair e = absurd cc
own_by own (Some g) fair e = ap (λ (x : Numbers). Some x) (fair g refl e)

pub own_in_force : (own : Numbers) (t : Tally) → Sound own t → is_in_force own t.in_force ≡ true → t.in_force ≡ Some own
own_in_force own t sound e = own_by own t.in_force sound.force e

pub neither : (a b : Bool) → (a || b) ≡ false → (a ≡ false) × (b ≡ false)
neither true b e = absurd cc
neither false true e = absurd cc
neither false false e = (refl, refl)

more : (b : Bool) (m n : ℕ) → m ≤ n → m ≤ n + cond b 1 0
more true m n le = omega arith
more false m n le = omega arith

acked_by : (b : Bool) (k n upto : ℕ) (t : Tally) → eqb k n ≡ b → t.acked n ≤ t.sends n → upto ≤ t.sends k → unwrap_or (cond b (Some upto) None) (t.acked n) ≤ t.sends n + 0
acked_by true k n upto t is le most = let same : k ≡ n = eqb-true _ _ is in subst (λ (x : ℕ). upto ≤ t.sends x + 0) same (omega (arith, most))
acked_by false k n upto t is le most = omega (arith, le)

acks_next : (t : Tally) (c : Content) (now : ℕ) → ((n : ℕ) → t.acked n ≤ t.sends n) → is_wrong_ack t c ≡ false → (n : ℕ) → (counted t (Some c) now).acked n ≤ (counted t (Some c) now).sends n
acks_next t (Send k as4 raw) now acks e n = more (eqb k n) (t.acked n) (t.sends n) (acks n)
acks_next t (Recv k as4 raw) now acks e n = more false (t.acked n) (t.sends n) (acks n)
acks_next t (State k old new) now acks e n = more false (t.acked n) (t.sends n) (acks n)
acks_next t (Ack k upto seq time hash sig) now acks e n =
    let h = neither (ltb upto (t.acked k)) (ltb (t.sends k) upto) e in
    acked_by (eqb k n) k n upto t refl (acks n) (ltb-false _ _ h.1)
acks_next t (Commit k leaf) now acks e n = more false (t.acked n) (t.sends n) (acks n)
acks_next t (Checkpoint body) now acks e n = more false (t.acked n) (t.sends n) (acks n)
acks_next t (Promise file count delay) now acks e n = more false (t.acked n) (t.sends n) (acks n)

other_is : (b : Bool) (own : Numbers) (count delay : ℕ) → are_other_numbers count delay (cond b (Some own) None) ≡ (b && not (eqb count own.count && eqb delay own.delay))
other_is true own count delay = refl
other_is false own count delay = refl

-- of one file
pub wrong_promise_is : (own : Numbers) (file : List ℕ) (count delay : ℕ) → is_wrong_promise (own ∷ []) (Promise file count delay) ≡ (bytes_eq file own.digest && not (eqb count own.count && eqb delay own.delay))
wrong_promise_is own file count delay = other_is (bytes_eq file own.digest) own count delay

own_numbers : (own g : Numbers) → (bytes_eq g.digest own.digest && not (eqb g.count own.count && eqb g.delay own.delay)) ≡ false → bytes_eq g.digest own.digest ≡ true → g ≡ own
own_numbers own g e h = by (eqb g.count own.count) (eqb g.delay own.delay) refl refl (subst (λ (b : Bool). (b && not (eqb g.count own.count && eqb g.delay own.delay)) ≡ false) h e)
  where
    by : (a b : Bool) → eqb g.count own.count ≡ a → eqb g.delay own.delay ≡ b → not (a && b) ≡ false → g ≡ own
    by true true ca da e =
        let d : g.digest ≡ own.digest = (bytes_eq-Decides g.digest own.digest).0 h in
        let c : g.count ≡ own.count = eqb-true _ _ ca in
        let w : g.delay ≡ own.delay = eqb-true _ _ da in
        λ i. record { digest = d i; count = c i; delay = w i }
    by true false ca da e = absurd cc
    by false b ca da e = absurd cc

force_next : (own : Numbers) (t : Tally) (c : Content) (now : ℕ) → ((g : Numbers) → t.in_force ≡ Some g → bytes_eq g.digest own.digest ≡ true → g ≡ own) → is_wrong_promise (own ∷ []) c ≡ false
    → (g : Numbers) → (counted t (Some c) now).in_force ≡ Some g → bytes_eq g.digest own.digest ≡ true → g ≡ own
force_next own t (Send k as4 raw) now fair e g is = fair g is
force_next own t (Recv k as4 raw) now fair e g is = fair g is
force_next own t (State k old new) now fair e g is = fair g is
force_next own t (Ack k upto seq time hash sig) now fair e g is = fair g is
force_next own t (Commit k leaf) now fair e g is = fair g is
force_next own t (Checkpoint body) now fair e g is = fair g is
force_next own t (Promise file count delay) now fair e g is =
    let new : Numbers = record { digest = file; count = count; delay = delay } in
    let same : new ≡ g = cc in
    subst (λ (x : Numbers). bytes_eq x.digest own.digest ≡ true → x ≡ own) same (own_numbers own new (sym (wrong_promise_is own file count delay) ∙ e))

-- What isn't wrong by an ACK or a PROMISE keeps it.
pub sound_next : (own : Numbers) (t : Tally) (c : Content) (now : ℕ) → is_wrong_ack t c ≡ false → is_wrong_promise (own ∷ []) c ≡ false → Sound own t → Sound own (counted t (Some c) now)
sound_next own t c now ack numbers sound = record {
  acks = acks_next t c now sound.acks ack;
  force = force_next own t c now sound.force numbers;
}

-- before the first entry
pub sound_first : (own : Numbers) → Sound own (known [])
unfolding tally_after
sound_first own = record { acks = λ n. omega arith; force = λ g e. absurd cc }
