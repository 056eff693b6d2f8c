-- Neighbours one after another, lowest first.
use Rattle.std.proofs.Common.{◌≡◌, ℕ, zero, suc, ◌+◌, ◌-◌, ◌<◌, ◌≤◌, Bool, true, false, cond, List, [], ◌∷◌, ◌++◌, length, filter, refl, sym, ap, ◌∙◌, length-append, append_assoc, not, ◌&&◌, arith}
use Rattle.std.specs.List.{range_with_len}
use Rattle.std.proofs.lemmas.List.{append-nil}
use Rattle.std.proofs.lemmas.List.Elements.{filter-append}
use Rattle.std.proofs.lemmas.List.Sums.{count_by-le-length, length-filter}
use Rattle.std.proofs.lemmas.List.FromFn.{length-range_with_len}
use Rattle.nr_spec_counts.specs.Tallies.{Tally}
use Rattle.nr_spec_steps.specs.Events.{Begin, Close, Event, FrameCame, Heard, Said, StateChanged}
use Rattle.nr_spec_steps.specs.Steps.{heads_for, is_due, neighbours_with, passing, waits}

range-more : (a n : ℕ) → range_with_len a (suc n) ≡ range_with_len a n ++ (a + n) ∷ []
range-more a zero = ap (λ (k : ℕ). k ∷ []) (omega arith)
range-more a (suc n) =
    let next : a + 1 + n ≡ a + suc n = omega arith in
    ap (λ (t : List ℕ). a ∷ t) (range-more (a + 1) n ∙ ap (λ (k : ℕ). range_with_len (a + 1) n ++ k ∷ []) next)

one_filtered : (test : ℕ → Bool) (n : ℕ) (b : Bool) → test n ≡ b → filter test (n ∷ []) ≡ cond b (n ∷ []) []
one_filtered test n b e = rw e refl

filter_next : (test : ℕ → Bool) (n : ℕ) (b : Bool) → test n ≡ b → filter test (range_with_len 0 (n + 1)) ≡ filter test (range_with_len 0 n) ++ cond b (n ∷ []) []
filter_next test n b is =
    let next : n + 1 ≡ suc n = omega arith in
    let at : 0 + n ≡ n = omega arith in
    ap (λ (k : ℕ). filter test (range_with_len 0 k)) next ∙ ap (filter test) (range-more 0 n ∙ ap (λ (k : ℕ). range_with_len 0 n ++ k ∷ []) at)
    ∙ filter-append test (range_with_len 0 n) (n ∷ []) ∙ ap (λ (t : List ℕ). filter test (range_with_len 0 n) ++ t) (one_filtered test n b is)

-- those below n that pass, behind others
pub none_yet : (test : ℕ → Bool) (before : List ℕ) → before ≡ before ++ filter test (range_with_len 0 0)
none_yet test before = sym (append-nil before)

pub passes : (test : ℕ → Bool) (before now new : List ℕ) (n : ℕ) → now ≡ before ++ filter test (range_with_len 0 n) → test n ≡ true → new ≡ now ++ n ∷ [] → new ≡ before ++ filter test (range_with_len 0 (n + 1))
passes test before now new n so_far is more =
    more ∙ ap (λ (t : List ℕ). t ++ n ∷ []) so_far ∙ append_assoc before (filter test (range_with_len 0 n)) (n ∷ []) ∙ ap (λ (t : List ℕ). before ++ t) (sym (filter_next test n true is))

pub fails : (test : ℕ → Bool) (before now : List ℕ) (n : ℕ) → now ≡ before ++ filter test (range_with_len 0 n) → test n ≡ false → now ≡ before ++ filter test (range_with_len 0 (n + 1))
fails test before now n so_far is =
    so_far ∙ ap (λ (t : List ℕ). before ++ t) (sym (filter_next test n false is ∙ append-nil (filter test (range_with_len 0 n))))

-- from a number on none passes
none_from : (test : ℕ → Bool) (n k : ℕ) → ((m : ℕ) → n ≤ m → m < n + k → test m ≡ false) → filter test (range_with_len 0 n) ≡ filter test (range_with_len 0 (n + k))
none_from test n zero miss = let e : n ≡ n + 0 = omega arith in ap (λ (m : ℕ). filter test (range_with_len 0 m)) e
none_from test n (suc k) miss =
    let e : n + k + 1 ≡ n + suc k = omega arith in
    none_from test n k (λ m le lt. miss m le (omega (arith, lt)))
    ∙ (sym (filter_next test (n + k) false (miss (n + k) (omega arith) (omega arith)) ∙ append-nil (filter test (range_with_len 0 (n + k))))
    ∙ ap (λ (m : ℕ). filter test (range_with_len 0 m)) e)

pub all_passed : (test : ℕ → Bool) (before now : List ℕ) (n : ℕ) → n ≤ 256 → ((m : ℕ) → n ≤ m → m < 256 → test m ≡ false) → now ≡ before ++ filter test (range_with_len 0 n) → now ≡ before ++ neighbours_with test
unfolding passing
all_passed test before now n low miss so_far =
    let e : n + (256 - n) ≡ 256 = omega arith in
    so_far ∙ ap (λ (t : List ℕ). before ++ t) (none_from test n (256 - n) (λ m le lt. miss m le (omega (arith, lt)))
    ∙ ap (λ (m : ℕ). filter test (range_with_len 0 m)) e)

pub none_passes : (test : ℕ → Bool) (before now : List ℕ) → ((m : ℕ) → test m ≡ false) → now ≡ before → now ≡ before ++ neighbours_with test
none_passes test before now miss same = all_passed test before now 0 (omega arith) (λ m le lt. miss m) (same ∙ none_yet test before)

-- ---- how many

few_below : (bound : ℕ) (test : ℕ → Bool) → length (passing bound test) ≤ bound
unfolding passing
few_below bound test =
    omega (arith, length-filter test (range_with_len 0 bound), count_by-le-length test (range_with_len 0 bound), length-range_with_len 0 bound)

few_passing : (test : ℕ → Bool) → length (neighbours_with test) ≤ 256
few_passing test = few_below 256 test

pub few_heads : (t : Tally) (now : ℕ) (event : Event) → length (heads_for t now event) ≤ 512
few_heads t now (Close time) =
    let due = few_passing (is_due t now) in
    let waiting = few_passing (λ n. waits t n && not (is_due t now n)) in
    let size = length-append (neighbours_with (is_due t now)) (neighbours_with (λ n. waits t n && not (is_due t now n))) in
    omega arith
few_heads t now (Begin time) = let due = few_passing (is_due t now) in omega arith
few_heads t now (Heard time n as4 raw) = let due = few_passing (is_due t now) in omega arith
few_heads t now (Said time n as4 raw) = let due = few_passing (is_due t now) in omega arith
few_heads t now (StateChanged time n old new) = let due = few_passing (is_due t now) in omega arith
few_heads t now (FrameCame bytes) = let due = few_passing (is_due t now) in omega arith
