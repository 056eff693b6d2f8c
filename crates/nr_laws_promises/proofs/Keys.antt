-- The keys of the promises of files at prefixes: in order, and which they are.
use Rattle.std.proofs.Common.{◌≡◌, inl, inr, ◌↔◌, ◌==◌, ◌≤◌, ◌<◌, ◌+◌, ℕ, zero, suc, eqb-true, Bool, true, false, ◌&&◌, List, [], ◌∷◌, Some, refl, ap, sym, subst, ◌∙◌, arith}
use Rattle.std.specs.Prelude.{◌||◌, map, slice_get}
use Rattle.std.specs.List.{AllByRecursion, list_any}
use Rattle.std.specs.List.Sorted.{IsStrictlySortedBy}
use Rattle.std.specs.Cmp.{IsTotalOrder, nat_cmp_total}
use Rattle.std.specs.Ordering.{is_eq, ordering_reverse}
use Rattle.std.specs.declared.cmp.Ordering.{Ordering}
use Rattle.std.specs.declared.cmp.Ordering.TheVariants.{Less, Equal, Greater}
use Rattle.std.proofs.lemmas.Cmp.{on_total, then_total}
use Rattle.std.proofs.lemmas.Bool.Decides.{nat_tests}
use Rattle.nr_spec_bgp.specs.Prefixes.{Cidr}
use Rattle.nr_spec_routes.specs.Keys.{cidr_cmp, is_named}
use Rattle.nr_spec_routes.proofs.KeyOrder.{exact_cidrs}
use Rattle.nr_spec_typing.specs.declared.text.Promise.{Promise}
use Rattle.nr_spec_runs.specs.Runs.{Key, key_cmp, key_of, same_key, same_prefix, same_promise}
use Rattle.nr_spec_promises.specs.Files.{PromiseFile, promise_of}
use Rattle.nr_spec_promises.specs.Found.{keys_from, keys_in}
use Rattle.nr_laws_promises.specs.BrokenRows.{IsOneOf}
use Rattle.nr_laws_promises.proofs.Members.{all_append, all_by_one, all_from, from_mapped, kept_sorted, one_left, one_mapped, one_right, sorted_append}

pub keys_total : IsTotalOrder key_cmp
keys_total =
    then_total (on_total (λ (k : Key). k.file) nat_cmp_total) (then_total (on_total (λ (k : Key). k.promise) nat_cmp_total)
    (then_total (on_total (λ (k : Key). k.prefix.addr) nat_cmp_total) (on_total (λ (k : Key). k.prefix.len) nat_cmp_total)))

-- ---- one key

both : (a b : Bool) → (a && b) ≡ true → (a ≡ true) × (b ≡ true)
both true true h = (refl, refl)
both true false h = absurd cc
both false b h = absurd cc

pub same_means : (k o : Key) → same_key k o ≡ true → k ≡ o
same_means k o h =
    let parts = both (same_promise k o) (same_prefix k.prefix o.prefix) h in
    let numbers = both (k.file == o.file) (k.promise == o.promise) parts.0 in
    let fields = both (k.prefix.addr == o.prefix.addr) (k.prefix.len == o.prefix.len) parts.1 in
    let file : k.file ≡ o.file = eqb-true k.file o.file numbers.0 in
    let promise : k.promise ≡ o.promise = eqb-true k.promise o.promise numbers.1 in
    let addr : k.prefix.addr ≡ o.prefix.addr = eqb-true k.prefix.addr o.prefix.addr fields.0 in
    let len : k.prefix.len ≡ o.prefix.len = eqb-true k.prefix.len o.prefix.len fields.1 in
    λ i. record { file = file i; promise = promise i; prefix = record { addr = addr i; len = len i } }

same_number : (n : ℕ) → (n == n) ≡ true
same_number n = grind arith

pub same_itself : (k : Key) → same_key k k ≡ true
same_itself k = λ i. (same_number k.file i && same_number k.promise i) && (same_number k.prefix.addr i && same_number k.prefix.len i)

-- whether they are the same by the order
pub same_cmp : (k o : Key) → same_key k o ≡ is_eq (key_cmp k o)
same_cmp k o = grind (arith, nat_tests)

pub equal_keys : (k o : Key) → key_cmp k o ≡ Equal → k ≡ o
equal_keys k o h = same_means k o (same_cmp k o ∙ ap is_eq h)

pub apart_before : (k o : Key) → key_cmp k o ≡ Less → same_key k o ≡ false
apart_before k o h = same_cmp k o ∙ ap is_eq h

pub apart_after : (k o : Key) → key_cmp o k ≡ Less → same_key k o ≡ false
apart_after k o h = same_cmp k o ∙ ap is_eq (keys_total.antisymm k o ∙ ap ordering_reverse h)

pub one_of_keys : (key : Key) (keys : List Key) → list_any (same_key key) keys ≡ true → IsOneOf key keys
one_of_keys key [] h = absurd cc
one_of_keys key (k ∷ keys) h = by (same_key key k) refl h (one_of_keys key keys)
  where
    by : (b : Bool) → same_key key k ≡ b → (b || list_any (same_key key) keys) ≡ true → (list_any (same_key key) keys ≡ true → IsOneOf key keys) → IsOneOf key (k ∷ keys)
    by true e h ih = inl (same_means key k e)
    by false e h ih = inr (ih h)

pub among_keys : (key : Key) (keys : List Key) → IsOneOf key keys → list_any (same_key key) keys ≡ true
among_keys key [] h = absurd h
among_keys key (k ∷ keys) (inl e) = ap (λ t. t || list_any (same_key key) keys) (ap (same_key key) (sym e) ∙ same_itself key)
among_keys key (k ∷ keys) (inr h) = ap (λ t. same_key key k || t) (among_keys key keys h) ∙ or_true (same_key key k)
  where
    or_true : (b : Bool) → (b || true) ≡ true
    or_true true = refl
    or_true false = refl

-- ---- in order

later_promise : (k o : Key) → o.file ≡ k.file → k.promise < o.promise → key_cmp k o ≡ Less
later_promise k o e l = grind (arith, nat_tests)

later_file : (k o : Key) → k.file < o.file → key_cmp k o ≡ Less
later_file k o l = grind (arith, nat_tests)

later_prefix : (file r : ℕ) (p q : Cidr) → cidr_cmp p q ≡ Less → key_cmp (key_of file r p) (key_of file r q) ≡ Less
later_prefix file r p q h = grind (arith, nat_tests)

abbrev IsFrom : ℕ → ℕ → Key → Type 0
IsFrom file r k = (k.file ≡ file) × (r ≤ k.promise)

keys_of_file : (prefixes : List Cidr) (file r : ℕ) (promises : List Promise) → AllByRecursion (IsFrom file r) (keys_in prefixes file r promises)
keys_of_file prefixes file r [] = tt
keys_of_file prefixes file r (promise ∷ promises) =
    all_append (IsFrom file r) (map (key_of file r) prefixes) (keys_in prefixes file (suc r) promises)
    (all_by_one (IsFrom file r) (map (key_of file r) prefixes) (λ k one.
    let found = from_mapped (key_of file r) k prefixes one in (ap (λ (x : Key). x.file) found.1, subst (λ n. r ≤ n) (sym (ap (λ (x : Key). x.promise) found.1)) (omega arith))))
    (all_from (IsFrom file (suc r)) (IsFrom file r) (keys_in prefixes file (suc r) promises) (λ k h. (h.0, less r k.promise h.1)) (keys_of_file prefixes file (suc r) promises))
  where
    less : (n m : ℕ) → suc n ≤ m → n ≤ m
    less n m h = omega (arith, h)

abbrev IsSince : ℕ → Key → Type 0
IsSince file k = file ≤ k.file

keys_since : (prefixes : List Cidr) (file : ℕ) (files : List PromiseFile) → AllByRecursion (IsSince file) (keys_from prefixes file files)
keys_since prefixes file [] = tt
keys_since prefixes file (f ∷ files) =
    all_append (IsSince file) (keys_in prefixes file 0 f.promises) (keys_from prefixes (suc file) files)
    (all_from (IsFrom file 0) (IsSince file) (keys_in prefixes file 0 f.promises) (λ k h. subst (λ n. file ≤ n) (sym h.0) (omega arith)) (keys_of_file prefixes file 0 f.promises))
    (all_from (IsSince (suc file)) (IsSince file) (keys_from prefixes (suc file) files) (λ k h. less file k.file h) (keys_since prefixes (suc file) files))
  where
    less : (n m : ℕ) → suc n ≤ m → n ≤ m
    less n m h = omega (arith, h)

file_ascends : (prefixes : List Cidr) (file r : ℕ) (promises : List Promise) → IsStrictlySortedBy cidr_cmp prefixes → IsStrictlySortedBy key_cmp (keys_in prefixes file r promises)
unfolding IsStrictlySortedBy
file_ascends prefixes file r [] h = tt
file_ascends prefixes file r (promise ∷ promises) h =
    let rest : List Key = keys_in prefixes file (suc r) promises in
    sorted_append key_cmp (map (key_of file r) prefixes) rest (kept_sorted cidr_cmp key_cmp (key_of file r) prefixes (later_prefix file r) h)
    (file_ascends prefixes file (suc r) promises h)
    (all_by_one (λ x. AllByRecursion (λ y. key_cmp x y ≡ Less) rest) (map (key_of file r) prefixes) (λ x one.
    let found = from_mapped (key_of file r) x prefixes one in
    all_from (IsFrom file (suc r)) (λ y. key_cmp x y ≡ Less) rest
    (λ y k. ap (λ z. key_cmp z y) found.1 ∙ later_promise (key_of file r found.0) y k.0 (more r y.promise k.1)) (keys_of_file prefixes file (suc r) promises)))
  where
    more : (n m : ℕ) → suc n ≤ m → n < m
    more n m h = omega (arith, h)

pub keys_ascend : (prefixes : List Cidr) (file : ℕ) (files : List PromiseFile) → IsStrictlySortedBy cidr_cmp prefixes → IsStrictlySortedBy key_cmp (keys_from prefixes file files)
unfolding IsStrictlySortedBy
keys_ascend prefixes file [] h = tt
keys_ascend prefixes file (f ∷ files) h =
    let rest : List Key = keys_from prefixes (suc file) files in
    sorted_append key_cmp (keys_in prefixes file 0 f.promises) rest (file_ascends prefixes file 0 f.promises h) (keys_ascend prefixes (suc file) files h)
    (all_from (IsFrom file 0) (λ x. AllByRecursion (λ y. key_cmp x y ≡ Less) rest) (keys_in prefixes file 0 f.promises) (λ x k.
    all_from (IsSince (suc file)) (λ y. key_cmp x y ≡ Less) rest (λ y l. later_file x y (more file x.file y.file k.0 l)) (keys_since prefixes (suc file) files))
    (keys_of_file prefixes file 0 f.promises))
  where
    more : (n m o : ℕ) → m ≡ n → suc n ≤ o → m < o
    more n m o e h = omega (arith, e, h)

-- ---- which they are

equal_itself : (p : Cidr) → is_eq (cidr_cmp p p) ≡ true
equal_itself p = grind (arith, nat_tests)

one_named : (p : Cidr) (ps : List Cidr) → IsOneOf p ps → is_named ps p ≡ true
one_named p [] h = absurd h
one_named p (q ∷ ps) (inl e) = ap (λ t. t || is_named ps p) (ap (λ c. is_eq (cidr_cmp c p)) (sym e) ∙ equal_itself p)
one_named p (q ∷ ps) (inr h) = ap (λ t. is_eq (cidr_cmp q p) || t) (one_named p ps h) ∙ or_true (is_eq (cidr_cmp q p))
  where
    or_true : (b : Bool) → (b || true) ≡ true
    or_true true = refl
    or_true false = refl

named_one : (p : Cidr) (ps : List Cidr) → is_named ps p ≡ true → IsOneOf p ps
named_one p [] h = absurd cc
named_one p (q ∷ ps) h = by (is_eq (cidr_cmp q p)) refl h (named_one p ps)
  where
    at_equal : (o : Ordering) → is_eq o ≡ true → o ≡ Equal
    at_equal Less e = absurd cc
    at_equal Equal e = refl
    at_equal Greater e = absurd cc

    by : (b : Bool) → is_eq (cidr_cmp q p) ≡ b → (b || is_named ps p) ≡ true → (is_named ps p ≡ true → IsOneOf p ps) → IsOneOf p (q ∷ ps)
    by true e h ih = inl (sym (exact_cidrs q p (at_equal (cidr_cmp q p) e)))
    by false e h ih = inr (ih h)

pub named_is : (p : Cidr) (ps : List Cidr) → (is_named ps p ≡ true) ↔ IsOneOf p ps
named_is p ps = (named_one p ps, one_named p ps)

key_in_file : (prefixes : List Cidr) (file s : ℕ) (promises : List Promise) (j r : ℕ) (promise : Promise) (p : Cidr) → r ≡ s + j → slice_get promises j ≡ Some promise
    → IsOneOf p prefixes → IsOneOf (key_of file r p) (keys_in prefixes file s promises)
key_in_file prefixes file s [] j r promise p e is h = absurd cc
key_in_file prefixes file s (x ∷ promises) zero r promise p e is h =
    let n : r ≡ s = omega (arith, e) in
    one_left (key_of file r p) (map (key_of file s) prefixes) (keys_in prefixes file (suc s) promises)
    (subst (λ k. IsOneOf (key_of file k p) (map (key_of file s) prefixes)) (sym n) (one_mapped (key_of file s) p prefixes h))
key_in_file prefixes file s (x ∷ promises) (suc j) r promise p e is h =
    one_right (key_of file r p) (map (key_of file s) prefixes) (keys_in prefixes file (suc s) promises)
    (key_in_file prefixes file (suc s) promises j r promise p (omega (arith, e)) is h)

key_since : (prefixes : List Cidr) (n : ℕ) (files : List PromiseFile) (i file r : ℕ) (promise : Promise) (p : Cidr) → file ≡ n + i → promise_of (slice_get files i) r ≡ Some promise
    → IsOneOf p prefixes → IsOneOf (key_of file r p) (keys_from prefixes n files)
key_since prefixes n [] i file r promise p e is h = absurd cc
key_since prefixes n (f ∷ files) zero file r promise p e is h =
    let m : file ≡ n = omega (arith, e) in
    one_left (key_of file r p) (keys_in prefixes n 0 f.promises) (keys_from prefixes (suc n) files)
    (subst (λ k. IsOneOf (key_of k r p) (keys_in prefixes n 0 f.promises)) (sym m) (key_in_file prefixes n 0 f.promises r r promise p (omega arith) is h))
key_since prefixes n (f ∷ files) (suc i) file r promise p e is h =
    one_right (key_of file r p) (keys_in prefixes n 0 f.promises) (keys_from prefixes (suc n) files)
    (key_since prefixes (suc n) files i file r promise p (omega (arith, e)) is h)

-- a promise that is there at a prefix
pub key_there : (prefixes : List Cidr) (files : List PromiseFile) (key : Key) (promise : Promise) → promise_of (slice_get files key.file) key.promise ≡ Some promise
    → is_named prefixes key.prefix ≡ true → IsOneOf key (keys_from prefixes 0 files)
key_there prefixes files key promise is h =
    key_since prefixes 0 files key.file key.file key.promise promise key.prefix (omega arith) is (named_one key.prefix prefixes h)
