-- Rows without one.
use Rattle.std.proofs.Common.{◌≡◌, ◌==◌, ℕ, Bool, true, false, cond, ◌||◌, List, [], ◌∷◌, Option, Some, None, refl, ap, sym, ◌∙◌, arith, take}
use Rattle.std.specs.Prelude.{is_some, map, if◌then◌else◌}
use Rattle.std.specs.Map.{lookup, remove_entry}
use Rattle.std.specs.BTreeMap.{is_at}
use Rattle.std.specs.BTreeSet.{insert_key}
use Rattle.std.specs.Ordering.{is_eq}
use Rattle.std.specs.declared.cmp.Ordering.{Ordering}
use Rattle.std.specs.declared.cmp.Ordering.TheVariants.{Less, Equal, Greater}
use Rattle.std.proofs.lemmas.Bool.Decides.{nat_tests}
use Rattle.nr_spec_bgp.specs.Prefixes.{Cidr}
use Rattle.nr_spec_bgp.specs.Attributes.{AttributeBlock}
use Rattle.nr_spec_routes.specs.Keys.{Key, Row, cidr_cmp, is_named, key_cmp, prefixes_in, route_in}
use Rattle.nr_spec_routes.proofs.KeyOrder.{exact_keys}
use Rattle.nr_spec_routes.proofs.Once.{named_more}
use Rattle.nr_spec_routes.specs.Touched.{rows_with}
use Rattle.nr_tables.specs.Held.{AreHeld, is_in}
use Rattle.nr_tables.proofs.InPlaces.{added}

is_equal : (o : Ordering) → is_eq o ≡ true → o ≡ Equal
is_equal Less h = cc
is_equal Equal h = refl
is_equal Greater h = cc

own : (n : ℕ) → (n == n) ≡ true
own n = grind (arith, nat_tests)

swap : (a b c : Bool) → (a || (b || c)) ≡ (b || (a || c))
swap true true c = refl
swap true false c = refl
swap false b c = refl

-- the prefix of the row that goes, and those that stay
pub one_gone : (key : Key) (p : Cidr) (rows : List Row) (route : AttributeBlock) → lookup (is_at (key_cmp key)) rows ≡ Some route
    → is_named (prefixes_in (rows_with key.neighbour rows)) p ≡ (is_eq (cidr_cmp key.prefix p) || is_named (prefixes_in (rows_with key.neighbour (remove_entry (is_at (key_cmp key)) rows))) p)
one_gone key p [] route h = absurd cc
one_gone key p (r ∷ rows) route h = by (is_eq (key_cmp key r.0)) refl h (one_gone key p rows route)
  where
    by : (t : Bool) → is_eq (key_cmp key r.0) ≡ t → cond t (Some r.1) (lookup (is_at (key_cmp key)) rows) ≡ Some route
        → (lookup (is_at (key_cmp key)) rows ≡ Some route → is_named (prefixes_in (rows_with key.neighbour rows)) p ≡ (is_eq (cidr_cmp key.prefix p) || is_named (prefixes_in (rows_with key.neighbour (remove_entry (is_at (key_cmp key)) rows))) p))
        → is_named (prefixes_in (rows_with key.neighbour (r ∷ rows))) p ≡ (is_eq (cidr_cmp key.prefix p) || is_named (prefixes_in (rows_with key.neighbour (cond t rows (r ∷ remove_entry (is_at (key_cmp key)) rows)))) p)
    by true e h ih =
        let one = exact_keys key r.0 (is_equal _ e) in
        let with : (key.neighbour == r.0.neighbour) ≡ true = ap (λ (k : Key). key.neighbour == k.neighbour) (sym one) ∙ own key.neighbour in
        ap (λ b. is_named (prefixes_in (if b then r ∷ rows_with key.neighbour rows else rows_with key.neighbour rows)) p) with
        ∙ ap (λ (k : Key). is_eq (cidr_cmp k.prefix p) || is_named (prefixes_in (rows_with key.neighbour rows)) p) (sym one)
    by false e h ih = by_with (key.neighbour == r.0.neighbour) (ih h)
      where
        by_with : (w : Bool) → is_named (prefixes_in (rows_with key.neighbour rows)) p ≡ (is_eq (cidr_cmp key.prefix p) || is_named (prefixes_in (rows_with key.neighbour (remove_entry (is_at (key_cmp key)) rows))) p)
            → is_named (prefixes_in (if w then r ∷ rows_with key.neighbour rows else rows_with key.neighbour rows)) p
            ≡ (is_eq (cidr_cmp key.prefix p) || is_named (prefixes_in (if w then r ∷ rows_with key.neighbour (remove_entry (is_at (key_cmp key)) rows) else rows_with key.neighbour (remove_entry (is_at (key_cmp key)) rows))) p)
        by_with true ih = ap (λ t. is_eq (cidr_cmp r.0.prefix p) || t) ih ∙ swap (is_eq (cidr_cmp r.0.prefix p)) (is_eq (cidr_cmp key.prefix p)) (is_named (prefixes_in (rows_with key.neighbour (remove_entry (is_at (key_cmp key)) rows))) p)
        by_with false ih = ih

-- where no row has a place there is none
pub none_with : (n : ℕ) (rows : List Row) (p : Cidr) → ((q : Key) → (n == q.neighbour) ≡ true → route_in rows q ≡ None) → is_named (prefixes_in (rows_with n rows)) p ≡ false
none_with n [] p h = refl
none_with n (r ∷ rows) p h = by (n == r.0.neighbour) refl (none_with n rows p)
  where
    own_key : (key : Key) → is_eq (key_cmp key key) ≡ true
    own_key key = grind (arith, nat_tests)

    rest : (x : AttributeBlock) (t : Bool) (o : Option AttributeBlock) → cond t (Some x) o ≡ None → o ≡ None
    rest x true o h = absurd cc
    rest x false o h = h

    by : (w : Bool) → (n == r.0.neighbour) ≡ w → (((q : Key) → (n == q.neighbour) ≡ true → route_in rows q ≡ None) → is_named (prefixes_in (rows_with n rows)) p ≡ false)
        → is_named (prefixes_in (if w then r ∷ rows_with n rows else rows_with n rows)) p ≡ false
    by true e ih = absurd (let t = sym (ap (λ b. cond b (Some r.1) (route_in rows r.0)) (own_key r.0)) ∙ h r.0 e in cc)
    by false e ih = ih (λ q same. rest r.1 (is_eq (key_cmp q r.0)) (route_in rows q) (h q same))

-- ---- held

-- where no place is of the neighbour, no row is
pub none_held : (n : ℕ) (rows : List Row) (places : List Key) → AreHeld rows places → ((q : Key) → (n == q.neighbour) ≡ true → is_in places q ≡ false) → (q : Key) → (n == q.neighbour) ≡ true → route_in rows q ≡ None
none_held n rows places h none q same = by (route_in rows q) refl
  where
    by : (o : Option AttributeBlock) → route_in rows q ≡ o → o ≡ None
    by None e = refl
    by (Some x) e = absurd (let t = sym (h q (ap is_some e)) ∙ none q same in cc)

regrouped : (a e g : Bool) → (a || (e || g)) ≡ ((e || a) || g)
regrouped true true g = refl
regrouped true false g = refl
regrouped false true g = refl
regrouped false false g = refl

-- a row goes, and its prefix is gathered
pub row_gone : (key : Key) (p : Cidr) (rows : List Row) (route : AttributeBlock) (gathered : List Cidr) → lookup (is_at (key_cmp key)) rows ≡ Some route
    → (is_named (prefixes_in (rows_with key.neighbour (remove_entry (is_at (key_cmp key)) rows))) p || is_named (insert_key cidr_cmp gathered key.prefix) p)
    ≡ (is_named (prefixes_in (rows_with key.neighbour rows)) p || is_named gathered p)
row_gone key p rows route gathered h =
    let left = is_named (prefixes_in (rows_with key.neighbour (remove_entry (is_at (key_cmp key)) rows))) p in
    ap (λ t. left || t) (named_more gathered key.prefix p) ∙ regrouped left (is_eq (cidr_cmp key.prefix p)) (is_named gathered p) ∙ ap (λ t. t || is_named gathered p) (sym (one_gone key p rows route h))

cond_cond : {A : Type 0} (n : Bool) (s : Bool) (x : A) (o : A) → (s ≡ true → n ≡ true) → cond n x (cond s x o) ≡ cond n x o
cond_cond true s x o h = refl
cond_cond false true x o h = absurd (let t = h refl in cc)
cond_cond false false x o h = refl

-- the rows of others stay
pub others_stay : (n : ℕ) (rows new : List Row) (key : Key) → n ≡ key.neighbour → ((q : Key) → route_in new q ≡ cond (is_eq (key_cmp key q)) None (route_in rows q))
    → (q : Key) → cond (n == q.neighbour) None (route_in new q) ≡ cond (n == q.neighbour) None (route_in rows q)
others_stay n rows new key is take q =
    ap (λ o. cond (n == q.neighbour) None o) (take q)
    ∙ cond_cond (n == q.neighbour) (is_eq (key_cmp key q)) None (route_in rows q) (λ s. ap (λ m. n == m) (sym (ap (λ (k : Key). k.neighbour) (exact_keys key q (is_equal _ s)))) ∙ ap (λ m. n == m) (sym is) ∙ own n)

pub all_gone : (n : ℕ) (rows old : List Row) → ((q : Key) → (n == q.neighbour) ≡ true → route_in rows q ≡ None)
    → ((q : Key) → cond (n == q.neighbour) None (route_in rows q) ≡ cond (n == q.neighbour) None (route_in old q)) → (q : Key) → route_in rows q ≡ cond (n == q.neighbour) None (route_in old q)
all_gone n rows old none same q = by (n == q.neighbour) refl ∙ same q
  where
    by : (b : Bool) → (n == q.neighbour) ≡ b → route_in rows q ≡ cond (n == q.neighbour) None (route_in rows q)
    by true e = none q e ∙ sym (ap (λ b. cond b None (route_in rows q)) e)
    by false e = sym (ap (λ b. cond b None (route_in rows q)) e)

pub or_none : (b : Bool) → (b || false) ≡ b
or_none true = refl
or_none false = refl

pub turned : (a b : Bool) → (a || (b || false)) ≡ (b || a)
turned true true = refl
turned true false = refl
turned false true = refl
turned false false = refl

-- a key's prefix is gathered, and the rest is left
pub key_gathered : (key : Key) (p : Cidr) (rest : List Key) (gathered : List Cidr)
    → (is_named (map (λ (k : Key). k.prefix) rest) p || is_named (insert_key cidr_cmp gathered key.prefix) p) ≡ (is_named (map (λ (k : Key). k.prefix) (key ∷ rest)) p || is_named gathered p)
key_gathered key p rest gathered =
    ap (λ t. is_named (map (λ (k : Key). k.prefix) rest) p || t) (named_more gathered key.prefix p)
    ∙ regrouped (is_named (map (λ (k : Key). k.prefix) rest) p) (is_eq (cidr_cmp key.prefix p)) (is_named gathered p)

-- the same in the words of the code
pub gone : (key : Key) (rows new : List Row) (gathered more : List Cidr) → is_some (route_in rows key) ≡ true → new ≡ remove_entry (is_at (key_cmp key)) rows → more ≡ insert_key cidr_cmp gathered key.prefix
    → (p : Cidr) → (is_named (prefixes_in (rows_with key.neighbour new)) p || is_named more p) ≡ (is_named (prefixes_in (rows_with key.neighbour rows)) p || is_named gathered p)
gone key rows new gathered more there left added p =
    ap (λ l. is_named (prefixes_in (rows_with key.neighbour l)) p || is_named more p) left
    ∙ ap (λ l. is_named (prefixes_in (rows_with key.neighbour (remove_entry (is_at (key_cmp key)) rows))) p || is_named l p) added
    ∙ by (route_in rows key) refl there
  where
    by : (o : Option AttributeBlock) → route_in rows key ≡ o → is_some o ≡ true
        → (is_named (prefixes_in (rows_with key.neighbour (remove_entry (is_at (key_cmp key)) rows))) p || is_named (insert_key cidr_cmp gathered key.prefix) p) ≡ (is_named (prefixes_in (rows_with key.neighbour rows)) p || is_named gathered p)
    by None is h = absurd cc
    by (Some route) is h = row_gone key p rows route gathered is

none_left : (key : Key) (rows : List Row) → is_some (route_in rows key) ≡ false → remove_entry (is_at (key_cmp key)) rows ≡ rows
none_left key [] h = refl
none_left key (r ∷ rows) h = by (is_eq (key_cmp key r.0)) h (none_left key rows)
  where
    by : (t : Bool) → is_some (cond t (Some r.1) (route_in rows key)) ≡ false → (is_some (route_in rows key) ≡ false → remove_entry (is_at (key_cmp key)) rows ≡ rows) → cond t rows (r ∷ remove_entry (is_at (key_cmp key)) rows) ≡ r ∷ rows
    by true h ih = absurd cc
    by false h ih = ap (λ l. r ∷ l) (ih h)

pub not_there : (key : Key) (rows new : List Row) (gathered : List Cidr) → is_some (route_in rows key) ≡ false → new ≡ remove_entry (is_at (key_cmp key)) rows
    → (p : Cidr) → (is_named (prefixes_in (rows_with key.neighbour new)) p || is_named gathered p) ≡ (is_named (prefixes_in (rows_with key.neighbour rows)) p || is_named gathered p)
not_there key rows new gathered h left p = ap (λ l. is_named (prefixes_in (rows_with key.neighbour l)) p || is_named gathered p) (left ∙ none_left key rows h)
