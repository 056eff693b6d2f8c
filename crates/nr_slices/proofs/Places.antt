-- The place of a fault inside a body is at most the body's length.
use Rattle.std.proofs.Common.{◌≡◌, ℕ, zero, suc, ◌+◌, ◌-◌, ◌≤◌, ◌==◌, Bool, true, false, List, [], length, drop, Option, Some, None, Result, Ok, Err, subst, arith, cond, inl, inr}
use Rattle.std.specs.Prelude.{nat_le, nat_lt, replicate}
use Rattle.std.specs.Str.{bytes_eq}
use Rattle.nr_spec_bounds.specs.Bounds.{most_counted}
use Rattle.std.proofs.lemmas.Bool.{cases_Bool, ltb-false}
use Rattle.std.proofs.lemmas.List.{length-drop}
use Rattle.nr_spec_wire.specs.Reading.{Read, Spot, ◌>>=◌, bytes_at, ends_at, number_at, past, start_of, wants}
use Rattle.nr_spec_log.specs.Authenticator.{digest_size}
use Rattle.nr_spec_entry.specs.Contents.{most_delay, most_neighbours}
use Rattle.nr_spec_bgp.specs.Attributes.{attributes_in, is_complete}
use Rattle.nr_spec_bgp.specs.Prefixes.{faults_at}
use Rattle.nr_spec_routes.specs.Keys.{Key}
use Rattle.nr_spec_bodies.specs.Reading.{base_of, force_at, is_behind, is_flagged, is_masked, key_at, known_at, route_at, row_at, rows_behind, set_force_at, table_at, tally_at, times_at, unset_force_at}

-- the bytes from here end there
abbrev EndsBy : ℕ → Spot → Type 0
EndsBy end s = s.at + length s.rest ≡ end

-- a fault is at most there, and what is left ends there
unfoldable Fits : {A : Type 0} → ℕ → Read A → Type 0
Fits end (Ok x) = EndsBy end x.1
Fits end (Err place) = place ≤ end

-- the same of what gives no spot
unfoldable Within : {A : Type 0} → ℕ → Result A ℕ → Type 0
Within end (Ok x) = Unit {0}
Within end (Err place) = place ≤ end

here : (end : ℕ) (s : Spot) → EndsBy end s → s.at ≤ end
here end s by = omega (arith, by)

fits_then : {A B : Type 0} (end : ℕ) (r : Read A) (f : A × Spot → Read B) → Fits end r → ((x : A × Spot) → EndsBy end x.1 → Fits end (f x)) → Fits end (r >>= f)
unfolding Fits
fits_then end (Ok x) f r_fits next = next x r_fits
fits_then end (Err place) f r_fits next = r_fits

plain_then : {A B : Type 0} (end : ℕ) (r : Result A ℕ) (f : A → Read B) → Within end r → ((x : A) → Fits end (f x)) → Fits end (r >>= f)
unfolding Fits Within
plain_then end (Ok x) f r_fits next = next x
plain_then end (Err place) f r_fits next = r_fits

fits_wants : {A : Type 0} (end : ℕ) (test : Bool) (place : ℕ) (x : A × Spot) → place ≤ end → EndsBy end x.1 → Fits end (wants test place x)
unfolding Fits
fits_wants end true place x at by = by
fits_wants end false place x at by = at

plain_wants : {A : Type 0} (end : ℕ) (test : Bool) (place : ℕ) (x : A) → place ≤ end → Within end (wants test place x)
unfolding Within
plain_wants end true place x at = tt
plain_wants end false place x at = at

plain_faults : {A : Type 0} (end place : ℕ) (r : Result A ℕ) → place ≤ end → Within end (faults_at place r)
unfolding Within
plain_faults end place (Ok x) at = tt
plain_faults end place (Err e) at = at

fits_ok : {A : Type 0} (end : ℕ) (x : A) (s : Spot) → EndsBy end s → Fits end (Ok (x, s))
unfolding Fits
fits_ok end x s by = by

past_ends : (end n : ℕ) (s : Spot) → nat_lt (length s.rest) n ≡ false → EndsBy end s → EndsBy end (past n s)
past_ends end n s enough by =
    let left : length (drop n s.rest) ≡ length s.rest - n = length-drop n s.rest in
    omega (arith, left, by, ltb-false (length s.rest) n enough)

fits_number : (end n : ℕ) (s : Spot) → EndsBy end s → Fits end (number_at n s)
unfolding Fits
fits_number end n s by = elim (cases_Bool (nat_lt (length s.rest) n)) [ inl is ↦ rw is (here end s by) | inr is ↦ rw is (past_ends end n s is by) ]

fits_bytes : (end n : ℕ) (s : Spot) → EndsBy end s → Fits end (bytes_at n s)
unfolding Fits
fits_bytes end n s by = elim (cases_Bool (nat_lt (length s.rest) n)) [ inl is ↦ rw is (here end s by) | inr is ↦ rw is (past_ends end n s is by) ]

-- ---- the counts

-- a number that is asked for, and what follows
fits_asked : {B : Type 0} (end n : ℕ) (s : Spot) (test : ℕ × Spot → Bool) (f : ℕ × Spot → Read B) → EndsBy end s → ((x : ℕ × Spot) → EndsBy end x.1 → Fits end (f x))
    → Fits end (number_at n s >>= λ any. wants (test any) s.at any >>= f)
fits_asked end n s test f by next =
    fits_then end (number_at n s) _ (fits_number end n s by) (λ any any_by.
    fits_then end (wants (test any) s.at any) f (fits_wants end (test any) s.at any (here end s by) any_by) next)

set_fits : (end : ℕ) (s : Spot) → EndsBy end s → Fits end (set_force_at s)
unfolding set_force_at
set_fits end s by =
    fits_then end (bytes_at digest_size s) _ (fits_bytes end digest_size s by) (λ digest d.
    fits_asked end 2 digest.1 (λ any. nat_le any.0 most_neighbours) _ d (λ count c. fits_asked end 4 count.1 (λ any. nat_le any.0 most_delay) _ c (λ delay l. fits_ok end _ delay.1 l)))

unset_fits : (end : ℕ) (s : Spot) → EndsBy end s → Fits end (unset_force_at s)
unfolding unset_force_at
unset_fits end s by =
    fits_then end (bytes_at digest_size s) _ (fits_bytes end digest_size s by) (λ any a.
    fits_then end (wants (bytes_eq any.0 (replicate digest_size 0)) s.at any) _ (fits_wants end (bytes_eq any.0 (replicate digest_size 0)) s.at any (here end s by) a) (λ digest d.
    fits_asked end 2 digest.1 (λ any. any.0 == 0) _ d (λ count c. fits_asked end 4 count.1 (λ any. any.0 == 0) _ c (λ delay l. fits_ok end _ delay.1 l))))

force_fits : (end : ℕ) (s : Spot) → EndsBy end s → Fits end (force_at s)
unfolding force_at
force_fits end s by = fits_asked end 1 s (λ any. nat_le any.0 1) _ by (λ flag f. by_flag (flag.0 == 1) flag.1 f)
  where
    by_flag : (b : Bool) (t : Spot) → EndsBy end t → Fits end (cond b (set_force_at t) (unset_force_at t))
    by_flag true t f = set_fits end t f
    by_flag false t f = unset_fits end t f

known_fits : (end : ℕ) (s : Spot) → EndsBy end s → Fits end (known_at s)
unfolding known_at
known_fits end s by =
    fits_asked end 8 s (λ any. nat_lt any.0 most_counted) _ by (λ sends b.
    fits_then end (number_at 8 sends.1) _ (fits_number end 8 sends.1 b) (λ acked c.
    fits_asked end 1 acked.1 (λ any. nat_le any.0 1) _ c (λ flag d. fits_asked end 8 flag.1 (λ any. is_flagged flag.0 any.0) _ d (λ time e. fits_ok end _ time.1 e))))

times_fit : {A : Type 0} (item : Spot → Read A) (end n : ℕ) → ((s : Spot) → EndsBy end s → Fits end (item s)) → (s : Spot) → EndsBy end s → Fits end (times_at item n s)
unfolding times_at
times_fit item end zero fit s by = fits_ok end [] s by
times_fit item end (suc n) fit s by =
    fits_then end (item s) _ (fit s by) (λ first f. fits_then end (times_at item n first.1) _ (times_fit item end n fit first.1 f) (λ others o. fits_ok end _ others.1 o))

tally_fits : (end : ℕ) (s : Spot) → EndsBy end s → Fits end (tally_at s)
unfolding tally_at
tally_fits end s by =
    fits_then end (number_at 8 s) _ (fits_number end 8 s by) (λ last a.
    fits_then end (force_at last.1) _ (force_fits end last.1 a) (λ force b.
    fits_asked end 8 force.1 (λ any. nat_lt any.0 most_counted) _ b (λ commits c.
    fits_then end (times_at known_at most_neighbours commits.1) _ (times_fit known_at end most_neighbours (known_fits end) commits.1 c) (λ known d. fits_ok end _ known.1 d))))

-- ---- rows

key_fits : (end : ℕ) (s : Spot) → EndsBy end s → Fits end (key_at s)
unfolding key_at
key_fits end s by =
    fits_asked end 1 s (λ any. nat_le any.0 32) _ by (λ len a.
    fits_asked end 4 len.1 (λ any. is_masked any.0 len.0) _ a (λ addr b. fits_asked end 1 addr.1 (λ any. nat_le any.0 1) _ b (λ direction c. fits_asked end 2 direction.1 (λ any. nat_lt any.0 most_neighbours) _ c (λ neighbour d. fits_ok end _ neighbour.1 d))))

route_fits : (end : ℕ) (s : Spot) → EndsBy end s → Fits end (route_at s)
unfolding route_at
route_fits end s by =
    fits_asked end 1 s (λ any. nat_le any.0 1) _ by (λ as4 a.
    fits_then end (number_at 2 as4.1) _ (fits_number end 2 as4.1 a) (λ size b.
    fits_then end (bytes_at size.0 size.1) _ (fits_bytes end size.0 size.1 b) (λ block c.
    plain_then end (faults_at size.1.at (attributes_in (as4.0 == 1) block.0)) _ (plain_faults end size.1.at _ (here end size.1 b)) (λ any.
    plain_then end (wants (is_complete any) size.1.at any) _ (plain_wants end (is_complete any) size.1.at any (here end size.1 b)) (λ list. fits_ok end _ block.1 c)))))

row_fits : (end : ℕ) (before : Option Key) (s : Spot) → EndsBy end s → Fits end (row_at before s)
unfolding row_at
row_fits end before s by =
    fits_then end (key_at s) _ (key_fits end s by) (λ any a.
    fits_then end (wants (is_behind before any.0) s.at any) _ (fits_wants end (is_behind before any.0) s.at any (here end s by) a) (λ key b.
    fits_then end (route_at key.1) _ (route_fits end key.1 b) (λ route c. fits_ok end _ route.1 c)))

rows_fit : (end n : ℕ) (before : Option Key) (s : Spot) → EndsBy end s → Fits end (rows_behind before n s)
unfolding rows_behind
rows_fit end zero before s by = fits_ok end [] s by
rows_fit end (suc n) before s by =
    fits_then end (row_at before s) _ (row_fits end before s by) (λ first a.
    fits_then end (rows_behind (Some first.0.0) n first.1) _ (rows_fit end n (Some first.0.0) first.1 a) (λ others b. fits_ok end _ others.1 b))

table_fits : (end : ℕ) (s : Spot) → EndsBy end s → Fits end (table_at s)
unfolding table_at
table_fits end s by = fits_then end (number_at 8 s) _ (fits_number end 8 s by) (λ count a. rows_fit end count.0 None count.1 a)

-- ---- the body

ends_within : {A : Type 0} (end : ℕ) (s : Spot) (x : A) → EndsBy end s → Within end (ends_at s x)
ends_within end s x by = plain_wants end (length s.rest == 0) s.at x (here end s by)

within_then : {A B : Type 0} (end : ℕ) (r : Read A) (f : A × Spot → Result B ℕ) → Fits end r → ((x : A × Spot) → EndsBy end x.1 → Within end (f x)) → Within end (r >>= f)
unfolding Fits Within
within_then end (Ok x) f r_fits next = next x r_fits
within_then end (Err place) f r_fits next = r_fits

base_within : (body : List ℕ) → Within (length body) (base_of body)
unfolding base_of
base_within body =
    within_then (length body) (tally_at (start_of body)) _ (tally_fits (length body) (start_of body) (omega arith)) (λ tally a.
    within_then (length body) (table_at tally.1) _ (table_fits (length body) tally.1 a) (λ rows b.
    ends_within (length body) rows.1 (record { rows = rows.0; tally = tally.0 }) b))

pub place_within : (body : List ℕ) (place : ℕ) → base_of body ≡ Err place → place ≤ length body
unfolding Within
place_within body place is = subst (Within (length body)) is (base_within body)
