-- That the turns of a recording fit.
use Rattle.std.proofs.Common.{◌≡◌, ℕ, zero, suc, ◌^◌, ◌<◌, ◌≤◌, Bool, true, false, cond, List, [], ◌∷◌, ◌++◌, length, take, drop, map, nat_lt, Option, Some, None, refl, inl, inr, arith}
use Rattle.std.specs.Prelude.{option_map, unwrap_or, ◌==◌}
use Rattle.std.specs.List.{AllByRecursion, find}
use Rattle.std.proofs.lemmas.Bool.{cases_Bool}
use Rattle.std.proofs.lemmas.Bool.Decides.{nat_tests}
use Rattle.nr_spec_bgp.specs.Records.{Carries, Item, Skips, Turns}
use Rattle.nr_spec_bgp.specs.Records as records
use Rattle.nr_spec_steps.specs.Events.{Begin, Close, Event, FrameCame, Heard, Said, StateChanged, time_of}
use Rattle.nr_spec_steps.specs.Telling.{IsRoomy, most_raw}
use Rattle.nr_spec_recording.specs.Records.{Speaker, exchanged, changed, kept, kept_of, number_of}
use Rattle.nr_spec_recording.specs.Merging.{Choice, by_least, chosen, least, merged_by}
use Rattle.nr_spec_recording.specs.Events.{begins, cut_by, events_of, raw_length, records_in_order, too_long, turn_size, turns_of}
use Rattle.nr_laws_fitting.specs.Frames.{AreTimely, IsTimely}

abbrev IsEarly : Event → Type 0
IsEarly e = time_of e < 2 ^ 64

abbrev IsShort : Event → Type 0
IsShort e = raw_length e ≤ most_raw

roomy_by : (e : Event) → IsEarly e → IsShort e → IsRoomy e
roomy_by (Begin time) early short = early
roomy_by (Heard time n as4 raw) early short = (early, short)
roomy_by (Said time n as4 raw) early short = (early, short)
roomy_by (StateChanged time n old new) early short = early
roomy_by (FrameCame bytes) early short = tt
roomy_by (Close time) early short = early

-- ---- lists

join : {A : Type 0} (P : A → Type 0) (xs ys : List A) → AllByRecursion P xs → AllByRecursion P ys → AllByRecursion P (xs ++ ys)
join P [] ys a b = b
join P (x ∷ xs) ys a b = (a.0, join P xs ys a.1 b)

taken : {A : Type 0} (P : A → Type 0) (n : ℕ) (xs : List A) → AllByRecursion P xs → AllByRecursion P (take n xs)
taken P zero xs a = tt
taken P (suc n) [] a = tt
taken P (suc n) (x ∷ xs) a = (a.0, taken P n xs a.1)

dropped : {A : Type 0} (P : A → Type 0) (n : ℕ) (xs : List A) → AllByRecursion P xs → AllByRecursion P (drop n xs)
dropped P zero xs a = a
dropped P (suc n) [] a = tt
dropped P (suc n) (x ∷ xs) a = dropped P n xs a.1

both : (es : List Event) → AllByRecursion IsEarly es → AllByRecursion IsShort es → AllByRecursion IsRoomy es
both [] a b = tt
both (e ∷ es) a b = (roomy_by e a.0 b.0, both es a.1 b.1)

-- ---- turns

cut_roomy : (n : ℕ) (es : List Event) → AllByRecursion IsRoomy es → AllByRecursion (λ events. AllByRecursion IsRoomy events) (cut_by n es)
unfolding cut_by
cut_roomy zero es a = tt
cut_roomy (suc n) [] a = tt
cut_roomy (suc n) (e ∷ es) a = (taken IsRoomy turn_size (e ∷ es) a, cut_roomy n (drop turn_size (e ∷ es)) (dropped IsRoomy turn_size (e ∷ es) a))

pub turns_roomy : (es : List Event) → AllByRecursion IsRoomy es → AllByRecursion (λ events. AllByRecursion IsRoomy events) (turns_of es)
unfolding turns_of
turns_roomy es a = cut_roomy (length es) es a

-- ---- the events of a recording

begins_early : (es : List Event) (end : ℕ) → end < 2 ^ 64 → AllByRecursion IsEarly es → begins es end < 2 ^ 64
begins_early [] end lt a = lt
begins_early (e ∷ es) end lt a = a.0

pub events_roomy : (es : List Event) (until : Option ℕ) → unwrap_or until 0 < 2 ^ 64 → AllByRecursion IsEarly es → AllByRecursion IsRoomy es → AllByRecursion IsRoomy (events_of es until)
unfolding events_of
events_roomy es until lt early roomy = (begins_early es (unwrap_or until 0) lt early, join IsRoomy es (Close (unwrap_or until 0) ∷ []) roomy (lt, tt))

-- ---- messages

short_by : (b : Bool) (e : Event) (found : Option Event) → nat_lt most_raw (raw_length e) ≡ b → option_map raw_length (cond b (Some e) found) ≡ None → IsShort e
short_by true e found is none = absurd cc
short_by false e found is none = le_passed most_raw (raw_length e) is
  where
    le_passed : (n m : ℕ) → nat_lt n m ≡ false → m ≤ n
    le_passed n m h = grind (arith, nat_tests)

rest_by : (b : Bool) (e : Event) (found : Option Event) → option_map raw_length (cond b (Some e) found) ≡ None → option_map raw_length found ≡ None
rest_by true e found none = absurd cc
rest_by false e found none = none

pub all_short : (es : List Event) → too_long es ≡ None → AllByRecursion IsShort es
all_short [] none = tt
all_short (e ∷ es) none = (short_by (nat_lt most_raw (raw_length e)) e (find (λ event. nat_lt most_raw (raw_length event)) es) refl none, all_short es (rest_by (nat_lt most_raw (raw_length e)) e (find (λ event. nat_lt most_raw (raw_length event)) es) none))

-- ---- the records that are kept

abbrev Kept : Option Event → Type 0
Kept None = Unit {0}
Kept (Some e) = IsEarly e

exchanged_early : (m : records.Heard) (n : Option ℕ) → m.time < 2 ^ 64 → Kept (option_map (exchanged m) n)
exchanged_early m None lt = tt
exchanged_early m (Some n) lt = elim (cases_Bool m.own) [ inl is ↦ rw is lt | inr is ↦ rw is lt ]

changed_early : (t : records.Turned) (n : Option ℕ) → t.time < 2 ^ 64 → Kept (option_map (changed t) n)
changed_early t None lt = tt
changed_early t (Some n) lt = lt

kept_early : (neighbours : List Speaker) (item : Item) → IsTimely item → Kept (kept neighbours item)
kept_early neighbours (Carries m) lt = exchanged_early m (number_of neighbours m.peer_as m.peer) lt
kept_early neighbours (Turns t) lt = changed_early t (number_of neighbours t.peer_as t.peer) lt
kept_early neighbours Skips lt = tt

one_early : (neighbours : List Speaker) (item : Item) (items : List Item) (k : Option Event) → kept neighbours item ≡ k → Kept k → AllByRecursion IsEarly (kept_of neighbours items) → AllByRecursion IsEarly (kept_of neighbours (item ∷ items))
one_early neighbours item items None is early rest = rw is rest
one_early neighbours item items (Some e) is early rest = rw is (early, rest)

file_early : (neighbours : List Speaker) (items : List Item) → AllByRecursion IsTimely items → AllByRecursion IsEarly (kept_of neighbours items)
file_early neighbours [] a = tt
file_early neighbours (item ∷ items) a = one_early neighbours item items (kept neighbours item) refl (kept_early neighbours item a.0) (file_early neighbours items a.1)

files_early : (neighbours : List Speaker) (files : List (List Item)) → AreTimely files → AllByRecursion (λ es. AllByRecursion IsEarly es) (map (kept_of neighbours) files)
files_early neighbours [] a = tt
files_early neighbours (items ∷ files) a = (file_early neighbours items a.0, files_early neighbours files a.1)

-- ---- merging

record AreEarly (c : Choice) : Type 0 where
  pub next : AllByRecursion IsEarly c.next
  pub files : AllByRecursion (λ es. AllByRecursion IsEarly es) c.files

chosen_early : (time : ℕ) (files : List (List Event)) → AllByRecursion (λ es. AllByRecursion IsEarly es) files → AreEarly (chosen time files)
unfolding chosen
chosen_early time [] a = record { next = tt; files = tt }
chosen_early time ([] ∷ files) a = let c = chosen_early time files a.1 in record { next = c.next; files = (tt, c.files) }
chosen_early time ((e ∷ es) ∷ files) a =
    elim (cases_Bool (time_of e == time)) [
      | inl is ↦ rw is (record { next = (a.0.0, tt); files = (a.0.1, a.1) })
      | inr is ↦ rw is (let c = chosen_early time files a.1 in record { next = c.next; files = (a.0, c.files) })
    ]

least_early : (rest : ℕ → List Event) (time : Option ℕ) → ((time : ℕ) → AllByRecursion IsEarly (rest time)) → AllByRecursion IsEarly (by_least time rest)
least_early rest None a = tt
least_early rest (Some time) a = a time

merged_early : (n : ℕ) (files : List (List Event)) → AllByRecursion (λ es. AllByRecursion IsEarly es) files → AllByRecursion IsEarly (merged_by n files)
unfolding merged_by
merged_early zero files a = tt
merged_early (suc n) files a =
    least_early (λ time. (chosen time files).next ++ merged_by n (chosen time files).files) (least files)
    (λ time. let c = chosen_early time files a in join IsEarly (chosen time files).next (merged_by n (chosen time files).files) c.next (merged_early n (chosen time files).files c.files))

pub records_early : (neighbours : List Speaker) (files : List (List Item)) → AreTimely files → AllByRecursion IsEarly (records_in_order neighbours files)
unfolding records_in_order
records_early neighbours files a = merged_early _ (map (kept_of neighbours) files) (files_early neighbours files a)

-- the turns of a recording none of whose messages is too long
pub recording_roomy : (neighbours : List Speaker) (files : List (List Item)) (until : Option ℕ) → AreTimely files → unwrap_or until 0 < 2 ^ 64 → too_long (records_in_order neighbours files) ≡ None
    → AllByRecursion (λ events. AllByRecursion IsRoomy events) (turns_of (events_of (records_in_order neighbours files) until))
recording_roomy neighbours files until timely lt none =
    let es = records_in_order neighbours files in
    let early = records_early neighbours files timely in
    turns_roomy (events_of es until) (events_roomy es until lt early (both es early (all_short es none)))
