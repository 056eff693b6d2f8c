-- That the events of a recording name neighbours of the own promise file, and that its first turn begins.
use Rattle.std.proofs.Common.{◌≡◌, ℕ, zero, suc, ◌<◌, ◌≤◌, Bool, true, false, cond, List, [], ◌∷◌, ◌++◌, length, take, drop, map, nat_lt, Option, Some, None, Result, Ok, refl, subst, inl, inr, arith}
use Rattle.std.specs.Prelude.{option_map, unwrap_or, ◌==◌, not}
use Rattle.std.specs.List.{AllByRecursion, prefix_len}
use Rattle.std.proofs.lemmas.Bool.{cases_Bool}
use Rattle.std.proofs.lemmas.Bool.Decides.{nat_tests}
use Rattle.std.proofs.lemmas.List.{length-take, length-map}
use Rattle.nr_spec_bgp.specs.Records.{Carries, Item, Skips, Turns}
use Rattle.nr_spec_bgp.specs.Records as records
use Rattle.nr_spec_wire.specs.Reading.{IsBytes}
use Rattle.nr_spec_plans.specs.Disk.{Contents, bytes_of}
use Rattle.nr_spec_plans.specs.Laws.{IsAmong}
use Rattle.nr_spec_counts.specs.Tallies.{Numbers}
use Rattle.nr_spec_steps.specs.Events.{Begin, Close, Event, is_begin, time_of}
use Rattle.nr_spec_steps.specs.Telling.{IsNamed, starts}
use Rattle.nr_spec_recording.specs.Records.{Speaker, changed, exchanged, is_speaker, kept, kept_of, number_of, records_of}
use Rattle.nr_spec_recording.specs.Merging.{Choice, by_least, chosen, least, merged_by}
use Rattle.nr_spec_recording.specs.Events.{cut_by, events_of, records_in_order, turn_size, turns_of}
use Rattle.nr_spec_texts.specs.Promises.{PromiseFile, numbers_in}
use Rattle.nr_spec_program.specs.Recording.{speaker_of, speakers_of, turns_for}
use Rattle.nr_laws_right_logs.proofs.Sessions.{HasStates, file_has}

-- ---- lists

join : {A : Type 0} (P : A → Type 0) (xs ys : List A) → AllByRecursion P xs → AllByRecursion P ys → AllByRecursion P (xs ++ ys)
join P [] ys a b = b
join P (x ∷ xs) ys a b = (a.0, join P xs ys a.1 b)

pub taken : {A : Type 0} (P : A → Type 0) (n : ℕ) (xs : List A) → AllByRecursion P xs → AllByRecursion P (take n xs)
taken P zero xs a = tt
taken P (suc n) [] a = tt
taken P (suc n) (x ∷ xs) a = (a.0, taken P n xs a.1)

dropped : {A : Type 0} (P : A → Type 0) (n : ℕ) (xs : List A) → AllByRecursion P xs → AllByRecursion P (drop n xs)
dropped P zero xs a = a
dropped P (suc n) [] a = tt
dropped P (suc n) (x ∷ xs) a = dropped P n xs a.1

lt_passed : (n m : ℕ) → nat_lt n m ≡ true → n < m
lt_passed n m h = grind (arith, nat_tests)

same_place : (x y : ℕ) → (let r : Option ℕ = Some x in r) ≡ Some y → x ≡ y
same_place x y e = cc

below : (b : Bool) (place count n : ℕ) → nat_lt place count ≡ b → cond b (let r : Option ℕ = Some place in r) None ≡ Some n → n < count
below true place count n is e = subst (λ (k : ℕ). k < count) (same_place place n e) (lt_passed place count is)
below false place count n is e = absurd cc

place_below : (neighbours : List Speaker) (asn addr n : ℕ) → number_of neighbours asn addr ≡ Some n → n < length neighbours
place_below neighbours asn addr n e =
    let place = prefix_len (λ s. not (is_speaker asn addr s)) neighbours in
    below (nat_lt place (length neighbours)) place (length neighbours) n refl e

-- ---- the records that are kept

abbrev NamedIn : Numbers → Option Event → Type 0
NamedIn own None = Unit {0}
NamedIn own (Some e) = IsNamed own e

exchanged_named : (own : Numbers) (m : records.Heard) (n : Option ℕ) → ((k : ℕ) → n ≡ Some k → k < own.count) → NamedIn own (option_map (exchanged m) n)
exchanged_named own m None lt = tt
exchanged_named own m (Some n) lt = elim (cases_Bool m.own) [ inl is ↦ rw is (lt n refl) | inr is ↦ rw is (lt n refl) ]

changed_named : (own : Numbers) (t : records.Turned) (n : Option ℕ) → HasStates (Turns t) → ((k : ℕ) → n ≡ Some k → k < own.count) → NamedIn own (option_map (changed t) n)
changed_named own t None has lt = tt
changed_named own t (Some n) has lt = (lt n refl, has.0, has.1)

kept_named : (own : Numbers) (neighbours : List Speaker) (item : Item) → length neighbours ≡ own.count → HasStates item → NamedIn own (kept neighbours item)
kept_named own neighbours (Carries m) count has = exchanged_named own m (number_of neighbours m.peer_as m.peer) (λ k e. subst (λ (c : ℕ). k < c) count (place_below neighbours m.peer_as m.peer k e))
kept_named own neighbours (Turns t) count has = changed_named own t (number_of neighbours t.peer_as t.peer) has (λ k e. subst (λ (c : ℕ). k < c) count (place_below neighbours t.peer_as t.peer k e))
kept_named own neighbours Skips count has = tt

one_named : (own : Numbers) (neighbours : List Speaker) (item : Item) (items : List Item) (k : Option Event) → kept neighbours item ≡ k → NamedIn own k → AllByRecursion (IsNamed own) (kept_of neighbours items) → AllByRecursion (IsNamed own) (kept_of neighbours (item ∷ items))
one_named own neighbours item items None is named rest = rw is rest
one_named own neighbours item items (Some e) is named rest = rw is (named, rest)

file_named : (own : Numbers) (neighbours : List Speaker) (items : List Item) → length neighbours ≡ own.count → AllByRecursion HasStates items → AllByRecursion (IsNamed own) (kept_of neighbours items)
file_named own neighbours [] count a = tt
file_named own neighbours (item ∷ items) count a = one_named own neighbours item items (kept neighbours item) refl (kept_named own neighbours item count a.0) (file_named own neighbours items count a.1)

abbrev AllHave : List (List Item) → Type 0
AllHave files = AllByRecursion (λ items. AllByRecursion HasStates items) files

files_named : (own : Numbers) (neighbours : List Speaker) (files : List (List Item)) → length neighbours ≡ own.count → AllHave files → AllByRecursion (λ es. AllByRecursion (IsNamed own) es) (map (kept_of neighbours) files)
files_named own neighbours [] count a = tt
files_named own neighbours (items ∷ files) count a = (file_named own neighbours items count a.0, files_named own neighbours files count a.1)

-- ---- merging

record AreAll (P : Event → Type 0) (c : Choice) : Type 0 where
  pub next : AllByRecursion P c.next
  pub files : AllByRecursion (λ es. AllByRecursion P es) c.files

chosen_all : (P : Event → Type 0) (time : ℕ) (files : List (List Event)) → AllByRecursion (λ es. AllByRecursion P es) files → AreAll P (chosen time files)
unfolding chosen
chosen_all P time [] a = record { next = tt; files = tt }
chosen_all P time ([] ∷ files) a = let c = chosen_all P time files a.1 in record { next = c.next; files = (tt, c.files) }
chosen_all P time ((e ∷ es) ∷ files) a =
    elim (cases_Bool (time_of e == time)) [
      | inl is ↦ rw is (record { next = (a.0.0, tt); files = (a.0.1, a.1) })
      | inr is ↦ rw is (let c = chosen_all P time files a.1 in record { next = c.next; files = (a.0, c.files) })
    ]

least_all : (P : Event → Type 0) (rest : ℕ → List Event) (time : Option ℕ) → ((time : ℕ) → AllByRecursion P (rest time)) → AllByRecursion P (by_least time rest)
least_all P rest None a = tt
least_all P rest (Some time) a = a time

merged_all : (P : Event → Type 0) (n : ℕ) (files : List (List Event)) → AllByRecursion (λ es. AllByRecursion P es) files → AllByRecursion P (merged_by n files)
unfolding merged_by
merged_all P zero files a = tt
merged_all P (suc n) files a =
    least_all P (λ time. (chosen time files).next ++ merged_by n (chosen time files).files) (least files)
    (λ time. let c = chosen_all P time files a in join P (chosen time files).next (merged_by n (chosen time files).files) c.next (merged_all P n (chosen time files).files c.files))

records_named : (own : Numbers) (neighbours : List Speaker) (files : List (List Item)) → length neighbours ≡ own.count → AllHave files → AllByRecursion (IsNamed own) (records_in_order neighbours files)
unfolding records_in_order
records_named own neighbours files count a = merged_all (IsNamed own) _ (map (kept_of neighbours) files) (files_named own neighbours files count a)

events_named : (own : Numbers) (es : List Event) (until : Option ℕ) → AllByRecursion (IsNamed own) es → AllByRecursion (IsNamed own) (events_of es until)
unfolding events_of
events_named own es until a = (tt, join (IsNamed own) es (Close (unwrap_or until 0) ∷ []) a (tt, tt))

-- ---- turns

-- a turn of a recording: it has some events, and few, and they name neighbours of the own file
pub record IsPiece (own : Numbers) (events : List Event) : Type 0 where
  pub some : 1 ≤ length events
  pub few : length events ≤ 1024
  pub named : AllByRecursion (IsNamed own) events

cut_pieces : (own : Numbers) (n : ℕ) (es : List Event) → AllByRecursion (IsNamed own) es → AllByRecursion (IsPiece own) (cut_by n es)
unfolding cut_by
cut_pieces own zero es a = tt
cut_pieces own (suc n) [] a = tt
cut_pieces own (suc n) (e ∷ es) a =
    let size = length-take turn_size (e ∷ es) in
    (record { some = omega (arith, size); few = omega (arith, size); named = taken (IsNamed own) turn_size (e ∷ es) a }, cut_pieces own n (drop turn_size (e ∷ es)) (dropped (IsNamed own) turn_size (e ∷ es) a))

turns_pieces : (own : Numbers) (es : List Event) → AllByRecursion (IsNamed own) es → AllByRecursion (IsPiece own) (turns_of es)
unfolding turns_of
turns_pieces own es a = cut_pieces own (length es) es a

-- the first of turns begins, where there is one
abbrev pub Starts : List (List Event) → Type 0
Starts [] = Unit {0}
Starts (events ∷ others) = starts events ≡ true

take_starts : (n : ℕ) (e : Event) (es : List Event) → is_begin e ≡ true → starts (take n (e ∷ es)) ≡ true
take_starts zero e es is = refl
take_starts (suc n) e es is = is

cut_starts : (n : ℕ) (e : Event) (es : List Event) → is_begin e ≡ true → Starts (cut_by n (e ∷ es))
unfolding cut_by
cut_starts zero e es is = tt
cut_starts (suc n) e es is = take_starts turn_size e es is

taken_starts : (count : ℕ) (turns : List (List Event)) → Starts turns → Starts (take count turns)
taken_starts zero turns is = tt
taken_starts (suc count) [] is = tt
taken_starts (suc count) (events ∷ others) is = is

events_start : (es : List Event) (until : Option ℕ) → Starts (turns_of (events_of es until))
unfolding turns_of events_of
events_start es until = cut_starts _ (Begin _) (es ++ Close (unwrap_or until 0) ∷ []) refl

-- ---- the turns of a recording

pub recording_starts : (promise : PromiseFile) (files : List (List Item)) (until : Option ℕ) (count : ℕ) → Starts (take count (turns_for promise files until))
unfolding turns_for
recording_starts promise files until count = taken_starts count _ (events_start (records_in_order (speakers_of promise) files) until)

abbrev Given : Contents → List ℕ → Result (List Item) ℕ
Given held name = records_of (bytes_of (held name))

files_have : (held : Contents) (names : List (List ℕ)) (files : List (List Item)) → ((name : List ℕ) → IsAmong name names → IsBytes (bytes_of (held name))) → map (Given held) names ≡ map (λ f. Ok f) files → AllHave files
files_have held [] [] fits is = tt
files_have held [] (f ∷ files) fits is = absurd cc
files_have held (name ∷ names) [] fits is = absurd cc
files_have held (name ∷ names) (f ∷ files) fits is =
    let first : Given held name ≡ Ok f = cc in
    let rest : map (Given held) names ≡ map (λ f. Ok f) files = cc in
    (file_has (bytes_of (held name)) f (fits name (inl refl)) first, files_have held names files (λ other among. fits other (inr among)) rest)

pub recording_pieces : (held : Contents) (names : List (List ℕ)) (promise : PromiseFile) (files : List (List Item)) (until : Option ℕ) (count : ℕ) → ((name : List ℕ) → IsAmong name names → IsBytes (bytes_of (held name)))
    → map (Given held) names ≡ map (λ f. Ok f) files → AllByRecursion (IsPiece (numbers_in promise)) (take count (turns_for promise files until))
unfolding turns_for
recording_pieces held names promise files until count fits is =
    let own = numbers_in promise in
    let size : length (speakers_of promise) ≡ own.count = length-map promise.says.neighbours speaker_of in
    taken (IsPiece own) count _ (turns_pieces own _ (events_named own (records_in_order (speakers_of promise) files) until (records_named own (speakers_of promise) files size (files_have held names files fits is))))
