-- Messages that are too long, in files and in their merged order.
use Rattle.std.proofs.Common.{◌≡◌, ℕ, zero, suc, ◌≤◌, Bool, true, false, cond, List, [], ◌∷◌, ◌++◌, map, take, drop, Option, Some, None, option_map, refl, ap, ◌∙◌}
use Rattle.std.specs.Prelude.{◌||◌, is_some, nat_eq, slice_get, unwrap_or}
use Rattle.std.specs.List.{AllByRecursion}
use Rattle.nr_spec_bgp.specs.Records.{Item}
use Rattle.std.proofs.lemmas.Bool.{ltb-false}
use Rattle.std.proofs.lemmas.Option.{slice_get-map}
use Rattle.nr_spec_steps.specs.Events.{Close, Event, time_of}
use Rattle.nr_spec_steps.specs.Telling.{most_raw}
use Rattle.nr_spec_recording.specs.Merging.{Choice, behind, least, chosen, by_least, merged_by, count_in, merged}
use Rattle.nr_spec_recording.specs.Records.{Speaker, kept_of}
use Rattle.nr_spec_recording.specs.Events.{raw_length, too_long, events_of, records_in_order}
use Rattle.nr_events.specs.declared.event.Event.{Event as declared}
use Rattle.nr_events.specs.Views.{event_of}
use Rattle.nr_recording.specs.Files.{is_long, long_in}
use Rattle.nr_recording.specs.Recordings.{any_long}

-- ---- what holds of each event of each file holds of each in the merged order

each-append : (P : Event → Type 0) (xs ys : List Event) → AllByRecursion P xs → AllByRecursion P ys → AllByRecursion P (xs ++ ys)
each-append P [] ys px py = py
each-append P (x ∷ xs) ys px py = (px.0, each-append P xs ys px.1 py)

-- of the next one, and of those that are left
abbrev EachOf : (Event → Type 0) → Choice → Type 0
EachOf P choice = AllByRecursion P choice.next × AllByRecursion (AllByRecursion P) choice.files

either-chosen : (P : Event → Type 0) (e : Event) (es : List Event) (files : List (List Event)) (other : Choice) (b : Bool) → AllByRecursion P (e ∷ es) → AllByRecursion (AllByRecursion P) files → EachOf P other
    → EachOf P (cond b (record { next = e ∷ []; files = es ∷ files }) (behind (e ∷ es) other))
either-chosen P e es files other true here others rest = ((here.0, tt), (here.1, others))
either-chosen P e es files other false here others rest = (rest.0, (here, rest.1))

each-chosen : (P : Event → Type 0) (time : ℕ) (files : List (List Event)) → AllByRecursion (AllByRecursion P) files → EachOf P (chosen time files)
unfolding chosen
each-chosen P time [] each = (tt, tt)
each-chosen P time ([] ∷ files) each = let rest = each-chosen P time files each.1 in (rest.0, (tt, rest.1))
each-chosen P time ((e ∷ es) ∷ files) each = either-chosen P e es files (chosen time files) (nat_eq (time_of e) time) each.0 each.1 (each-chosen P time files each.1)

each-merged_by : (P : Event → Type 0) (n : ℕ) (files : List (List Event)) → AllByRecursion (AllByRecursion P) files → AllByRecursion P (merged_by n files)
unfolding merged_by
each-merged_by P zero files each = tt
each-merged_by P (suc n) files each =
    elim (least files) as (λ o. AllByRecursion P (by_least o (λ time. (chosen time files).next ++ merged_by n (chosen time files).files))) [
      | None ↦ tt
      | Some time ↦
          let parts = each-chosen P time files each in
          each-append P (chosen time files).next (merged_by n (chosen time files).files) parts.0 (each-merged_by P n (chosen time files).files parts.1)
    ]

pub each-merged : (P : Event → Type 0) (files : List (List Event)) → AllByRecursion (AllByRecursion P) files → AllByRecursion P (merged files)
each-merged P files each = each-merged_by P (count_in files) files each

-- ---- messages that aren't too long

abbrev pub IsShort : Event → Type 0
IsShort event = is_long event ≡ false

pub short-none : (events : List Event) → AllByRecursion IsShort events → too_long events ≡ None
short-none [] each = refl
short-none (e ∷ es) each = rw each.0 (short-none es each.1)

short_by : (e : Event) (es : List Event) (b : Bool) → is_long e ≡ b → is_some (too_long (e ∷ es)) ≡ false → (is_long e ≡ false) × (is_some (too_long es) ≡ false)
short_by e es true is none = absurd (let h = rw is at none in cc)
short_by e es false is none = (is, rw is at none)

pub none-short : (events : List Event) → is_some (too_long events) ≡ false → AllByRecursion IsShort events
none-short [] none = tt
none-short (e ∷ es) none = let parts = short_by e es (is_long e) refl none in (parts.0, none-short es parts.1)

-- without a message that is too long, each event of the recording has room in an entry
short_all : (events : List Event) (found : Option ℕ) → too_long events ≡ found → found ≡ None → AllByRecursion IsShort events
short_all events found is none = none-short events (ap is_some (is ∙ none))

pub short-events : (records : List Event) (until : Option ℕ) → too_long records ≡ None → AllByRecursion IsShort (events_of records until)
unfolding events_of
short-events records until none =
    (refl, each-append IsShort records (Close (unwrap_or until 0) ∷ []) (short_all records None none refl) (refl, tt))

-- so has each of a turn, and of the events that are left
pub each-take : (P : Event → Type 0) (n : ℕ) (events : List Event) → AllByRecursion P events → AllByRecursion P (take n events)
each-take P zero events each = tt
each-take P (suc n) [] each = tt
each-take P (suc n) (e ∷ es) each = (each.0, each-take P n es each.1)

pub each-drop : (P : Event → Type 0) (n : ℕ) (events : List Event) → AllByRecursion P events → AllByRecursion P (drop n events)
each-drop P zero events each = each
each-drop P (suc n) [] each = tt
each-drop P (suc n) (e ∷ es) each = each-drop P n es each.1

pub short-at : (events : List Event) (i : ℕ) (e : Event) → AllByRecursion IsShort events → slice_get events i ≡ Some e → raw_length e ≤ most_raw
short-at [] i e each is = absurd cc
short-at (x ∷ xs) zero e each is =
    let same : x ≡ e = cc in
    ltb-false most_raw (raw_length e) (rw same at each.0)
short-at (x ∷ xs) (suc i) e each is = short-at xs i e each.1 is

-- the same of an event of the code's
pub short-turn : (turn : List declared) (i : ℕ) (event : declared) → AllByRecursion IsShort (map event_of turn) → slice_get turn i ≡ Some event → raw_length (event_of event) ≤ most_raw
short-turn turn i event each is = short-at (map event_of turn) i (event_of event) each (slice_get-map event_of turn i ∙ ap (λ (o : Option declared). option_map event_of o) is)

neither : (a b : Bool) → (a || b) ≡ false → (a ≡ false) × (b ≡ false)
neither true b e = absurd cc
neither false b e = (refl, e)

each_file : (neighbours : List Speaker) (files : List (List Item)) → any_long neighbours files ≡ false → AllByRecursion (AllByRecursion IsShort) (map (kept_of neighbours) files)
each_file neighbours [] none = tt
each_file neighbours (items ∷ files) none =
    let parts = neither (long_in neighbours items) (any_long neighbours files) none in
    (none-short (kept_of neighbours items) parts.0, each_file neighbours files parts.1)

pub none_long : (neighbours : List Speaker) (files : List (List Item)) → any_long neighbours files ≡ false → too_long (records_in_order neighbours files) ≡ None
unfolding records_in_order
none_long neighbours files none =
    short-none (merged (map (kept_of neighbours) files)) (each-merged IsShort (map (kept_of neighbours) files) (each_file neighbours files none))
