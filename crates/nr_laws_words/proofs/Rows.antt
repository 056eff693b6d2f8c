-- The values of an id among the rows that a walk leaves.
use Rattle.std.proofs.Common.{◌≡◌, ◌∙◌, ◌||◌, ◌&&◌, Bool, cond, true, false, not, refl, sym, ap, List, [], ◌∷◌, ◌++◌, Option, Some, None, option_map, option_and_then, bytes_eq, find, slice_get, unwrap_or, append-nil}
use Rattle.std.specs.List.{list_all}
use Rattle.std.specs.Option.{option_map_or}
use Rattle.std.proofs.lemmas.Bool.{and_parts, and_from, or_parts, false_from_ne_true, true≢false}
use Rattle.std.proofs.lemmas.Slice.Eq.{bytes_eq-Decides}
use Rattle.clap.specs.Facts.{explicit_source}
use Rattle.clap.specs.Takes.{is_given}
use Rattle.clap.specs.Walk.{Row, Text, all_of, first_of, has_row, is_empty, stronger, with_values, without}
use Rattle.clap.specs.declared.builder.value_parser.Reading.TheVariants.{AsWritten}
use Rattle.clap.specs.declared.parser.matches.ValueSource.{ValueSource}
use Rattle.clap.specs.declared.parser.matches.ValueSource.TheVariants.{CommandLine, DefaultValue}
use Rattle.nr_words.specs.Grammar.{files_id}
use Rattle.nr_laws_words.proofs.Looks.{empty_not}
use Rattle.nr_laws_words.proofs.Steps.{Use, Opt, Put, is_repeat, use_rows}

-- the values of the first row of an id
abbrev pub vals : Text → List Row → List Text
vals id [] = []
vals id (r ∷ rs) = cond (bytes_eq r.id id) r.values (vals id rs)

-- the row has a value, and comes from the words
abbrev pub is_good : Row → Bool
is_good r = not (is_empty r.values) && explicit_source r.source

abbrev pub AreGood : List Row → Type 0
AreGood rows = list_all is_good rows ≡ true

pub has_row-vals : (id : Text) (rows : List Row) → AreGood rows → has_row id rows ≡ not (is_empty (vals id rows))
has_row-vals id [] good = refl
has_row-vals id (r ∷ rs) good =
    let parts = and_parts (is_good r) (list_all is_good rs) good in
    let own = and_parts (not (is_empty r.values)) (explicit_source r.source) parts.0 in
    elim (bytes_eq r.id id) as (λ b. (b || has_row id rs) ≡ not (is_empty (cond b r.values (vals id rs)))) [
      | true ↦ sym own.0
      | false ↦ has_row-vals id rs parts.1
    ]

pub is_given-vals : (id : Text) (rows : List Row) → AreGood rows → is_given id rows ≡ not (is_empty (vals id rows))
is_given-vals id [] good = refl
is_given-vals id (r ∷ rs) good =
    let parts = and_parts (is_good r) (list_all is_good rs) good in
    let own = and_parts (not (is_empty r.values)) (explicit_source r.source) parts.0 in
    elim (bytes_eq r.id id) as (λ b. option_map_or (λ q. explicit_source q.source) (cond b (Some r) (find (λ q. bytes_eq q.id id) rs)) false ≡ not (is_empty (cond b r.values (vals id rs)))) [
      | true ↦ own.1 ∙ sym own.0
      | false ↦ is_given-vals id rs parts.1
    ]

pub first_of-vals : (id : Text) (rows : List Row) → first_of id rows ≡ slice_get (vals id rows) 0
first_of-vals id [] = refl
first_of-vals id (r ∷ rs) = elim (bytes_eq r.id id) as (λ b. option_and_then (λ q. slice_get q.values 0) (cond b (Some r) (find (λ q. bytes_eq q.id id) rs)) ≡ slice_get (cond b r.values (vals id rs)) 0) [
  | true ↦ refl
  | false ↦ first_of-vals id rs
]

pub all_of-vals : (id : Text) (rows : List Row) → unwrap_or (all_of id rows) [] ≡ vals id rows
all_of-vals id [] = refl
all_of-vals id (r ∷ rs) = elim (bytes_eq r.id id) as (λ b. unwrap_or (option_map (λ q. q.values) (cond b (Some r) (find (λ q. bytes_eq q.id id) rs))) [] ≡ cond b r.values (vals id rs)) [
  | true ↦ refl
  | false ↦ all_of-vals id rs
]

pub differ : (a b c : Text) → bytes_eq a b ≡ false → bytes_eq a c ≡ true → bytes_eq b c ≡ false
differ a b c ne is = false_from_ne_true (bytes_eq b c) (λ same.
    true≢false (sym ((bytes_eq-Decides a b).1 ((bytes_eq-Decides a c).0 is ∙ sym ((bytes_eq-Decides b c).0 same))) ∙ ne))

pushed : (b : Bool) (xs ys : List Text) (v : Text) → cond b (xs ++ v ∷ []) ys ≡ cond b xs ys ++ cond b (v ∷ []) []
pushed true xs ys v = refl
pushed false xs ys v = sym (append-nil ys)

kept : (b d : Bool) (xs ys : List Text) (v : Text) → (b ≡ true → d ≡ false) → cond b xs (ys ++ cond d (v ∷ []) []) ≡ cond b xs ys ++ cond d (v ∷ []) []
kept true d xs ys v is = sym (ap (λ e. xs ++ cond e (v ∷ []) []) (is refl) ∙ append-nil xs)
kept false d xs ys v is = refl

-- one more value of an id
pub vals-with_values : (id name v : Text) (rows : List Row) → vals id (with_values name AsWritten CommandLine (v ∷ []) rows) ≡ vals id rows ++ cond (bytes_eq name id) (v ∷ []) []
vals-with_values id name v [] = refl
vals-with_values id name v (r ∷ rs) = go (bytes_eq r.id name) refl (vals-with_values id name v rs)
  where
    go : (b : Bool) → bytes_eq r.id name ≡ b → vals id (with_values name AsWritten CommandLine (v ∷ []) rs) ≡ vals id rs ++ cond (bytes_eq name id) (v ∷ []) []
        → vals id (with_values name AsWritten CommandLine (v ∷ []) (r ∷ rs)) ≡ vals id (r ∷ rs) ++ cond (bytes_eq name id) (v ∷ []) []
    go true e ih = rw e (pushed (bytes_eq r.id id) r.values (vals id rs) v ∙ ap (λ n. cond (bytes_eq r.id id) r.values (vals id rs) ++ cond (bytes_eq n id) (v ∷ []) []) ((bytes_eq-Decides r.id name).0 e))
    go false e ih = rw e (ap (cond (bytes_eq r.id id) r.values) ih ∙ kept (bytes_eq r.id id) (bytes_eq name id) r.values (vals id rs) v (λ is. differ r.id name id e is))

pub without_none : (id : Text) (rows : List Row) → has_row id rows ≡ false → without id rows ≡ rows
without_none id [] absent = refl
without_none id (r ∷ rs) absent =
    let parts = or_parts (bytes_eq r.id id) (has_row id rs) absent in
    rw parts.0 (ap (λ xs. r ∷ xs) (without_none id rs parts.1))

push_not : (xs : List Text) (v : Text) → is_empty (xs ++ v ∷ []) ≡ false
push_not [] v = empty_not v []
push_not (x ∷ xs) v = empty_not x (xs ++ v ∷ [])

explicit : (source : Option ValueSource) → explicit_source (Some (stronger source CommandLine)) ≡ true
explicit None = refl
explicit (Some CommandLine) = refl
explicit (Some DefaultValue) = refl

pub good-with_values : (name v : Text) (rows : List Row) → AreGood rows → AreGood (with_values name AsWritten CommandLine (v ∷ []) rows)
good-with_values name v [] good = refl
good-with_values name v (r ∷ rs) good = go (bytes_eq r.id name) refl (good-with_values name v rs (and_parts (is_good r) (list_all is_good rs) good).1)
  where
    go : (b : Bool) → bytes_eq r.id name ≡ b → AreGood (with_values name AsWritten CommandLine (v ∷ []) rs) → AreGood (with_values name AsWritten CommandLine (v ∷ []) (r ∷ rs))
    go true e ih = rw (e, push_not r.values v, explicit r.source) (and_parts (is_good r) (list_all is_good rs) good).1
    go false e ih = rw e (and_from (is_good r) _ (and_parts (is_good r) (list_all is_good rs) good).0 ih)

-- ---- uses

-- what a use gives an id
abbrev pub val_of : Text → Use → List Text
val_of id (Opt name value) = cond (bytes_eq name id) (value ∷ []) []
val_of id (Put word) = cond (bytes_eq files_id id) (word ∷ []) []

pub use_vals : (id : Text) (u : Use) (rows : List Row) → is_repeat u rows ≡ false → vals id (use_rows u rows) ≡ vals id rows ++ val_of id u
use_vals id (Opt name value) rows absent = ap (λ rs. vals id (with_values name AsWritten CommandLine (value ∷ []) rs)) (without_none name rows absent) ∙ vals-with_values id name value rows
use_vals id (Put word) rows absent = vals-with_values id files_id word rows

pub use_good : (u : Use) (rows : List Row) → is_repeat u rows ≡ false → AreGood rows → AreGood (use_rows u rows)
use_good (Opt name value) rows absent good = rw (without_none name rows absent) (good-with_values name value rows good)
use_good (Put word) rows absent good = good-with_values files_id word rows good
