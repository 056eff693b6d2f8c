-- What is told of the entries of a period is told of those of its parts.
use Rattle.std.proofs.Common.{◌≡◌, ℕ, suc, ◌+◌, ◌<◌, ◌≤◌, Bool, true, false, cond, List, [], ◌∷◌, ◌++◌, length, Option, refl, sym, ap, ◌∙◌, append_assoc, arith}
use Rattle.std.specs.Prelude.{nat_le}
use Rattle.std.specs.List.Sorted.{IsNonDecreasingBy}
use Rattle.std.proofs.lemmas.Bool.Decides.{nat_tests}
use Rattle.nr_spec_log.specs.Chain.{LogEntry}
use Rattle.nr_spec_history.specs.Conflicts.{Period}
use Rattle.nr_spec_counts.specs.Tallies.{Numbers}
use Rattle.nr_spec_report.specs.Wrong.{Base, WrongEntry, cause_after, is_within, wrong_after, wrong_by, wrong_entries}
use Rattle.nr_spec_promises.specs.Files.{PromiseFile}
use Rattle.nr_spec_promises.specs.Moments.{Mark, marks_after, view_after}
use Rattle.nr_laws_joining.specs.Parts.{Cuts, first_part, second_part}

-- times that never run back, from one on
abbrev pub IsSince : ℕ → List LogEntry → Type 0
IsSince last [] = Unit {0}
IsSince last (e ∷ es) = (last ≤ e.time) × IsSince e.time es

abbrev time_of : LogEntry → ℕ
time_of e = e.time

since_first : (e : LogEntry) (es : List LogEntry) → IsNonDecreasingBy time_of (e ∷ es) → IsSince e.time es
since_first e [] h = tt
since_first e (x ∷ es) h = (
  h 0 1 e (omega arith) (omega arith),
  since_first x es (λ (i j : ℕ) (d : LogEntry) le lt. h (suc i) (suc j) d (omega (arith, le)) (omega (arith, lt))),
)

pub since_all : (es : List LogEntry) → IsNonDecreasingBy time_of es → IsSince 0 es
since_all [] h = tt
since_all (e ∷ es) h = (omega arith, since_first e es h)

-- ---- times

pub early_second : (period : Period) (last n : ℕ) → n ≤ last → is_within (second_part period last) n ≡ false
early_second period last n le = grind (arith, nat_tests)

pub late_first : (period : Period) (last n : ℕ) → last < n → is_within (first_part period last) n ≡ false
late_first period last n lt = grind (arith, nat_tests)

pub early_same : (period : Period) (last n : ℕ) → last < period.to → n ≤ last → is_within period n ≡ is_within (first_part period last) n
early_same period last n to le = grind (arith, nat_tests)

pub late_same : (period : Period) (last n : ℕ) → period.from ≤ last → last < n → is_within period n ≡ is_within (second_part period last) n
late_same period last n from lt = grind (arith, nat_tests)

pub up_to : (n m : ℕ) → nat_le n m ≡ true → n ≤ m
up_to n m h = grind (arith, nat_tests)

pub above : (n m : ℕ) → nat_le n m ≡ false → m < n
above n m h = grind (arith, nat_tests)

-- ---- what is told, by the entries before each

module _ {A : Type 0} (tell : List LogEntry → LogEntry → List A) where
  abbrev pub told : Period → List LogEntry → List LogEntry → List A
  told period past [] = []
  told period past (e ∷ es) = cond (is_within period e.time) (tell past e) [] ++ told period (past ++ e ∷ []) es

  none_late : (period : Period) (last low : ℕ) (past es : List LogEntry) → last < low → IsSince low es → told (first_part period last) past es ≡ []
  none_late period last low past [] late since = refl
  none_late period last low past (e ∷ es) late since =
      let time : last < e.time = let le = since.0 in omega (arith, late, le) in
      ap (λ b. cond b (tell past e) [] ++ told (first_part period last) (past ++ e ∷ []) es) (late_first period last e.time time)
      ∙ none_late period last e.time (past ++ e ∷ []) es time since.1

  all_late : (period : Period) (last low : ℕ) (past es : List LogEntry) → period.from ≤ last → last < low → IsSince low es → told period past es ≡ told (second_part period last) past es
  all_late period last low past [] from late since = refl
  all_late period last low past (e ∷ es) from late since =
      let time : last < e.time = let le = since.0 in omega (arith, late, le) in
      let here = late_same period last e.time from time in
      let rest = all_late period last e.time (past ++ e ∷ []) es from time since.1 in
      λ i. cond (here i) (tell past e) [] ++ rest i

  pub told_parts : (period : Period) (last low : ℕ) (past es : List LogEntry) → Cuts period last → IsSince low es
      → told period past es ≡ told (first_part period last) past es ++ told (second_part period last) past es
  told_parts period last low past [] cuts since = refl
  told_parts period last low past (e ∷ es) cuts since = by (nat_le e.time last) refl (told_parts period last e.time (past ++ e ∷ []) es cuts since.1)
    where
      first : Period
      first = first_part period last

      second : Period
      second = second_part period last

      by : (b : Bool) → nat_le e.time last ≡ b → told period (past ++ e ∷ []) es ≡ told first (past ++ e ∷ []) es ++ told second (past ++ e ∷ []) es
          → told period past (e ∷ es) ≡ told first past (e ∷ es) ++ told second past (e ∷ es)
      by true is rest =
          let le = up_to e.time last is in
          let here = early_same period last e.time cuts.to le in
          let later = told first (past ++ e ∷ []) es in
          (λ i. cond (here i) (tell past e) [] ++ rest i)
          ∙ sym (append_assoc (cond (is_within first e.time) (tell past e) []) later (told second (past ++ e ∷ []) es))
          ∙ ap (λ b. told first past (e ∷ es) ++ (cond b (tell past e) [] ++ told second (past ++ e ∷ []) es)) (sym (early_second period last e.time le))
      by false is rest =
          let lt = above e.time last is in
          let since_e : IsSince e.time (e ∷ es) = (omega arith, since.1) in
          all_late period last e.time past (e ∷ es) cuts.from lt since_e
          ∙ ap (λ (l : List A). l ++ told second past (e ∷ es)) (sym (none_late period last e.time past (e ∷ es) lt since_e))

-- ---- wrong entries

abbrev tell_wrong : List Numbers → Base → ℕ → List LogEntry → LogEntry → List WrongEntry
tell_wrong files base first past e = wrong_by (first + length past) (cause_after files base past (first + length past) e)

wrong_told : (files : List Numbers) (base : Base) (period : Period) (first : ℕ) (past es : List LogEntry)
    → wrong_after files base period first past es ≡ told (tell_wrong files base first) period past es
wrong_told files base period first past [] = refl
wrong_told files base period first past (e ∷ es) =
    ap (λ (l : List WrongEntry). cond (is_within period e.time) (tell_wrong files base first past e) [] ++ l) (wrong_told files base period first (past ++ e ∷ []) es)

pub wrong_parts : (files : List Numbers) (base : Base) (period : Period) (last first : ℕ) (es : List LogEntry) → Cuts period last → IsNonDecreasingBy time_of es
    → wrong_entries files base period first es ≡ wrong_entries files base (first_part period last) first es ++ wrong_entries files base (second_part period last) first es
wrong_parts files base period last first es cuts order =
    let one = wrong_told files base (first_part period last) first [] es in
    let two = wrong_told files base (second_part period last) first [] es in
    wrong_told files base period first [] es
    ∙ told_parts (tell_wrong files base first) period last 0 [] es cuts (since_all es order)
    ∙ sym (λ i. one i ++ two i)

-- ---- moments

abbrev pub tell_mark : List PromiseFile → Base → Option (List ℕ) → List LogEntry → LogEntry → List Mark
tell_mark files base first past e = record { begin = e.time; view = view_after files base first (past ++ e ∷ []) } ∷ []

marks_told : (files : List PromiseFile) (base : Base) (first : Option (List ℕ)) (period : Period) (past es : List LogEntry)
    → marks_after files base first period past es ≡ told (tell_mark files base first) period past es
marks_told files base first period past [] = refl
marks_told files base first period past (e ∷ es) =
    ap (λ (l : List Mark). cond (is_within period e.time) (tell_mark files base first past e) [] ++ l) (marks_told files base first period (past ++ e ∷ []) es)

pub marks_parts : (files : List PromiseFile) (base : Base) (first : Option (List ℕ)) (period : Period) (last : ℕ) (es : List LogEntry) → Cuts period last → IsNonDecreasingBy time_of es
    → marks_after files base first period [] es ≡ marks_after files base first (first_part period last) [] es ++ marks_after files base first (second_part period last) [] es
marks_parts files base first period last es cuts order =
    let one = marks_told files base first (first_part period last) [] es in
    let two = marks_told files base first (second_part period last) [] es in
    marks_told files base first period [] es
    ∙ told_parts (tell_mark files base first) period last 0 [] es cuts (since_all es order)
    ∙ sym (λ i. one i ++ two i)
