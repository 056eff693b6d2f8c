-- MRT files one behind another, and one before the others.
use Rattle.std.proofs.Common.{◌≡◌, ◌∙◌, ℕ, ◌+◌, ◌<◌, ◌≤◌, List, [], ◌∷◌, ◌++◌, length, map, drop, Result, Ok, Err, Bor, ap, refl, sym, subst, inl, inr}
use Rattle.std.specs.Prelude.{get_or}
use Rattle.std.proofs.lemmas.List.{append-nil, append_assoc, drop_all, drop_more}
use Rattle.nr_spec_bgp.specs.Records.{Item}
use Rattle.nr_spec_plans.specs.Disk.{Disk, Memory}
use Rattle.nr_spec_plans.specs.Plans.{Act, Done, Faulted, Halt, Plan, Refuse, Refused, Room, Runs, followed_by, want, ◌>>=◌}
use Rattle.nr_spec_plans.proofs.PlanLemmas.{ran, stopped}
use Rattle.nr_spec_recording.specs.Records.{records_of}
use Rattle.nr_spec_program.specs.Command.{Malformed, MrtInput, Refusal, Work, load, well_formed}
use Rattle.nr_spec_program.specs.Recording.{mrt_plan}
use Rattle.nr_recording.specs.Recordings.{Recorded, with_file}
use Rattle.nr_recording.specs.Views.{items_in}
use Rattle.nr_log_commands.specs.Recorded.{file_plan, files_plan}

-- ---- plans one after another

-- the steps of the second are those behind the first
grouped : {E A B C : Type 0} (p : Plan E A) (f : A → Plan E B) (g : B → Plan E C) (old new : Disk) (result : Result C (Halt E))
    → Runs ((p >>= f) >>= g) old new result → Runs (p >>= λ a. f a >>= g) old new result
unfolding Runs followed_by
grouped (Done value) f g old new result runs = runs
grouped (Refuse refusal) f g old new result runs = runs
grouped (Room next) f g old new result (inl same) = inl same
grouped (Room next) f g old new result (inr runs) = inr (grouped next f g old new result runs)
grouped (Act action next) f g old new result (mid, Ok answer, acts, goes) = (mid, Ok answer, acts, grouped (next answer) f g mid new result goes)
grouped (Act action next) f g old new result (mid, Err fault, acts, goes) = (mid, Err fault, acts, goes)

regrouped : {E A B C : Type 0} (p : Plan E A) (f : A → Plan E B) (g : B → Plan E C) (old new : Disk) (result : Result C (Halt E))
    → Runs (p >>= λ a. f a >>= g) old new result → Runs ((p >>= f) >>= g) old new result
unfolding Runs followed_by
regrouped (Done value) f g old new result runs = runs
regrouped (Refuse refusal) f g old new result runs = runs
regrouped (Room next) f g old new result (inl same) = inl same
regrouped (Room next) f g old new result (inr runs) = inr (regrouped next f g old new result runs)
regrouped (Act action next) f g old new result (mid, Ok answer, acts, goes) = (mid, Ok answer, acts, regrouped (next answer) f g mid new result goes)
regrouped (Act action next) f g old new result (mid, Err fault, acts, goes) = (mid, Err fault, acts, goes)

-- another plan behind the same one
led : {E A B : Type 0} (p : Plan E A) (f : A → Plan E B) (g : A → Plan E B) (old new : Disk) (result : Result B (Halt E))
    → ((a : A) (mid : Disk) → Runs (f a) mid new result → Runs (g a) mid new result) → Runs (p >>= f) old new result → Runs (p >>= g) old new result
unfolding Runs followed_by
led (Done value) f g old new result leads runs = leads value old runs
led (Refuse refusal) f g old new result leads runs = runs
led (Room next) f g old new result leads (inl same) = inl same
led (Room next) f g old new result leads (inr runs) = inr (led next f g old new result leads runs)
led (Act action next) f g old new result leads (mid, Ok answer, acts, goes) = (mid, Ok answer, acts, led (next answer) f g mid new result leads goes)
led (Act action next) f g old new result leads (mid, Err fault, acts, goes) = (mid, Err fault, acts, goes)

-- nothing behind a plan
alone : {E A : Type 0} (p : Plan E A) (old new : Disk) (result : Result A (Halt E)) → Runs (p >>= λ value. Done value) old new result → Runs p old new result
unfolding Runs followed_by
alone (Done value) old new result runs = runs
alone (Refuse refusal) old new result runs = runs
alone (Room next) old new result (inl same) = inl same
alone (Room next) old new result (inr runs) = inr (alone next old new result runs)
alone (Act action next) old new result (mid, Ok answer, acts, goes) = (mid, Ok answer, acts, alone (next answer) mid new result goes)
alone (Act action next) old new result (mid, Err fault, acts, goes) = (mid, Err fault, acts, goes)

-- ---- files

abbrev Files : Type 0
Files = List (List Item)

-- the records of the others behind these
abbrev behind : Files → Files → Work Files
behind before rest = Done (before ++ rest)

-- the records of a file before those of the others
abbrev others_plan : ℕ → List (List ℕ) → List Item → Work Files
others_plan number others records = mrt_plan (number + 1) others >>= λ rest. Done (records ∷ rest)

-- what follows the bytes of a file
abbrev forward : Files → ℕ → List (List ℕ) → Result (List Item) ℕ → Work Files
forward before number others read = (well_formed (MrtInput number) read >>= λ records. want >>= λ room. Done (before ++ records ∷ [])) >>= λ files. files_plan files (number + 1) others

abbrev outward : Files → ℕ → List (List ℕ) → Result (List Item) ℕ → Work Files
outward before number others read = (well_formed (MrtInput number) read >>= λ records. want >>= λ room. others_plan number others records) >>= behind before

front_is : (before rest : Files) (records : List Item) → (before ++ records ∷ []) ++ rest ≡ before ++ (records ∷ rest)
front_is before rest records = append_assoc before (records ∷ []) rest

-- how the others' records lead to the end
abbrev OthersLead : ℕ → List (List ℕ) → Disk → Result Files (Halt Refusal) → Type 0
OthersLead number others new result = (before : Files) (mid : Disk) → Runs (files_plan before (number + 1) others) mid new result → Runs (mrt_plan (number + 1) others >>= behind before) mid new result

led_records : (before : Files) (number : ℕ) (others : List (List ℕ)) (records : List Item) (mid new : Disk) (result : Result Files (Halt Refusal)) → OthersLead number others new result
    → Runs (files_plan (before ++ records ∷ []) (number + 1) others) mid new result → Runs (others_plan number others records >>= behind before) mid new result
unfolding followed_by
led_records before number others records mid new result again runs =
    regrouped (mrt_plan (number + 1) others) (λ rest. Done (records ∷ rest)) (behind before) mid new result
    (led (mrt_plan (number + 1) others) (behind (before ++ records ∷ [])) (λ rest. behind before (records ∷ rest)) mid new result
    (λ rest at ran. subst (λ (l : Files). Runs {E = Refusal} (Done l) at new result) (front_is before rest records) ran)
    (again (before ++ records ∷ []) mid runs))

led_read : (before : Files) (number : ℕ) (others : List (List ℕ)) (read : Result (List Item) ℕ) (mid new : Disk) (result : Result Files (Halt Refusal)) → OthersLead number others new result
    → Runs (forward before number others read) mid new result → Runs (outward before number others read) mid new result
unfolding Runs followed_by
led_read before number others (Ok records) mid new result again (inl same) = inl same
led_read before number others (Ok records) mid new result again (inr runs) = inr (led_records before number others records mid new result again runs)
led_read before number others (Err place) mid new result again runs = runs

files_as : (names : List (List ℕ)) (before : Files) (number : ℕ) (old new : Disk) (result : Result Files (Halt Refusal))
    → Runs (files_plan before number names) old new result → Runs (mrt_plan number names >>= behind before) old new result
unfolding mrt_plan Runs followed_by
files_as [] before number old new result (same, is) = (same, is ∙ ap (λ (l : Files). Ok l) (sym (append-nil before)))
files_as (name ∷ others) before number old new result runs =
    regrouped (load (MrtInput number) name) (λ bytes. well_formed (MrtInput number) (records_of bytes) >>= λ records. want >>= λ room. others_plan number others records) (behind before) old new result
    (led (load (MrtInput number) name) (λ bytes. forward before number others (records_of bytes)) (λ bytes. outward before number others (records_of bytes)) old new result
    (λ bytes mid. led_read before number others (records_of bytes) mid new result (λ before mid. files_as others before (number + 1) mid new result))
    (grouped (load (MrtInput number) name) (λ bytes. well_formed (MrtInput number) (records_of bytes) >>= λ records. want >>= λ room. Done (before ++ records ∷ [])) (λ files. files_plan files (number + 1) others) old new result runs))

-- ---- the loop

-- What is left of the files leads to the end of all of them.
pub record Leads (initial now : Recorded) (all : List (List ℕ)) (number : ℕ) (left : List (List ℕ)) (start disk : Disk) : Type 0 where
  pub to : (new : Disk) (result : Result (List (List Item)) (Halt Refusal)) → Runs (files_plan now.files number left) disk new result → Runs (files_plan initial.files 1 all) start new result
  pub same : now.neighbours ≡ initial.neighbours

files_all : (initial : Recorded) (all : List (List ℕ)) (start new : Disk) (result : Result (List (List Item)) (Halt Refusal)) → initial.files ≡ [] → Runs (files_plan initial.files 1 all) start new result
    → Runs (mrt_plan 1 all) start new result
files_all initial all start new result none runs =
    alone (mrt_plan 1 all) start new result (files_as all [] 1 start new result (subst (λ (l : List (List Item)). Runs (files_plan l 1 all) start new result) none runs))

-- the file at a place among the names, and those behind it
abbrev names_of : List (Bor (List ℕ)) → List (List ℕ)
names_of names = map (λ s. s.now) names

at_more : (initial now : Recorded) (names : List (Bor (List ℕ))) (i : ℕ) (d : Bor (List ℕ)) (start disk : Disk) → i < length names → Leads initial now (names_of names) (i + 1) (names_of (drop i names)) start disk
    → Leads initial now (names_of names) (i + 1) ((get_or names i d).now ∷ names_of (drop (i + 1) names)) start disk
at_more initial now names i d start disk within leads = subst (λ (l : List (Bor (List ℕ))). Leads initial now (names_of names) (i + 1) (names_of l) start disk) (drop_more names i d within) leads

pub leads_ok : (initial now after : Recorded) (names : List (Bor (List ℕ))) (i : ℕ) (d : Bor (List ℕ)) (start disk new : Disk) → i < length names → Leads initial now (names_of names) (i + 1) (names_of (drop i names)) start disk
    → Runs (file_plan now.files (i + 1) (get_or names i d).now) disk new (Ok after.files) → after.neighbours ≡ now.neighbours → Leads initial after (names_of names) (i + 1 + 1) (names_of (drop (i + 1) names)) start new
leads_ok initial now after names i d start disk new within leads runs same =
    let at = at_more initial now names i d start disk within leads in
    record {
      to = λ end result rest. at.to end result (ran (file_plan now.files (i + 1) (get_or names i d).now) (λ files. files_plan files (i + 1 + 1) (names_of (drop (i + 1) names))) disk new end after.files result runs rest);
      same = same ∙ leads.same;
    }

pub leads_err : (initial now : Recorded) (names : List (Bor (List ℕ))) (i : ℕ) (d : Bor (List ℕ)) (start disk new : Disk) (halt : Halt Refusal) → initial.files ≡ [] → i < length names → Leads initial now (names_of names) (i + 1) (names_of (drop i names)) start disk
    → Runs (file_plan now.files (i + 1) (get_or names i d).now) disk new (Err halt) → Runs (mrt_plan 1 (names_of names)) start new (Err halt)
leads_err initial now names i d start disk new halt none within leads runs =
    let at = at_more initial now names i d start disk within leads in
    files_all initial (names_of names) start new (Err halt) none
    (at.to new (Err halt) (stopped (file_plan now.files (i + 1) (get_or names i d).now) (λ files. files_plan files (i + 1 + 1) (names_of (drop (i + 1) names))) disk new halt runs))

pub leads_end : (initial now : Recorded) (names : List (Bor (List ℕ))) (i : ℕ) (start disk : Disk) → initial.files ≡ [] → length names ≤ i → Leads initial now (names_of names) (i + 1) (names_of (drop i names)) start disk
    → Runs (mrt_plan 1 (names_of names)) start disk (Ok now.files)
unfolding Runs
leads_end initial now names i start disk none past leads =
    let over : drop i names ≡ [] = drop_all i names past in
    let at = subst (λ (l : List (Bor (List ℕ))). Leads initial now (names_of names) (i + 1) (names_of l) start disk) over leads in
    files_all initial (names_of names) start disk (Ok now.files) none (at.to disk (Ok now.files) (refl, refl))

-- ---- one file

-- what follows the bytes of a file
abbrev read_plan : Files → ℕ → Result (List Item) ℕ → Work Files
read_plan before number read = well_formed (MrtInput number) read >>= λ records. want >>= λ room. Done (before ++ records ∷ [])

added_by : (before : Files) (number : ℕ) (read : Result (List Item) ℕ) (records : List Item) (at : Disk) (result : Result Files (Halt Refusal)) → read ≡ Ok records
    → Runs {E = Refusal} (Room (Done (before ++ records ∷ []))) at at result → Runs (read_plan before number read) at at result
unfolding followed_by
added_by before number read records at result is runs = subst (λ (r : Result (List Item) ℕ). Runs (read_plan before number r) at at result) (sym is) runs

pub added_ok : (before after : Recorded) (number : ℕ) (read : Result (List Item) ℕ) (at : Disk) → read ≡ Ok (items_in read) → after ≡ with_file (items_in read) before
    → Runs (read_plan before.files number read) at at (Ok after.files)
unfolding Runs
added_ok before after number read at is added = added_by before.files number read (items_in read) at (Ok after.files) is (inr (refl, ap (λ (r : Recorded). Ok r.files) added))

pub added_at : (before : Files) (number place : ℕ) (read : Result (List Item) ℕ) (at : Disk) → read ≡ Err place → Runs (read_plan before number read) at at (Err (Refused (Malformed (MrtInput number) place)))
unfolding Runs followed_by
added_at before number place read at is = subst (λ (r : Result (List Item) ℕ). Runs (read_plan before number r) at at (Err (Refused (Malformed (MrtInput number) place)))) (sym is) (refl, refl)

pub added_memory : (before : Files) (number : ℕ) (read : Result (List Item) ℕ) (at : Disk) → read ≡ Ok (items_in read) → Runs (read_plan before number read) at at (Err (Faulted Memory))
unfolding Runs
added_memory before number read at is = added_by before number read (items_in read) at (Err (Faulted Memory)) is (inl (refl, refl))

pub ruleset adding = (added_ok, added_at, added_memory)
