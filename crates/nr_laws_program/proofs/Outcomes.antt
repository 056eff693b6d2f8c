-- What a plan gives by what the files hold, taken apart.
use Rattle.std.proofs.Common.{◌≡◌, ℕ, List, length, take, false, Option, Some, None, Result, Ok, Err, refl, sym, ap, ◌∙◌, inl, inr}
use Rattle.std.specs.Prelude.{nat_le, nat_lt, option_map}
use Rattle.std.proofs.lemmas.Bool.{cases_Bool}
use Rattle.std.proofs.Math.Seq.{take-length}
use mathlib.Core.Path.{fun_ext}
use Rattle.nr_spec_plans.specs.Disk.{Contents, bytes_of}
use Rattle.nr_spec_plans.specs.Plans.{Read, Sync, Plan, Done, Refuse, Room, Act, act, followed_by, ◌>>=◌, refusing}
use Rattle.nr_spec_plans.specs.Laws.{answer_of, outcome}
use Rattle.nr_spec_store.specs.LogFile.{LogFile, log_of, most_log}
use Rattle.nr_spec_store.specs.StorePlans.{found_plan, load_plan, loading, refused_at, understood, within_limit}
use Rattle.nr_spec_program.specs.Command.{Input, input_limit, load, sized, well_formed}
use Rattle.nr_spec_program.specs.Recording.{log_plan, unread_log}

-- ---- one plan after another

-- the first plan gave something, and the rest gives this
pub apart : {E A B : Type 0} (held : Contents) (p : Plan E A) (f : A → Plan E B) (value : B) → outcome held (followed_by p f) ≡ Ok value → (first : A) × (outcome held p ≡ Ok first) × (outcome held (f first) ≡ Ok value)
unfolding followed_by
apart held (Done v) f value is = (v, refl, is)
apart held (Refuse refusal) f value is = absurd cc
apart held (Room next) f value is = apart held next f value is
apart held (Act action next) f value is = apart held (next (answer_of held action)) f value is

-- the order in which plans are put together doesn't matter
pub together : {E A B C : Type 0} (p : Plan E A) (f : A → Plan E B) (g : B → Plan E C) → followed_by (followed_by p f) g ≡ followed_by p (λ x. followed_by (f x) g)
unfolding followed_by
together (Done v) f g = refl
together (Refuse refusal) f g = refl
together (Room next) f g = ap (λ p. Room p) (together next f g)
together (Act action next) f g = ap (λ n. Act action n) (fun_ext (λ answer. together (next answer) f g))

pub together_so : {E A B C : Type 0} (p : Plan E A) (f : A → Plan E B) (g : B → Plan E C) (h : A → Plan E C) → ((x : A) → followed_by (f x) g ≡ h x) → followed_by (followed_by p f) g ≡ followed_by p h
together_so p f g h each = together p f g ∙ ap (λ k. followed_by p k) (fun_ext each)

pub refusing_apart : {E F A : Type 0} (held : Contents) (as_said : E → F) (p : Plan E A) (value : A) → outcome held (refusing as_said p) ≡ Ok value → outcome held p ≡ Ok value
unfolding refusing
refusing_apart held as_said (Done v) value is = let e : v ≡ value = cc in ap (λ a. Ok a) e
refusing_apart held as_said (Refuse refusal) value is = absurd cc
refusing_apart held as_said (Room next) value is = refusing_apart held as_said next value is
refusing_apart held as_said (Act action next) value is = refusing_apart held as_said (next (answer_of held action)) value is

-- ---- files

pub sized_gives : (held : Contents) (input : Input) (size : Option ℕ) (n : ℕ) → outcome held (sized input size) ≡ Ok n → size ≡ Some n
sized_gives held input None n is = absurd cc
sized_gives held input (Some found) n is = elim (cases_Bool (nat_le found (input_limit input))) [ inl by ↦ (let e = rw by at is in cc) | inr by ↦ absurd (let e = rw by at is in cc) ]

whole_taken : (file : Option (List ℕ)) (n : ℕ) → option_map length file ≡ Some n → take n (bytes_of file) ≡ bytes_of file
whole_taken None n is = absurd cc
whole_taken (Some bytes) n is = let e : length bytes ≡ n = cc in rw (sym e) (take-length bytes)

-- a file that is loaded is read in whole
pub load_gives : (held : Contents) (input : Input) (name bytes : List ℕ) → outcome held (load input name) ≡ Ok bytes → bytes ≡ bytes_of (held name)
unfolding load followed_by
load_gives held input name bytes is =
    let a = apart held (sized input (option_map length (held name))) (λ size. act (Read name size)) bytes is in
    let e : take a.0 (bytes_of (held name)) ≡ bytes = (let k = a.2 in cc) in
    sym e ∙ whole_taken (held name) a.0 (sized_gives held input (option_map length (held name)) a.0 a.1)

pub formed_gives : {A : Type 0} (held : Contents) (input : Input) (found : Result A ℕ) (value : A) → outcome held (well_formed input found) ≡ Ok value → found ≡ Ok value
formed_gives held input (Ok v) value is = let e : v ≡ value = cc in ap (λ a. Ok a) e
formed_gives held input (Err place) value is = absurd cc

-- ---- logs

understood_gives : {A : Type 0} (held : Contents) (found : Result A ℕ) (value : A) → outcome held (understood found) ≡ Ok value → found ≡ Ok value
understood_gives held (Ok v) value is = let e : v ≡ value = cc in ap (λ a. Ok a) e
understood_gives held (Err place) value is = absurd cc

limit_gives : (held : Contents) (size : ℕ) (x : Unit {0}) → outcome held (within_limit size) ≡ Ok x → nat_lt most_log size ≡ false
unfolding within_limit
limit_gives held size x is = elim (cases_Bool (nat_lt most_log size)) [ inl by ↦ absurd (let e = rw by at is in cc) | inr by ↦ by ]

absent_loads : (file : Option (List ℕ)) → None ≡ option_map length file → loading (bytes_of file) ≡ Ok None
unfolding log_of
absent_loads None is = refl
absent_loads (Some bytes) is = absurd cc

counted : (file : Option (List ℕ)) (n : ℕ) → Some n ≡ option_map length file → length (bytes_of file) ≡ n
counted None n is = absurd cc
counted (Some bytes) n is = cc

small_loads : (bytes : List ℕ) (found : Option LogFile) → nat_lt most_log (length bytes) ≡ false → log_of bytes ≡ Ok found → loading bytes ≡ Ok found
small_loads bytes found small is = rw small (ap refused_at is)

found_gives : (held : Contents) (name : List ℕ) (size : Option ℕ) (found : Option LogFile) → size ≡ option_map length (held name) → outcome held (found_plan name size) ≡ Ok found → loading (bytes_of (held name)) ≡ Ok found
unfolding found_plan followed_by
found_gives held name None found of is = absent_loads (held name) of ∙ (let e : None ≡ found = cc in ap (λ a. Ok a) e)
found_gives held name (Some size) found of is =
    let a = apart held (within_limit size) (λ fits. act (Sync name) >>= λ synced. act (Read name size) >>= λ bytes. understood (log_of bytes)) found is in
    let whole : log_of (take size (bytes_of (held name))) ≡ Ok found = understood_gives held (log_of (take size (bytes_of (held name)))) found a.2 in
    small_loads (bytes_of (held name)) found (ap (λ n. nat_lt most_log n) (counted (held name) size of) ∙ limit_gives held size a.0 a.1)
    (ap log_of (sym (whole_taken (held name) size (sym of))) ∙ whole)

pub log_gives : (held : Contents) (name : List ℕ) (found : Option LogFile) → outcome held (log_plan name) ≡ Ok found → loading (bytes_of (held name)) ≡ Ok found
unfolding load_plan followed_by
log_gives held name found is = found_gives held name (option_map length (held name)) found refl (refusing_apart held unread_log (load_plan name) found is)
