-- Where a name stands, and what is found and placed there.
use Rattle.std.proofs.Common.{◌≡◌, ◌≢◌, ℕ, min, if◌then◌else◌, zero, suc, ◌<◌, ◌≤◌, Bool, true, false, List, [], ◌∷◌, ◌++◌, length, get_or, set, None, Some, refl, sym, ◌∙◌, ap, arith, inl, inr}
use Rattle.std.specs.Prelude.{◌==◌, ◌&&◌}
use Rattle.std.specs.List.{position, position_or_len}
use Rattle.std.specs.Str.{bytes_eq}
use Rattle.std.proofs.lemmas.Bool.{cases_Bool, false_from_ne_true}
use Rattle.std.proofs.lemmas.Slice.Eq.{bytes_eq-Decides}
use Rattle.std.proofs.lemmas.List.Quantifiers.{position-Some}
use Rattle.std.proofs.lemmas.Grind.{common_steps}
use Rattle.nr_ports.specs.Ports.{Named, Stored, absent, stored_in, Stores, synced, cut_by}

abbrev pub named : List ℕ → Named → Bool
named name file = bytes_eq file.name name

-- two names are the same or not
same_name : (a b : List ℕ) → bytes_eq a b ≡ true → a ≡ b
same_name a b is = (bytes_eq-Decides a b).0 is

other_name : (a b : List ℕ) → a ≢ b → bytes_eq a b ≡ false
other_name a b ne = false_from_ne_true (bytes_eq a b) (λ is. ne (same_name a b is))

is_name : (a : List ℕ) → bytes_eq a a ≡ true
is_name a = (bytes_eq-Decides a a).1 refl

-- a file of this name, after none
record IsFirst (name : List ℕ) (files : List Named) (i : ℕ) (d : Named) : Type 0 where
  pub there : i < length files
  pub has : named name (get_or files i d) ≡ true
  pub before : (k : ℕ) → k < i → named name (get_or files k d) ≡ false

first_at : (name : List ℕ) (files : List Named) (i : ℕ) (d : Named) → position (λ file. bytes_eq file.name name) files ≡ Some i → IsFirst name files i d
first_at name files i d is = let p = position-Some (named name) files i d is in record { there = p.0; has = p.1; before = p.2 }

later : (name : List ℕ) (file : Named) (files : List Named) (i : ℕ) (d : Named) → IsFirst name (file ∷ files) (suc i) d → IsFirst name files i d
later name file files i d first = record { there = omega (arith, first.there); has = first.has; before = λ k le. first.before (suc k) (omega arith) }

stored_at : (name : List ℕ) (files : List Named) (i : ℕ) (d : Named) → IsFirst name files i d → stored_in files name ≡ (get_or files i d).stored
stored_at name [] i d first = absurd (omega (arith, first.there))
stored_at name (file ∷ files) zero d first = let h : bytes_eq file.name name ≡ true = first.has in rw h refl
stored_at name (file ∷ files) (suc i) d first = let h : bytes_eq file.name name ≡ false = first.before zero (omega arith) in rw h (stored_at name files i d (later name file files i d first))

named_at : (name : List ℕ) (files : List Named) (i : ℕ) (d now : Named) → IsFirst name files i d → now.name ≡ (get_or files i d).name → stored_in (set files i now) name ≡ now.stored
named_at name [] i d now first same = absurd (omega (arith, first.there))
named_at name (file ∷ files) zero d now first same = let h : bytes_eq now.name name ≡ true = ap (λ (n : List ℕ). bytes_eq n name) same ∙ first.has in rw h refl
named_at name (file ∷ files) (suc i) d now first same = let h : bytes_eq file.name name ≡ false = first.before zero (omega arith) in rw h (named_at name files i d now (later name file files i d first) same)

others_at : (name other : List ℕ) (files : List Named) (i : ℕ) (d now : Named) → other ≢ name → IsFirst name files i d → now.name ≡ (get_or files i d).name → stored_in (set files i now) other ≡ stored_in files other
others_at name other [] i d now ne first same = absurd (omega (arith, first.there))
others_at name other (file ∷ files) zero d now ne first same =
    let is : file.name ≡ name = same_name file.name name first.has in
    let h : bytes_eq file.name other ≡ false = other_name file.name other (λ e. ne (sym e ∙ is)) in
    let k : bytes_eq now.name other ≡ false = ap (λ (n : List ℕ). bytes_eq n other) same ∙ h in
    rw (h, k) refl
others_at name other (file ∷ files) (suc i) d now ne first same =
    ap (λ (s : Stored). if bytes_eq file.name other then file.stored else s) (others_at name other files i d now ne (later name file files i d first) same)

-- the file of this name, and what another in its place makes
pub record Found (name : List ℕ) (files : List Named) (i : ℕ) (file : Named) : Type 0 where
  pub stored : stored_in files name ≡ file.stored
  pub stores : (now : Named) → now.name ≡ file.name → Stores name now.stored files (set files i now)

pub found : (name : List ℕ) (files : List Named) (i : ℕ) (file : Named) → Some i ≡ position (λ f. bytes_eq f.name name) files → file ≡ get_or files i file → Found name files i file
found name files i file is at =
    let first = first_at name files i file (sym is) in
    record {
      stored = stored_at name files i file first ∙ ap (λ (f : Named). f.stored) (sym at);
      stores = λ now same.
          let e : now.name ≡ (get_or files i file).name = same ∙ ap (λ (f : Named). f.name) at in
          record { named = named_at name files i file now first e; others = λ other ne. others_at name other files i file now ne first e };
    }

-- no file of this name
IsAbsent : List ℕ → List Named → Type 0
IsAbsent name files = length files ≤ position_or_len (named name) files

is_absent : (name : List ℕ) (files : List Named) → position (λ file. bytes_eq file.name name) files ≡ None → IsAbsent name files
unfolding IsAbsent
is_absent name files is = grind (arith, common_steps)

later_absent : (name : List ℕ) (file : Named) (files : List Named) → IsAbsent name (file ∷ files) → (bytes_eq file.name name ≡ false) × IsAbsent name files
unfolding IsAbsent
later_absent name file files none = elim (cases_Bool (bytes_eq file.name name)) [
  | inl is ↦ absurd (let h = rw is at none in omega arith)
  | inr is ↦ (is, (let h = rw is at none in omega arith))
]

stored_absent : (name : List ℕ) (files : List Named) → IsAbsent name files → stored_in files name ≡ absent
stored_absent name [] none = refl
stored_absent name (file ∷ files) none = let h = later_absent name file files none in rw h.0 (stored_absent name files h.1)

put_named : (name : List ℕ) (s : Stored) (files : List Named) → IsAbsent name files → stored_in (files ++ record { name = name; stored = s } ∷ []) name ≡ s
put_named name s [] none = let h = is_name name in rw h refl
put_named name s (file ∷ files) none = let h = later_absent name file files none in rw h.0 (put_named name s files h.1)

put_others : (name other : List ℕ) (s : Stored) (files : List Named) → other ≢ name → stored_in (files ++ record { name = name; stored = s } ∷ []) other ≡ stored_in files other
put_others name other s [] ne = let h = other_name name other (λ is. ne (sym is)) in rw h refl
put_others name other s (file ∷ files) ne = ap (λ (t : Stored). if bytes_eq file.name other then file.stored else t) (put_others name other s files ne)

-- no file of this name, and what one more makes
pub record Missing (name : List ℕ) (files : List Named) : Type 0 where
  pub stored : stored_in files name ≡ absent
  pub stores : (s : Stored) → Stores name s files (files ++ record { name = name; stored = s } ∷ [])

pub missing : (name : List ℕ) (files : List Named) → None ≡ position (λ f. bytes_eq f.name name) files → Missing name files
missing name files is =
    let none = is_absent name files (sym is) in
    record { stored = stored_absent name files none; stores = λ s. record { named = put_named name s files none; others = λ other ne. put_others name other s files ne } }

-- what an operation on the file of a name makes, and one on a new file
pub changed : (name : List ℕ) (files : List Named) (i : ℕ) (file now : Named) (op : Stored → Stored) → Some i ≡ position (λ f. bytes_eq f.name name) files → file ≡ get_or files i file
    → now ≡ record { name = file.name; stored = op file.stored } → Stores name (op (stored_in files name)) files (set files i now)
changed name files i file now op is at made =
    let there = found name files i file is at in
    let s = there.stores now (ap (λ (n : Named). n.name) made) in
    record { named = s.named ∙ ap (λ (n : Named). n.stored) made ∙ ap op (sym there.stored); others = s.others }

pub added : (name : List ℕ) (files : List Named) (now : Named) (op : Stored → Stored) → None ≡ position (λ f. bytes_eq f.name name) files → now ≡ record { name = name; stored = op absent }
    → Stores name (op (stored_in files name)) files (files ++ now ∷ [])
added name files now op is made =
    let none = missing name files is in
    let s = none.stores (op absent) in
    rw (made, none.stored) s

pub unchanged : (name : List ℕ) (files : List Named) → None ≡ position (λ f. bytes_eq f.name name) files → Stores name (synced (stored_in files name)) files files
unchanged name files is = let none = missing name files is in record { named = none.stored ∙ ap synced (sym none.stored); others = λ other ne. refl }

pub added_as : (name : List ℕ) (files new : List Named) (file now : Named) (op : Stored → Stored) → None ≡ position (λ f. bytes_eq f.name name) files → file ≡ record { name = name; stored = absent } → now ≡ record { name = file.name; stored = op file.stored }
    → new ≡ files ++ now ∷ [] → Stores name (op (stored_in files name)) files new
added_as name files new file now op is first made list =
    let whole : now ≡ record { name = name; stored = op absent } = made ∙ ap (λ (f : Named). record { name = f.name; stored = op f.stored }) first in
    rw list (added name files now op is whole)

-- a cut that makes no file of an absent name
uncut_none : (done : Bool) (to : ℕ) → (done && (to == 0)) ≡ false → cut_by done to absent ≡ absent
uncut_none false to none = let h : min 0 to ≡ 0 = omega arith in rw h refl
uncut_none true to none = let h : min 0 to ≡ 0 = omega arith in rw (none, h) refl

pub uncut : (name : List ℕ) (files : List Named) (done : Bool) (to : ℕ) → None ≡ position (λ f. bytes_eq f.name name) files → (done && (to == 0)) ≡ false → Stores name (cut_by done to (stored_in files name)) files files
uncut name files done to is none =
    let gone = missing name files is in
    record { named = gone.stored ∙ sym (uncut_none done to none) ∙ ap (cut_by done to) (sym gone.stored); others = λ other ne. refl }
