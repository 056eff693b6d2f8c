-- The laws of plans.
use Rattle.std.proofs.Common.{◌≡◌, ◌≢◌, ℕ, List, Option, None, Some, Result, Ok, Err, refl, ap, subst, ◌∙◌, inl, inr, ◌⊎◌, ⊎_elim}
use Rattle.std.proofs.Common.{[], ◌++◌, ◌+◌}
use Rattle.std.proofs.lemmas.List.{append-nil}
use Rattle.std.proofs.Math.Seq.{drop-nil}
use Rattle.nr_spec_plans.specs.Disk.{written, cut_to, ChangesOnly, IsSynced, Loose, settled}
use Rattle.nr_spec_plans.specs.Plans.{save}
use Rattle.nr_spec_plans.specs.Laws.{Saved, Spares, Kept, Ends}
use Rattle.nr_spec_plans.specs.Disk.{Leaves}
use Rattle.std.specs.Prelude.{option_map, length}
use Rattle.nr_spec_plans.specs.Disk.{Disk, Told, Fault, ReadFault, WriteFault, Memory, Writing, counting, telling, asked, asking, reading, ticking, bytes_of, Contents}
use Rattle.nr_spec_plans.specs.Plans.{Action, Answer, Acts, Ask, Read, Cut, Write, Sync, Plan, Done, Refuse, Room, Act, Halt, Refused, Faulted, Runs, followed_by}
use Rattle.nr_spec_plans.specs.Laws.{CountsOne, reads_after, writes_after, fault_in, IsRead, Each, Unchanged, answer_of, outcome, Gives}

-- ---- causes

counting_reads : {A : Type 0} (got : Result A Fault) (d : Disk) → (counting got d).read_faults ≡ reads_after got d.read_faults
counting_reads (Ok answer) d = refl
counting_reads (Err ReadFault) d = refl
counting_reads (Err WriteFault) d = refl
counting_reads (Err Memory) d = refl

counting_writes : {A : Type 0} (got : Result A Fault) (d : Disk) → (counting got d).write_faults ≡ writes_after got d.write_faults
counting_writes (Ok answer) d = refl
counting_writes (Err ReadFault) d = refl
counting_writes (Err WriteFault) d = refl
counting_writes (Err Memory) d = refl

-- a step counts its own fault and nothing else
pub step_reads : (action : Action) (old new : Disk) (got : Result (Answer action) Fault) → Acts action old new got → new.read_faults ≡ reads_after got old.read_faults
step_reads (Ask name) old new got acts = ap (λ (d : Disk). d.read_faults) acts.after ∙ counting_reads got (asked old)
step_reads (Read name size) old new (Ok bytes) acts = ap (λ (d : Disk). d.read_faults) acts.0.after
step_reads (Read name size) old new (Err fault) (inl (is, same)) = rw is (ap (λ (d : Disk). d.read_faults) same)
step_reads (Read name size) old new (Err fault) (inr stops) = rw stops.cause (ap (λ (d : Disk). d.read_faults) stops.after)
step_reads (Cut name len) old new got acts = ap (λ (d : Disk). d.read_faults) acts.after ∙ counting_reads got (telling new.told old)
step_reads (Write name at bytes) old new got acts = ap (λ (d : Disk). d.read_faults) acts.after ∙ counting_reads got (telling new.told old)
step_reads (Sync name) old new got acts = ap (λ (d : Disk). d.read_faults) acts.after ∙ counting_reads got (telling new.told old)

pub step_writes : (action : Action) (old new : Disk) (got : Result (Answer action) Fault) → Acts action old new got → new.write_faults ≡ writes_after got old.write_faults
step_writes (Ask name) old new got acts = ap (λ (d : Disk). d.write_faults) acts.after ∙ counting_writes got (asked old)
step_writes (Read name size) old new (Ok bytes) acts = ap (λ (d : Disk). d.write_faults) acts.0.after
step_writes (Read name size) old new (Err fault) (inl (is, same)) = rw is (ap (λ (d : Disk). d.write_faults) same)
step_writes (Read name size) old new (Err fault) (inr stops) = rw stops.cause (ap (λ (d : Disk). d.write_faults) stops.after)
step_writes (Cut name len) old new got acts = ap (λ (d : Disk). d.write_faults) acts.after ∙ counting_writes got (telling new.told old)
step_writes (Write name at bytes) old new got acts = ap (λ (d : Disk). d.write_faults) acts.after ∙ counting_writes got (telling new.told old)
step_writes (Sync name) old new got acts = ap (λ (d : Disk). d.write_faults) acts.after ∙ counting_writes got (telling new.told old)

pub counts_one : {E A : Type 0} (p : Plan E A) (old new : Disk) (result : Result A (Halt E)) → Runs p old new result → CountsOne old new result
unfolding Runs
counts_one (Done value) old new result (same, is) = record { reads = rw is (ap (λ (d : Disk). d.read_faults) same); writes = rw is (ap (λ (d : Disk). d.write_faults) same) }
counts_one (Refuse refusal) old new result (same, is) = record { reads = rw is (ap (λ (d : Disk). d.read_faults) same); writes = rw is (ap (λ (d : Disk). d.write_faults) same) }
counts_one (Room next) old new result (inl (same, is)) = record { reads = rw is (ap (λ (d : Disk). d.read_faults) same); writes = rw is (ap (λ (d : Disk). d.write_faults) same) }
counts_one (Room next) old new result (inr runs) = counts_one next old new result runs
counts_one (Act action next) old new result (mid, Ok answer, acts, goes) =
    let rest = counts_one (next answer) mid new result goes in
    record {
      reads = rest.reads ∙ ap (λ (n : ℕ). reads_after (fault_in result) n) (step_reads action old mid (Ok answer) acts);
      writes = rest.writes ∙ ap (λ (n : ℕ). writes_after (fault_in result) n) (step_writes action old mid (Ok answer) acts);
    }
counts_one (Act action next) old new result (mid, Err fault, acts, (same, is)) =
    record {
      reads = rw is (ap (λ (d : Disk). d.read_faults) same ∙ step_reads action old mid (Err fault) acts);
      writes = rw is (ap (λ (d : Disk). d.write_faults) same ∙ step_writes action old mid (Err fault) acts);
    }

-- ---- plans that write nothing

none_changed : (told : Option Told) → Unchanged told told
none_changed told = record { holds = refl; loose = refl; past = refl }

still : {old mid : Option Told} (new : Option Told) → Unchanged old mid → new ≡ mid → Unchanged old new
still new u same = record { holds = ap (option_map (λ (t : Told). t.holds)) same ∙ u.holds; loose = ap (option_map (λ (t : Told). t.loose)) same ∙ u.loose; past = ap (option_map (λ (t : Told). t.past)) same ∙ u.past }

after : {old mid new : Option Told} → Unchanged old mid → Unchanged mid new → Unchanged old new
after u v = record { holds = v.holds ∙ u.holds; loose = v.loose ∙ u.loose; past = v.past ∙ u.past }

read_still : (n k : ℕ) (told : Option Told) → Unchanged told (option_map (reading n) (option_map (ticking k) told))
read_still n k None = none_changed None
read_still n k (Some t) = record { holds = refl; loose = refl; past = refl }

ask_still : (told : Option Told) → Unchanged told (option_map asking told)
ask_still None = none_changed None
ask_still (Some t) = record { holds = refl; loose = refl; past = refl }

counting_told : {A : Type 0} (got : Result A Fault) (d : Disk) → (counting got d).told ≡ d.told
counting_told (Ok answer) d = refl
counting_told (Err ReadFault) d = refl
counting_told (Err WriteFault) d = refl
counting_told (Err Memory) d = refl

pub step_unchanged : (action : Action) (old new : Disk) (got : Result (Answer action) Fault) → IsRead action → Acts action old new got → Unchanged old.told new.told
step_unchanged (Ask name) old new got is acts = still _ (ask_still old.told) (ap (λ (d : Disk). d.told) acts.after ∙ counting_told got (asked old))
step_unchanged (Read name size) old new (Ok bytes) is acts = still _ (read_still (length bytes) acts.0.calls old.told) (ap (λ (d : Disk). d.told) acts.0.after)
step_unchanged (Read name size) old new (Err fault) is (inl (f, same)) = still _ (none_changed _) (ap (λ (d : Disk). d.told) same)
step_unchanged (Read name size) old new (Err fault) is (inr stops) = still _ (read_still stops.n stops.calls old.told) (ap (λ (d : Disk). d.told) stops.after)
step_unchanged (Cut name len) old new got is acts = absurd is
step_unchanged (Write name at bytes) old new got is acts = absurd is
step_unchanged (Sync name) old new got is acts = absurd is

pub writes_nothing : {E A : Type 0} (p : Plan E A) (old new : Disk) (result : Result A (Halt E)) → Each IsRead p → Runs p old new result → Unchanged old.told new.told
unfolding Runs
writes_nothing (Done value) old new result each (same, is) = still _ (none_changed _) (ap (λ (d : Disk). d.told) same)
writes_nothing (Refuse refusal) old new result each (same, is) = still _ (none_changed _) (ap (λ (d : Disk). d.told) same)
writes_nothing (Room next) old new result each (inl (same, is)) = still _ (none_changed _) (ap (λ (d : Disk). d.told) same)
writes_nothing (Room next) old new result each (inr runs) = writes_nothing next old new result each runs
writes_nothing (Act action next) old new result (kind, each) (mid, Ok answer, acts, goes) = after (step_unchanged action old mid (Ok answer) kind acts) (writes_nothing (next answer) mid new result (each answer) goes)
writes_nothing (Act action next) old new result (kind, each) (mid, Err fault, acts, (same, is)) = still _ (step_unchanged action old mid (Err fault) kind acts) (ap (λ (d : Disk). d.told) same)

-- ---- what a plan that writes nothing gives

told_holds : (told : Option Told) (held : Contents) → option_map (λ t. t.holds) told ≡ Some held → (t : Told) × (told ≡ Some t) × (t.holds ≡ held)
told_holds None held is = absurd cc
told_holds (Some t) held is = (t, refl, let e : t.holds ≡ held = cc in e)

step_answers : (action : Action) (old new : Disk) (answer : Answer action) (t : Told) → IsRead action → old.told ≡ Some t → Acts action old new (Ok answer) → answer ≡ answer_of t.holds action
step_answers (Ask name) old new answer t is told acts = acts.size t told
step_answers (Read name size) old new answer t is told acts = acts.1 t told
step_answers (Cut name len) old new answer t is told acts = absurd is
step_answers (Write name at bytes) old new answer t is told acts = absurd is
step_answers (Sync name) old new answer t is told acts = absurd is

pub gives_outcome : {E A : Type 0} (p : Plan E A) (held : Contents) (old new : Disk) (result : Result A (Halt E)) → Each IsRead p → option_map (λ t. t.holds) old.told ≡ Some held
    → Runs p old new result → Gives result (outcome held p)
unfolding Runs
gives_outcome (Done value) held old new result each told (same, is) = rw is refl
gives_outcome (Refuse refusal) held old new result each told (same, is) = rw is refl
gives_outcome (Room next) held old new result each told (inl (same, is)) = rw is tt
gives_outcome (Room next) held old new result each told (inr runs) = gives_outcome next held old new result each told runs
gives_outcome (Act action next) held old new result (kind, each) told (mid, Err fault, acts, (same, is)) = rw is tt
gives_outcome (Act action next) held old new result (kind, each) told (mid, Ok answer, acts, goes) =
    let t = told_holds old.told held told in
    let e : answer ≡ answer_of held action = step_answers action old mid answer t.0 kind t.1 acts ∙ ap (λ (h : Contents). answer_of h action) t.2 in
    let now : option_map (λ t. t.holds) mid.told ≡ Some held = (step_unchanged action old mid (Ok answer) kind acts).holds ∙ told in
    subst (λ (a : Answer action). Gives result (outcome held (next a))) e (gives_outcome (next answer) held mid new result (each answer) now goes)

-- ---- one plan after another, taken apart

pub taken_apart : {E A B : Type 0} (p : Plan E A) (f : A → Plan E B) (old new : Disk) (result : Result B (Halt E)) → Runs (followed_by p f) old new result
    → ((mid : Disk) × (value : A) × Runs p old mid (Ok value) × Runs (f value) mid new result) ⊎ ((halt : Halt E) × Runs p old new (Err halt) × (result ≡ Err halt))
unfolding Runs followed_by
taken_apart (Done value) f old new result runs = inl (old, value, (refl, refl), runs)
taken_apart (Refuse refusal) f old new result (same, is) = inr (Refused refusal, (same, refl), is)
taken_apart (Room next) f old new result (inl (same, is)) = inr (Faulted Memory, inl (same, refl), is)
taken_apart (Room next) f old new result (inr runs) = ⊎_elim (λ w. inl (w.0, w.1, inr w.2, w.3)) (λ w. inr (w.0, inr w.1, w.2)) (taken_apart next f old new result runs)
taken_apart (Act action next) f old new result (mid, Err fault, acts, (same, is)) = inr (Faulted fault, (mid, Err fault, acts, (same, refl)), is)
taken_apart (Act action next) f old new result (mid, Ok answer, acts, goes) = ⊎_elim (λ w. inl (w.0, w.1, (mid, Ok answer, acts, w.2), w.3)) (λ w. inr (w.0, (mid, Ok answer, acts, w.1), w.2)) (taken_apart (next answer) f mid new result goes)

-- ---- steps of one kind

pub each_followed : {E A B : Type 0} (kind : Action → Type 0) (p : Plan E A) (f : A → Plan E B) → Each kind p → ((value : A) → Each kind (f value)) → Each kind (followed_by p f)
unfolding followed_by
each_followed kind (Done value) f first rest = rest value
each_followed kind (Refuse refusal) f first rest = tt
each_followed kind (Room next) f first rest = each_followed kind next f first rest
each_followed kind (Act action next) f (is, each) rest = (is, λ answer. each_followed kind (next answer) f (each answer) rest)

-- ---- a file that is written in whole

cut_to-none : (file : Option (List ℕ)) → cut_to 0 file ≡ Some []
cut_to-none None = refl
cut_to-none (Some bytes) = refl

written-cut : (bytes : List ℕ) (file left : Option (List ℕ)) → left ≡ cut_to 0 file → Some (written 0 bytes (bytes_of left)) ≡ Some bytes
written-cut bytes file left is =
    let empty : bytes_of left ≡ [] = ap bytes_of (is ∙ cut_to-none file) in
    rw empty (ap (λ (b : List ℕ). Some b) (ap (λ (d : List ℕ). bytes ++ d) (drop-nil (0 + length bytes)) ∙ append-nil bytes))

-- what three steps leave
three : (name bytes : List ℕ) (la lb : Loose) (t a b c : Told) → ChangesOnly name (λ file. file ≡ cut_to 0 (t.holds name)) la t a → ChangesOnly name (λ file. file ≡ Some (written 0 bytes (bytes_of (a.holds name)))) lb a b → IsSynced name b c → Saved name bytes t c
three name bytes la lb t a b c cut wrote synced = record {
  holds = synced.named ∙ wrote.named ∙ written-cut bytes (t.holds name) (a.holds name) cut.named;
  synced = synced.loose ∙ ap (λ (file : Option (List ℕ)). settled (bytes_of file)) (wrote.named ∙ written-cut bytes (t.holds name) (a.holds name) cut.named);
  others = λ other ne. synced.others other ne ∙ wrote.others other ne ∙ cut.others other ne;
}

pub saved : (E : Type 0) (name bytes : List ℕ) (old new : Disk) (t : Told) → old.told ≡ Some t → Runs {E = E} (save name bytes) old new (Ok tt) → (u : Told) × (new.told ≡ Some u) × Saved name bytes t u
unfolding Runs followed_by save
saved E name bytes old new t told (m1, Ok x, cuts, (m2, Ok y, writes, (m3, Ok z, syncs, (same, is)))) =
    let a = cuts.told t told in
    let b = writes.told a.0 a.1 in
    let c = syncs.told b.0 b.1 in
    (c.0, ap (λ (d : Disk). d.told) same ∙ c.1, three name bytes _ _ t a.0 b.0 c.0 a.2 b.2 c.2)
saved E name bytes old new t told (m1, Ok x, cuts, (m2, Ok y, writes, (m3, Err f, syncs, (same, is)))) = absurd cc
saved E name bytes old new t told (m1, Ok x, cuts, (m2, Err f, writes, (same, is))) = absurd cc
saved E name bytes old new t told (m1, Err f, cuts, (same, is)) = absurd cc

-- ---- files that a plan leaves alone

all_kept : (other : List ℕ) (old new : Option Told) → Unchanged old new → Kept other old new
all_kept other old new u = record { holds = by_holds old new u.holds; loose = by_loose old new u.loose }
  where
    by_holds : (old new : Option Told) → option_map (λ t. t.holds) new ≡ option_map (λ t. t.holds) old → option_map (λ t. t.holds other) new ≡ option_map (λ t. t.holds other) old
    by_holds None None is = refl
    by_holds None (Some u) is = absurd cc
    by_holds (Some t) None is = absurd cc
    by_holds (Some t) (Some u) is = let e : u.holds ≡ t.holds = cc in ap (λ (h : Contents). Some (h other)) e

    by_loose : (old new : Option Told) → option_map (λ t. t.loose) new ≡ option_map (λ t. t.loose) old → option_map (λ t. t.loose other) new ≡ option_map (λ t. t.loose other) old
    by_loose None None is = refl
    by_loose None (Some u) is = absurd cc
    by_loose (Some t) None is = absurd cc
    by_loose (Some t) (Some u) is = let e : u.loose ≡ t.loose = cc in ap (λ (h : List ℕ → Loose). Some (h other)) e

-- what a call that writes under one name leaves of another
leaves_other : (other : List ℕ) (done torn : Told → Told → Type 0) (t u : Told) (got : Result (Unit {0}) Fault) → (done t u → Kept other (Some t) (Some u)) → (torn t u → Kept other (Some t) (Some u)) → Leaves got done torn t u → Kept other (Some t) (Some u)
leaves_other other done torn t u (Ok x) d f leaves = d leaves
leaves_other other done torn t u (Err ReadFault) d f leaves = absurd leaves
leaves_other other done torn t u (Err WriteFault) d f leaves = f leaves
leaves_other other done torn t u (Err Memory) d f leaves = record { holds = ap (λ (v : Told). Some (v.holds other)) leaves; loose = ap (λ (v : Told). Some (v.loose other)) leaves }

kept_by : (other : List ℕ) (old new : Option Told) (told : Option Told) → old ≡ told → (told ≡ None → new ≡ None) → ((t : Told) → told ≡ Some t → (u : Told) × (new ≡ Some u) × Kept other (Some t) (Some u)) → Kept other old new
kept_by other old new None is untold some = let n = untold refl in record { holds = rw (is, n) refl; loose = rw (is, n) refl }
kept_by other old new (Some t) is untold some = let s = some t refl in record { holds = rw (is, s.1) s.2.holds; loose = rw (is, s.1) s.2.loose }

writing_keeps : (other : List ℕ) (done torn : Told → Told → Type 0) (old new : Disk) (got : Result (Unit {0}) Fault) → ((t u : Told) → done t u → Kept other (Some t) (Some u)) → ((t u : Told) → torn t u → Kept other (Some t) (Some u))
    → Writing done torn old new got → Kept other old.told new.told
writing_keeps other done torn old new got d f w =
    kept_by other old.told new.told old.told refl w.untold (λ t is. let s = w.told t is in (s.0, s.1, leaves_other other done torn t s.0 got (d t s.0) (f t s.0) s.2))

changes_keep : (other name : List ℕ) (P : Option (List ℕ) → Type 0) (now : Loose) (t u : Told) → other ≢ name → ChangesOnly name P now t u → Kept other (Some t) (Some u)
changes_keep other name P now t u ne c = record { holds = ap (λ (f : Option (List ℕ)). Some f) (c.others other ne); loose = ap (λ (b : Loose). Some b) (c.others_loose other ne) }

pub step_keeps : (other : List ℕ) (action : Action) (old new : Disk) (got : Result (Answer action) Fault) → Spares other action → Acts action old new got → Kept other old.told new.told
step_keeps other (Ask name) old new got spares acts = all_kept other old.told new.told (step_unchanged (Ask name) old new got tt acts)
step_keeps other (Read name size) old new got spares acts = all_kept other old.told new.told (step_unchanged (Read name size) old new got tt acts)
step_keeps other (Cut name len) old new got spares acts = writing_keeps other _ _ old new got (λ t u. changes_keep other name _ _ t u spares) (λ t u. changes_keep other name _ _ t u spares) acts
step_keeps other (Write name at bytes) old new got spares acts = writing_keeps other _ _ old new got (λ t u. changes_keep other name _ _ t u spares) (λ t u. changes_keep other name _ _ t u spares) acts
step_keeps other (Sync name) old new got spares acts =
    writing_keeps other _ _ old new got (λ t u s. changes_keep other name _ _ t u spares s) (λ t u same. record { holds = ap (λ (v : Told). Some (v.holds other)) same; loose = ap (λ (v : Told). Some (v.loose other)) same }) acts

kept_again : (other : List ℕ) {old mid new : Option Told} → Kept other old mid → Kept other mid new → Kept other old new
kept_again other a b = record { holds = b.holds ∙ a.holds; loose = b.loose ∙ a.loose }

kept_same : (other : List ℕ) (old new : Disk) → new ≡ old → Kept other old.told new.told
kept_same other old new same = record { holds = ap (λ (d : Disk). option_map (λ (t : Told). t.holds other) d.told) same; loose = ap (λ (d : Disk). option_map (λ (t : Told). t.loose other) d.told) same }

pub spares_others : {E A : Type 0} (other : List ℕ) (p : Plan E A) (old new : Disk) (result : Result A (Halt E)) → Each (Spares other) p → Runs p old new result → Kept other old.told new.told
unfolding Runs
spares_others other (Done value) old new result each (same, is) = kept_same other old new same
spares_others other (Refuse refusal) old new result each (same, is) = kept_same other old new same
spares_others other (Room next) old new result each (inl (same, is)) = kept_same other old new same
spares_others other (Room next) old new result each (inr runs) = spares_others other next old new result each runs
spares_others other (Act action next) old new result (kind, each) (mid, Ok answer, acts, goes) = kept_again other (step_keeps other action old mid (Ok answer) kind acts) (spares_others other (next answer) mid new result (each answer) goes)
spares_others other (Act action next) old new result (kind, each) (mid, Err fault, acts, (same, is)) = kept_again other (step_keeps other action old mid (Err fault) kind acts) (kept_same other mid new same)

-- ---- endings

pub ends_so : {E A : Type 0} (P : A → Type 0) (p : Plan E A) (old new : Disk) (value : A) → Ends P p → Runs p old new (Ok value) → P value
unfolding Runs
ends_so P (Done v) old new value ends (same, is) = subst P (let e : v ≡ value = cc in e) ends
ends_so P (Refuse refusal) old new value ends (same, is) = absurd cc
ends_so P (Room next) old new value ends (inl (same, is)) = absurd cc
ends_so P (Room next) old new value ends (inr runs) = ends_so P next old new value ends runs
ends_so P (Act action next) old new value ends (mid, Ok answer, acts, goes) = ends_so P (next answer) mid new value (ends answer) goes
ends_so P (Act action next) old new value ends (mid, Err fault, acts, (same, is)) = absurd cc

-- the plan that comes after decides
pub ends_followed : {E A B : Type 0} (P : B → Type 0) (p : Plan E A) (f : A → Plan E B) → ((value : A) → Ends P (f value)) → Ends P (followed_by p f)
unfolding followed_by
ends_followed P (Done value) f rest = rest value
ends_followed P (Refuse refusal) f rest = tt
ends_followed P (Room next) f rest = ends_followed P next f rest
ends_followed P (Act action next) f rest = λ answer. ends_followed P (next answer) f rest
