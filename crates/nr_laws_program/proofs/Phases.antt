-- Plans that look first and write afterwards: what they leave, and what the files make of what they give.
use Rattle.std.proofs.Common.{◌≡◌, ◌≢◌, ℕ, List, [], ◌∷◌, Option, Some, None, Result, Ok, Err, refl, ap, subst, ◌∙◌, inl, inr, ◌⊎◌, ⊎_elim}
use Rattle.std.specs.Prelude.{option_map}
use Rattle.std.specs.Str.{bytes_eq}
use Rattle.std.proofs.lemmas.Bool.{cases_Bool}
use Rattle.std.proofs.lemmas.Bool.Decides.{not_from_Decides}
use Rattle.std.proofs.lemmas.Slice.Eq.{bytes_eq-Decides}
use mathlib.Core.Path.{fun_ext}
use Rattle.nr_spec_plans.specs.Disk.{Contents, Disk, Told, Fault, ReadFault, WriteFault, Memory, Leaves, IsSynced, ticking}
use Rattle.nr_spec_plans.specs.Plans.{Action, Answer, Acts, Ask, Read, Cut, Write, Sync, Plan, Done, Refuse, Room, Act, Halt, Refused, Faulted, Runs, followed_by, refusing}
use Rattle.nr_spec_plans.specs.Laws.{Each, Gives, IsRead, Unchanged, answer_of, outcome, writes_after}
use Rattle.nr_spec_plans.specs.Order.{Allows, Refuses}
use Rattle.nr_spec_plans.specs.Steps.{AreOf, Lead, OnlyBy, Step}
use Rattle.nr_spec_plans.proofs.PlanLaws.{step_keeps, step_unchanged, step_writes}

-- ---- kinds of steps

-- the step cuts, writes or syncs
abbrev pub IsWriting : Action → Type 0
IsWriting (Ask name) = ⊥
IsWriting (Read name size) = ⊥
IsWriting (Cut name len) = Unit {0}
IsWriting (Write name at bytes) = Unit {0}
IsWriting (Sync name) = Unit {0}

-- the step asks, reads or syncs
abbrev pub IsLooking : Action → Type 0
IsLooking (Ask name) = Unit {0}
IsLooking (Read name size) = Unit {0}
IsLooking (Cut name len) = ⊥
IsLooking (Write name at bytes) = ⊥
IsLooking (Sync name) = Unit {0}

-- Steps of a kind come first. After a step that writes all others do, and what refuses then is late.
abbrev pub IsPhased : {E A : Type 0} → (kind : Action → Type 0) (late : E → Type 0) → Plan E A → Type 0
IsPhased kind late (Done value) = Unit {0}
IsPhased kind late (Refuse refusal) = Unit {0}
IsPhased kind late (Room next) = IsPhased kind late next
IsPhased kind late (Act action next) =
    (kind action × ((answer : Answer action) → IsPhased kind late (next answer)))
    ⊎ (IsWriting action × ((answer : Answer action) → Each IsWriting (next answer) × Refuses late (next answer)))

-- ---- what a sync leaves

same_or_other : (a b : List ℕ) → (a ≡ b) ⊎ (a ≢ b)
same_or_other a b = ⊎_elim (λ yes. inl ((bytes_eq-Decides a b).0 yes)) (λ no. inr (not_from_Decides (bytes_eq a b) (bytes_eq-Decides a b) no)) (cases_Bool (bytes_eq a b))

synced_holds : (name : List ℕ) (t u : Told) → IsSynced name t u → u.holds ≡ t.holds
synced_holds name t u s = fun_ext (λ other. ⊎_elim (λ is. rw is s.named) (λ ne. s.others other ne) (same_or_other other name))

sync_holds : (name : List ℕ) (got : Result (Unit {0}) Fault) (t u : Told) → Leaves got (λ t u. IsSynced name t u) (λ t u. u ≡ ticking 1 t) t u → u.holds ≡ t.holds
sync_holds name (Ok x) t u leaves = synced_holds name t u leaves
sync_holds name (Err ReadFault) t u leaves = absurd leaves
sync_holds name (Err WriteFault) t u leaves = ap (λ (v : Told). v.holds) leaves
sync_holds name (Err Memory) t u leaves = ap (λ (v : Told). v.holds) leaves

-- what is told of contents, where it is told
contents_kept : {A : Type 0} (f : Contents → A) (old new : Option Told) (told : Option Told) → old ≡ told → (told ≡ None → new ≡ None) → ((t : Told) → told ≡ Some t → (u : Told) × (new ≡ Some u) × (f u.holds ≡ f t.holds))
    → option_map (λ t. f t.holds) new ≡ option_map (λ t. f t.holds) old
contents_kept f old new None is untold some = let n = untold refl in rw (is, n) refl
contents_kept f old new (Some t) is untold some = let s = some t refl in rw (is, s.1) (ap (λ a. Some a) s.2)

pub looking_holds : (action : Action) (old new : Disk) (got : Result (Answer action) Fault) → IsLooking action → Acts action old new got → option_map (λ t. t.holds) new.told ≡ option_map (λ t. t.holds) old.told
looking_holds (Ask name) old new got is acts = (step_unchanged (Ask name) old new got tt acts).holds
looking_holds (Read name size) old new got is acts = (step_unchanged (Read name size) old new got tt acts).holds
looking_holds (Cut name len) old new got is acts = absurd is
looking_holds (Write name at bytes) old new got is acts = absurd is
looking_holds (Sync name) old new got is acts =
    contents_kept (λ h. h) old.told new.told old.told refl acts.untold (λ t told. let s = acts.told t told in (s.0, s.1, sync_holds name got t s.0 s.2))

-- ---- what steps leave

holds_by : (kind : Action → Type 0) → ((action : Action) → kind action → IsLooking action) → (steps : List Step) (old new : Disk) → AreOf kind steps → Lead steps old new → option_map (λ t. t.holds) new.told ≡ option_map (λ t. t.holds) old.told
holds_by kind looks [] old new each lead = ap (λ (d : Disk). option_map (λ (t : Told). t.holds) d.told) lead
holds_by kind looks (step ∷ others) old new (first, each) (mid, acts, lead) = holds_by kind looks others mid new each lead ∙ looking_holds step.action old mid step.got (looks step.action first) acts

-- steps that look leave what the files hold
pub only_holds : (kind : Action → Type 0) (old new : Disk) → ((action : Action) → kind action → IsLooking action) → OnlyBy kind old new → option_map (λ t. t.holds) new.told ≡ option_map (λ t. t.holds) old.told
only_holds kind old new looks only = holds_by kind looks only.steps old new only.each only.lead

pub again : {old mid new : Option Told} → Unchanged old mid → Unchanged mid new → Unchanged old new
again u v = record { holds = v.holds ∙ u.holds; loose = v.loose ∙ u.loose; past = v.past ∙ u.past }

unchanged_by : (steps : List Step) (old new : Disk) → AreOf IsRead steps → Lead steps old new → Unchanged old.told new.told
unchanged_by [] old new each lead = rw lead (record { holds = refl; loose = refl; past = refl })
unchanged_by (step ∷ others) old new (first, each) (mid, acts, lead) = again (step_unchanged step.action old mid step.got first acts) (unchanged_by others mid new each lead)

pub only_unchanged : (old new : Disk) → OnlyBy IsRead old new → Unchanged old.told new.told
only_unchanged old new only = unchanged_by only.steps old new only.each only.lead

-- a step that reads has no write fault
read_writes : (action : Action) (old new : Disk) (got : Result (Answer action) Fault) → IsRead action → Acts action old new got → writes_after got old.write_faults ≡ old.write_faults
read_writes (Ask name) old new (Ok x) is acts = refl
read_writes (Ask name) old new (Err ReadFault) is acts = refl
read_writes (Ask name) old new (Err WriteFault) is acts = absurd acts.cause
read_writes (Ask name) old new (Err Memory) is acts = refl
read_writes (Read name size) old new (Ok x) is acts = refl
read_writes (Read name size) old new (Err fault) is (inl (f, rest)) = rw f refl
read_writes (Read name size) old new (Err fault) is (inr stops) = rw stops.cause refl
read_writes (Cut name len) old new got is acts = absurd is
read_writes (Write name at bytes) old new got is acts = absurd is
read_writes (Sync name) old new got is acts = absurd is

writes_by : (steps : List Step) (old new : Disk) → AreOf IsRead steps → Lead steps old new → new.write_faults ≡ old.write_faults
writes_by [] old new each lead = ap (λ (d : Disk). d.write_faults) lead
writes_by (step ∷ others) old new (first, each) (mid, acts, lead) =
    writes_by others mid new each lead ∙ step_writes step.action old mid step.got acts ∙ read_writes step.action old mid step.got first acts

pub only_writes : (old new : Disk) → OnlyBy IsRead old new → new.write_faults ≡ old.write_faults
only_writes old new only = writes_by only.steps old new only.each only.lead

-- ---- contents that a plan leaves alone

-- the step writes nothing under this name, but may sync it
abbrev pub SparesContents : List ℕ → Action → Type 0
SparesContents other (Ask name) = Unit {0}
SparesContents other (Read name size) = Unit {0}
SparesContents other (Cut name len) = other ≢ name
SparesContents other (Write name at bytes) = other ≢ name
SparesContents other (Sync name) = Unit {0}

-- what one name holds
held_by : (other : List ℕ) (old new : Option Told) → option_map (λ t. t.holds) new ≡ option_map (λ t. t.holds) old → option_map (λ t. t.holds other) new ≡ option_map (λ t. t.holds other) old
held_by other None None same = refl
held_by other None (Some u) same = absurd cc
held_by other (Some t) None same = absurd cc
held_by other (Some t) (Some u) same = let e : u.holds ≡ t.holds = cc in ap (λ (h : Contents). Some (h other)) e

step_spares : (other : List ℕ) (action : Action) (old new : Disk) (got : Result (Answer action) Fault) → SparesContents other action → Acts action old new got → option_map (λ t. t.holds other) new.told ≡ option_map (λ t. t.holds other) old.told
step_spares other (Ask name) old new got spares acts = held_by other old.told new.told (looking_holds (Ask name) old new got tt acts)
step_spares other (Read name size) old new got spares acts = held_by other old.told new.told (looking_holds (Read name size) old new got tt acts)
step_spares other (Cut name len) old new got spares acts = (step_keeps other (Cut name len) old new got spares acts).holds
step_spares other (Write name at bytes) old new got spares acts = (step_keeps other (Write name at bytes) old new got spares acts).holds
step_spares other (Sync name) old new got spares acts = held_by other old.told new.told (looking_holds (Sync name) old new got tt acts)

pub spares_contents : {E A : Type 0} (other : List ℕ) (p : Plan E A) (old new : Disk) (result : Result A (Halt E)) → Each (SparesContents other) p → Runs p old new result
    → option_map (λ t. t.holds other) new.told ≡ option_map (λ t. t.holds other) old.told
unfolding Runs
spares_contents other (Done value) old new result each (same, is) = ap (λ (d : Disk). option_map (λ (t : Told). t.holds other) d.told) same
spares_contents other (Refuse refusal) old new result each (same, is) = ap (λ (d : Disk). option_map (λ (t : Told). t.holds other) d.told) same
spares_contents other (Room next) old new result each (inl (same, is)) = ap (λ (d : Disk). option_map (λ (t : Told). t.holds other) d.told) same
spares_contents other (Room next) old new result each (inr runs) = spares_contents other next old new result each runs
spares_contents other (Act action next) old new result (kind, each) (mid, Ok answer, acts, goes) = spares_contents other (next answer) mid new result (each answer) goes ∙ step_spares other action old mid (Ok answer) kind acts
spares_contents other (Act action next) old new result (kind, each) (mid, Err fault, acts, (same, is)) =
    ap (λ (d : Disk). option_map (λ (t : Told). t.holds other) d.told) same ∙ step_spares other action old mid (Err fault) kind acts

-- ---- what a plan leaves, or what it gave after it wrote

-- what a plan may have given that wrote
abbrev pub WroteBy : {E A : Type 0} → (late : E → Type 0) → Result A (Halt E) → Type 0
WroteBy late (Ok value) = Unit {0}
WroteBy late (Err (Refused refusal)) = late refusal
WroteBy late (Err (Faulted ReadFault)) = ⊥
WroteBy late (Err (Faulted WriteFault)) = Unit {0}
WroteBy late (Err (Faulted Memory)) = Unit {0}

-- a step that writes has no read fault
writing_fails : {E A : Type 0} (late : E → Type 0) (action : Action) (old new : Disk) (fault : Fault) (result : Result A (Halt E)) → IsWriting action → Acts action old new (Err fault) → result ≡ Err (Faulted fault) → WroteBy late result
writing_fails late (Ask name) old new fault result is acts by = absurd is
writing_fails late (Read name size) old new fault result is acts by = absurd is
writing_fails late (Cut name len) old new ReadFault result is acts by = absurd (acts.cause refl)
writing_fails late (Cut name len) old new WriteFault result is acts by = rw by tt
writing_fails late (Cut name len) old new Memory result is acts by = rw by tt
writing_fails late (Write name at bytes) old new ReadFault result is acts by = absurd (acts.cause refl)
writing_fails late (Write name at bytes) old new WriteFault result is acts by = rw by tt
writing_fails late (Write name at bytes) old new Memory result is acts by = rw by tt
writing_fails late (Sync name) old new ReadFault result is acts by = absurd (acts.cause refl)
writing_fails late (Sync name) old new WriteFault result is acts by = rw by tt
writing_fails late (Sync name) old new Memory result is acts by = rw by tt

pub writing_wrote : {E A : Type 0} (late : E → Type 0) (p : Plan E A) (old new : Disk) (result : Result A (Halt E)) → Each IsWriting p → Refuses late p → Runs p old new result → WroteBy late result
unfolding Runs
writing_wrote late (Done value) old new result each refuses (same, is) = rw is tt
writing_wrote late (Refuse refusal) old new result each refuses (same, is) = rw is refuses
writing_wrote late (Room next) old new result each refuses (inl (same, is)) = rw is tt
writing_wrote late (Room next) old new result each refuses (inr runs) = writing_wrote late next old new result each refuses runs
writing_wrote late (Act action next) old new result (first, each) refuses (mid, Ok answer, acts, goes) = writing_wrote late (next answer) mid new result (each answer) (refuses answer) goes
writing_wrote late (Act action next) old new result (first, each) refuses (mid, Err fault, acts, (same, is)) = writing_fails late action old mid fault result first acts is

pub looked_or_wrote : {E A : Type 0} (kind : Action → Type 0) (late : E → Type 0) (p : Plan E A) (old new : Disk) (result : Result A (Halt E)) → IsPhased kind late p → Runs p old new result → OnlyBy kind old new ⊎ WroteBy late result
unfolding Runs
looked_or_wrote kind late (Done value) old new result phased (same, is) = inl (record { steps = []; lead = same; each = tt })
looked_or_wrote kind late (Refuse refusal) old new result phased (same, is) = inl (record { steps = []; lead = same; each = tt })
looked_or_wrote kind late (Room next) old new result phased (inl (same, is)) = inl (record { steps = []; lead = same; each = tt })
looked_or_wrote kind late (Room next) old new result phased (inr runs) = looked_or_wrote kind late next old new result phased runs
looked_or_wrote kind late (Act action next) old new result (inl (first, phased)) (mid, Ok answer, acts, goes) =
    ⊎_elim (λ only. inl (record { steps = record { action = action; got = Ok answer } ∷ only.steps; lead = (mid, acts, only.lead); each = (first, only.each) })) (λ wrote. inr wrote)
    (looked_or_wrote kind late (next answer) mid new result (phased answer) goes)
looked_or_wrote kind late (Act action next) old new result (inl (first, phased)) (mid, Err fault, acts, (same, is)) =
    inl (record { steps = record { action = action; got = Err fault } ∷ []; lead = (mid, acts, same); each = (first, tt) })
looked_or_wrote kind late (Act action next) old new result (inr (first, rest)) (mid, Ok answer, acts, goes) = inr (writing_wrote late (next answer) mid new result (rest answer).0 (rest answer).1 goes)
looked_or_wrote kind late (Act action next) old new result (inr (first, rest)) (mid, Err fault, acts, (same, is)) = inr (writing_fails late action old mid fault result first acts is)

-- ---- what the files make of what a plan gives

told_holds : (told : Option Told) (held : Contents) → option_map (λ t. t.holds) told ≡ Some held → (t : Told) × (told ≡ Some t) × (t.holds ≡ held)
told_holds None held is = absurd cc
told_holds (Some t) held is = (t, refl, let e : t.holds ≡ held = cc in e)

looking_answers : (action : Action) (old new : Disk) (answer : Answer action) (t : Told) → IsLooking action → old.told ≡ Some t → Acts action old new (Ok answer) → answer ≡ answer_of t.holds action
looking_answers (Ask name) old new answer t is told acts = acts.size t told
looking_answers (Read name size) old new answer t is told acts = acts.1 t told
looking_answers (Cut name len) old new answer t is told acts = absurd is
looking_answers (Write name at bytes) old new answer t is told acts = absurd is
looking_answers (Sync name) old new answer t is told acts = refl

writing_answers : (action : Action) (answer : Answer action) (held : Contents) → IsWriting action → answer ≡ answer_of held action
writing_answers (Ask name) answer held is = absurd is
writing_answers (Read name size) answer held is = absurd is
writing_answers (Cut name len) answer held is = refl
writing_answers (Write name at bytes) answer held is = refl
writing_answers (Sync name) answer held is = refl

-- a plan that only writes gives the same by whatever the files hold
writing_gives : {E A : Type 0} (p : Plan E A) (held : Contents) (old new : Disk) (result : Result A (Halt E)) → Each IsWriting p → Runs p old new result → Gives result (outcome held p)
unfolding Runs
writing_gives (Done value) held old new result each (same, is) = rw is refl
writing_gives (Refuse refusal) held old new result each (same, is) = rw is refl
writing_gives (Room next) held old new result each (inl (same, is)) = rw is tt
writing_gives (Room next) held old new result each (inr runs) = writing_gives next held old new result each runs
writing_gives (Act action next) held old new result (first, each) (mid, Err fault, acts, (same, is)) = rw is tt
writing_gives (Act action next) held old new result (first, each) (mid, Ok answer, acts, goes) =
    subst (λ (a : Answer action). Gives result (outcome held (next a))) (writing_answers action answer held first) (writing_gives (next answer) held mid new result (each answer) goes)

pub phased_gives : {E A : Type 0} (kind : Action → Type 0) (late : E → Type 0) → ((action : Action) → kind action → IsLooking action) → (p : Plan E A) (held : Contents) (old new : Disk) (result : Result A (Halt E)) → IsPhased kind late p
    → option_map (λ t. t.holds) old.told ≡ Some held → Runs p old new result → Gives result (outcome held p)
unfolding Runs
phased_gives kind late looks (Done value) held old new result phased told (same, is) = rw is refl
phased_gives kind late looks (Refuse refusal) held old new result phased told (same, is) = rw is refl
phased_gives kind late looks (Room next) held old new result phased told (inl (same, is)) = rw is tt
phased_gives kind late looks (Room next) held old new result phased told (inr runs) = phased_gives kind late looks next held old new result phased told runs
phased_gives kind late looks (Act action next) held old new result phased told (mid, Err fault, acts, (same, is)) = rw is tt
phased_gives kind late looks (Act action next) held old new result (inl (first, phased)) told (mid, Ok answer, acts, goes) =
    let t = told_holds old.told held told in
    let e : answer ≡ answer_of held action = looking_answers action old mid answer t.0 (looks action first) t.1 acts ∙ ap (λ (h : Contents). answer_of h action) t.2 in
    let now : option_map (λ t. t.holds) mid.told ≡ Some held = looking_holds action old mid (Ok answer) (looks action first) acts ∙ told in
    subst (λ (a : Answer action). Gives result (outcome held (next a))) e (phased_gives kind late looks (next answer) held mid new result (phased answer) now goes)
phased_gives kind late looks (Act action next) held old new result (inr (first, rest)) told (mid, Ok answer, acts, goes) =
    subst (λ (a : Answer action). Gives result (outcome held (next a))) (writing_answers action answer held first) (writing_gives (next answer) held mid new result (rest answer).0 goes)

-- ---- one plan after another

pub phased_writing : {E A : Type 0} (kind : Action → Type 0) (late : E → Type 0) (p : Plan E A) → Each IsWriting p → Refuses late p → IsPhased kind late p
phased_writing kind late (Done value) each refuses = tt
phased_writing kind late (Refuse refusal) each refuses = tt
phased_writing kind late (Room next) each refuses = phased_writing kind late next each refuses
phased_writing kind late (Act action next) (first, each) refuses = inr (first, λ answer. (each answer, refuses answer))

pub phased_each : {E A : Type 0} (kind : Action → Type 0) (late : E → Type 0) (p : Plan E A) → Each kind p → IsPhased kind late p
phased_each kind late (Done value) each = tt
phased_each kind late (Refuse refusal) each = tt
phased_each kind late (Room next) each = phased_each kind late next each
phased_each kind late (Act action next) (first, each) = inl (first, λ answer. phased_each kind late (next answer) (each answer))

-- after steps of the kind
pub phased_after : {E A B : Type 0} (kind : Action → Type 0) (late : E → Type 0) (p : Plan E A) (f : A → Plan E B) → Each kind p → ((value : A) → IsPhased kind late (f value)) → IsPhased kind late (followed_by p f)
unfolding followed_by
phased_after kind late (Done value) f first rest = rest value
phased_after kind late (Refuse refusal) f first rest = tt
phased_after kind late (Room next) f first rest = phased_after kind late next f first rest
phased_after kind late (Act action next) f (is, each) rest = inl (is, λ answer. phased_after kind late (next answer) f (each answer) rest)

each_then : {E A B : Type 0} (p : Plan E A) (f : A → Plan E B) → Each IsWriting p → ((value : A) → Each IsWriting (f value)) → Each IsWriting (followed_by p f)
unfolding followed_by
each_then (Done value) f first rest = rest value
each_then (Refuse refusal) f first rest = tt
each_then (Room next) f first rest = each_then next f first rest
each_then (Act action next) f (is, each) rest = (is, λ answer. each_then (next answer) f (each answer) rest)

refuses_then : {E A B : Type 0} (P : E → Type 0) (p : Plan E A) (f : A → Plan E B) → Refuses P p → ((value : A) → Refuses P (f value)) → Refuses P (followed_by p f)
unfolding followed_by
refuses_then P (Done value) f first rest = rest value
refuses_then P (Refuse refusal) f first rest = first
refuses_then P (Room next) f first rest = refuses_then P next f first rest
refuses_then P (Act action next) f first rest = λ answer. refuses_then P (next answer) f (first answer) rest

-- before steps that write
pub phased_then : {E A B : Type 0} (kind : Action → Type 0) (late : E → Type 0) (p : Plan E A) (f : A → Plan E B) → IsPhased kind late p → ((value : A) → Each IsWriting (f value)) → ((value : A) → Refuses late (f value)) → IsPhased kind late (followed_by p f)
unfolding followed_by
phased_then kind late (Done value) f phased each refuses = phased_writing kind late (f value) (each value) (refuses value)
phased_then kind late (Refuse refusal) f phased each refuses = tt
phased_then kind late (Room next) f phased each refuses = phased_then kind late next f phased each refuses
phased_then kind late (Act action next) f (inl (is, phased)) each refuses = inl (is, λ answer. phased_then kind late (next answer) f (phased answer) each refuses)
phased_then kind late (Act action next) f (inr (is, rest)) each refuses = inr (is, λ answer. (each_then (next answer) f (rest answer).0 each, refuses_then late (next answer) f (rest answer).1 refuses))

-- ---- plans that refuse nothing

pub none_refuses : {E A : Type 0} (P : E → Type 0) (p : Plan E A) → Refuses (λ refusal. ⊥) p → Refuses P p
none_refuses P (Done value) none = tt
none_refuses P (Refuse refusal) none = absurd none
none_refuses P (Room next) none = none_refuses P next none
none_refuses P (Act action next) none = λ answer. none_refuses P (next answer) (none answer)

pub none_allows : {E A : Type 0} (allowed : E → Action → Type 0) (p : Plan E A) → Refuses (λ refusal. ⊥) p → Allows allowed p
none_allows allowed (Done value) none = tt
none_allows allowed (Refuse refusal) none = tt
none_allows allowed (Room next) none = none_allows allowed next none
none_allows allowed (Act action next) none = λ answer. (none_refuses (λ refusal. allowed refusal action) (next answer) (none answer), none_allows allowed (next answer) (none answer))

-- ---- refusals in other words

pub each_refusing : {E F A : Type 0} (kind : Action → Type 0) (as_said : E → F) (p : Plan E A) → Each kind p → Each kind (refusing as_said p)
unfolding refusing
each_refusing kind as_said (Done value) each = tt
each_refusing kind as_said (Refuse refusal) each = tt
each_refusing kind as_said (Room next) each = each_refusing kind as_said next each
each_refusing kind as_said (Act action next) (first, each) = (first, λ answer. each_refusing kind as_said (next answer) (each answer))

pub refuses_refusing : {E F A : Type 0} (P : F → Type 0) (as_said : E → F) (p : Plan E A) → Refuses (λ refusal. P (as_said refusal)) p → Refuses P (refusing as_said p)
unfolding refusing
refuses_refusing P as_said (Done value) refuses = tt
refuses_refusing P as_said (Refuse refusal) refuses = refuses
refuses_refusing P as_said (Room next) refuses = refuses_refusing P as_said next refuses
refuses_refusing P as_said (Act action next) refuses = λ answer. refuses_refusing P as_said (next answer) (refuses answer)

pub phased_refusing : {E F A : Type 0} (kind : Action → Type 0) (late : F → Type 0) (as_said : E → F) (p : Plan E A) → IsPhased kind (λ refusal. late (as_said refusal)) p → IsPhased kind late (refusing as_said p)
unfolding refusing
phased_refusing kind late as_said (Done value) phased = tt
phased_refusing kind late as_said (Refuse refusal) phased = tt
phased_refusing kind late as_said (Room next) phased = phased_refusing kind late as_said next phased
phased_refusing kind late as_said (Act action next) (inl (is, phased)) = inl (is, λ answer. phased_refusing kind late as_said (next answer) (phased answer))
phased_refusing kind late as_said (Act action next) (inr (is, rest)) = inr (is, λ answer. (each_refusing IsWriting as_said (next answer) (rest answer).0, refuses_refusing late as_said (next answer) (rest answer).1))

pub allows_refusing : {E F A : Type 0} (allowed : F → Action → Type 0) (as_said : E → F) (p : Plan E A) → Allows (λ refusal action. allowed (as_said refusal) action) p → Allows allowed (refusing as_said p)
unfolding refusing
allows_refusing allowed as_said (Done value) allows = tt
allows_refusing allowed as_said (Refuse refusal) allows = tt
allows_refusing allowed as_said (Room next) allows = allows_refusing allowed as_said next allows
allows_refusing allowed as_said (Act action next) allows = λ answer. (refuses_refusing (λ refusal. allowed refusal action) as_said (next answer) (allows answer).0, allows_refusing allowed as_said (next answer) (allows answer).1)
