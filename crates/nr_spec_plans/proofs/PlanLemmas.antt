-- Plans one after another.
use Rattle.std.proofs.Common.{◌≡◌, Result, Ok, Err, refl, sym, ap, subst, ◌∙◌}
use Rattle.std.proofs.Common.{inl, inr}
use Rattle.nr_spec_plans.specs.Plans.{Room, want, refusing, halting}
use Rattle.nr_spec_plans.specs.Disk.{Memory, Disk, Fault}
use Rattle.nr_spec_plans.specs.Plans.{Action, Answer, Acts, Plan, Done, Refuse, Act, Halt, Refused, Faulted, followed_by, ◌>>=◌, Runs, act}

-- a step that went well, and the next
pub acted : {E B : Type 0} (action : Action) (f : Answer action → Plan E B) (old mid new : Disk) (answer : Answer action) (result : Result B (Halt E))
    → Acts action old mid (Ok answer) → Runs (f answer) mid new result → Runs (act action >>= f) old new result
unfolding Runs followed_by
acted action f old mid new answer result acts rest = (mid, Ok answer, acts, rest)

-- a step that failed
pub act_failed : {E B : Type 0} (action : Action) (f : Answer action → Plan E B) (old new : Disk) (fault : Fault)
    → Acts action old new (Err fault) → Runs (act action >>= f) old new (Err (Faulted fault))
unfolding Runs followed_by
act_failed action f old new fault acts = (new, Err fault, acts, (refl, refl))

-- the last step
pub acted_last : (E : Type 0) (action : Action) (old new : Disk) (answer : Answer action) → Acts action old new (Ok answer) → Runs (act {E = E} action) old new (Ok answer)
unfolding Runs
acted_last E action old new answer acts = (new, Ok answer, acts, (refl, refl))

pub act_failed_last : (E : Type 0) (action : Action) (old new : Disk) (fault : Fault) → Acts action old new (Err fault) → Runs (act {E = E} action) old new (Err (Faulted fault))
unfolding Runs
act_failed_last E action old new fault acts = (new, Err fault, acts, (refl, refl))

pub done : (E : Type 0) {A : Type 0} (value : A) (old : Disk) → Runs {E = E} (Done value) old old (Ok value)
unfolding Runs
done E value old = (refl, refl)

pub refused : (A : Type 0) {E : Type 0} (refusal : E) (old : Disk) → Runs {A = A} (Refuse refusal) old old (Err (Refused refusal))
unfolding Runs
refused A refusal old = (refl, refl)

-- a plan that went well, and the next
pub ran : {E A B : Type 0} (p : Plan E A) (f : A → Plan E B) (old mid new : Disk) (value : A) (result : Result B (Halt E))
    → Runs p old mid (Ok value) → Runs (f value) mid new result → Runs (p >>= f) old new result
unfolding Runs followed_by
ran (Done v) f old mid new value result (same, is) rest =
    let e : value ≡ v = cc in
    subst (λ (d : Disk). Runs (f v) d new result) same (subst (λ x. Runs (f x) mid new result) e rest)
ran (Refuse refusal) f old mid new value result (same, is) rest = absurd cc
ran (Room next) f old mid new value result (inl (same, is)) rest = absurd cc
ran (Room next) f old mid new value result (inr first) rest = inr (ran next f old mid new value result first rest)
ran (Act action next) f old mid new value result (m, Ok answer, acts, goes) rest = (m, Ok answer, acts, ran (next answer) f m mid new value result goes rest)
ran (Act action next) f old mid new value result (m, Err fault, acts, (same, is)) rest = absurd cc

-- a plan that stopped
pub stopped : {E A B : Type 0} (p : Plan E A) (f : A → Plan E B) (old new : Disk) (halt : Halt E)
    → Runs p old new (Err halt) → Runs (p >>= f) old new (Err halt)
unfolding Runs followed_by
stopped (Done v) f old new halt (same, is) = absurd cc
stopped (Refuse refusal) f old new halt (same, is) = (same, ap (λ h. Err h) (let e : halt ≡ Refused refusal = cc in e))
stopped (Room next) f old new halt (inl (same, is)) = inl (same, ap (λ h. Err h) (let e : halt ≡ Faulted Memory = cc in e))
stopped (Room next) f old new halt (inr first) = inr (stopped next f old new halt first)
stopped (Act action next) f old new halt (m, Ok answer, acts, goes) = (m, Ok answer, acts, stopped (next answer) f m new halt goes)
stopped (Act action next) f old new halt (m, Err fault, acts, (same, is)) = (m, Err fault, acts, (same, ap (λ h. Err h) (let e : halt ≡ Faulted fault = cc in e)))

-- ---- by what is known of the first plan

pub gives : (E : Type 0) {A : Type 0} (value given : A) (old : Disk) → value ≡ given → Runs {E = E} (Done value) old old (Ok given)
unfolding Runs
gives E value given old is = (refl, ap (λ v. Ok v) (sym is))

pub known : {E A B : Type 0} (p : Plan E A) (f : A → Plan E B) (old new : Disk) (value : A) (result : Result B (Halt E)) → p ≡ Done value → Runs (f value) old new result → Runs (p >>= f) old new result
known p f old new value result is rest = ran p f old old new value result (rw is (done _ value old)) rest

pub declined : {E A B : Type 0} (p : Plan E A) (f : A → Plan E B) (old : Disk) (refusal : E) → p ≡ Refuse refusal → Runs (p >>= f) old old (Err (Refused refusal))
declined p f old refusal is = stopped p f old old (Refused refusal) (rw is (refused _ refusal old))

pub wanted : {E B : Type 0} (f : Unit {0} → Plan E B) (old new : Disk) (result : Result B (Halt E)) → Runs (f tt) old new result → Runs (want >>= f) old new result
unfolding Runs followed_by
wanted f old new result rest = inr rest

pub unfound : {E B : Type 0} (f : Unit {0} → Plan E B) (old : Disk) → Runs (want >>= f) old old (Err (Faulted Memory))
unfolding Runs followed_by
unfound f old = inl (refl, refl)

pub at_done : {E A : Type 0} (p : Plan E A) (old : Disk) (value : A) → p ≡ Done value → Runs p old old (Ok value)
at_done p old value is = rw is (done _ value old)

pub at_refusal : {E A : Type 0} (p : Plan E A) (old : Disk) (refusal : E) → p ≡ Refuse refusal → Runs p old old (Err (Refused refusal))
at_refusal p old refusal is = rw is (refused _ refusal old)

-- the same where the plan is known by another spelling
pub known_as : {E A B : Type 0} (p q : Plan E A) (f : A → Plan E B) (old new : Disk) (value : A) (result : Result B (Halt E)) → q ≡ Done value → p ≡ q → Runs (f value) old new result → Runs (p >>= f) old new result
known_as p q f old new value result is same rest = known p f old new value result (same ∙ is) rest

pub ruleset planning = (acted, act_failed, acted_last, act_failed_last, ran, stopped, known, declined, wanted, unfound, gives, at_done, at_refusal)

-- ---- refusals of another kind

pub refused_as : {E F A : Type 0} (as_said : E → F) (p : Plan E A) (old new : Disk) (result : Result A (Halt E)) → Runs p old new result → Runs (refusing as_said p) old new (halting as_said result)
unfolding Runs refusing
refused_as as_said (Done value) old new result (same, is) = (same, ap (halting as_said) is)
refused_as as_said (Refuse refusal) old new result (same, is) = (same, ap (halting as_said) is)
refused_as as_said (Room next) old new result (inl (same, is)) = inl (same, ap (halting as_said) is)
refused_as as_said (Room next) old new result (inr runs) = inr (refused_as as_said next old new result runs)
refused_as as_said (Act action next) old new result (mid, Ok answer, acts, goes) = (mid, Ok answer, acts, refused_as as_said (next answer) mid new result goes)
refused_as as_said (Act action next) old new result (mid, Err fault, acts, (same, is)) = (mid, Err fault, acts, (same, ap (halting as_said) is))
