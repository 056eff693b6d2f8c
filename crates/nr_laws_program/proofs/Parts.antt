-- Runs of plans that were put together, taken apart.
use Rattle.std.proofs.Common.{◌≡◌, Result, Ok, Err, refl, inl, inr, ⊎_elim}
use Rattle.nr_spec_plans.specs.Disk.{Disk, Memory}
use Rattle.nr_spec_plans.specs.Plans.{Plan, Done, Refuse, Room, Act, Halt, Refused, Faulted, Runs, followed_by, halting, refusing}
use Rattle.nr_spec_plans.specs.Laws.{Each}
use Rattle.nr_spec_plans.proofs.PlanLaws.{taken_apart}

-- where the whole gave a value, the first part did
pub ok_apart : {E A B : Type 0} (p : Plan E A) (f : A → Plan E B) (old new : Disk) (value : B) → Runs (followed_by p f) old new (Ok value) → (mid : Disk) × (first : A) × Runs p old mid (Ok first) × Runs (f first) mid new (Ok value)
ok_apart p f old new value runs = ⊎_elim (λ w. w) (λ w. absurd (let e = w.2 in cc)) (taken_apart p f old new (Ok value) runs)

-- a plan whose refusals are told in other words gave what the plan gives, told so
pub refused_apart : {E F A : Type 0} (as_said : E → F) (p : Plan E A) (old new : Disk) (result : Result A (Halt F)) → Runs (refusing as_said p) old new result → (inner : Result A (Halt E)) × Runs p old new inner × (result ≡ halting as_said inner)
unfolding Runs refusing
refused_apart as_said (Done value) old new result (same, is) = (Ok value, (same, refl), is)
refused_apart as_said (Refuse refusal) old new result (same, is) = (Err (Refused refusal), (same, refl), is)
refused_apart as_said (Room next) old new result (inl (same, is)) = (Err (Faulted Memory), inl (same, refl), is)
refused_apart as_said (Room next) old new result (inr runs) = let w = refused_apart as_said next old new result runs in (w.0, inr w.1, w.2)
refused_apart as_said (Act action next) old new result (mid, Ok answer, acts, goes) = let w = refused_apart as_said (next answer) mid new result goes in (w.0, (mid, Ok answer, acts, w.1), w.2)
refused_apart as_said (Act action next) old new result (mid, Err fault, acts, (same, is)) = (Err (Faulted fault), (mid, Err fault, acts, (same, refl)), is)

-- a plan without steps leaves everything
pub nothing_done : {E A : Type 0} (p : Plan E A) (old new : Disk) (result : Result A (Halt E)) → Each (λ action. ⊥) p → Runs p old new result → new ≡ old
unfolding Runs
nothing_done (Done value) old new result each (same, is) = same
nothing_done (Refuse refusal) old new result each (same, is) = same
nothing_done (Room next) old new result each (inl (same, is)) = same
nothing_done (Room next) old new result each (inr runs) = nothing_done next old new result each runs
nothing_done (Act action next) old new result each runs = absurd each.0
