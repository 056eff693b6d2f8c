-- What was done before a refusal.
use Rattle.std.proofs.Common.{◌≡◌, [], ◌∷◌, Ok, Err, subst, inl, inr}
use Rattle.nr_spec_plans.specs.Disk.{Disk}
use Rattle.nr_spec_plans.specs.Plans.{Action, Plan, Done, Refuse, Room, Act, Refused, Runs, followed_by}
use Rattle.nr_spec_plans.specs.Laws.{Each}
use Rattle.nr_spec_plans.specs.Steps.{OnlyBy}
use Rattle.nr_spec_plans.specs.Order.{Refuses, Allows}

refuses_so : {E A : Type 0} (P : E → Type 0) (p : Plan E A) (old new : Disk) (refusal : E) → Refuses P p → Runs p old new (Err (Refused refusal)) → P refusal
unfolding Runs
refuses_so P (Done value) old new refusal has (same, is) = absurd cc
refuses_so P (Refuse r) old new refusal has (same, is) = subst P (let e : r ≡ refusal = cc in e) has
refuses_so P (Room next) old new refusal has (inl (same, is)) = absurd cc
refuses_so P (Room next) old new refusal has (inr runs) = refuses_so P next old new refusal has runs
refuses_so P (Act action next) old new refusal has (mid, Ok answer, acts, goes) = refuses_so P (next answer) mid new refusal (has answer) goes
refuses_so P (Act action next) old new refusal has (mid, Err fault, acts, (same, is)) = absurd cc

pub refused_by : {E A : Type 0} (allowed : E → Action → Type 0) (p : Plan E A) (old new : Disk) (refusal : E) → Allows allowed p → Runs p old new (Err (Refused refusal)) → OnlyBy (allowed refusal) old new
unfolding Runs
refused_by allowed (Done value) old new refusal allows (same, is) = absurd cc
refused_by allowed (Refuse r) old new refusal allows (same, is) = record { steps = []; lead = same; each = tt }
refused_by allowed (Room next) old new refusal allows (inl (same, is)) = absurd cc
refused_by allowed (Room next) old new refusal allows (inr runs) = refused_by allowed next old new refusal allows runs
refused_by allowed (Act action next) old new refusal allows (mid, Ok answer, acts, goes) =
    let first = allows answer in
    let rest = refused_by allowed (next answer) mid new refusal first.1 goes in
    record {
      steps = record { action = action; got = Ok answer } ∷ rest.steps;
      lead = (mid, acts, rest.lead);
      each = (refuses_so (λ r. allowed r action) (next answer) mid new refusal first.0 goes, rest.each);
    }
refused_by allowed (Act action next) old new refusal allows (mid, Err fault, acts, (same, is)) = absurd cc

-- ---- one plan after another

pub refuses_followed : {E A B : Type 0} (P : E → Type 0) (p : Plan E A) (f : A → Plan E B) → Refuses P p → ((value : A) → Refuses P (f value)) → Refuses P (followed_by p f)
unfolding followed_by
refuses_followed P (Done value) f first rest = rest value
refuses_followed P (Refuse refusal) f first rest = first
refuses_followed P (Room next) f first rest = refuses_followed P next f first rest
refuses_followed P (Act action next) f first rest = λ answer. refuses_followed P (next answer) f (first answer) rest

pub allows_followed : {E A B : Type 0} (allowed : E → Action → Type 0) (p : Plan E A) (f : A → Plan E B) → Allows allowed p → Each (λ action. (value : A) → Refuses (λ refusal. allowed refusal action) (f value)) p
    → ((value : A) → Allows allowed (f value)) → Allows allowed (followed_by p f)
unfolding followed_by
allows_followed allowed (Done value) f first each rest = rest value
allows_followed allowed (Refuse refusal) f first each rest = tt
allows_followed allowed (Room next) f first each rest = allows_followed allowed next f first each rest
allows_followed allowed (Act action next) f first (later, each) rest =
    λ answer. (refuses_followed (λ refusal. allowed refusal action) (next answer) f (first answer).0 later, allows_followed allowed (next answer) f (first answer).1 (each answer) rest)
