-- What a refusal leaves undone.
use Rattle.nr_spec_plans.specs.Plans.{Action, Answer, Plan, Done, Refuse, Room, Act}

-- each refusal that the plan may give has P
abbrev pub Refuses : {E A : Type 0} → (E → Type 0) → Plan E A → Type 0
Refuses P (Done value) = Unit {0}
Refuses P (Refuse refusal) = P refusal
Refuses P (Room next) = Refuses P next
Refuses P (Act action next) = (answer : Answer action) → Refuses P (next answer)

-- Each step of the plan is one that every refusal after it allows.
abbrev pub Allows : {E A : Type 0} → (allowed : E → Action → Type 0) → Plan E A → Type 0
Allows allowed (Done value) = Unit {0}
Allows allowed (Refuse refusal) = Unit {0}
Allows allowed (Room next) = Allows allowed next
Allows allowed (Act action next) =
    (answer : Answer action) → Refuses (λ refusal. allowed refusal action) (next answer) × Allows allowed (next answer)
