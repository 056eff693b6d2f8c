-- The steps of a run.
use Rattle.std.proofs.Common.{◌≡◌, ℕ, List, [], ◌∷◌, Result, Ok, Err, refl, sym, subst, inl, inr}
use Rattle.nr_spec_plans.specs.Disk.{Disk}
use Rattle.nr_spec_plans.specs.Plans.{Action, Ask, Read, Cut, Write, Sync, Plan, Done, Refuse, Room, Act, Halt, Runs}
use Rattle.nr_spec_plans.specs.Laws.{Each, IsRead, IsAmong, Spares, Touches, fault_in}
use Rattle.nr_spec_plans.specs.Steps.{OnlyBy, DoneBy}

-- no step
none_done : (kind : Action → Type 0) (old new : Disk) → new ≡ old → OnlyBy kind old new
none_done kind old new same = record { steps = []; lead = same; each = tt }

pub done_by : {E A : Type 0} (kind : Action → Type 0) (p : Plan E A) (old new : Disk) (result : Result A (Halt E)) → Each kind p → Runs p old new result → DoneBy kind (fault_in result) old new
unfolding Runs none_done
done_by kind (Done value) old new result each (same, is) = record { only = none_done kind old new same; stop = rw is tt }
done_by kind (Refuse refusal) old new result each (same, is) = record { only = none_done kind old new same; stop = rw is tt }
done_by kind (Room next) old new result each (inl (same, is)) = record { only = none_done kind old new same; stop = rw is tt }
done_by kind (Room next) old new result each (inr runs) = done_by kind next old new result each runs
done_by kind (Act action next) old new result (first, each) (mid, Ok answer, acts, goes) =
    let rest = done_by kind (next answer) mid new result (each answer) goes in
    record { only = record { steps = record { action = action; got = Ok answer } ∷ rest.only.steps; lead = (mid, acts, rest.only.lead); each = (first, rest.only.each) }; stop = rest.stop }
done_by kind (Act action next) old new result (first, each) (mid, Err fault, acts, (same, is)) =
    record { only = record { steps = record { action = action; got = Err fault } ∷ []; lead = (mid, acts, same); each = (first, tt) }; stop = (refl, rw is refl) }

pub done_only : {E A : Type 0} (kind : Action → Type 0) (p : Plan E A) (old new : Disk) (result : Result A (Halt E)) → Each kind p → Runs p old new result → OnlyBy kind old new
done_only kind p old new result each runs = (done_by kind p old new result each runs).only

pub only_to : (kind : Action → Type 0) (old mid new : Disk) → new ≡ mid → OnlyBy kind old mid → OnlyBy kind old new
only_to kind old mid new same only = subst (λ (d : Disk). OnlyBy kind old d) (sym same) only

-- ---- from one kind to another

pub each_as : {E A : Type 0} (kind wider : Action → Type 0) → ((action : Action) → kind action → wider action) → (p : Plan E A) → Each kind p → Each wider p
each_as kind wider widen (Done value) each = tt
each_as kind wider widen (Refuse refusal) each = tt
each_as kind wider widen (Room next) each = each_as kind wider widen next each
each_as kind wider widen (Act action next) (first, each) = (widen action first, λ answer. each_as kind wider widen (next answer) (each answer))

-- where no name is to be written, each step reads
pub touches_reads : (read : List (List ℕ)) (action : Action) → Touches read [] action → IsRead action
touches_reads read (Ask name) is = tt
touches_reads read (Read name size) is = tt
touches_reads read (Cut name len) is = is
touches_reads read (Write name at bytes) is = is
touches_reads read (Sync name) is = is

-- a name that isn't to be written is spared
pub touches_spares : (read written : List (List ℕ)) (other : List ℕ) → (IsAmong other written → ⊥) → (action : Action) → Touches read written action → Spares other action
touches_spares read written other spared (Ask name) is = tt
touches_spares read written other spared (Read name size) is = tt
touches_spares read written other spared (Cut name len) is = λ same. spared (subst (λ (n : List ℕ). IsAmong n written) (sym same) is)
touches_spares read written other spared (Write name at bytes) is = λ same. spared (subst (λ (n : List ℕ). IsAmong n written) (sym same) is)
touches_spares read written other spared (Sync name) is = λ same. spared (subst (λ (n : List ℕ). IsAmong n written) (sym same) is)
