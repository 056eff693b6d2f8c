-- A walk over the entries of a whole log.
use Rattle.std.proofs.Common.{◌≡◌, ◌≤◌, ℕ, Bool, true, false, ◌||◌, nat_le, List, [], ◌∷◌, ◌++◌, append_assoc, append-nil, sym, subst, ◌∙◌, arith}
use Rattle.nr_spec_log.specs.Chain.{LogEntry}
use Rattle.nr_spec_log.specs.Answer.{AreEntriesFrom}
use Rattle.nr_spec_report.specs.Wrong.{nothing_before}
use Rattle.nr_verify_runs.specs.Walked.{Charge, Kept, Walked, Walks}
use Rattle.nr_verify_runs.proofs.Marks.{settled_more}

clash : {A : Type 0} (b : Bool) → b ≡ false → b ≡ true → A
clash true h e = absurd cc
clash false h e = absurd cc

pub walks_new : (charge : Charge) (all : List LogEntry) (k : Kept) → Walked nothing_before charge [] k → k.begun ≡ false → AreEntriesFrom 0 all → Walks charge all all k
walks_new charge all k w b order = record { past = []; split = λ i. all; walked = w; last = 0; order = order; settled = λ h. clash k.begun b h }

no_later : (from last time : ℕ) → from ≤ last → last ≤ time → from ≤ time
no_later from last time h k = omega (arith, h, k)

pub walks_more : (charge : Charge) (all rest : List LogEntry) (e : LogEntry) (k new : Kept) → Walks charge all (e ∷ rest) k
    → ((past : List LogEntry) → Walked nothing_before charge past k → (k.begun ≡ true → charge.period.from ≤ e.time) → Walked nothing_before charge (past ++ e ∷ []) new)
    → new.begun ≡ (k.begun || nat_le charge.period.from e.time) → Walks charge all rest new
walks_more charge all rest e k new w step begun = record {
  past = w.past ++ e ∷ [];
  split = w.split ∙ sym (append_assoc w.past (e ∷ []) rest);
  walked = step w.past w.walked (λ b. no_later charge.period.from w.last e.time (w.settled b) w.order.1);
  last = e.time;
  order = w.order.2;
  settled = λ b. settled_more k.begun new.begun charge.period.from w.last e.time begun w.order.1 w.settled b;
}

pub walks_done : (charge : Charge) (all rest : List LogEntry) (k : Kept) → Walks charge all rest k → rest ≡ [] → Walked nothing_before charge all k
walks_done charge all rest k w none =
    subst (λ (l : List LogEntry). Walked nothing_before charge l k) (sym (w.split ∙ ((λ i. w.past ++ none i) ∙ append-nil w.past))) w.walked
