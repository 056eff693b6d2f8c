-- What was appended by a step or a turn that was done.
use Rattle.std.proofs.Common.{◌≡◌, Bool, true, false, cond, List, [], ◌∷◌, ◌++◌, max, Result, Ok, Err, refl}
use Rattle.nr_spec_wire.specs.Reading.{◌>>=◌}
use Rattle.nr_spec_log.specs.Chain.{LogEntry}
use Rattle.nr_spec_steps.specs.Events.{Event}
use Rattle.nr_spec_steps.specs.Steps.{Recorder, Spent, appended, core_step, is_spent, known, leaves_for}
use Rattle.nr_spec_steps.specs.Turns.{turn}

abbrev fine : List LogEntry → Result (List LogEntry) Spent
fine x = Ok x

ok_is : (x y : List LogEntry) → fine x ≡ fine y → x ≡ y
ok_is x y e = cc

-- ---- a step

pub record IsStep (r : Recorder) (log : List LogEntry) (event : Event) (batch : List LogEntry) : Type 0 where
  pub spare : is_spent r.leaves (known log).commits (leaves_for r log event) ≡ false
  pub are : appended r log event ≡ batch

step_by : (b : Bool) (r : Recorder) (log : List LogEntry) (event : Event) (spent : Spent) (batch : List LogEntry)
    → is_spent r.leaves (known log).commits (leaves_for r log event) ≡ b → cond b (let x : Result (List LogEntry) Spent = Err spent in x) (Ok (appended r log event)) ≡ Ok batch → IsStep r log event batch
step_by true r log event spent batch spare e = absurd cc
step_by false r log event spent batch spare e = record { spare = spare; are = ok_is (appended r log event) batch e }

pub step_is : (r : Recorder) (log : List LogEntry) (event : Event) (batch : List LogEntry) → core_step r log event ≡ Ok batch → IsStep r log event batch
unfolding core_step
step_is r log event batch e =
    step_by (is_spent r.leaves (known log).commits (leaves_for r log event)) r log event (record { commits = max (known log).commits r.leaves; leaves = r.leaves }) batch refl e

-- ---- a turn

pub record IsTurn (r : Recorder) (log : List LogEntry) (event : Event) (events : List Event) (batch : List LogEntry) : Type 0 where
  pub first : List LogEntry
  pub others : List LogEntry
  pub step : core_step r log event ≡ Ok first
  pub turn_on : turn r (log ++ first) events ≡ Ok others
  pub are : first ++ others ≡ batch

bind_ok : (r : Result (List LogEntry) Spent) (f : List LogEntry → Result (List LogEntry) Spent) (y : List LogEntry) → (r >>= f) ≡ Ok y → (x : List LogEntry) × (r ≡ Ok x) × (f x ≡ Ok y)
bind_ok (Ok x) f y e = (x, refl, e)
bind_ok (Err spent) f y e = absurd cc

pub turn_is : (r : Recorder) (log : List LogEntry) (event : Event) (events : List Event) (batch : List LogEntry) → turn r log (event ∷ events) ≡ Ok batch → IsTurn r log event events batch
unfolding turn
turn_is r log event events batch e =
    let a = bind_ok (core_step r log event) (λ first. turn r (log ++ first) events >>= λ others. Ok (first ++ others)) batch e in
    let b = bind_ok (turn r (log ++ a.0) events) (λ others. Ok (a.0 ++ others)) batch a.2 in
    record { first = a.0; others = b.0; step = a.1; turn_on = b.1; are = ok_is (a.0 ++ b.0) batch b.2 }

pub no_turn : (r : Recorder) (log batch : List LogEntry) → turn r log [] ≡ Ok batch → [] ≡ batch
unfolding turn
no_turn r log batch e = ok_is [] batch e
