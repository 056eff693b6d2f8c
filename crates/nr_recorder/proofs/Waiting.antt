-- Who is overdue and who waits, by the promise in force.
use Rattle.std.proofs.Common.{◌≡◌, ℕ, ◌≤◌, ◌++◌, ◌&&◌, Bool, true, false, not, Option, Some, None, refl, sym, ap, ◌∙◌}
use Rattle.std.specs.Option.{is_some, option_map}
use Rattle.std.proofs.lemmas.Bool.{le-ltb}
use Rattle.nr_spec_counts.specs.Tallies.{Numbers, Tally}
use Rattle.nr_spec_counts.specs.Causes.{is_declared, is_overdue, waits_too_long}
use Rattle.nr_spec_steps.specs.Events.{Begin, Close, Event, FrameCame, Heard, Said, StateChanged, is_close}
use Rattle.nr_spec_steps.specs.Steps.{heads_for, is_due, neighbours_with, waits}
use Rattle.nr_discipline.specs.Kept.{IsKeptOf, Kept}
use Rattle.nr_discipline.specs.Views.{numbers_of}
use Rattle.nr_discipline.specs.declared.numbers.FileNumbers.{FileNumbers}

pub force_is : (t : Tally) (k : Kept) (o read : Option FileNumbers) → IsKeptOf t k → option_map numbers_of o ≡ k.in_force → o ≡ read → t.in_force ≡ option_map numbers_of read
force_is t k o read kept is same = sym kept.in_force ∙ (sym is ∙ ap (option_map numbers_of) same)

pub none_due : (t : Tally) (now n : ℕ) → t.in_force ≡ None → is_due t now n ≡ false
none_due t now n e = ap (λ (f : Option Numbers). is_overdue t now f n) e

pub none_waits : (t : Tally) (now n : ℕ) → t.in_force ≡ None → (waits t n && not (is_due t now n)) ≡ false
none_waits t now n e = ap (λ (f : Option Numbers). is_declared f n && is_some (t.oldest n) && not (is_due t now n)) e

pub above_due : (t : Tally) (now n : ℕ) (f : Numbers) → t.in_force ≡ Some f → f.count ≤ n → is_due t now n ≡ false
above_due t now n f e le =
    ap (λ (g : Option Numbers). is_overdue t now g n) e
    ∙ ap (λ (b : Bool). b && waits_too_long f.delay now (t.oldest n)) (le-ltb n f.count le)

pub above_waits : (t : Tally) (now n : ℕ) (f : Numbers) → t.in_force ≡ Some f → f.count ≤ n → (waits t n && not (is_due t now n)) ≡ false
above_waits t now n f e le =
    ap (λ (g : Option Numbers). is_declared g n && is_some (t.oldest n) && not (is_due t now n)) e
    ∙ ap (λ (b : Bool). b && is_some (t.oldest n) && not (is_due t now n)) (le-ltb n f.count le)

-- ---- to whom is committed

pub heads_at_close : (t : Tally) (now : ℕ) (event : Event) → is_close event ≡ true
    → neighbours_with (is_due t now) ++ neighbours_with (λ n. waits t n && not (is_due t now n)) ≡ heads_for t now event
heads_at_close t now (Begin time) e = absurd cc
heads_at_close t now (Heard time n as4 raw) e = absurd cc
heads_at_close t now (Said time n as4 raw) e = absurd cc
heads_at_close t now (StateChanged time n old new) e = absurd cc
heads_at_close t now (FrameCame bytes) e = absurd cc
heads_at_close t now (Close time) e = refl

pub heads_before : (t : Tally) (now : ℕ) (event : Event) → is_close event ≡ false → neighbours_with (is_due t now) ≡ heads_for t now event
heads_before t now (Begin time) e = refl
heads_before t now (Heard time n as4 raw) e = refl
heads_before t now (Said time n as4 raw) e = refl
heads_before t now (StateChanged time n old new) e = refl
heads_before t now (FrameCame bytes) e = refl
heads_before t now (Close time) e = absurd cc
