use Rattle.std.proofs.Common.{◌≡◌, ℕ, cond, Some, None}
use Rattle.nr_audit.specs.Slots.{is_named, named, slot_of}
use Rattle.nr_audit.proofs.slots.Slots.of.Given as goal

-- the places so far, with those of the authenticators that are left, are all
abbrev pub invariant-loop-auth : goal.invariant-loop-auth
invariant-loop-auth l = (k : ℕ) → cond (is_named k l.auth-iterator) (Some None) (slot_of l.slots.links.entries k) ≡ named (is_named k l.auths)
