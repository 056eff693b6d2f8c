-- An address whose bits after the length are 0 stays so.
use Rattle.std.proofs.Common.{ℕ, zero, ◌-◌, ◌*◌, ◌/◌, ◌^◌, ◌<◌, ◌≤◌, arith, ap}
use Rattle.std.proofs.Math.Nat.{mul-div_cancel, div-mul-le_self}
use Rattle.std.proofs.lemmas.Nat.{pow_pos}
use Rattle.nr_spec_bgp.specs.Prefixes.{masked, IsCidr}

pub masked_is_cidr : (addr len : ℕ) → addr < 2 ^ 32 → len ≤ 32 → IsCidr (masked addr len)
masked_is_cidr addr len a l =
    let step = 2 ^ (32 - len) in
    let some : zero < step = pow_pos (32 - len) in
    record {
      len = l;
      addr = omega (arith, div-mul-le_self addr step);
      clear = ap (λ (n : ℕ). n * step) (mul-div_cancel (addr / step) some);
    }
