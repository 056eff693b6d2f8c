-- Where a promise is bad.
use Rattle.std.proofs.Common.{◌≡◌, Bool, true, false, ◌&&◌, not, refl}

pub not_judged : (r j x : Bool) → j ≡ false → false ≡ (r && (j && x))
not_judged true false x h = refl
not_judged false j x h = refl
not_judged true true x h = absurd cc

pub all_judged : (r j a b : Bool) → r ≡ true → j ≡ true → a ≡ b → not a ≡ (r && (j && not b))
all_judged r j a b h k e = rw (h, k, e) refl
