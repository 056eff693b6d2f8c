-- How long an UPDATE is.
use Rattle.std.proofs.Common.{◌≡◌, ℕ, ◌+◌, List, [], ◌∷◌, ◌++◌, length, refl, ◌∙◌, arith, length-append}
use Rattle.std.specs.Prelude.{replicate}
use Rattle.byteorder.specs.Endian.{big_bytes}
use Rattle.nr_spec_bgp.specs.Prefixes.{Cidr}
use Rattle.nr_spec_bgp.specs.Messages.{cidrs_bytes, sized, update_body, update_bytes, message_bytes}

length_sized : (bytes : List ℕ) → length (sized bytes) ≡ 2 + length bytes
length_sized bytes = omega arith

length_body : (w b a : List ℕ) → length (sized w ++ sized b ++ a) ≡ 4 + length w + length b + length a
length_body w b a = omega (arith, length-append (sized w ++ sized b) a, length-append (sized w) (sized b), length_sized w, length_sized b)

pub length_message : (kind : ℕ) (body : List ℕ) → length (message_bytes kind body) ≡ 19 + length body
length_message kind body = omega arith

pub length_update : (withdrawn : List Cidr) (block : List ℕ) (announced : List Cidr) → length (update_bytes withdrawn block announced) ≡ 23 + length (cidrs_bytes withdrawn) + length block + length (cidrs_bytes announced)
length_update withdrawn block announced =
    omega (arith, length_message 2 (update_body withdrawn block announced), length_body (cidrs_bytes withdrawn) block (cidrs_bytes announced))

-- the header and then the body
pub update_spelled : (withdrawn : List Cidr) (block : List ℕ) (announced : List Cidr) (len : ℕ) → len ≡ length (update_bytes withdrawn block announced)
    → [] ++ (replicate 16 255 ++ big_bytes 2 len ++ 2 ∷ []) ++ update_body withdrawn block announced ≡ update_bytes withdrawn block announced
update_spelled withdrawn block announced len e =
    let n : len ≡ 19 + length (update_body withdrawn block announced) = e ∙ length_message 2 (update_body withdrawn block announced) in
    rw n refl
