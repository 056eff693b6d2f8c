-- The texts of numbers and communities are read as what they are.
use Rattle.std.proofs.Common.{◌≡◌, ℕ, ◌+◌, ◌*◌, ◌/◌, ◌%◌, ◌^◌, ◌<◌, ◌≤◌, true, false, eqb, List, ◌∷◌, ◌++◌, length, Option, Some, refl, sym, ap, subst, ◌∙◌, append_assoc, arith}
use Rattle.std.specs.Char.{is_ascii_digit}
use Rattle.std.specs.Result.{result_ok}
use Rattle.std.specs.Fmt.{decimal}
use Rattle.hex.specs.Hex.{IsBytes, encode_lower}
use Rattle.hex.proofs.HexLemmas.{decode_sized-encode_lower}
use Rattle.nr_spec_bgp.specs.Prefixes.{Cidr, IsCidr}
use Rattle.nr_spec_bgp.specs.PrefixText.{address_text, cidr_text}
use Rattle.std.proofs.lemmas.Bool.{ltb-true}
use Rattle.std.proofs.lemmas.List.{append-nil}
use Rattle.nr_spec_wire.specs.Optional as optional
use Rattle.nr_spec_rules.specs.Figures.{number_of, address_of, prefix_of, community_of, digest_of, number_to, cut}
use Rattle.nr_rule_syntax.specs.Printing.{community_text}
use Rattle.nr_rule_syntax.specs.Written.{is_short}
use Rattle.nr_laws_print.proofs.Figures.{writes_decimal, number_again, cut_at, lacks_digits, lacks_both, lacks_one, Lacks}

pub short_of : (n : ℕ) → is_short n ≡ true → n < 4294967296
short_of n h = ltb-true n 4294967296 h

pub number_text_read : (n : ℕ) → is_short n ≡ true → number_of (decimal n) ≡ Some n
unfolding number_of
number_text_read n h =
    let small = short_of n h in
    number_again 4294967295 n (decimal n) (writes_decimal n (omega arith)) (omega arith)

pub then_some : {A B : Type 0} (r : Option A) (f : A → Option B) (x : A) (y : Option B) → r ≡ Some x → f x ≡ y → optional.◌>>=◌ r f ≡ y
then_some r f x y e g = ap (λ q. optional.◌>>=◌ q f) e ∙ g

pub part_read : (most n : ℕ) → n ≤ most → n < 2 ^ 64 → number_to most (decimal n) ≡ Some n
part_read most n h small = number_again most n (decimal n) (writes_decimal n small) h

pub community_text_read : (c : ℕ) → is_short c ≡ true → community_of (community_text c) ≡ Some c
unfolding community_of
community_text_read c h =
    let small = short_of c h in
    let high = c / 65536 in
    let low = c % 65536 in
    let text : community_text c ≡ decimal high ++ 58 ∷ decimal low = ap (λ (t : List ℕ). decimal high ++ 58 ∷ t) (append-nil (decimal low)) in
    let value : high * 65536 + low ≡ c = omega arith in
    ap (λ (t : List ℕ). community_of t) text
    ∙ then_some (cut 58 (decimal high ++ 58 ∷ decimal low)) _ (decimal high, decimal low) _ (cut_at 58 (decimal high) (decimal low) (lacks_digits 58 (decimal high) (writes_decimal high (omega arith)).digits refl))
    (then_some (number_to 65535 (decimal high)) _ high _ (part_read 65535 high (omega arith) (omega arith))
    (then_some (number_to 65535 (decimal low)) _ low _ (part_read 65535 low (omega arith) (omega arith))
    (ap (λ (n : ℕ). let r : Option ℕ = Some n in r) value)))

pub decimal_lacks : (byte n : ℕ) → n < 2 ^ 64 → is_ascii_digit byte ≡ false → Lacks byte (decimal n)
decimal_lacks byte n small h = lacks_digits byte (decimal n) (writes_decimal n small).digits h

-- four texts with `.` between them
dotted : (a b c d : List ℕ) → a ++ 46 ∷ b ++ 46 ∷ c ++ 46 ∷ d ≡ a ++ (46 ∷ (b ++ (46 ∷ (c ++ (46 ∷ d)))))
dotted a b c d = simp append_assoc

pub address_parts : (addr : ℕ) → address_text addr ≡ decimal (addr / 2 ^ 24) ++ (46 ∷ (decimal (addr / 2 ^ 16 % 256) ++ (46 ∷ (decimal (addr / 2 ^ 8 % 256) ++ (46 ∷ decimal (addr % 256))))))
address_parts addr = dotted (decimal (addr / 2 ^ 24)) (decimal (addr / 2 ^ 16 % 256)) (decimal (addr / 2 ^ 8 % 256)) (decimal (addr % 256))

pub address_lacks : (byte addr : ℕ) → addr < 4294967296 → is_ascii_digit byte ≡ false → eqb 46 byte ≡ false → Lacks byte (address_text addr)
address_lacks byte addr small h dot =
    let a = addr / 2 ^ 24 in
    let b = addr / 2 ^ 16 % 256 in
    let c = addr / 2 ^ 8 % 256 in
    let d = addr % 256 in
    subst (Lacks byte) (sym (address_parts addr))
    (lacks_both byte (decimal a) (46 ∷ (decimal b ++ (46 ∷ (decimal c ++ (46 ∷ decimal d))))) (decimal_lacks byte a (omega arith) h)
    (lacks_one byte 46 (decimal b ++ (46 ∷ (decimal c ++ (46 ∷ decimal d)))) dot (lacks_both byte (decimal b) (46 ∷ (decimal c ++ (46 ∷ decimal d))) (decimal_lacks byte b (omega arith) h)
    (lacks_one byte 46 (decimal c ++ (46 ∷ decimal d)) dot (lacks_both byte (decimal c) (46 ∷ decimal d) (decimal_lacks byte c (omega arith) h)
    (lacks_one byte 46 (decimal d) dot (decimal_lacks byte d (omega arith) h)))))))

pub cut_decimal : (byte n : ℕ) (rest : List ℕ) → n < 2 ^ 64 → is_ascii_digit byte ≡ false → cut byte (decimal n ++ byte ∷ rest) ≡ Some (decimal n, rest)
cut_decimal byte n rest small h = cut_at byte (decimal n) rest (decimal_lacks byte n small h)

pub address_text_read : (addr : ℕ) → addr < 4294967296 → address_of (address_text addr) ≡ Some addr
unfolding address_of
address_text_read addr small =
    let a = addr / 2 ^ 24 in
    let b = addr / 2 ^ 16 % 256 in
    let c = addr / 2 ^ 8 % 256 in
    let d = addr % 256 in
    let text-c = decimal c ++ 46 ∷ decimal d in
    let text-b = decimal b ++ 46 ∷ text-c in
    let value : ((a * 256 + b) * 256 + c) * 256 + d ≡ addr = omega arith in
    ap address_of (address_parts addr) ∙ then_some (cut 46 (decimal a ++ 46 ∷ text-b)) _ (decimal a, text-b) _ (cut_decimal 46 a text-b (omega arith) refl)
    (then_some (cut 46 text-b) _ (decimal b, text-c) _ (cut_decimal 46 b text-c (omega arith) refl)
    (then_some (cut 46 text-c) _ (decimal c, decimal d) _ (cut_decimal 46 c (decimal d) (omega arith) refl)
    (then_some (number_to 255 (decimal a)) _ a _ (part_read 255 a (omega arith) (omega arith))
    (then_some (number_to 255 (decimal b)) _ b _ (part_read 255 b (omega arith) (omega arith))
    (then_some (number_to 255 (decimal c)) _ c _ (part_read 255 c (omega arith) (omega arith))
    (then_some (number_to 255 (decimal d)) _ d _ (part_read 255 d (omega arith) (omega arith))
    (ap (λ (n : ℕ). let r : Option ℕ = Some n in r) value)))))))

pub prefix_text_read : (p : Cidr) → IsCidr p → prefix_of (cidr_text p) ≡ Some (p.addr, p.len)
unfolding prefix_of
prefix_text_read p h =
    let small : p.addr < 4294967296 = omega (arith, h.addr) in
    then_some (cut 47 (address_text p.addr ++ 47 ∷ decimal p.len)) _ (address_text p.addr, decimal p.len) _
    (cut_at 47 (address_text p.addr) (decimal p.len) (address_lacks 47 p.addr small refl refl))
    (then_some (address_of (address_text p.addr)) _ p.addr _ (address_text_read p.addr small)
    (then_some (number_to 32 (decimal p.len)) _ p.len _ (part_read 32 p.len h.len (omega (arith, h.len))) refl))

pub root_text_read : (bytes : List ℕ) → length bytes ≡ 32 → IsBytes bytes → digest_of (35 ∷ encode_lower bytes) ≡ Some bytes
root_text_read bytes long h = ap result_ok (decode_sized-encode_lower bytes 32 long h)
