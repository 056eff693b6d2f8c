-- What is read is written as it should be: names, numbers, terms and lists.
use Rattle.std.proofs.Common.{◌≡◌, ℕ, ◌+◌, ◌*◌, ◌<◌, ◌≤◌, Bool, true, false, ◌&&◌, cond, leb, List, [], ◌∷◌, length, Option, Some, None, Result, Ok, Err, refl, sym, subst, ◌∙◌, arith}
use Rattle.nr_spec_rules.specs.declared.kind.Kind.TheVariants as k
use Rattle.nr_spec_rules.specs.Figures.{number_to, number_of, address_of, prefix_of, community_of, digest_of, cut}
use Rattle.nr_spec_wire.specs.Optional as optional
use Rattle.nr_spec_rules.specs.Figures as figures
use Rattle.nr_spec_bgp.specs.Prefixes.{masked, IsCidr}
use Rattle.nr_prefix.proofs.Masking.{masked_is_cidr}
use Rattle.std.proofs.lemmas.Bool.{leb-true, lt-ltb}
use Rattle.nr_rule_syntax.specs.Written.{is_short, IsName, IsNumber, IsPrefix, IsRoot}
use Rattle.std.specs.Result.{result_ok}
use Rattle.hex.specs.Hex.{IsBytes, decode_sized}
use Rattle.hex.specs.declared.error.FromHexError.{FromHexError}
use Rattle.hex.proofs.HexLemmas.{decode_sized-ok, decode_sized-twice, decode_of-ok}
use Rattle.nr_rule_syntax.specs.Reading as spec
use Rattle.nr_rule_syntax.proofs.Yields.{Yields, yields_then, yields_pure, yields_map, yields_expect, yields_valued, yields_word}

-- ---- figures

then_of : {A B : Type 0} (r : Option A) (f : A → Option B) (y : B) → optional.◌>>=◌ r f ≡ Some y → (x : A) × (r ≡ Some x) × (f x ≡ Some y)
then_of None f y e = absurd cc
then_of (Some x) f y e = (x, refl, e)

if_of : {A : Type 0} (b : Bool) (x y : A) → cond b (Some x) None ≡ Some y → (b ≡ true) × (x ≡ y)
if_of true x y e = (refl, cc)
if_of false x y e = absurd cc

of_both : (a b : Bool) → (a && b) ≡ true → (a ≡ true) × (b ≡ true)
of_both true true e = (refl, refl)
of_both true false e = absurd cc
of_both false b e = absurd cc

number_most : (most : ℕ) (text : List ℕ) (n : ℕ) → number_to most text ≡ Some n → n ≤ most
unfolding number_to
number_most most text n e =
    let t = if_of (figures.is_numeral text && leb (figures.worth_from 0 text) most) (figures.worth_from 0 text) n e in
    let b = of_both (figures.is_numeral text) (leb (figures.worth_from 0 text) most) t.0 in
    omega (arith, leb-true _ _ b.1, t.1)

short : (n : ℕ) → n < 4294967296 → is_short n ≡ true
short n h = lt-ltb n 4294967296 h

number_short : (text : List ℕ) (n : ℕ) → number_of text ≡ Some n → is_short n ≡ true
unfolding number_of
number_short text n e = short n (omega (arith, number_most 4294967295 text n e))

address_small : (text : List ℕ) (n : ℕ) → address_of text ≡ Some n → n < 4294967296
unfolding address_of
address_small text n e =
    let a = then_of (cut 46 text) _ n e in
    let b = then_of (cut 46 a.0.1) _ n a.2 in
    let c = then_of (cut 46 b.0.1) _ n b.2 in
    let first = then_of (number_to 255 a.0.0) _ n c.2 in
    let second = then_of (number_to 255 b.0.0) _ n first.2 in
    let third = then_of (number_to 255 c.0.0) _ n second.2 in
    let fourth = then_of (number_to 255 c.0.1) _ n third.2 in
    let is : ((first.0 * 256 + second.0) * 256 + third.0) * 256 + fourth.0 ≡ n = cc (fourth.2) in
    omega (arith, number_most 255 a.0.0 first.0 first.1, number_most 255 b.0.0 second.0 second.1, number_most 255 c.0.0 third.0 third.1, number_most 255 c.0.1 fourth.0 fourth.1, is)

community_short : (text : List ℕ) (n : ℕ) → community_of text ≡ Some n → is_short n ≡ true
unfolding community_of
community_short text n e =
    let p = then_of (cut 58 text) _ n e in
    let high = then_of (number_to 65535 p.0.0) _ n p.2 in
    let low = then_of (number_to 65535 p.0.1) _ n high.2 in
    let is : high.0 * 65536 + low.0 ≡ n = cc (low.2) in
    short n (omega (arith, number_most 65535 p.0.0 high.0 high.1, number_most 65535 p.0.1 low.0 low.1, is))

prefix_fits : (text : List ℕ) (p : ℕ × ℕ) → prefix_of text ≡ Some p → IsCidr (masked p.0 p.1)
unfolding prefix_of
prefix_fits text p e =
    let parts = then_of (cut 47 text) _ p e in
    let addr = then_of (address_of parts.0.0) _ p parts.2 in
    let len = then_of (number_to 32 parts.0.1) _ p addr.2 in
    let is : (addr.0, len.0) ≡ p = cc (len.2) in
    let small : addr.0 < 4294967296 = address_small parts.0.0 addr.0 addr.1 in
    let made : IsCidr (masked addr.0 len.0) = masked_is_cidr addr.0 len.0 (omega arith) (number_most 32 parts.0.1 len.0 len.1) in
    subst (λ (q : ℕ × ℕ). IsCidr (masked q.0 q.1)) is made

read_of : (r : Result (List ℕ) FromHexError) (bytes : List ℕ) → result_ok r ≡ Some bytes → r ≡ Ok bytes
read_of (Ok x) bytes e = cc
read_of (Err x) bytes e = absurd cc

root_fits : (text bytes : List ℕ) → digest_of text ≡ Some bytes → (length bytes ≡ 32) × IsBytes bytes
root_fits [] bytes e = absurd cc
root_fits (mark ∷ digits) bytes e =
    let read = read_of (decode_sized digits 32) bytes e in
    let long = decode_sized-ok digits 32 bytes read in
    let fine = decode_of-ok digits bytes (sym (decode_sized-twice digits 32 long) ∙ read) in
    (omega (arith, long, fine.2), fine.3)

-- ---- tokens with a value

pub yields_name : Yields IsName spec.name
unfolding spec.name
yields_name = yields_map _ yields_word (λ x h. h)

pub yields_number : Yields IsNumber spec.number
unfolding spec.number
yields_number = yields_map _ (yields_valued k.Number number_of number_short) (λ x h. h)

pub yields_address : Yields IsNumber spec.address
unfolding spec.address
yields_address = yields_map _ (yields_valued k.Address address_of (λ text n e. short n (address_small text n e))) (λ x h. h)

pub yields_community : Yields (λ c. is_short c ≡ true) spec.community
unfolding spec.community
yields_community = yields_map _ (yields_valued k.Community community_of community_short) (λ x h. h)

pub yields_prefix : Yields IsPrefix spec.prefix
unfolding spec.prefix
yields_prefix = yields_map _ (yields_valued k.Prefix prefix_of prefix_fits) (λ x h. h)

pub yields_root : Yields IsRoot spec.root
unfolding spec.root
yields_root = yields_map _ (yields_valued k.Root digest_of root_fits) (λ x h. h)

pub yields_argument : Yields IsName spec.argument
unfolding spec.argument
yields_argument = yields_then (yields_expect k.OpenParen) (λ _ _. yields_then yields_name (λ of h. yields_then (yields_expect k.CloseParen) (λ _ _. yields_pure h)))
