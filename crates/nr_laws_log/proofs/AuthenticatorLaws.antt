-- Authenticators.
use Rattle.std.proofs.Common.{◌≡◌, ℕ, ◌+◌, ◌^◌, ◌<◌, true, List, ◌++◌, length, Option, Some, None, Ok, refl, ap, subst, ◌∙◌, append_assoc, arith}
use Rattle.std.proofs.lemmas.Bool.{eqb-true, eq-eqb}
use Rattle.std.proofs.lemmas.List.{length-append}
use Rattle.byteorder.specs.Endian.{big_bytes}
use Rattle.nr_spec_wire.specs.Reading.{Spot, ◌>>=◌, bytes_at, IsBytes}
use Rattle.nr_spec_wire.proofs.Steps.{ok_is}
use Rattle.nr_spec_log.specs.Authenticator.{Authenticator, IsAuthenticator, Head, IsSignature, signature, signature_at, authenticator, wanted_at, authenticator_at, is_asn_of, is_seq_of, is_time_of, digest_size}
use Rattle.nr_laws_log.specs.Laws.{Takes, ReadsSpelled, SpelledReads, SpeaksOf, IsWanted}
use Rattle.nr_laws_log.proofs.Fields.{Takes-then, step, number_text, text_step, number_again, bytes_step, bytes_again, wants_step, reads_then, wants_then}
use Rattle.nr_laws_log.proofs.SignatureLaws.{signature_takes, signature_again}

speaks : (head : Option Head) (a : Authenticator) → is_asn_of head a.asn ≡ true → is_seq_of head a.seq ≡ true → is_time_of head a.time ≡ true → SpeaksOf head a
speaks None a x y z = tt
speaks (Some head) a x y z = (eqb-true _ _ x, eqb-true _ _ y, eqb-true _ _ z)

asn_fits : (head : Option Head) (a : Authenticator) → SpeaksOf head a → is_asn_of head a.asn ≡ true
asn_fits None a h = refl
asn_fits (Some head) a h = eq-eqb _ _ h.0

seq_fits : (head : Option Head) (a : Authenticator) → SpeaksOf head a → is_seq_of head a.seq ≡ true
seq_fits None a h = refl
seq_fits (Some head) a h = eq-eqb _ _ h.1

time_fits : (head : Option Head) (a : Authenticator) → SpeaksOf head a → is_time_of head a.time ≡ true
time_fits None a h = refl
time_fits (Some head) a h = eq-eqb _ _ h.2

-- ---- what was taken, part by part

joined : (a : Authenticator) (s s1 s2 s3 new : Spot) → Takes s (number_text 4 a.asn) s1 → Takes s1 (number_text 8 a.seq) s2 → Takes s2 (number_text 8 a.time) s3
    → Takes s3 (a.hash ++ signature a.sig) new → Takes s (authenticator a) new
unfolding number_text
joined a s s1 s2 s3 new t0 t1 t2 t3 =
    let r2 = Takes-then s2 (big_bytes 8 a.time) s3 (a.hash ++ signature a.sig) new t2 t3 in
    let r1 = Takes-then s1 (big_bytes 8 a.seq) s2 (big_bytes 8 a.time ++ (a.hash ++ signature a.sig)) new t1 r2 in
    let r0 = Takes-then s (big_bytes 4 a.asn) s1 (big_bytes 8 a.seq ++ (big_bytes 8 a.time ++ (a.hash ++ signature a.sig))) new t0 r1 in
    let grouped : big_bytes 4 a.asn ++ (big_bytes 8 a.seq ++ (big_bytes 8 a.time ++ (a.hash ++ signature a.sig))) ≡ authenticator a = simp append_assoc in
    subst (λ (t : List ℕ). Takes s t new) grouped r0

-- what stands after the time
record IsSigned (asn seq time : ℕ) (s : Spot) (v : Authenticator) (new : Spot) : Type 0 where
  pub hash : length v.hash ≡ digest_size
  pub sig : IsSignature v.sig
  pub asn_is : asn ≡ v.asn
  pub seq_is : seq ≡ v.seq
  pub time_is : time ≡ v.time
  pub takes : Takes s (v.hash ++ signature v.sig) new

signed_takes : (asn seq time : ℕ) (s : Spot) (v : Authenticator) (new : Spot) → IsBytes s.rest
    → (bytes_at digest_size s >>= λ hash. signature_at hash.1 >>= λ sig. let read : Authenticator × Spot = (record { asn = asn; seq = seq; time = time; hash = hash.0; sig = sig.0 }, sig.1) in Ok read) ≡ Ok (v, new)
    → IsSigned asn seq time s v new
signed_takes asn seq time s v new fits e =
    let d = bytes_step digest_size s _ (v, new) fits e in
    let g = step signature_at IsSignature signature signature_takes d.next _ (v, new) d.takes.rest_fits d.goes_on in
    let made : Authenticator = record { asn = asn; seq = seq; time = time; hash = d.value; sig = g.value } in
    let dg = Takes-then s d.value d.next (signature g.value) g.next d.takes g.takes in
    subst (λ (p : Authenticator × Spot). IsSigned asn seq time s p.0 p.1) (ok_is (made, g.next) (v, new) g.goes_on)
    (record { hash = d.value_fits; sig = g.value_fits; asn_is = refl; seq_is = refl; time_is = refl; takes = dg })

pub wanted_takes : (head : Option Head) → ReadsSpelled (wanted_at head) (IsWanted head) authenticator
unfolding wanted_at
wanted_takes head s v new fits e =
    let a = text_step 4 s _ (v, new) fits e in
    let a_is = wants_step (is_asn_of head a.value) s.at (a.value, a.next) _ (v, new) a.goes_on in
    let b = text_step 8 a.next _ (v, new) a.takes.rest_fits a_is.1 in
    let b_is = wants_step (is_seq_of head b.value) a.next.at (b.value, b.next) _ (v, new) b.goes_on in
    let c = text_step 8 b.next _ (v, new) b.takes.rest_fits b_is.1 in
    let c_is = wants_step (is_time_of head c.value) b.next.at (c.value, c.next) _ (v, new) c.goes_on in
    let d = signed_takes a.value b.value c.value c.next v new c.takes.rest_fits c_is.1 in
    let asn = subst (λ (n : ℕ). (n < 256 ^ 4) × (is_asn_of head n ≡ true) × Takes s (number_text 4 n) a.next) d.asn_is (a.value_fits, a_is.0, a.takes) in
    let seq = subst (λ (n : ℕ). (n < 256 ^ 8) × (is_seq_of head n ≡ true) × Takes a.next (number_text 8 n) b.next) d.seq_is (b.value_fits, b_is.0, b.takes) in
    let time = subst (λ (n : ℕ). (n < 256 ^ 8) × (is_time_of head n ≡ true) × Takes b.next (number_text 8 n) c.next) d.time_is (c.value_fits, c_is.0, c.takes) in (
      record { is_one = record { asn = asn.0; seq = seq.0; time = time.0; hash = d.hash; sig = d.sig }; speaks = speaks head v asn.1 seq.1 time.1 },
      joined v s a.next b.next c.next new asn.2 seq.2 time.2 d.takes,
    )

pub wanted_again : (head : Option Head) → SpelledReads (wanted_at head) (IsWanted head) authenticator
unfolding wanted_at
wanted_again head v at rest fits =
    let sig = signature v.sig in
    let r3 = v.hash ++ (sig ++ rest) in
    let r2 = big_bytes 8 v.time ++ r3 in
    let r1 = big_bytes 8 v.seq ++ r2 in
    let spelled : authenticator v ++ rest ≡ big_bytes 4 v.asn ++ r1 = simp append_assoc in
    let a0 = at + length (big_bytes 4 v.asn) in
    let a1 = a0 + length (big_bytes 8 v.seq) in
    let a2 = a1 + length (big_bytes 8 v.time) in
    let a3 = a2 + length v.hash in
    let a4 = a3 + length sig in
    let places : a4 ≡ at + length (authenticator v) = simp length-append (omega arith) in
    let asn = number_again 4 v.asn at r1 fits.is_one.asn in
    let asn_is = asn_fits head v fits.speaks in
    let seq = number_again 8 v.seq a0 r2 fits.is_one.seq in
    let seq_is = seq_fits head v fits.speaks in
    let time = number_again 8 v.time a1 r3 fits.is_one.time in
    let time_is = time_fits head v fits.speaks in
    let hash = bytes_again digest_size v.hash a2 (sig ++ rest) fits.is_one.hash in
    let signed = signature_again v.sig a3 rest fits.is_one.sig in
    let end : Spot = record { at = a4; rest = rest } in
    let whole : wanted_at head (record { at = at; rest = big_bytes 4 v.asn ++ r1 }) ≡ Ok (v, end) =
    reads_then _ _ _ _ asn (wants_then (is_asn_of head v.asn) at _ _ _ asn_is
    (reads_then _ _ _ _ seq (wants_then (is_seq_of head v.seq) a0 _ _ _ seq_is
    (reads_then _ _ _ _ time (wants_then (is_time_of head v.time) a1 _ _ _ time_is
    (reads_then _ _ _ _ hash (reads_then _ _ _ _ signed refl))))))) in
    ap (λ (t : List ℕ). wanted_at head (record { at = at; rest = t })) spelled ∙ whole ∙ ap (λ (k : ℕ). Ok (v, record { at = k; rest = rest })) places

pub authenticator_takes : ReadsSpelled authenticator_at IsAuthenticator authenticator
authenticator_takes s v new fits e = let t = wanted_takes None s v new fits e in (t.0.is_one, t.1)

pub authenticator_again : SpelledReads authenticator_at IsAuthenticator authenticator
authenticator_again v at rest fits = wanted_again None v at rest (record { is_one = fits; speaks = tt })
