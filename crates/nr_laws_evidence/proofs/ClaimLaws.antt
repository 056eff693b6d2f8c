-- Claims.
use Rattle.std.proofs.Common.{◌≡◌, ℕ, zero, suc, ◌+◌, ◌-◌, ◌*◌, ◌/◌, ◌^◌, ◌<◌, ◌≤◌, Bool, true, false, cond, eqb, leb, ◌&&◌, List, [], ◌∷◌, ◌++◌, length, Ok, refl, sym, ap, subst, ◌∙◌, append_assoc, arith, ◌⊎◌, inl, inr, pow_pos, div-mul-le_self, mul-div_cancel, lit<}
use Rattle.std.specs.List.{flat_map, AllByRecursion}
use Rattle.std.proofs.lemmas.Bool.{eqb-true, eq-eqb, leb-true, le-leb}
use Rattle.std.proofs.lemmas.List.{length-append, append-nil}
use Rattle.std.proofs.lemmas.List.Concat.{flat_map-cons}
use Rattle.byteorder.specs.Endian.{big_bytes}
use Rattle.nr_spec_wire.specs.Reading.{Spot, IsBytes}
use Rattle.nr_spec_wire.proofs.Steps.{ok_is}
use Rattle.nr_spec_bgp.specs.Prefixes.{Cidr, IsCidr, masked}
use Rattle.nr_spec_log.specs.Authenticator.{Authenticator, IsAuthenticator, authenticator, authenticator_at}
use Rattle.nr_spec_report.specs.Claims.{Claim, Conflict, Wrong, Broken}
use Rattle.nr_spec_evidence.specs.Counted.{counted_at}
use Rattle.nr_spec_evidence.specs.Evidence.{IsClaim, claim_at, claim_bytes, conflict_at, wrong_at, broken_at, most_cause}
use Rattle.nr_laws_log.specs.Laws.{Takes, ReadsSpelled, SpelledReads}
use Rattle.nr_laws_log.proofs.Fields.{Takes-then, step, number_step, number_again, wants_step, reads_then, wants_then}
use Rattle.nr_laws_log.proofs.AuthenticatorLaws.{authenticator_takes, authenticator_again}
use Rattle.nr_laws_evidence.specs.Laws.{AreClaims}

by_test : {A : Type 0} (test : Bool) (x y z : A) → cond test x y ≡ z → ((test ≡ true) × (x ≡ z)) ⊎ ((test ≡ false) × (y ≡ z))
by_test true x y z e = inl (refl, e)
by_test false x y z e = inr (refl, e)

and_left : (a b : Bool) → a && b ≡ true → a ≡ true
and_left true b h = refl
and_left false b h = absurd cc

and_right : (a b : Bool) → a && b ≡ true → b ≡ true
and_right true b h = h
and_right false b h = absurd cc

-- what is read behind a tag, with the spelling of the tag before it
abbrev Behind : ℕ → Spot → Claim × Spot → Type 0
Behind tag s p = IsClaim p.0 × ((before : Spot) → Takes before (big_bytes 1 tag) s → Takes before (claim_bytes p.0) p.1)

conflict_takes : (s : Spot) (v : Claim) (new : Spot) → IsBytes s.rest → conflict_at s ≡ Ok (v, new) → Behind 1 s (v, new)
unfolding conflict_at
conflict_takes s v new fits e =
    let a = step authenticator_at IsAuthenticator authenticator authenticator_takes s _ (v, new) fits e in
    subst (Behind 1 s) (ok_is (Conflict a.value, a.next) (v, new) a.goes_on)
    (a.value_fits, λ before tag. Takes-then before (big_bytes 1 1) s (authenticator a.value) a.next tag a.takes)

wrong_takes : (s : Spot) (v : Claim) (new : Spot) → IsBytes s.rest → wrong_at s ≡ Ok (v, new) → Behind 2 s (v, new)
unfolding wrong_at
wrong_takes s v new fits e =
    let a = number_step 8 s _ (v, new) fits e in
    let b = number_step 1 a.next _ (v, new) a.takes.rest_fits a.goes_on in
    let is = wants_step (leb 1 b.value && leb b.value most_cause) a.next.at (b.value, b.next) _ (v, new) b.goes_on in
    let ab = Takes-then s (big_bytes 8 a.value) a.next (big_bytes 1 b.value) b.next a.takes b.takes in
    let low : 1 ≤ b.value = leb-true _ _ (and_left _ _ is.0) in
    let high : b.value ≤ 8 = leb-true _ _ (and_right _ _ is.0) in
    let big : a.value < 2 ^ 64 = a.value_fits in
    subst (Behind 2 s) (ok_is (Wrong a.value b.value, b.next) (v, new) is.1)
    ((big, low, high), λ before tag. Takes-then before (big_bytes 1 2) s (big_bytes 8 a.value ++ big_bytes 1 b.value) b.next tag ab)

masked_fits : (addr len : ℕ) → addr < 2 ^ 32 → len ≤ 32 → IsCidr (masked addr len)
masked_fits addr len a l =
    let step = 2 ^ (32 - len) in
    let some : zero < step = pow_pos (32 - len) in
    record {
      len = l;
      addr = omega (arith, div-mul-le_self addr step);
      clear = ap (λ (n : ℕ). n * step) (mul-div_cancel (addr / step) some);
    }

broken_takes : (s : Spot) (v : Claim) (new : Spot) → IsBytes s.rest → broken_at s ≡ Ok (v, new) → Behind 3 s (v, new)
unfolding broken_at
broken_takes s v new fits e =
    let a = number_step 2 s _ (v, new) fits e in
    let b = number_step 1 a.next _ (v, new) a.takes.rest_fits a.goes_on in
    let len_is = wants_step (leb b.value 32) a.next.at (b.value, b.next) _ (v, new) b.goes_on in
    let d = number_step 4 b.next _ (v, new) b.takes.rest_fits len_is.1 in
    let addr_is = wants_step (eqb (masked d.value b.value).addr d.value) b.next.at (d.value, d.next) _ (v, new) d.goes_on in
    let f = number_step 8 d.next _ (v, new) d.takes.rest_fits addr_is.1 in
    let g = number_step 8 f.next _ (v, new) f.takes.rest_fits f.goes_on in
    let p : Cidr = masked d.value b.value in
    let same : p.addr ≡ d.value = eqb-true _ _ addr_is.0 in
    let fg = Takes-then d.next (big_bytes 8 f.value) f.next (big_bytes 8 g.value) g.next f.takes g.takes in
    let dg = Takes-then b.next (big_bytes 4 d.value) d.next (big_bytes 8 f.value ++ big_bytes 8 g.value) g.next d.takes fg in
    let bg = Takes-then a.next (big_bytes 1 b.value) b.next (big_bytes 4 d.value ++ (big_bytes 8 f.value ++ big_bytes 8 g.value)) g.next b.takes dg in
    let ag = Takes-then s (big_bytes 2 a.value) a.next (big_bytes 1 b.value ++ (big_bytes 4 d.value ++ (big_bytes 8 f.value ++ big_bytes 8 g.value))) g.next a.takes bg in
    let whole : Takes s (big_bytes 2 a.value ++ (big_bytes 1 b.value ++ (big_bytes 4 p.addr ++ (big_bytes 8 f.value ++ big_bytes 8 g.value)))) g.next
    = subst (λ (n : ℕ). Takes s (big_bytes 2 a.value ++ (big_bytes 1 b.value ++ (big_bytes 4 n ++ (big_bytes 8 f.value ++ big_bytes 8 g.value)))) g.next) (sym same) ag in
    let small : a.value < 2 ^ 16 = a.value_fits in
    let begin : f.value < 2 ^ 64 = f.value_fits in
    let end : g.value < 2 ^ 64 = g.value_fits in
    let addr : d.value < 2 ^ 32 = d.value_fits in
    subst (Behind 3 s) (ok_is (Broken 0 a.value p f.value g.value, g.next) (v, new) g.goes_on) (
      (refl, small, masked_fits d.value b.value addr (leb-true _ _ len_is.0), begin, end),
      λ before tag. Takes-then before (big_bytes 1 3) s (big_bytes 2 a.value ++ (big_bytes 1 b.value ++ (big_bytes 4 p.addr ++ (big_bytes 8 f.value ++ big_bytes 8 g.value)))) g.next tag whole,
    )

pub claim_takes : ReadsSpelled claim_at IsClaim claim_bytes
unfolding claim_at
claim_takes s v new fits e =
    let a = number_step 1 s _ (v, new) fits e in
    let tagged : (n : ℕ) → eqb a.value n ≡ true → Takes s (big_bytes 1 n) a.next = λ n h. subst (λ (k : ℕ). Takes s (big_bytes 1 k) a.next) (eqb-true _ _ h) a.takes in
    elim (by_test (eqb a.value 1) _ _ _ a.goes_on) [
      | inl one ↦ let w = conflict_takes a.next v new a.takes.rest_fits one.1 in (w.0, w.1 s (tagged 1 one.0))
      | inr other ↦ elim (by_test (eqb a.value 2) _ _ _ other.1) [
        | inl two ↦ let w = wrong_takes a.next v new a.takes.rest_fits two.1 in (w.0, w.1 s (tagged 2 two.0))
        | inr more ↦ elim (by_test (eqb a.value 3) _ _ _ more.1) [
          | inl three ↦ let w = broken_takes a.next v new a.takes.rest_fits three.1 in (w.0, w.1 s (tagged 3 three.0))
          | inr none ↦ absurd cc
        ]
      ]
    ]

-- ---- read again

abbrev spot : ℕ → List ℕ → Spot
spot at rest = record { at = at; rest = rest }

wrong_again : (seq cause at : ℕ) (rest : List ℕ) → IsClaim (Wrong seq cause) → wrong_at (spot at (big_bytes 8 seq ++ (big_bytes 1 cause ++ rest))) ≡ Ok (Wrong seq cause, spot (at + length (big_bytes 8 seq) + length (big_bytes 1 cause)) rest)
unfolding wrong_at
wrong_again seq cause at rest fits =
    let small : cause < 256 ^ 1 = omega (arith, fits.2) in
    let is : (leb 1 cause && leb cause most_cause) ≡ true = rw (le-leb _ _ fits.1, le-leb _ _ fits.2) refl in
    let at1 = at + length (big_bytes 8 seq) in
    reads_then _ _ _ _ (number_again 8 seq at (big_bytes 1 cause ++ rest) fits.0) (reads_then _ _ _ _ (number_again 1 cause at1 rest small)
    (wants_then (leb 1 cause && leb cause most_cause) at1 _ _ _ is refl))

cidr_is : (p : Cidr) → IsCidr p → masked p.addr p.len ≡ p
cidr_is p h = λ i. record { addr = h.clear i; len = p.len }

broken_again : (r : ℕ) (p : Cidr) (begin end at : ℕ) (rest : List ℕ) → IsClaim (Broken 0 r p begin end)
    → broken_at (spot at (big_bytes 2 r ++ (big_bytes 1 p.len ++ (big_bytes 4 p.addr ++ (big_bytes 8 begin ++ (big_bytes 8 end ++ rest))))))
    ≡ Ok (Broken 0 r p begin end, spot (at + length (big_bytes 2 r) + length (big_bytes 1 p.len) + length (big_bytes 4 p.addr) + length (big_bytes 8 begin) + length (big_bytes 8 end)) rest)
unfolding broken_at
broken_again r p begin end at rest fits =
    let short : p.len < 256 ^ 1 = omega (arith, fits.2.len) in
    let at1 = at + length (big_bytes 2 r) in
    let at2 = at1 + length (big_bytes 1 p.len) in
    let at3 = at2 + length (big_bytes 4 p.addr) in
    let at4 = at3 + length (big_bytes 8 begin) in
    let at5 = at4 + length (big_bytes 8 end) in
    let r5 = big_bytes 8 end ++ rest in
    let r4 = big_bytes 8 begin ++ r5 in
    let r3 = big_bytes 4 p.addr ++ r4 in
    let r2 = big_bytes 1 p.len ++ r3 in
    reads_then _ _ _ _ (number_again 2 r at r2 fits.1) (reads_then _ _ _ _ (number_again 1 p.len at1 r3 short)
    (wants_then (leb p.len 32) at1 _ _ _ (le-leb _ _ fits.2.len) (reads_then _ _ _ _ (number_again 4 p.addr at2 r4 fits.2.addr)
    (wants_then (eqb (masked p.addr p.len).addr p.addr) at2 _ _ _ (eq-eqb _ _ fits.2.clear) (reads_then _ _ _ _ (number_again 8 begin at3 r5 fits.3)
    (reads_then _ _ _ _ (number_again 8 end at4 rest fits.4) (ap (λ (q : Cidr). Ok (Broken 0 r q begin end, spot at5 rest)) (cidr_is p fits.2))))))))

conflict_again : (a : Authenticator) (at : ℕ) (rest : List ℕ) → IsAuthenticator a → conflict_at (spot at (authenticator a ++ rest)) ≡ Ok (Conflict a, spot (at + length (authenticator a)) rest)
unfolding conflict_at
conflict_again a at rest fits = reads_then _ _ _ _ (authenticator_again a at rest fits) refl

pub claim_again : SpelledReads claim_at IsClaim claim_bytes
unfolding claim_at
claim_again (Conflict a) at rest fits =
    let at1 = at + length (big_bytes 1 1) in
    let spelled : claim_bytes (Conflict a) ++ rest ≡ big_bytes 1 1 ++ (authenticator a ++ rest) = append_assoc (big_bytes 1 1) (authenticator a) rest in
    let places : at1 + length (authenticator a) ≡ at + length (claim_bytes (Conflict a)) = omega (arith, length-append (big_bytes 1 1) (authenticator a)) in
    let whole : claim_at (spot at (big_bytes 1 1 ++ (authenticator a ++ rest))) ≡ Ok (Conflict a, spot (at1 + length (authenticator a)) rest)
    = reads_then _ _ _ _ (number_again 1 1 at (authenticator a ++ rest) (lit< tt)) (conflict_again a at1 rest fits) in
    ap (λ (t : List ℕ). claim_at (spot at t)) spelled ∙ whole ∙ ap (λ (k : ℕ). Ok (Conflict a, spot k rest)) places
claim_again (Wrong seq cause) at rest fits =
    let at1 = at + length (big_bytes 1 2) in
    let r1 = big_bytes 8 seq ++ (big_bytes 1 cause ++ rest) in
    let end = at1 + length (big_bytes 8 seq) + length (big_bytes 1 cause) in
    let spelled : claim_bytes (Wrong seq cause) ++ rest ≡ big_bytes 1 2 ++ r1 = simp append_assoc in
    let places : end ≡ at + length (claim_bytes (Wrong seq cause)) = simp length-append (omega arith) in
    let whole : claim_at (spot at (big_bytes 1 2 ++ r1)) ≡ Ok (Wrong seq cause, spot end rest) = reads_then _ _ _ _ (number_again 1 2 at r1 (lit< tt)) (wrong_again seq cause at1 rest fits) in
    ap (λ (t : List ℕ). claim_at (spot at t)) spelled ∙ whole ∙ ap (λ (k : ℕ). Ok (Wrong seq cause, spot k rest)) places
claim_again (Broken file r p begin end) at rest fits =
    let at1 = at + length (big_bytes 1 3) in
    let r1 = big_bytes 2 r ++ (big_bytes 1 p.len ++ (big_bytes 4 p.addr ++ (big_bytes 8 begin ++ (big_bytes 8 end ++ rest)))) in
    let last = at1 + length (big_bytes 2 r) + length (big_bytes 1 p.len) + length (big_bytes 4 p.addr) + length (big_bytes 8 begin) + length (big_bytes 8 end) in
    let spelled : claim_bytes (Broken file r p begin end) ++ rest ≡ big_bytes 1 3 ++ r1 = simp append_assoc in
    let places : last ≡ at + length (claim_bytes (Broken file r p begin end)) = simp length-append (omega arith) in
    let whole : claim_at (spot at (big_bytes 1 3 ++ r1)) ≡ Ok (Broken 0 r p begin end, spot last rest) = reads_then _ _ _ _ (number_again 1 3 at r1 (lit< tt)) (broken_again r p begin end at1 rest (refl, fits.1, fits.2, fits.3, fits.4)) in
    ap (λ (t : List ℕ). claim_at (spot at t)) spelled ∙ whole ∙ ap (λ (k : ℕ). Ok (Broken 0 r p begin end, spot k rest)) places
    ∙ ap (λ (n : ℕ). Ok (Broken n r p begin end, spot (at + length (claim_bytes (Broken file r p begin end))) rest)) (sym fits.0)

-- ---- so many of them

pub claims_take : (n : ℕ) → ReadsSpelled (counted_at claim_at n) (AreClaims n) (flat_map claim_bytes)
unfolding counted_at
claims_take zero s v new fits e =
    let nothing : Takes s [] s = record { parts = refl; place = omega arith; rest_fits = fits } in
    subst (λ (p : List Claim × Spot). AreClaims 0 p.0 × Takes s (flat_map claim_bytes p.0) p.1) (ok_is ([], s) (v, new) e) (record { each = tt; as_many = refl }, nothing)
claims_take (suc n) s v new fits e =
    let a = step claim_at IsClaim claim_bytes claim_takes s _ (v, new) fits e in
    let b = step (counted_at claim_at n) (AreClaims n) (flat_map claim_bytes) (claims_take n) a.next _ (v, new) a.takes.rest_fits a.goes_on in
    let both = Takes-then s (claim_bytes a.value) a.next (flat_map claim_bytes b.value) b.next a.takes b.takes in
    let made : List Claim = a.value ∷ b.value in
    let whole : Takes s (flat_map claim_bytes made) b.next = subst (λ (t : List ℕ). Takes s t b.next) (sym (flat_map-cons claim_bytes a.value b.value)) both in
    subst (λ (p : List Claim × Spot). AreClaims (suc n) p.0 × Takes s (flat_map claim_bytes p.0) p.1) (ok_is (made, b.next) (v, new) b.goes_on)
    (record { each = (a.value_fits, b.value_fits.each); as_many = ap suc b.value_fits.as_many }, whole)

again_of : (claims : List Claim) (at : ℕ) (rest : List ℕ) → AllByRecursion IsClaim claims
    → counted_at claim_at (length claims) (record { at = at; rest = flat_map claim_bytes claims ++ rest }) ≡ Ok (claims, record { at = at + length (flat_map claim_bytes claims); rest = rest })
unfolding counted_at
again_of [] at rest fits = ap (λ (k : ℕ). Ok ([], record { at = k; rest = rest })) (omega arith)
again_of (e ∷ es) at rest fits =
    let others = flat_map claim_bytes es in
    let spelled : flat_map claim_bytes (e ∷ es) ++ rest ≡ claim_bytes e ++ (others ++ rest) = ap (λ (t : List ℕ). t ++ rest) (flat_map-cons claim_bytes e es) ∙ append_assoc (claim_bytes e) others rest in
    let places : at + length (claim_bytes e) + length others ≡ at + length (flat_map claim_bytes (e ∷ es)) =
    let split = ap length (flat_map-cons claim_bytes e es) in omega (arith, split, length-append (claim_bytes e) others) in
    let first = claim_again e at (others ++ rest) fits.0 in
    let second = again_of es (at + length (claim_bytes e)) rest fits.1 in
    let end : Spot = record { at = at + length (claim_bytes e) + length others; rest = rest } in
    let whole : counted_at claim_at (suc (length es)) (record { at = at; rest = claim_bytes e ++ (others ++ rest) }) ≡ Ok (e ∷ es, end) =
    reads_then _ _ _ _ first (reads_then _ _ _ _ second refl) in
    ap (λ (t : List ℕ). counted_at claim_at (suc (length es)) (record { at = at; rest = t })) spelled ∙ whole ∙ ap (λ (k : ℕ). Ok (e ∷ es, record { at = k; rest = rest })) places

pub claims_again : (n : ℕ) → SpelledReads (counted_at claim_at n) (AreClaims n) (flat_map claim_bytes)
claims_again n es at rest fits =
    subst (λ (k : ℕ). counted_at claim_at k (record { at = at; rest = flat_map claim_bytes es ++ rest }) ≡ Ok (es, record { at = at + length (flat_map claim_bytes es); rest = rest })) fits.as_many
    (again_of es at rest fits.each)
