-- A record that is spelled is read again.
use Rattle.std.proofs.Common.{◌≡◌, ℕ, ◌+◌, ◌*◌, ◌/◌, ◌%◌, ◌^◌, ◌<◌, ◌≤◌, Bool, true, false, List, ◌++◌, length, Result, Ok, refl, ap, ◌∙◌, arith}
use Rattle.std.specs.Prelude.{if◌then◌else◌}
use Rattle.byteorder.specs.Endian.{big_bytes}
use Rattle.nr_spec_wire.specs.Reading.{Read, number_at, part_at}
use Rattle.nr_spec_bgp.specs.Records.{Item, Carries, Ends, is_as4, is_own, peer_at, addresses_at, heard_at, session_at, item_at, record_at, session_bytes, body_bytes, record_bytes}
use Rattle.nr_spec_bgp.proofs.Back.{spot, then_back, number_back, part_back}
use Rattle.nr_mrt.specs.Writing.{AreEnds, ReadsBack}
use Rattle.nr_mrt.proofs.Lengths.{length_body}

-- the subtype of a message, received or sent
abbrev subtype_of : Bool → ℕ
subtype_of sent = if sent then 7 else 4

peer_back : (e : Ends) → AreEnds e → (at : ℕ) (more : List ℕ)
    → peer_at true (spot at (big_bytes 4 e.peer_as ++ (big_bytes 4 e.own_as ++ (big_bytes 2 0 ++ (big_bytes 2 1 ++ more))))) ≡ Ok (record { asn = e.peer_as; family = 1 }, spot (at + 4 + 4 + 2 + 2) more)
unfolding peer_at
peer_back e h at more =
    let d = big_bytes 2 1 ++ more in
    let c = big_bytes 2 0 ++ d in
    let b = big_bytes 4 e.own_as ++ c in
    then_back (number_at 4 (spot at (big_bytes 4 e.peer_as ++ b))) _ (e.peer_as, spot (at + 4) b) _ (number_back 4 e.peer_as at b h.peer_as)
    (then_back (number_at 4 (spot (at + 4) b)) _ (e.own_as, spot (at + 4 + 4) c) _ (number_back 4 e.own_as (at + 4) c h.own_as)
    (then_back (number_at 2 (spot (at + 4 + 4) c)) _ (0, spot (at + 4 + 4 + 2) d) _ (number_back 2 0 (at + 4 + 4) d (omega arith))
    (then_back (number_at 2 (spot (at + 4 + 4 + 2) d)) _ (1, spot (at + 4 + 4 + 2 + 2) more) _ (number_back 2 1 (at + 4 + 4 + 2) more (omega arith)) refl)))

heard_back : (sent : Bool) (time : ℕ) (e : Ends) → AreEnds e → (at : ℕ) (raw : List ℕ)
    → heard_at (subtype_of sent) time e.peer_as (spot at (big_bytes 4 e.peer ++ (big_bytes 4 e.own ++ raw))) ≡ Ok (Carries (record { time = time; peer_as = e.peer_as; peer = e.peer; own = is_own (subtype_of sent); as4 = is_as4 (subtype_of sent); raw = raw }))
unfolding heard_at
heard_back sent time e h at raw =
    let b = big_bytes 4 e.own ++ raw in
    let s = spot at (big_bytes 4 e.peer ++ b) in
    let both : addresses_at s ≡ Ok (e.peer, spot (at + 4 + 4) raw) =
    then_back (number_at 4 s) _ (e.peer, spot (at + 4) b) _ (number_back 4 e.peer at b h.peer)
    (then_back (number_at 4 (spot (at + 4) b)) _ (e.own, spot (at + 4 + 4) raw) _ (number_back 4 e.own (at + 4) raw h.own) refl) in
    then_back (addresses_at s) _ (e.peer, spot (at + 4 + 4) raw) _ both refl

session_back : (sent : Bool) (seconds micros time : ℕ) → seconds * 1000000 + micros ≡ time → micros < 2 ^ 32 → (e : Ends) → AreEnds e → (at : ℕ) (raw : List ℕ)
    → item_at seconds 17 (subtype_of sent) (spot at (body_bytes micros e raw)) ≡ Ok (Carries (record { time = time; peer_as = e.peer_as; peer = e.peer; own = sent; as4 = true; raw = raw }))
unfolding session_at body_bytes session_bytes
session_back true seconds micros time is small e h at raw =
    let c = big_bytes 4 e.peer ++ (big_bytes 4 e.own ++ raw) in
    let b = big_bytes 4 e.peer_as ++ (big_bytes 4 e.own_as ++ (big_bytes 2 0 ++ (big_bytes 2 1 ++ c))) in
    then_back (number_at 4 (spot at (big_bytes 4 micros ++ b))) _ (micros, spot (at + 4) b) _ (number_back 4 micros at b small)
    (then_back (peer_at true (spot (at + 4) b)) _ (record { asn = e.peer_as; family = 1 }, spot (at + 4 + 4 + 4 + 2 + 2) c) _ (peer_back e h (at + 4) c)
    (heard_back true (seconds * 1000000 + micros) e h (at + 4 + 4 + 4 + 2 + 2) raw
    ∙ ap (λ (t : ℕ). let r : Result Item ℕ = Ok (Carries (record { time = t; peer_as = e.peer_as; peer = e.peer; own = true; as4 = true; raw = raw })) in r) is))
session_back false seconds micros time is small e h at raw =
    let c = big_bytes 4 e.peer ++ (big_bytes 4 e.own ++ raw) in
    let b = big_bytes 4 e.peer_as ++ (big_bytes 4 e.own_as ++ (big_bytes 2 0 ++ (big_bytes 2 1 ++ c))) in
    then_back (number_at 4 (spot at (big_bytes 4 micros ++ b))) _ (micros, spot (at + 4) b) _ (number_back 4 micros at b small)
    (then_back (peer_at true (spot (at + 4) b)) _ (record { asn = e.peer_as; family = 1 }, spot (at + 4 + 4 + 4 + 2 + 2) c) _ (peer_back e h (at + 4) c)
    (heard_back false (seconds * 1000000 + micros) e h (at + 4 + 4 + 4 + 2 + 2) raw
    ∙ ap (λ (t : ℕ). let r : Result Item ℕ = Ok (Carries (record { time = t; peer_as = e.peer_as; peer = e.peer; own = false; as4 = true; raw = raw })) in r) is))

subtype_small : (sent : Bool) → subtype_of sent < 256 ^ 2
subtype_small true = omega arith
subtype_small false = omega arith

-- a record, whatever stands after it
record_back : (time : ℕ) (sent : Bool) (e : Ends) (raw : List ℕ) → time < 2 ^ 32 * 1000000 → length raw ≤ 65535 → AreEnds e → (at : ℕ) (more : List ℕ)
    → record_at (spot at (record_bytes time sent e raw ++ more)) ≡ Ok (Carries (record { time = time; peer_as = e.peer_as; peer = e.peer; own = sent; as4 = true; raw = raw }), spot (at + 4 + 2 + 2 + 4 + (24 + length raw)) more)
unfolding record_at
record_back time sent e raw ht hr h at more =
    let seconds = time / 1000000 in
    let micros = time % 1000000 in
    let body = body_bytes micros e raw in
    let len : length body ≡ 24 + length raw = length_body micros e raw in
    let d = body ++ more in
    let c = big_bytes 4 (length body) ++ d in
    let b = big_bytes 2 (subtype_of sent) ++ c in
    let a = big_bytes 2 17 ++ b in
    let at-body = at + 4 + 2 + 2 + 4 in
    then_back (number_at 4 (spot at (big_bytes 4 seconds ++ a))) _ (seconds, spot (at + 4) a) _ (number_back 4 seconds at a (omega arith))
    (then_back (number_at 2 (spot (at + 4) a)) _ (17, spot (at + 4 + 2) b) _ (number_back 2 17 (at + 4) b (omega arith))
    (then_back (number_at 2 (spot (at + 4 + 2) b)) _ (subtype_of sent, spot (at + 4 + 2 + 2) c) _ (number_back 2 (subtype_of sent) (at + 4 + 2) c (subtype_small sent))
    (then_back (number_at 4 (spot (at + 4 + 2 + 2) c)) _ (length body, spot at-body d) _ (number_back 4 (length body) (at + 4 + 2 + 2) d (omega arith))
    (then_back (part_at (length body) (spot at-body d)) _ (spot at-body body, spot (at-body + length body) more) _ (part_back (length body) at-body body more refl)
    (then_back (item_at seconds 17 (subtype_of sent) (spot at-body body)) _ (Carries (record { time = time; peer_as = e.peer_as; peer = e.peer; own = sent; as4 = true; raw = raw })) _ (session_back sent seconds micros time (omega arith) (omega arith) e h at-body raw)
    (ap (λ (n : ℕ). let r : Read Item = Ok (Carries (record { time = time; peer_as = e.peer_as; peer = e.peer; own = sent; as4 = true; raw = raw }), spot (at-body + n) more) in r) len))))))

pub record_reads_back : (time : ℕ) (sent : Bool) (e : Ends) (raw : List ℕ) → time < 2 ^ 32 * 1000000 → length raw ≤ 65535 → AreEnds e → ReadsBack time sent e raw (record_bytes time sent e raw)
record_reads_back time sent e raw ht hr h = λ at more.
    let bytes = record_bytes time sent e raw in
    let len : at + 4 + 2 + 2 + 4 + (24 + length raw) ≡ at + length bytes = omega (arith, length_body (time % 1000000) e raw) in
    record_back time sent e raw ht hr h at more
    ∙ ap (λ (n : ℕ). let r : Read Item = Ok (Carries (record { time = time; peer_as = e.peer_as; peer = e.peer; own = sent; as4 = true; raw = raw }), spot n more) in r) len
