-- The entries of an answer that is read can be stated.
use Rattle.std.proofs.Common.{◌≡◌, ℕ, zero, suc, List, [], ◌∷◌, ◌++◌, length, subst, arith}
use Rattle.std.specs.List.{flat_map}
use Rattle.byteorder.specs.Endian.{big_bytes}
use Rattle.nr_spec_wire.specs.Reading.{IsBytes}
use Rattle.nr_spec_log.specs.Chain.{LogEntry}
use Rattle.nr_spec_log.specs.Authenticator.{authenticator}
use Rattle.nr_spec_log.specs.Answer.{AnswerFile, AreEntriesFrom, IsAnswer, answer_file, answer_magic, body_field, entry}
use Rattle.nr_spec_bounds.specs.Bounds.{AreStated}

-- ---- parts of bytes are bytes

bytes_tail : (b : ℕ) (xs : List ℕ) → IsBytes (b ∷ xs) → IsBytes xs
bytes_tail b xs h i = h (suc i)

bytes_right : (xs ys : List ℕ) → IsBytes (xs ++ ys) → IsBytes ys
bytes_right [] ys h = h
bytes_right (x ∷ xs) ys h = bytes_right xs ys (bytes_tail x (xs ++ ys) h)

bytes_left : (xs ys : List ℕ) → IsBytes (xs ++ ys) → IsBytes xs
bytes_left [] ys h i = omega arith
bytes_left (x ∷ xs) ys h zero = h 0
bytes_left (x ∷ xs) ys h (suc i) = bytes_left xs ys (bytes_tail x (xs ++ ys) h) i

-- ---- entries

content_bytes : (e : LogEntry) → IsBytes (entry e) → IsBytes e.content
content_bytes e h =
    let sized = big_bytes 2 (length e.content) ++ e.content in
    bytes_right (big_bytes 2 (length e.content)) e.content (bytes_right (big_bytes 1 e.kind) sized (bytes_right (big_bytes 8 e.time) (big_bytes 1 e.kind ++ sized) h))

entries_stated : (last : ℕ) (es : List LogEntry) → AreEntriesFrom last es → IsBytes (flat_map entry es) → AreStated es
entries_stated last [] fit bytes = tt
entries_stated last (e ∷ es) fit bytes =
    let later = flat_map entry es in
    (record { time = fit.0.time; content = content_bytes e (bytes_left (entry e) later bytes) }, entries_stated e.time es fit.2 (bytes_right (entry e) later bytes))

pub answer_stated : (bytes : List ℕ) (a : AnswerFile) → IsBytes bytes → IsAnswer a × (bytes ≡ answer_file a) → AreStated a.entries
answer_stated bytes a fits found =
    let r6 = flat_map entry a.entries ++ authenticator a.head in
    let r5 = big_bytes 4 (length a.entries) ++ r6 in
    let r4 = body_field a.body ++ r5 in
    let r3 = a.prev ++ r4 in
    let r2 = big_bytes 8 a.first ++ r3 in
    let r1 = big_bytes 4 a.asn ++ r2 in
    let f1 = bytes_right answer_magic r1 (subst IsBytes found.1 fits) in
    let f4 = bytes_right a.prev r4 (bytes_right (big_bytes 8 a.first) r3 (bytes_right (big_bytes 4 a.asn) r2 f1)) in
    let f6 = bytes_right (big_bytes 4 (length a.entries)) r6 (bytes_right (body_field a.body) r5 f4) in
    entries_stated 0 a.entries found.0.entries (bytes_left (flat_map entry a.entries) (authenticator a.head) f6)
