-- The entries that contents make.
use Rattle.std.proofs.Common.{◌/◌, ◌%◌, ◌≡◌, ℕ, zero, suc, ◌+◌, ◌^◌, ◌<◌, ◌≤◌, ◌⊎◌, inl, inr, Bool, true, false, List, [], ◌∷◌, ◌++◌, length, length-append, Option, Some, None, refl, sym, ap, subst, ◌∙◌, arith}
use Rattle.std.specs.Int.{byte_at, bytes_high_first}
use Rattle.byteorder.specs.Endian.{big_bytes}
use Rattle.byteorder.specs.Numbers.{length-bytes_high_first}
use Rattle.nr_spec_wire.specs.Reading.{IsBytes}
use Rattle.nr_spec_log.specs.Chain.{LogEntry}
use Rattle.nr_spec_log.specs.Authenticator.{digest_size}
use Rattle.nr_spec_log.specs.Answer.{IsEntry}
use Rattle.nr_laws_log.proofs.Fields.{number_text}
use Rattle.nr_spec_entry.specs.Contents.{Ack, Checkpoint, Commit, Content, IsContent, Promise, Recv, Send, State, auditor, content_bytes, exchange_bytes, flag, kind_of, most_delay, most_neighbours}
use Rattle.nr_spec_entry.specs.ContentReading.{content_of}
use Rattle.nr_laws_entry.specs.Fits.{FitsEntry, HasBytes, IsShort, made, most_message}
use Rattle.nr_laws_entry.proofs.Spelled.{content_again}
use Rattle.nr_laws_entry.proofs.Found.{content_found}

-- ---- sizes, over texts of which only the length is known

sum2 : (a b : List ℕ) (m n : ℕ) → length a ≡ m → length b ≡ n → length (a ++ b) ≡ m + n
sum2 a b m n p q = let h = length-append a b in omega (arith, h, p, q)

big_size : (k n : ℕ) → length (big_bytes k n) ≡ k
big_size k n = length-bytes_high_first k n

exchange_size : (n : ℕ) (as4 : Bool) (raw : List ℕ) → length (exchange_bytes n as4 raw) ≡ 3 + length raw
exchange_size n as4 raw =
    let size : length (big_bytes 2 n ++ (big_bytes 1 (flag as4) ++ raw)) ≡ 2 + (1 + length raw) = sum2 (big_bytes 2 n) (big_bytes 1 (flag as4) ++ raw) 2 (1 + length raw) (big_size 2 n) (sum2 (big_bytes 1 (flag as4)) raw 1 (length raw) (big_size 1 (flag as4)) refl) in
    omega (arith, size)

ack_size : (n upto seq time : ℕ) (hash sig : List ℕ) → length hash ≡ 32 → length sig ≡ 32 → length (content_bytes (Ack n upto seq time hash sig)) ≡ 90
ack_size n upto seq time hash sig h g =
    let t4 = hash ++ sig in
    let t3 = big_bytes 8 time ++ t4 in
    let t2 = big_bytes 8 seq ++ t3 in
    let t1 = big_bytes 8 upto ++ t2 in
    sum2 (big_bytes 2 n) t1 2 88 (big_size 2 n) (sum2 (big_bytes 8 upto) t2 8 80 (big_size 8 upto) (sum2 (big_bytes 8 seq) t3 8 72 (big_size 8 seq)
    (sum2 (big_bytes 8 time) t4 8 64 (big_size 8 time) (sum2 hash sig 32 32 h g))))

promise_size : (file : List ℕ) (count delay : ℕ) → length file ≡ 32 → length (content_bytes (Promise file count delay)) ≡ 38
promise_size file count delay h =
    sum2 file (big_bytes 2 count ++ big_bytes 4 delay) 32 6 h (sum2 (big_bytes 2 count) (big_bytes 4 delay) 2 4 (big_size 2 count) (big_size 4 delay))

content_size : (c : Content) → FitsEntry c → length (content_bytes c) < 2 ^ 16
content_size (Send n as4 raw) h = let s = exchange_size n as4 raw in let m = h.short in omega (arith, s, m)
content_size (Recv n as4 raw) h = let s = exchange_size n as4 raw in let m = h.short in omega (arith, s, m)
content_size (State n old new) h = omega arith
content_size (Ack n upto seq time hash sig) h = let s = ack_size n upto seq time hash sig h.ranges.4 h.ranges.5 in omega (arith, s)
content_size (Commit n leaf) h = omega arith
content_size (Checkpoint body) h = let s = h.ranges in omega (arith, s)
content_size (Promise file count delay) h = let s = promise_size file count delay h.ranges.0 in omega (arith, s)

kind_size : (c : Content) → kind_of c < 256
kind_size (Send n as4 raw) = omega arith
kind_size (Recv n as4 raw) = omega arith
kind_size (State n old new) = omega arith
kind_size (Ack n upto seq time hash sig) = omega arith
kind_size (Commit n leaf) = omega arith
kind_size (Checkpoint body) = omega arith
kind_size (Promise file count delay) = omega arith

pub makes_entry : (time : ℕ) (c : Content) → time < 2 ^ 64 → FitsEntry c → IsEntry (made time c)
makes_entry time c lt h = record { time = lt; kind = kind_size c; content = content_size c h }

pub makes_content : (time : ℕ) (c : Content) → FitsEntry c → content_of (made time c) ≡ Some c
makes_content time c h = content_again c h.ranges

-- ---- bytes

bytes_tail : (b : ℕ) (xs : List ℕ) → IsBytes (b ∷ xs) → IsBytes xs
bytes_tail b xs h i = h (suc i)

join : (xs ys : List ℕ) → IsBytes xs → IsBytes ys → IsBytes (xs ++ ys)
join [] ys h k i = k i
join (x ∷ xs) ys h k zero = h 0
join (x ∷ xs) ys h k (suc i) = join xs ys (bytes_tail x xs h) k i

nothing : IsBytes []
nothing i = omega arith

low_byte : (k n : ℕ) → byte_at k n < 256
low_byte zero n = omega arith
low_byte (suc k) n = below (n / 256 ^ suc k)
  where
    below : (m : ℕ) → m % 256 < 256
    below m = omega arith

number : (k n : ℕ) → IsBytes (bytes_high_first k n)
number zero n i = omega arith
number (suc k) n zero = low_byte k n
number (suc k) n (suc i) = number k n i

exchange : (n : ℕ) (as4 : Bool) (raw : List ℕ) → IsBytes raw → IsBytes (exchange_bytes n as4 raw)
exchange n as4 raw h = join (big_bytes 2 n) (big_bytes 1 (flag as4) ++ raw) (number 2 n) (join (big_bytes 1 (flag as4)) raw (number 1 (flag as4)) h)

content : (c : Content) → HasBytes c → IsBytes (content_bytes c)
content (Send n as4 raw) h = exchange n as4 raw h
content (Recv n as4 raw) h = exchange n as4 raw h
content (State n old new) h = join (big_bytes 2 n) (big_bytes 2 old ++ big_bytes 2 new) (number 2 n) (join (big_bytes 2 old) (big_bytes 2 new) (number 2 old) (number 2 new))
content (Ack n upto seq time hash sig) h =
    let t4 = hash ++ sig in
    let t3 = big_bytes 8 time ++ t4 in
    let t2 = big_bytes 8 seq ++ t3 in
    let t1 = big_bytes 8 upto ++ t2 in
    join (big_bytes 2 n) t1 (number 2 n) (join (big_bytes 8 upto) t2 (number 8 upto) (join (big_bytes 8 seq) t3 (number 8 seq)
    (join (big_bytes 8 time) t4 (number 8 time) (join hash sig h.0 h.1))))
content (Commit n leaf) h = join (big_bytes 2 n) (big_bytes 4 leaf) (number 2 n) (number 4 leaf)
content (Checkpoint body) h = h
content (Promise file count delay) h = join file (big_bytes 2 count ++ big_bytes 4 delay) h (join (big_bytes 2 count) (big_bytes 4 delay) (number 2 count) (number 4 delay))

pub makes_bytes : (time : ℕ) (c : Content) → FitsEntry c → IsBytes (content_bytes c)
makes_bytes time c h = content c h.bytes

-- ---- from an entry

short : (c : Content) → length (content_bytes c) < 2 ^ 16 → IsShort c
short (Send n as4 raw) lt = let s = exchange_size n as4 raw in omega (arith, s, lt)
short (Recv n as4 raw) lt = let s = exchange_size n as4 raw in omega (arith, s, lt)
short (State n old new) lt = tt
short (Ack n upto seq time hash sig) lt = tt
short (Commit n leaf) lt = tt
short (Checkpoint body) lt = tt
short (Promise file count delay) lt = tt

pub entry_fits : (e : LogEntry) (c : Content) → IsEntry e → IsBytes e.content → content_of e ≡ Some c → FitsEntry c
entry_fits e c is fits h =
    let f = content_found e.kind e.content c fits h in
    record { ranges = f.2; bytes = f.3; short = short c (subst (λ (t : List ℕ). length t < 2 ^ 16) f.1 is.content) }

pub entry_made : (e : LogEntry) (c : Content) → IsBytes e.content → content_of e ≡ Some c → e ≡ made e.time c
entry_made e c fits h =
    let f = content_found e.kind e.content c fits h in
    λ i. record { time = e.time; kind = f.0 i; content = f.1 i }
