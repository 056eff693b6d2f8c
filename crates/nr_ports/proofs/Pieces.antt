-- Reading and writing piece by piece.
use Rattle.nr_ports.specs.declared.fault.WriteFault.{WriteFault}
use Rattle.nr_ports.specs.declared.fault.WriteFault.TheVariants as write
use Rattle.nr_ports.specs.Views.{write_fault_of}
use Rattle.nr_spec_plans.specs.Disk.{Takes, Offers, failing, written}
use Rattle.std.proofs.Common.{inl, inr}
use Rattle.std.proofs.lemmas.List.{drop_all, drop_at, take-append-drop, take-append-le}
use Rattle.std.proofs.lemmas.Bool.{cases_lt}
use Rattle.std.specs.Prelude.{IsTrue}
use Rattle.std.proofs.Common.{zero, suc, subst, ◌≡◌, ℕ, ◌+◌, ◌-◌, ◌<◌, ◌≤◌, min, List, [], ◌∷◌, ◌++◌, length, take, drop, Option, Some, None, Err, refl, sym, ◌∙◌, ap, arith, append_assoc, length-drop}
use Rattle.std.specs.Prelude.{option_map}
use Rattle.std.proofs.Math.Seq.{take-add, take-append-add}
use Rattle.std.proofs.lemmas.List.{append-nil, length-take-le, take_all, take_at, take_rest}
use Rattle.nr_spec_plans.specs.Disk.{Disk, Told, Heard, Tape, more, reading, read, ticking, ticked, taking, taking_in, hearing, offered, filled, bytes_of, is_listed}
use Rattle.nr_spec_plans.specs.Plans.{calls_for, NoneListed, WholeBy, StoppedBy}

more_more : (m n count : ℕ) → more n (more m count) ≡ more (m + n) count
more_more m n count = omega arith

more_none : (count : ℕ) → more 0 count ≡ count
more_none count = omega arith

read_told : (told : Option Told) (m n k : ℕ) → option_map (reading n) (option_map (ticking 1) (option_map (reading m) (option_map (ticking k) told))) ≡ option_map (reading (m + n)) (option_map (ticking (k + 1)) told)
read_told None m n k = refl
read_told (Some t) m n k =
    ap (λ (r : ℕ). Some (record { holds = t.holds; loose = t.loose; past = t.past; asks = t.asks; reads = r; calls = more 1 (more k t.calls); listed = t.listed })) (more_more m n t.reads)
    ∙ ap (λ (r : ℕ). Some (record { holds = t.holds; loose = t.loose; past = t.past; asks = t.asks; reads = more (m + n) t.reads; calls = r; listed = t.listed })) (more_more k 1 t.calls)

read_nothing : (told : Option Told) → option_map (reading 0) (option_map (ticking 0) told) ≡ told
read_nothing None = refl
read_nothing (Some t) =
    ap (λ (r : ℕ). Some (record { holds = t.holds; loose = t.loose; past = t.past; asks = t.asks; reads = r; calls = more 0 t.calls; listed = t.listed })) (more_none t.reads)
    ∙ ap (λ (r : ℕ). Some (record { holds = t.holds; loose = t.loose; past = t.past; asks = t.asks; reads = t.reads; calls = r; listed = t.listed })) (more_none t.calls)

pub read_more : (d : Disk) (m n k : ℕ) → read n (ticked 1 (read m (ticked k d))) ≡ read (m + n) (ticked (k + 1) d)
read_more d m n k = ap (λ (told : Option Told). record { told = told; read_faults = d.read_faults; write_faults = d.write_faults }) (read_told d.told m n k)

pub read_none : (d : Disk) → read 0 (ticked 0 d) ≡ d
read_none d = ap (λ (told : Option Told). record { told = told; read_faults = d.read_faults; write_faults = d.write_faults }) (read_nothing d.told)

-- a read that gave nothing is a call
pub read_idle : (d : Disk) (m n k : ℕ) → n ≡ 0 → read n (ticked 1 (read m (ticked k d))) ≡ read m (ticked (k + 1) d)
read_idle d m n k none = read_more d m n k ∙ ap (λ (r : ℕ). read r (ticked (k + 1) d)) (let e : m + n ≡ m = omega arith in e)

-- a read that failed is a call
idle_told : (told : Option Told) (m k : ℕ) → option_map (ticking 1) (option_map (reading m) (option_map (ticking k) told)) ≡ option_map (reading m) (option_map (ticking (k + 1)) told)
idle_told None m k = refl
idle_told (Some t) m k = ap (λ (r : ℕ). Some (record { holds = t.holds; loose = t.loose; past = t.past; asks = t.asks; reads = more m t.reads; calls = r; listed = t.listed })) (more_more k 1 t.calls)

pub read_failed : (d : Disk) (m k : ℕ) → ticked 1 (read m (ticked k d)) ≡ read m (ticked (k + 1) d)
read_failed d m k = ap (λ (told : Option Told). record { told = told; read_faults = d.read_faults; write_faults = d.write_faults }) (idle_told d.told m k)

took_told : (told : Option Heard) (a b : List ℕ) → option_map (taking_in b) (option_map (taking_in a) told) ≡ option_map (taking_in (a ++ b)) told
took_told None a b = refl
took_told (Some h) a b = ap (λ (l : List ℕ). Some (record { taken = l; idle = h.idle })) (append_assoc h.taken a b)

taking_more : (t : Tape) (a b : List ℕ) → taking b (taking a t) ≡ taking (a ++ b) t
taking_more t a b = ap (λ (told : Option Heard). record { told = told; faults = t.faults }) (took_told t.told a b)

took_nothing : (told : Option Heard) → option_map (taking_in []) told ≡ told
took_nothing None = refl
took_nothing (Some h) = ap (λ (l : List ℕ). Some (record { taken = l; idle = h.idle })) (append-nil h.taken)

pub taking_none : (t : Tape) → taking [] t ≡ t
taking_none t = ap (λ (told : Option Heard). record { told = told; faults = t.faults }) (took_nothing t.told)

-- a piece that isn't empty is not counted
heard_some : (first : ℕ) (others : List ℕ) (told : Option Heard) → option_map (hearing (first ∷ others)) told ≡ told
heard_some first others None = refl
heard_some first others (Some h) = refl

pub offered_some : (piece : List ℕ) (t : Tape) → 0 < length piece → offered piece t ≡ t
offered_some [] t some = absurd (omega (arith, some))
offered_some (first ∷ others) t some = ap (λ (told : Option Heard). record { told = told; faults = t.faults }) (heard_some first others t.told)

-- the piece is what is left of the text
left_over : (text : List ℕ) (at : ℕ) → at < length text → 0 < length (take (length text - at) (drop at text))
left_over text at less =
    let long : length (drop at text) ≡ length text - at = length-drop at text in
    omega (arith, length-take-le (length text - at) (drop at text) (omega (arith, long)))

pub took_on : (text : List ℕ) (at n : ℕ) (old mid : Tape) → at < length text → mid ≡ taking (take at text) old
    → taking (take n (take (length text - at) (drop at text))) (offered (take (length text - at) (drop at text)) mid) ≡ taking (take (at + n) text) old
took_on text at n old mid less is =
    ap (taking (take n (take (length text - at) (drop at text)))) (offered_some (take (length text - at) (drop at text)) mid (left_over text at less))
    ∙ ap (λ (l : List ℕ). taking (take n l) mid) (take_rest text at) ∙ ap (taking (take n (drop at text))) is ∙ taking_more old (take at text) (take n (drop at text))
    ∙ ap (λ (l : List ℕ). taking l old) (sym (take-add at n text))

-- what has been read so far is one piece more of the file; post is what stands after the piece
pub read_on : (file buffer old into post : List ℕ) (at n : ℕ) → at ≤ length buffer → take at buffer ≡ take at file → n ≡ min (length old) (length file - at) → into ≡ filled file at n old → take (at + n) (take at buffer ++ (into ++ post)) ≡ take (at + n) file
read_on file buffer old into post at n within so_far count bytes =
    let long : length (take at buffer) ≡ at = length-take-le at buffer within in
    let piece = take n (drop at file) in
    let part : length piece ≡ n = length-take-le n (drop at file) (omega (arith, length-drop at file)) in
    let whole : into ++ post ≡ piece ++ (drop n old ++ post) = ap (λ (l : List ℕ). l ++ post) bytes ∙ append_assoc piece (drop n old) post in
    let come : take n (into ++ post) ≡ piece = ap (λ (l : List ℕ). take n l) whole ∙ take_at piece (drop n old ++ post) n part in
    let split : take (length (take at buffer) + n) (take at buffer ++ (into ++ post)) ≡ take at buffer ++ take n (into ++ post) = take-append-add (take at buffer) (into ++ post) n in
    ap (λ (k : ℕ). take (k + n) (take at buffer ++ (into ++ post))) (sym long) ∙ split ∙ ap (λ (l : List ℕ). l ++ take n (into ++ post)) so_far ∙ ap (λ (l : List ℕ). take at file ++ l) come ∙ sym (take-add at n file)

-- a read that gives nothing says that the file ends
pub read_out : (file : List ℕ) (at room : ℕ) → at < room → 0 ≡ min (room - at) (length file - at) → take room file ≡ take at file
read_out file at room less none =
    let ends : length file ≤ at = omega arith in
    take_all room file (omega arith) ∙ sym (take_all at file (omega arith))

-- the same at a read that gave nothing
pub read_end : (file buffer old into post : List ℕ) (at n room : ℕ) → at < room → length old ≡ room - at → n ≡ 0 → at ≤ length buffer → take at buffer ≡ take at file
    → n ≡ min (length old) (length file - at) → into ≡ filled file at n old → take at (take at buffer ++ (into ++ post)) ≡ take room file
read_end file buffer old into post at n room less long none within so_far count bytes =
    let same : at + n ≡ at = omega arith in
    let end : 0 ≡ min (room - at) (length file - at) = omega arith in
    ap (λ (k : ℕ). take k (take at buffer ++ (into ++ post))) (sym same) ∙ read_on file buffer old into post at n within so_far count bytes ∙ ap (λ (k : ℕ). take k file) same ∙ sym (read_out file at room less end)

-- A write in two parts: over bytes stand over old ones, and the rest is put after them.
over : (bytes from : List ℕ) (at n : ℕ) → List ℕ
over bytes from at n = take at (bytes ++ drop n from) ++ (take n from ++ drop (at + n) (bytes ++ drop n from))

within_old : (bytes from : List ℕ) (at : ℕ) → length from ≤ length bytes - at → over bytes from at (length from) ≡ written at from bytes
unfolding over
within_old bytes from at short =
    let none : drop (length from) from ≡ [] = drop_all (length from) from (omega arith) in
    let whole : take (length from) from ≡ from = take_all (length from) from (omega arith) in
    let same : bytes ++ drop (length from) from ≡ bytes = ap (λ (l : List ℕ). bytes ++ l) none ∙ append-nil bytes in
    ap (λ (l : List ℕ). take at l ++ (take (length from) from ++ drop (at + length from) l)) same
    ∙ ap (λ (l : List ℕ). take at bytes ++ (l ++ drop (at + length from) bytes)) whole
    ∙ sym (append_assoc (take at bytes) from (drop (at + length from) bytes))

past_end : (bytes from : List ℕ) (at n : ℕ) → at + n ≡ length bytes → n ≤ length from → over bytes from at n ≡ written at from bytes
unfolding over
past_end bytes from at n ends long =
    let front : take at (bytes ++ drop n from) ≡ take at bytes = take-append-le at bytes (drop n from) (omega arith) in
    let back : drop (at + n) (bytes ++ drop n from) ≡ drop n from = drop_at bytes (drop n from) (at + n) (sym ends) in
    let none : drop (at + length from) bytes ≡ [] = drop_all (at + length from) bytes (omega arith) in
    ap (λ (l : List ℕ). l ++ (take n from ++ drop (at + n) (bytes ++ drop n from))) front
    ∙ ap (λ (l : List ℕ). take at bytes ++ (take n from ++ l)) back
    ∙ ap (λ (l : List ℕ). take at bytes ++ l) (take-append-drop n from)
    ∙ sym (append-nil (take at bytes ++ from))
    ∙ ap (λ (l : List ℕ). take at bytes ++ from ++ l) (sym none)

pub written_over : (bytes from : List ℕ) (at n : ℕ) → at ≤ length bytes → n ≡ min (length from) (length bytes - at) → take at (bytes ++ drop n from) ++ (take n from ++ drop (at + n) (bytes ++ drop n from)) ≡ written at from bytes
unfolding over
written_over bytes from at n within is = elim (cases_lt (length bytes - at) (length from)) [
  | inl less ↦ past_end bytes from at n (omega arith) (omega arith)
  | inr fits ↦ let whole : n ≡ length from = omega arith in ap (over bytes from at) whole ∙ within_old bytes from at fits
]

-- a write to a file that has nothing yet
pub written_first : (at : ℕ) (from : List ℕ) → at ≡ 0 → written at from [] ≡ from
written_first at from is =
    let front : take at [] ≡ [] = take_all at [] (omega arith) in
    let behind : drop (at + length from) [] ≡ [] = drop_all (at + length from) [] (omega arith) in
    ap (λ (l : List ℕ). l ++ from ++ drop (at + length from) []) front ∙ ap (λ (l : List ℕ). from ++ l) behind ∙ append-nil from

-- ---- offering

pub offers_front : (text : List ℕ) (at : ℕ) (fault : WriteFault) (old mid new : Tape) → at < length text → mid ≡ taking (take at text) old
    → Takes (take (length text - at) (drop at text)) mid new (Err (write_fault_of fault)) → Offers text old new (Err (write_fault_of fault))
offers_front text at write.Failed old mid new less so_far (n, is) = (omega (arith, less), (at + n, is ∙ ap failing (took_on text at n old mid less so_far)))
offers_front text at write.Memory old mid new less so_far is =
    (at, less, is ∙ offered_some (take (length text - at) (drop at text)) mid (left_over text at less) ∙ so_far)

-- ---- the calls of a read in whole

-- what is told after n bytes by some calls
pub told_now : (old now : Disk) (n calls : ℕ) (t : Told) → now ≡ read n (ticked calls old) → old.told ≡ Some t → now.told ≡ Some (reading n (ticking calls t))
told_now old now n calls t is told = ap (λ (d : Disk). d.told) is ∙ ap (λ (o : Option Told). option_map (reading n) (option_map (ticking calls) o)) told

-- How a read in whole stands before another call: none was made yet, or one that gave all that there is.
pub record SoFar (name : List ℕ) (size at calls : ℕ) (t : Told) : Type 0 where
  pub number : calls ≡ min 1 at
  pub given : 0 < at → at ≡ min size (length (bytes_of (t.holds name)))
  pub listed : NoneListed calls t

pub none_so_far : (name : List ℕ) (size : ℕ) (t : Told) → SoFar name size 0 0 t
none_so_far name size t = record { number = refl; given = λ some. absurd (omega (arith, some)); listed = λ k less. absurd (omega (arith, less)) }

pub one_more : (calls : ℕ) (t : Told) → NoneListed calls t → (IsTrue (is_listed (ticking calls t)) → ⊥) → NoneListed (calls + 1) t
one_more calls t before now k less = elim (cases_lt k calls) [
  | inl earlier ↦ before k earlier
  | inr last ↦ let e : calls ≡ k = omega (arith, less, last) in subst (λ (k : ℕ). IsTrue (is_listed (ticking k t)) → ⊥) e now
]

number_at_end : (size found at n calls : ℕ) → at < size → calls ≡ min 1 at → (0 < at → at ≡ min size found) → n ≡ min (size - at) (found - at) → n ≡ 0 → calls + 1 ≡ calls_for size found
number_at_end size found zero n calls less is given count none = omega (arith, less, is, count, none)
number_at_end size found (suc at) n calls less is given count none = let all = given (omega arith) in omega (arith, less, is, all, count, none)

pub ends_so : (name : List ℕ) (size at n calls : ℕ) (t : Told) → SoFar name size at calls t → at < size → n ≡ min (size - at) (length (bytes_of (t.holds name)) - at) → n ≡ 0
    → (IsTrue (is_listed (ticking calls t)) → ⊥) → WholeBy name size (calls + 1) t
ends_so name size at n calls t so_far less count none now = record {
  number = number_at_end size (length (bytes_of (t.holds name))) at n calls less so_far.number so_far.given count none;
  listed = one_more calls t so_far.listed now;
}

number_at_full : (size found at calls : ℕ) → at ≡ size → calls ≡ min 1 at → (0 < at → at ≡ min size found) → calls ≡ calls_for size found
number_at_full size found zero calls full is given = omega (arith, full, is)
number_at_full size found (suc at) calls full is given = let all = given (omega arith) in omega (arith, full, is, all)

pub full_so : (name : List ℕ) (size at calls : ℕ) (t : Told) → SoFar name size at calls t → at ≡ size → WholeBy name size calls t
full_so name size at calls t so_far full = record { number = number_at_full size (length (bytes_of (t.holds name))) at calls full so_far.number so_far.given; listed = so_far.listed }

-- only the first call gives something
first_alone : (size found at n : ℕ) → at < size → (0 < at → at ≡ min size found) → n ≡ min (size - at) (found - at) → 0 < n → at ≡ 0
first_alone size found zero n less given count some = refl
first_alone size found (suc at) n less given count some = let all = given (omega arith) in absurd (omega (arith, less, all, count, some))

pub goes_so : (name : List ℕ) (size at n calls : ℕ) (t : Told) → SoFar name size at calls t → at < size → n ≡ min (size - at) (length (bytes_of (t.holds name)) - at) → 0 < n
    → (IsTrue (is_listed (ticking calls t)) → ⊥) → SoFar name size (at + n) (calls + 1) t
goes_so name size at n calls t so_far less count some now =
    let start = first_alone size (length (bytes_of (t.holds name))) at n less so_far.given count some in
    record { number = omega (arith, so_far.number, start, some); given = λ more. omega (arith, start, count); listed = one_more calls t so_far.listed now }

given_whole : (size found at : ℕ) → at < size → (0 < at → at ≡ min size found) → 0 < at → at ≡ found
given_whole size found at less given some = omega (arith, less, given some)

pub fails_so : (name : List ℕ) (size at calls : ℕ) (t : Told) → SoFar name size at calls t → at < size → StoppedBy name at (calls + 1) t
fails_so name size at calls t so_far less = record {
  number = omega (arith, so_far.number);
  given = given_whole size (length (bytes_of (t.holds name))) at less so_far.given;
  listed = let e : calls ≡ calls + 1 - 1 = omega arith in subst (λ (k : ℕ). NoneListed k t) e so_far.listed;
}
