-- The chain values beside the entries.
use Rattle.std.proofs.Common.{◌≡◌, ℕ, zero, suc, ◌+◌, ◌-◌, ◌<◌, ◌≤◌, List, [], ◌∷◌, ◌++◌, length, map, take, Some, refl, sym, ap, subst, ◌∙◌, length-append, arith}
use Rattle.std.specs.Prelude.{slice_index_or}
use Rattle.std.specs.List.{slice_get}
use Rattle.std.proofs.lemmas.List.{length-map, length-take-le, map-append, take-append-le, take_more}
use Rattle.std.proofs.lemmas.Option.{slice_get_within, get_or_from_slice_get}
use Rattle.nr_spec_log.specs.Chain.{Chain, LogEntry, chained, link_value, shown, value_after}
use Rattle.nr_spec_steps.specs.Heads.{log_chain}
use Rattle.nr_chain.specs.Views.{digest_bytes}
use Rattle.nr_chain.specs.declared.digest.Digest.{Digest}
use Rattle.nr_recorder.specs.Links.{AreLinks, HasLinks, values_from}

-- ---- one entry more

pub taken : (log : List LogEntry) (place : ℕ) (e : LogEntry) → slice_get log place ≡ Some e → take (place + 1) log ≡ take place log ++ e ∷ []
taken log place e is = take_more log place e (slice_get_within log place e is) ∙ ap (λ (x : LogEntry). take place log ++ x ∷ []) (get_or_from_slice_get log place e e is)

values_more : (chain : Chain) (log : List LogEntry) (e : LogEntry) → values_from chain (log ++ e ∷ []) ≡ values_from chain log ++ value_after chain (log ++ e ∷ []) ∷ []
values_more chain [] e = refl
values_more chain (x ∷ xs) e = ap (λ (t : List (List ℕ)). (chained chain (shown x)).value ∷ t) (values_more (chained chain (shown x)) xs e)

value_more : (chain : Chain) (log : List LogEntry) (e : LogEntry) → value_after chain (log ++ e ∷ []) ≡ link_value (value_after chain log) (chain.seq + length log) (shown e)
value_more chain [] e = let same : chain.seq ≡ chain.seq + 0 = omega arith in ap (λ (k : ℕ). link_value chain.value k (shown e)) same
value_more chain (x ∷ xs) e =
    let next : chain.seq + 1 + length xs ≡ chain.seq + suc (length xs) = omega arith in
    value_more (chained chain (shown x)) xs e ∙ ap (λ (k : ℕ). link_value (value_after (chained chain (shown x)) xs) k (shown e)) next

pub as_many : (asn : ℕ) (log : List LogEntry) (values : List Digest) → AreLinks asn log values → length values ≡ length log
as_many asn log values are = sym (length-map values digest_bytes) ∙ ap length are ∙ of_all (log_chain asn) log
  where
    of_all : (chain : Chain) (es : List LogEntry) → length (values_from chain es) ≡ length es
    of_all chain [] = refl
    of_all chain (x ∷ xs) = ap suc (of_all (chained chain (shown x)) xs)

-- ---- the value of an entry

value_of : (chain : Chain) (log : List LogEntry) (k : ℕ) (value : List ℕ) → slice_get (values_from chain log) k ≡ Some value → value ≡ value_after chain (take (suc k) log)
value_of chain [] k value is = absurd cc
value_of chain (x ∷ xs) zero value is = cc
value_of chain (x ∷ xs) (suc k) value is = value_of (chained chain (shown x)) xs k value is

mapped : (values : List Digest) (k : ℕ) (z : Digest) → k < length values → slice_get (map digest_bytes values) k ≡ Some (digest_bytes (slice_index_or values k z))
mapped [] k z less = absurd (omega arith)
mapped (x ∷ xs) zero z less = refl
mapped (x ∷ xs) (suc k) z less = mapped xs k z (omega arith)

pub value_kept : (asn : ℕ) (log : List LogEntry) (values : List Digest) (count : ℕ) (z : Digest) → 0 < count → count ≤ length values → AreLinks asn log values
    → digest_bytes (slice_index_or values (count - 1) z) ≡ value_after (log_chain asn) (take count log)
value_kept asn log values count z some within are =
    let at : suc (count - 1) ≡ count = omega arith in
    value_of (log_chain asn) log (count - 1) (digest_bytes (slice_index_or values (count - 1) z)) (ap (λ (l : List (List ℕ)). slice_get l (count - 1)) (sym are) ∙ mapped values (count - 1) z (omega arith))
    ∙ ap (λ (k : ℕ). value_after (log_chain asn) (take k log)) at

-- ---- following

whole : (l : List LogEntry) → take (length l) l ≡ l
whole [] = refl
whole (x ∷ xs) = ap (λ (t : List LogEntry). x ∷ t) (whole xs)

-- a log without entries has all of its values
pub no_links : (asn : ℕ) (log : List LogEntry) (values : List Digest) → log ≡ [] → values ≡ [] → HasLinks asn log values
no_links asn log values none empty = rw (none, empty) (record { order = omega arith; links = refl })

-- entries more change no value
pub kept_links : (asn : ℕ) (old batch new : List LogEntry) (values : List Digest) → HasLinks asn old values → new ≡ old ++ batch → HasLinks asn new values
kept_links asn old batch new values has added = record {
  order = omega (arith, has.order, ap length added, length-append old batch);
  links = subst (λ (l : List LogEntry). AreLinks asn l values)
      (sym (ap (take (length values)) added ∙ take-append-le (length values) old batch has.order)) has.links;
}

-- the values of all entries
pub all_links : (asn : ℕ) (log : List LogEntry) (values : List Digest) (count : ℕ) → count ≡ length log → AreLinks asn (take count log) values → HasLinks asn log values
all_links asn log values count size are =
    let many : length values ≡ length (take count log) = as_many asn (take count log) values are in
    let taken_all : length (take count log) ≡ count = length-take-le count log (omega (arith, size)) in
    record {
      order = omega (arith, many, taken_all, size);
      links = subst (λ (k : ℕ). AreLinks asn (take k log) values) (sym (many ∙ taken_all)) are;
    }

pub as_all : (asn : ℕ) (log : List LogEntry) (values : List Digest) (count : ℕ) → count ≡ length log → AreLinks asn (take count log) values → length values ≡ length log
as_all asn log values count size are =
    as_many asn (take count log) values are ∙ length-take-le count log (omega (arith, size)) ∙ size

-- the chain value after one entry more
pub walked_more : (asn : ℕ) (log : List LogEntry) (walk moved : Chain) (place : ℕ) (e : LogEntry) → walk.value ≡ value_after (log_chain asn) (take place log) → walk.seq ≡ place + 1
    → slice_get log place ≡ Some e → moved ≡ chained walk (shown e) → moved.value ≡ value_after (log_chain asn) (take (place + 1) log)
walked_more asn log walk moved place e value seq is walked =
    let within = slice_get_within log place e is in
    let size : length (take place log) ≡ place = length-take-le place log (omega arith) in
    let at : walk.seq ≡ 1 + length (take place log) = omega arith in
    ap (λ (c : Chain). c.value) walked ∙ (λ i. link_value (value i) (at i) (shown e)) ∙ sym (value_more (log_chain asn) (take place log) e)
    ∙ ap (value_after (log_chain asn)) (sym (taken log place e is))

-- what holds of the values, of the chain and of the number of the next entry after so many entries
pub record Follows (asn : ℕ) (log : List LogEntry) (values : List Digest) (walk : Chain) (place : ℕ) : Type 0 where
  pub so_far : AreLinks asn (take place log) values
  pub value : walk.value ≡ value_after (log_chain asn) (take place log)
  pub seq : walk.seq ≡ place + 1

pub follows_more : (asn : ℕ) (log : List LogEntry) (values new : List Digest) (walk moved : Chain) (place : ℕ) (e : LogEntry) (d : Digest) → AreLinks asn (take place log) values
    → walk.value ≡ value_after (log_chain asn) (take place log) → walk.seq ≡ place + 1 → slice_get log place ≡ Some e → moved ≡ chained walk (shown e) → digest_bytes d ≡ moved.value → new ≡ values ++ d ∷ []
    → Follows asn log new moved (place + 1)
follows_more asn log values new walk moved place e d so_far value seq is walked put more =
    let all = taken log place e is in
    let after : moved.value ≡ value_after (log_chain asn) (take (place + 1) log) = walked_more asn log walk moved place e value seq is walked in
    let here : moved.value ≡ value_after (log_chain asn) (take place log ++ e ∷ []) = after ∙ ap (value_after (log_chain asn)) all in
    record {
      so_far =
          ap (map digest_bytes) more ∙ map-append digest_bytes values (d ∷ []) ∙ (λ i. so_far i ++ (put ∙ here) i ∷ [])
          ∙ sym (values_more (log_chain asn) (take place log) e) ∙ ap (values_from (log_chain asn)) (sym all);
      value = after;
      seq = ap (λ (c : Chain). c.seq) walked ∙ ap (λ (k : ℕ). k + 1) seq;
    }

-- the value after entries that all have one
take_take : (k n : ℕ) (l : List LogEntry) → k ≤ n → take k (take n l) ≡ take k l
take_take zero n l less = refl
take_take (suc k) zero l less = absurd (omega arith)
take_take (suc k) (suc n) [] less = refl
take_take (suc k) (suc n) (x ∷ xs) less = ap (λ (t : List LogEntry). x ∷ t) (take_take k n xs (omega arith))

pub known_value : (asn : ℕ) (log : List LogEntry) (values : List Digest) (count : ℕ) (value : List ℕ) → HasLinks asn log values → count ≤ length values
    → ((l : List LogEntry) → AreLinks asn l values → value ≡ value_after (log_chain asn) (take count l)) → value ≡ value_after (log_chain asn) (take count log)
known_value asn log values count value has within known =
    known (take (length values) log) has.links ∙ ap (value_after (log_chain asn)) (take_take count (length values) log within)
