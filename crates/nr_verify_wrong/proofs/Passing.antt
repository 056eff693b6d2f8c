-- Going on past one entry more, and what was passed when the wanted place is reached.
use Rattle.std.proofs.Common.{◌≡◌, ◌+◌, ◌-◌, ◌<◌, ◌≤◌, ◌^◌, ℕ, List, [], ◌∷◌, ◌++◌, append_assoc, append-nil, length, length-append, take, false, ◌&&◌, Option, Some, None, slice_get, slice_index, refl, ap, sym, subst, ◌∙◌, arith}
use Rattle.std.proofs.Math.Seq.{take-append_seam}
use Rattle.std.proofs.lemmas.Bool.{le-leb}
use Rattle.std.proofs.lemmas.List.{take_all}
use Rattle.std.proofs.lemmas.List.Sums.{count_by-le-length}
use Rattle.std.proofs.lemmas.Option.{slice_get_past}
use Rattle.std.specs.Option.{unwrap_or}
use Rattle.nr_spec_log.specs.Chain.{LogEntry}
use Rattle.nr_spec_entry.specs.ContentReading.{content_of}
use Rattle.nr_spec_routes.proofs.Words.{one_more}
use Rattle.nr_spec_routes.specs.Keys.{Key, Row, route_in}
use Rattle.nr_spec_routes.specs.Routes.{AreRowsAfter, word_of}
use Rattle.nr_spec_counts.specs.Tallies.{Numbers, is_commit, is_send_to, nothing_yet, tally_after}
use Rattle.nr_spec_claims.specs.Claims.{is_wrong_at, is_wrong_entry}
use Rattle.nr_spec_history.specs.Conflicts.{Period}
use Rattle.nr_spec_report.specs.Wrong.{Base}
use Rattle.nr_verify_counts.specs.Kept.{IsKeptOf, Kept}
use Rattle.nr_verify_wrong.specs.Passed.{Counted, Passed, Routed}

-- ---- places

passed_none : (all : List LogEntry) (wanted : ℕ) → Passed all [] all wanted wanted
passed_none all wanted = record { split = refl; count = omega arith }

passed_more : (all past rest : List LogEntry) (e : LogEntry) (wanted left next : ℕ) → left ≡ next + 1 → Passed all past (e ∷ rest) wanted left → Passed all (past ++ e ∷ []) rest wanted next
passed_more all past rest e wanted left next h p =
    let count = p.count in
    record {
      split = p.split ∙ sym (append_assoc past (e ∷ []) rest);
      count = let more = length-append past (e ∷ []) in omega (arith, h, count, more);
    }

pub reached : (all past rest : List LogEntry) (wanted : ℕ) → Passed all past rest wanted 0 → take wanted all ≡ past
reached all past rest wanted p =
    let count = p.count in
    let place : wanted ≡ length past = omega (arith, count) in
    (λ i. take (place i) (p.split i)) ∙ take-append_seam past rest

get_seam : (past rest : List LogEntry) (e : LogEntry) → slice_get (past ++ e ∷ rest) (length past) ≡ Some e
get_seam [] rest e = refl
get_seam (x ∷ past) rest e = get_seam past rest e

pub found : (all past rest : List LogEntry) (e : LogEntry) (wanted : ℕ) → Passed all past (e ∷ rest) wanted 0 → slice_get all wanted ≡ Some e
found all past rest e wanted p =
    let count = p.count in
    let place : wanted ≡ length past = omega (arith, count) in
    (λ i. slice_get (p.split i) (place i)) ∙ get_seam past rest e

whole : (all past rest : List LogEntry) (wanted left : ℕ) → rest ≡ [] → Passed all past rest wanted left → all ≡ past
whole all past rest wanted left none p = p.split ∙ (ap (λ (l : List LogEntry). past ++ l) none ∙ append-nil past)

pub ended : (all past rest : List LogEntry) (wanted left : ℕ) → rest ≡ [] → Passed all past rest wanted left → take wanted all ≡ past
ended all past rest wanted left none p =
    let is = whole all past rest wanted left none p in
    let count = p.count in
    let most : length all ≤ wanted = let same = ap length is in omega (arith, count, same) in
    take_all wanted all most ∙ is

pub nowhere : (all past rest : List LogEntry) (wanted left : ℕ) → rest ≡ [] → Passed all past rest wanted left → slice_get all wanted ≡ None
nowhere all past rest wanted left none p =
    let is = whole all past rest wanted left none p in
    let count = p.count in
    let most : length all ≤ wanted = let same = ap length is in omega (arith, count, same) in
    slice_get_past all wanted most

-- ---- counts

tally_none : tally_after nothing_yet [] ≡ nothing_yet
unfolding tally_after
tally_none = refl

pub counted_none : (all rest : List LogEntry) (wanted : ℕ) (k : Kept) → rest ≡ all → IsKeptOf nothing_yet k → Counted all rest wanted wanted k
counted_none all rest wanted k same kept =
    subst (λ (l : List LogEntry). Counted all l wanted wanted k) (sym same)
    (record { past = []; passed = passed_none all wanted; kept = subst (λ t. IsKeptOf t k) (sym tally_none) kept })

pub counted_more : (all rest : List LogEntry) (e : LogEntry) (wanted left next : ℕ) (k new : Kept) → left ≡ next + 1 → (c : Counted all (e ∷ rest) wanted left k)
    → IsKeptOf (tally_after nothing_yet (c.past ++ e ∷ [])) new → Counted all rest wanted next new
counted_more all rest e wanted left next k new h c kept = record { past = c.past ++ e ∷ []; passed = passed_more all c.past rest e wanted left next h c.passed; kept = kept }

few_past : (all past rest : List LogEntry) (wanted left : ℕ) → Passed all past rest wanted left → length all < 2 ^ 32 → length past < 2 ^ 32
few_past all past rest wanted left p few =
    let same = ap length p.split in
    let parts = length-append past rest in
    omega (arith, same, parts, few)

pub room_sends : (all rest : List LogEntry) (wanted left : ℕ) (k : Kept) → Counted all rest wanted left k → length all < 2 ^ 32 → (n : ℕ) → n < 256 → slice_index k.sends n + 1 < 2 ^ 64
unfolding tally_after
room_sends all rest wanted left k c few n below =
    let is = c.kept.sends n below in
    let some = few_past all c.past rest wanted left c.passed few in
    let most = count_by-le-length (λ e. is_send_to n (content_of e)) c.past in
    omega arith

pub room_commits : (all rest : List LogEntry) (wanted left : ℕ) (k : Kept) → Counted all rest wanted left k → length all < 2 ^ 32 → k.commits + 1 < 2 ^ 64
unfolding tally_after
room_commits all rest wanted left k c few =
    let is = c.kept.commits in
    let some = few_past all c.past rest wanted left c.passed few in
    let most = count_by-le-length (λ e. is_commit (content_of e)) c.past in
    omega arith

-- ---- routes

rows_none : AreRowsAfter [] [] []
rows_none key = refl

pub routed_none : (all rest : List LogEntry) (wanted : ℕ) (rows : List Row) → rest ≡ all → rows ≡ [] → Routed all rest wanted wanted rows
routed_none all rest wanted rows same none =
    subst (λ (l : List LogEntry). Routed all l wanted wanted rows) (sym same)
    (record { past = []; passed = passed_none all wanted; routes = subst (λ (r : List Row). AreRowsAfter [] [] r) (sym none) rows_none })

pub routed_more : (all rest : List LogEntry) (e : LogEntry) (wanted left next : ℕ) (rows new : List Row) → left ≡ next + 1 → Routed all (e ∷ rest) wanted left rows
    → ((key : Key) → route_in new key ≡ unwrap_or (word_of key e) (route_in rows key)) → Routed all rest wanted next new
routed_more all rest e wanted left next rows new h r step =
    record { past = r.past ++ e ∷ []; passed = passed_more all r.past rest e wanted left next h r.passed; routes = one_more [] rows new r.past e step r.routes }

pub routed_there : (all rest : List LogEntry) (wanted : ℕ) (rows : List Row) → Routed all rest wanted 0 rows → AreRowsAfter [] (take wanted all) rows
routed_there all rest wanted rows r = subst (λ (l : List LogEntry). AreRowsAfter [] l rows) (sym (reached all r.past rest wanted r.passed)) r.routes

pub routed_all : (all rest : List LogEntry) (wanted left : ℕ) (rows : List Row) → rest ≡ [] → Routed all rest wanted left rows → AreRowsAfter [] (take wanted all) rows
routed_all all rest wanted left rows none r = subst (λ (l : List LogEntry). AreRowsAfter [] l rows) (sym (ended all r.past rest wanted left none r.passed)) r.routes

-- ---- the claim

pub no_number : (files : List Numbers) (base : Base) (period : Period) (all : List LogEntry) (seq cause : ℕ) → seq ≡ 0 → false ≡ is_wrong_entry files base period 1 all seq cause
unfolding is_wrong_entry
no_number files base period all seq cause none = subst (λ (n : ℕ). false ≡ is_wrong_entry files base period 1 all n cause) (sym none) refl

at_place : (files : List Numbers) (base : Base) (period : Period) (all : List LogEntry) (seq cause : ℕ) (e : Option LogEntry) → 1 ≤ seq → slice_get all (seq - 1) ≡ e
    → is_wrong_entry files base period 1 all seq cause ≡ is_wrong_at files base period seq cause (take (seq - 1) all) e
unfolding is_wrong_entry
at_place files base period all seq cause e there is = λ i. le-leb 1 seq there i && is_wrong_at files base period seq cause (take (seq - 1) all) (is i)

pub wrong_nowhere : (files : List Numbers) (base : Base) (period : Period) (all rest : List LogEntry) (seq cause left : ℕ) (k : Kept) → 1 ≤ seq → rest ≡ [] → Counted all rest (seq - 1) left k
    → false ≡ is_wrong_entry files base period 1 all seq cause
wrong_nowhere files base period all rest seq cause left k there none c =
    sym (at_place files base period all seq cause None there (nowhere all c.past rest (seq - 1) left none c.passed))

pub wrong_found : (files : List Numbers) (base : Base) (period : Period) (all rest : List LogEntry) (e : LogEntry) (seq cause left : ℕ) (k : Kept) → 1 ≤ seq → left ≡ 0
    → Counted all (e ∷ rest) (seq - 1) left k → is_wrong_at files base period seq cause (take (seq - 1) all) (Some e) ≡ is_wrong_entry files base period 1 all seq cause
wrong_found files base period all rest e seq cause left k there done c =
    let here = subst (λ (n : ℕ). Passed all c.past (e ∷ rest) (seq - 1) n) done c.passed in
    sym (at_place files base period all seq cause (Some e) there (found all c.past rest e (seq - 1) here))

pub kept_there : (all rest : List LogEntry) (wanted left : ℕ) (k : Kept) → left ≡ 0 → Counted all rest wanted left k → IsKeptOf (tally_after nothing_yet (take wanted all)) k
kept_there all rest wanted left k done c =
    let here = subst (λ (n : ℕ). Passed all c.past rest wanted n) done c.passed in
    subst (λ (l : List LogEntry). IsKeptOf (tally_after nothing_yet l) k) (sym (reached all c.past rest wanted here)) c.kept
