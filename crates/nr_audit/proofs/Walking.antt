-- A walk over the entries of an answer, one entry after another.
use Rattle.std.proofs.Common.{◌≡◌, ℕ, ◌+◌, ◌<◌, ◌≤◌, ◌^◌, List, [], ◌∷◌, ◌++◌, append_assoc, append-nil, length, slice_index, refl, ap, sym, subst, ◌∙◌, arith}
use Rattle.std.specs.Prelude.{filter, map}
use Rattle.std.proofs.lemmas.List.{length-append}
use Rattle.nr_spec_log.specs.Answer.{AnswerFile, most_first}
use Rattle.nr_spec_log.specs.Authenticator.{Authenticator}
use Rattle.nr_spec_log.specs.Chain.{LogEntry}
use Rattle.nr_spec_history.specs.Conflicts.{Period, answer_links, answer_value, chain_of, conflicts_of}
use Rattle.nr_spec_counts.specs.Tallies.{Numbers}
use Rattle.nr_spec_truth.specs.Truths.{Truth}
use Rattle.nr_spec_report.specs.Wrong.{Base, wrong_entries}
use Rattle.nr_spec_promises.specs.Files.{PromiseFile, first_promised}
use Rattle.nr_spec_promises.specs.Counted.{most_asked, most_promises}
use Rattle.nr_judging.specs.Times.{NeverBack}
use Rattle.nr_judging.proofs.Growing.{few_seen, still_some}
use Rattle.nr_judging.proofs.Since.{never_front}
use Rattle.nr_judging.proofs.Walking.{enough, nothing_yet}
use Rattle.nr_audit.specs.declared.walk.Walked.{Walked}
use Rattle.nr_audit.specs.Checked.{Follows, asked_by}
use Rattle.nr_audit.specs.Force.{seen_after}
use Rattle.nr_audit.specs.Links.{Links}
use Rattle.nr_audit.specs.Slots.{accuses}
use Rattle.nr_audit.specs.Views.{wrong_of}
use Rattle.nr_audit.specs.Walks.{Walks}
use Rattle.nr_audit.proofs.Numbered.{accusing, last_value}
use Rattle.nr_audit.proofs.Rooms as rooms

one_longer : (past : List LogEntry) (e : LogEntry) → length (past ++ e ∷ []) ≡ length past + 1
one_longer past e = length-append past (e ∷ [])

one_back : (past : List LogEntry) (e : LogEntry) (rest all : List LogEntry) → past ++ e ∷ rest ≡ all → NeverBack 0 all → NeverBack 0 (past ++ e ∷ [])
one_back past e rest all is back = never_front 0 (past ++ e ∷ []) rest (subst (NeverBack 0) (sym (append_assoc past (e ∷ []) rest ∙ is)) back)

-- what is asked of one entry more
abbrev pub AskedMore : List Numbers → List PromiseFile → Truth → Base → Period → AnswerFile → ℕ → ℕ → LogEntry → Walked → Type 0
AskedMore files promises truth base period answer s1 s2 e old =
    (past : List LogEntry) → NeverBack 0 (past ++ e ∷ []) → Follows files promises truth base period (first_promised answer.entries) answer.first past old.checked
    → s2 + asked_by promises base (first_promised answer.entries) period past ≤ s1 + asked_by promises base (first_promised answer.entries) period (past ++ e ∷ [])

counted_more : (files : List Numbers) (promises : List PromiseFile) (truth : Truth) (base : Base) (period : Period) (answer : AnswerFile) (auths : List Authenticator) (before s1 s2 : ℕ) (e : LogEntry) (rest : List LogEntry) (old : Walked)
    → AskedMore files promises truth base period answer s1 s2 e old → (w : Walks files promises truth base period answer auths before s1 (e ∷ rest) old)
    → s2 ≤ before + asked_by promises base (first_promised answer.entries) period (w.past ++ e ∷ [])
counted_more files promises truth base period answer auths before s1 s2 e rest old asked w =
    still_some before s1 s2 _ _ w.counted (asked w.past (one_back w.past e rest answer.entries w.all w.order) w.checked)

-- one entry more
pub walked_more : (files : List Numbers) (promises : List PromiseFile) (truth : Truth) (base : Base) (period : Period) (answer : AnswerFile) (auths : List Authenticator) (before s1 s2 : ℕ) (e : LogEntry) (rest : List LogEntry) (old new : Walked)
    → new.links.walk.seq ≡ old.links.walk.seq + 1
    → (Links auths (answer_links answer) (answer_value answer) (e ∷ rest) old.links → Links auths (answer_links answer) (answer_value answer) rest new.links)
    → ((past : List LogEntry) → old.links.walk.seq ≡ answer.first + length past → NeverBack 0 (past ++ e ∷ [])
    → Follows files promises truth base period (first_promised answer.entries) answer.first past old.checked
    → Follows files promises truth base period (first_promised answer.entries) answer.first (past ++ e ∷ []) new.checked)
    → ((past : List LogEntry) → old.force ≡ seen_after files base period past → new.force ≡ seen_after files base period (past ++ e ∷ []))
    → AskedMore files promises truth base period answer s1 s2 e old
    → Walks files promises truth base period answer auths before s1 (e ∷ rest) old → Walks files promises truth base period answer auths before s2 rest new
walked_more files promises truth base period answer auths before s1 s2 e rest old new number links checked force asked so_far = record {
  past = so_far.past ++ e ∷ [];
  all = append_assoc so_far.past (e ∷ []) rest ∙ so_far.all;
  order = so_far.order;
  number = let longer = one_longer so_far.past e in omega (arith, number, so_far.number, longer);
  links = links so_far.links;
  checked = checked so_far.past so_far.number (one_back so_far.past e rest answer.entries so_far.all so_far.order) so_far.checked;
  force = force so_far.past so_far.force;
  counted = counted_more files promises truth base period answer auths before s1 s2 e rest old asked so_far;
}

-- before the first entry
pub walked_first : (files : List Numbers) (promises : List PromiseFile) (truth : Truth) (base : Base) (period : Period) (answer : AnswerFile) (auths : List Authenticator) (steps : ℕ) (w : Walked)
    → NeverBack 0 answer.entries
    → w.links.walk.seq ≡ answer.first
    → Links auths (answer_links answer) (answer_value answer) answer.entries w.links
    → Follows files promises truth base period (first_promised answer.entries) answer.first [] w.checked
    → w.force ≡ seen_after files base period []
    → Walks files promises truth base period answer auths steps steps answer.entries w
walked_first files promises truth base period answer auths steps w order number links checked force = record {
  past = [];
  all = refl;
  order = order;
  number = omega (arith, number);
  links = links;
  checked = checked;
  force = force;
  counted = nothing_yet steps (most_promises promises);
}

-- ---- how often a judge was asked

-- no more often than what is asked of all entries
pub few_asked : (files : List Numbers) (promises : List PromiseFile) (truth : Truth) (base : Base) (period : Period) (answer : AnswerFile) (auths : List Authenticator) (before steps : ℕ) (rest : List LogEntry) (w : Walked)
    → Walks files promises truth base period answer auths before steps rest w → steps ≤ before + most_asked promises base period answer.entries
few_asked files promises truth base period answer auths before steps rest w walks =
    enough before steps _ _ walks.counted (few_seen promises base period walks.past rest answer.entries walks.all walks.order)

-- and so with one entry more
pub few_more : (files : List Numbers) (promises : List PromiseFile) (truth : Truth) (base : Base) (period : Period) (answer : AnswerFile) (auths : List Authenticator) (before s1 s2 : ℕ) (e : LogEntry) (rest : List LogEntry) (old : Walked)
    → AskedMore files promises truth base period answer s1 s2 e old → Walks files promises truth base period answer auths before s1 (e ∷ rest) old
    → s2 ≤ before + most_asked promises base period answer.entries
few_more files promises truth base period answer auths before s1 s2 e rest old asked w =
    enough before s2 _ _ (counted_more files promises truth base period answer auths before s1 s2 e rest old asked w)
    (few_seen promises base period (w.past ++ e ∷ []) rest answer.entries (append_assoc w.past (e ∷ []) rest ∙ w.all) w.order)

-- ---- room for the next entry

few_past : (files : List Numbers) (promises : List PromiseFile) (truth : Truth) (base : Base) (period : Period) (answer : AnswerFile) (auths : List Authenticator) (before steps : ℕ) (e : LogEntry) (rest : List LogEntry) (w : Walked)
    (walks : Walks files promises truth base period answer auths before steps (e ∷ rest) w)
    → length answer.entries < 2 ^ 32 → length walks.past < 2 ^ 32
few_past files promises truth base period answer auths before steps e rest w walks few =
    let all = sym (length-append walks.past (e ∷ rest)) ∙ ap length walks.all in
    omega (arith, all, few)

pub room_number : (files : List Numbers) (promises : List PromiseFile) (truth : Truth) (base : Base) (period : Period) (answer : AnswerFile) (auths : List Authenticator) (before steps : ℕ) (e : LogEntry) (rest : List LogEntry) (w : Walked)
    → Walks files promises truth base period answer auths before steps (e ∷ rest) w
    → answer.first ≤ most_first → length answer.entries < 2 ^ 32 → w.links.walk.seq < 2 ^ 63
room_number files promises truth base period answer auths before steps e rest w walks first few =
    let past = few_past files promises truth base period answer auths before steps e rest w walks few in
    omega (arith, walks.number, first, past)

pub room_sends : (files : List Numbers) (promises : List PromiseFile) (truth : Truth) (base : Base) (period : Period) (answer : AnswerFile) (auths : List Authenticator) (before steps : ℕ) (e : LogEntry) (rest : List LogEntry) (w : Walked)
    → Walks files promises truth base period answer auths before steps (e ∷ rest) w
    → length answer.entries < 2 ^ 32 → (n : ℕ) → n < 256 → base.tally.sends n < 2 ^ 63 → slice_index w.checked.counts.sends n + 1 < 2 ^ 64
room_sends files promises truth base period answer auths before steps e rest w walks few =
    rooms.room_sends base.tally walks.past w.checked.counts walks.checked.kept (few_past files promises truth base period answer auths before steps e rest w walks few)

pub room_commits : (files : List Numbers) (promises : List PromiseFile) (truth : Truth) (base : Base) (period : Period) (answer : AnswerFile) (auths : List Authenticator) (before steps : ℕ) (e : LogEntry) (rest : List LogEntry) (w : Walked)
    → Walks files promises truth base period answer auths before steps (e ∷ rest) w
    → length answer.entries < 2 ^ 32 → base.tally.commits < 2 ^ 63 → w.checked.counts.commits + 1 < 2 ^ 64
room_commits files promises truth base period answer auths before steps e rest w walks few =
    rooms.room_commits base.tally walks.past w.checked.counts walks.checked.kept (few_past files promises truth base period answer auths before steps e rest w walks few)

-- ---- after the last entry

abbrev pub Over : List Numbers → List PromiseFile → Truth → Base → Period → AnswerFile → List Authenticator → ℕ → ℕ → Walked → Type 0
Over files promises truth base period answer auths before steps w = Walks files promises truth base period answer auths before steps [] w

whole : (files : List Numbers) (promises : List PromiseFile) (truth : Truth) (base : Base) (period : Period) (answer : AnswerFile) (auths : List Authenticator) (before steps : ℕ) (w : Walked)
    (walks : Over files promises truth base period answer auths before steps w) → walks.past ≡ answer.entries
whole files promises truth base period answer auths before steps w walks = sym (append-nil walks.past) ∙ walks.all

pub order_is : (files : List Numbers) (promises : List PromiseFile) (truth : Truth) (base : Base) (period : Period) (answer : AnswerFile) (auths : List Authenticator) (before steps : ℕ) (w : Walked)
    → Over files promises truth base period answer auths before steps w → NeverBack 0 answer.entries
order_is files promises truth base period answer auths before steps w walks = walks.order

pub value_is : (files : List Numbers) (promises : List PromiseFile) (truth : Truth) (base : Base) (period : Period) (answer : AnswerFile) (auths : List Authenticator) (before steps : ℕ) (w : Walked)
    → Over files promises truth base period answer auths before steps w → w.links.walk.value ≡ answer_value answer
value_is files promises truth base period answer auths before steps w walks = last_value auths (answer_links answer) (answer_value answer) w.links walks.links

pub checked_is : (files : List Numbers) (promises : List PromiseFile) (truth : Truth) (base : Base) (period : Period) (answer : AnswerFile) (auths : List Authenticator) (before steps : ℕ) (w : Walked)
    → Over files promises truth base period answer auths before steps w
    → Follows files promises truth base period (first_promised answer.entries) answer.first answer.entries w.checked
checked_is files promises truth base period answer auths before steps w walks =
    subst (λ (l : List LogEntry). Follows files promises truth base period (first_promised answer.entries) answer.first l w.checked)
    (whole files promises truth base period answer auths before steps w walks) walks.checked

pub counted_is : (files : List Numbers) (promises : List PromiseFile) (truth : Truth) (base : Base) (period : Period) (answer : AnswerFile) (auths : List Authenticator) (before steps : ℕ) (w : Walked)
    → Over files promises truth base period answer auths before steps w
    → steps ≤ before + asked_by promises base (first_promised answer.entries) period answer.entries
counted_is files promises truth base period answer auths before steps w walks =
    subst (λ (l : List LogEntry). steps ≤ before + asked_by promises base (first_promised answer.entries) period l)
    (whole files promises truth base period answer auths before steps w walks) walks.counted

pub wrong_is : (files : List Numbers) (promises : List PromiseFile) (truth : Truth) (base : Base) (period : Period) (answer : AnswerFile) (auths : List Authenticator) (before steps : ℕ) (w : Walked)
    → Over files promises truth base period answer auths before steps w
    → map wrong_of w.checked.wrong.items ≡ wrong_entries files base period answer.first answer.entries
wrong_is files promises truth base period answer auths before steps w walks =
    (checked_is files promises truth base period answer auths before steps w walks).wrong

pub force_is : (files : List Numbers) (promises : List PromiseFile) (truth : Truth) (base : Base) (period : Period) (answer : AnswerFile) (auths : List Authenticator) (before steps : ℕ) (w : Walked)
    → Over files promises truth base period answer auths before steps w
    → w.force ≡ seen_after files base period answer.entries
force_is files promises truth base period answer auths before steps w walks =
    walks.force ∙ ap (seen_after files base period) (whole files promises truth base period answer auths before steps w walks)

pub conflicts_are : (files : List Numbers) (promises : List PromiseFile) (truth : Truth) (base : Base) (period : Period) (answer : AnswerFile) (auths : List Authenticator) (before steps : ℕ) (w : Walked)
    → Over files promises truth base period answer auths before steps w
    → (root : List ℕ) → filter (accuses root answer.asn period w.links.slots.links.entries) auths ≡ conflicts_of root answer period auths
conflicts_are files promises truth base period answer auths before steps w walks root =
    accusing root answer.asn period auths (chain_of answer) answer.entries (answer_value answer) w.links walks.links
