-- One entry more, and the last COMMIT to the auditor.
use Rattle.std.proofs.Common.{◌≡◌, ◌∙◌, ℕ, suc, ◌+◌, ◌-◌, ◌≤◌, Bool, cond, true, false, List, [], ◌∷◌, ◌++◌, Option, None, Some, ap, refl, sym, length, take, unwrap_or, arith, rules}
use Rattle.std.specs.Prelude.{option_map, ◌==◌}
use Rattle.std.proofs.lemmas.Bool.{cases_Bool}
use Rattle.std.proofs.lemmas.List.{length-append, length-take-le, take-append-le}
use Rattle.std.proofs.Math.Seq.{take-length}
use Rattle.nr_spec_log.specs.Chain.{Chain, LogEntry, chained, link_value, shown, value_after}
use Rattle.nr_spec_log.specs.Authenticator.{authenticator}
use Rattle.nr_spec_log.specs.Answer.{last_time}
use Rattle.nr_spec_history.specs.KeyFiles.{Key}
use Rattle.nr_spec_entry.specs.Contents.{Ack, Checkpoint, Commit, Content, Promise, Recv, Send, State, auditor}
use Rattle.nr_spec_entry.specs.ContentReading.{content_of}
use Rattle.nr_spec_routes.specs.LookBack.{after_last, last_of, later_or}
use Rattle.nr_spec_routes.proofs.Words.{after_last-push, last_of-push}
use Rattle.nr_spec_counts.specs.Tallies.{is_commit_to}
use Rattle.nr_spec_steps.specs.Heads.{head_of, last_commit, leaf_in, log_chain}
use Rattle.nr_heads.specs.Seals.{IsSealingOf, Seal, Sealing, auditor_leaf, seal_at, seal_of, sealed_head}

-- ---- the chain

pub value_push : (chain : Chain) (log : List LogEntry) (e : LogEntry)
    → value_after chain (log ++ e ∷ []) ≡ link_value (value_after chain log) (chain.seq + length log) (shown e)
value_push chain [] e = ap (λ n. link_value chain.value n (shown e)) (omega arith)
value_push chain (d ∷ log) e = value_push (chained chain (shown d)) log e ∙ ap (λ n. link_value (value_after (chained chain (shown d)) log) n (shown e)) (omega arith)

pub time_push : (last : ℕ) (log : List LogEntry) (e : LogEntry) → last_time last (log ++ e ∷ []) ≡ e.time
time_push last [] e = refl
time_push last (d ∷ log) e = time_push d.time log e

-- ---- what an entry is

-- a COMMIT to the auditor has its leaf
record OfLeaf (c : Option Content) (leaf : ℕ) : Type 0 where
  pub to : is_commit_to auditor c ≡ true
  pub leaf_is : leaf_in c ≡ Some leaf

of_leaf : (c : Option Content) (leaf : ℕ) → auditor_leaf c ≡ Some leaf → OfLeaf c leaf
of_leaf None leaf is = absurd cc
of_leaf (Some (Send n as4 raw)) leaf is = absurd cc
of_leaf (Some (Recv n as4 raw)) leaf is = absurd cc
of_leaf (Some (State n old new)) leaf is = absurd cc
of_leaf (Some (Ack n upto seq time hash sig)) leaf is = absurd cc
of_leaf (Some (Checkpoint body)) leaf is = absurd cc
of_leaf (Some (Promise file count delay)) leaf is = absurd cc
of_leaf (Some (Commit n l)) leaf is = by (n == auditor) refl is
  where
    by : (b : Bool) → (n == auditor) ≡ b → cond b (Some l) None ≡ Some leaf → OfLeaf (Some (Commit n l)) leaf
    by true e is = record { to = e; leaf_is = is }
    by false e is = absurd cc

of_none : (c : Option Content) → auditor_leaf c ≡ None → is_commit_to auditor c ≡ false
of_none None is = refl
of_none (Some (Send n as4 raw)) is = refl
of_none (Some (Recv n as4 raw)) is = refl
of_none (Some (State n old new)) is = refl
of_none (Some (Ack n upto seq time hash sig)) is = refl
of_none (Some (Checkpoint body)) is = refl
of_none (Some (Promise file count delay)) is = refl
of_none (Some (Commit n l)) is = by (n == auditor) refl is
  where
    by : (b : Bool) → (n == auditor) ≡ b → cond b (Some l) None ≡ None → (n == auditor) ≡ false
    by true e is = absurd cc
    by false e is = e

-- ---- one entry more

abbrev to_auditor : LogEntry → Bool
to_auditor e = is_commit_to auditor (content_of e)

after_length : (log : List LogEntry) (later : List LogEntry) → after_last to_auditor log ≡ Some later → length later + 1 ≤ length log
after_length [] later is = absurd cc
after_length (e ∷ log) later is = by (λ l f. after_length log l f) (after_last to_auditor log) refl (to_auditor e) is
  where
    by : ((l : List LogEntry) → after_last to_auditor log ≡ Some l → length l + 1 ≤ length log) → (found : Option (List LogEntry)) → after_last to_auditor log ≡ found → (b : Bool)
        → later_or found (cond b (Some log) None) ≡ Some later → length later + 1 ≤ suc (length log)
    by shorter (Some l) f b is = let same : l ≡ later = cc in omega (arith, shorter l f, ap length same)
    by shorter None f true is = let same : log ≡ later = cc in omega (arith, ap length same)
    by shorter None f false is = absurd cc

pub commit_bound : (log : List LogEntry) (k : ℕ) → last_commit auditor log ≡ Some k → k ≤ length log
commit_bound log k is = by (after_last to_auditor log) is
  where
    by : (found : Option (List LogEntry)) → option_map (λ (later : List LogEntry). length log - length later) found ≡ Some k → k ≤ length log
    by None is = absurd cc
    by (Some later) is = let same : length log - length later ≡ k = cc in omega (arith, same)

-- an entry that is no COMMIT to the auditor
commit_passes : (log : List LogEntry) (e : LogEntry) → is_commit_to auditor (content_of e) ≡ false → last_commit auditor (log ++ e ∷ []) ≡ last_commit auditor log
commit_passes log e isnt =
    ap (option_map (λ (later : List LogEntry). length (log ++ e ∷ []) - length later)) (after_last-push to_auditor log e ∙ ap (λ b. cond b (Some []) (option_map (λ l. l ++ e ∷ []) (after_last to_auditor log))) isnt)
    ∙ by (after_last to_auditor log)
  where
    by : (found : Option (List LogEntry))
        → option_map (λ (later : List LogEntry). length (log ++ e ∷ []) - length later) (option_map (λ l. l ++ e ∷ []) found) ≡ option_map (λ (later : List LogEntry). length log - length later) found
    by None = refl
    by (Some later) = ap (λ n. Some n) (omega (arith, length-append log (e ∷ []), length-append later (e ∷ [])))

seal_at_front : (asn : ℕ) (log : List LogEntry) (e : LogEntry) (k : ℕ) → k ≤ length log → seal_at asn (log ++ e ∷ []) k ≡ seal_at asn log k
seal_at_front asn log e k fits =
    ap (λ (front : List LogEntry). let seal : Seal = record { seq = k; time = last_time 0 front; leaf = unwrap_or (last_of (λ e. leaf_in (content_of e)) front) 0; value = value_after (log_chain asn) front } in seal) (take-append-le k log (e ∷ []) fits)

seal_passes : (asn : ℕ) (log : List LogEntry) (e : LogEntry) → auditor_leaf (content_of e) ≡ None → seal_of asn (log ++ e ∷ []) ≡ seal_of asn log
unfolding seal_of
seal_passes asn log e none =
    ap (option_map (seal_at asn (log ++ e ∷ []))) (commit_passes log e (of_none (content_of e) none)) ∙ by (last_commit auditor log) refl
  where
    by : (found : Option ℕ) → last_commit auditor log ≡ found → option_map (seal_at asn (log ++ e ∷ [])) found ≡ option_map (seal_at asn log) found
    by None is = refl
    by (Some k) is = ap (λ x. Some x) (seal_at_front asn log e k (commit_bound log k is))

-- an entry that is a COMMIT to the auditor
commit_stands : (log : List LogEntry) (e : LogEntry) → is_commit_to auditor (content_of e) ≡ true → last_commit auditor (log ++ e ∷ []) ≡ Some (length (log ++ e ∷ []))
commit_stands log e stands =
    ap (option_map (λ (later : List LogEntry). length (log ++ e ∷ []) - length later)) (after_last-push to_auditor log e ∙ ap (λ b. cond b (Some []) (option_map (λ l. l ++ e ∷ []) (after_last to_auditor log))) stands) ∙ ap (λ n. Some n) (omega arith)

abbrev new_seal : Sealing → LogEntry → ℕ → Seal
new_seal old e leaf = record { seq = old.chain.seq; time = e.time; leaf = leaf; value = link_value old.chain.value old.chain.seq (shown e) }

pub same_seal : (s t : Seal) → s.seq ≡ t.seq → s.time ≡ t.time → s.leaf ≡ t.leaf → s.value ≡ t.value → s ≡ t
same_seal s t a b c d = rw (a, b, c, d) refl

seal_stands : (asn : ℕ) (log : List LogEntry) (e : LogEntry) (old : Sealing) (leaf : ℕ) → IsSealingOf asn log old → auditor_leaf (content_of e) ≡ Some leaf → seal_of asn (log ++ e ∷ []) ≡ Some (new_seal old e leaf)
unfolding seal_of
seal_stands asn log e old leaf of is =
    let found = of_leaf (content_of e) leaf is in
    let whole = take-length (log ++ e ∷ []) in
    ap (option_map (seal_at asn (log ++ e ∷ []))) (commit_stands log e found.to)
    ∙ ap (λ x. Some x) (same_seal (seal_at asn (log ++ e ∷ []) (length (log ++ e ∷ []))) (new_seal old e leaf)
    (length-append log (e ∷ []) ∙ sym of.seq)
    (ap (last_time 0) whole ∙ time_push 0 log e)
    (ap (λ front. unwrap_or (last_of (λ e. leaf_in (content_of e)) front) 0) whole ∙ (ap (λ o. unwrap_or o 0) (last_of-push (λ e. leaf_in (content_of e)) log e) ∙ ap (λ (o : Option ℕ). unwrap_or (later_or o (last_of (λ e. leaf_in (content_of e)) log)) 0) found.leaf_is))
    (ap (value_after (log_chain asn)) whole ∙ (value_push (log_chain asn) log e ∙ (ap (λ v. link_value v (1 + length log) (shown e)) (sym of.value) ∙ ap (λ n. link_value old.chain.value n (shown e)) (omega (arith, of.seq))))))

abbrev pub seal_by : Option ℕ → Sealing → LogEntry → Option Seal
seal_by None old e = old.seal
seal_by (Some leaf) old e = Some (new_seal old e leaf)

pub one_more : (asn : ℕ) (log : List LogEntry) (e : LogEntry) (old new : Sealing) → new.chain ≡ chained old.chain (shown e) → new.seal ≡ seal_by (auditor_leaf (content_of e)) old e → IsSealingOf asn log old → IsSealingOf asn (log ++ e ∷ []) new
one_more asn log e old new chain seal of = record {
  value = ap (λ (c : Chain). c.value) chain ∙ (ap (λ v. link_value v old.chain.seq (shown e)) of.value ∙ (ap (λ n. link_value (value_after (log_chain asn) log) n (shown e)) (omega (arith, of.seq)) ∙ sym (value_push (log_chain asn) log e)));
  seq = ap (λ (c : Chain). c.seq) chain ∙ (omega (arith, of.seq, length-append log (e ∷ [])));
  seal = seal ∙ by (auditor_leaf (content_of e)) refl;
}
  where
    by : (found : Option ℕ) → auditor_leaf (content_of e) ≡ found → seal_by found old e ≡ seal_of asn (log ++ e ∷ [])
    by None is = of.seal ∙ sym (seal_passes asn log e is)
    by (Some leaf) is = sym (seal_stands asn log e old leaf of is)

-- ---- the head of an answer

-- what a log's last seal is
pub record OfSeal (asn : ℕ) (log : List LogEntry) (seal : Seal) : Type 0 where
  pub within : seal.seq ≤ length log
  pub is : seal ≡ seal_at asn log seal.seq

pub of_seal : (asn : ℕ) (log : List LogEntry) (seal : Seal) → Some seal ≡ seal_of asn log → OfSeal asn log seal
unfolding seal_of
of_seal asn log seal is = by (last_commit auditor log) refl is
  where
    by : (found : Option ℕ) → last_commit auditor log ≡ found → Some seal ≡ option_map (seal_at asn log) found → OfSeal asn log seal
    by None f e = absurd cc
    by (Some k) f e =
        let same : seal ≡ seal_at asn log k = cc in
        let at : seal.seq ≡ k = ap (λ (s : Seal). s.seq) same in
        record { within = omega (arith, at, commit_bound log k f); is = same ∙ ap (seal_at asn log) (sym at) }

-- the authenticator of the last entry is that of the seal with which the entries end
spelled_by : (key : Key) (front : List LogEntry) (seal : Seal) → seal.seq ≡ length front → seal.time ≡ last_time 0 front
    → seal.leaf ≡ unwrap_or (last_of (λ e. leaf_in (content_of e)) front) 0 → seal.value ≡ value_after (log_chain key.asn) front
    → authenticator (head_of key front) ≡ sealed_head key seal
unfolding head_of sealed_head
spelled_by key front seal a b c d = rw (a, b, c, d) (search rules)

pub head_spelled : (key : Key) (log : List LogEntry) (seal : Seal) → Some seal ≡ seal_of key.asn log → authenticator (head_of key (take seal.seq log)) ≡ sealed_head key seal
head_spelled key log seal is =
    let of = of_seal key.asn log seal is in
    spelled_by key (take seal.seq log) seal (sym (length-take-le seal.seq log of.within)) (ap (λ (s : Seal). s.time) of.is) (ap (λ (s : Seal). s.leaf) of.is) (ap (λ (s : Seal). s.value) of.is)
