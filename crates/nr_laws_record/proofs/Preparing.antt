-- What is done before the first turn of a recording.
use Rattle.std.proofs.Common.{◌≡◌, inl, inr, ℕ, ◌+◌, ◌^◌, ◌<◌, List, [], ◌∷◌, length, Option, Some, None, Result, Ok, false, refl, ap, sym, subst, ◌∙◌}
use Rattle.std.specs.Prelude.{map, nat_le, option_map, ◌&&◌, ◌==◌}
use Rattle.std.specs.Str.{bytes_eq}
use Rattle.std.proofs.Math.Pow.{pow_pos}
use Rattle.std.proofs.lemmas.Bool.{cases_Bool}
use Rattle.nr_spec_bgp.specs.Records.{Item}
use Rattle.nr_spec_wire.specs.Reading.{IsBytes, Spot, ends_at, start_of}
use Rattle.nr_laws_log.proofs.Fields.{bytes_step, number_step, wants_step}
use Rattle.nr_spec_wire.proofs.Steps.{bind_ok, wants_ok}
use Rattle.nr_spec_log.specs.Authenticator.{digest_size, magic_at}
use Rattle.nr_spec_keys.specs.Trees.{tree_of}
use Rattle.nr_spec_keys.proofs.TreeLemmas.{length-node_at}
use Rattle.nr_spec_history.specs.KeyFiles.{Key, key_magic, key_root, seed_size}
use Rattle.nr_spec_plans.specs.Disk.{Contents, Disk, Told, bytes_of}
use Rattle.nr_spec_plans.specs.Plans.{Action, Ask, Read, Cut, Write, Sync, Done, Halt, Room, Runs, followed_by, ◌>>=◌, want}
use Rattle.nr_spec_plans.specs.Laws.{Each, IsRead, Kept, Spares, outcome}
use Rattle.nr_spec_plans.specs.Order.{Refuses}
use Rattle.nr_spec_plans.proofs.OrderLaws.{refuses_followed}
use Rattle.nr_spec_plans.proofs.PlanLaws.{each_followed, ends_followed, ends_so, spares_others, writes_nothing}
use Rattle.nr_spec_plans.specs.Laws.{Ends}
use Rattle.nr_spec_plans.proofs.StepLaws.{done_only, each_as}
use Rattle.nr_spec_crash.specs.Crashes.{IsWithin}
use Rattle.nr_laws_crash.proofs.FirmLaws.{within_kept}
use Rattle.nr_spec_store.specs.LogFile.{LogFile}
use Rattle.nr_spec_store.specs.StorePlans.{load_plan, loading}
use Rattle.nr_laws_store.proofs.Loads.{read_as}
use Rattle.nr_laws_store.proofs.LoadLaws.{load_awaits, load_keeps}
use Rattle.nr_laws_store.proofs.LoadLaws as loads
use Rattle.nr_laws_store.proofs.LogLaws.{log_takes}
use Rattle.nr_spec_recording.specs.Records.{records_of}
use Rattle.nr_spec_recording.specs.Events.{records_in_order, skipped, too_long}
use Rattle.nr_spec_commands.specs.Words.{RecordRequest, Record}
use Rattle.nr_spec_texts.specs.Promises.{PromiseFile, promise_of}
use Rattle.nr_spec_program.specs.Keys.{key_of}
use Rattle.nr_spec_program.specs.Command.{Ending, LogFact, MrtInput, PromiseInput, Refusal, Work, load, promise_plan, well_formed}
use Rattle.nr_spec_program.specs.Recording.{born_plan, key_file_plan, log_network, log_plan, long_message, mrt_plan, other_network, other_root, record_plan, recorded_ending, speakers_of, turns_plan, unless, unread_log}
use Rattle.nr_spec_program.specs.Table.{plan_of}
use Rattle.nr_spec_program.specs.Causes.{IsReadOrSync, is_met_late}
use Rattle.nr_laws_program.proofs.Phases.{only_holds, phased_each, phased_gives}
use Rattle.nr_laws_program.proofs.LogKinds.{KindLoads}
use Rattle.nr_laws_program.proofs.PlanKinds.{KindReads, promise_each}
use Rattle.nr_laws_program.proofs.RecordPlans.{AllRead, IsLate, key_file_each, log_each, mrt_each, unless_each}
use Rattle.nr_laws_program.proofs.FileLaws.{loads_log, looks, reads_or_syncs, told_still}
use Rattle.nr_laws_program.proofs.FileOrder.{formed_refuses, load_refuses}
use Rattle.nr_laws_program.proofs.RecordOrder.{key_file_refuses, log_refuses, mrt_refuses}
use Rattle.nr_laws_program.proofs.Outcomes.{apart, formed_gives, load_gives, log_gives, together_so}
use Rattle.nr_laws_program.proofs.ReplyLaws.{key_file_gives}
use Rattle.nr_laws_program.proofs.Parts.{nothing_done, ok_apart}
use Rattle.nr_laws_recording.proofs.Crashing.{refusing_ok}
use Rattle.nr_laws_record.specs.Recorded.{IsPrepared, MayRecord, Prepared, prepare_plan, recorder_in, turns_in, Stands}

-- ---- the plan in two parts

-- what is left once all is read
abbrev pub recorded_from : RecordRequest → Prepared → Work Ending
recorded_from q p = do
  log ← born_plan q.log p.key p.found
  longer ← turns_plan q.log (recorder_in p) log (turns_in q p)
  told ← want
  Done (recorded_ending log longer (skipped (speakers_of p.promise) p.files))

done_then : (q : RecordRequest) (p : Prepared) → followed_by (Done p) (recorded_from q) ≡ recorded_from q p
unfolding followed_by
done_then q p = refl

pub record_parts : (q : RecordRequest) → (prepare_plan q >>= recorded_from q) ≡ plan_of (Record q)
unfolding plan_of record_plan prepare_plan
record_parts q =
    together_so (promise_plan q.promise) _ (recorded_from q) _ (λ promise.
    together_so (key_file_plan q.key) _ (recorded_from q) _ (λ key.
    together_so want _ (recorded_from q) _ (λ room.
    together_so (mrt_plan 1 q.files) _ (recorded_from q) _ (λ files.
    together_so (log_plan q.log) _ (recorded_from q) _ (λ found.
    together_so (unless _) _ (recorded_from q) _ (λ key_network.
    together_so (unless _) _ (recorded_from q) _ (λ network.
    together_so want _ (recorded_from q) _ (λ tree.
    together_so (unless _) _ (recorded_from q) _ (λ root.
    together_so want _ (recorded_from q) _ (λ ready.
    together_so (unless _) _ (recorded_from q) _ (λ fits. done_then q (record { promise = promise; key = key; files = files; found = found }))))))))))))

-- what is done once the log is loaded
abbrev pub checked : PromiseFile → Key → List (List Item) → Option LogFile → Work Prepared
checked promise key files found = do
  key_network ← unless (other_network key.asn promise.says.network)
  network ← unless (log_network found promise.says.network)
  tree ← want
  root ← unless (other_root (key_root key) found)
  ready ← want
  fits ← unless (long_message (too_long (records_in_order (speakers_of promise) files)))
  Done (record { promise = promise; key = key; files = files; found = found })

pub checked_each : (kind : Action → Type 0) (promise : PromiseFile) (key : Key) (files : List (List Item)) (found : Option LogFile) → Each kind (checked promise key files found)
checked_each kind promise key files found =
    each_followed kind _ _ (unless_each kind _) (λ a. each_followed kind _ _ (unless_each kind _) (λ b. each_followed kind want _ tt (λ c. each_followed kind _ _ (unless_each kind _) (λ d.
    each_followed kind want _ tt (λ e. each_followed kind _ _ (unless_each kind _) (λ f. tt))))))

checked_ends : (promise : PromiseFile) (key : Key) (files : List (List Item)) (found : Option LogFile) → Ends (λ p. p.found ≡ found) (checked promise key files found)
checked_ends promise key files found =
    ends_followed (λ p. p.found ≡ found) _ _ (λ a. ends_followed (λ p. p.found ≡ found) _ _ (λ b. ends_followed (λ p. p.found ≡ found) want _ (λ c. ends_followed (λ p. p.found ≡ found) _ _ (λ d.
    ends_followed (λ p. p.found ≡ found) want _ (λ e. ends_followed (λ p. p.found ≡ found) _ _ (λ f. refl))))))

pub prepare_each : (kind : Action → Type 0) (q : RecordRequest) → KindReads kind q.promise → KindReads kind q.key → AllRead kind q.files → KindLoads kind q.log → Each kind (prepare_plan q)
unfolding prepare_plan
prepare_each kind q promise key files loads =
    each_followed kind _ _ (promise_each kind q.promise promise) (λ p.
    each_followed kind _ _ (key_file_each kind q.key key) (λ k.
    each_followed kind want _ tt (λ a.
    each_followed kind _ _ (mrt_each kind 1 q.files files) (λ items.
    each_followed kind _ _ (log_each kind q.log loads) (λ found. checked_each kind p k items found)))))

abbrev LooksFor : RecordRequest → Action → Type 0
LooksFor q = IsReadOrSync (q.log ∷ [])

prepare_looks : (q : RecordRequest) → Each (LooksFor q) (prepare_plan q)
prepare_looks q = prepare_each (LooksFor q) q (looks (q.log ∷ []) q.promise) (looks (q.log ∷ []) q.key) (λ name is. looks (q.log ∷ []) name) (loads_log q.log)

pub prepare_holds : (q : RecordRequest) (old new : Disk) (result : Result Prepared (Halt Refusal)) → Runs (prepare_plan q) old new result → option_map (λ t. t.holds) new.told ≡ option_map (λ t. t.holds) old.told
prepare_holds q old new result runs = only_holds (LooksFor q) old new (reads_or_syncs (q.log ∷ [])) (done_only (LooksFor q) (prepare_plan q) old new result (prepare_looks q) runs)

-- ---- what the files give

unless_gives : (held : Contents) (fact : Option LogFact) (x : Unit {0}) → outcome held (unless fact) ≡ Ok x → fact ≡ None
unless_gives held None x is = refl
unless_gives held (Some fact) x is = absurd cc

promise_gives : (held : Contents) (name : List ℕ) (promise : PromiseFile) → outcome held (promise_plan name) ≡ Ok promise → promise_of (bytes_of (held name)) ≡ Ok promise
unfolding promise_plan
promise_gives held name promise is =
    let a = apart held (load PromiseInput name) (λ text. Room (well_formed PromiseInput (promise_of text))) promise is in
    ap promise_of (sym (load_gives held PromiseInput name a.0 a.1)) ∙ formed_gives held PromiseInput (promise_of a.0) promise a.2

-- each file's records
abbrev Given : Contents → List ℕ → Result (List Item) ℕ
Given held name = records_of (bytes_of (held name))

mrt_gives : (held : Contents) (number : ℕ) (names : List (List ℕ)) (files : List (List Item)) → outcome held (mrt_plan number names) ≡ Ok files → map (Given held) names ≡ map (λ f. Ok f) files
unfolding mrt_plan
mrt_gives held number [] files is = let e : [] ≡ files = cc in ap (map (λ f. Ok f)) e
mrt_gives held number (name ∷ others) files is =
    let a = apart held (load (MrtInput number) name) _ files is in
    let b = apart held (well_formed (MrtInput number) (records_of a.0)) _ files a.2 in
    let c = apart held want _ files b.2 in
    let d = apart held (mrt_plan (number + 1) others) _ files c.2 in
    let e : b.0 ∷ d.0 ≡ files = (let k = d.2 in cc) in
    let first : Given held name ≡ Ok b.0 = ap records_of (sym (load_gives held (MrtInput number) name a.0 a.1)) ∙ formed_gives held (MrtInput number) (records_of a.0) b.0 b.1 in
    let rest : map (Given held) others ≡ map (λ f. Ok f) d.0 = mrt_gives held (number + 1) others d.0 d.1 in
    ap (λ x. x ∷ map (Given held) others) first ∙ ap (λ xs. Ok b.0 ∷ xs) rest ∙ ap (map (λ f. Ok f)) e

same_given : (x y : Prepared) → (let r : Result Prepared Refusal = Ok x in r) ≡ Ok y → x ≡ y
same_given x y is = cc

prepared_is : (held : Contents) (q : RecordRequest) (p : Prepared) → outcome held (prepare_plan q) ≡ Ok p → IsPrepared held q p
unfolding prepare_plan
prepared_is held q p is =
    let a = apart held (promise_plan q.promise) _ p is in
    let b = apart held (key_file_plan q.key) _ p a.2 in
    let c = apart held want _ p b.2 in
    let d = apart held (mrt_plan 1 q.files) _ p c.2 in
    let e = apart held (log_plan q.log) _ p d.2 in
    let f = apart held (unless (other_network b.0.asn a.0.says.network)) _ p e.2 in
    let g = apart held (unless (log_network e.0 a.0.says.network)) _ p f.2 in
    let h = apart held want _ p g.2 in
    let i = apart held (unless (other_root (key_root b.0) e.0)) _ p h.2 in
    let j = apart held want _ p i.2 in
    let k = apart held (unless (long_message (too_long (records_in_order (speakers_of a.0) d.0)))) _ p j.2 in
    let whole : Prepared = record { promise = a.0; key = b.0; files = d.0; found = e.0 } in
    let same : whole ≡ p = same_given whole p k.2 in
    subst (λ (r : Prepared). IsPrepared held q r) same (record {
      promise = promise_gives held q.promise a.0 a.1;
      key = key_file_gives held q.key b.0 b.1;
      files = mrt_gives held 1 q.files d.0 d.1;
      found = log_gives held q.log e.0 e.1;
      own = unless_gives held (other_network b.0.asn a.0.says.network) f.0 f.1;
      network = unless_gives held (log_network e.0 a.0.says.network) g.0 g.1;
      root = unless_gives held (other_root (key_root b.0) e.0) i.0 i.1;
      roomy = unless_gives held (long_message (too_long (records_in_order (speakers_of a.0) d.0))) k.0 k.1;
    })

-- ---- keys

-- what stands after the first bytes is bytes
magic_passed : (magic : List ℕ) (s : Spot) (found : List ℕ × Spot) → IsBytes s.rest → magic_at magic s ≡ Ok found → IsBytes found.1.rest
magic_passed magic s found fits is =
    let a = bytes_step 4 s _ found fits is in
    let w = wants_ok (bytes_eq a.value magic) s.at (a.value, a.next) found a.goes_on in
    subst (λ (p : List ℕ × Spot). IsBytes p.1.rest) w.1 a.takes.rest_fits

pub key_small : (bytes : List ℕ) (key : Key) → IsBytes bytes → key_of bytes ≡ Ok key → key.asn < 2 ^ 32
unfolding key_of
key_small bytes key fits is =
    let a = bind_ok (magic_at key_magic (start_of bytes)) _ key is in
    let b = number_step 4 a.0.1 _ key (magic_passed key_magic (start_of bytes) a.0 fits a.1) a.2 in
    let c = number_step 1 b.next _ key b.takes.rest_fits b.goes_on in
    let d = wants_step (nat_le 1 c.value && nat_le c.value 16) b.next.at (c.value, c.next) _ key c.goes_on in
    let e = bytes_step seed_size c.next _ key c.takes.rest_fits d.1 in
    let f = ended e.next (record { asn = b.value; height = c.value; seed = e.value }) key e.goes_on in
    subst (λ (k : Key). k.asn < 2 ^ 32) {x = record { asn = b.value; height = c.value; seed = e.value }} f b.value_fits
  where
    ended : (s : Spot) (x y : Key) → ends_at s x ≡ Ok y → x ≡ y
    ended s x y e = elim (cases_Bool (length s.rest == 0)) [ inl by ↦ (let k = rw by at e in cc) | inr by ↦ absurd (let k = rw by at e in cc) ]

one_leaf : (height : ℕ) → 0 < 2 ^ height
one_leaf height = pow_pos height

pub root_size : (key : Key) → length (key_root key) ≡ digest_size
unfolding key_root tree_of
root_size key = length-node_at key.seed key.height key.height 0 (λ none. one_leaf key.height)

-- ---- the log once it is loaded

load_stands : (name : List ℕ) (old new : Disk) (t : Told) (found : Option LogFile) → old.told ≡ Some t → IsBytes (bytes_of (t.holds name)) → (t.holds name ≡ None → IsWithin name 43 old) → Runs (load_plan name) old new (Ok found) → Stands new name found
load_stands name old new t None told fits absent runs = load_awaits name old new t told absent runs
load_stands name old new t (Some log) told fits absent runs =
    let given : loading (bytes_of (t.holds name)) ≡ Ok (Some log) = loads.load_gives name old new t (Ok (Some log)) told runs in
    load_keeps name old new t log told (log_takes (bytes_of (t.holds name)) log fits (read_as (bytes_of (t.holds name)) (Some log) given)) runs

-- what steps that read leave
record Still (name : List ℕ) (old new : Disk) : Type 0 where
  pub holds : option_map (λ t. t.holds) new.told ≡ option_map (λ t. t.holds) old.told
  pub kept : Kept name old.told new.told

read_spares : (name : List ℕ) (action : Action) → IsRead action → Spares name action
read_spares name (Ask other) is = tt
read_spares name (Read other size) is = tt
read_spares name (Cut other len) is = absurd is
read_spares name (Write other at bytes) is = absurd is
read_spares name (Sync other) is = absurd is

reads_still : {A : Type 0} (name : List ℕ) (p : Work A) (old new : Disk) (result : Result A (Halt Refusal)) → Each IsRead p → Runs p old new result → Still name old new
reads_still name p old new result each runs = record { holds = (writes_nothing p old new result each runs).holds; kept = spares_others name p old new result (each_as IsRead (Spares name) (read_spares name) p each) runs }

still_more : (name : List ℕ) (old mid new : Disk) → Still name old mid → Still name mid new → Still name old new
still_more name old mid new a b = record { holds = b.holds ∙ a.holds; kept = record { holds = b.kept.holds ∙ a.kept.holds; loose = b.kept.loose ∙ a.kept.loose } }

reads : (name : List ℕ) → KindReads IsRead name
reads name = record { ask = tt; read = λ size. tt }

pub record Ready (q : RecordRequest) (mid : Disk) (t : Told) (p : Prepared) : Type 0 where
  pub is : IsPrepared t.holds q p
  pub stands : Stands mid q.log p.found
  pub small : p.key.asn < 2 ^ 32

prepare_stands : (q : RecordRequest) (old mid : Disk) (t : Told) (p : Prepared) → MayRecord q old t → Runs (prepare_plan q) old mid (Ok p) → Stands mid q.log p.found
unfolding prepare_plan
prepare_stands q old mid t p may runs =
    let a = ok_apart (promise_plan q.promise) _ old mid p runs in
    let b = ok_apart (key_file_plan q.key) _ a.0 mid p a.3 in
    let c = ok_apart want _ b.0 mid p b.3 in
    let d = ok_apart (mrt_plan 1 q.files) _ c.0 mid p c.3 in
    let e = ok_apart (log_plan q.log) (λ found. checked a.1 b.1 d.1 found) d.0 mid p d.3 in
    let first = reads_still q.log (promise_plan q.promise) old a.0 (Ok a.1) (promise_each IsRead q.promise (reads q.promise)) a.2 in
    let second = reads_still q.log (key_file_plan q.key) a.0 b.0 (Ok b.1) (key_file_each IsRead q.key (reads q.key)) b.2 in
    let third = reads_still q.log want b.0 c.0 (Ok c.1) tt c.2 in
    let fourth = reads_still q.log (mrt_plan 1 q.files) c.0 d.0 (Ok d.1) (mrt_each IsRead 1 q.files (λ name is. reads name)) d.2 in
    let s = still_more q.log old c.0 d.0 (still_more q.log old b.0 c.0 (still_more q.log old a.0 b.0 first second) third) fourth in
    let m = told_still old.told d.0.told t may.told s.holds in
    let fits : IsBytes (bytes_of (m.0.holds q.log)) = subst (λ (h : Contents). IsBytes (bytes_of (h q.log))) (sym m.2) may.log in
    let stood = load_stands q.log d.0 e.0 m.0 e.1 m.1 fits (λ none. within_kept q.log 43 old d.0 s.kept (may.absent (ap (λ (h : Contents). h q.log) (sym m.2) ∙ none))) (refusing_ok unread_log (load_plan q.log) d.0 e.0 e.1 e.2) in
    let same : mid ≡ e.0 = nothing_done (checked a.1 b.1 d.1 e.1) e.0 mid (Ok p) (checked_each (λ action. ⊥) a.1 b.1 d.1 e.1) e.3 in
    let found : p.found ≡ e.1 = ends_so (λ r. r.found ≡ e.1) (checked a.1 b.1 d.1 e.1) e.0 mid p (checked_ends a.1 b.1 d.1 e.1) e.3 in
    subst (λ (d : Disk). Stands d q.log p.found) (sym same) (subst (λ (f : Option LogFile). Stands e.0 q.log f) (sym found) stood)

pub prepare_ready : (q : RecordRequest) (old mid : Disk) (t : Told) (p : Prepared) → MayRecord q old t → Runs (prepare_plan q) old mid (Ok p) → Ready q mid t p
prepare_ready q old mid t p may runs =
    let is = prepared_is t.holds q p (phased_gives (LooksFor q) IsLate (reads_or_syncs (q.log ∷ [])) (prepare_plan q) t.holds old mid (Ok p) (phased_each (LooksFor q) IsLate (prepare_plan q) (prepare_looks q)) (ap (option_map (λ (t : Told). t.holds)) may.told) runs) in
    record { is = is; stands = prepare_stands q old mid t p may runs; small = key_small (bytes_of (t.holds q.key)) p.key may.key is.key }

-- ---- what is refused before the first turn

-- no refusal that a turn meets
abbrev pub IsEarly : Refusal → Type 0
IsEarly refusal = is_met_late refusal ≡ false

network_early : (found wanted : ℕ) → Refuses IsEarly (unless (other_network found wanted))
network_early found wanted = elim (cases_Bool (found == wanted)) [ inl is ↦ rw is tt | inr is ↦ rw is refl ]

log_early : (found : Option LogFile) (wanted : ℕ) → Refuses IsEarly (unless (log_network found wanted))
log_early None wanted = tt
log_early (Some log) wanted = network_early log.asn wanted

root_early : (root : List ℕ) (found : Option LogFile) → Refuses IsEarly (unless (other_root root found))
root_early root None = tt
root_early root (Some log) = elim (cases_Bool (bytes_eq root log.root)) [ inl is ↦ rw is tt | inr is ↦ rw is refl ]

long_early : (found : Option ℕ) → Refuses IsEarly (unless (long_message found))
long_early None = tt
long_early (Some found) = refl

promise_early : (name : List ℕ) → Refuses IsEarly (promise_plan name)
unfolding promise_plan
promise_early name = refuses_followed IsEarly _ _ (load_refuses IsEarly PromiseInput name refl (λ found. refl)) (λ text. formed_refuses IsEarly PromiseInput (promise_of text) (λ place. refl))

pub prepare_early : (q : RecordRequest) → Refuses IsEarly (prepare_plan q)
unfolding prepare_plan
prepare_early q =
    refuses_followed IsEarly _ _ (promise_early q.promise) (λ promise.
    refuses_followed IsEarly _ _ (key_file_refuses IsEarly q.key refl (λ found. refl) (λ place. refl)) (λ key.
    refuses_followed IsEarly want _ tt (λ room.
    refuses_followed IsEarly _ _ (mrt_refuses IsEarly 1 q.files (record { none = λ n le. refl; limit = λ n found le. refl; malformed = λ n place le. refl })) (λ files.
    refuses_followed IsEarly _ _ (log_refuses IsEarly q.log (λ found. refl) (λ place. refl)) (λ found.
    refuses_followed IsEarly _ _ (network_early key.asn promise.says.network) (λ a.
    refuses_followed IsEarly _ _ (log_early found promise.says.network) (λ b.
    refuses_followed IsEarly want _ tt (λ c.
    refuses_followed IsEarly _ _ (root_early (key_root key) found) (λ d.
    refuses_followed IsEarly want _ tt (λ e.
    refuses_followed IsEarly _ _ (long_early (too_long (records_in_order (speakers_of promise) files))) (λ f. tt)))))))))))
