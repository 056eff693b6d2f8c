-- The last COMMIT, by looking back.
use Rattle.std.proofs.Common.{◌≡◌, ◌↔◌, inl, inr, ℕ, zero, suc, ◌-◌, ◌<◌, Bool, true, false, List, [], ◌∷◌, ◌++◌, length, Option, Some, None, refl, ap, sym, subst, ◌∙◌, arith, eq-eqb, eqb-true}
use Rattle.std.specs.Prelude.{slice_get, if◌then◌else◌, option_map, ◌||◌}
use Rattle.std.specs.List.{list_any}
use Rattle.std.proofs.lemmas.Option.{same_Some}
use Rattle.std.proofs.lemmas.List.{length-append}
use Rattle.std.proofs.lemmas.Bool.{cases_order}
use Rattle.std.proofs.lemmas.Map.Keys.{any_passes_from_place}
use Rattle.nr_spec_log.specs.Chain.{LogEntry}
use Rattle.nr_spec_entry.specs.Contents.{Ack, Checkpoint, Commit, Content, Promise, Recv, Send, State}
use Rattle.nr_spec_entry.specs.ContentReading.{content_of}
use Rattle.nr_spec_routes.specs.LookBack.{after_last, later_or}
use Rattle.nr_spec_counts.specs.Tallies.{is_commit_to}
use Rattle.nr_spec_steps.specs.Heads.{last_commit}
use Rattle.nr_laws_answers.specs.Commits.{HasNoCommit, IsCommit, IsEntryAt, IsLastCommit}

-- ---- one entry

abbrev pub commits_to : ℕ → LogEntry → Bool
commits_to n e = is_commit_to n (content_of e)

commit_is : (n : ℕ) (o : Option Content) → is_commit_to n o ≡ true → (leaf : ℕ) × (o ≡ Some (Commit n leaf))
commit_is n None passes = absurd cc
commit_is n (Some (Send neighbour as4 raw)) passes = absurd cc
commit_is n (Some (Recv neighbour as4 raw)) passes = absurd cc
commit_is n (Some (State neighbour old new)) passes = absurd cc
commit_is n (Some (Ack neighbour upto seq time hash sig)) passes = absurd cc
commit_is n (Some (Commit neighbour leaf)) passes = (leaf, ap (λ m. Some (Commit m leaf)) (eqb-true neighbour n passes))
commit_is n (Some (Checkpoint body)) passes = absurd cc
commit_is n (Some (Promise file count delay)) passes = absurd cc

passes_where : (n : ℕ) (e : LogEntry) (leaf : ℕ) → content_of e ≡ Some (Commit n leaf) → commits_to n e ≡ true
passes_where n e leaf is = ap (is_commit_to n) is ∙ eq-eqb n n refl

entry_is : (log : List LogEntry) (seq place : ℕ) (e : LogEntry) → seq ≡ suc place → slice_get log place ≡ Some e → IsEntryAt log seq e
entry_is log seq place e is got = subst (λ (k : ℕ). IsEntryAt log k e) (sym is) got

-- where an entry with a number stands
record Placed (log : List LogEntry) (seq : ℕ) (e : LogEntry) : Type 0 where
  place : ℕ
  number : seq ≡ suc place
  got : slice_get log place ≡ Some e

placed : (log : List LogEntry) (seq : ℕ) (e : LogEntry) → IsEntryAt log seq e → Placed log seq e
placed log zero e at = absurd at
placed log (suc place) e at = record { place = place; number = refl; got = at }

-- ---- places in a list that is cut at an element

module _ {A : Type 0} where
  pub seam : (xs : List A) (y : A) (ys : List A) → slice_get (xs ++ (y ∷ ys)) (length xs) ≡ Some y
  seam [] y ys = refl
  seam (x ∷ xs) y ys = seam xs y ys

  behind : (xs : List A) (y : A) (ys : List A) (place : ℕ) (x : A) → length xs < place
      → slice_get (xs ++ (y ∷ ys)) place ≡ Some x → (k : ℕ) × (slice_get ys k ≡ Some x)
  behind [] y ys zero x less got = absurd (omega (arith, less))
  behind [] y ys (suc k) x less got = (k, got)
  behind (z ∷ xs) y ys zero x less got = absurd (omega (arith, less))
  behind (z ∷ xs) y ys (suc k) x less got = behind xs y ys k x (omega (arith, less)) got

pub mapped : {A B : Type 0} (f : A → B) (o : Option A) (b : B) → option_map f o ≡ Some b → (a : A) × (o ≡ Some a) × (f a ≡ b)
mapped f None b is = absurd cc
mapped f (Some a) b is = (a, refl, same_Some (f a) b is)

pub unmapped : {A B : Type 0} (f : A → B) (o : Option A) → option_map f o ≡ None → o ≡ None
unmapped f None is = refl
unmapped f (Some a) is = absurd cc

clash : (b : Bool) → b ≡ true → b ≡ false → ⊥
clash b p q = cc

-- ---- a log that is cut at its last COMMIT

pub record Cut (n : ℕ) (log later : List LogEntry) : Type 0 where
  pub before : List LogEntry
  pub entry : LogEntry
  pub leaf : ℕ
  pub is : log ≡ before ++ (entry ∷ later)
  pub content : content_of entry ≡ Some (Commit n leaf)
  pub none_later : list_any (commits_to n) later ≡ false

no_last : (n : ℕ) (log : List LogEntry) → after_last (commits_to n) log ≡ None → list_any (commits_to n) log ≡ false
no_last n [] is = refl
no_last n (x ∷ xs) is = go (after_last (commits_to n) xs) (no_last n xs) refl is
  where
    here : (b : Bool) → commits_to n x ≡ b → (if b then Some xs else None) ≡ None → list_any (commits_to n) xs ≡ false → list_any (commits_to n) (x ∷ xs) ≡ false
    here true at found none = absurd cc
    here false at found none = ap (λ (b : Bool). b || list_any (commits_to n) xs) at ∙ none

    go : (o : Option (List LogEntry)) → (after_last (commits_to n) xs ≡ None → list_any (commits_to n) xs ≡ false) → after_last (commits_to n) xs ≡ o
        → later_or o (if commits_to n x then Some xs else None) ≡ None → list_any (commits_to n) (x ∷ xs) ≡ false
    go (Some l) none at found = absurd cc
    go None none at found = here (commits_to n x) refl found (none at)

pub cut : (n : ℕ) (log later : List LogEntry) → after_last (commits_to n) log ≡ Some later → Cut n log later
cut n [] later is = absurd cc
cut n (x ∷ xs) later is = go (after_last (commits_to n) xs) (cut n xs) refl is
  where
    more : (l : List LogEntry) → Cut n xs l → Cut n (x ∷ xs) l
    more l c = record {
      before = x ∷ c.before;
      entry = c.entry;
      leaf = c.leaf;
      is = ap (λ (t : List LogEntry). x ∷ t) c.is;
      content = c.content;
      none_later = c.none_later;
    }

    at_head : commits_to n x ≡ true → list_any (commits_to n) xs ≡ false → Cut n (x ∷ xs) xs
    at_head passes none =
        let c = commit_is n (content_of x) passes in
        record { before = []; entry = x; leaf = c.0; is = refl; content = c.1; none_later = none }

    here : (b : Bool) → commits_to n x ≡ b → (if b then Some xs else None) ≡ Some later → list_any (commits_to n) xs ≡ false → Cut n (x ∷ xs) later
    here true at found none = subst (λ (l : List LogEntry). Cut n (x ∷ xs) l) (same_Some xs later found) (at_head at none)
    here false at found none = absurd cc

    go : (o : Option (List LogEntry)) → ((l : List LogEntry) → after_last (commits_to n) xs ≡ Some l → Cut n xs l) → after_last (commits_to n) xs ≡ o
        → later_or o (if commits_to n x then Some xs else None) ≡ Some later → Cut n (x ∷ xs) later
    go (Some l) cuts at found = subst (λ (k : List LogEntry). Cut n (x ∷ xs) k) (same_Some l later found) (more l (cuts l at))
    go None cuts at found = here (commits_to n x) refl found (no_last n xs at)

-- the log is cut at the number that is found
pub record Found (n : ℕ) (log : List LogEntry) (seq : ℕ) : Type 0 where
  pub later : List LogEntry
  pub at : Cut n log later
  pub number : seq ≡ suc (length at.before)

pub found : (n : ℕ) (log : List LogEntry) (seq : ℕ) → last_commit n log ≡ Some seq → Found n log seq
found n log seq is =
    let m = mapped (λ (l : List LogEntry). length log - length l) (after_last (commits_to n) log) seq is in
    let c = cut n log m.0 m.1 in
    let long = ap length c.is ∙ length-append c.before (c.entry ∷ m.0) in
    record { later = m.0; at = c; number = omega (arith, m.2, long) }

pub last_of_found : (n : ℕ) (log : List LogEntry) (seq : ℕ) (f : Found n log seq) → IsLastCommit n log seq f.at.leaf
last_of_found n log seq f =
    let c = f.at in
    record {
      is_one = record {
        entry = c.entry;
        of_log = entry_is log seq (length c.before) c.entry f.number (ap (λ (t : List LogEntry). slice_get t (length c.before)) c.is ∙ seam c.before c.entry f.later);
        content = c.content;
      };
      no_later = λ later leaf more one.
          let p = placed log later one.entry one.of_log in
          let b = behind c.before c.entry f.later p.place one.entry (omega (arith, more, f.number, p.number)) (ap (λ (t : List LogEntry). slice_get t p.place) (sym c.is) ∙ p.got) in
          clash (list_any (commits_to n) f.later) (any_passes_from_place (commits_to n) f.later b.0 one.entry b.1 (passes_where n one.entry leaf one.content)) c.none_later;
    }

-- ---- what is found

pub no_commit : (n : ℕ) (log : List LogEntry) → last_commit n log ≡ None → HasNoCommit n log
no_commit n log is = λ seq leaf one.
    let none = no_last n log (unmapped (λ (l : List LogEntry). length log - length l) (after_last (commits_to n) log) is) in
    let p = placed log seq one.entry one.of_log in
    clash (list_any (commits_to n) log) (any_passes_from_place (commits_to n) log p.place one.entry p.got (passes_where n one.entry leaf one.content)) none

pub none_found : (n : ℕ) (log : List LogEntry) → HasNoCommit n log → last_commit n log ≡ None
none_found n log none = go (last_commit n log) refl
  where
    go : (o : Option ℕ) → last_commit n log ≡ o → last_commit n log ≡ None
    go None is = is
    go (Some k) is = let f = found n log k is in absurd (none k f.at.leaf (last_of_found n log k f).is_one)

pub one_last : (n : ℕ) (log : List LogEntry) (k l a b : ℕ) → IsLastCommit n log k a → IsLastCommit n log l b → k ≡ l
one_last n log k l a b p q = elim (cases_order k l) [
  | inl same ↦ same
  | inr differ ↦ elim differ [
    | inl less ↦ absurd (p.no_later l b less q.is_one)
    | inr more ↦ absurd (q.no_later k a more p.is_one)
  ]
]

pub last_found : (n : ℕ) (log : List LogEntry) (seq leaf : ℕ) → IsLastCommit n log seq leaf → last_commit n log ≡ Some seq
last_found n log seq leaf last = go (last_commit n log) refl
  where
    go : (o : Option ℕ) → last_commit n log ≡ o → last_commit n log ≡ Some seq
    go None is = absurd (no_commit n log is seq leaf last.is_one)
    go (Some k) is = let f = found n log k is in is ∙ ap (λ (m : ℕ). Some m) (one_last n log k seq f.at.leaf leaf (last_of_found n log k f) last)

pub found_where_last : (n : ℕ) (log : List LogEntry) (seq : ℕ) → (last_commit n log ≡ Some seq) ↔ ((leaf : ℕ) × IsLastCommit n log seq leaf)
found_where_last n log seq = (
  λ is. let f = found n log seq is in (f.at.leaf, last_of_found n log seq f),
  λ last. last_found n log seq last.0 last.1,
)

pub none_where_no_commit : (n : ℕ) (log : List LogEntry) → (last_commit n log ≡ None) ↔ HasNoCommit n log
none_where_no_commit n log = (no_commit n log, none_found n log)

leaf_of : Option Content → Option ℕ
leaf_of (Some (Commit neighbour leaf)) = Some leaf
leaf_of other = None

pub one_leaf : (n : ℕ) (log : List LogEntry) (seq a b : ℕ) → IsCommit n log seq a → IsCommit n log seq b → a ≡ b
unfolding leaf_of
one_leaf n log seq a b p q =
    let i = placed log seq p.entry p.of_log in
    let j = placed log seq q.entry q.of_log in
    let place : i.place ≡ j.place = omega (arith, i.number, j.number) in
    let same : p.entry ≡ q.entry = same_Some p.entry q.entry (sym i.got ∙ ap (slice_get log) place ∙ j.got) in
    same_Some a b (ap leaf_of (sym p.content ∙ ap content_of same ∙ q.content))
