-- What a crash at any moment of a plan may leave.
use Rattle.std.proofs.Common.{◌≡◌, ℕ, ◌-◌, List, [], ◌∷◌, ◌++◌, length, take, Option, None, Some, Result, Ok, Err, refl, sym, ap, subst, ◌∙◌, inl, inr, ◌⊎◌, ⊎_elim, append_assoc, arith}
use Rattle.std.specs.Prelude.{option_map}
use Rattle.std.proofs.lemmas.List.{take_at, length-append}
use Rattle.nr_spec_plans.specs.Disk.{Disk, Told, Moment, Fault, ReadFault, WriteFault, Memory, moment_of, later, ticking, Leaves}
use Rattle.nr_spec_plans.specs.Plans.{Action, Answer, Acts, Ask, Read, Cut, Write, Sync, Plan, Done, Refuse, Room, Act, Halt, Runs, followed_by}
use Rattle.nr_spec_plans.specs.Laws.{Each, Unchanged, Spares, Kept}
use Rattle.nr_spec_crash.specs.Images.{IsImage}
use Rattle.nr_spec_crash.specs.Crashes.{Now, Sometime, MayLeave, Crashes, Any, Since}
use Rattle.nr_spec_plans.proofs.PlanLaws.{step_unchanged, step_keeps}

-- ---- before, after, and one plan after another

-- a crash before the first step
pub crash_before : {E A : Type 0} (p : Plan E A) (old : Disk) (Q : Moment → Type 0) → Now old Q → Sometime p old Q
unfolding Sometime
crash_before (Done value) old Q left = left
crash_before (Refuse refusal) old Q left = left
crash_before (Room next) old Q left = crash_before next old Q left
crash_before (Act action next) old Q left = inl left

may_leave_same : {old new : Disk} (Q : Moment → Type 0) → new ≡ old → Now new Q → Now old Q
may_leave_same Q same left = (left.0, ap (λ (d : Disk). d.told) (sym same) ∙ left.1, left.2)

-- a crash after the last step
pub crash_after : {E A : Type 0} (p : Plan E A) (old new : Disk) (result : Result A (Halt E)) (Q : Moment → Type 0) → Runs p old new result → Now new Q → Sometime p old Q
unfolding Sometime Runs
crash_after (Done value) old new result Q (same, is) left = may_leave_same Q same left
crash_after (Refuse refusal) old new result Q (same, is) left = may_leave_same Q same left
crash_after (Room next) old new result Q (inl (same, is)) left = crash_before next old Q (may_leave_same Q same left)
crash_after (Room next) old new result Q (inr runs) left = crash_after next old new result Q runs left
crash_after (Act action next) old new result Q (mid, Ok answer, acts, goes) left = inr (mid, Ok answer, acts, crash_after (next answer) mid new result Q goes left)
crash_after (Act action next) old new result Q (mid, Err fault, acts, (same, is)) left = inr (mid, Err fault, acts, may_leave_same Q same left)

-- a crash of one plan after another is one of the first, or one after it and within the other
pub crash_sequence : {E A B : Type 0} (p : Plan E A) (f : A → Plan E B) (old : Disk) (Q : Moment → Type 0) → Sometime (followed_by p f) old Q
    → Sometime p old Q ⊎ ((value : A) × (mid : Disk) × Runs p old mid (Ok value) × Sometime (f value) mid Q)
unfolding Sometime Runs followed_by
crash_sequence (Done value) f old Q crash = inr (value, old, (refl, refl), crash)
crash_sequence (Refuse refusal) f old Q crash = inl crash
crash_sequence (Room next) f old Q crash = ⊎_elim (λ c. inl c) (λ w. inr (w.0, w.1, inr w.2, w.3)) (crash_sequence next f old Q crash)
crash_sequence (Act action next) f old Q (inl left) = inl (inl left)
crash_sequence (Act action next) f old Q (inr (mid, Err fault, acts, left)) = inl (inr (mid, Err fault, acts, left))
crash_sequence (Act action next) f old Q (inr (mid, Ok answer, acts, crash)) =
    ⊎_elim (λ c. inl (inr (mid, Ok answer, acts, c))) (λ w. inr (w.0, w.1, (mid, Ok answer, acts, w.2), w.3)) (crash_sequence (next answer) f mid Q crash)

-- and the other way round
pub crash_first : {E A B : Type 0} (p : Plan E A) (f : A → Plan E B) (old : Disk) (Q : Moment → Type 0) → Sometime p old Q → Sometime (followed_by p f) old Q
unfolding Sometime followed_by
crash_first (Done value) f old Q crash = crash_before (f value) old Q crash
crash_first (Refuse refusal) f old Q crash = crash
crash_first (Room next) f old Q crash = crash_first next f old Q crash
crash_first (Act action next) f old Q (inl left) = inl left
crash_first (Act action next) f old Q (inr (mid, Err fault, acts, left)) = inr (mid, Err fault, acts, left)
crash_first (Act action next) f old Q (inr (mid, Ok answer, acts, crash)) = inr (mid, Ok answer, acts, crash_first (next answer) f mid Q crash)

pub crash_then : {E A B : Type 0} (p : Plan E A) (f : A → Plan E B) (old mid : Disk) (value : A) (Q : Moment → Type 0) → Runs p old mid (Ok value) → Sometime (f value) mid Q → Sometime (followed_by p f) old Q
unfolding Sometime Runs followed_by
crash_then (Done v) f old mid value Q (same, is) crash =
    let e : value ≡ v = cc in
    subst (λ (d : Disk). Sometime (f v) d Q) same (subst (λ x. Sometime (f x) mid Q) e crash)
crash_then (Refuse refusal) f old mid value Q (same, is) crash = absurd cc
crash_then (Room next) f old mid value Q (inl (same, is)) crash = absurd cc
crash_then (Room next) f old mid value Q (inr runs) crash = crash_then next f old mid value Q runs crash
crash_then (Act action next) f old mid value Q (m, Ok answer, acts, goes) crash = inr (m, Ok answer, acts, crash_then (next answer) f m mid value Q goes crash)
crash_then (Act action next) f old mid value Q (m, Err fault, acts, (same, is)) crash = absurd cc

-- ---- names that a plan leaves alone

pub was_told : {A : Type 0} (f : Told → A) (old new : Option Told) (u : Told) → new ≡ Some u → option_map f new ≡ option_map f old → (t : Told) × (old ≡ Some t)
was_told f None new u is same = absurd (let e : Some (f u) ≡ None = sym (ap (option_map f) is) ∙ same in cc)
was_told f (Some t) new u is same = (t, refl)

pub field_kept : {A : Type 0} (f : Told → A) (old new : Option Told) (t u : Told) → old ≡ Some t → new ≡ Some u → option_map f new ≡ option_map f old → f u ≡ f t
field_kept f old new t u was is same = let e : Some (f u) ≡ Some (f t) = sym (ap (option_map f) is) ∙ same ∙ ap (option_map f) was in cc

-- The images depend on what is held and on what is loose alone.
image_of : (m n : Moment) (name image : List ℕ) → n.holds name ≡ m.holds name → n.loose name ≡ m.loose name → IsImage n name image → IsImage m name image
image_of m n name image holds loose is = record {
  no_shorter = rw (← loose) is.no_shorter;
  no_longer = rw (← loose) is.no_longer;
  stays = rw (← loose, ← holds) is.stays;
}

pub kept_image : (name image : List ℕ) (old new : Disk) → Kept name old.told new.told → MayLeave new name image → MayLeave old name image
kept_image name image old new kept (u, told, is) =
    let t = was_told (λ (t : Told). t.holds name) old.told new.told u told kept.holds in
    let holds = field_kept (λ (t : Told). t.holds name) old.told new.told t.0 u t.1 told kept.holds in
    let loose = field_kept (λ (t : Told). t.loose name) old.told new.told t.0 u t.1 told kept.loose in
    (t.0, t.1, image_of (moment_of t.0) (moment_of u) name image holds loose is)

-- A plan that writes nothing under a name leaves its images.
pub spares_images : {E A : Type 0} (name : List ℕ) (p : Plan E A) (old : Disk) (image : List ℕ) → Each (Spares name) p → Crashes p old name image → MayLeave old name image
unfolding Sometime
spares_images name (Done value) old image each left = left
spares_images name (Refuse refusal) old image each left = left
spares_images name (Room next) old image each crash = spares_images name next old image each crash
spares_images name (Act action next) old image (kind, each) (inl left) = left
spares_images name (Act action next) old image (kind, each) (inr (mid, Ok answer, acts, crash)) =
    kept_image name image old mid (step_keeps name action old mid (Ok answer) kind acts) (spares_images name (next answer) mid image (each answer) crash)
spares_images name (Act action next) old image (kind, each) (inr (mid, Err fault, acts, left)) = kept_image name image old mid (step_keeps name action old mid (Err fault) kind acts) left

-- ---- since a moment of the past

-- what a step adds to the past: nothing, or the moment before it
pub record Steps (Q : Moment → Type 0) (t : Told) (past : List Moment) (mid : Disk) : Type 0 where
  pub now : Told
  pub told : mid.told ≡ Some now
  pub fresh : List Moment
  pub past_is : now.past ≡ Some (fresh ++ past)
  pub left : Any fresh Q → Q (moment_of t)

reads_step : (Q : Moment → Type 0) (t : Told) (past : List Moment) (old mid : Disk) → old.told ≡ Some t → t.past ≡ Some past → Unchanged old.told mid.told → Steps Q t past mid
reads_step Q t past old mid was is same =
    let u = was_told (λ (t : Told). t.past) mid.told old.told t was (sym same.past) in
    record { now = u.0; told = u.1; fresh = []; past_is = field_kept (λ (t : Told). t.past) old.told mid.told t u.0 was u.1 same.past ∙ is; left = λ left. absurd left }

later_is : (t : Told) (past : List Moment) → t.past ≡ Some past → later t ≡ Some (moment_of t ∷ past)
later_is t past is = ap (option_map (λ (past : List Moment). moment_of t ∷ past)) is

writes_step : (Q : Moment → Type 0) (t u : Told) (past : List Moment) (mid : Disk) → t.past ≡ Some past → mid.told ≡ Some u → u.past ≡ later t → Steps Q t past mid
writes_step Q t u past mid is told after = record { now = u; told = told; fresh = moment_of t ∷ []; past_is = after ∙ later_is t past is; left = λ left. ⊎_elim (λ i. i) (λ none. absurd none) left }

stands_still : (Q : Moment → Type 0) (t u : Told) (past : List Moment) (mid : Disk) → t.past ≡ Some past → mid.told ≡ Some u → u ≡ ticking 1 t → Steps Q t past mid
stands_still Q t u past mid is told same = record { now = u; told = told; fresh = []; past_is = ap (λ (t : Told). t.past) same ∙ is; left = λ left. absurd left }

leaves_step : (Q : Moment → Type 0) (t u : Told) (past : List Moment) (mid : Disk) (done torn : Told → Told → Type 0) (got : Result (Unit {0}) Fault) → t.past ≡ Some past → mid.told ≡ Some u → (done t u → u.past ≡ later t) → (torn t u → Steps Q t past mid) → Leaves got done torn t u → Steps Q t past mid
leaves_step Q t u past mid done torn (Ok x) is told d f leaves = writes_step Q t u past mid is told (d leaves)
leaves_step Q t u past mid done torn (Err ReadFault) is told d f leaves = absurd leaves
leaves_step Q t u past mid done torn (Err WriteFault) is told d f leaves = f leaves
leaves_step Q t u past mid done torn (Err Memory) is told d f leaves = stands_still Q t u past mid is told leaves

pub step_of : (Q : Moment → Type 0) (action : Action) (old mid : Disk) (got : Result (Answer action) Fault) (t : Told) (past : List Moment) → Acts action old mid got → old.told ≡ Some t → t.past ≡ Some past → Steps Q t past mid
step_of Q (Ask name) old mid got t past acts was is = reads_step Q t past old mid was is (step_unchanged (Ask name) old mid got tt acts)
step_of Q (Read name size) old mid got t past acts was is = reads_step Q t past old mid was is (step_unchanged (Read name size) old mid got tt acts)
step_of Q (Cut name len) old mid got t past acts was is = let u = acts.told t was in leaves_step Q t u.0 past mid _ _ got is u.1 (λ c. c.past) (λ c. writes_step Q t u.0 past mid is u.1 c.past) u.2
step_of Q (Write name at bytes) old mid got t past acts was is = let u = acts.told t was in leaves_step Q t u.0 past mid _ _ got is u.1 (λ c. c.past) (λ c. writes_step Q t u.0 past mid is u.1 c.past) u.2
step_of Q (Sync name) old mid got t past acts was is = let u = acts.told t was in leaves_step Q t u.0 past mid _ _ got is u.1 (λ c. c.past) (λ same. stands_still Q t u.0 past mid is u.1 same) u.2

any_split : (first second : List Moment) (Q : Moment → Type 0) → Any (first ++ second) Q → Any first Q ⊎ Any second Q
any_split [] second Q left = inr left
any_split (m ∷ first) second Q (inl is) = inl (inl is)
any_split (m ∷ first) second Q (inr left) = ⊎_elim (λ a. inl (inr a)) (λ b. inr b) (any_split first second Q left)

-- what a run adds to the past, of which a crash leaves what one of the plan may leave
pub record Passes {E A : Type 0} (Q : Moment → Type 0) (p : Plan E A) (old new : Disk) (past : List Moment) : Type 0 where
  pub now : Told
  pub told : new.told ≡ Some now
  pub fresh : List Moment
  pub past_is : now.past ≡ Some (fresh ++ past)
  pub left : Any fresh Q → Sometime p old Q

passes_none : {E A : Type 0} (Q : Moment → Type 0) (p : Plan E A) (old new : Disk) (t : Told) (past : List Moment) → new ≡ old → old.told ≡ Some t → t.past ≡ Some past → Passes Q p old new past
passes_none Q p old new t past same was is = record { now = t; told = ap (λ (d : Disk). d.told) same ∙ was; fresh = []; past_is = is; left = λ left. absurd left }

pub passes : {E A : Type 0} (Q : Moment → Type 0) (p : Plan E A) (old new : Disk) (result : Result A (Halt E)) (t : Told) (past : List Moment) → Runs p old new result → old.told ≡ Some t → t.past ≡ Some past → Passes Q p old new past
unfolding Runs Sometime
passes Q (Done value) old new result t past (same, is) was at = passes_none Q (Done value) old new t past same was at
passes Q (Refuse refusal) old new result t past (same, is) was at = passes_none Q (Refuse refusal) old new t past same was at
passes Q (Room next) old new result t past (inl (same, is)) was at = passes_none Q (Room next) old new t past same was at
passes Q (Room next) old new result t past (inr runs) was at = let r = passes Q next old new result t past runs was at in record { now = r.now; told = r.told; fresh = r.fresh; past_is = r.past_is; left = r.left }
passes Q (Act action next) old new result t past (mid, Err fault, acts, (same, is)) was at =
    let s = step_of Q action old mid (Err fault) t past acts was at in
    record { now = s.now; told = ap (λ (d : Disk). d.told) same ∙ s.told; fresh = s.fresh; past_is = s.past_is; left = λ left. inl (t, was, s.left left) }
passes Q (Act action next) old new result t past (mid, Ok answer, acts, goes) was at =
    let s = step_of Q action old mid (Ok answer) t past acts was at in
    let r = passes Q (next answer) mid new result s.now (s.fresh ++ past) goes s.told s.past_is in
    record {
      now = r.now;
      told = r.told;
      fresh = r.fresh ++ s.fresh;
      past_is = r.past_is ∙ ap (λ (l : List Moment). Some l) (sym (append_assoc r.fresh s.fresh past));
      left = λ left. ⊎_elim (λ a. inr (mid, Ok answer, acts, r.left a)) (λ b. inl (t, was, s.left b)) (any_split r.fresh s.fresh Q left);
    }

-- What a crash at a moment since a run began might have left, one of its plan may leave.
pub since_a_run : {E A : Type 0} (p : Plan E A) (old new : Disk) (result : Result A (Halt E)) (t u : Told) (past : List Moment) (Q : Moment → Type 0) → Runs p old new result → old.told ≡ Some t → t.past ≡ Some past → new.told ≡ Some u
    → Since (length past) u Q → Sometime p old Q
since_a_run p old new result t u past Q runs was at told (inl is) = crash_after p old new result Q runs (u, told, is)
since_a_run p old new result t u past Q runs was at told (inr (now, now_is, left)) =
    let r = passes Q p old new result t past runs was at in
    let same : Some u ≡ Some r.now = sym told ∙ r.told in
    let e : u ≡ r.now = cc in
    let whole : Some now ≡ Some (r.fresh ++ past) = sym now_is ∙ ap (λ (t : Told). t.past) e ∙ r.past_is in
    let list : now ≡ r.fresh ++ past = cc in
    let less : length now - length past ≡ length r.fresh = omega (arith, ap length list, length-append r.fresh past) in
    let front : take (length now - length past) now ≡ r.fresh = ap (λ (k : ℕ). take k now) less ∙ ap (take (length r.fresh)) list ∙ take_at r.fresh past (length r.fresh) refl in
    r.left (subst (λ (l : List Moment). Any l Q) front left)

-- ---- by what each step keeps

-- The step keeps what is so.
abbrev pub KeepsBy : (Disk → Type 0) → Action → Type 0
KeepsBy I action = (old mid : Disk) (got : Result (Answer action) Fault) → I old → Acts action old mid got → I mid

-- Each moment of a plan whose steps keep what is so is one where it is so.
pub sometime_kept : {E A : Type 0} (I : Disk → Type 0) (Q : Moment → Type 0) (p : Plan E A) (old : Disk) → Each (KeepsBy I) p → I old → Sometime p old Q → (d : Disk) × I d × Now d Q
unfolding Sometime
sometime_kept I Q (Done value) old each is left = (old, is, left)
sometime_kept I Q (Refuse refusal) old each is left = (old, is, left)
sometime_kept I Q (Room next) old each is left = sometime_kept I Q next old each is left
sometime_kept I Q (Act action next) old (kind, each) is (inl left) = (old, is, left)
sometime_kept I Q (Act action next) old (kind, each) is (inr (mid, Ok answer, acts, left)) = sometime_kept I Q (next answer) mid (each answer) (kind old mid (Ok answer) is acts) left
sometime_kept I Q (Act action next) old (kind, each) is (inr (mid, Err fault, acts, left)) = (mid, kind old mid (Err fault) is acts, left)

pub run_keeps : {E A : Type 0} (I : Disk → Type 0) (p : Plan E A) (old new : Disk) (result : Result A (Halt E)) → Each (KeepsBy I) p → I old → Runs p old new result → I new
unfolding Runs
run_keeps I (Done value) old new result each is (same, r) = subst I (sym same) is
run_keeps I (Refuse refusal) old new result each is (same, r) = subst I (sym same) is
run_keeps I (Room next) old new result each is (inl (same, r)) = subst I (sym same) is
run_keeps I (Room next) old new result each is (inr runs) = run_keeps I next old new result each is runs
run_keeps I (Act action next) old new result (kind, each) is (mid, Ok answer, acts, goes) = run_keeps I (next answer) mid new result (each answer) (kind old mid (Ok answer) is acts) goes
run_keeps I (Act action next) old new result (kind, each) is (mid, Err fault, acts, (same, r)) = subst I (sym same) (kind old mid (Err fault) is acts)

-- ---- weaker

pub sometime_so : {E A : Type 0} (p : Plan E A) (old : Disk) (P Q : Moment → Type 0) → ((m : Moment) → P m → Q m) → Sometime p old P → Sometime p old Q
unfolding Sometime
sometime_so (Done value) old P Q h (t, told, is) = (t, told, h (moment_of t) is)
sometime_so (Refuse refusal) old P Q h (t, told, is) = (t, told, h (moment_of t) is)
sometime_so (Room next) old P Q h some = sometime_so next old P Q h some
sometime_so (Act action next) old P Q h (inl (t, told, is)) = inl (t, told, h (moment_of t) is)
sometime_so (Act action next) old P Q h (inr (mid, Ok answer, acts, some)) = inr (mid, Ok answer, acts, sometime_so (next answer) mid P Q h some)
sometime_so (Act action next) old P Q h (inr (mid, Err fault, acts, (t, told, is))) = inr (mid, Err fault, acts, (t, told, h (moment_of t) is))

-- ---- a plan that gives a value once another has run

by_done : (E : Type 0) {B : Type 0} (value : B) (old : Disk) (Q : Moment → Type 0) → Sometime {E = E} (Done value) old Q → Now old Q
unfolding Sometime
by_done E value old Q left = left

pub done_crash : {E A B : Type 0} (p : Plan E A) (value : B) (old : Disk) (Q : Moment → Type 0) → Sometime (followed_by p (λ x. Done value)) old Q → Sometime p old Q
done_crash p value old Q crash = ⊎_elim (λ first. first) (λ w. crash_after p old w.1 (Ok w.0) Q w.2 (by_done _ value w.1 Q w.3)) (crash_sequence p (λ x. Done value) old Q crash)
