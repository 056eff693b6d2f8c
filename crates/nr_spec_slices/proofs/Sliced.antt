-- What an answer has whose file was read and its body looked into.
use Rattle.std.proofs.Common.{◌≡◌, ℕ, zero, suc, Bool, true, false, List, [], ◌∷◌, Option, Some, None, Result, Ok, Err, refl, sym, ap, subst, ◌∙◌}
use Rattle.std.specs.Prelude.{nat_le}
use Rattle.nr_spec_wire.specs.Reading.{Spot, ◌>>=◌, bytes_at, number_at, start_of, wants}
use Rattle.nr_spec_wire.proofs.Steps.{bind_ok, ok_is, wants_ok}
use Rattle.nr_spec_log.specs.Chain.{LogEntry}
use Rattle.nr_spec_log.specs.Authenticator.{digest_size, magic_at, wanted_at}
use Rattle.nr_spec_log.specs.Answer.{AnswerFile, Opening, answer_from, answer_magic, answer_of, body_at, entries_at, entry_at, head_of, is_body_flag, is_first, is_later, is_prev, is_wanted, checkpoint_kind, opening_at}
use Rattle.nr_spec_report.specs.Wrong.{Base, nothing_before}
use Rattle.nr_spec_bodies.specs.Reading.{base_of}
use Rattle.nr_spec_slices.specs.Audits.{base_by, is_in_time}
use Rattle.nr_spec_slices.specs.Reading.{first_time_at, front_at, last_before, last_in, slice_of}

-- what a step gave, where it went well and so did what goes on after it
then : {A B : Type 0} (r : Result A ℕ) (f : A → Result B ℕ) (y : B) (P : Type 0) → (r >>= f) ≡ Ok y → ((x : A) → r ≡ Ok x → f x ≡ Ok y → P) → P
then (Ok x) f y P e k = k x refl e
then (Err place) f y P e k = absurd cc

-- the same of two readings with one first step
both : {A B C : Type 0} (r : Result A ℕ) (f : A → Result B ℕ) (g : A → Result C ℕ) (y : B) (Q : Result C ℕ → Type 0) → (r >>= f) ≡ Ok y → ((x : A) → r ≡ Ok x → f x ≡ Ok y → Q (g x)) → Q (r >>= g)
both (Ok x) f g y Q e k = k x refl e
both (Err place) f g y Q e k = absurd cc

-- the fields before the entries, as far as the end of the body, and behind it
record Opened (front : Result (Option (List ℕ) × Spot) ℕ) (o : Opening) (t : Spot) : Type 0 where
  before : Spot
  behind : Spot
  body : body_at (is_later o.first) before ≡ Ok (o.body, behind)
  front_is : front ≡ Ok (o.body, behind)
  counted : number_at 4 behind ≡ Ok (o.count, t)

-- from the body on
opened_body : (asn first : ℕ) (prev : List ℕ) (s : Spot) (x : Opening × Spot)
    → (body_at (is_later first) s >>= λ body. number_at 4 body.1 >>= λ any_count. wants (nat_le 1 any_count.0) body.1.at any_count >>= λ count. Ok (record { asn = asn; first = first; prev = prev; body = body.0; count = count.0 }, count.1)) ≡ Ok x
    → Opened (body_at (is_later first) s) x.0 x.1
opened_body asn first prev s x e =
    then (body_at (is_later first) s) _ x _ e (λ body body_is e1.
    then (number_at 4 body.1) _ x _ e1 (λ any_count any_is e2.
    then (wants (nat_le 1 any_count.0) body.1.at any_count) _ x _ e2 (λ count count_is made.
    subst (λ (y : Opening × Spot). Opened (body_at (is_later first) s) y.0 y.1)
    (ok_is (record { asn = asn; first = first; prev = prev; body = body.0; count = count.0 }, count.1) x made)
    (record { before = s; behind = body.1; body = body_is; front_is = body_is; counted = any_is ∙ ap (λ c. Ok c) (wants_ok (nat_le 1 any_count.0) body.1.at any_count count count_is).1 }))))

opened : (s : Spot) (x : Opening × Spot) → opening_at s ≡ Ok x → Opened (front_at s) x.0 x.1
unfolding opening_at front_at
opened s x e =
    both (magic_at answer_magic s) _ _ x (λ c. Opened c x.0 x.1) e (λ magic magic_is e1.
    both (number_at 4 magic.1) _ _ x (λ c. Opened c x.0 x.1) e1 (λ asn asn_is e2.
    both (number_at 8 asn.1) _ _ x (λ c. Opened c x.0 x.1) e2 (λ any_first any_first_is e3.
    both (wants (is_first any_first.0) asn.1.at any_first) _ _ x (λ c. Opened c x.0 x.1) e3 (λ first first_is e4.
    both (bytes_at digest_size first.1) _ _ x (λ c. Opened c x.0 x.1) e4 (λ any_prev any_prev_is e5.
    both (wants (is_prev asn.0 first.0 any_prev.0) first.1.at any_prev) _ _ x (λ c. Opened c x.0 x.1) e5 (λ prev prev_is e6.
    both (number_at 1 prev.1) _ _ x (λ c. Opened c x.0 x.1) e6 (λ any_flag any_flag_is e7.
    both (wants (is_body_flag first.0 any_flag.0) prev.1.at any_flag) _ _ x (λ c. Opened c x.0 x.1) e7 (λ flag flag_is e8.
    opened_body asn.0 first.0 prev.0 flag.1 x e8))))))))

-- ---- the answer

-- what was read of an answer
record Answered (s : Spot) (a : AnswerFile) : Type 0 where
  before : Spot
  behind : Spot
  entries_from : Spot
  end : Spot
  count : ℕ
  body : body_at (is_later a.first) before ≡ Ok (a.body, behind)
  front : front_at s ≡ Ok (a.body, behind)
  counted : number_at 4 behind ≡ Ok (count, entries_from)
  entries : entries_at (is_later a.first) 0 count entries_from ≡ Ok (a.entries, end)

answered : (bytes : List ℕ) (a : AnswerFile) → answer_of bytes ≡ Ok a → Answered (start_of bytes) a
unfolding answer_of
answered bytes a e =
    let o = bind_ok (opening_at (start_of bytes)) _ a e in
    let es = bind_ok (entries_at (is_later o.0.0.first) 0 o.0.0.count o.0.1) _ a o.2 in
    let h = bind_ok (wanted_at (Some (head_of o.0.0 es.0.0)) es.0.1) _ a es.2 in
    let opens = opened (start_of bytes) o.0 o.1 in
    let w = wants_ok _ _ (answer_from o.0.0 es.0.0 h.0.0) a h.2 in
    subst (Answered (start_of bytes)) w.1
    (record { before = opens.before; behind = opens.behind; entries_from = o.0.1; end = es.0.1; count = o.0.0.count; body = opens.body; front = opens.front_is; counted = opens.counted; entries = es.1 })

-- ---- the time of the first entry

time_is : (checkpoint : Bool) (s : Spot) (x : LogEntry × Spot) (time : ℕ × Spot) → entry_at checkpoint 0 s ≡ Ok x → number_at 8 s ≡ Ok time → x.0.time ≡ time.0
unfolding entry_at
time_is checkpoint s x time e is =
    then (number_at 8 s) _ x _ e (λ any_time any_time_is e1.
    then (wants (nat_le 0 any_time.0) s.at any_time) _ x _ e1 (λ fits fits_is e2.
    then (number_at 1 fits.1) _ x _ e2 (λ any_kind any_kind_is e3.
    then (wants (is_wanted checkpoint any_kind.0 checkpoint_kind) fits.1.at any_kind) _ x _ e3 (λ kind kind_is e4.
    then (number_at 2 kind.1) _ x _ e4 (λ any_size any_size_is e5.
    then (wants (is_wanted checkpoint any_size.0 digest_size) kind.1.at any_size) _ x _ e5 (λ size size_is e6.
    then (bytes_at size.0 size.1) _ x _ e6 (λ content content_is made.
    ap (λ (y : LogEntry × Spot). y.0.time) (sym (ok_is (record { time = fits.0; kind = kind.0; content = content.0 }, content.1) x made))
    ∙ (ap (λ (y : ℕ × Spot). y.0) (sym (wants_ok (nat_le 0 any_time.0) s.at any_time fits fits_is).1)
    ∙ ap (λ (y : ℕ × Spot). y.0) (ok_is any_time time (sym any_time_is ∙ is))))))))))

in_time : (checkpoint : Bool) (count last : ℕ) (s : Spot) (x : List LogEntry × Spot) (time : ℕ × Spot) → entries_at checkpoint 0 count s ≡ Ok x → number_at 8 s ≡ Ok time → nat_le last time.0 ≡ true
    → is_in_time last x.0 ≡ true
unfolding entries_at
in_time checkpoint zero last s x time e is fits =
    subst (λ (y : List LogEntry × Spot). is_in_time last y.0 ≡ true) (ok_is ([], s) x e) refl
in_time checkpoint (suc n) last s x time e is fits =
    let first = bind_ok (entry_at checkpoint 0 s) _ x e in
    let others = bind_ok (entries_at false first.0.0.time n first.0.1) _ x first.2 in
    subst (λ (y : List LogEntry × Spot). is_in_time last y.0 ≡ true) (ok_is (first.0.0 ∷ others.0.0, others.0.1) x others.2)
    (subst (λ (t : ℕ). nat_le last t ≡ true) (sym (time_is checkpoint s first.0 time first.1 is)) fits)

-- the body that was read first is the answer's, and its last time is in order
pub record IsBehind (body : Option (List ℕ)) (last : ℕ) (a : AnswerFile) : Type 0 where
  pub body_is : a.body ≡ body
  pub in_time_is : is_in_time last a.entries ≡ true

pub sliced_by : (bytes : List ℕ) (a : AnswerFile) (front : Option (List ℕ) × Spot) (last : ℕ) (time : ℕ × Spot) → front_at (start_of bytes) ≡ Ok front → first_time_at last front.1 ≡ Ok time → answer_of bytes ≡ Ok a
    → IsBehind front.0 last a
unfolding first_time_at
sliced_by bytes a front last time begins times reads =
    let r = answered bytes a reads in
    let same : front ≡ (a.body, r.behind) = ok_is front (a.body, r.behind) (sym begins ∙ r.front) in
    let from : first_time_at last r.behind ≡ Ok time = subst (λ (f : Option (List ℕ) × Spot). first_time_at last f.1 ≡ Ok time) same times in
    let any_count = bind_ok (number_at 4 r.behind) _ time from in
    let count = bind_ok (wants (nat_le 1 any_count.0.0) r.behind.at any_count.0) _ time any_count.2 in
    let any_time = bind_ok (number_at 8 count.0.1) _ time count.2 in
    let fits = wants_ok (nat_le last any_time.0.0) count.0.1.at any_time.0 time any_time.2 in
    let counted : count.0 ≡ (r.count, r.entries_from) = sym (wants_ok (nat_le 1 any_count.0.0) r.behind.at any_count.0 count.0 count.1).1 ∙ ok_is any_count.0 (r.count, r.entries_from) (sym any_count.1 ∙ r.counted) in
    record {
      body_is = ap (λ (f : Option (List ℕ) × Spot). f.0) (sym same);
      in_time_is = in_time (is_later a.first) r.count last r.entries_from (a.entries, r.end) any_time.0 r.entries
          (subst (λ (c : ℕ × Spot). number_at 8 c.1 ≡ Ok any_time.0) counted any_time.1) fits.0;
    }

-- ---- what stands before

-- the answer is in its grammar, and something stands before it
pub record Sliced (bytes : List ℕ) (a : AnswerFile) : Type 0 where
  pub base : Base
  pub based : base_by a.body a.entries ≡ Ok base
  pub reads : answer_of bytes ≡ Ok a

-- a body that was read whose last time is in order states the base
pub stated_by : (body : List ℕ) (entries : List LogEntry) (base : Base) → is_in_time base.tally.last entries ≡ true → base_of body ≡ Ok base → base_by (Some body) entries ≡ Ok base
stated_by body entries base fits is = rw (is, fits) refl

based : (body : Option (List ℕ)) (entries : List LogEntry) (last : ℕ) → last_before body ≡ Ok last → is_in_time last entries ≡ true → (base : Base) × (base_by body entries ≡ Ok base)
based None entries last is fits = (nothing_before, refl)
based (Some body) entries last is fits = by (base_of body) refl is
  where
    by : (r : Result Base ℕ) → base_of body ≡ r → last_in r ≡ Ok last → (base : Base) × (base_by (Some body) entries ≡ Ok base)
    by (Ok base) same at = (base, stated_by body entries base (subst (λ (t : ℕ). is_in_time t entries ≡ true) (sym (ok_is base.tally.last last at)) fits) same)
    by (Err place) same at = absurd cc

pub sliced : (bytes : List ℕ) (a : AnswerFile) → slice_of bytes ≡ Ok a → Sliced bytes a
unfolding slice_of
sliced bytes a e =
    let front = bind_ok (front_at (start_of bytes)) _ a e in
    let last = bind_ok (last_before front.0.0) _ a front.2 in
    let time = bind_ok (first_time_at last.0 front.0.1) _ a last.2 in
    let behind = sliced_by bytes a front.0 last.0 time.0 front.1 time.1 time.2 in
    let b = based a.body a.entries last.0 (subst (λ (body : Option (List ℕ)). last_before body ≡ Ok last.0) (sym behind.body_is) last.1) behind.in_time_is in
    record { base = b.0; based = b.1; reads = time.2 }

-- an answer that starts with entry 1 has no body
pub whole_has_none : (bytes : List ℕ) (a : AnswerFile) → answer_of bytes ≡ Ok a → a.first ≡ 1 → a.body ≡ None
unfolding body_at
whole_has_none bytes a reads one =
    let r = answered bytes a reads in
    let none : body_at (is_later 1) r.before ≡ Ok (a.body, r.behind) = subst (λ (n : ℕ). body_at (is_later n) r.before ≡ Ok (a.body, r.behind)) one r.body in
    ap (λ (f : Option (List ℕ) × Spot). f.0) (sym (ok_is (None, r.before) (a.body, r.behind) none))
