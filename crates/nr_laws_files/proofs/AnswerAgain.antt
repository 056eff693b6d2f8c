-- Answers with a fault are refused there.
use Rattle.std.proofs.Common.{◌≡◌, ℕ, zero, suc, ◌+◌, ◌<◌, Bool, false, cond, List, [], ◌∷◌, length, Some, Result, Ok, Err, refl, sym, ap, subst, ◌∙◌, arith}
use Rattle.std.proofs.lemmas.Bool.{ne_eqb}
use Rattle.nr_spec_wire.specs.Reading.{Spot, start_of, ◌>>=◌, ends_at}
use Rattle.nr_spec_wire.proofs.Steps.{ok_is, bind_ok}
use Rattle.nr_spec_log.specs.Chain.{LogEntry}
use Rattle.nr_spec_log.specs.Authenticator.{wanted_at}
use Rattle.nr_spec_log.specs.Answer.{opening_at, entry_at, entries_at, answer_of, head_of, last_time, is_later}
use Rattle.nr_laws_files.specs.Answers.{AnswerFault, opening_fault, entry_fault, head_fault, more, is_asked}
use Rattle.nr_laws_files.proofs.Cases.{then_err}
use Rattle.nr_laws_files.proofs.AuthAgain.{wanted_faults}
use Rattle.nr_laws_files.proofs.EntryAgain.{entry_faults}
use Rattle.nr_laws_files.proofs.OpeningAgain.{bind_err, opening_faults}

not_asked : (es : List LogEntry) → is_asked false es ≡ false
not_asked [] = refl
not_asked (e ∷ es) = refl

abbrev read_as : List LogEntry → Spot → List LogEntry × Spot
read_as es t = (es, t)

head_is : (f e : LogEntry) (fs es : List LogEntry) → f ∷ fs ≡ e ∷ es → f ≡ e
head_is f e fs es h = cc

tail_is : (f e : LogEntry) (fs es : List LogEntry) → f ∷ fs ≡ e ∷ es → fs ≡ es
tail_is f e fs es h = cc

parts : (f e : LogEntry) (fs es : List LogEntry) (u t : Spot) → read_as (f ∷ fs) u ≡ read_as (e ∷ es) t → (f ≡ e) × (fs ≡ es) × (u ≡ t)
parts f e fs es u t h =
    let list : f ∷ fs ≡ e ∷ es = ap (λ (x : List LogEntry × Spot). x.0) h in
    (head_is f e fs es list, tail_is f e fs es list, ap (λ (x : List LogEntry × Spot). x.1) h)

entries_fail : (checkpoint : Bool) (last n : ℕ) (s : Spot) (before : List LogEntry) (t : Spot) (p : ℕ) → length before < n → entries_at checkpoint last (length before) s ≡ Ok (before, t)
    → entry_at (is_asked checkpoint before) (last_time last before) t ≡ Err p → entries_at checkpoint last n s ≡ Err p
unfolding entries_at
entries_fail checkpoint last zero s before t p fewer read fault = absurd (omega (arith, fewer))
entries_fail checkpoint last (suc n) s [] t p fewer read fault =
    let none : List LogEntry × Spot = ([], s) in
    let same : none ≡ ([], t) = ok_is none ([], t) read in
    bind_err (entry_at checkpoint last s) _ p (subst (λ (x : List LogEntry × Spot). entry_at checkpoint last x.1 ≡ Err p) (sym same) fault)
entries_fail checkpoint last (suc n) s (e ∷ es) t p fewer read fault =
    let a = bind_ok (entry_at checkpoint last s) (λ first. entries_at false first.0.time (length es) first.1 >>= (λ others. Ok (first.0 ∷ others.0, others.1))) (e ∷ es, t) read in
    let b = bind_ok (entries_at false a.0.0.time (length es) a.0.1) (λ others. Ok (a.0.0 ∷ others.0, others.1)) (e ∷ es, t) a.2 in
    let same : read_as (a.0.0 ∷ b.0.0) b.0.1 ≡ read_as (e ∷ es) t = ok_is (read_as (a.0.0 ∷ b.0.0) b.0.1) (read_as (e ∷ es) t) b.2 in
    let each = parts a.0.0 e b.0.0 es b.0.1 t same in
    let rest : entries_at false a.0.0.time (length es) a.0.1 ≡ Ok (read_as es t) =
    b.1 ∙ ap (λ l. Ok (read_as l b.0.1)) each.1 ∙ ap (λ u. Ok (read_as es u)) each.2 in
    let worse : entry_at (is_asked false es) (last_time a.0.0.time es) t ≡ Err p =
    subst (λ (f : LogEntry). entry_at (is_asked false es) (last_time f.time es) t ≡ Err p) (sym each.0)
    (subst (λ b. entry_at b (last_time e.time es) t ≡ Err p) (sym (not_asked es)) fault) in
    then_err (entry_at checkpoint last s) _ _ _ a.1 (bind_err (entries_at false a.0.0.time n a.0.1) _ p (entries_fail false a.0.0.time n a.0.1 es t p (omega (arith, fewer)) rest worse))

not_ended : {A : Type 0} (s : Spot) (x : A) → 0 < length s.rest → ends_at s x ≡ Err s.at
not_ended {A} s x some = ap (λ b. let r : Result A ℕ = cond b (Ok x) (Err s.at) in r) (ne_eqb (length s.rest) 0 (λ e. absurd (omega (arith, e, some))))

abbrev IsAnswerAt : List ℕ → ℕ → Type 0
IsAnswerAt bytes p = answer_of bytes ≡ Err p

pub answer_faults : (bytes : List ℕ) (p : ℕ) → AnswerFault bytes p → answer_of bytes ≡ Err p
unfolding answer_of
answer_faults bytes p (opening_fault f) =
    let e : opening_at (start_of bytes) ≡ Err (0 + p) = opening_faults (start_of bytes) p f in
    bind_err (opening_at (start_of bytes)) _ p (subst (λ n. opening_at (start_of bytes) ≡ Err n) (omega arith) e)
answer_faults bytes p (entry_fault o s before t d opened fewer read f e) =
    subst (IsAnswerAt bytes) (sym e)
    (then_err (opening_at (start_of bytes)) _ _ _ opened (bind_err (entries_at (is_later o.first) 0 o.count s) _ (t.at + d)
    (entries_fail (is_later o.first) 0 o.count s before t (t.at + d) fewer read (entry_faults (is_asked (is_later o.first) before) (last_time 0 before) t d f))))
answer_faults bytes p (head_fault o s entries t d opened read f e) =
    subst (IsAnswerAt bytes) (sym e)
    (then_err (opening_at (start_of bytes)) _ _ _ opened (then_err (entries_at (is_later o.first) 0 o.count s) _ _ _ read (bind_err (wanted_at (Some (head_of o entries)) t) _ (t.at + d) (wanted_faults (Some (head_of o entries)) t d f))))
answer_faults bytes p (more o s entries t head end opened read fine some e) =
    subst (IsAnswerAt bytes) (sym e)
    (then_err (opening_at (start_of bytes)) _ _ _ opened (then_err (entries_at (is_later o.first) 0 o.count s) _ _ _ read (then_err (wanted_at (Some (head_of o entries)) t) _ _ _ fine (not_ended end _ some))))
