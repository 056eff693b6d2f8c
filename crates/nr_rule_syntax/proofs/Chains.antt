-- A loop over a chain: what is there so far, before what is left, is the whole.
use Rattle.std.proofs.Common.{◌≡◌, ℕ, zero, suc, ◌-◌, ◌<◌, ◌≤◌, true, false, List, [], ◌∷◌, ◌++◌, length, drop, Ok, Err, refl, ap, sym, ◌∙◌, append_assoc, append-nil, arith}
use Rattle.nr_spec_rules.specs.declared.kind.Kind.{Kind}
use Rattle.nr_spec_rules.specs.declared.kind.Kind.TheVariants.{End}
use Rattle.nr_spec_rules.specs.Tokens.{Token, same_kind}
use Rattle.nr_rule_syntax.specs.declared.fault.ParseError.{ParseError}
use Rattle.nr_rule_syntax.specs.declared.fault.ParseError.TheVariants.{At, Memory}
use Rattle.nr_rule_syntax.specs.Views.{Fails}
use Rattle.nr_spec_rules.specs.Parsing.{Outcome, Parser, and_then, pure, sees, others, prepend, following, list, until}

pub record IsLeft {A : Type 0} (between : Kind) (item : Parser A) (front : List A) (ts : List Token) (whole : Outcome (List A)) : Type 0 where
  pub bound : ℕ
  pub enough : length ts ≤ bound
  pub same : prepend front (others between item bound ts) ≡ whole

pub left_first : {A : Type 0} {between : Kind} {item : Parser A} (first : A) (ts : List Token) → IsLeft between item (first ∷ []) ts (following first between item ts)
unfolding following
left_first first ts = record { bound = length ts; enough = omega arith; same = refl }

pub left_start : {A : Type 0} {between : Kind} {item : Parser A} {x : A} (ts : List Token) {rest : List Token} → item ts ≡ Ok (x, rest) → IsLeft between item (x ∷ []) rest (list between item ts)
unfolding list following
left_start {A} {between} {item} {x} ts {rest} e =
    record { bound = length rest; enough = omega arith; same = sym (ap (λ (r : Outcome A). and_then r (λ first. following first between item)) e) }

behind_one : {A : Type 0} (front : List A) (x : A) (read : Outcome (List A)) → prepend (front ++ x ∷ []) read ≡ prepend front (and_then read (λ more. pure (x ∷ more)))
behind_one front x (Ok p) = let rest : List Token = p.1 in ap (λ l. Ok (l, rest)) (append_assoc front (x ∷ []) p.0)
behind_one front x (Err e) = refl

more_at : {A : Type 0} (between : Kind) (item : Parser A) (front : List A) (whole : Outcome (List A)) (x : A) (n : ℕ) (ts rest : List Token)
    → length ts ≤ n → prepend front (others between item n ts) ≡ whole → sees between ts ≡ true → length rest < length ts → item (drop 1 ts) ≡ Ok (x, rest)
    → IsLeft between item (front ++ x ∷ []) rest whole
unfolding others
more_at between item front whole x zero ts rest enough same s shorter e = absurd (omega arith)
more_at between item front whole x (suc n) ts rest enough same s shorter e = record {
  bound = n;
  enough = omega arith;
  same = behind_one front x (others between item n rest) ∙ (rw (s, e) at same);
}

-- one more was read behind the token between
pub left_more : {A : Type 0} {between : Kind} {item : Parser A} {front : List A} {whole : Outcome (List A)} {x : A} {ts next rest : List Token}
    → IsLeft between item front ts whole → sees between ts ≡ true → next ≡ drop 1 ts → length rest < length ts → item next ≡ Ok (x, rest)
    → IsLeft between item (front ++ x ∷ []) rest whole
left_more {between = between} {item = item} {front = front} {whole = whole} {x = x} {ts = ts} {rest = rest} left s n shorter e =
    more_at between item front whole x left.bound ts rest left.enough left.same s shorter (sym (ap item n) ∙ e)

refused_at : {A : Type 0} (between : Kind) (item : Parser A) (front : List A) {whole : Outcome (List A)} {p : ℕ} (n : ℕ) (ts : List Token)
    → length ts ≤ n → prepend front (others between item n ts) ≡ whole → sees between ts ≡ true → 0 < length ts → item (drop 1 ts) ≡ Err p → whole ≡ Err p
unfolding others
refused_at between item front zero ts enough same s some e = absurd (omega arith)
refused_at between item front (suc n) ts enough same s some e = sym (rw (s, e) at same)

fails_at : {A : Type 0} (between : Kind) (item : Parser A) (front : List A) (whole : Outcome (List A)) (ts next : List Token)
    → IsLeft between item front ts whole → sees between ts ≡ true → next ≡ drop 1 ts → 0 < length ts → (e : ParseError) → Fails e (item next) → Fails e whole
fails_at between item front whole ts next left s n some Memory h = tt
fails_at between item front whole ts next left s n some (At place) h = refused_at between item front left.bound ts left.enough left.same s some (sym (ap item n) ∙ h)

-- the one behind the token between was refused
pub left_fails : {A : Type 0} {between : Kind} {item : Parser A} {front : List A} {whole : Outcome (List A)} {ts next : List Token}
    → IsLeft between item front ts whole → sees between ts ≡ true → next ≡ drop 1 ts → 0 < length ts → (e : ParseError) → Fails e (item next) → Fails e whole
left_fails {between = between} {item = item} {front = front} {whole = whole} {ts = ts} {next = next} left s n some e h = fails_at between item front whole ts next left s n some e h

done_at : {A : Type 0} (between : Kind) (item : Parser A) (front : List A) {whole : Outcome (List A)} (n : ℕ) (ts : List Token)
    → prepend front (others between item n ts) ≡ whole → sees between ts ≡ false → whole ≡ Ok (front, ts)
unfolding others
done_at between item front zero ts same s = sym same ∙ ap (λ l. Ok (l, ts)) (append-nil front)
done_at between item front (suc n) ts same s = sym (rw s at same) ∙ ap (λ l. Ok (l, ts)) (append-nil front)

pub left_done : {A : Type 0} {between : Kind} {item : Parser A} {front : List A} {whole : Outcome (List A)} {ts : List Token}
    → IsLeft between item front ts whole → sees between ts ≡ false → whole ≡ Ok (front, ts)
left_done {between = between} {item = item} {front = front} {ts = ts} left s = done_at between item front left.bound ts left.same s

-- a recursion on a count, beside a test that it isn't 0
pub deeper : {X : Type 0} (f : ℕ → X) (n : ℕ) → 0 < n → f n ≡ f (suc (n - 1))
deeper f n some = let e : n ≡ suc (n - 1) = omega arith in ap f e

-- ---- until a kind of token comes

pub record IsLeftUntil {A : Type 0} (last : Kind) (item : Parser A) (front : List A) (ts : List Token) (whole : Outcome (List A)) : Type 0 where
  pub bound : ℕ
  pub enough : length ts ≤ bound
  pub same : prepend front (until last item bound ts) ≡ whole

behind_none : {A : Type 0} (read : Outcome (List A)) → prepend [] read ≡ read
behind_none (Ok p) = refl
behind_none (Err e) = refl

pub until_start : {A : Type 0} {last : Kind} {item : Parser A} (ts : List Token) → IsLeftUntil last item [] ts (until last item (length ts) ts)
until_start {last = last} {item = item} ts = record { bound = length ts; enough = omega arith; same = behind_none (until last item (length ts) ts) }

until_more_at : {A : Type 0} (last : Kind) (item : Parser A) (front : List A) (whole : Outcome (List A)) (x : A) (n : ℕ) (ts rest : List Token)
    → length ts ≤ n → prepend front (until last item n ts) ≡ whole → sees last ts ≡ false → length rest < length ts → item ts ≡ Ok (x, rest)
    → IsLeftUntil last item (front ++ x ∷ []) rest whole
unfolding until
until_more_at last item front whole x zero ts rest enough same s shorter e = absurd (omega arith)
until_more_at last item front whole x (suc n) ts rest enough same s shorter e = record {
  bound = n;
  enough = omega arith;
  same = behind_one front x (until last item n rest) ∙ (rw (s, e) at same);
}

pub until_more : {A : Type 0} {last : Kind} {item : Parser A} {front : List A} {whole : Outcome (List A)} {x : A} {ts rest : List Token}
    → IsLeftUntil last item front ts whole → sees last ts ≡ false → length rest < length ts → item ts ≡ Ok (x, rest)
    → IsLeftUntil last item (front ++ x ∷ []) rest whole
until_more {last = last} {item = item} {front = front} {whole = whole} {x = x} {ts = ts} {rest = rest} left s shorter e =
    until_more_at last item front whole x left.bound ts rest left.enough left.same s shorter e

until_refused : {A : Type 0} (last : Kind) (item : Parser A) (front : List A) {whole : Outcome (List A)} {p : ℕ} (n : ℕ) (ts : List Token)
    → length ts ≤ n → prepend front (until last item n ts) ≡ whole → sees last ts ≡ false → 0 < length ts → item ts ≡ Err p → whole ≡ Err p
unfolding until
until_refused last item front zero ts enough same s some e = absurd (omega arith)
until_refused last item front (suc n) ts enough same s some e = sym (rw (s, e) at same)

-- a list in which this kind of token doesn't come next, where it is what comes at the end of all
some_left : (ts : List Token) → sees End ts ≡ false → 0 < length ts
unfolding same_kind
some_left [] s = absurd (cc)
some_left (t ∷ ts) s = omega arith

until_fails_at : {A : Type 0} (item : Parser A) (front : List A) (whole : Outcome (List A)) (ts : List Token)
    → IsLeftUntil End item front ts whole → sees End ts ≡ false → (e : ParseError) → Fails e (item ts) → Fails e whole
until_fails_at item front whole ts left s Memory h = tt
until_fails_at item front whole ts left s (At place) h = until_refused End item front left.bound ts left.enough left.same s (some_left ts s) h

pub until_fails : {A : Type 0} {item : Parser A} {front : List A} {whole : Outcome (List A)} {ts : List Token}
    → IsLeftUntil End item front ts whole → sees End ts ≡ false → (e : ParseError) → Fails e (item ts) → Fails e whole
until_fails {item = item} {front = front} {whole = whole} {ts = ts} left s e h = until_fails_at item front whole ts left s e h

until_done_at : {A : Type 0} (last : Kind) (item : Parser A) (front : List A) {whole : Outcome (List A)} (n : ℕ) (ts : List Token)
    → prepend front (until last item n ts) ≡ whole → sees last ts ≡ true → whole ≡ Ok (front, ts)
unfolding until
until_done_at last item front zero ts same s = sym same ∙ ap (λ l. Ok (l, ts)) (append-nil front)
until_done_at last item front (suc n) ts same s = sym (rw s at same) ∙ ap (λ l. Ok (l, ts)) (append-nil front)

pub until_done : {A : Type 0} {last : Kind} {item : Parser A} {front : List A} {whole : Outcome (List A)} {ts : List Token}
    → IsLeftUntil last item front ts whole → sees last ts ≡ true → whole ≡ Ok (front, ts)
until_done {last = last} {item = item} {front = front} {ts = ts} left s = until_done_at last item front left.bound ts left.same s

-- the first was refused
pub list_fails : {A : Type 0} (between : Kind) (item : Parser A) (ts : List Token) (e : ParseError) → Fails e (item ts) → Fails e (list between item ts)
unfolding list
list_fails between item ts Memory h = tt
list_fails {A} between item ts (At place) h = ap (λ (r : Outcome A). and_then r (λ first. following first between item)) h
