-- What one more moment makes of the runs.
use Rattle.std.proofs.Common.{◌≡◌, ℕ, Bool, true, false, ◌&&◌, not, List, [], ◌∷◌, ◌++◌, refl, ap, sym, ◌∙◌, append_assoc}
use Rattle.std.specs.Prelude.{if◌then◌else◌}
use Rattle.nr_spec_runs.specs.Runs.{Moment, Span, row_end, run_from, runs_after, runs_of, last_after, ends_bad}

-- ---- ends of rows

end_on : (close : ℕ) (ms : List Moment) (m : Moment) → m.bad ≡ true → row_end close (ms ++ m ∷ []) ≡ row_end close ms
end_on close [] m h = rw h refl
end_on close (x ∷ ms) m h = ap (λ n. if x.bad then n else x.begin) (end_on close ms m h)

end_off : (close : ℕ) (ms : List Moment) (m : Moment) → m.bad ≡ false → row_end close (ms ++ m ∷ []) ≡ row_end m.begin ms
end_off close [] m h = rw h refl
end_off close (x ∷ ms) m h = ap (λ n. if x.bad then n else x.begin) (end_off close ms m h)

either : (bad : Bool) (ms : List Moment) (c d e : ℕ) → (last_after true ms ≡ false → c ≡ d) → last_after bad ms ≡ false → (if bad then c else e) ≡ (if bad then d else e)
either true ms c d e same h = same h
either false ms c d e same h = refl

end_known : (close other : ℕ) (ms : List Moment) → last_after true ms ≡ false → row_end close ms ≡ row_end other ms
end_known close other [] h = absurd cc
end_known close other (x ∷ ms) h = either x.bad ms _ _ x.begin (end_known close other ms) h

-- ---- runs

abbrev span_from : Bool → Bool → ℕ → ℕ → List Span
span_from before bad begin end = if bad && not before then record { begin = begin; end = end } ∷ [] else []

both : (a b c d : List Span) → a ≡ b → c ≡ d → a ++ c ≡ b ++ d
both a b c d h k = ap (λ l. l ++ c) h ∙ ap (λ l. b ++ l) k

goes_on_after : (before : Bool) (close : ℕ) (ms : List Moment) (m : Moment) → m.bad ≡ true → last_after before ms ≡ true → runs_after before close (ms ++ m ∷ []) ≡ runs_after before close ms
goes_on_after before close [] m h l = rw (h, l) refl
goes_on_after before close (x ∷ ms) m h l = both _ _ _ _ (ap (span_from before x.bad x.begin) (end_on close ms m h)) (goes_on_after x.bad close ms m h l)

begins_after : (before : Bool) (close : ℕ) (ms : List Moment) (m : Moment) → m.bad ≡ true → last_after before ms ≡ false → runs_after before close (ms ++ m ∷ []) ≡ runs_after before close ms ++ record { begin = m.begin; end = close } ∷ []
begins_after before close [] m h l = rw (h, l) refl
begins_after before close (x ∷ ms) m h l =
    both _ _ _ _ (ap (span_from before x.bad x.begin) (end_on close ms m h)) (begins_after x.bad close ms m h l)
    ∙ sym (append_assoc (run_from before close x ms) (runs_after x.bad close ms) (record { begin = m.begin; end = close } ∷ []))

ends_after : (before : Bool) (close : ℕ) (ms : List Moment) (m : Moment) → m.bad ≡ false → runs_after before close (ms ++ m ∷ []) ≡ runs_after before m.begin ms
ends_after before close [] m h = rw h refl
ends_after before close (x ∷ ms) m h = both _ _ _ _ (ap (span_from before x.bad x.begin) (end_off close ms m h)) (ends_after x.bad close ms m h)

spans_known : (before bad : Bool) (begin c d : ℕ) (ms : List Moment) → (last_after true ms ≡ false → c ≡ d) → last_after bad ms ≡ false → span_from before bad begin c ≡ span_from before bad begin d
spans_known before true begin c d ms same h = ap (span_from before true begin) (same h)
spans_known before false begin c d ms same h = refl

known_after : (before : Bool) (close other : ℕ) (ms : List Moment) → last_after before ms ≡ false → runs_after before close ms ≡ runs_after before other ms
known_after before close other [] l = refl
known_after before close other (x ∷ ms) l = both _ _ _ _ (spans_known before x.bad x.begin _ _ ms (end_known close other ms) l) (known_after x.bad close other ms l)

pub goes_on : (close : ℕ) (ms : List Moment) (m : Moment) → m.bad ≡ true → ends_bad ms ≡ true → runs_of close (ms ++ m ∷ []) ≡ runs_of close ms
goes_on close ms m h l = goes_on_after false close ms m h l

pub begins : (close : ℕ) (ms : List Moment) (m : Moment) → m.bad ≡ true → ends_bad ms ≡ false → runs_of close (ms ++ m ∷ []) ≡ runs_of close ms ++ record { begin = m.begin; end = close } ∷ []
begins close ms m h l = begins_after false close ms m h l

pub ends : (close : ℕ) (ms : List Moment) (m : Moment) → m.bad ≡ false → runs_of close (ms ++ m ∷ []) ≡ runs_of m.begin ms
ends close ms m h = ends_after false close ms m h

-- where no run is open the close doesn't matter
pub none_open : (close other : ℕ) (ms : List Moment) → ends_bad ms ≡ false → runs_of close ms ≡ runs_of other ms
none_open close other ms h = known_after false close other ms h

last_more : (before : Bool) (ms : List Moment) (m : Moment) → last_after before (ms ++ m ∷ []) ≡ m.bad
last_more before [] m = refl
last_more before (x ∷ ms) m = last_more x.bad ms m

pub ends_as : (ms : List Moment) (m : Moment) → ends_bad (ms ++ m ∷ []) ≡ m.bad
ends_as ms m = last_more false ms m
