-- Rows of neighbouring moments that are bad, for a promise of a file and a prefix.
use Rattle.std.specs.Prelude.{◌≡◌, ◌&&◌, ◌==◌, ℕ, not, Bool, false, List, [], ◌∷◌, ◌++◌, filter, map, if◌then◌else◌, IsSortedByKey}
use Rattle.std.specs.declared.cmp.Ordering.{Ordering}
use Rattle.std.specs.Ordering.{nat_cmp, on, then_cmp}
use Rattle.nr_spec_bgp.specs.Prefixes.{Cidr}

-- a moment: when it begins, and whether it is bad. It lasts until the next one begins
pub record Moment : Type 0 where
  pub begin : ℕ
  pub bad : Bool

-- from one time to another, in microseconds
pub record Span : Type 0 where
  pub begin : ℕ
  pub end : ℕ

-- A row ends, by the moments after its first, where the first of them begins that isn't bad, or at the close.
abbrev pub row_end : ℕ → List Moment → ℕ
row_end close [] = close
row_end close (m ∷ moments) = if m.bad then row_end close moments else m.begin

-- A run begins at a bad moment, where the one before isn't bad.
abbrev pub run_from : Bool → ℕ → Moment → List Moment → List Span
run_from before close m moments =
    if m.bad && not before then record { begin = m.begin; end = row_end close moments } ∷ [] else []

-- the runs of moments after one that is bad or isn't
abbrev pub runs_after : Bool → ℕ → List Moment → List Span
runs_after before close [] = []
runs_after before close (m ∷ moments) = run_from before close m moments ++ runs_after m.bad close moments

-- The runs: the longest rows of neighbouring bad moments, in order. The last moment lasts until the close.
abbrev pub runs_of : ℕ → List Moment → List Span
runs_of close moments = runs_after false close moments

-- whether the last moment is bad, after one that is or isn't
abbrev pub last_after : Bool → List Moment → Bool
last_after before [] = before
last_after before (m ∷ moments) = last_after m.bad moments

abbrev pub ends_bad : List Moment → Bool
ends_bad moments = last_after false moments

-- ---- of each promise and prefix

-- a promise of a promise file, by the numbers of both from 0, and a prefix
pub record Key : Type 0 where
  pub file : ℕ
  pub promise : ℕ
  pub prefix : Cidr

-- a key is seen to be bad or not at a moment; it keeps this until it is seen again
pub record Observation : Type 0 where
  pub key : Key
  pub moment : Moment

abbrev pub same_prefix : Cidr → Cidr → Bool
same_prefix p q = p.addr == q.addr && p.len == q.len

abbrev pub same_promise : Key → Key → Bool
same_promise k o = k.file == o.file && k.promise == o.promise

abbrev pub same_key : Key → Key → Bool
same_key k o = same_promise k o && same_prefix k.prefix o.prefix

abbrev pub is_of : Key → Observation → Bool
is_of key o = same_key key o.key

-- the moments at which a key was seen
abbrev pub moments_of : Key → List Observation → List Moment
moments_of key seen = map (λ o. o.moment) (filter (is_of key) seen)

pub record Run : Type 0 where
  pub key : Key
  pub span : Span

abbrev pub is_run_of : Key → Run → Bool
is_run_of key run = same_key key run.key

-- the runs among some that are of a key
abbrev pub spans_of : Key → List Run → List Span
spans_of key runs = map (λ r. r.span) (filter (is_run_of key) runs)

-- the order: by file, by promise, and then by prefix, which is by address and then by length
abbrev pub key_cmp : Key → Key → Ordering
key_cmp =
    then_cmp (on (λ (k : Key). k.file) nat_cmp) (then_cmp (on (λ (k : Key). k.promise) nat_cmp)
    (then_cmp (on (λ (k : Key). k.prefix.addr) nat_cmp) (on (λ (k : Key). k.prefix.len) nat_cmp)))

-- The runs of everything that was seen: in order, and of each key its runs in the order in which they begin.
pub record AreRuns (close : ℕ) (seen : List Observation) (runs : List Run) : Type 0 where
  pub ordered : IsSortedByKey (λ (r : Run). r.key) key_cmp runs
  pub each : (key : Key) → spans_of key runs ≡ runs_of close (moments_of key seen)

abbrev pub key_of : ℕ → ℕ → Cidr → Key
key_of file promise prefix = record { file = file; promise = promise; prefix = prefix }

-- a key is seen at a moment that begins at this time
abbrev pub observed : Key → Bool → ℕ → Observation
observed key bad time = record { key = key; moment = record { begin = time; bad = bad } }
