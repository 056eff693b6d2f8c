-- Reading a file field by field, with the place of the first field that doesn't read. Offsets count bytes
-- from the start of the file, and numbers have their highest byte first.
use Rattle.std.specs.Prelude.{◌≡◌, ℕ, zero, suc, ◌+◌, ◌-◌, ◌<◌, ◌≤◌, Bool, List, [], ◌∷◌, length, get_or, take, drop, Result, Ok, Err, Option, None, Some, nat_lt, ◌==◌, if◌then◌else◌}
use Rattle.byteorder.specs.Endian.{big_number}

-- each is below 256
abbrev pub IsBytes : List ℕ → Type 0
IsBytes bytes = (i : ℕ) → get_or bytes i 0 < 256

-- where reading stands
pub record Spot : Type 0 where
  pub at : ℕ  -- the offset of the next byte
  pub rest : List ℕ  -- the bytes from there to the end

-- the start of a file
abbrev pub start_of : List ℕ → Spot
start_of bytes = record { at = 0; rest = bytes }

-- n bytes further
abbrev pub past : ℕ → Spot → Spot
past n s = record { at = s.at + n; rest = drop n s.rest }

-- a value and where reading stands after it, or the place of the first field that doesn't read
abbrev pub Read : Type 0 → Type 0
Read A = Result (A × Spot) ℕ

-- one step after another: a fault ends the reading
infixl 10 ◌>>=◌
abbrev pub ◌>>=◌ : {A B E : Type 0} → Result A E → (A → Result B E) → Result B E
(Ok x) >>= f = f x
(Err e) >>= f = Err e

-- a number of n bytes: a fault at its first byte where fewer are left
abbrev pub number_at : ℕ → Spot → Read ℕ
number_at n s = if nat_lt (length s.rest) n then Err s.at else Ok (big_number n s.rest, past n s)

-- n bytes as they are
abbrev pub bytes_at : ℕ → Spot → Read (List ℕ)
bytes_at n s = if nat_lt (length s.rest) n then Err s.at else Ok (take n s.rest, past n s)

-- the next n bytes as a part to be read by itself, in which places stay those of the file
abbrev pub part_at : ℕ → Spot → Read Spot
part_at n s = if nat_lt (length s.rest) n then Err s.at else Ok (record { at = s.at; rest = take n s.rest }, past n s)

-- the value where it passes the test, else a fault at this place
abbrev pub wants : {A : Type 0} → Bool → ℕ → A → Result A ℕ
wants test place x = if test then Ok x else Err place

-- nothing is left, else a fault at the first byte that is
abbrev pub ends_at : {A : Type 0} → Spot → A → Result A ℕ
ends_at s x = if length s.rest == 0 then Ok x else Err s.at

-- the bytes between two spots of one file
abbrev pub between : Spot → Spot → List ℕ
between from to = take (length from.rest - length to.rest) from.rest

-- Values to the end of the bytes, and where reading ends. Each takes a byte or more, so the number of bytes is
-- fuel enough.
unfoldable pub rows_at : {A : Type 0} → (Spot → Read A) → ℕ → Spot → Read (List A)
rows_at item zero s = Ok ([], s)
rows_at item (suc fuel) s = if length s.rest == 0 then Ok ([], s) else (do
  first ← item s
  others ← rows_at item fuel first.1
  Ok (first.0 ∷ others.0, others.1))

abbrev pub all_rows_at : {A : Type 0} → (Spot → Read A) → Spot → Read (List A)
all_rows_at item s = rows_at item (length s.rest) s

-- the values of such a reading, without where it ends
abbrev pub values : {A : Type 0} → Read (List A) → Result (List A) ℕ
values (Ok read) = Ok read.0
values (Err place) = Err place

-- the values to the end of the bytes alone
abbrev pub all_at : {A : Type 0} → (Spot → Read A) → Spot → Result (List A) ℕ
all_at item s = values (all_rows_at item s)

-- the values that were read, none after a fault
abbrev pub rows : {A : Type 0} → Read (List A) → List A
rows (Ok read) = read.0
rows (Err place) = []

-- the place of the fault, where there is one
abbrev pub fault : {A : Type 0} → Result A ℕ → Option ℕ
fault (Ok x) = None
fault (Err place) = Some place

-- ---- what a reader of the code answers

-- New stands where old does or after it, and as much closer to the end.
pub record IsOnward (old new : Spot) : Type 0 where
  pub left : length new.rest ≤ length old.rest
  pub end : new.at + length new.rest ≡ old.at + length old.rest

-- A result is what reading gives: its value, seen by view, and the spot after the value, or the place of the fault.
abbrev pub Reads : {X Y E : Type 0} → (X → Y) → (E → ℕ) → Result X E → Spot → Read Y → Type 0
Reads view place (Ok x) new read = read ≡ Ok (view x, new)
Reads view place (Err e) new read = read ≡ Err (place e)

-- The same, and a fault leaves the reader where the reader was.
abbrev pub Gives : {X Y E : Type 0} → (X → Y) → (E → ℕ) → Result X E → Spot → Spot → Read Y → Type 0
Gives view place (Ok x) old new read = read ≡ Ok (view x, new)
Gives view place (Err e) old new read = (read ≡ Err (place e)) × (new ≡ old)

-- The same for a reading of all of the bytes, which gives no spot.
abbrev pub Answers : {X Y E : Type 0} → (X → Y) → (E → ℕ) → Result X E → Result Y ℕ → Type 0
Answers view place (Ok x) read = read ≡ Ok (view x)
Answers view place (Err e) read = read ≡ Err (place e)
