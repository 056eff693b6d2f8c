-- Which field of a file a byte belongs to. What stands behind the byte plays no part.
use Rattle.std.specs.Prelude.{ℕ, ◌+◌, ◌-◌, ◌*◌, ◌==◌, nat_lt, if◌then◌else◌, List, length, drop}
use Rattle.nr_fields.specs.Fields.{seed_field, key_field, auth_field, entry_field, front_field, mrt_field, birth_field, claims_field}
use Rattle.nr_fields.specs.Records.{number_behind, spot_among}
use Rattle.nr_fields.specs.declared.records.Shape.{Shape}
use Rattle.nr_fields.specs.declared.records.Spot.{Spot}
use Rattle.nr_fields.specs.declared.field.Field.{Field}
use Rattle.nr_fields.specs.declared.field.Field.TheVariants.{Magic, Surplus, EntryCount, CheckpointLength, Checkpoint, FrameLength, Frame, BatchLength, Gate, AnswerLength, PromiseLength, Promise}
use Rattle.nr_fields.specs.declared.format.Format.{Format}
use Rattle.nr_fields.specs.declared.format.Format.TheVariants as format

-- entries, authenticators, batches of a log with the gate before each, frames behind their lengths, and MRT records
abbrev pub entries : Shape
entries = record { front = 11; start = 9; width = 2; unit = 1 }

abbrev pub auths : Shape
auths = record { front = 16441; start = 56; width = 1; unit = 32 }

abbrev pub batches : Shape
batches = record { front = 5; start = 1; width = 4; unit = 1 }

abbrev pub frames : Shape
frames = record { front = 4; start = 0; width = 4; unit = 1 }

abbrev pub records : Shape
records = record { front = 12; start = 8; width = 4; unit = 1 }

-- what is left of the bytes where a spot begins
abbrev pub rest_at : List ℕ → ℕ → Spot → List ℕ
rest_at bytes at spot = drop (at - spot.at) bytes

-- the head of an answer, which ends by the height of its tree, and what stands behind it
abbrev pub head_field : List ℕ → ℕ → Field
head_field bytes at =
    if nat_lt at 57 then auth_field at
    else (if nat_lt at (16441 + 32 * number_behind 56 1 bytes) then auth_field at else Surplus)

-- the entries of an answer, and behind them its head
abbrev pub entries_or_head : List ℕ → ℕ → Spot → Field
entries_or_head bytes at spot =
    if spot.left == 0 then head_field (rest_at bytes at spot) spot.at else entry_field spot.at

-- an answer from its entry count on
unfoldable pub counted_field : List ℕ → ℕ → Field
counted_field bytes at =
    if nat_lt at 4 then EntryCount
    else entries_or_head (drop 4 bytes) (at - 4)
    (spot_among entries (number_behind 0 4 bytes) (drop 4 bytes) (at - 4))

-- an answer from the length of a body on
unfoldable pub body_field : List ℕ → ℕ → Field
body_field bytes at =
    if nat_lt at 4 then CheckpointLength
    else (if nat_lt (at - 4) (number_behind 0 4 bytes) then Checkpoint
    else counted_field (drop (number_behind 0 4 bytes) (drop 4 bytes)) (at - 4 - number_behind 0 4 bytes))

unfoldable pub answer_field : List ℕ → ℕ → Field
answer_field bytes at =
    if nat_lt at 49 then front_field at
    else (if number_behind 48 1 bytes == 1 then body_field (drop 49 bytes) (at - 49)
    else counted_field (drop 49 bytes) (at - 49))

-- where an offset stands among records up to the end of the bytes
abbrev pub spot_in : Shape → List ℕ → ℕ → Spot
spot_in shape bytes at = spot_among shape (length bytes) bytes at

-- authenticators behind the magic
unfoldable pub auths_field : List ℕ → ℕ → Field
auths_field bytes at = if nat_lt at 4 then Magic else auth_field (spot_in auths (drop 4 bytes) (at - 4)).at

unfoldable pub frames_field : List ℕ → ℕ → Field
frames_field bytes at =
    if nat_lt at 4 then Magic
    else (if nat_lt (spot_in frames (drop 4 bytes) (at - 4)).at 4 then FrameLength else Frame)

unfoldable pub records_field : List ℕ → ℕ → Field
records_field bytes at = mrt_field (spot_in records bytes at).at

-- the entries of a batch, and the gate and the length before them
unfoldable pub batch_field : List ℕ → ℕ → Field
batch_field bytes at =
    if nat_lt at 1 then Gate else (if nat_lt at 5 then BatchLength
    else entry_field (spot_in entries (drop 5 bytes) (at - 5)).at)

unfoldable pub batches_field : List ℕ → ℕ → Field
batches_field bytes at =
    batch_field (rest_at bytes at (spot_in batches bytes at)) (spot_in batches bytes at).at

unfoldable pub log_field : List ℕ → ℕ → Field
log_field bytes at = if nat_lt at 43 then birth_field at else batches_field (drop 43 bytes) (at - 43)

-- evidence from the length of its promise text on
unfoldable pub promised_field : List ℕ → ℕ → Field
promised_field bytes at =
    if nat_lt at 4 then PromiseLength
    else (if nat_lt (at - 4) (number_behind 0 4 bytes) then Promise
    else claims_field (at - 4 - number_behind 0 4 bytes))

-- evidence from the length of its answer on
unfoldable pub answered_field : List ℕ → ℕ → Field
answered_field bytes at =
    if nat_lt at 4 then AnswerLength
    else (if nat_lt (at - 4) (number_behind 0 4 bytes) then answer_field (drop 4 bytes) (at - 4)
    else promised_field (drop (number_behind 0 4 bytes) (drop 4 bytes)) (at - 4 - number_behind 0 4 bytes))

unfoldable pub evidence_field : List ℕ → ℕ → Field
evidence_field bytes at = if nat_lt at 4 then Magic else answered_field (drop 4 bytes) (at - 4)

abbrev pub field_of : Format → List ℕ → ℕ → Field
field_of format.Seed bytes at = seed_field at
field_of format.Key bytes at = key_field at
field_of format.Auths bytes at = auths_field bytes at
field_of format.Answer bytes at = answer_field bytes at
field_of format.Evidence bytes at = evidence_field bytes at
field_of format.Frames bytes at = frames_field bytes at
field_of format.Log bytes at = log_field bytes at
field_of format.Mrt bytes at = records_field bytes at
