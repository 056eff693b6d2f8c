-- The parts of the formats whose fields have fixed places, by offset: which field a byte belongs to.
use Rattle.std.specs.Prelude.{ℕ, nat_lt, if◌then◌else◌}
use Rattle.nr_fields.specs.declared.field.Field.{Field}
use Rattle.nr_fields.specs.declared.field.Field.TheVariants.{Magic, Network, First, Previous, Flag, Time, Kind, ContentLength, Content, Number, Hash, Leaf, Height, Pairs, Siblings, Seed, Surplus, Gate, Root, Stamp, RecordKind, Subtype, BodyLength, Body, From, To, ClaimCount, Claim}

abbrev pub seed_field : ℕ → Field
seed_field at = if nat_lt at 32 then Seed else Surplus

abbrev pub key_field : ℕ → Field
key_field at =
    if nat_lt at 4 then Magic else (if nat_lt at 8 then Network else (if nat_lt at 9 then Height
    else (if nat_lt at 41 then Seed else Surplus)))

-- of an authenticator
abbrev pub auth_field : ℕ → Field
auth_field at =
    if nat_lt at 4 then Network else (if nat_lt at 12 then Number else (if nat_lt at 20 then Time
    else (if nat_lt at 52 then Hash else (if nat_lt at 56 then Leaf else (if nat_lt at 57 then Height
    else (if nat_lt at 16441 then Pairs else Siblings))))))

-- of an entry
abbrev pub entry_field : ℕ → Field
entry_field at =
    if nat_lt at 8 then Time else (if nat_lt at 9 then Kind else (if nat_lt at 11 then ContentLength else Content))

-- of an answer before its body or its entry count
abbrev pub front_field : ℕ → Field
front_field at =
    if nat_lt at 4 then Magic else (if nat_lt at 8 then Network else (if nat_lt at 16 then First
    else (if nat_lt at 48 then Previous else Flag)))

-- of a record of an MRT file
abbrev pub mrt_field : ℕ → Field
mrt_field at =
    if nat_lt at 4 then Stamp else (if nat_lt at 6 then RecordKind else (if nat_lt at 8 then Subtype
    else (if nat_lt at 12 then BodyLength else Body)))

-- of a log before its first batch
abbrev pub birth_field : ℕ → Field
birth_field at =
    if nat_lt at 1 then Gate else (if nat_lt at 7 then Magic else (if nat_lt at 11 then Network else Root))

-- of evidence behind its promise text
abbrev pub claims_field : ℕ → Field
claims_field at =
    if nat_lt at 8 then From else (if nat_lt at 16 then To else (if nat_lt at 20 then ClaimCount else Claim))
