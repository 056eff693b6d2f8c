-- What a record is written for.
use Rattle.std.specs.Prelude.{◌≡◌, ℕ, ◌+◌, ◌<◌, ◌^◌, Bool, true, List, ◌++◌, length, Ok}
use Rattle.nr_spec_bgp.specs.Records.{Carries, Ends as SessionEnds, record_at}
use Rattle.nr_mrt.specs.declared.write.Ends.{Ends}

abbrev pub ends_of : Ends → SessionEnds
ends_of e = record { peer_as = e.peer_as; own_as = e.own_as; peer = e.peer; own = e.own }

abbrev pub session_ends : ℕ → ℕ → ℕ → ℕ → SessionEnds
session_ends peer_as own_as peer own = record { peer_as = peer_as; own_as = own_as; peer = peer; own = own }

-- what fits the fields of a record
pub record AreEnds (e : SessionEnds) : Type 0 where
  pub peer_as : e.peer_as < 2 ^ 32
  pub own_as : e.own_as < 2 ^ 32
  pub peer : e.peer < 2 ^ 32
  pub own : e.own < 2 ^ 32

-- The bytes read as a record of this message, wherever they stand and whatever stands after them.
abbrev pub ReadsBack : ℕ → Bool → SessionEnds → List ℕ → List ℕ → Type 0
ReadsBack time sent e raw bytes =
    (at : ℕ) (more : List ℕ)
    → record_at (record { at = at; rest = bytes ++ more }) ≡ Ok (
      Carries (record { time = time; peer_as = e.peer_as; peer = e.peer; own = sent; as4 = true; raw = raw }),
      record { at = at + length bytes; rest = more },
    )
