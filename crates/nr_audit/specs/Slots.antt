-- The places of the numbers that authenticators name.
use Rattle.std.specs.Prelude.{if◌then◌else◌, ◌≡◌, ◌&&◌, not, ℕ, Bool, true, false, List, Option, None, Some, option_map}
use Rattle.std.specs.List.{list_any}
use Rattle.std.specs.Map.{lookup}
use Rattle.std.specs.BTreeMap.{is_at}
use Rattle.std.specs.Ordering.{nat_cmp}
use Rattle.nr_spec_log.specs.Authenticator.{Authenticator}
use Rattle.nr_spec_log.specs.Chain as chain
use Rattle.nr_spec_routes.specs.LookBack.{last_of}
use Rattle.nr_spec_history.specs.Conflicts.{Period, is_presented, is_stated}
use Rattle.nr_audit.specs.declared.slots.Link.{Link}
use Rattle.nr_audit.specs.Views.{link_of}

-- the place of a number, where there is one, and what is in it
abbrev pub slot_of : List (ℕ × Option Link) → ℕ → Option (Option Link)
slot_of entries k = lookup (is_at (nat_cmp k)) entries

-- some authenticator names this number
abbrev pub is_named : ℕ → List Authenticator → Bool
is_named k auths = list_any (λ (a : Authenticator). is_at (nat_cmp a.seq) k) auths

-- an empty place, or none
abbrev pub named : Bool → Option (Option Link)
named true = Some None
named false = None

-- a place after a link was put into the place of its number
abbrev pub noted : Link → ℕ → Option (Option Link) → Option (Option Link)
noted link k None = None
noted link k (Some found) = if is_at (nat_cmp link.seq) k then Some (Some link) else Some found

-- whether what is in a place is what the authenticator states
abbrev pub stated_in : Authenticator → Option (Option Link) → Bool
stated_in a None = false
stated_in a (Some None) = false
stated_in a (Some (Some link)) = is_stated a (link_of link)

-- the link of this number
abbrev pub numbered : ℕ → chain.Link → Option chain.Link
numbered k link = if is_at (nat_cmp link.seq) k then Some link else None

-- what stands in the place of a number after links: the last link of that number
abbrev pub place_after : Bool → ℕ → List chain.Link → Option (Option chain.Link)
place_after true k links = Some (last_of (numbered k) links)
place_after false k links = None

abbrev pub view_of : Option (Option Link) → Option (Option chain.Link)
view_of place = option_map (option_map link_of) place

-- every place has what it has after these links
abbrev pub AreNoted : List Authenticator → List chain.Link → List (ℕ × Option Link) → Type 0
AreNoted auths links entries = (k : ℕ) → view_of (slot_of entries k) ≡ place_after (is_named k auths) k links

-- whether an authenticator accuses, by the places of the numbers that authenticators name
abbrev pub accuses : List ℕ → ℕ → Period → List (ℕ × Option Link) → Authenticator → Bool
accuses root asn period entries a = is_presented root asn period a && not (stated_in a (slot_of entries a.seq))
