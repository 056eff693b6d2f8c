-- When a message isn't written.
use Rattle.std.specs.Prelude.{◌≡◌, ℕ, ◌<◌, ◌-◌, ◌^◌, Bool, true, List, length, min, Ok, ◌⊎◌, ⊤}
use Rattle.nr_spec_bgp.specs.Prefixes.{Cidr}
use Rattle.nr_spec_bgp.specs.Attributes.{Attribute, attributes_in, is_complete}
use Rattle.nr_spec_bgp.specs.Messages.{Updates, message_of}
use Rattle.nr_bgp.specs.declared.write.WriteError.{WriteError}
use Rattle.nr_bgp.specs.declared.write.WriteError.TheVariants.{TooLong, Memory}

-- a message of this length is too long, by a number that a u64 holds; want of memory may come at any time
abbrev pub SaysTooLong : WriteError → ℕ → Type 0
SaysTooLong (TooLong n) len = (65535 < len) × (n ≡ min len (2 ^ 64 - 1))
SaysTooLong Memory len = ⊤

-- only want of memory
abbrev pub IsMemory : WriteError → Type 0
IsMemory (TooLong n) = ⊥
IsMemory Memory = ⊤

-- The bytes read as an UPDATE of these prefixes and this block, for each size of AS numbers with which the block is
-- in its grammar, and complete where something is announced.
abbrev pub ReadsBack : List Cidr → List ℕ → List Cidr → List ℕ → Type 0
ReadsBack withdrawn block announced bytes =
    (as4 : Bool) (list : List Attribute) → attributes_in as4 block ≡ Ok list
    → (length announced ≡ 0) ⊎ (is_complete list ≡ true)
    → message_of as4 bytes ≡ Ok (Updates (record {
      withdrawn = withdrawn;
      attributes = record { block = block; as4 = as4; list = list };
      announced = announced;
    }))
