-- Rows that share blocks of attributes.
use Rattle.std.specs.Prelude.{[], ℕ, ◌&&◌, ◌+◌, ◌==◌, ◌≡◌, ◌<◌, Bool, List, false, get_or, if◌then◌else◌, map, nat_lt, suc, ◌∷◌}
use Rattle.std.specs.Bool.{beq}
use Rattle.std.specs.List.{AllByRecursion}
use Rattle.std.specs.Map.{values_of}
use Rattle.std.specs.Set.{distinct_count}
use Rattle.std.specs.Str.{bytes_eq}
use Rattle.nr_spec_bgp.specs.Attributes.{AttributeBlock}
use Rattle.nr_spec_routes.specs.Keys.{Key, Row}
use Rattle.nr_attrs.specs.Reading.{list_in}
use Rattle.nr_tables.specs.Stored.{IsStored}
use Rattle.nr_tables.specs.declared.block.Block.{Block}

-- ---- what is counted

-- whether two blocks have the same bytes and are read alike
abbrev pub same_block : AttributeBlock → AttributeBlock → Bool
same_block a b = beq a.as4 b.as4 && bytes_eq a.block b.block

-- how many different blocks rows have
abbrev pub blocks_in : List Row → ℕ
blocks_in rows = distinct_count same_block (values_of rows)

-- ---- what is kept

-- a block as it is kept
abbrev pub kept : Block → AttributeBlock
kept b = record { block = b.bytes.items; as4 = b.as4; list = list_in b.as4 b.bytes.items }

-- blocks in their places, and how many rows name each
pub record Pool : Type 0 where
  pub blocks : List AttributeBlock
  pub numbers : List ℕ

-- what a place without a block would have
abbrev pub no_block : AttributeBlock
no_block = record { block = []; as4 = false; list = [] }

abbrev pub block_at : List AttributeBlock → ℕ → AttributeBlock
block_at blocks place = get_or blocks place no_block

abbrev pub number_at : List ℕ → ℕ → ℕ
number_at numbers place = get_or numbers place 0

-- the places that no row names
abbrev pub unnamed : List ℕ → ℕ
unnamed [] = 0
unnamed (n ∷ numbers) = (if n == 0 then 1 else 0) + unnamed numbers

-- each block reads, and the places that no row names are counted
pub record IsPool (blocks : List AttributeBlock) (numbers : List ℕ) (count : ℕ) : Type 0 where
  pub stored : AllByRecursion (λ a. IsStored a.as4 a.block) blocks
  pub unused : count ≡ unnamed numbers

-- ---- rows

-- rows with the blocks that they name
abbrev pub named_rows : List AttributeBlock → List (Key × ℕ) → List Row
named_rows blocks rows = map (λ e. (e.0, block_at blocks e.1)) rows

-- how many rows name a place
abbrev pub times : {K : Type 0} → ℕ → List (K × ℕ) → ℕ
times place [] = 0
times place (e ∷ rows) = (if place == e.1 then 1 else 0) + times place rows

-- the number of each place is that of the rows that name it
abbrev pub AreCounted : List ℕ → List (Key × ℕ) → Type 0
AreCounted numbers rows = (place : ℕ) → times place rows ≡ number_at numbers place

-- each row names a place that some row names
abbrev pub AreNamed : List ℕ → List (Key × ℕ) → Type 0
AreNamed numbers rows = AllByRecursion (λ e. 0 < number_at numbers e.1) rows

-- rows, and the blocks that a new row may name
pub record Shared : Type 0 where
  pub rows : List Row
  pub blocks : List AttributeBlock

-- ---- places without those that no row names

-- the new places, the first of which is `next`
abbrev pub renamed : ℕ → List ℕ → List ℕ
renamed next [] = []
renamed next (n ∷ numbers) = next ∷ renamed (if nat_lt 0 n then suc next else next) numbers
