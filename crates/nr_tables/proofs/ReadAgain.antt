-- A block that was read is read again.
use Rattle.std.proofs.Common.{◌≡◌, ℕ, Bool, List, Result, Ok, Err, refl, ap, sym, ◌∙◌}
use Rattle.nr_spec_wire.specs.Reading.{start_of}
use Rattle.nr_spec_bgp.specs.Attributes.{Attribute, AttributeBlock, attributes_in, block_at}

pub block_again : (as4 : Bool) (block : List ℕ) (list : List Attribute) → attributes_in as4 block ≡ Ok list → block_at as4 (start_of block) ≡ Ok (record { block = block; as4 = as4; list = list })
unfolding block_at
block_again as4 block list h = rw h refl

ok_of : {A : Type 0} → A → Result A ℕ → A
ok_of a (Ok x) = x
ok_of a (Err e) = a

pub read_ok : (as4 : Bool) (block : List ℕ) (list : List Attribute) (a : AttributeBlock) → attributes_in as4 block ≡ Ok list → block_at as4 (start_of block) ≡ Ok a → a ≡ record { block = block; as4 = as4; list = list }
unfolding ok_of
read_ok as4 block list a h read = ap (ok_of a) (sym read ∙ block_again as4 block list h)

pub read_err : (as4 : Bool) (block : List ℕ) (list : List Attribute) (place : ℕ) → attributes_in as4 block ≡ Ok list → block_at as4 (start_of block) ≡ Err place → ⊥
read_err as4 block list place h read = let e = sym read ∙ block_again as4 block list h in cc
