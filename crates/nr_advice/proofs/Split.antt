-- What `split_once` gives of a text at a space.
use Rattle.std.proofs.Common.{arith, ◌≡◌, refl, ℕ, true, false, ap, List, length, Bor, nat_lt}
use Rattle.std.specs.Prelude.{Option, None, Some}
use Rattle.std.specs.Option.{option_map}
use Rattle.std.specs.List.{position_or_len}
use Rattle.std.proofs.lemmas.Str.Pattern.{IsSplitOnceResult, split_once_first}
use Rattle.nr_advice.specs.Lines.{is_space, first_word}

pub worded : (text : List ℕ) (r : Option (Bor (List ℕ) × Bor (List ℕ))) → IsSplitOnceResult 32 text r → option_map (λ x. x.0.now) r ≡ first_word text
unfolding first_word
worded text (Some x) h =
    let cut = split_once_first 32 text (Some x) h (omega arith) in
    let has : nat_lt (position_or_len is_space text) (length text) ≡ true = grind (arith, cut.0) in
    rw has (ap Some cut.1)
worded text None h =
    let none = split_once_first 32 text None h (omega arith) in
    let has : nat_lt (position_or_len is_space text) (length text) ≡ false = grind (arith, none) in
    rw has refl
