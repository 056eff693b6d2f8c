-- What digits write fits a number.
use Rattle.std.proofs.Common.{◌≡◌, ℕ, ◌<◌, ◌≤◌, ◌^◌, Bool, true, false, ◌&&◌, List, length, Result, Ok, refl, arith}
use Rattle.std.specs.Str.{all_ascii_digits}
use Rattle.std.specs.Str.Parse.{digits_value, ParsesUnsigned}
use Rattle.std.proofs.lemmas.Bool.{leb-true}
use Rattle.std.proofs.lemmas.Str.Parse.{IsNumeralModel, numerals_by_value, tells_all_ascii_digits, digits_value_short, parse_gives}
use Rattle.nr_spec_commands.specs.Words.{is_decimal}

both : (a b : Bool) → (a && b) ≡ true → (a ≡ true) × (b ≡ true)
both true b e = (refl, e)
both false b e = absurd cc

own : IsNumeralModel (λ ds. all_ascii_digits ds ≡ true) (digits_value 10)
own = numerals_by_value _ tells_all_ascii_digits

pub parse-decimal_word : {E : Type 0} (word : List ℕ) (r : Result ℕ E) → is_decimal word ≡ true → ParsesUnsigned 64 10 word r → r ≡ Ok (digits_value 10 word)
parse-decimal_word word r is parsed =
    let some = both _ _ is in
    let few = both _ _ some.1 in
    let least : 1 ≤ length word = leb-true _ _ some.0 in
    let most : length word ≤ 19 = leb-true _ _ few.0 in
    let small : digits_value 10 word < 10 ^ 19 = digits_value_short own word 19 few.1 most in
    parse_gives own 64 word r parsed few.1 (omega arith) (omega arith)
