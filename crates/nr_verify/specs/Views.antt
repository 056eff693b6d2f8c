-- What this crate's types stand for in the definitions.
use Rattle.std.specs.Prelude.{◌≡◌, ◌≤◌, ℕ, Result, Ok, Err, ⊤}
use Rattle.nr_rule_syntax.specs.declared.fault.ParseError.{ParseError}
use Rattle.nr_rule_syntax.specs.declared.fault.ParseError.TheVariants as parse
use Rattle.nr_rule_types.specs.declared.fault.TypeError.{TypeError}
use Rattle.nr_rule_types.specs.declared.fault.TypeError.TheVariants as typing
use Rattle.nr_spec_texts.specs.Promises as texts
use Rattle.nr_spec_verify.specs.Verified as spec
use Rattle.nr_verify_heads.specs.Views.{fact_of}
use Rattle.nr_verify.specs.declared.fault.VerifyError.{VerifyError}
use Rattle.nr_verify.specs.declared.fault.VerifyError.TheVariants.{Malformed, Refused, Memory}
use Rattle.nr_verify.specs.declared.fault.TextError.{TextError}
use Rattle.nr_verify.specs.declared.fault.TextError.TheVariants as text
use Rattle.nr_verify.specs.declared.reading.PromiseText as declared

abbrev pub unread_of : ParseError → TextError
unread_of (parse.At place) = text.At place
unread_of parse.Memory = text.Memory

abbrev pub untyped_of : TypeError → TextError
untyped_of (typing.At place) = text.At place
untyped_of typing.Memory = text.Memory

abbrev pub promise_file_of : declared.PromiseText → texts.PromiseFile
promise_file_of p = record { text = p.text.now; digest = p.digest.0; file = p.file; says = p.says }

-- A result is what the definition gives, its value or its refusal; or memory ran out.
abbrev pub Gives : {X Y : Type 0} → (X → Y) → Result X VerifyError → Result Y spec.Refusal → Type 0
Gives view (Ok x) wanted = wanted ≡ Ok (view x)
Gives view (Err (Malformed place)) wanted = wanted ≡ Err (spec.Malformed place.0)
Gives view (Err (Refused refusal)) wanted = wanted ≡ Err (spec.Refused (fact_of refusal))
Gives view (Err Memory) wanted = ⊤

-- A text reads as the definition reads it, or is refused at the same place; or memory ran out.
abbrev pub Reads : {X Y : Type 0} → (X → Y) → Result X TextError → Result Y ℕ → Type 0
Reads view (Ok x) wanted = wanted ≡ Ok (view x)
Reads view (Err (text.At place)) wanted = wanted ≡ Err place.0
Reads view (Err text.Memory) wanted = ⊤

-- A text is refused at one of so many bytes, or at their end.
abbrev pub IsWithin : {X : Type 0} → Result X TextError → ℕ → Type 0
IsWithin (Ok x) size = ⊤
IsWithin (Err (text.At place)) size = place.0 ≤ size
IsWithin (Err text.Memory) size = ⊤
