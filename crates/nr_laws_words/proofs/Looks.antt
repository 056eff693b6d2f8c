-- What a word looks like to `clap`: `--`, an option with or without a value, other flags, or a plain word.
use Rattle.std.proofs.Common.{◌≡◌, ◌∙◌, ◌==◌, ℕ, Bool, true, false, refl, sym, ap, List, [], ◌∷◌, Option, Some, None, bytes_eq, arith, suc, length}
use Rattle.std.specs.Str.{chars}
use Rattle.std.proofs.lemmas.Bool.{eqb-true, ne_eqb, true≢false}
use Rattle.clap.specs.Lexer.{long_of, short_of, name_and_value}
use Rattle.clap.specs.Walk.{Text, is_empty}
use Rattle.nr_laws_words.specs.Pairs.{dashes, is_plain}

pub empty_not : {X : Type 0} (x : X) (xs : List X) → is_empty (x ∷ xs) ≡ false
empty_not x xs = ne_eqb (suc (length xs)) 0 (omega arith)

-- no short flags are read in the word
abbrev pub NoFlags : Option Text → Type 0
NoFlags None = Unit {0}
NoFlags (Some flags) = chars flags ≡ []

pub data Looks (word : Text) : Type 0 where
  Ends : bytes_eq word dashes ≡ true → is_plain word ≡ false → Looks word
  Long : (name : Text) (value : Option Text) → bytes_eq word dashes ≡ false → long_of word ≡ Some (name, value) → is_plain word ≡ false → Looks word
  Flags : (flags : Text) (c : ℕ) (cs : List ℕ) → bytes_eq word dashes ≡ false → long_of word ≡ None → short_of word ≡ Some flags → chars flags ≡ c ∷ cs → is_plain word ≡ false → Looks word
  Plain : (flags : Option Text) → bytes_eq word dashes ≡ false → long_of word ≡ None → short_of word ≡ flags → NoFlags flags → is_plain word ≡ true → Looks word

by_chars : (first second : ℕ) (more : Text) → (cs : List ℕ) → chars (second ∷ more) ≡ cs → (first == 45) ≡ true → (second == 45) ≡ false → Looks (first ∷ second ∷ more)
by_chars first second more [] e b c =
    Plain (Some (second ∷ more)) (rw (b, c)) (rw (b, c)) (rw (b, c)) e (rw (b, e))
by_chars first second more (x ∷ xs) e b c =
    Flags (second ∷ more) x xs (rw (b, c)) (rw (b, c)) (rw (b, c)) e (rw (b, e, empty_not))

dash_char : (more : Text) → is_empty (chars (45 ∷ more)) ≡ false
unfolding chars
dash_char [] = empty_not {X = ℕ} 45 []
dash_char (b ∷ bs) = empty_not {X = ℕ} 45 _

dash_not : (second : ℕ) (more : Text) → (second == 45) ≡ true → is_empty (chars (second ∷ more)) ≡ false
dash_not second more e = ap (λ b. is_empty (chars (b ∷ more))) (eqb-true second 45 e) ∙ dash_char more

by_second : (first second : ℕ) (more : Text) (b : Bool) → (second == 45) ≡ b → (first == 45) ≡ true → Looks (first ∷ second ∷ more)
by_second first second [] true e f = Ends (rw (f, e)) (rw f (dash_not second [] e))
by_second first second (x ∷ xs) true e f = Long (name_and_value (x ∷ xs)).0 (name_and_value (x ∷ xs)).1 (rw (f, e)) (rw (f, e)) (rw f (dash_not second (x ∷ xs) e))
by_second first second more false e f = by_chars first second more (chars (second ∷ more)) refl f e

no_chars : is_empty (chars []) ≡ true
unfolding chars
no_chars = refl

by_first : (first : ℕ) (rest : Text) (b : Bool) → (first == 45) ≡ b → Looks (first ∷ rest)
by_first first rest false e = Plain None (rw e) (rw e) (rw e) tt (rw e)
by_first first [] true e = Plain None (rw e) (rw e) (rw e) tt (rw (e, no_chars))
by_first first (second ∷ more) true e = by_second first second more (second == 45) refl e

pub look : (word : Text) → Looks word
look [] = Plain None refl refl refl tt refl
look (first ∷ rest) = by_first first rest (first == 45) refl

pub plain_looks : (word : Text) → is_plain word ≡ true → (bytes_eq word dashes ≡ false) × (long_of word ≡ None)
plain_looks word plain = go (look word)
  where
    go : Looks word → (bytes_eq word dashes ≡ false) × (long_of word ≡ None)
    go (Ends e is) = absurd (true≢false (sym plain ∙ is))
    go (Long name v e l is) = absurd (true≢false (sym plain ∙ is))
    go (Flags flags c cs e l f chars_are is) = absurd (true≢false (sym plain ∙ is))
    go (Plain flags e l f chars_are is) = (e, l)
