-- Words as uses of options and files, by their looks alone.
use Rattle.std.proofs.Common.{◌≡◌, ◌∙◌, ap, refl, Bool, cond, true, false, List, [], ◌∷◌, Option, Some, None, option_map, bytes_eq}
use Rattle.clap.specs.Lexer.{long_of}
use Rattle.clap.specs.Walk.{Text}
use Rattle.nr_words.specs.Grammar.{OptionRule}
use Rattle.nr_laws_words.specs.Pairs.{dashes, is_plain}
use Rattle.nr_laws_words.proofs.Rules.{named}
use Rattle.nr_laws_words.proofs.Steps.{Use, Opt, Put}

abbrev pub and_use : Use → Option (List Use) → Option (List Use)
and_use u = option_map (λ us. u ∷ us)

module _ (options : List OptionRule) (files : Bool) where
  -- the words after `--`
  abbrev pub trailing : List Text → Option (List Use)
  trailing [] = Some []
  trailing (word ∷ words) = cond files (and_use (Put word) (trailing words)) None

  abbrev pub option_step : Option Text → Text → Option Text → Option OptionRule → (Option Text → Option (List Use)) → Option (List Use)
  option_step (Some waiting) name v o next = None
  option_step None name v None next = None
  option_step None name (Some v) (Some o) next = and_use (Opt name v) (next None)
  option_step None name None (Some o) next = next (Some name)

  abbrev pub plain_step : Option Text → Text → Bool → (Option Text → Option (List Use)) → Option (List Use)
  plain_step waiting word false next = None
  plain_step (Some name) word true next = and_use (Opt name word) (next None)
  plain_step None word true next = cond files (and_use (Put word) (next None)) None

  abbrev pub end_step : Option Text → Option (List Use) → Option (List Use)
  end_step None rest = rest
  end_step (Some name) rest = None

  abbrev pub other_step : Option Text → Text → Option (Text × Option Text) → (Option Text → Option (List Use)) → Option (List Use)
  other_step waiting word (Some p) next = option_step waiting p.0 p.1 (named options p.0) next
  other_step waiting word None next = plain_step waiting word (is_plain word) next

  abbrev pub word_step : Option Text → Text → Bool → List Text → (Option Text → Option (List Use)) → Option (List Use)
  word_step waiting word true words next = end_step waiting (trailing words)
  word_step waiting word false words next = other_step waiting word (long_of word) next

  -- the option that waits for its value, and the words that follow
  unfoldable pub lexed : Option Text → List Text → Option (List Use)
  lexed None [] = Some []
  lexed (Some name) [] = None
  lexed waiting (word ∷ words) = word_step waiting word (bytes_eq word dashes) words (λ w. lexed w words)

  module _ (waiting : Option Text) (word : Text) (words : List Text) where
    abbrev next : Option Text → Option (List Use)
    next w = lexed w words

    lexed_more : lexed waiting (word ∷ words) ≡ word_step waiting word (bytes_eq word dashes) words next
    unfolding lexed
    lexed_more = refl

    pub lexed_ends : bytes_eq word dashes ≡ true → lexed waiting (word ∷ words) ≡ end_step waiting (trailing words)
    lexed_ends e = lexed_more ∙ ap (λ b. word_step waiting word b words next) e

    other : bytes_eq word dashes ≡ false → (long : Option (Text × Option Text)) → long_of word ≡ long → lexed waiting (word ∷ words) ≡ other_step waiting word long next
    other e long l = lexed_more ∙ ap (λ b. word_step waiting word b words next) e ∙ ap (λ x. other_step waiting word x next) l

    pub lexed_long : (name : Text) (v : Option Text) (o : Option OptionRule) → bytes_eq word dashes ≡ false → long_of word ≡ Some (name, v) → named options name ≡ o
        → lexed waiting (word ∷ words) ≡ option_step waiting name v o next
    lexed_long name v o e l n = other e (Some (name, v)) l ∙ ap (λ x. option_step waiting name v x next) n

    pub lexed_plain : (plain : Bool) → bytes_eq word dashes ≡ false → long_of word ≡ None → is_plain word ≡ plain → lexed waiting (word ∷ words) ≡ plain_step waiting word plain next
    lexed_plain plain e l is = other e None l ∙ ap (λ b. plain_step waiting word b next) is
