-- What each word comes to: its fault, and where the walk stands after the word.
use Rattle.std.proofs.Common.{◌≡◌, ◌∙◌, ◌||◌, ◌&&◌, ℕ, Bool, true, false, refl, sym, ap, ap₂, List, [], ◌∷◌, Option, Some, None, bytes_eq, slice_get, suc, length}
use Rattle.std.specs.Str.{chars}
use Rattle.clap.specs.Lexer.{long_of, short_of}
use Rattle.clap.specs.Walk.{Held, Row, Rule, Text, Walk, Waiting, Step, idle, option, positional, value, bundle_met, after_step, plain, plain_word, reacted, settled, walked, word_met, is_pending, pushed}
use Rattle.clap.specs.Simple.{Shape}
use Rattle.clap.specs.Kinds.{Kinds, or_else}
use Rattle.clap.specs.Faults.{flags_fault, settle_fault, step_fault, turn_fault, use_fault, word_fault}
use Rattle.clap.proofs.WalkLemmas.{bundle_ends}
use Rattle.clap.proofs.FaultLemmas.{fault_ends}
use Rattle.clap.specs.declared.error.kind.ErrorKind.TheVariants.{UnknownArgument}
use Rattle.nr_words.specs.Grammar.{OptionRule, files_id}
use Rattle.nr_laws_words.specs.Pairs.{dashes}
use Rattle.nr_laws_words.proofs.Rules.{full, file_rule, all_rules, named, by_index, by_short, same_text}
use Rattle.nr_laws_words.proofs.Looks.{NoFlags}
use Rattle.nr_laws_words.proofs.Steps.{shape, stands, held_with, waits, option_by_id, option_by_long, no_option_by_long}

no_more : (k : Kinds) → or_else k [] ≡ k
no_more [] = refl
no_more (k ∷ ks) = refl

never_both : (b : Bool) → (b && false) ≡ false
never_both true = refl
never_both false = refl

module _ (command : Text) (options : List OptionRule) (files : Bool) (word : Text) where
  abbrev s : Shape
  s = shape command (all_rules options files)

  abbrev c : List Rule
  c = all_rules options files

  -- ---- `--`

  pub ends_fault : (h : Held) (waiting : Waiting) → bytes_eq word dashes ≡ true → turn_fault s [] (stands h waiting false) word ≡ []
  ends_fault h idle e = rw e
  ends_fault h (option n) e = rw e
  ends_fault h positional e = rw e

  pub ends_walked : (h : Held) (waiting : Waiting) → bytes_eq word dashes ≡ true → walked c [] (stands h waiting false) word ≡ stands h waiting true
  unfolding walked
  ends_walked h idle e = rw e
  ends_walked h (option n) e = rw e
  ends_walked h positional e = rw e

  -- ---- an option

  pub unknown_fault : (h : Held) (waiting : Waiting) (name : Text) (v : Option Text) → bytes_eq word dashes ≡ false → long_of word ≡ Some (name, v) → named options name ≡ None
      → turn_fault s [] (stands h waiting false) word ≡ UnknownArgument ∷ []
  unknown_fault h idle name v e l n = rw (e, l, no_option_by_long options files name n)
  unknown_fault h (option m) name v e l n = rw (e, l, no_option_by_long options files name n)
  unknown_fault h positional name v e l n = rw (e, l, no_option_by_long options files name n)

  module _ (h : Held) (name : Text) (o : OptionRule) (e : bytes_eq word dashes ≡ false) (n : named options name ≡ Some o) where
    pub joined_fault : (waiting : Waiting) (v : Text) → long_of word ≡ Some (name, Some v)
        → turn_fault s [] (stands h waiting false) word ≡ or_else (settle_fault c false h) (use_fault false (full o) (v ∷ []) (settled c h).rows)
    joined_fault idle v l = rw (e, l, option_by_long options files name o n) (no_more _)
    joined_fault (option m) v l = rw (e, l, option_by_long options files name o n) (no_more _)
    joined_fault positional v l = rw (e, l, option_by_long options files name o n) (no_more _)

    pub joined_walked : (waiting : Waiting) (v : Text) → long_of word ≡ Some (name, Some v) → walked c [] (stands h waiting false) word ≡ stands (reacted c (full o) (v ∷ []) h) idle false
    unfolding walked
    joined_walked idle v l = rw (e, l, option_by_long options files name o n)
    joined_walked (option m) v l = rw (e, l, option_by_long options files name o n)
    joined_walked positional v l = rw (e, l, option_by_long options files name o n)

    pub alone_fault : (waiting : Waiting) → long_of word ≡ Some (name, None) → turn_fault s [] (stands h waiting false) word ≡ settle_fault c false h
    alone_fault idle l = rw (e, l, option_by_long options files name o n) (no_more _)
    alone_fault (option m) l = rw (e, l, option_by_long options files name o n) (no_more _)
    alone_fault positional l = rw (e, l, option_by_long options files name o n) (no_more _)

    pub alone_walked : (waiting : Waiting) → long_of word ≡ Some (name, None)
        → walked c [] (stands h waiting false) word ≡ stands (record (settled c h) { pending = Some (o.name, []) }) (option o.name) false
    unfolding walked
    alone_walked idle l = rw (e, l, option_by_long options files name o n)
    alone_walked (option m) l = rw (e, l, option_by_long options files name o n)
    alone_walked positional l = rw (e, l, option_by_long options files name o n)

  -- ---- other flags

  no_flag : (h : Held) (x : ℕ) (xs cs : Text) (c1 : ℕ) → chars (x ∷ xs) ≡ c1 ∷ cs → flags_fault c false (suc (length xs)) (x ∷ xs) 0 h ≡ UnknownArgument ∷ []
  unfolding flags_fault
  no_flag h x xs cs c1 e = rw (e, by_short options files c1)

  flags_refused : (h : Held) (flags cs : Text) (c1 : ℕ) → chars flags ≡ c1 ∷ cs → flags_fault c false (length flags) flags 0 h ≡ UnknownArgument ∷ []
  unfolding chars
  flags_refused h [] cs c1 e = absurd cc
  flags_refused h (x ∷ xs) cs c1 e = no_flag h x xs cs c1 e

  pub flag_fault : (rows : List Row) (pending : Option (Text × List Text)) (waiting : Waiting) (flags cs : Text) (c1 : ℕ)
      → bytes_eq word dashes ≡ false → long_of word ≡ None → short_of word ≡ Some flags → chars flags ≡ c1 ∷ cs
      → turn_fault s [] (stands (held_with rows pending) waiting false) word ≡ UnknownArgument ∷ []
  flag_fault rows pending idle flags cs c1 e l f is = rw (e, l, f, flags_refused (held_with rows pending) flags cs c1 is)
  flag_fault rows pending (option m) flags cs c1 e l f is = rw (e, l, f, flags_refused (held_with rows pending) flags cs c1 is)
  flag_fault rows pending positional flags cs c1 e l f is = rw (e, l, f, flags_refused (held_with rows pending) flags cs c1 is)

  -- ---- a plain word

  no_first : (flags : Text) → chars flags ≡ [] → ◌≡◌ {A = Option ℕ} None (slice_get (chars flags) 0)
  no_first flags is = ap (λ cs. slice_get cs 0) (sym is)

  no_bundle : (h : Held) (flags : Text) → chars flags ≡ [] → flags_fault c false (length flags) flags 0 h ≡ []
  no_bundle h flags is = sym (fault_ends c false (length flags) flags 0 h (no_first flags is))

  bundle_plain : (h : Held) (flags : Text) → chars flags ≡ [] → bundle_met c (length flags) flags 0 plain h ≡ (h, plain)
  bundle_plain h flags is = sym (bundle_ends c (length flags) flags 0 plain h (no_first flags is))

  module _ (rows : List Row) (pending : Option (Text × List Text)) (e : bytes_eq word dashes ≡ false) (l : long_of word ≡ None) where
    abbrev h : Held
    h = held_with rows pending

    plain_passes : (waiting : Waiting) (flags : Option Text) → short_of word ≡ flags → NoFlags flags → word_fault s [] false waiting word h ≡ []
    plain_passes idle None f is = rw (e, l, f)
    plain_passes (option m) None f is = rw (e, l, f)
    plain_passes positional None f is = rw (e, l, f)
    plain_passes idle (Some flags) f is = rw (e, l, f, no_bundle h flags is)
    plain_passes (option m) (Some flags) f is = rw (e, l, f, no_bundle h flags is)
    plain_passes positional (Some flags) f is = rw (e, l, f, no_bundle h flags is)

    plain_met : (waiting : Waiting) (flags : Option Text) → short_of word ≡ flags → NoFlags flags → word_met c [] false waiting 1 word h ≡ plain_word c waiting word h
    plain_met idle None f is = rw (e, l, f)
    plain_met (option m) None f is = rw (e, l, f)
    plain_met positional None f is = rw (e, l, f)
    plain_met idle (Some flags) f is = rw (e, l, f, bundle_plain h flags is)
    plain_met (option m) (Some flags) f is = rw (e, l, f, bundle_plain h flags is)
    plain_met positional (Some flags) f is = rw (e, l, f, bundle_plain h flags is)

    pub plain_fault : (waiting : Waiting) (flags : Option Text) → short_of word ≡ flags → NoFlags flags
        → turn_fault s [] (stands h waiting false) word ≡ step_fault s 1 (plain_word c waiting word h).0 (plain_word c waiting word h).1
    plain_fault waiting flags f is = ap₂ (λ (k : Kinds) (m : Held × Step). or_else k (step_fault s 1 m.0 m.1)) (plain_passes waiting flags f is) (plain_met waiting flags f is)

    pub plain_walked : (waiting : Waiting) (flags : Option Text) → short_of word ≡ flags → NoFlags flags
        → walked c [] (stands h waiting false) word ≡ after_step c word (stands h waiting false) (plain_word c waiting word h).0 (plain_word c waiting word h).1
    unfolding walked
    plain_walked waiting flags f is = ap (λ (m : Held × Step). after_step c word (stands h waiting false) m.0 m.1) (plain_met waiting flags f is)

  -- an option's value
  pub value_fault : (rows : List Row) (name : Text) (o : OptionRule) (flags : Option Text) → named options name ≡ Some o
      → bytes_eq word dashes ≡ false → long_of word ≡ None → short_of word ≡ flags → NoFlags flags → turn_fault s [] (waits rows name false) word ≡ []
  value_fault rows name o flags n e l f is = plain_fault rows (Some (name, [])) e l (option name) flags f is

  pub value_walked : (rows : List Row) (name : Text) (o : OptionRule) (flags : Option Text) → named options name ≡ Some o → o.name ≡ name
      → bytes_eq word dashes ≡ false → long_of word ≡ None → short_of word ≡ flags → NoFlags flags
      → walked c [] (waits rows name false) word ≡ stands (held_with rows (Some (name, word ∷ []))) idle false
  value_walked rows name o flags n is_name e l f is = plain_walked rows (Some (name, [])) e l (option name) flags f is ∙ rw (option_by_id options files name o n, is_name, same_text name)

  -- ---- a word without an option

  pub stray : (h : Held) → files ≡ false → step_fault s 1 h value ≡ UnknownArgument ∷ []
  stray h without = rw (by_index options files, without)

  pub file_fault : (h : Held) → files ≡ true → step_fault s 1 h value ≡ settle_fault c false h
  file_fault h takes = rw (by_index options files, takes, never_both (is_pending file_rule h.pending))

  pub file_walked : (h : Held) (w : Walk) (trailing : Bool) → files ≡ true → w.position ≡ 1 → w.is_trailing ≡ trailing
      → after_step c word w h value ≡ stands (pushed files_id word (settled c h)) positional trailing
  file_walked h w trailing takes at is = rw (at, is, by_index options files, takes, never_both (is_pending file_rule h.pending), or_false trailing)
    where
      or_false : (b : Bool) → (b || false) ≡ b
      or_false true = refl
      or_false false = refl
