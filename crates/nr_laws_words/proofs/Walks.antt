-- The walk of `clap` leaves what the uses of the words leave.
use Rattle.std.proofs.Common.{◌≡◌, ◌∙◌, Bool, cond, true, false, refl, sym, ap, ap₂, List, [], ◌∷◌, Option, Some, None, bytes_eq, fold, option_and_then}
use Rattle.clap.specs.Lexer.{long_of, short_of}
use Rattle.clap.specs.Walk.{after_step, walked, Held, Row, Rule, Text, Walk, Waiting, Step, plain_word, idle, option, positional, value, with_default, has_row, settled, pushed}
use Rattle.clap.specs.Simple.{Shape}
use Rattle.clap.specs.Kinds.{Kinds, or_else}
use Rattle.clap.specs.Faults.{check_fault, defaults_fault, settle_fault, step_fault, use_fault, walk_fault}
use Rattle.clap.specs.declared.error.kind.ErrorKind.TheVariants.{ArgumentConflict, InvalidValue}
use Rattle.nr_words.specs.Grammar.{OptionRule, files_id}
use Rattle.nr_laws_words.specs.Pairs.{dashes, is_plain}
use Rattle.nr_laws_words.proofs.Rules.{full, all_rules, named, named_name}
use Rattle.nr_laws_words.proofs.Looks.{Looks, Ends, Long, Flags, Plain, NoFlags, look}
use Rattle.nr_laws_words.proofs.Steps.{Use, Opt, Put, IsKnownPending, between, held_with, is_repeat, left, left_after, left_never, none, one_conflict, pending_fault, pending_settled, pending_settles, pending_use, rows_with, shape, stands, use_rows, waiting_settles, waits, with_pending}
use Rattle.nr_laws_words.proofs.Turns.{ends_fault, ends_walked, unknown_fault, joined_fault, joined_walked, alone_fault, alone_walked, flag_fault, plain_fault, plain_walked, value_fault, value_walked, stray, file_fault, file_walked}
use Rattle.nr_laws_words.proofs.Lexed.{and_use, trailing, lexed, lexed_ends, lexed_long, lexed_plain}

settled_by : {X : Type 0} (b : Bool) (x : Option X) → cond (none (cond b (ArgumentConflict ∷ []) [])) x None ≡ cond b None x
settled_by true x = refl
settled_by false x = refl

never : {X : Type 0} (b : Bool) → ◌≡◌ {A = Option X} (cond b None None) None
never true = refl
never false = refl

fault_then : {X : Type 0} (k m : Kinds) (x : Option X) → cond (none (or_else k m)) x None ≡ cond (none k) (cond (none m) x None) None
fault_then [] m x = refl
fault_then (k ∷ ks) m x = refl

module _ (command : Text) (options : List OptionRule) (files : Bool) (apart : files ≡ true → named options files_id ≡ None) where
  abbrev s : Shape
  s = shape command (all_rules options files)

  abbrev c : List Rule
  c = all_rules options files

  -- the rows at the end, where the last checks pass
  abbrev pub ended : List Row → Option (List Row)
  ended rows = cond (none (or_else (defaults_fault rows c) (check_fault s (fold with_default rows c) false))) (Some (fold with_default rows c)) None

  abbrev pub done : List Use → List Row → Option (List Row)
  done [] rows = ended rows
  done (u ∷ us) rows = cond (is_repeat u rows) None (done us (use_rows u rows))

  abbrev pub done_of : Option (List Use) → List Row → Option (List Row)
  done_of uses rows = option_and_then (λ us. done us rows) uses

  abbrev pub done_after : Option Use → Option (List Use) → List Row → Option (List Row)
  done_after p uses rows = option_and_then (λ us. done (with_pending p us) rows) uses

  -- a pending use is the first of all
  settling : (p : Option Use) (rows : List Row) (uses : Option (List Use)) → cond (none (pending_fault p rows)) (done_of uses (rows_with p rows)) None ≡ done_after p uses rows
  settling None rows None = refl
  settling None rows (Some us) = refl
  settling (Some u) rows None = settled_by (is_repeat u rows) None ∙ never (is_repeat u rows)
  settling (Some u) rows (Some us) = settled_by (is_repeat u rows) (done us (use_rows u rows))

  more : (u : Use) (rows : List Row) (uses : Option (List Use)) → done_after (Some u) uses rows ≡ done_of (and_use u uses) rows
  more u rows None = refl
  more u rows (Some us) = refl

  -- ---- the end

  abbrev at_end : Kinds → Held → Option (List Row)
  at_end k h = cond (none (or_else k (or_else (defaults_fault h.rows c) (check_fault s (fold with_default h.rows c) false)))) (Some (fold with_default h.rows c)) None

  left_ended : (w : Walk) → left s w [] ≡ at_end (settle_fault c false w.held) (settled c w.held)
  unfolding walk_fault
  left_ended w = refl

  ends_between : (rows : List Row) (p : Option Use) (several is_trailing : Bool) → IsKnownPending options files p → left s (between rows p several is_trailing) [] ≡ done_after p (Some []) rows
  ends_between rows p several is_trailing known =
      left_ended (between rows p several is_trailing)
      ∙ ap₂ at_end (pending_settles options files p rows known) (pending_settled options files p rows known)
      ∙ fault_then (pending_fault p rows) _ _
      ∙ settling p rows (Some [])

  ends_waiting : (rows : List Row) (name : Text) (o : OptionRule) (is_trailing : Bool) → named options name ≡ Some o → left s (waits rows name is_trailing) [] ≡ None
  ends_waiting rows name o is_trailing n =
      left_ended (waits rows name is_trailing) ∙ ap (λ k. at_end k (settled c (waits rows name is_trailing).held)) (waiting_settles options files name o rows n)

  -- ---- a word that goes to the files

  trailing_walked : (h : Held) (waiting : Waiting) (word : Text) → walked c [] (stands h waiting true) word ≡ after_step c word (stands h waiting true) h value
  unfolding walked
  trailing_walked h waiting word = refl

  file_stands : (rows : List Row) (p : Option Use) (word : Text) → IsKnownPending options files p → pushed files_id word (settled c (held_with rows (pending_use p))) ≡ held_with (rows_with p rows) (pending_use (Some (Put word)))
  file_stands rows p word known = ap (pushed files_id word) (pending_settled options files p rows known)

  -- after `--`
  trails : (words : List Text) (rows : List Row) (p : Option Use) (several : Bool) → IsKnownPending options files p
      → left s (between rows p several true) words ≡ done_after p (trailing options files words) rows
  trails [] rows p several known = ends_between rows p several true known
  trails (word ∷ words) rows p several known = go files refl (trails words)
    where
      h : Held
      h = held_with rows (pending_use p)

      go : (b : Bool) → files ≡ b
          → ((rows : List Row) (p : Option Use) (several : Bool) → IsKnownPending options files p → left s (between rows p several true) words ≡ done_after p (trailing options files words) rows)
          → left s (between rows p several true) (word ∷ words) ≡ done_after p (cond files (and_use (Put word) (trailing options files words)) None) rows
      go false e ih =
          left_never s (between rows p several true) word words _ (stray command options files word (held_with rows (pending_use p)) e) refl
          ∙ sym (ap (λ b. done_after p (cond b (and_use (Put word) (trailing options files words)) None) rows) e)
      go true e ih =
          left_after s (between rows p several true) (between (rows_with p rows) (Some (Put word)) true true) word words (pending_fault p rows)
          (file_fault command options files word (held_with rows (pending_use p)) e ∙ pending_settles options files p rows known)
          (trailing_walked (held_with rows (pending_use p)) (cond several positional idle) word ∙ file_walked command options files word (held_with rows (pending_use p)) (between rows p several true) true e refl refl
          ∙ ap (λ k. stands k positional true) (file_stands rows p word known))
          ∙ ap (λ r. cond (none (pending_fault p rows)) r None) (ih (rows_with p rows) (Some (Put word)) true (e, apart e) ∙ more (Put word) (rows_with p rows) (trailing options files words))
          ∙ settling p rows (and_use (Put word) (trailing options files words))
          ∙ sym (ap (λ b. done_after p (cond b (and_use (Put word) (trailing options files words)) None) rows) e)

  trails_waiting : (words : List Text) (rows : List Row) (name : Text) (o : OptionRule) → named options name ≡ Some o → left s (waits rows name true) words ≡ None
  trails_waiting [] rows name o n = ends_waiting rows name o true n
  trails_waiting (word ∷ words) rows name o n = go files refl
    where
      go : (b : Bool) → files ≡ b → left s (waits rows name true) (word ∷ words) ≡ None
      go false e = left_never s (waits rows name true) word words _ (stray command options files word (held_with rows (Some (name, []))) e) refl
      go true e = left_never s (waits rows name true) word words _ (file_fault command options files word (held_with rows (Some (name, []))) e ∙ waiting_settles options files name o rows n) refl

  -- ---- each word before `--`

  abbrev Between : List Text → Type 0
  Between words = (rows : List Row) (p : Option Use) (several : Bool) → IsKnownPending options files p
      → left s (between rows p several false) words ≡ done_after p (lexed options files None words) rows

  abbrev Waits : List Text → Type 0
  Waits words = (rows : List Row) (name : Text) (o : OptionRule) → named options name ≡ Some o → o.name ≡ name
      → left s (waits rows name false) words ≡ done_of (lexed options files (Some name) words) rows

  use_faults : (o : OptionRule) (name v : Text) (rows : List Row) → o.name ≡ name → use_fault false (full o) (v ∷ []) rows ≡ cond (has_row name rows) (ArgumentConflict ∷ []) []
  use_faults o name v rows is = one_conflict (has_row o.name rows) ∙ ap (λ m. cond (has_row m rows) (ArgumentConflict ∷ []) []) is

  free_word : (several : Bool) (word : Text) (h : Held) → plain_word c (cond several positional idle) word h ≡ (h, value)
  free_word true word h = refl
  free_word false word h = refl

  module _ (word : Text) (words : List Text) (ih : Between words) (ih_waits : Waits words) where
    module _ (rows : List Row) (p : Option Use) (several : Bool) (known : IsKnownPending options files p) where
      abbrev here : Walk
      here = between rows p several false

      abbrev held : Held
      held = held_with rows (pending_use p)

      abbrev stop : Waiting
      stop = cond several positional idle

      abbrev told : Option (List Use) → Option (List Row)
      told uses = done_after p uses rows

      nothing : left s here (word ∷ words) ≡ None → lexed options files None (word ∷ words) ≡ None → left s here (word ∷ words) ≡ told (lexed options files None (word ∷ words))
      nothing x y = x ∙ sym (ap told y)

      at_long : (name : Text) (v : Option Text) (o : Option OptionRule) → bytes_eq word dashes ≡ false → long_of word ≡ Some (name, v) → named options name ≡ o
          → left s here (word ∷ words) ≡ told (lexed options files None (word ∷ words))
      at_long name v None e l n = nothing
          (left_never s here word words _ (unknown_fault command options files word held stop name v e l n) refl)
          (lexed_long options files None word words name v None e l n)
      at_long name (Some v) (Some o) e l n =
          left_after s here (between (use_rows (Opt name v) (rows_with p rows)) None false false) word words (or_else (pending_fault p rows) (pending_fault (Some (Opt name v)) (rows_with p rows)))
          (joined_fault command options files word held name o e n stop v l
          ∙ ap₂ or_else (pending_settles options files p rows known) (ap (λ h. use_fault false (full o) (v ∷ []) h.rows) (pending_settled options files p rows known) ∙ use_faults o name v (rows_with p rows) (named_name options name o n)))
          (joined_walked command options files word held name o e n stop v l
          ∙ ap₂ (λ (h : Held) m. stands (held_with (use_rows (Opt m v) h.rows) None) idle false) (pending_settled options files p rows known) (named_name options name o n))
          ∙ fault_then (pending_fault p rows) _ _
          ∙ ap (λ r. cond (none (pending_fault p rows)) (cond (none (pending_fault (Some (Opt name v)) (rows_with p rows))) r None) None) (ih (use_rows (Opt name v) (rows_with p rows)) None false tt)
          ∙ ap (λ r. cond (none (pending_fault p rows)) r None) (settling (Some (Opt name v)) (rows_with p rows) (lexed options files None words) ∙ more (Opt name v) (rows_with p rows) (lexed options files None words))
          ∙ settling p rows (and_use (Opt name v) (lexed options files None words))
          ∙ sym (ap told (lexed_long options files None word words name (Some v) (Some o) e l n))
      at_long name None (Some o) e l n =
          left_after s here (waits (rows_with p rows) name false) word words (pending_fault p rows)
          (alone_fault command options files word held name o e n stop l ∙ pending_settles options files p rows known)
          (alone_walked command options files word held name o e n stop l
          ∙ ap₂ (λ (h : Held) m. stands (record h { pending = Some (m, []) }) (option m) false) (pending_settled options files p rows known) (named_name options name o n))
          ∙ ap (λ r. cond (none (pending_fault p rows)) r None) (ih_waits (rows_with p rows) name o n (named_name options name o n))
          ∙ settling p rows (lexed options files (Some name) words)
          ∙ sym (ap told (lexed_long options files None word words name None (Some o) e l n))

      at_plain : (flags : Option Text) → bytes_eq word dashes ≡ false → long_of word ≡ None → short_of word ≡ flags → NoFlags flags → is_plain word ≡ true
          → (b : Bool) → files ≡ b → left s here (word ∷ words) ≡ told (lexed options files None (word ∷ words))
      at_plain flags e l f is plain false no_files = nothing
          (left_never s here word words _
          (plain_fault command options files word rows (pending_use p) e l stop flags f is
          ∙ ap (λ (m : Held × Step). step_fault s 1 m.0 m.1) (free_word several word held)
          ∙ stray command options files word held no_files) refl)
          (lexed_plain options files None word words true e l plain ∙ ap (λ b. cond b (and_use (Put word) (lexed options files None words)) None) no_files)
      at_plain flags e l f is plain true takes =
          left_after s here (between (rows_with p rows) (Some (Put word)) true false) word words (pending_fault p rows)
          (plain_fault command options files word rows (pending_use p) e l stop flags f is
          ∙ ap (λ (m : Held × Step). step_fault s 1 m.0 m.1) (free_word several word held)
          ∙ file_fault command options files word held takes ∙ pending_settles options files p rows known)
          (plain_walked command options files word rows (pending_use p) e l stop flags f is
          ∙ ap (λ (m : Held × Step). after_step c word here m.0 m.1) (free_word several word held)
          ∙ file_walked command options files word held here false takes refl refl
          ∙ ap (λ h. stands h positional false) (file_stands rows p word known))
          ∙ ap (λ r. cond (none (pending_fault p rows)) r None) (ih (rows_with p rows) (Some (Put word)) true (takes, apart takes) ∙ more (Put word) (rows_with p rows) (lexed options files None words))
          ∙ settling p rows (and_use (Put word) (lexed options files None words))
          ∙ sym (ap told (lexed_plain options files None word words true e l plain ∙ ap (λ b. cond b (and_use (Put word) (lexed options files None words)) None) takes))

      between_word : Looks word → left s here (word ∷ words) ≡ told (lexed options files None (word ∷ words))
      between_word (Ends e plain) =
          left_after s here (between rows p several true) word words [] (ends_fault command options files word held stop e) (ends_walked command options files word held stop e)
          ∙ trails words rows p several known ∙ sym (ap told (lexed_ends options files None word words e))
      between_word (Long name v e l plain) = at_long name v (named options name) e l refl
      between_word (Flags flags x xs e l f is plain) = nothing
          (left_never s here word words _ (flag_fault command options files word rows (pending_use p) stop flags xs x e l f is) refl)
          (lexed_plain options files None word words false e l plain)
      between_word (Plain flags e l f is plain) = at_plain flags e l f is plain files refl

    module _ (rows : List Row) (name : Text) (o : OptionRule) (n : named options name ≡ Some o) (is_name : o.name ≡ name) where
      abbrev waiting : Walk
      waiting = waits rows name false

      abbrev held_waiting : Held
      held_waiting = held_with rows (Some (name, []))

      abbrev told_waiting : Option (List Use) → Option (List Row)
      told_waiting uses = done_of uses rows

      no_value : left s waiting (word ∷ words) ≡ None → lexed options files (Some name) (word ∷ words) ≡ None → left s waiting (word ∷ words) ≡ told_waiting (lexed options files (Some name) (word ∷ words))
      no_value x y = x ∙ sym (ap told_waiting y)

      waits_long : (other : Text) (v : Option Text) (q : Option OptionRule) → bytes_eq word dashes ≡ false → long_of word ≡ Some (other, v) → named options other ≡ q
          → left s waiting (word ∷ words) ≡ told_waiting (lexed options files (Some name) (word ∷ words))
      waits_long other v None e l m = no_value
          (left_never s waiting word words _ (unknown_fault command options files word held_waiting (option name) other v e l m) refl)
          (lexed_long options files (Some name) word words other v None e l m)
      waits_long other (Some v) (Some q) e l m = no_value
          (left_never s waiting word words (InvalidValue ∷ []) (joined_fault command options files word held_waiting other q e m (option name) v l
          ∙ ap (λ k. or_else k (use_fault false (full q) (v ∷ []) (settled c held_waiting).rows)) (waiting_settles options files name o rows n)) refl)
          (lexed_long options files (Some name) word words other (Some v) (Some q) e l m)
      waits_long other None (Some q) e l m = no_value
          (left_never s waiting word words _ (alone_fault command options files word held_waiting other q e m (option name) l ∙ waiting_settles options files name o rows n) refl)
          (lexed_long options files (Some name) word words other None (Some q) e l m)

      waits_word : Looks word → left s waiting (word ∷ words) ≡ told_waiting (lexed options files (Some name) (word ∷ words))
      waits_word (Ends e plain) = no_value
          (left_after s waiting (waits rows name true) word words [] (ends_fault command options files word held_waiting (option name) e) (ends_walked command options files word held_waiting (option name) e)
          ∙ trails_waiting words rows name o n)
          (lexed_ends options files (Some name) word words e)
      waits_word (Long other v e l plain) = waits_long other v (named options other) e l refl
      waits_word (Flags flags x xs e l f is plain) = no_value
          (left_never s waiting word words _ (flag_fault command options files word rows (Some (name, [])) (option name) flags xs x e l f is) refl)
          (lexed_plain options files (Some name) word words false e l plain)
      waits_word (Plain flags e l f is plain) =
          left_after s waiting (between rows (Some (Opt name word)) false false) word words [] (value_fault command options files word rows name o flags n e l f is) (value_walked command options files word rows name o flags n is_name e l f is)
          ∙ ih rows (Some (Opt name word)) false (o, n, is_name)
          ∙ more (Opt name word) rows (lexed options files None words)
          ∙ sym (ap told_waiting (lexed_plain options files (Some name) word words true e l plain))

  pub walks : (words : List Text) → Between words × Waits words
  unfolding lexed
  walks [] = (λ rows p several known. ends_between rows p several false known, λ rows name o n is. ends_waiting rows name o false n)
  walks (word ∷ words) =
      let ih = walks words in
      (λ rows p several known. between_word word words ih.0 ih.1 rows p several known (look word), λ rows name o n is. waits_word word words ih.0 ih.1 rows name o n is (look word))
