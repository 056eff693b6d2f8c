-- The rule of `clap` gives values exactly where the items do.
use Rattle.std.proofs.Common.{◌≡◌, ◌∙◌, ◌||◌, ◌&&◌, ◌≤◌, Bool, cond, true, false, not, refl, sym, ap, ap₂, subst, List, [], ◌∷◌, ◌++◌, map, Option, Some, None, option_map, bytes_eq, append-nil, flat_map, unwrap_or, slice_get, length, arith}
use Rattle.std.specs.List.{AllByRecursion, AllZip, list_all, list_any}
use Rattle.std.proofs.lemmas.Bool.{and_parts, or_from, or_parts, not-true, true≢false, false_from_ne_true}
use Rattle.std.proofs.lemmas.List.Concat.{flat_map-append}
use Rattle.std.proofs.lemmas.Slice.Eq.{bytes_eq-Decides}
use Rattle.clap.specs.Walk.{Row, Text, all_of, first_of, is_empty}
use Rattle.clap.specs.Takes.{is_given}
use Rattle.nr_words.specs.Grammar.{Grammar, OptionRule, Values, files_id, files_in, options_in, values_from, values_in}
use Rattle.nr_laws_words.specs.Pairs.{Item, Apart, Joined, File, Gives, IsGiven, file_of, has_option, is_clear, is_name, is_taken, may_end, value_for}
use Rattle.nr_laws_words.proofs.Rules.{named, named_name, same_text}
use Rattle.nr_laws_words.proofs.Looks.{empty_not}
use Rattle.nr_laws_words.proofs.Steps.{Use, Put, IsKnown}
use Rattle.nr_laws_words.proofs.Lexed.{lexed}
use Rattle.nr_laws_words.proofs.Walks.{done, done_of}
use Rattle.nr_laws_words.proofs.Read.{values_are}
use Rattle.nr_laws_words.proofs.Rows.{all_of-vals, first_of-vals, is_given-vals, val_of, vals}
use Rattle.nr_laws_words.proofs.Uses.{Leaves, Left, is_missing, leaves, left_by}
use Rattle.nr_laws_words.proofs.Items.{Reads, lexed_again, lexed_read, named_has, use_of, uses_of}

not_named : (options : List OptionRule) (name : Text) → list_any (λ p. bytes_eq p.name name) options ≡ false → named options name ≡ None
not_named [] name is = refl
not_named (p ∷ ps) name is = let parts = or_parts (bytes_eq p.name name) _ is in rw parts.0 (not_named ps name parts.1)

or_still : (b c : Bool) → c ≡ true → (b || c) ≡ true
or_still true c is = refl
or_still false c is = is

-- each option of a list is found in it
inside_more : (p : OptionRule) (ps os : List OptionRule) → AllByRecursion (λ o. list_any (λ q. bytes_eq q.name o.name) ps ≡ true) os → AllByRecursion (λ o. list_any (λ q. bytes_eq q.name o.name) (p ∷ ps) ≡ true) os
inside_more p ps [] all = tt
inside_more p ps (o ∷ os) all = (or_still (bytes_eq p.name o.name) _ all.0, inside_more p ps os all.1)

inside : (options : List OptionRule) → AllByRecursion (λ o. list_any (λ q. bytes_eq q.name o.name) options ≡ true) options
inside [] = tt
inside (o ∷ os) = (rw (same_text o.name), inside_more o os os (inside os))

module _ (g : Grammar) (clear : is_clear g ≡ true) where
  names : list_all (λ o. is_name o.name) g.options ≡ true
  names = (and_parts _ _ clear).0

  apart : g.files ≡ true → named g.options files_id ≡ None
  apart takes =
      let own : not (g.files && has_option g files_id) ≡ true = (and_parts (list_all (λ o. is_name o.name) g.options) _ clear).1 in
      let absent : has_option g files_id ≡ false = ap (λ b. b && has_option g files_id) (sym takes) ∙ not-true _ own in
      not_named g.options files_id absent

  abbrev Known : List Use → Type 0
  Known us = AllByRecursion (IsKnown g.options g.files) us

  abbrev Named : Text → Type 0
  Named name = (o : OptionRule) × (named g.options name ≡ Some o)

  differs : (name other : Text) → Named name → named g.options other ≡ None → bytes_eq name other ≡ false
  differs name other is absent = false_from_ne_true (bytes_eq name other) (λ same.
      let path : named g.options name ≡ named g.options other = ap (named g.options) ((bytes_eq-Decides name other).0 same) in
      let there : named g.options name ≡ Some is.0 = is.1 in absurd cc)

  differs_back : (name other : Text) → Named name → named g.options other ≡ None → bytes_eq other name ≡ false
  differs_back name other is absent = false_from_ne_true (bytes_eq other name) (λ same.
      let path : named g.options other ≡ named g.options name = ap (named g.options) ((bytes_eq-Decides other name).0 same) in
      let there : named g.options name ≡ Some is.0 = is.1 in absurd cc)

  -- ---- the uses of items that the grammar takes

  known_items : (items : List Item) → list_all (is_taken g) items ≡ true → Known (map use_of items)
  known_items [] taken = tt
  known_items (Apart name v ∷ items) taken =
      let parts = and_parts _ _ taken in
      let o = named_has g.options name (and_parts _ _ parts.0).0 in
      ((o.0, o.1, named_name g.options name o.0 o.1), known_items items parts.1)
  known_items (Joined name v ∷ items) taken =
      let parts = and_parts _ _ taken in
      let o = named_has g.options name parts.0 in
      ((o.0, o.1, named_name g.options name o.0 o.1), known_items items parts.1)
  known_items (File word ∷ items) taken =
      let parts = and_parts _ _ taken in
      let takes = (and_parts _ _ parts.0).0 in
      ((takes, apart takes), known_items items parts.1)

  known_words : (words : List Text) → g.files ≡ true → Known (map Put words)
  known_words [] takes = tt
  known_words (word ∷ words) takes = ((takes, apart takes), known_words words takes)

  known_rest : (rest : Option (List Text)) → may_end g rest ≡ true → Known (map Put (unwrap_or rest []))
  known_rest None ended = tt
  known_rest (Some []) ended = tt
  known_rest (Some (word ∷ words)) ended = go g.files refl ended
    where
      go : (b : Bool) → g.files ≡ b → (b || is_empty (word ∷ words)) ≡ true → Known (map Put (word ∷ words))
      go true takes e = known_words (word ∷ words) takes
      go false takes e = absurd (true≢false (sym e ∙ empty_not word words))

  known_both : (us vs : List Use) → Known us → Known vs → Known (us ++ vs)
  known_both [] vs a b = b
  known_both (u ∷ us) vs a b = (a.0, known_both us vs a.1 b)

  known : (items : List Item) (rest : Option (List Text)) → list_all (is_taken g) items ≡ true → may_end g rest ≡ true → Known (uses_of items rest)
  known items rest taken ended = known_both (map use_of items) (map Put (unwrap_or rest [])) (known_items items taken) (known_rest rest ended)

  -- what they give an option
  option_items : (id : Text) → Named id → (items : List Item) → Known (map use_of items) → flat_map (val_of id) (map use_of items) ≡ flat_map (value_for id) items
  option_items id is [] all = refl
  option_items id is (Apart name v ∷ items) all = ap (λ xs. cond (bytes_eq name id) (v ∷ []) [] ++ xs) (option_items id is items all.1)
  option_items id is (Joined name v ∷ items) all = ap (λ xs. cond (bytes_eq name id) (v ∷ []) [] ++ xs) (option_items id is items all.1)
  option_items id is (File word ∷ items) all = rw (differs_back id files_id is all.0.1) (option_items id is items all.1)

  option_words : (id : Text) → Named id → (words : List Text) → Known (map Put words) → flat_map (val_of id) (map Put words) ≡ []
  option_words id is [] all = refl
  option_words id is (word ∷ words) all = rw (differs_back id files_id is all.0.1) (option_words id is words all.1)

  option_uses : (id : Text) → Named id → (items : List Item) (rest : Option (List Text)) → list_all (is_taken g) items ≡ true → may_end g rest ≡ true
      → flat_map (val_of id) (uses_of items rest) ≡ flat_map (value_for id) items
  option_uses id is items rest taken ended =
      flat_map-append (val_of id) (map use_of items) (map Put (unwrap_or rest []))
      ∙ ap₂ (λ (xs ys : List Text). xs ++ ys) (option_items id is items (known_items items taken)) (option_words id is (unwrap_or rest []) (known_rest rest ended))
      ∙ append-nil (flat_map (value_for id) items)

  -- what they give the files
  file_items : g.files ≡ true → (items : List Item) → list_all (is_taken g) items ≡ true → flat_map (val_of files_id) (map use_of items) ≡ flat_map file_of items
  file_items takes [] taken = refl
  file_items takes (Apart name v ∷ items) taken =
      let parts = and_parts _ _ taken in
      rw (differs name files_id (named_has g.options name (and_parts _ _ parts.0).0) (apart takes)) (file_items takes items parts.1)
  file_items takes (Joined name v ∷ items) taken =
      let parts = and_parts _ _ taken in
      rw (differs name files_id (named_has g.options name parts.0) (apart takes)) (file_items takes items parts.1)
  file_items takes (File word ∷ items) taken = ap (λ xs. word ∷ xs) (file_items takes items (and_parts _ _ taken).1)

  file_words : (words : List Text) → flat_map (val_of files_id) (map Put words) ≡ words
  file_words [] = refl
  file_words (word ∷ words) = ap (λ xs. word ∷ xs) (file_words words)

  file_uses : g.files ≡ true → (items : List Item) (rest : Option (List Text)) → list_all (is_taken g) items ≡ true → flat_map (val_of files_id) (uses_of items rest) ≡ flat_map file_of items ++ unwrap_or rest []
  file_uses takes items rest taken =
      flat_map-append (val_of files_id) (map use_of items) (map Put (unwrap_or rest []))
      ∙ ap₂ (λ (xs ys : List Text). xs ++ ys) (file_items takes items taken) (file_words (unwrap_or rest []))

  no_file_items : g.files ≡ false → (items : List Item) → list_all (is_taken g) items ≡ true → flat_map file_of items ≡ []
  no_file_items none [] taken = refl
  no_file_items none (Apart name v ∷ items) taken = no_file_items none items (and_parts _ _ taken).1
  no_file_items none (Joined name v ∷ items) taken = no_file_items none items (and_parts _ _ taken).1
  no_file_items none (File word ∷ items) taken = absurd (true≢false (sym (and_parts _ _ (and_parts _ _ taken).0).0 ∙ none))

  no_file_words : g.files ≡ false → (rest : Option (List Text)) → may_end g rest ≡ true → unwrap_or rest [] ≡ []
  no_file_words none None ended = refl
  no_file_words none (Some []) ended = refl
  no_file_words none (Some (word ∷ words)) ended = absurd (true≢false (sym ended ∙ ap₂ (λ a b. a || b) none (empty_not word words)))

  files_are : (end : List Row) (items : List Item) (rest : Option (List Text)) → list_all (is_taken g) items ≡ true → may_end g rest ≡ true
      → ((id : Text) → vals id end ≡ flat_map (val_of id) (uses_of items rest)) → files_in g end ≡ flat_map file_of items ++ unwrap_or rest []
  files_are end items rest taken ended are = go g.files refl
    where
      go : (b : Bool) → g.files ≡ b → cond g.files (unwrap_or (all_of files_id end) []) [] ≡ flat_map file_of items ++ unwrap_or rest []
      go true takes = ap (λ b. cond b (unwrap_or (all_of files_id end) []) []) takes ∙ all_of-vals files_id end ∙ are files_id ∙ file_uses takes items rest taken
      go false none = ap (λ b. cond b (unwrap_or (all_of files_id end) []) []) none ∙ sym (ap₂ (λ (xs ys : List Text). xs ++ ys) (no_file_items none items taken) (no_file_words none rest ended))

  -- ---- from the rows to the items

  given_one : (items : List Item) (o : OptionRule) (xs : List Text) → flat_map (value_for o.name) items ≡ xs → length xs ≤ 1 → (o.required && is_empty xs) ≡ false → IsGiven items o (slice_get xs 0)
  given_one items o [] is few required = (is, go o.required required)
    where
      go : (b : Bool) → (b && true) ≡ false → b ≡ false
      go true e = absurd (true≢false e)
      go false e = refl
  given_one items o (x ∷ []) is few required = is
  given_one items o (x ∷ y ∷ ys) is few required = absurd (omega arith)

  given_each : (end : List Row) (items : List Item) (os : List OptionRule) → AllByRecursion (λ o. list_any (λ q. bytes_eq q.name o.name) g.options ≡ true) os
      → ((id : Text) → Named id → (vals id end ≡ flat_map (value_for id) items) × (length (vals id end) ≤ 1) × (is_given id end ≡ not (is_empty (vals id end))))
      → is_missing os end ≡ false → AllZip (IsGiven items) os (options_in os end)
  given_each end items [] within facts required = tt
  given_each end items (o ∷ os) within facts required =
      let parts = or_parts (o.required && not (is_given o.name end)) (is_missing os end) required in
      let f = facts o.name (named_has g.options o.name within.0) in (
        subst (IsGiven items o) (sym (first_of-vals o.name end))
            (given_one items o (vals o.name end) (sym f.0) f.1 (ap (λ b. o.required && b) (sym (ap not f.2 ∙ not_twice (is_empty (vals o.name end)))) ∙ parts.0)),
        given_each end items os within.1 facts parts.1,
      )
    where
      not_twice : (b : Bool) → not (not b) ≡ b
      not_twice true = refl
      not_twice false = refl

  -- ---- from the items to the rows

  first_is : (end : List Row) (items : List Item) (o : OptionRule) (value : Option Text) → vals o.name end ≡ flat_map (value_for o.name) items → IsGiven items o value → first_of o.name end ≡ value
  first_is end items o None are is = first_of-vals o.name end ∙ ap (λ xs. slice_get xs 0) (are ∙ is.0)
  first_is end items o (Some v) are is = first_of-vals o.name end ∙ ap (λ xs. slice_get xs 0) (are ∙ is)

  options_are : (end : List Row) (items : List Item) (os : List OptionRule) (values : List (Option Text)) → AllByRecursion (λ o. list_any (λ q. bytes_eq q.name o.name) g.options ≡ true) os
      → ((id : Text) → Named id → vals id end ≡ flat_map (value_for id) items) → AllZip (IsGiven items) os values → options_in os end ≡ values
  options_are end items [] [] within are all = refl
  options_are end items [] (v ∷ vs) within are all = absurd all
  options_are end items (o ∷ os) [] within are all = absurd all
  options_are end items (o ∷ os) (v ∷ vs) within are all =
      ap₂ (λ x xs. x ∷ xs) (first_is end items o v (are o.name (named_has g.options o.name within.0)) all.0) (options_are end items os vs within.1 are all.1)

  given_enough : (items : List Item) (o : OptionRule) (value : Option Text) (there : Bool) → IsGiven items o value → there ≡ not (is_empty (flat_map (value_for o.name) items)) → (o.required && not there) ≡ false
  given_enough items o None there is e = ap (λ b. b && not there) is.1
  given_enough items o (Some v) there is e = ap (λ b. o.required && not b) (e ∙ ap (λ xs. not (is_empty xs)) is ∙ ap not (empty_not v [])) ∙ never_required o.required
    where
      never_required : (b : Bool) → (b && false) ≡ false
      never_required true = refl
      never_required false = refl

  none_missing : (end : List Row) (items : List Item) (os : List OptionRule) (values : List (Option Text)) → AllByRecursion (λ o. list_any (λ q. bytes_eq q.name o.name) g.options ≡ true) os
      → ((id : Text) → Named id → is_given id end ≡ not (is_empty (flat_map (value_for id) items))) → AllZip (IsGiven items) os values → is_missing os end ≡ false
  none_missing end items [] [] within are all = refl
  none_missing end items [] (v ∷ vs) within are all = absurd all
  none_missing end items (o ∷ os) [] within are all = absurd all
  none_missing end items (o ∷ os) (v ∷ vs) within are all =
      or_from (o.required && not (is_given o.name end)) (is_missing os end)
      (given_enough items o v (is_given o.name end) all.0 (are o.name (named_has g.options o.name within.0)))
      (none_missing end items os vs within.1 are all.1)

  one_value : (items : List Item) (o : OptionRule) (value : Option Text) → IsGiven items o value → length (flat_map (value_for o.name) items) ≤ 1
  one_value items o None is = subst (λ (xs : List Text). length xs ≤ 1) (sym is.0) (omega arith)
  one_value items o (Some v) is = subst (λ (xs : List Text). length xs ≤ 1) (sym is) (omega arith)

  few_values : (items : List Item) (os : List OptionRule) (values : List (Option Text)) (id : Text) (o : OptionRule) → named os id ≡ Some o → AllZip (IsGiven items) os values
      → length (flat_map (value_for id) items) ≤ 1
  few_values items [] values id o is all = absurd cc
  few_values items (p ∷ ps) [] id o is all = absurd all
  few_values items (p ∷ ps) (v ∷ vs) id o is all = go (bytes_eq p.name id) refl is (λ later. few_values items ps vs id o later all.1)
    where
      go : (b : Bool) → bytes_eq p.name id ≡ b → cond b (Some p) (named ps id) ≡ Some o → (named ps id ≡ Some o → length (flat_map (value_for id) items) ≤ 1) → length (flat_map (value_for id) items) ≤ 1
      go true e is ih = subst (λ (n : Text). length (flat_map (value_for n) items) ≤ 1) ((bytes_eq-Decides p.name id).0 e) (one_value items p v all.0)
      go false e is ih = ih is

  -- ---- both ways

  module _ (command : Text) (words : List Text) where
    abbrev runs : List Use → Option (List Row)
    runs us = done g.command g.options g.files apart us []

    gives_by : (us : List Use) (end : List Row) (values : Values) → Reads g words us → runs us ≡ Some end → values ≡ values_from g end → Gives g words values
    gives_by us end values r is e =
        let uses : List Use = uses_of r.items r.rest in
        let are_known : Known uses = known r.items r.rest r.taken r.ended in
        let ran : runs uses ≡ Some end = ap runs (sym r.uses) ∙ is in
        let left : Left g.command g.options g.files apart uses [] end = left_by g.command g.options g.files apart uses [] end are_known refl ran in
        record {
          items = r.items;
          rest = r.rest;
          spelled = r.spelled;
          taken = r.taken;
          ended = r.ended;
          given = subst (λ (v : Values). AllZip (IsGiven r.items) g.options v.options) (sym e) (given_each end r.items g.options (inside g.options)
              (λ id is. (left.values id ∙ option_uses id is r.items r.rest r.taken r.ended, left.few id is (omega arith), is_given-vals id end left.good)) left.given);
          files = ap (λ (v : Values). v.files) e ∙ files_are end r.items r.rest r.taken r.ended left.values;
        }

    pub gives : (values : Values) → values_in g (command ∷ words) ≡ Some values → Gives g words values
    gives values is = from_lexed (lexed g.options g.files None words) refl (sym (values_are g command words apart) ∙ is)
      where
        from_rows : (us : List Use) → lexed g.options g.files None words ≡ Some us → (end : Option (List Row)) → runs us ≡ end → option_map (values_from g) end ≡ Some values → Gives g words values
        from_rows us l None e bad = absurd cc
        from_rows us l (Some end) e same = gives_by us end values (lexed_read g words us l) e (sym (ap (λ o. unwrap_or o values) same))

        from_lexed : (uses : Option (List Use)) → lexed g.options g.files None words ≡ uses → option_map (values_from g) (done_of g.command g.options g.files apart uses []) ≡ Some values → Gives g words values
        from_lexed None l bad = absurd cc
        from_lexed (Some us) l same = from_rows us l (runs us) refl same

    pub given : (values : Values) → Gives g words values → values_in g (command ∷ words) ≡ Some values
    given values gs =
        let uses : List Use = uses_of gs.items gs.rest in
        let read : lexed g.options g.files None words ≡ Some uses = ap (lexed g.options g.files None) gs.spelled ∙ lexed_again g names gs.items gs.rest gs.taken gs.ended in
        let few : (id : Text) → Named id → length ([] ++ flat_map (val_of id) uses) ≤ 1
        = λ id is. subst (λ (xs : List Text). length xs ≤ 1) (sym (option_uses id is gs.items gs.rest gs.taken gs.ended)) (few_values gs.items g.options values.options id is.0 is.1 gs.given) in
        let rows : Leaves g.command g.options g.files apart uses [] = leaves g.command g.options g.files apart uses [] (known gs.items gs.rest gs.taken gs.ended) refl few in
        let are : (id : Text) → Named id → vals id rows.end ≡ flat_map (value_for id) gs.items = λ id is. rows.values id ∙ option_uses id is gs.items gs.rest gs.taken gs.ended in
        let complete : is_missing g.options rows.end ≡ false
        = none_missing rows.end gs.items g.options values.options (inside g.options) (λ id is. is_given-vals id rows.end rows.good ∙ ap (λ xs. not (is_empty xs)) (are id is)) gs.given in
        let ran : runs uses ≡ Some rows.end = rows.is ∙ ap (λ b. cond b None (Some rows.end)) complete in
        let same : values_from g rows.end ≡ values
        = ap₂ (λ (o : List (Option Text)) (f : List Text). record { options = o; files = f }) (options_are rows.end gs.items g.options values.options (inside g.options) are gs.given)
        (files_are rows.end gs.items gs.rest gs.taken gs.ended rows.values ∙ sym gs.files) in
        values_are g command words apart ∙ ap (λ u. option_map (values_from g) (done_of g.command g.options g.files apart u [])) read ∙ ap (option_map (values_from g)) ran ∙ ap Some same
