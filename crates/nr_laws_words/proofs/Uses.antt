-- The rows that a list of uses leaves, in both directions: what they say of the uses, and which uses leave some.
use Rattle.std.proofs.Common.{◌≡◌, ◌∙◌, ◌||◌, ◌&&◌, ◌≤◌, Bool, cond, true, false, not, refl, sym, ap, ap₂, subst, List, [], ◌∷◌, ◌++◌, Option, Some, None, bytes_eq, fold, append-nil, append_assoc, flat_map, length, arith, length-append}
use Rattle.std.specs.List.{AllByRecursion, list_any}
use Rattle.std.proofs.lemmas.Bool.{true≢false, false_from_ne_true}
use Rattle.std.proofs.lemmas.Slice.Eq.{bytes_eq-Decides}
use Rattle.clap.specs.Takes.{is_given}
use Rattle.clap.specs.Walk.{Row, Rule, Text, has_row, is_empty, with_default}
use Rattle.clap.specs.Kinds.{Kinds, or_else}
use Rattle.clap.specs.Faults.{check_fault, defaults_fault}
use Rattle.clap.specs.declared.error.kind.ErrorKind.TheVariants.{MissingRequiredArgument}
use Rattle.nr_words.specs.Grammar.{OptionRule, files_id}
use Rattle.nr_laws_words.proofs.Rules.{all_rules, named, same_text}
use Rattle.nr_laws_words.proofs.Looks.{empty_not}
use Rattle.nr_laws_words.proofs.Steps.{Use, Opt, Put, IsKnown, is_repeat, none, shape, use_rows}
use Rattle.nr_laws_words.proofs.Walks.{done, ended}
use Rattle.nr_laws_words.proofs.Rows.{AreGood, has_row-vals, use_good, use_vals, val_of, vals}

-- ---- the end: no rule has a default, and an option that is required is given

same_rows : (b : Bool) (rows : List Row) → cond b rows rows ≡ rows
same_rows true rows = refl
same_rows false rows = refl

no_defaults : (options : List OptionRule) (files : Bool) (rows : List Row) → fold with_default rows (all_rules options files) ≡ rows
no_defaults [] true rows = same_rows (has_row files_id rows) rows
no_defaults [] false rows = refl
no_defaults (o ∷ os) files rows = ap (λ rs. fold with_default rs (all_rules os files)) (same_rows (has_row o.name rows) rows) ∙ no_defaults os files rows

passed : (b : Bool) (k : Kinds) → cond (b || true) [] k ≡ []
passed true k = refl
passed false k = refl

no_default_fault : (options : List OptionRule) (files : Bool) (rows : List Row) → defaults_fault rows (all_rules options files) ≡ []
unfolding defaults_fault
no_default_fault [] true rows = rw (passed (has_row files_id rows))
no_default_fault [] false rows = refl
no_default_fault (o ∷ os) files rows = rw (passed (has_row o.name rows), same_rows (has_row o.name rows) rows) (no_default_fault os files rows)

abbrev pub is_missing : List OptionRule → List Row → Bool
is_missing options rows = list_any (λ o. o.required && not (is_given o.name rows)) options

missing_is : (options : List OptionRule) (files : Bool) (rows : List Row) → list_any (λ a. a.required && not (is_given a.id rows)) (all_rules options files) ≡ is_missing options rows
missing_is [] true rows = refl
missing_is [] false rows = refl
missing_is (o ∷ os) files rows = ap (λ b. (o.required && not (is_given o.name rows)) || b) (missing_is os files rows)

checked : {X : Type 0} (b : Bool) (x : Option X) → cond (none (cond b (MissingRequiredArgument ∷ []) [])) x None ≡ cond b None x
checked true x = refl
checked false x = refl

module _ (command : Text) (options : List OptionRule) (files : Bool) (apart : files ≡ true → named options files_id ≡ None) where
  abbrev c : List Rule
  c = all_rules options files

  ended_is : (rows : List Row) → ended command options files apart rows ≡ cond (is_missing options rows) None (Some rows)
  ended_is rows =
      ap₂ (λ (k : Kinds) (rs : List Row). cond (none (or_else k (check_fault (shape command c) rs false))) (Some rs) None) (no_default_fault options files rows) (no_defaults options files rows)
      ∙ ap (λ b. cond (none (cond b (MissingRequiredArgument ∷ []) [])) (Some rows) None) (missing_is options files rows)
      ∙ checked (is_missing options rows) (Some rows)

  abbrev pub AreKnown : List Use → Type 0
  AreKnown us = AllByRecursion (IsKnown options files) us

  abbrev pub IsOption : Text → Type 0
  IsOption name = (o : OptionRule) × (named options name ≡ Some o)

  -- what is left by uses of which none is a repeat
  pub record Left (us : List Use) (rows end : List Row) : Type 0 where
    pub good : AreGood end
    pub values : (id : Text) → vals id end ≡ vals id rows ++ flat_map (val_of id) us
    pub few : (id : Text) → IsOption id → length (vals id rows) ≤ 1 → length (vals id end) ≤ 1
    pub given : is_missing options end ≡ false

  empty_vals : (xs : List Text) → not (is_empty xs) ≡ false → xs ≡ []
  empty_vals [] e = refl
  empty_vals (x ∷ xs) e = absurd (true≢false (sym (ap not (empty_not x xs)) ∙ e))

  none_yet : (name : Text) (rows : List Row) → AreGood rows → has_row name rows ≡ false → vals name rows ≡ []
  none_yet name rows good absent = empty_vals (vals name rows) (sym (has_row-vals name rows good) ∙ absent)

  not_files : (id : Text) → IsOption id → named options files_id ≡ None → bytes_eq files_id id ≡ false
  not_files id is absent = false_from_ne_true (bytes_eq files_id id) (λ same.
      let path : named options files_id ≡ named options id = ap (named options) ((bytes_eq-Decides files_id id).0 same) in
      let there : named options id ≡ Some is.0 = is.1 in absurd cc)

  one_at_most : (b : Bool) (xs : List Text) (v : Text) → (b ≡ true → xs ≡ []) → length xs ≤ 1 → length (xs ++ cond b (v ∷ []) []) ≤ 1
  one_at_most true xs v empty few = subst (λ (ys : List Text). length (ys ++ v ∷ []) ≤ 1) (sym (empty refl)) (omega arith)
  one_at_most false xs v empty few = subst (λ (ys : List Text). length ys ≤ 1) (sym (append-nil xs)) few

  few_more : (u : Use) (rows : List Row) → IsKnown options files u → AreGood rows → is_repeat u rows ≡ false → (id : Text) → IsOption id → length (vals id rows) ≤ 1 → length (vals id (use_rows u rows)) ≤ 1
  few_more (Opt name v) rows known good absent id is few =
      subst (λ (ys : List Text). length ys ≤ 1) (sym (use_vals id (Opt name v) rows absent))
      (one_at_most (bytes_eq name id) (vals id rows) v (λ same. ap (λ n. vals n rows) (sym ((bytes_eq-Decides name id).0 same)) ∙ none_yet name rows good absent) few)
  few_more (Put word) rows known good absent id is few =
      subst (λ (ys : List Text). length ys ≤ 1) (sym (use_vals id (Put word) rows absent))
      (one_at_most (bytes_eq files_id id) (vals id rows) word (λ same. absurd (true≢false (sym same ∙ not_files id is known.1))) few)

  pub left_by : (us : List Use) (rows end : List Row) → AreKnown us → AreGood rows → done command options files apart us rows ≡ Some end → Left us rows end
  left_by [] rows end known good is = go (is_missing options rows) refl (sym (ended_is rows) ∙ is)
    where
      go : (b : Bool) → is_missing options rows ≡ b → cond b None (Some rows) ≡ Some end → Left [] rows end
      go true e bad = absurd cc
      go false e same =
          let path : rows ≡ end = cc in
          subst (Left [] rows) path (record { good = good; values = λ id. sym (append-nil (vals id rows)); few = λ id is few. few; given = e })
  left_by (u ∷ us) rows end known good is = go (is_repeat u rows) refl is (left_by us (use_rows u rows) end known.1)
    where
      go : (b : Bool) → is_repeat u rows ≡ b → cond b None (done command options files apart us (use_rows u rows)) ≡ Some end
          → (AreGood (use_rows u rows) → done command options files apart us (use_rows u rows) ≡ Some end → Left us (use_rows u rows) end) → Left (u ∷ us) rows end
      go true e bad ih = absurd cc
      go false e same ih =
          let later = ih (use_good u rows e good) same in
          record {
            good = later.good;
            values = λ id. later.values id ∙ ap (λ xs. xs ++ flat_map (val_of id) us) (use_vals id u rows e) ∙ append_assoc (vals id rows) (val_of id u) (flat_map (val_of id) us);
            few = λ id is few. later.few id is (few_more u rows known.0 good e id is few);
            given = later.given;
          }

  -- no option has two values
  abbrev pub AreFew : List Use → List Row → Type 0
  AreFew us rows = (id : Text) → IsOption id → length (vals id rows ++ flat_map (val_of id) us) ≤ 1

  pub record Leaves (us : List Use) (rows : List Row) : Type 0 where
    pub end : List Row
    pub is : done command options files apart us rows ≡ cond (is_missing options end) None (Some end)
    pub good : AreGood end
    pub values : (id : Text) → vals id end ≡ vals id rows ++ flat_map (val_of id) us

  no_repeat : (u : Use) (us : List Use) (rows : List Row) → IsKnown options files u → AreGood rows → AreFew (u ∷ us) rows → is_repeat u rows ≡ false
  no_repeat (Put word) us rows known good few = refl
  no_repeat (Opt name v) us rows known good few = false_from_ne_true (has_row name rows) (λ there. go (vals name rows) refl (few name (known.0, known.1)) there)
    where
      go : (xs : List Text) → vals name rows ≡ xs → length (vals name rows ++ (cond (bytes_eq name name) (v ∷ []) [] ++ flat_map (val_of name) us)) ≤ 1 → has_row name rows ≡ true → ⊥
      go [] e short there = true≢false (sym there ∙ has_row-vals name rows good ∙ ap (λ xs. not (is_empty xs)) e)
      go (x ∷ xs) e short there =
          let two : length ((x ∷ xs) ++ ((v ∷ []) ++ flat_map (val_of name) us)) ≤ 1 =
          subst (λ (b : Bool). length ((x ∷ xs) ++ (cond b (v ∷ []) [] ++ flat_map (val_of name) us)) ≤ 1) (same_text name)
          (subst (λ (ys : List Text). length (ys ++ (cond (bytes_eq name name) (v ∷ []) [] ++ flat_map (val_of name) us)) ≤ 1) e short) in
          omega (arith, length-append xs ((v ∷ []) ++ flat_map (val_of name) us))

  pub leaves : (us : List Use) (rows : List Row) → AreKnown us → AreGood rows → AreFew us rows → Leaves us rows
  leaves [] rows known good few = record { end = rows; is = ended_is rows; good = good; values = λ id. sym (append-nil (vals id rows)) }
  leaves (u ∷ us) rows known good few =
      let absent : is_repeat u rows ≡ false = no_repeat u us rows known.0 good few in
      let step : (id : Text) → vals id (use_rows u rows) ++ flat_map (val_of id) us ≡ vals id rows ++ flat_map (val_of id) (u ∷ us)
      = λ id. ap (λ xs. xs ++ flat_map (val_of id) us) (use_vals id u rows absent) ∙ append_assoc (vals id rows) (val_of id u) (flat_map (val_of id) us) in
      let later : Leaves us (use_rows u rows) = leaves us (use_rows u rows) known.1 (use_good u rows absent good) (λ id is. subst (λ (ys : List Text). length ys ≤ 1) (sym (step id)) (few id is)) in
      record {
        end = later.end;
        is = ap (λ b. cond b None (done command options files apart us (use_rows u rows))) absent ∙ later.is;
        good = later.good;
        values = λ id. later.values id ∙ step id;
      }
