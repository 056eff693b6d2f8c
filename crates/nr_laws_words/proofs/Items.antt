-- Words are items exactly where they are uses.
use Rattle.std.proofs.Common.{◌≡◌, ◌∙◌, ◌||◌, Bool, cond, true, false, refl, sym, ap, ap₂, List, [], ◌∷◌, ◌++◌, map, Option, Some, None, bytes_eq, append-nil, append_assoc, flat_map, unwrap_or, codes}
use Rattle.std.specs.List.{list_all, list_any}
use Rattle.std.proofs.lemmas.Bool.{and_from, and_parts, true≢false}
use Rattle.std.proofs.lemmas.Slice.Eq.{bytes_eq-Decides}
use Rattle.clap.specs.Lexer.{long_of}
use Rattle.clap.specs.Walk.{Text, is_empty}
use Rattle.nr_words.specs.Grammar.{Grammar, OptionRule}
use Rattle.nr_laws_words.specs.Pairs.{Item, Apart, Joined, File, dashes, is_name, is_plain, is_taken, item_words, may_end, words_from}
use Rattle.nr_laws_words.proofs.Rules.{named}
use Rattle.nr_laws_words.proofs.Looks.{empty_not, Looks, Ends, Long, Flags, Plain, look, plain_looks}
use Rattle.nr_laws_words.proofs.Steps.{Use, Opt, Put}
use Rattle.nr_laws_words.proofs.Lexed.{and_use, lexed, lexed_ends, lexed_long, lexed_plain, option_step, trailing}
use Rattle.nr_laws_words.proofs.Texts.{alone_looks, joined_looks, long_text}

abbrev pub use_of : Item → Use
use_of (Apart name value) = Opt name value
use_of (Joined name value) = Opt name value
use_of (File word) = Put word

abbrev pub uses_of : List Item → Option (List Text) → List Use
uses_of items rest = map use_of items ++ map Put (unwrap_or rest [])

-- a name that is found is an option's, and the other way round
pub has_named : (options : List OptionRule) (name : Text) (o : OptionRule) → named options name ≡ Some o → list_any (λ p. bytes_eq p.name name) options ≡ true
has_named [] name o is = absurd cc
has_named (p ∷ ps) name o is = go (bytes_eq p.name name) refl is (has_named ps name o)
  where
    go : (b : Bool) → bytes_eq p.name name ≡ b → cond b (Some p) (named ps name) ≡ Some o → (named ps name ≡ Some o → list_any (λ q. bytes_eq q.name name) ps ≡ true) → list_any (λ q. bytes_eq q.name name) (p ∷ ps) ≡ true
    go true e is ih = rw e
    go false e is ih = rw e (ih is)

pub named_has : (options : List OptionRule) (name : Text) → list_any (λ p. bytes_eq p.name name) options ≡ true → (o : OptionRule) × (named options name ≡ Some o)
named_has [] name is = absurd cc
named_has (p ∷ ps) name is = go (bytes_eq p.name name) refl is (named_has ps name)
  where
    go : (b : Bool) → bytes_eq p.name name ≡ b → (b || list_any (λ q. bytes_eq q.name name) ps) ≡ true
        → (list_any (λ q. bytes_eq q.name name) ps ≡ true → (o : OptionRule) × (named ps name ≡ Some o)) → (o : OptionRule) × (named (p ∷ ps) name ≡ Some o)
    go true e is ih = (p, rw e)
    go false e is ih = let later = ih is in (later.0, rw e later.1)

pub found_name : (options : List OptionRule) (name : Text) → list_all (λ o. is_name o.name) options ≡ true → list_any (λ p. bytes_eq p.name name) options ≡ true → is_name name ≡ true
found_name [] name names is = absurd cc
found_name (p ∷ ps) name names is = go (bytes_eq p.name name) refl is (found_name ps name (and_parts (is_name p.name) _ names).1)
  where
    go : (b : Bool) → bytes_eq p.name name ≡ b → (b || list_any (λ q. bytes_eq q.name name) ps) ≡ true → (list_any (λ q. bytes_eq q.name name) ps ≡ true → is_name name ≡ true) → is_name name ≡ true
    go true e is ih = ap is_name (sym ((bytes_eq-Decides p.name name).0 e)) ∙ (and_parts (is_name p.name) _ names).0
    go false e is ih = ih is

module _ (g : Grammar) where
  abbrev lexed_by : Option Text → List Text → Option (List Use)
  lexed_by = lexed g.options g.files

  abbrev trailing_by : List Text → Option (List Use)
  trailing_by = trailing g.options g.files

  -- ---- what is read is spelled

  pub record Reads (words : List Text) (us : List Use) : Type 0 where
    pub items : List Item
    pub rest : Option (List Text)
    pub spelled : words ≡ flat_map item_words items ++ words_from rest
    pub taken : list_all (is_taken g) items ≡ true
    pub ended : may_end g rest ≡ true
    pub uses : us ≡ uses_of items rest

  -- the value of an option, and what follows
  pub record ReadsValue (name : Text) (words : List Text) (us : List Use) : Type 0 where
    pub value : Text
    pub others : List Text
    pub later : List Use
    pub first : words ≡ value ∷ others
    pub plain : is_plain value ≡ true
    pub uses : us ≡ Opt name value ∷ later
    pub reads : Reads others later

  record Further (u : Use) (from : Option (List Use)) (us : List Use) : Type 0 where
    pub later : List Use
    pub is : from ≡ Some later
    pub uses : us ≡ u ∷ later

  further : (u : Use) (uses : Option (List Use)) (us : List Use) → and_use u uses ≡ Some us → Further u uses us
  further u None us e = absurd cc
  further u (Some later) us e = record { later = later; is = refl; uses = sym (ap (λ o. unwrap_or o us) e) }

  same_uses : (xs us : List Use) → Some xs ≡ Some us → us ≡ xs
  same_uses xs us e = sym (ap (λ o. unwrap_or o us) e)

  trailing_read : (words : List Text) (us : List Use) → trailing_by words ≡ Some us → (us ≡ map Put words) × ((g.files || is_empty words) ≡ true)
  trailing_read [] us e = (same_uses [] us e, or_true g.files)
    where
      or_true : (b : Bool) → (b || true) ≡ true
      or_true true = refl
      or_true false = refl
  trailing_read (word ∷ words) us e = go g.files refl e (trailing_read words)
    where
      go : (b : Bool) → g.files ≡ b → cond b (and_use (Put word) (trailing_by words)) None ≡ Some us
          → ((us : List Use) → trailing_by words ≡ Some us → (us ≡ map Put words) × ((g.files || is_empty words) ≡ true)) → (us ≡ map Put (word ∷ words)) × ((g.files || is_empty (word ∷ words)) ≡ true)
      go true takes e ih =
          let f = further (Put word) (trailing_by words) us e in
          (f.uses ∙ ap (λ xs. Put word ∷ xs) (ih f.later f.is).0, rw takes)
      go false takes e ih = absurd cc

  abbrev Free : List Text → Type 0
  Free words = (us : List Use) → lexed_by None words ≡ Some us → Reads words us

  abbrev Waiting : List Text → Type 0
  Waiting words = (name : Text) (us : List Use) → lexed_by (Some name) words ≡ Some us → ReadsValue name words us

  with_item : (item : Item) (word : Text) (words : List Text) (us later : List Use) → Reads words later → us ≡ use_of item ∷ later → (word ∷ []) ≡ item_words item → is_taken g item ≡ true → Reads (word ∷ words) us
  with_item item word words us later r uses spelled taken = record {
    items = item ∷ r.items;
    rest = r.rest;
    spelled = ap₂ (λ (xs ys : List Text). xs ++ ys) spelled r.spelled ∙ sym (append_assoc (item_words item) (flat_map item_words r.items) (words_from r.rest));
    taken = and_from _ _ taken r.taken;
    ended = r.ended;
    uses = uses ∙ ap (λ xs. use_of item ∷ xs) r.uses;
  }

  module _ (word : Text) (words : List Text) (free : Free words) (waiting : Waiting words) where
    long_read : (us : List Use) (name : Text) (v : Option Text) (o : Option OptionRule) → long_of word ≡ Some (name, v) → named g.options name ≡ o
        → option_step g.options g.files None name v o (λ w. lexed_by w words) ≡ Some us → Reads (word ∷ words) us
    long_read us name v None l n e = absurd cc
    long_read us name (Some v) (Some o) l n e =
        let f = further (Opt name v) (lexed_by None words) us e in
        with_item (Joined name v) word words us f.later (free f.later f.is) f.uses
        (ap (λ t. t ∷ []) (long_text word name (Some v) l ∙ sym (append_assoc (dashes ++ name) (codes "=") v)))
        (has_named g.options name o n)
    long_read us name None (Some o) l n e =
        let w = waiting name us e in
        let r = w.reads in
        record {
          items = Apart name w.value ∷ r.items;
          rest = r.rest;
          spelled = ap₂ (λ t ts. t ∷ ts) (long_text word name None l ∙ append-nil (dashes ++ name)) w.first ∙ ap (λ ts. (dashes ++ name) ∷ w.value ∷ ts) r.spelled;
          taken = and_from _ _ (and_from _ _ (has_named g.options name o n) w.plain) r.taken;
          ended = r.ended;
          uses = w.uses ∙ ap (λ xs. Opt name w.value ∷ xs) r.uses;
        }

    file_read : (us : List Use) → is_plain word ≡ true → (b : Bool) → g.files ≡ b → cond b (and_use (Put word) (lexed_by None words)) None ≡ Some us → Reads (word ∷ words) us
    file_read us plain false takes e = absurd cc
    file_read us plain true takes e =
        let f = further (Put word) (lexed_by None words) us e in
        with_item (File word) word words us f.later (free f.later f.is) f.uses refl (and_from _ _ takes plain)

    free_read : Looks word → (us : List Use) → lexed_by None (word ∷ words) ≡ Some us → Reads (word ∷ words) us
    free_read (Ends e plain) us is =
        let t = trailing_read words us (sym (lexed_ends g.options g.files None word words e) ∙ is) in
        record {
          items = [];
          rest = Some words;
          spelled = ap (λ t. t ∷ words) ((bytes_eq-Decides word dashes).0 e);
          taken = refl;
          ended = t.1;
          uses = t.0;
        }
    free_read (Long name v e l plain) us is = long_read us name v (named g.options name) l refl (sym (lexed_long g.options g.files None word words name v (named g.options name) e l refl) ∙ is)
    free_read (Flags flags c cs e l f chars_are plain) us is =
        let bad : ◌≡◌ {A = Option (List Use)} None (Some us) = sym (lexed_plain g.options g.files None word words false e l plain) ∙ is in absurd cc
    free_read (Plain flags e l f chars_are plain) us is = file_read us plain g.files refl (sym (lexed_plain g.options g.files None word words true e l plain) ∙ is)

    value_read : Looks word → (name : Text) (us : List Use) → lexed_by (Some name) (word ∷ words) ≡ Some us → ReadsValue name (word ∷ words) us
    value_read (Ends e plain) name us is =
        let bad : ◌≡◌ {A = Option (List Use)} None (Some us) = sym (lexed_ends g.options g.files (Some name) word words e) ∙ is in absurd cc
    value_read (Long other v e l plain) name us is =
        let bad : ◌≡◌ {A = Option (List Use)} None (Some us) = sym (lexed_long g.options g.files (Some name) word words other v (named g.options other) e l refl) ∙ is in absurd cc
    value_read (Flags flags c cs e l f chars_are plain) name us is =
        let bad : ◌≡◌ {A = Option (List Use)} None (Some us) = sym (lexed_plain g.options g.files (Some name) word words false e l plain) ∙ is in absurd cc
    value_read (Plain flags e l f chars_are plain) name us is =
        let f = further (Opt name word) (lexed_by None words) us (sym (lexed_plain g.options g.files (Some name) word words true e l plain) ∙ is) in
        record { value = word; others = words; later = f.later; first = refl; plain = plain; uses = f.uses; reads = free f.later f.is }

  both_read : (words : List Text) → Free words × Waiting words
  unfolding lexed
  both_read [] = (
    λ us is. record { items = []; rest = None; spelled = refl; taken = refl; ended = refl; uses = same_uses [] us is },
    λ name us is. absurd cc,
  )
  both_read (word ∷ words) =
      let later = both_read words in
      (free_read word words later.0 later.1 (look word), value_read word words later.0 later.1 (look word))

  pub lexed_read : (words : List Text) (us : List Use) → lexed_by None words ≡ Some us → Reads words us
  lexed_read words = (both_read words).0

  -- ---- what is spelled is read

  trailing_again : (words : List Text) → (g.files || is_empty words) ≡ true → trailing_by words ≡ Some (map Put words)
  trailing_again [] e = refl
  trailing_again (word ∷ words) e = go g.files refl e (trailing_again words)
    where
      go : (b : Bool) → g.files ≡ b → (b || is_empty (word ∷ words)) ≡ true → ((g.files || is_empty words) ≡ true → trailing_by words ≡ Some (map Put words)) → trailing_by (word ∷ words) ≡ Some (map Put (word ∷ words))
      go true takes e ih = ap₂ (λ b r. cond b (and_use (Put word) r) None) takes (ih (rw takes))
      go false takes e ih = absurd (true≢false (sym e ∙ empty_not word words))

  module _ (names : list_all (λ o. is_name o.name) g.options ≡ true) where
    pub lexed_again : (items : List Item) (rest : Option (List Text)) → list_all (is_taken g) items ≡ true → may_end g rest ≡ true
        → lexed_by None (flat_map item_words items ++ words_from rest) ≡ Some (uses_of items rest)
    unfolding lexed
    lexed_again [] None taken ended = refl
    lexed_again [] (Some words) taken ended = lexed_ends g.options g.files None dashes words refl ∙ trailing_again words ended
    lexed_again (Apart name v ∷ items) rest taken ended =
        let parts = and_parts _ _ taken in
        let own = and_parts _ _ parts.0 in
        let words = flat_map item_words items ++ words_from rest in
        let o = named_has g.options name own.0 in
        let looks = alone_looks name (found_name g.options name names own.0) in
        let value = plain_looks v own.1 in
        lexed_long g.options g.files None (dashes ++ name) (v ∷ words) name None (Some o.0) looks.0 looks.1 o.1
        ∙ lexed_plain g.options g.files (Some name) v words true value.0 value.1 own.1
        ∙ ap (and_use (Opt name v)) (lexed_again items rest parts.1 ended)
    lexed_again (Joined name v ∷ items) rest taken ended =
        let parts = and_parts _ _ taken in
        let words = flat_map item_words items ++ words_from rest in
        let o = named_has g.options name parts.0 in
        let looks = joined_looks name v (found_name g.options name names parts.0) in
        lexed_long g.options g.files None (dashes ++ name ++ codes "=" ++ v) words name (Some v) (Some o.0) looks.0 looks.1 o.1
        ∙ ap (and_use (Opt name v)) (lexed_again items rest parts.1 ended)
    lexed_again (File word ∷ items) rest taken ended =
        let parts = and_parts _ _ taken in
        let own = and_parts _ _ parts.0 in
        let words = flat_map item_words items ++ words_from rest in
        let value = plain_looks word own.1 in
        lexed_plain g.options g.files None word words true value.0 value.1 own.1
        ∙ ap₂ (λ b r. cond b (and_use (Put word) r) None) own.0 (lexed_again items rest parts.1 ended)
