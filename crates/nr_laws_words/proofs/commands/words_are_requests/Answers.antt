use Rattle.std.proofs.Common.{◌≡◌, ◌∙◌, ℕ, Bool, cond, true, false, List, [], ◌∷◌, Option, Some, None, ap, refl, sym, subst, bytes_eq, codes, unwrap_or}
use Rattle.std.proofs.lemmas.Slice.Eq.{bytes_eq-Decides}
use Rattle.nr_words.specs.Grammar.{Grammar, Values, values_in}
use Rattle.nr_spec_wire.specs.Optional.{◌>>=◌}
use Rattle.nr_spec_commands.specs.Words.{Request, Answer, Audit, Check, Collect, Keygen, Record, Verify, answer_grammar, answer_in, audit_grammar, audit_in, check_grammar, check_in, collect_grammar, collect_in, keygen_grammar, keygen_in, record_grammar, record_in, request_in, verify_grammar, verify_in}
use Rattle.nr_laws_words.specs.Commands.{Asks, AsksBy}
use Rattle.nr_laws_words.specs.Pairs.{is_clear}
use Rattle.nr_laws_words.proofs.Theorem.{given, gives}
use Rattle.nr_laws_words.proofs.commands.words_are_requests.Goals as goal

module _ {A : Type 0} (g : Grammar) (clear : is_clear g ≡ true) (read : Values → Option A) (asked_for : A → Request) where
  abbrev asked_in : List (List ℕ) → Option Request
  asked_in words = values_in g words >>= λ values. read values >>= λ asked. Some (asked_for asked)

  record Found (words : List (List ℕ)) (request : Request) : Type 0 where
    pub asked : A
    pub is : asked_for asked ≡ request
    pub asks : AsksBy g read (g.command ∷ words) asked

  found : (words : List (List ℕ)) (request : Request) → asked_in (g.command ∷ words) ≡ Some request → Found words request
  found words request is = by_values (values_in g (g.command ∷ words)) refl is
    where
      by_asked : (values : Values) → values_in g (g.command ∷ words) ≡ Some values → (asked : Option A) → read values ≡ asked → (asked >>= λ x. Some (asked_for x)) ≡ Some request → Found words request
      by_asked values v None e bad = absurd cc
      by_asked values v (Some x) e same = record {
        asked = x;
        is = ap (λ o. unwrap_or o request) same;
        asks = record { others = words; values = values; command = refl; gives = gives g clear g.command words values v; reads = e };
      }

      by_values : (values : Option Values) → values_in g (g.command ∷ words) ≡ values → (values >>= λ v. read v >>= λ x. Some (asked_for x)) ≡ Some request → Found words request
      by_values None v bad = absurd cc
      by_values (Some values) v same = by_asked values v (read values) refl same

  asked : (words : List (List ℕ)) (q : A) (a : AsksBy g read words q) → asked_in (g.command ∷ a.others) ≡ Some (asked_for q)
  asked words q a =
      ap (λ (v : Option Values). v >>= λ values. read values >>= λ x. Some (asked_for x)) (given g clear g.command a.others a.values a.gives)
      ∙ ap (λ (x : Option A). x >>= λ y. Some (asked_for y)) a.reads

-- A command word is the next one of the table, or is looked for in the rest of it.
by_word : {G : Type 0} (command name : List ℕ) (here others : Option Request) (request : Request) (b : Bool) → bytes_eq command name ≡ b
    → (command ≡ name → here ≡ Some request → G) → (others ≡ Some request → G) → cond b here others ≡ Some request → G
by_word command name here others request false e this rest same = rest same
by_word command name here others request true e this rest same = this ((bytes_eq-Decides command name).0 e) same

-- What a command is found to ask for is what its words ask for.
asks_for : {A : Type 0} (g : Grammar) (clear : is_clear g ≡ true) (read : Values → Option A) (asked_for : A → Request)
    → ((words : List (List ℕ)) (q : A) → AsksBy g read words q → Asks words (asked_for q))
    → (command : List ℕ) (words : List (List ℕ)) (request : Request) → command ≡ g.command
    → asked_in g clear read asked_for (command ∷ words) ≡ Some request → Asks (command ∷ words) request
asks_for g clear read asked_for is command words request name same =
    let f = found g clear read asked_for words request (ap (λ n. asked_in g clear read asked_for (n ∷ words)) (sym name) ∙ same) in
    subst (λ (n : List ℕ). Asks (n ∷ words) request) (sym name) (subst (Asks (g.command ∷ words)) f.is (is _ _ f.asks))

asks : (words : List (List ℕ)) (request : Request) → request_in words ≡ Some request → Asks words request
unfolding request_in
asks [] request is = absurd cc
asks (command ∷ words) request is =
    by_word command (codes "audit") _ _ request _ refl (asks_for audit_grammar refl audit_in Audit (λ w q a. a) command words request)
    (by_word command (codes "keygen") _ _ request _ refl (asks_for keygen_grammar refl keygen_in Keygen (λ w q a. a) command words request)
    (by_word command (codes "check") _ _ request _ refl (asks_for check_grammar refl check_in Check (λ w q a. a) command words request)
    (by_word command (codes "record") _ _ request _ refl (asks_for record_grammar refl record_in Record (λ w q a. a) command words request)
    (by_word command (codes "answer") _ _ request _ refl (asks_for answer_grammar refl answer_in Answer (λ w q a. a) command words request)
    (by_word command (codes "verify") _ _ request _ refl (asks_for verify_grammar refl verify_in Verify (λ w q a. a) command words request)
    (by_word command (codes "collect") _ _ request _ refl (asks_for collect_grammar refl collect_in Collect (λ w q a. a) command words request)
    (λ bad. absurd cc))))))) is

asked_by : (words : List (List ℕ)) (request : Request) → Asks words request → request_in words ≡ Some request
unfolding request_in
asked_by words (Audit q) a = ap request_in a.command ∙ asked audit_grammar refl audit_in Audit words q a
asked_by words (Keygen q) a = ap request_in a.command ∙ asked keygen_grammar refl keygen_in Keygen words q a
asked_by words (Check q) a = ap request_in a.command ∙ asked check_grammar refl check_in Check words q a
asked_by words (Record q) a = ap request_in a.command ∙ asked record_grammar refl record_in Record words q a
asked_by words (Answer q) a = ap request_in a.command ∙ asked answer_grammar refl answer_in Answer words q a
asked_by words (Verify q) a = ap request_in a.command ∙ asked verify_grammar refl verify_in Verify words q a
asked_by words (Collect q) a = ap request_in a.command ∙ asked collect_grammar refl collect_in Collect words q a

pub returns : goal.returns
returns c = λ words request. (asks words request, asked_by words request)
