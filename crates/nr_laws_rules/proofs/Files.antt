-- Whole files: reading is the grammar, and a refusal stands at the first token that the grammar refuses.
use Rattle.std.proofs.Common.{◌≡◌, ℕ, true, false, ◌+◌, List, [], ◌∷◌, ◌++◌, length, Result, Ok, Err, refl, sym, ap, subst, ◌∙◌, append_assoc, inl, inr, ◌⊎◌, arith}
use Rattle.nr_spec_rules.specs.declared.kind.Kind.TheVariants as k
use Rattle.nr_spec_rules.specs.declared.span.Span.{Span}
use Rattle.nr_spec_rules.specs.Tokens.{Token, same_kind, place_of, span_of, tokens_at, tokens_of, goes_on}
use Rattle.nr_spec_rules.specs.Endings.{IsEnded}
use Rattle.nr_spec_rules.specs.Parsing.{sees}
use Rattle.nr_spec_rules.proofs.Ended.{tokens_ended}
use Rattle.nr_rule_syntax.specs.declared.tree.Decl.{Decl}
use Rattle.nr_rule_syntax.specs.declared.tree.File.{File}
use Rattle.nr_rule_syntax.specs.Reading as read
use Rattle.nr_rule_syntax.specs.Reading.{file_of, file_in}
use Rattle.nr_laws_rules.specs.Productions.{many}
use Rattle.nr_laws_rules.specs.Grammar.{IsDecl, IsFile}
use Rattle.nr_laws_rules.specs.Refusal.{IsRefusedAt}
use Rattle.nr_laws_rules.proofs.KindLaws.{kinds_same, same_kinds, SameFirst, AllGo, all_front, all_behind}
use Rattle.nr_laws_rules.proofs.Steps.{Traced, taken_here, refused_here, not_both, Continues}
use Rattle.nr_laws_rules.proofs.Samples.{placed, beyond}
use Rattle.nr_laws_rules.proofs.Cuts.{end_token, end_is, completed}
use Rattle.nr_laws_rules.proofs.Chains.{unbounded, many_goes, until_traced, until_taken, until_stops}
use Rattle.nr_laws_rules.proofs.Spelling.{end_is_length}
use Rattle.nr_laws_rules.proofs.Declarations.{declaration_decides, declaration_begins}

-- ---- the end of the tokens

ended_behind : (before : List Token) (e : Token) (tail : List Token) → goes_on e.kind ≡ false → IsEnded (before ++ e ∷ tail) → tail ≡ []
ended_behind [] e [] g h = refl
ended_behind [] e (u ∷ tail) g h = absurd (not_both h.0 g)
ended_behind (t ∷ []) e tail g h = ended_behind [] e tail g h.1
ended_behind (t ∷ u ∷ before) e tail g h = ended_behind (u ∷ before) e tail g h.1

never_ended : (before : List Token) → AllGo before → IsEnded (before ++ []) → ⊥
never_ended [] go h = h
never_ended (t ∷ []) go h = not_both go.0 h
never_ended (t ∷ u ∷ before) go h = never_ended (u ∷ before) go.1 h.1

end_kind : (e : Token) → same_kind e.kind k.End ≡ true → goes_on e.kind ≡ false
end_kind e s = ap goes_on (kinds_same e.kind k.End s)

-- ---- declarations

begins : (w : List Token) (a : Decl) (after : List Token) → IsDecl w a → sees k.End (w ++ after) ≡ false
begins w a after d = declaration_begins.begins w a after d

declarations_traced : (ts : List Token) → Traced read.declarations (many IsDecl) ts
declarations_traced ts = unbounded (until_traced read.declaration IsDecl begins declaration_decides.traced (length ts) ts (omega arith))

declarations_taken : (w : List Token) (list : List Decl) (e : Token) → many IsDecl w list → e.kind ≡ k.End → read.declarations (w ++ e ∷ []) ≡ Ok (list, e ∷ [])
declarations_taken w list e m is =
    until_taken read.declaration IsDecl begins declaration_decides.traced declaration_decides.complete list (length (w ++ e ∷ [])) w (e ∷ []) m (same_kinds e.kind k.End is) (omega arith)

declarations_stop : (ts : List Token) (list : List Decl) (rest : List Token) → read.declarations ts ≡ Ok (list, rest) → sees k.End rest ≡ true
declarations_stop ts list rest e = until_stops read.declaration IsDecl begins declaration_decides.traced (length ts) ts list rest (omega arith) e

declarations_go : (w : List Token) (list : List Decl) → many IsDecl w list → AllGo w
declarations_go w list m = (many_goes declaration_decides.goes).all w list m

-- ---- files

file_is : (a b : File) → (let r : Result File ℕ = Ok a in r) ≡ Ok b → a ≡ b
file_is a b e = cc

place_is : (a b : ℕ) → (let r : Result File ℕ = Err a in r) ≡ Err b → a ≡ b
place_is a b e = cc

-- what declarations and an end are
whole_file : (w : List Token) (list : List Decl) (e : Token) → many IsDecl w list → e.kind ≡ k.End → IsFile (w ++ e ∷ []) (record { decls = list; end = e.from })
unfolding IsFile
whole_file w list e m is = (list, w, e ∷ [], refl, m, (span_of (e ∷ []), e ∷ [], [], refl, (e, refl, is, refl), (refl, refl)))

found : (ts : List Token) (file : File) → IsEnded ts → file_in (read.declarations ts) ≡ Ok file → IsFile ts file
found ts file ended e = by_trace (declarations_traced ts)
  where
    at_rest : (before rest : List Token) (list : List Decl) → ts ≡ before ++ rest → many IsDecl before list → sees k.End rest ≡ true
        → (let r : Result File ℕ = Ok (record { decls = list; end = place_of rest }) in r) ≡ Ok file → IsFile ts file
    at_rest before [] list split m s made = absurd (never_ended before (declarations_go before list m) (subst IsEnded split ended))
    at_rest before (last ∷ tail) list split m s made =
        let none = ended_behind before last tail (end_kind last s) (subst IsEnded split ended) in
        let alone : ts ≡ before ++ last ∷ [] = split ∙ ap (λ (l : List Token). before ++ last ∷ l) none in
        rw (alone, ← file_is (record { decls = list; end = last.from }) file made) (whole_file before list last m (kinds_same last.kind k.End s))

    by_trace : Traced read.declarations (many IsDecl) ts → IsFile ts file
    by_trace (inl t) = at_rest t.before t.rest t.value t.split t.is (declarations_stop ts t.value t.rest (taken_here t)) (sym (ap file_in (taken_here t)) ∙ e)
    by_trace (inr r) = absurd (cc (sym (ap file_in (refused_here r)) ∙ e))

again : (ts : List Token) (file : File) → IsFile ts file → file_in (read.declarations ts) ≡ Ok file
unfolding IsFile
again ts file (list, front, back, e, m, (span, f, b, e1, (t, alone, is, place), (none, made))) =
    ap (λ (l : List Token). file_in (read.declarations l)) whole ∙ ap file_in (declarations_taken front list t m is) ∙ sym (ap (λ (x : File). Ok x) (made ∙ end_is))
  where
    whole : ts ≡ front ++ t ∷ []
    whole = rw (e, e1, alone, none) refl

    end_is : (let x : File = record { decls = list; end = span.from } in x) ≡ record { decls = list; end = t.from }
    end_is = rw place refl

one_file : (ts : List Token) (a b : File) → IsFile ts a → IsFile ts b → a ≡ b
one_file ts a b x y = file_is a b (sym (again ts a x) ∙ again ts b y)

refused : (text : List ℕ) (place : ℕ) → IsEnded (tokens_of text) → file_in (read.declarations (tokens_of text)) ≡ Err place → (t : Token) × (t.from ≡ place) × IsRefusedAt (tokens_of text) t
refused text place ended e = by_trace (declarations_traced (tokens_of text))
  where
    goes : (before : List Token) (at : ℕ) (c : Continues (many IsDecl) before at) → AllGo (before ++ placed at c.kinds)
    goes before at c = declarations_go (before ++ placed at c.kinds) c.value c.is

    at_rest : (before rest : List Token) → tokens_of text ≡ before ++ rest → ((at : ℕ) → Continues (many IsDecl) before at)
        → ((y : List Token) → SameFirst rest y → read.declarations (before ++ y) ≡ Err (place_of y)) → place_of rest ≡ place
        → (t : Token) × (t.from ≡ place) × IsRefusedAt (tokens_of text) t
    at_rest before [] split go_on alike at = let c = go_on 0 in absurd (never_ended before (all_front before (placed 0 c.kinds) (goes before 0 c)) (subst IsEnded split ended))
    at_rest before (t ∷ tail) split go_on alike at =
        let c = go_on (t.from + 1) in
        let more = placed (t.from + 1) c.kinds in
        let last = end_token (beyond (t.from + 1) c.kinds) in
        let other = completed text before t tail split c.kinds (all_behind before more (goes before (t.from + 1) c)) in
        let file : File = record { decls = c.value; end = last.from } in (
          t,
          at,
          record {
            before = before;
            behind = tail;
            split = split;
            can_go_on = (
              other.0,
              more ++ last ∷ [],
              other.1,
              file,
              subst (λ (l : List Token). IsFile l file) (append_assoc before more (last ∷ [])) (whole_file (before ++ more) c.value last c.is (end_is (beyond (t.from + 1) c.kinds))),
            );
            cannot_go_on = λ after file f. absurd (cc (sym (again (before ++ t ∷ after) file f) ∙ ap file_in (alike (t ∷ after) refl)));
          },
        )

    by_trace : Traced read.declarations (many IsDecl) (tokens_of text) → (t : Token) × (t.from ≡ place) × IsRefusedAt (tokens_of text) t
    by_trace (inl t) = absurd (cc (sym (ap file_in (taken_here t)) ∙ e))
    by_trace (inr r) = at_rest r.before r.rest r.split r.goes_on r.alike (place_is (place_of r.rest) place (sym (ap file_in (refused_here r)) ∙ e))

-- ---- one refusal

-- two splits of one list before a token: at the same, or one within the front of the other
splits : (x y p q : List Token) (a b : Token) → x ++ a ∷ p ≡ y ++ b ∷ q → (a ≡ b) ⊎ ((l : List Token) × (x ≡ y ++ b ∷ l)) ⊎ ((l : List Token) × (y ≡ x ++ a ∷ l))
splits [] [] p q a b e = inl cc
splits [] (u ∷ y) p q a b e = inr (inr (y, cc))
splits (t ∷ x) [] p q a b e = inr (inl (x, cc))
splits (t ∷ x) (u ∷ y) p q a b e = let same : t ≡ u = cc in let rest : x ++ a ∷ p ≡ y ++ b ∷ q = cc in further same (splits x y p q a b rest)
  where
    further : t ≡ u → (a ≡ b) ⊎ ((l : List Token) × (x ≡ y ++ b ∷ l)) ⊎ ((l : List Token) × (y ≡ x ++ a ∷ l))
        → (a ≡ b) ⊎ ((l : List Token) × (t ∷ x ≡ u ∷ (y ++ b ∷ l))) ⊎ ((l : List Token) × (u ∷ y ≡ t ∷ (x ++ a ∷ l)))
    further same (inl e) = inl e
    further same (inr (inl (l, e))) = inr (inl (l, cc))
    further same (inr (inr (l, e))) = inr (inr (l, cc))

-- a token within what can be continued isn't refused
within : (ts : List Token) (a b : Token) (r : IsRefusedAt ts a) (s : IsRefusedAt ts b) (l : List Token) → s.before ≡ r.before ++ a ∷ l → ⊥
within ts a b r s l e =
    r.cannot_go_on (l ++ s.can_go_on.1) s.can_go_on.3
    (subst (λ (w : List Token). IsFile w s.can_go_on.3) (ap (λ (w : List Token). w ++ s.can_go_on.1) e ∙ append_assoc r.before (a ∷ l) s.can_go_on.1) s.can_go_on.4)

one_refused : (ts : List Token) (a b : Token) → IsRefusedAt ts a → IsRefusedAt ts b → a ≡ b
one_refused ts a b r s = by_case (splits r.before s.before r.behind s.behind a b (sym r.split ∙ s.split))
  where
    by_case : (a ≡ b) ⊎ ((l : List Token) × (r.before ≡ s.before ++ b ∷ l)) ⊎ ((l : List Token) × (s.before ≡ r.before ++ a ∷ l)) → a ≡ b
    by_case (inl e) = e
    by_case (inr (inl (l, e))) = absurd (within ts b a s r l e)
    by_case (inr (inr (l, e))) = absurd (within ts a b r s l e)

-- ---- texts

text_ended : (text : List ℕ) → IsEnded (tokens_of text)
unfolding tokens_at
text_ended text = tokens_ended 0 0 text

pub read_is_file : (text : List ℕ) (file : File) → file_of text ≡ Ok file → IsFile (tokens_of text) file
unfolding file_of
read_is_file text file e = found (tokens_of text) file (text_ended text) e

pub file_is_read : (text : List ℕ) (file : File) → IsFile (tokens_of text) file → file_of text ≡ Ok file
unfolding file_of
file_is_read text file f = again (tokens_of text) file f

pub file_is_one : (text : List ℕ) (a b : File) → IsFile (tokens_of text) a → IsFile (tokens_of text) b → a ≡ b
file_is_one text a b x y = one_file (tokens_of text) a b x y

pub refusal_is_first : (text : List ℕ) (place : ℕ) → file_of text ≡ Err place → (t : Token) × (t.from ≡ place) × IsRefusedAt (tokens_of text) t
unfolding file_of
refusal_is_first text place e = refused text place (text_ended text) e

pub first_is_refusal : (text : List ℕ) (t : Token) → IsRefusedAt (tokens_of text) t → file_of text ≡ Err t.from
first_is_refusal text t r = by_case (file_of text) refl
  where
    by_case : (o : Result File ℕ) → file_of text ≡ o → file_of text ≡ Err t.from
    by_case (Ok file) e = absurd (r.cannot_go_on r.behind file (subst (λ (w : List Token). IsFile w file) r.split (read_is_file text file e)))
    by_case (Err place) e = let f = refusal_is_first text place e in e ∙ ap (λ (n : ℕ). Err n) (sym f.1 ∙ ap (λ (u : Token). u.from) (one_refused (tokens_of text) f.0 t f.2 r))

-- ---- the end of a text

file_ends : (text : List ℕ) (file : File) → IsFile (tokens_of text) file → file.end ≡ length text
unfolding IsFile
file_ends text file (list, front, back, e, m, (span, f, b, e1, (t, alone, is, place), (none, made))) =
    ap (λ (x : File). x.end) made ∙ ap (λ (s : Span). s.from) place ∙ end_is_length text front t [] (rw (e, e1, alone, none) refl) is

pub read_ends : (text : List ℕ) (file : File) → file_of text ≡ Ok file → file.end ≡ length text
read_ends text file e = file_ends text file (read_is_file text file e)

pub early_end : (text : List ℕ) (t : Token) → IsRefusedAt (tokens_of text) t → t.kind ≡ k.End → file_of text ≡ Err (length text)
early_end text t r is = first_is_refusal text t r ∙ ap (λ (n : ℕ). Err n) (end_is_length text r.before t r.behind r.split is)
