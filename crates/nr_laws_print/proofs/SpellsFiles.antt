-- The canonical text of each declaration, and of a file, shows its words.
use Rattle.std.proofs.Common.{◌≡◌, ℕ, zero, suc, ◌/◌, ◌%◌, ◌<◌, true, leb, List, [], ◌∷◌, ◌++◌, length, map, Option, Some, None, refl, sym, ap, subst, ◌∙◌, append_assoc, arith, length-append}
use Rattle.std.specs.Prelude.{codes, slice_index}
use Rattle.std.specs.Char.{is_ascii_hexdigit}
use Rattle.std.specs.Fmt.{decimal}
use Rattle.std.specs.List.{AllByRecursion, list_all}
use Rattle.std.proofs.lemmas.List.{take_at}
use Rattle.std.proofs.lemmas.Bool.{le-leb}
use Rattle.hex.specs.Hex.{IsBytes, encode_lower, encode_with, lower_digits}
use Rattle.hex.proofs.HexLemmas.{length-encode_with}
use Rattle.nr_spec_bgp.specs.Prefixes.{Cidr, IsCidr}
use Rattle.nr_spec_bgp.specs.PrefixText.{address_text, cidr_text}
use Rattle.nr_spec_rules.specs.declared.kind.Kind.TheVariants as k
use Rattle.nr_spec_rules.specs.declared.kind.Piece.TheVariants as piece
use Rattle.nr_spec_rules.specs.Tokens.{piece_of}
use Rattle.nr_rule_syntax.specs.declared.tree.Name.{Name}
use Rattle.nr_rule_syntax.specs.declared.tree.Num.{Num}
use Rattle.nr_rule_syntax.specs.declared.tree.RootText.{RootText}
use Rattle.nr_rule_syntax.specs.declared.tree.PatternText.{PatternText}
use Rattle.nr_rule_syntax.specs.declared.tree.PrefixText.{PrefixText}
use Rattle.nr_rule_syntax.specs.declared.tree.Form.{Form}
use Rattle.nr_rule_syntax.specs.declared.tree.File.{File}
use Rattle.nr_rule_syntax.specs.declared.tree.Decl.{Decl}
use Rattle.nr_rule_syntax.specs.declared.tree.Decl.TheVariants as decls
use Rattle.nr_rule_syntax.specs.Printing.{spelled, key_text, most_text, pattern_text, name_text, prefix_text, places_text, numbered_text, head_text, declaration_text, file_text, printed}
use Rattle.nr_rule_syntax.specs.Printing as text
use Rattle.nr_rule_syntax.specs.Written.{IsName, IsNumber, IsPrefix, IsMost, IsPattern, IsRoot, IsKey, AreSome, IsWritten, is_written}
use Rattle.nr_rule_syntax.proofs.WrittenFiles.{IsRead}
use Rattle.nr_laws_print.proofs.Words.{Shown, Words, word, semicolon, comma, open_brace, close_brace, name_words, number_words, key_words, most_words, pattern_words, prefix_words, places_words, joined, declaration_words, all_words, file_words, worded}
use Rattle.nr_laws_print.proofs.Figures.{both_true}
use Rattle.nr_laws_print.proofs.Texts.{short_of}
use Rattle.nr_laws_print.proofs.FigureKinds.{address_figure, prefix_figure}
use Rattle.nr_laws_print.proofs.Shows.{Shows, is_free, shows_token, shows_end, shows_keyword, shows_space, shows_line, shows_figure, shows_semicolon, shows_comma, shows_equal, shows_open_brace, shows_close_brace}
use Rattle.nr_laws_print.proofs.Spells.{Spells, by_fronts, fronts, shows_name, shows_number, Between, Part, IsPart, bytes_of, words_of, spells_joined}
use Rattle.nr_laws_print.proofs.SpellsForms.{form_spelled}
use Rattle.nr_laws_print.proofs.Keywords as key

-- ---- figures and roots

shows_address : (n : Num) {rest : List ℕ} {ws : List Shown} → IsNumber n → is_free rest ≡ true → Shows rest ws → Shows (address_text n.value ++ rest) (word k.Address (address_text n.value) ∷ ws)
shows_address n h free s = shows_figure k.Address (address_text n.value) (address_figure n.value (short_of n.value h)) refl free s

shows_prefix : (p : Cidr) {rest : List ℕ} {ws : List Shown} → IsCidr p → is_free rest ≡ true → Shows rest ws → Shows (cidr_text p ++ rest) (word k.Prefix (cidr_text p) ∷ ws)
shows_prefix p h free s = shows_figure k.Prefix (cidr_text p) (prefix_figure p h) refl free s

hexdigit : (n : ℕ) → n < 16 → is_ascii_hexdigit (slice_index lower_digits n) ≡ true
hexdigit zero h = refl
hexdigit (suc zero) h = refl
hexdigit (suc (suc zero)) h = refl
hexdigit (suc (suc (suc zero))) h = refl
hexdigit (suc (suc (suc (suc zero)))) h = refl
hexdigit (suc (suc (suc (suc (suc zero))))) h = refl
hexdigit (suc (suc (suc (suc (suc (suc zero)))))) h = refl
hexdigit (suc (suc (suc (suc (suc (suc (suc zero))))))) h = refl
hexdigit (suc (suc (suc (suc (suc (suc (suc (suc zero)))))))) h = refl
hexdigit (suc (suc (suc (suc (suc (suc (suc (suc (suc zero))))))))) h = refl
hexdigit (suc (suc (suc (suc (suc (suc (suc (suc (suc (suc zero)))))))))) h = refl
hexdigit (suc (suc (suc (suc (suc (suc (suc (suc (suc (suc (suc zero))))))))))) h = refl
hexdigit (suc (suc (suc (suc (suc (suc (suc (suc (suc (suc (suc (suc zero)))))))))))) h = refl
hexdigit (suc (suc (suc (suc (suc (suc (suc (suc (suc (suc (suc (suc (suc zero))))))))))))) h = refl
hexdigit (suc (suc (suc (suc (suc (suc (suc (suc (suc (suc (suc (suc (suc (suc zero)))))))))))))) h = refl
hexdigit (suc (suc (suc (suc (suc (suc (suc (suc (suc (suc (suc (suc (suc (suc (suc zero))))))))))))))) h = refl
hexdigit (suc (suc (suc (suc (suc (suc (suc (suc (suc (suc (suc (suc (suc (suc (suc (suc n)))))))))))))))) h = absurd (omega arith)

hexdigits : (bytes : List ℕ) → IsBytes bytes → list_all is_ascii_hexdigit (encode_lower bytes) ≡ true
unfolding encode_with
hexdigits [] h = refl
hexdigits (b ∷ bytes) h =
    let first : b < 256 = h 0 in
    both_true (is_ascii_hexdigit (slice_index lower_digits (b / 16))) _ (hexdigit (b / 16) (omega arith))
    (both_true (is_ascii_hexdigit (slice_index lower_digits (b % 16))) _ (hexdigit (b % 16) (omega arith)) (hexdigits bytes (λ i. h (suc i))))

root_piece : (digits rest : List ℕ) → length digits ≡ 64 → list_all is_ascii_hexdigit digits ≡ true → piece_of (35 ∷ (digits ++ rest)) ≡ piece.Token k.Root 65
unfolding piece_of
root_piece digits rest long h =
    let enough : leb 64 (length (digits ++ rest)) ≡ true = le-leb 64 (length (digits ++ rest)) (omega (arith, length-append digits rest)) in
    rw (enough, take_at digits rest 64 long, h) refl

shows_root : (r : RootText) {rest : List ℕ} {ws : List Shown} → IsRoot r → Shows rest ws → Shows (35 ∷ (encode_lower r.digest.0 ++ rest)) (word k.Root (35 ∷ encode_lower r.digest.0) ∷ ws)
shows_root r {rest} {ws} h s =
    let long : length (encode_lower r.digest.0) ≡ 64 = omega (arith, length-encode_with lower_digits r.digest.0, h.0) in
    let len : 65 ≡ length (35 ∷ encode_lower r.digest.0) = omega arith in
    shows_token k.Root (35 ∷ encode_lower r.digest.0) rest ws
    (root_piece (encode_lower r.digest.0) rest long (hexdigits r.digest.0 h.1) ∙ ap (λ (n : ℕ). piece.Token k.Root n) len) refl (omega arith) s

-- ---- lines

-- in front of any text, since it ends with a line
pub record Lines (bytes : List ℕ) (w : Words) : Type 0 where
  pub shows : (rest : List ℕ) (ws : List Shown) → Shows rest ws → Shows (bytes ++ rest) (w ws)

spelled_fronts : (ps : List (List ℕ)) (rest : List ℕ) → spelled ps ++ rest ≡ fronts ps rest
spelled_fronts [] rest = refl
spelled_fronts (p ∷ ps) rest = append_assoc p (spelled ps) rest ∙ ap (λ (t : List ℕ). p ++ t) (spelled_fronts ps rest)

by_lines : (ps : List (List ℕ)) (w : Words) → ((rest : List ℕ) (ws : List Shown) → Shows rest ws → Shows (fronts ps rest) (w ws)) → Lines (spelled ps) w
by_lines ps w h = record { shows = λ rest ws s. subst (λ (t : List ℕ). Shows t (w ws)) (sym (spelled_fronts ps rest)) (h rest ws s) }

shows_pieces : (ps : List (List ℕ)) (rest : List ℕ) (ws : List Shown) → Shows (fronts ps rest) ws → Shows (spelled ps ++ rest) ws
shows_pieces ps rest ws s = subst (λ (t : List ℕ). Shows t ws) (sym (spelled_fronts ps rest)) s

-- `;` and the end of the line
shows_end_of_line : {rest : List ℕ} {ws : List Shown} → Shows rest ws → Shows (59 ∷ 10 ∷ rest) (semicolon ∷ ws)
shows_end_of_line s = shows_semicolon (shows_line s)

line_network : (n : Num) → IsNumber n → Lines (numbered_text (codes "network ") n.value) (λ more. word k.Network (codes "network") ∷ number_words n (semicolon ∷ more))
line_network n h = by_lines (codes "network " ∷ decimal n.value ∷ codes ";\n" ∷ []) (λ more. word k.Network (codes "network") ∷ number_words n (semicolon ∷ more)) (λ rest ws s.
    shows_keyword key.network_keyword refl (shows_space (shows_number n.value h refl (shows_end_of_line s))))

line_commit : (n : Num) → IsNumber n → Lines (numbered_text (codes "commit ") n.value) (λ more. word k.Commit (codes "commit") ∷ number_words n (semicolon ∷ more))
line_commit n h = by_lines (codes "commit " ∷ decimal n.value ∷ codes ";\n" ∷ []) (λ more. word k.Commit (codes "commit") ∷ number_words n (semicolon ∷ more)) (λ rest ws s.
    shows_keyword key.commit_keyword refl (shows_space (shows_number n.value h refl (shows_end_of_line s))))

-- ---- neighbours

free_key : (signs : Option (RootText × Num)) (rest : List ℕ) → is_free rest ≡ true → is_free (key_text signs ++ rest) ≡ true
free_key None rest h = h
free_key (Some (root, number)) rest h = refl

spells_key : (signs : Option (RootText × Num)) → IsKey signs → Spells (key_text signs) (key_words signs)
spells_key None h = record { spells = λ rest ws free s. s }
spells_key (Some (root, number)) h = by_fronts (codes " root #" ∷ encode_lower root.digest.0 ∷ codes " number " ∷ decimal number.value ∷ [])
    (λ more. word k.RootWord (codes "root") ∷ word k.Root (35 ∷ encode_lower root.digest.0) ∷ word k.NumberWord (codes "number") ∷ number_words number more) (λ rest ws free s.
    shows_space (shows_keyword key.root_keyword refl (shows_space (shows_root root h.0 (shows_space (shows_keyword key.number_keyword refl (shows_space (shows_number number.value h.1 free s))))))))

line_neighbour : (name : Name) (asn addr : Num) (signs : Option (RootText × Num)) → IsName name → IsNumber asn → IsNumber addr → IsKey signs
    → Lines (declaration_text (decls.Neighbour name asn addr signs)) (declaration_words (decls.Neighbour name asn addr signs))
line_neighbour name asn addr signs hn ha hd hk =
    by_lines (head_text (codes "neighbour ") name (codes " as ") ∷ decimal asn.value ∷ codes " at " ∷ address_text addr.value ∷ key_text signs ∷ codes ";\n" ∷ []) (declaration_words (decls.Neighbour name asn addr signs)) (λ rest ws s.
    shows_pieces (codes "neighbour " ∷ name.word ∷ codes " as " ∷ []) (decimal asn.value ++ (codes " at " ++ (address_text addr.value ++ (key_text signs ++ (codes ";\n" ++ rest))))) (declaration_words (decls.Neighbour name asn addr signs) ws)
    (shows_keyword key.neighbour_keyword refl (shows_space (shows_name name hn refl (shows_space (shows_keyword key.as_keyword refl (shows_space (shows_number asn.value ha refl (shows_space (shows_keyword key.at_keyword refl (shows_space
    (shows_address addr hd (free_key signs (codes ";\n" ++ rest) refl) ((spells_key signs hk).spells (codes ";\n" ++ rest) (semicolon ∷ ws) refl (shows_end_of_line s))))))))))))))

-- ---- lists

between_comma : Between (codes ", ") comma
between_comma = record { free = λ rest. refl; shows = λ rest ws s. shows_comma (shows_space s) }

abbrev parts : {A : Type 0} → (A → List ℕ) → (A → Words) → List A → List Part
parts bytes words xs = map (λ x. record { bytes = bytes x; words = words x }) xs

same_bytes : {A : Type 0} (bytes : A → List ℕ) (words : A → Words) (xs : List A) → bytes_of (parts bytes words xs) ≡ map bytes xs
same_bytes bytes words [] = refl
same_bytes bytes words (x ∷ xs) = ap (λ (ts : List (List ℕ)). bytes x ∷ ts) (same_bytes bytes words xs)

same_words : {A : Type 0} (bytes : A → List ℕ) (words : A → Words) (xs : List A) → words_of (parts bytes words xs) ≡ map words xs
same_words bytes words [] = refl
same_words bytes words (x ∷ xs) = ap (λ (ws : List Words). words x ∷ ws) (same_words bytes words xs)

all_parts : {A : Type 0} (bytes : A → List ℕ) (words : A → Words) (Q : A → Type 0) (xs : List A) → ((x : A) → Q x → Spells (bytes x) (words x)) → AllByRecursion Q xs → AllByRecursion IsPart (parts bytes words xs)
all_parts bytes words Q [] each all = tt
all_parts bytes words Q (x ∷ xs) each all = (each x all.0, all_parts bytes words Q xs each all.1)

spells_listed : {A : Type 0} (bytes : A → List ℕ) (words : A → Words) (Q : A → Type 0) (xs : List A) → ((x : A) → Q x → Spells (bytes x) (words x)) → AllByRecursion Q xs
    → Spells (text.joined (codes ", ") (map bytes xs)) (joined comma (map words xs))
spells_listed bytes words Q xs each all =
    subst (λ (ts : List (List ℕ)). Spells (text.joined (codes ", ") ts) (joined comma (map words xs))) (same_bytes bytes words xs)
    (subst (λ (ws : List Words). Spells (text.joined (codes ", ") (bytes_of (parts bytes words xs))) (joined comma ws)) (same_words bytes words xs)
    (spells_joined (codes ", ") comma between_comma (parts bytes words xs) (all_parts bytes words Q xs each all)))

spells_name : (n : Name) → IsName n → Spells (name_text n) (name_words n)
spells_name n h = record { spells = λ rest ws free s. shows_name n h free s }

line_group : (name : Name) (members : List Name) → IsName name → AreSome IsName members → Lines (declaration_text (decls.Group name members)) (declaration_words (decls.Group name members))
line_group name members hn hm =
    by_lines (head_text (codes "group ") name (codes " = ") ∷ text.joined (codes ", ") (map name_text members) ∷ codes ";\n" ∷ []) (declaration_words (decls.Group name members)) (λ rest ws s.
    shows_pieces (codes "group " ∷ name.word ∷ codes " = " ∷ []) (text.joined (codes ", ") (map name_text members) ++ (codes ";\n" ++ rest)) (declaration_words (decls.Group name members) ws)
    (shows_keyword key.group_keyword refl (shows_space (shows_name name hn refl (shows_space (shows_equal (shows_space
    ((spells_listed name_text name_words IsName members spells_name hm.1).spells (codes ";\n" ++ rest) (semicolon ∷ ws) refl (shows_end_of_line s)))))))))

free_most : (most : Option Num) (rest : List ℕ) → is_free rest ≡ true → is_free (most_text most ++ rest) ≡ true
free_most None rest h = h
free_most (Some n) rest h = refl

spells_most : (most : Option Num) → IsMost most → Spells (most_text most) (most_words most)
spells_most None h = record { spells = λ rest ws free s. s }
spells_most (Some n) h = by_fronts (codes " le " ∷ decimal n.value ∷ []) (λ more. word k.Le (codes "le") ∷ number_words n more) (λ rest ws free s.
    shows_space (shows_keyword key.le_keyword refl (shows_space (shows_number n.value h free s))))

spells_pattern : (p : PatternText) → IsPattern p → Spells (pattern_text p) (pattern_words p)
spells_pattern p h = by_fronts (cidr_text p.prefix ∷ most_text p.most ∷ []) (pattern_words p) (λ rest ws free s.
    shows_prefix p.prefix h.0 (free_most p.most rest free) ((spells_most p.most h.1).spells rest ws free s))

line_define : (name : Name) (patterns : List PatternText) → IsName name → AreSome IsPattern patterns → Lines (declaration_text (decls.Define name patterns)) (declaration_words (decls.Define name patterns))
line_define name patterns hn hm =
    by_lines (head_text (codes "define ") name (codes " = ") ∷ text.joined (codes ", ") (map pattern_text patterns) ∷ codes ";\n" ∷ []) (declaration_words (decls.Define name patterns)) (λ rest ws s.
    shows_pieces (codes "define " ∷ name.word ∷ codes " = " ∷ []) (text.joined (codes ", ") (map pattern_text patterns) ++ (codes ";\n" ++ rest)) (declaration_words (decls.Define name patterns) ws)
    (shows_keyword key.define_keyword refl (shows_space (shows_name name hn refl (shows_space (shows_equal (shows_space
    ((spells_listed pattern_text pattern_words IsPattern patterns spells_pattern hm.1).spells (codes ";\n" ++ rest) (semicolon ∷ ws) refl (shows_end_of_line s)))))))))

-- ---- promises

spells_prefix : (p : PrefixText) → IsPrefix p → Spells (prefix_text p) (prefix_words p)
spells_prefix p h = record { spells = λ rest ws free s. shows_prefix p.prefix h free s }

free_places : (at : List PrefixText) (rest : List ℕ) → is_free rest ≡ true → is_free (places_text at ++ rest) ≡ true
free_places [] rest h = h
free_places (p ∷ ps) rest h = refl

spells_places : (at : List PrefixText) → AllByRecursion IsPrefix at → Spells (places_text at) (places_words at)
spells_places [] h = record { spells = λ rest ws free s. s }
spells_places (p ∷ ps) h = record {
  spells = λ rest ws free s.
      let listed = (spells_listed prefix_text prefix_words IsPrefix (p ∷ ps) spells_prefix h).spells rest ws free s in
      let parted : spelled (codes " at " ∷ prefix_text p ∷ text.each_behind (codes ", ") (map prefix_text ps) ∷ []) ++ rest ≡ codes " at " ++ ((prefix_text p ++ text.each_behind (codes ", ") (map prefix_text ps)) ++ rest) =
      regroup (codes " at ") (prefix_text p) (text.each_behind (codes ", ") (map prefix_text ps)) rest in
      subst (λ (t : List ℕ). Shows t (places_words (p ∷ ps) ws)) (sym parted) (shows_space (shows_keyword key.at_keyword refl (shows_space listed)));
}
  where
    regroup : (a b c rest : List ℕ) → spelled (a ∷ b ∷ c ∷ []) ++ rest ≡ a ++ ((b ++ c) ++ rest)
    regroup a b c rest = simp (append_assoc)

line_promise : (name : Name) (grace : Num) (at : List PrefixText) (form : Form) → IsName name → IsNumber grace → AllByRecursion IsPrefix at
    → is_written form ≡ true
    → Lines (declaration_text (decls.Promise name grace at form)) (declaration_words (decls.Promise name grace at form))
line_promise name grace at form hn hg ha hf =
    by_lines (head_text (codes "promise ") name (codes " grace ") ∷ decimal grace.value ∷ places_text at ∷ codes " { " ∷ (printed form).text ∷ codes " }\n" ∷ []) (declaration_words (decls.Promise name grace at form)) (λ rest ws s.
    shows_pieces (codes "promise " ∷ name.word ∷ codes " grace " ∷ []) (decimal grace.value ++ (places_text at ++ (codes " { " ++ ((printed form).text ++ (codes " }\n" ++ rest))))) (declaration_words (decls.Promise name grace at form) ws)
    (shows_keyword key.promise_keyword refl (shows_space (shows_name name hn refl (shows_space (shows_keyword key.grace_keyword refl (shows_space (shows_number grace.value hg (free_places at (codes " { " ++ ((printed form).text ++ (codes " }\n" ++ rest))) refl)
    ((spells_places at ha).spells (codes " { " ++ ((printed form).text ++ (codes " }\n" ++ rest))) (open_brace ∷ (worded form).words (close_brace ∷ ws)) refl
    (shows_space (shows_open_brace (shows_space ((form_spelled form hf).spells.spells (codes " }\n" ++ rest) (close_brace ∷ ws) refl (shows_space (shows_close_brace (shows_line s))))))))))))))))

pub line_declaration : (d : Decl) → IsWritten d → Lines (declaration_text d) (declaration_words d)
line_declaration (decls.Network value span) h = line_network value h
line_declaration (decls.Commit value span) h = line_commit value h
line_declaration (decls.Neighbour name asn addr signs) h = line_neighbour name asn addr signs h.0 h.1 h.2 h.3
line_declaration (decls.Group name members) h = line_group name members h.0 h.1
line_declaration (decls.Define name patterns) h = line_define name patterns h.0 h.1
line_declaration (decls.Promise name grace at form) h = line_promise name grace at form h.0 h.1 h.2 h.3

shows_all : (ds : List Decl) → AllByRecursion IsRead ds → Shows (spelled (map declaration_text ds)) (all_words (map declaration_words ds) (word k.End [] ∷ []))
shows_all [] h = shows_end
shows_all (d ∷ ds) h = (line_declaration d h.0.written).shows (spelled (map declaration_text ds)) (all_words (map declaration_words ds) (word k.End [] ∷ [])) (shows_all ds h.1)

-- the text of a file shows its words
pub file_shows : (file : File) → AllByRecursion IsRead file.decls → Shows (file_text file) (file_words file)
file_shows file h = shows_all file.decls h
