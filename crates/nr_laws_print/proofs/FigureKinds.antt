-- Of what kind the texts of numbers, addresses, prefixes and communities are.
use Rattle.std.proofs.Common.{◌≡◌, ℕ, ◌/◌, ◌%◌, ◌^◌, ◌<◌, Bool, true, false, ◌&&◌, List, [], ◌∷◌, ◌++◌, length, get_or, Option, Some, None, refl, sym, ap, subst, ◌∙◌, append_assoc, arith}
use Rattle.std.specs.Char.{is_ascii_digit}
use Rattle.std.specs.List.{list_all}
use Rattle.std.specs.Fmt.{decimal}
use Rattle.std.proofs.lemmas.List.{append-nil}
use Rattle.nr_spec_bgp.specs.Prefixes.{Cidr, IsCidr}
use Rattle.nr_spec_bgp.specs.PrefixText.{address_text, cidr_text}
use Rattle.nr_spec_rules.specs.declared.kind.Kind.TheVariants as k
use Rattle.nr_spec_rules.specs.Figures.{number_of, address_of, prefix_of, community_of, number_to, cut}
use Rattle.nr_spec_rules.specs.Tokens.{in_figure, figure_kind}
use Rattle.nr_rule_syntax.specs.Printing.{community_text}
use Rattle.nr_rule_syntax.specs.Written.{is_short}
use Rattle.nr_laws_print.proofs.Figures.{both_true, of_both, writes_decimal, Lacks, lacks_both, lacks_one, cut_none}
use Rattle.nr_laws_print.proofs.Texts.{short_of, number_text_read, community_text_read, then_some, part_read, decimal_lacks, cut_decimal, address_parts, address_text_read, prefix_text_read}
use Rattle.nr_laws_print.proofs.Shows.{IsFigure}

digits_are_figures : (ds : List ℕ) → list_all is_ascii_digit ds ≡ true → list_all in_figure ds ≡ true
digits_are_figures [] h = refl
digits_are_figures (d ∷ ds) h =
    let both = of_both (is_ascii_digit d) (list_all is_ascii_digit ds) h in
    both_true (in_figure d) (list_all in_figure ds) (rw both.0 refl) (digits_are_figures ds both.1)

all_both : (xs ys : List ℕ) → list_all in_figure xs ≡ true → list_all in_figure ys ≡ true → list_all in_figure (xs ++ ys) ≡ true
all_both [] ys p q = q
all_both (x ∷ xs) ys p q =
    let both = of_both (in_figure x) (list_all in_figure xs) p in
    both_true (in_figure x) (list_all in_figure (xs ++ ys)) both.0 (all_both xs ys both.1 q)

decimal_all : (n : ℕ) → n < 2 ^ 64 → list_all in_figure (decimal n) ≡ true
decimal_all n h = digits_are_figures (decimal n) (writes_decimal n h).digits

first_digit : (ds rest : List ℕ) → list_all is_ascii_digit ds ≡ true → 0 < length ds → is_ascii_digit (get_or (ds ++ rest) 0 0) ≡ true
first_digit [] rest h some = absurd (omega arith)
first_digit (d ∷ ds) rest h some = (of_both (is_ascii_digit d) (list_all is_ascii_digit ds) h).0

decimal_first : (n : ℕ) (rest : List ℕ) → n < 2 ^ 64 → is_ascii_digit (get_or (decimal n ++ rest) 0 0) ≡ true
decimal_first n rest h = let w = writes_decimal n h in first_digit (decimal n) rest w.digits w.some

-- another byte among them
after_any : (b c : Bool) → c ≡ false → (b && c) ≡ false
after_any true c h = h
after_any false c h = refl

no_digits : (xs : List ℕ) (c : ℕ) (ys : List ℕ) → is_ascii_digit c ≡ false → list_all is_ascii_digit (xs ++ c ∷ ys) ≡ false
no_digits [] c ys h = rw h refl
no_digits (x ∷ xs) c ys h = after_any (is_ascii_digit x) (list_all is_ascii_digit (xs ++ c ∷ ys)) (no_digits xs c ys h)

no_number : (most : ℕ) (text : List ℕ) → list_all is_ascii_digit text ≡ false → number_to most text ≡ None
unfolding number_to
no_number most [] h = absurd cc
no_number most (d ∷ ds) h = rw h refl

-- ---- numbers

pub number_figure : (n : ℕ) → is_short n ≡ true → IsFigure k.Number (decimal n)
unfolding figure_kind
number_figure n h =
    let small = short_of n h in
    let w = writes_decimal n (omega arith) in
    record {
      some = w.some;
      first = subst (λ (t : List ℕ). is_ascii_digit (get_or t 0 0) ≡ true) (append-nil (decimal n)) (decimal_first n [] (omega arith));
      all = decimal_all n (omega arith);
      kind_is = rw (number_text_read n h) refl;
    }

-- ---- addresses

dotted_some : (xs : List ℕ) (c : ℕ) (ys : List ℕ) → 0 < length (xs ++ c ∷ ys)
dotted_some [] c ys = omega arith
dotted_some (x ∷ xs) c ys = omega arith

pub address_all : (addr : ℕ) → addr < 4294967296 → list_all in_figure (address_text addr) ≡ true
address_all addr small =
    let a = addr / 2 ^ 24 in
    let b = addr / 2 ^ 16 % 256 in
    let c = addr / 2 ^ 8 % 256 in
    let d = addr % 256 in
    subst (λ (t : List ℕ). list_all in_figure t ≡ true) (sym (address_parts addr))
    (all_both (decimal a) (46 ∷ (decimal b ++ (46 ∷ (decimal c ++ (46 ∷ decimal d))))) (decimal_all a (omega arith))
    (all_both (decimal b) (46 ∷ (decimal c ++ (46 ∷ decimal d))) (decimal_all b (omega arith))
    (all_both (decimal c) (46 ∷ decimal d) (decimal_all c (omega arith)) (decimal_all d (omega arith)))))

pub address_figure : (addr : ℕ) → addr < 4294967296 → IsFigure k.Address (address_text addr)
unfolding figure_kind number_of
address_figure addr small =
    let a = addr / 2 ^ 24 in
    let more = decimal (addr / 2 ^ 16 % 256) ++ (46 ∷ (decimal (addr / 2 ^ 8 % 256) ++ (46 ∷ decimal (addr % 256)))) in
    let no : number_to 4294967295 (address_text addr) ≡ None = ap (number_to 4294967295) (address_parts addr) ∙ no_number 4294967295 (decimal a ++ 46 ∷ more) (no_digits (decimal a) 46 more refl) in
    record {
      some = subst (λ (t : List ℕ). 0 < length t) (sym (address_parts addr)) (dotted_some (decimal a) 46 more);
      first = subst (λ (t : List ℕ). is_ascii_digit (get_or t 0 0) ≡ true) (sym (address_parts addr)) (decimal_first a (46 ∷ more) (omega arith));
      all = address_all addr small;
      kind_is = rw (no, address_text_read addr small) refl;
    }

-- ---- prefixes

cidr_parts : (a b c d e : List ℕ) → (a ++ (46 ∷ (b ++ (46 ∷ (c ++ (46 ∷ d)))))) ++ (47 ∷ e) ≡ a ++ (46 ∷ (b ++ (46 ∷ (c ++ (46 ∷ (d ++ 47 ∷ e))))))
cidr_parts a b c d e = simp append_assoc

pub no_address : (addr len : ℕ) → addr < 4294967296 → address_of (address_text addr ++ 47 ∷ decimal len) ≡ None
unfolding address_of
no_address addr len small =
    let a = addr / 2 ^ 24 in
    let b = addr / 2 ^ 16 % 256 in
    let c = addr / 2 ^ 8 % 256 in
    let d = addr % 256 in
    let text-d = decimal d ++ 47 ∷ decimal len in
    let text-c = decimal c ++ 46 ∷ text-d in
    let text-b = decimal b ++ 46 ∷ text-c in
    ap (λ (t : List ℕ). address_of (t ++ 47 ∷ decimal len)) (address_parts addr) ∙ ap address_of (cidr_parts (decimal a) (decimal b) (decimal c) (decimal d) (decimal len))
    ∙ then_some (cut 46 (decimal a ++ 46 ∷ text-b)) _ (decimal a, text-b) _ (cut_decimal 46 a text-b (omega arith) refl)
    (then_some (cut 46 text-b) _ (decimal b, text-c) _ (cut_decimal 46 b text-c (omega arith) refl)
    (then_some (cut 46 text-c) _ (decimal c, text-d) _ (cut_decimal 46 c text-d (omega arith) refl)
    (then_some (number_to 255 (decimal a)) _ a _ (part_read 255 a (omega arith) (omega arith))
    (then_some (number_to 255 (decimal b)) _ b _ (part_read 255 b (omega arith) (omega arith))
    (then_some (number_to 255 (decimal c)) _ c _ (part_read 255 c (omega arith) (omega arith))
    (none_then (number_to 255 text-d) _ (no_number 255 text-d (no_digits (decimal d) 47 (decimal len) refl))))))))
  where
    none_then : {A B : Type 0} (r : Option A) (f : A → Option B) → r ≡ None → Rattle.nr_spec_wire.specs.Optional.◌>>=◌ r f ≡ None
    none_then r f e = ap (λ q. Rattle.nr_spec_wire.specs.Optional.◌>>=◌ q f) e

pub prefix_figure : (p : Cidr) → IsCidr p → IsFigure k.Prefix (cidr_text p)
unfolding figure_kind number_of
prefix_figure p h =
    let small : p.addr < 4294967296 = omega (arith, h.addr) in
    let f = address_figure p.addr small in
    let no : number_to 4294967295 (cidr_text p) ≡ None = no_number 4294967295 (cidr_text p) (no_digits (address_text p.addr) 47 (decimal p.len) refl) in
    record {
      some = dotted_some (address_text p.addr) 47 (decimal p.len);
      first = kept (address_text p.addr) (47 ∷ decimal p.len) f.some f.first;
      all = all_both (address_text p.addr) (47 ∷ decimal p.len) f.all (decimal_all p.len (omega (arith, h.len)));
      kind_is = rw (no, no_address p.addr p.len small, prefix_text_read p h) refl;
    }
  where
    kept : (xs ys : List ℕ) → 0 < length xs → is_ascii_digit (get_or xs 0 0) ≡ true → is_ascii_digit (get_or (xs ++ ys) 0 0) ≡ true
    kept [] ys some e = absurd (omega arith)
    kept (x ∷ xs) ys some e = e

-- ---- communities

pub community_figure : (c : ℕ) → is_short c ≡ true → IsFigure k.Community (community_text c)
unfolding figure_kind number_of address_of prefix_of
community_figure c h =
    let small = short_of c h in
    let high = c / 65536 in
    let low = c % 65536 in
    let text : community_text c ≡ decimal high ++ 58 ∷ decimal low = ap (λ (t : List ℕ). decimal high ++ 58 ∷ t) (append-nil (decimal low)) in
    let no : number_to 4294967295 (decimal high ++ 58 ∷ decimal low) ≡ None = no_number 4294967295 (decimal high ++ 58 ∷ decimal low) (no_digits (decimal high) 58 (decimal low) refl) in
    let lacks_46 : Lacks 46 (decimal high ++ 58 ∷ decimal low) = lacks_both 46 (decimal high) (58 ∷ decimal low) (decimal_lacks 46 high (omega arith) refl) (lacks_one 46 58 (decimal low) refl (decimal_lacks 46 low (omega arith) refl)) in
    let lacks_47 : Lacks 47 (decimal high ++ 58 ∷ decimal low) = lacks_both 47 (decimal high) (58 ∷ decimal low) (decimal_lacks 47 high (omega arith) refl) (lacks_one 47 58 (decimal low) refl (decimal_lacks 47 low (omega arith) refl)) in
    let read : community_of (decimal high ++ 58 ∷ decimal low) ≡ Some c = sym (ap (λ (t : List ℕ). community_of t) text) ∙ community_text_read c h in
    subst (IsFigure k.Community) (sym text) (record {
      some = dotted_some (decimal high) 58 (decimal low);
      first = decimal_first high (58 ∷ decimal low) (omega arith);
      all = all_both (decimal high) (58 ∷ decimal low) (decimal_all high (omega arith)) (decimal_all low (omega arith));
      kind_is = rw (no, cut_none 46 (decimal high ++ 58 ∷ decimal low) lacks_46, cut_none 47 (decimal high ++ 58 ∷ decimal low) lacks_47, read) refl;
    })
