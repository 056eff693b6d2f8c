-- What `strip_prefix` gives of a text.
use Rattle.std.proofs.Common.{◌≡◌, refl, ℕ, true, false, ap, ◌∙◌, List, drop, Bor, nat_eq}
use Rattle.std.specs.Prelude.{Option, None, Some}
use Rattle.std.specs.Option.{MatchOption, option_copied}
use Rattle.std.specs.List.{starts_with}
use Rattle.std.specs.Str.Pattern.{FindsTextPrefix, StripsPrefix}
use Rattle.std.proofs.lemmas.Slice.Eq.{starts_is}
use Rattle.std.proofs.lemmas.Bool.{cases_Bool}
use Rattle.std.proofs.lemmas.Bool.Decides.{Decides-eqb}
use Rattle.std.proofs.Math.Logic.{⊎_elim}
use Rattle.nr_advice.specs.Words.{behind_text}

pub stripped : (text word : List ℕ) (r : Option (Bor (List ℕ))) → MatchOption r (FindsTextPrefix text word None) (λ x. StripsPrefix (FindsTextPrefix text) word x.now) → option_copied r ≡ behind_text text word
unfolding behind_text
stripped text word (Some x) h =
    let begins : starts_with nat_eq word text ≡ true = (starts_is Decides-eqb word text _ refl).1 _ h.1.1 in
    rw begins (ap Some (h.2 ∙ ap (λ n. drop n word) h.1.0))
stripped text word None h =
    let not_so : starts_with nat_eq word text ≡ false =
    ⊎_elim (λ e. absurd (h _ ((starts_is Decides-eqb word text _ refl).0 e))) (λ e. e) (cases_Bool (starts_with nat_eq word text)) in
    rw not_so refl
