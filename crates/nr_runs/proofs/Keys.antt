-- What the map has at a key.
use Rattle.std.proofs.Common.{◌≡◌, ℕ, Bool, List, [], ◌∷◌, Option, Some, refl, ap, sym, ◌∙◌, arith}
use Rattle.std.specs.Prelude.{if◌then◌else◌}
use Rattle.std.specs.Map.{lookup}
use Rattle.std.specs.BTreeMap as tree
use Rattle.std.specs.BTreeMap.{BTreeMap, is_at}
use Rattle.std.proofs.lemmas.Bool.Decides.{nat_tests}
use Rattle.nr_spec_runs.specs.Runs as spec
use Rattle.nr_runs.specs.declared.runs.Key.{Key}
use Rattle.nr_runs.specs.Views.{begun, code_cmp, is_key, key_view}

is_at_key : (a b : Key) → is_at (code_cmp a) b ≡ spec.same_key (key_view a) (key_view b)
is_at_key a b = grind (arith, nat_tests)

same_lookup : {K X : Type 0} (f g : K → Bool) → ((k : K) → f k ≡ g k) → (es : List (K × X)) → lookup f es ≡ lookup g es
same_lookup f g h [] = refl
same_lookup f g h (e ∷ es) = rw (h e.0) (ap (λ o. if g e.0 then Some e.1 else o) (same_lookup f g h es))

pub begun_is : (m : BTreeMap Key ℕ) (key : Key) → tree.get_by (code_cmp key) m ≡ begun m.entries (key_view key)
begun_is m key = same_lookup (is_at (code_cmp key)) (is_key (key_view key)) (is_at_key key) m.entries

key_at_is : (a b : Key) → is_at (code_cmp a) b ≡ spec.same_key (key_view b) (key_view a)
key_at_is a b = grind (arith, nat_tests)

-- a change at one key
pub changed : (m n : BTreeMap Key ℕ) (key : Key) (w : Option ℕ) → ((q : Key) → tree.get code_cmp n q ≡ (if is_at (code_cmp key) q then w else tree.get code_cmp m q))
    → (q : spec.Key) → begun n.entries q ≡ (if spec.same_key q (key_view key) then w else begun m.entries q)
changed m n key w h q =
    let k : Key = record { file = q.file; promise = q.promise; prefix = q.prefix } in
    sym (begun_is n k) ∙ h k ∙ ap (λ b. if b then w else tree.get code_cmp m k) (key_at_is key k)
    ∙ ap (λ o. if spec.same_key q (key_view key) then w else o) (begun_is m k)
