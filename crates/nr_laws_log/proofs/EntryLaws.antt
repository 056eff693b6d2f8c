-- Entries.
use Rattle.std.proofs.Common.{◌≡◌, ℕ, zero, suc, ◌+◌, ◌^◌, ◌<◌, Bool, true, false, leb, List, [], ◌∷◌, ◌++◌, length, Ok, refl, sym, ap, subst, ◌∙◌, append_assoc, arith}
use Rattle.std.specs.List.{flat_map}
use Rattle.std.proofs.lemmas.Bool.{eqb-true, eq-eqb, leb-true, le-leb}
use Rattle.std.proofs.lemmas.List.{length-append}
use Rattle.std.proofs.lemmas.List.Concat.{flat_map-cons}
use Rattle.byteorder.specs.Endian.{big_bytes}
use Rattle.nr_spec_wire.specs.Reading.{Spot}
use Rattle.nr_spec_wire.proofs.Steps.{ok_is}
use Rattle.nr_spec_log.specs.Chain.{LogEntry}
use Rattle.nr_spec_log.specs.Authenticator.{digest_size}
use Rattle.nr_spec_log.specs.Answer.{IsEntry, AreEntriesFrom, IsCheckpointFirst, entry, entry_at, entries_at, is_wanted, checkpoint_kind}
use Rattle.nr_laws_log.specs.Laws.{Takes, ReadsSpelled, SpelledReads, IsNext, AreNext}
use Rattle.nr_laws_log.proofs.Fields.{Takes-then, step, number_step, number_again, bytes_step, bytes_again, wants_step, reads_then, wants_then}

asked : (checkpoint : Bool) (n wanted : ℕ) → is_wanted checkpoint n wanted ≡ true → checkpoint ≡ true → n ≡ wanted
asked true n wanted e h = eqb-true _ _ e
asked false n wanted e h = absurd cc

asks : (checkpoint : Bool) (n wanted : ℕ) → (checkpoint ≡ true → n ≡ wanted) → is_wanted checkpoint n wanted ≡ true
asks true n wanted h = eq-eqb _ _ (h refl)
asks false n wanted h = refl

pub entry_takes : (checkpoint : Bool) (last : ℕ) → ReadsSpelled (entry_at checkpoint last) (IsNext checkpoint last) entry
unfolding entry_at
entry_takes checkpoint last s v new fits e =
    let a = number_step 8 s _ (v, new) fits e in
    let a_is = wants_step (leb last a.value) s.at (a.value, a.next) _ (v, new) a.goes_on in
    let b = number_step 1 a.next _ (v, new) a.takes.rest_fits a_is.1 in
    let b_is = wants_step (is_wanted checkpoint b.value checkpoint_kind) a.next.at (b.value, b.next) _ (v, new) b.goes_on in
    let c = number_step 2 b.next _ (v, new) b.takes.rest_fits b_is.1 in
    let c_is = wants_step (is_wanted checkpoint c.value digest_size) b.next.at (c.value, c.next) _ (v, new) c.goes_on in
    let d = bytes_step c.value c.next _ (v, new) c.takes.rest_fits c_is.1 in
    let made : LogEntry = record { time = a.value; kind = b.value; content = d.value } in
    let len : length d.value ≡ c.value = d.value_fits in
    let small : length d.value < 2 ^ 16 = omega (arith, c.value_fits) in
    let made_fits : IsNext checkpoint last made = record {
      is_one = record { time = a.value_fits; kind = b.value_fits; content = small };
      not_before = leb-true _ _ a_is.0;
      kind_is = asked checkpoint b.value checkpoint_kind b_is.0;
      size_is = λ h. len ∙ asked checkpoint c.value digest_size c_is.0 h;
    } in
    let cd = Takes-then b.next (big_bytes 2 c.value) c.next d.value d.next c.takes d.takes in
    let bd = Takes-then a.next (big_bytes 1 b.value) b.next (big_bytes 2 c.value ++ d.value) d.next b.takes cd in
    let ad = Takes-then s (big_bytes 8 a.value) a.next (big_bytes 1 b.value ++ (big_bytes 2 c.value ++ d.value)) d.next a.takes bd in
    let whole : Takes s (entry made) d.next = subst (λ (k : ℕ). Takes s (big_bytes 8 a.value ++ (big_bytes 1 b.value ++ (big_bytes 2 k ++ d.value))) d.next) (sym len) ad in
    subst (λ (p : LogEntry × Spot). IsNext checkpoint last p.0 × Takes s (entry p.0) p.1) (ok_is (made, d.next) (v, new) d.goes_on) (made_fits, whole)

pub entry_again : (checkpoint : Bool) (last : ℕ) → SpelledReads (entry_at checkpoint last) (IsNext checkpoint last) entry
unfolding entry_at
entry_again checkpoint last v at rest fits =
    let size = length v.content in
    let r2 = big_bytes 2 size ++ (v.content ++ rest) in
    let r1 = big_bytes 1 v.kind ++ r2 in
    let spelled : entry v ++ rest ≡ big_bytes 8 v.time ++ r1 = simp append_assoc in
    let a0 = at + length (big_bytes 8 v.time) in
    let a1 = a0 + length (big_bytes 1 v.kind) in
    let a2 = a1 + length (big_bytes 2 size) in
    let a3 = a2 + length v.content in
    let places : a3 ≡ at + length (entry v) = simp length-append (omega arith) in
    let time = number_again 8 v.time at r1 fits.is_one.time in
    let time_is : leb last v.time ≡ true = le-leb _ _ fits.not_before in
    let kind = number_again 1 v.kind a0 r2 fits.is_one.kind in
    let kind_is = asks checkpoint v.kind checkpoint_kind fits.kind_is in
    let sized = number_again 2 size a1 (v.content ++ rest) fits.is_one.content in
    let size_is = asks checkpoint size digest_size fits.size_is in
    let content = bytes_again size v.content a2 rest refl in
    let end : Spot = record { at = a3; rest = rest } in
    let whole : entry_at checkpoint last (record { at = at; rest = big_bytes 8 v.time ++ r1 }) ≡ Ok (v, end) =
    reads_then _ _ _ _ time (wants_then (leb last v.time) at _ _ _ time_is
    (reads_then _ _ _ _ kind (wants_then (is_wanted checkpoint v.kind checkpoint_kind) a0 _ _ _ kind_is
    (reads_then _ _ _ _ sized (wants_then (is_wanted checkpoint size digest_size) a1 _ _ _ size_is
    (reads_then _ _ _ _ content refl)))))) in
    ap (λ (t : List ℕ). entry_at checkpoint last (record { at = at; rest = t })) spelled ∙ whole ∙ ap (λ (k : ℕ). Ok (v, record { at = k; rest = rest })) places

-- ---- so many of them

none_asked : {P : Type 0} → false ≡ true → P
none_asked h = absurd cc

pub entries_take : (checkpoint : Bool) (last n : ℕ) → ReadsSpelled (entries_at checkpoint last n) (AreNext checkpoint last n) (flat_map entry)
unfolding entries_at
entries_take checkpoint last zero s v new fits e =
    let nothing : Takes s [] s = record { parts = refl; place = omega arith; rest_fits = fits } in
    subst (λ (p : List LogEntry × Spot). AreNext checkpoint last 0 p.0 × Takes s (flat_map entry p.0) p.1) (ok_is ([], s) (v, new) e) (record { entries = tt; as_many = refl; first_is = λ h. tt }, nothing)
entries_take checkpoint last (suc n) s v new fits e =
    let a = step (entry_at checkpoint last) (IsNext checkpoint last) entry (entry_takes checkpoint last) s _ (v, new) fits e in
    let b = step (entries_at false a.value.time n) (AreNext false a.value.time n) (flat_map entry) (entries_take false a.value.time n) a.next _ (v, new) a.takes.rest_fits a.goes_on in
    let both = Takes-then s (entry a.value) a.next (flat_map entry b.value) b.next a.takes b.takes in
    let made : List LogEntry = a.value ∷ b.value in
    let made_fits : AreNext checkpoint last (suc n) made = record {
      entries = (a.value_fits.is_one, a.value_fits.not_before, b.value_fits.entries);
      as_many = ap suc b.value_fits.as_many;
      first_is = λ h. (a.value_fits.kind_is h, a.value_fits.size_is h);
    } in
    let whole : Takes s (flat_map entry made) b.next = subst (λ (t : List ℕ). Takes s t b.next) (sym (flat_map-cons entry a.value b.value)) both in
    subst (λ (p : List LogEntry × Spot). AreNext checkpoint last (suc n) p.0 × Takes s (flat_map entry p.0) p.1) (ok_is (made, b.next) (v, new) b.goes_on) (made_fits, whole)

entries_again-of : (checkpoint : Bool) (last : ℕ) (es : List LogEntry) (at : ℕ) (rest : List ℕ) → AreEntriesFrom last es → (checkpoint ≡ true → IsCheckpointFirst es)
    → entries_at checkpoint last (length es) (record { at = at; rest = flat_map entry es ++ rest }) ≡ Ok (es, record { at = at + length (flat_map entry es); rest = rest })
unfolding entries_at
entries_again-of checkpoint last [] at rest fits is_first = ap (λ (k : ℕ). Ok ([], record { at = k; rest = rest })) (omega arith)
entries_again-of checkpoint last (e ∷ es) at rest fits is_first =
    let others = flat_map entry es in
    let spelled : flat_map entry (e ∷ es) ++ rest ≡ entry e ++ (others ++ rest) = ap (λ (t : List ℕ). t ++ rest) (flat_map-cons entry e es) ∙ append_assoc (entry e) others rest in
    let places : at + length (entry e) + length others ≡ at + length (flat_map entry (e ∷ es)) =
    let split = ap length (flat_map-cons entry e es) in omega (arith, split, length-append (entry e) others) in
    let e_fits : IsNext checkpoint last e = record { is_one = fits.0; not_before = fits.1; kind_is = λ h. (is_first h).0; size_is = λ h. (is_first h).1 } in
    let first = entry_again checkpoint last e at (others ++ rest) e_fits in
    let second = entries_again-of false e.time es (at + length (entry e)) rest fits.2 none_asked in
    let end : Spot = record { at = at + length (entry e) + length others; rest = rest } in
    let whole : entries_at checkpoint last (suc (length es)) (record { at = at; rest = entry e ++ (others ++ rest) }) ≡ Ok (e ∷ es, end) =
    reads_then _ _ _ _ first (reads_then _ _ _ _ second refl) in
    ap (λ (t : List ℕ). entries_at checkpoint last (suc (length es)) (record { at = at; rest = t })) spelled ∙ whole ∙ ap (λ (k : ℕ). Ok (e ∷ es, record { at = k; rest = rest })) places

pub entries_again : (checkpoint : Bool) (last n : ℕ) → SpelledReads (entries_at checkpoint last n) (AreNext checkpoint last n) (flat_map entry)
entries_again checkpoint last n es at rest fits =
    subst (λ (k : ℕ). entries_at checkpoint last k (record { at = at; rest = flat_map entry es ++ rest }) ≡ Ok (es, record { at = at + length (flat_map entry es); rest = rest })) fits.as_many
    (entries_again-of checkpoint last es at rest fits.entries fits.first_is)

-- any entry that fits may stand first
pub one_again : SpelledReads (entry_at false 0) IsEntry entry
one_again e at rest fits = entry_again false 0 e at rest (record { is_one = fits; not_before = omega arith; kind_is = none_asked; size_is = none_asked })
