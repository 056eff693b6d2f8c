-- Entries to the end of a batch, and batches to the first closed gate: what is read is spelled so, and what is
-- spelled so is read.
use Rattle.std.proofs.Common.{◌≡◌, ℕ, zero, suc, ◌+◌, ◌*◌, ◌^◌, ◌<◌, ◌≤◌, Bool, true, false, cond, eqb, ltb, leb, ◌&&◌, List, [], ◌∷◌, ◌++◌, length, take, drop, Result, Ok, Err, refl, sym, ap, subst, ◌∙◌, append_assoc, arith, ◌⊎◌, inl, inr}
use Rattle.std.specs.List.{flat_map}
use Rattle.std.proofs.lemmas.Bool.{eqb-true, ne_eqb, ltb-true, lt-ltb, le-ltb, leb-true, le-leb}
use Rattle.std.proofs.lemmas.List.{length-append, append-nil, nil_from_length, take_at, drop_at, take-append-drop, length-take, get_or-drop}
use Rattle.std.proofs.lemmas.List.Concat.{flat_map-cons}
use Rattle.byteorder.specs.Endian.{big_bytes}
use Rattle.byteorder.specs.Numbers.{length-bytes_high_first}
use Rattle.nr_spec_wire.specs.Reading.{Spot, number_at, IsBytes}
use Rattle.nr_spec_wire.proofs.Steps.{ok_is, bind_ok}
use Rattle.nr_spec_log.specs.Chain.{LogEntry}
use Rattle.nr_spec_log.specs.Answer.{entry, entry_at, AreEntriesFrom, last_time}
use Rattle.nr_laws_log.specs.Laws.{Takes, IsNext}
use Rattle.nr_laws_log.proofs.Fields.{Takes-then, step, number_step, number_again, wants_step, reads_then, wants_then}
use Rattle.nr_laws_log.proofs.EntryLaws.{entry_takes, entry_again}
use Rattle.nr_spec_store.specs.LogFile.{spelled, batch, open_batch, is_open, entries_to_end, part_of_batch, batch_at, batches_at, AreBatchesFrom}

by_test : {A : Type 0} (test : Bool) (x y z : A) → cond test x y ≡ z → ((test ≡ true) × (x ≡ z)) ⊎ ((test ≡ false) × (y ≡ z))
by_test true x y z e = inl (refl, e)
by_test false x y z e = inr (refl, e)

pub not_then : {A : Type 0} (test : Bool) (x y z : A) → test ≡ false → y ≡ z → cond test x y ≡ z
not_then false x y z e h = h
not_then true x y z e h = absurd cc

pub so_then : {A : Type 0} (test : Bool) (x y z : A) → test ≡ true → x ≡ z → cond test x y ≡ z
so_then true x y z e h = h
so_then false x y z e h = absurd cc

pub both_true : (a b : Bool) → (a && b) ≡ true → (a ≡ true) × (b ≡ true)
both_true true true e = (refl, refl)
both_true true false e = absurd cc
both_true false b e = absurd cc

IsBytes-drop : (n : ℕ) (bytes : List ℕ) → IsBytes bytes → IsBytes (drop n bytes)
IsBytes-drop n bytes h i = rw get_or-drop (h (n + i))

IsBytes-take : (n : ℕ) (bytes : List ℕ) → IsBytes bytes → IsBytes (take n bytes)
IsBytes-take zero bytes h i = omega arith
IsBytes-take (suc n) [] h i = omega arith
IsBytes-take (suc n) (b ∷ bytes) h zero = h 0
IsBytes-take (suc n) (b ∷ bytes) h (suc i) = IsBytes-take n bytes (λ j. h (suc j)) i

-- ---- a gate

pub gate_again : (at gate : ℕ) (rest : List ℕ) → number_at 1 (record { at = at; rest = gate ∷ rest }) ≡ Ok (gate, record { at = at + 1; rest = rest })
gate_again at gate rest =
    let long : ltb (length (gate ∷ rest)) 1 ≡ false = le-ltb _ _ (omega arith) in
    let value : gate * 1 + 0 ≡ gate = omega arith in
    rw (long, value) refl

pub record IsGate (at : ℕ) (rest : List ℕ) (gate : ℕ) (new : Spot) : Type 0 where
  pub parts : rest ≡ gate ∷ new.rest
  pub place : new.at ≡ at + 1

pub gate_takes : (at : ℕ) (rest : List ℕ) (gate : ℕ) (new : Spot) → number_at 1 (record { at = at; rest = rest }) ≡ Ok (gate, new) → IsGate at rest gate new
gate_takes at [] gate new e = absurd cc
gate_takes at (b ∷ rest) gate new e =
    let p : ℕ × Spot = (b, record { at = at + 1; rest = rest }) in
    let q : ℕ × Spot = (gate, new) in
    let same : p ≡ q = ok_is p q (sym (gate_again at b rest) ∙ e) in
    subst (λ (r : ℕ × Spot). IsGate at (b ∷ rest) r.0 r.1) same (record { parts = refl; place = refl })

-- ---- entries to the end of a batch

some_bytes : (e : LogEntry) → 1 ≤ length (entry e)
some_bytes e = omega (arith, length-append (big_bytes 8 e.time) (big_bytes 1 e.kind ++ (big_bytes 2 (length e.content) ++ e.content)), length-bytes_high_first 8 e.time)

pub record IsRest (last : ℕ) (s : Spot) (es : List LogEntry) (new : Spot) : Type 0 where
  pub fit : AreEntriesFrom last es
  pub takes : Takes s (spelled es) new
  pub ended : length new.rest ≡ 0

no_rest : (last : ℕ) (s : Spot) → IsBytes s.rest → length s.rest ≡ 0 → IsRest last s [] s
no_rest last s fits none = record { fit = tt; takes = record { parts = refl; place = omega arith; rest_fits = fits }; ended = none }

pub rest_takes : (last fuel : ℕ) (s : Spot) (es : List LogEntry) (new : Spot) → length s.rest ≤ fuel → IsBytes s.rest → entries_to_end last fuel s ≡ Ok (es, new) → IsRest last s es new
unfolding entries_to_end
rest_takes last zero s es new enough fits e =
    subst (λ (p : List LogEntry × Spot). IsRest last s p.0 p.1) (ok_is ([], s) (es, new) e) (no_rest last s fits (omega arith))
rest_takes last (suc fuel) s es new enough fits e =
    elim (by_test (eqb (length s.rest) 0) _ _ _ e) [
      | inl none ↦ subst (λ (p : List LogEntry × Spot). IsRest last s p.0 p.1) (ok_is ([], s) (es, new) none.1) (no_rest last s fits (eqb-true _ _ none.0))
      | inr more ↦
          let a = step (entry_at false last) (IsNext false last) entry (entry_takes false last) s _ (es, new) fits more.1 in
          let b = bind_ok (entries_to_end a.value.time fuel a.next) _ (es, new) a.goes_on in
          let shorter : length a.next.rest ≤ fuel = omega (arith, ap length a.takes.parts, length-append (entry a.value) a.next.rest, some_bytes a.value) in
          let others = rest_takes a.value.time fuel a.next b.0.0 b.0.1 shorter a.takes.rest_fits b.1 in
          let both = Takes-then s (entry a.value) a.next (spelled b.0.0) b.0.1 a.takes others.takes in
          let made : List LogEntry = a.value ∷ b.0.0 in
          let whole : Takes s (spelled made) b.0.1 = subst (λ (t : List ℕ). Takes s t b.0.1) (sym (flat_map-cons entry a.value b.0.0)) both in
          subst (λ (p : List LogEntry × Spot). IsRest last s p.0 p.1) (ok_is (made, b.0.1) (es, new) b.2)
          (record { fit = (a.value_fits.is_one, a.value_fits.not_before, others.fit); takes = whole; ended = others.ended })
    ]

pub rest_again : (last fuel : ℕ) (es : List LogEntry) (at : ℕ) → length (spelled es) ≤ fuel → AreEntriesFrom last es
    → entries_to_end last fuel (record { at = at; rest = spelled es }) ≡ Ok (es, record { at = at + length (spelled es); rest = [] })
unfolding entries_to_end
rest_again last zero [] at enough fits = ap (λ (k : ℕ). Ok ([], record { at = k; rest = [] })) (omega arith)
rest_again last (suc fuel) [] at enough fits = ap (λ (k : ℕ). Ok ([], record { at = k; rest = [] })) (omega arith)
rest_again last zero (e ∷ es) at enough fits = absurd (omega (arith, ap length (flat_map-cons entry e es), length-append (entry e) (spelled es), some_bytes e))
rest_again last (suc fuel) (e ∷ es) at enough fits =
    let others = spelled es in
    let split = ap length (flat_map-cons entry e es) in
    let long : 1 ≤ length (entry e ++ others) = omega (arith, length-append (entry e) others, some_bytes e) in
    let test : eqb (length (entry e ++ others)) 0 ≡ false = ne_eqb _ _ (λ h. omega (arith, h)) in
    let is : IsNext false last e = record { is_one = fits.0; not_before = fits.1; kind_is = λ h. absurd cc; size_is = λ h. absurd cc } in
    let first = entry_again false last e at others is in
    let second = rest_again e.time fuel es (at + length (entry e)) (omega (arith, split, length-append (entry e) others, some_bytes e)) fits.2 in
    let places : at + length (entry e) + length others ≡ at + length (spelled (e ∷ es)) = omega (arith, split, length-append (entry e) others) in
    let whole : entries_to_end last (suc fuel) (record { at = at; rest = entry e ++ others }) ≡ Ok (e ∷ es, record { at = at + length (entry e) + length others; rest = [] }) =
    not_then (eqb (length (entry e ++ others)) 0) _ _ _ test (reads_then _ _ _ _ first (reads_then _ _ _ _ second refl)) in
    ap (λ (t : List ℕ). entries_to_end last (suc fuel) (record { at = at; rest = t })) (flat_map-cons entry e es) ∙ whole ∙ ap (λ (k : ℕ). Ok (e ∷ es, record { at = k; rest = [] })) places

-- ---- a batch

abbrev short : {A : Type 0} → ℕ → Result A ℕ
short place = Err place

field_ok : {A : Type 0} (b : Bool) (place : ℕ) (x y : A) → cond b (short place) (Ok x) ≡ Ok y → (b ≡ false) × (x ≡ y)
field_ok true place x y e = absurd cc
field_ok false place x y e = (refl, ok_is x y e)

pub record IsPart (s : Spot) (part next : Spot) : Type 0 where
  pub size_fits : length part.rest < 2 ^ 32
  pub some : 1 ≤ length part.rest
  pub part_fits : IsBytes part.rest
  pub takes : Takes s (big_bytes 4 (length part.rest) ++ part.rest) next
  pub gate : 1 ≤ length next.rest

pub part_takes : (s part next : Spot) → IsBytes s.rest → part_of_batch s ≡ Ok (part, next) → IsPart s part next
unfolding part_of_batch
part_takes s part next fits e =
    let a = number_step 4 s _ (part, next) fits e in
    let is = wants_step (leb 1 a.value && ltb a.value (length a.next.rest)) s.at (a.value, a.next) _ (part, next) a.goes_on in
    let sizes = both_true _ _ is.0 in
    let least : 1 ≤ a.value = leb-true _ _ sizes.0 in
    let most : a.value < length a.next.rest = ltb-true _ _ sizes.1 in
    let inner : Spot = record { at = a.next.at; rest = take a.value a.next.rest } in
    let beyond : Spot = record { at = a.next.at + a.value; rest = drop a.value a.next.rest } in
    let p : Spot × Spot = (inner, beyond) in
    let q : Spot × Spot = (part, next) in
    let g = field_ok (ltb (length a.next.rest) a.value) a.next.at p q is.1 in
    let len : length (take a.value a.next.rest) ≡ a.value = omega (arith, length-take a.value a.next.rest, most) in
    let split = take-append-drop a.value a.next.rest in
    let whole : length (take a.value a.next.rest) + length beyond.rest ≡ length a.next.rest = sym (length-append (take a.value a.next.rest) beyond.rest) ∙ ap length split in
    let inside : Takes a.next (take a.value a.next.rest) beyond = record { parts = sym split; place = ap (λ (k : ℕ). a.next.at + k) (sym len); rest_fits = IsBytes-drop a.value a.next.rest a.takes.rest_fits } in
    let both : Takes s (big_bytes 4 a.value ++ inner.rest) beyond = Takes-then s (big_bytes 4 a.value) a.next inner.rest beyond a.takes inside in
    let is_part : IsPart s inner beyond = record {
      size_fits = omega (arith, len, a.value_fits);
      some = omega (arith, len, least);
      part_fits = IsBytes-take a.value a.next.rest a.takes.rest_fits;
      takes = subst (λ (k : ℕ). Takes s (big_bytes 4 k ++ inner.rest) beyond) (sym len) both;
      gate = omega (arith, len, whole, most);
    } in
    subst (λ (r : Spot × Spot). IsPart s r.0 r.1) g.1 is_part

pub part_again : (text : List ℕ) (at : ℕ) (rest : List ℕ) → 1 ≤ length text → length text < 2 ^ 32 → 1 ≤ length rest
    → part_of_batch (record { at = at; rest = big_bytes 4 (length text) ++ (text ++ rest) }) ≡ Ok (record { at = at + 4; rest = text }, record { at = at + 4 + length text; rest = rest })
unfolding part_of_batch
part_again text at rest some fits gate =
    let size = length text in
    let four : length (big_bytes 4 size) ≡ 4 = length-bytes_high_first 4 size in
    let number = number_again 4 size at (text ++ rest) (omega (arith, fits)) in
    let long : length (text ++ rest) ≡ size + length rest = length-append text rest in
    let least : leb 1 size ≡ true = le-leb _ _ some in
    let most : ltb size (length (text ++ rest)) ≡ true = lt-ltb _ _ (omega (arith, long, gate)) in
    let test : (leb 1 size && ltb size (length (text ++ rest))) ≡ true = rw (least, most) refl in
    let enough : ltb (length (text ++ rest)) size ≡ false = le-ltb _ _ (omega (arith, long)) in
    let whole : part_of_batch (record { at = at; rest = big_bytes 4 size ++ (text ++ rest) }) ≡ Ok (record { at = at + length (big_bytes 4 size); rest = text }, record { at = at + length (big_bytes 4 size) + size; rest = rest }) =
    reads_then _ _ _ _ number (wants_then _ _ _ _ _ test (not_then _ _ _ _ enough (rw (take_at text rest size refl, drop_at text rest size refl) refl))) in
    whole ∙ ap (λ (k : ℕ). Ok (record { at = at + k; rest = text }, record { at = at + k + size; rest = rest })) four

some_rest : (es : List LogEntry) → 1 ≤ length (spelled es) → 1 ≤ length es
some_rest [] h = h
some_rest (e ∷ es) h = omega arith

pub record IsBatch (last : ℕ) (s : Spot) (es : List LogEntry) (next : Spot) : Type 0 where
  pub fit : AreEntriesFrom last es
  pub some : 1 ≤ length es
  pub size_fits : length (spelled es) < 2 ^ 32
  pub takes : Takes s (batch es) next
  pub gate : 1 ≤ length next.rest

pub batch_takes : (last : ℕ) (s : Spot) (es : List LogEntry) (next : Spot) → IsBytes s.rest → batch_at last s ≡ Ok (es, next) → IsBatch last s es next
unfolding batch_at
batch_takes last s es next fits e =
    let a = bind_ok (part_of_batch s) _ (es, next) e in
    let part = part_takes s a.0.0 a.0.1 fits a.1 in
    let b = bind_ok (entries_to_end last (length a.0.0.rest) a.0.0) _ (es, next) a.2 in
    let inner = rest_takes last (length a.0.0.rest) a.0.0 b.0.0 b.0.1 (omega arith) part.part_fits b.1 in
    let nothing : b.0.1.rest ≡ [] = nil_from_length b.0.1.rest inner.ended in
    let text : a.0.0.rest ≡ spelled b.0.0 = inner.takes.parts ∙ ap (λ (t : List ℕ). spelled b.0.0 ++ t) nothing ∙ append-nil (spelled b.0.0) in
    let is : IsBatch last s b.0.0 a.0.1 = record {
      fit = inner.fit;
      some = some_rest b.0.0 (subst (λ (t : List ℕ). 1 ≤ length t) text part.some);
      size_fits = subst (λ (t : List ℕ). length t < 2 ^ 32) text part.size_fits;
      takes = subst (λ (t : List ℕ). Takes s (big_bytes 4 (length t) ++ t) a.0.1) text part.takes;
      gate = part.gate;
    } in
    subst (λ (p : List LogEntry × Spot). IsBatch last s p.0 p.1) (ok_is (b.0.0, a.0.1) (es, next) b.2) is

rest_some : (es : List LogEntry) → 1 ≤ length es → 1 ≤ length (spelled es)
rest_some [] h = h
rest_some (e ∷ es) h = omega (arith, ap length (flat_map-cons entry e es), length-append (entry e) (spelled es), some_bytes e)

pub batch_again : (last : ℕ) (es : List LogEntry) (at : ℕ) (rest : List ℕ) → AreEntriesFrom last es → 1 ≤ length es → length (spelled es) < 2 ^ 32 → 1 ≤ length rest
    → batch_at last (record { at = at; rest = batch es ++ rest }) ≡ Ok (es, record { at = at + length (batch es); rest = rest })
unfolding batch_at
batch_again last es at rest fits some size gate =
    let text = spelled es in
    let spelled : batch es ++ rest ≡ big_bytes 4 (length text) ++ (text ++ rest) = append_assoc (big_bytes 4 (length text)) text rest in
    let part = part_again text at rest (rest_some es some) size gate in
    let inner = rest_again last (length text) es (at + 4) (omega arith) fits in
    let places : at + 4 + length text ≡ at + length (batch es) = omega (arith, length-append (big_bytes 4 (length text)) text, length-bytes_high_first 4 (length text)) in
    let whole : batch_at last (record { at = at; rest = big_bytes 4 (length text) ++ (text ++ rest) }) ≡ Ok (es, record { at = at + 4 + length text; rest = rest }) =
    reads_then _ _ _ _ part (reads_then _ _ _ _ inner refl) in
    ap (λ (t : List ℕ). batch_at last (record { at = at; rest = t })) spelled ∙ whole ∙ ap (λ (k : ℕ). Ok (es, record { at = k; rest = rest })) places

-- ---- batches to the first closed gate

pub record AreBatches (last : ℕ) (s : Spot) (batches : List (List LogEntry)) (new : Spot) : Type 0 where
  pub gate : ℕ
  pub closed : is_open gate ≡ false
  pub fit : AreBatchesFrom last batches
  pub takes : Takes s (flat_map open_batch batches ++ gate ∷ []) new

tail_fits : (b : ℕ) (bytes : List ℕ) → IsBytes (b ∷ bytes) → IsBytes bytes
tail_fits b bytes h i = h (suc i)

pub batches_take : (last fuel : ℕ) (s : Spot) (batches : List (List LogEntry)) (new : Spot) → IsBytes s.rest → batches_at last fuel s ≡ Ok (batches, new) → AreBatches last s batches new
unfolding batches_at
batches_take last zero s batches new fits e = absurd cc
batches_take last (suc fuel) s batches new fits e =
    let a = bind_ok (number_at 1 s) _ (batches, new) e in
    let gate = gate_takes s.at s.rest a.0.0 a.0.1 a.1 in
    let rest_fits : IsBytes a.0.1.rest = tail_fits a.0.0 a.0.1.rest (subst IsBytes gate.parts fits) in
    let gate_is : Takes s (a.0.0 ∷ []) a.0.1 = record { parts = gate.parts; place = gate.place; rest_fits = rest_fits } in
    elim (by_test (is_open a.0.0) _ _ _ a.2) [
      | inr none ↦ subst (λ (p : List (List LogEntry) × Spot). AreBatches last s p.0 p.1) (ok_is ([], a.0.1) (batches, new) none.1) (record { gate = a.0.0; closed = none.0; fit = tt; takes = gate_is })
      | inl more ↦
          let one : a.0.0 ≡ 1 = eqb-true _ _ more.0 in
          let b = bind_ok (batch_at last a.0.1) _ (batches, new) more.1 in
          let first = batch_takes last a.0.1 b.0.0 b.0.1 rest_fits b.1 in
          let c = bind_ok (batches_at (last_time last b.0.0) fuel b.0.1) _ (batches, new) b.2 in
          let others = batches_take (last_time last b.0.0) fuel b.0.1 c.0.0 c.0.1 first.takes.rest_fits c.1 in
          let open_is : Takes s (1 ∷ []) a.0.1 = subst (λ (g : ℕ). Takes s (g ∷ []) a.0.1) one gate_is in
          let opened = Takes-then s (1 ∷ []) a.0.1 (batch b.0.0) b.0.1 open_is first.takes in
          let both = Takes-then s (open_batch b.0.0) b.0.1 (flat_map open_batch c.0.0 ++ others.gate ∷ []) c.0.1 opened others.takes in
          let made : List (List LogEntry) = b.0.0 ∷ c.0.0 in
          let text : open_batch b.0.0 ++ (flat_map open_batch c.0.0 ++ others.gate ∷ []) ≡ flat_map open_batch made ++ others.gate ∷ [] =
          sym (append_assoc (open_batch b.0.0) (flat_map open_batch c.0.0) (others.gate ∷ [])) ∙ ap (λ (t : List ℕ). t ++ others.gate ∷ []) (sym (flat_map-cons open_batch b.0.0 c.0.0)) in
          let is : AreBatches last s made c.0.1 = record {
            gate = others.gate;
            closed = others.closed;
            fit = (first.fit, first.some, first.size_fits, others.fit);
            takes = subst (λ (t : List ℕ). Takes s t c.0.1) text both;
          } in
          subst (λ (p : List (List LogEntry) × Spot). AreBatches last s p.0 p.1) (ok_is (made, c.0.1) (batches, new) c.2) is
    ]

some_left : (x : List ℕ) (y : ℕ) (z : List ℕ) → 1 ≤ length (x ++ (y ∷ z))
some_left x y z = omega (arith, length-append x (y ∷ z))

pub batches_again : (last fuel : ℕ) (batches : List (List LogEntry)) (at gate : ℕ) (rest : List ℕ) → length batches < fuel → AreBatchesFrom last batches → is_open gate ≡ false
    → batches_at last fuel (record { at = at; rest = flat_map open_batch batches ++ gate ∷ rest }) ≡ Ok (batches, record { at = at + length (flat_map open_batch batches) + 1; rest = rest })
unfolding batches_at
batches_again last zero batches at gate rest enough fits closed = absurd (omega (arith, enough))
batches_again last (suc fuel) [] at gate rest enough fits closed =
    reads_then _ _ _ _ (gate_again at gate rest) (not_then _ _ _ _ closed (ap (λ (k : ℕ). Ok ([], record { at = k; rest = rest })) (omega arith)))
batches_again last (suc fuel) (es ∷ batches) at gate rest enough fits closed =
    let others = flat_map open_batch batches ++ gate ∷ rest in
    let text : flat_map open_batch (es ∷ batches) ++ gate ∷ rest ≡ 1 ∷ (batch es ++ others) =
    ap (λ (t : List ℕ). t ++ gate ∷ rest) (flat_map-cons open_batch es batches) ∙ append_assoc (open_batch es) (flat_map open_batch batches) (gate ∷ rest) in
    let opened = gate_again at 1 (batch es ++ others) in
    let first = batch_again last es (at + 1) others fits.0 fits.1 fits.2 (some_left (flat_map open_batch batches) gate rest) in
    let second = batches_again (last_time last es) fuel batches (at + 1 + length (batch es)) gate rest (omega (arith, enough)) fits.3 closed in
    let places : at + 1 + length (batch es) + length (flat_map open_batch batches) + 1 ≡ at + length (flat_map open_batch (es ∷ batches)) + 1 =
    omega (arith, ap length (flat_map-cons open_batch es batches), length-append (open_batch es) (flat_map open_batch batches)) in
    let whole : batches_at last (suc fuel) (record { at = at; rest = 1 ∷ (batch es ++ others) }) ≡ Ok (es ∷ batches, record { at = at + 1 + length (batch es) + length (flat_map open_batch batches) + 1; rest = rest }) =
    reads_then _ _ _ _ opened (reads_then _ _ _ _ first (reads_then _ _ _ _ second refl)) in
    ap (λ (t : List ℕ). batches_at last (suc fuel) (record { at = at; rest = t })) text ∙ whole ∙ ap (λ (k : ℕ). Ok (es ∷ batches, record { at = k; rest = rest })) places
