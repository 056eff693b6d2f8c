-- Crashes of a birth.
use Rattle.std.proofs.Common.{◌≡◌, ◌≢◌, ℕ, ◌+◌, ◌<◌, ◌≤◌, ◌^◌, Bool, true, false, eqb, List, [], ◌∷◌, ◌++◌, length, take, drop, get_or, Option, None, Some, Result, Ok, Err, refl, sym, ap, subst, ◌∙◌, inl, inr, ◌⊎◌, ⊎_elim, append_assoc, arith}
use Rattle.std.specs.Prelude.{option_map, unwrap_or, nat_lt}
use Rattle.std.proofs.lemmas.Bool.{ltb-true, ltb-false}
use Rattle.std.proofs.lemmas.Bool.Decides.{eqb_tells}
use Rattle.std.proofs.lemmas.List.{length-append, length-drop, take_at, drop_more}
use Rattle.std.proofs.Math.Seq.{drop-append-add}
use Rattle.nr_spec_plans.specs.Disk.{Disk, Told, Moment, bytes_of, size_of, written}
use Rattle.nr_spec_plans.specs.Plans.{Done, Acts, Halt, Refused, Runs, followed_by, Ask, ◌>>=◌}
use Rattle.nr_spec_plans.specs.Laws.{Kept}
use Rattle.nr_spec_plans.proofs.PlanLaws.{taken_apart, step_keeps}
use Rattle.nr_spec_crash.specs.Images.{IsImage}
use Rattle.nr_spec_crash.specs.Crashes.{MayLeave, Sometime, Crashes, Rests, IsWithin, IsSound}
use Rattle.nr_spec_crash.specs.Firm.{firm}
use Rattle.nr_laws_crash.proofs.CrashLaws.{crash_sequence, crash_after, done_crash, run_keeps, sometime_kept, was_told, field_kept}
use Rattle.nr_laws_crash.proofs.ImageLaws.{place_of_take, written_torn}
use Rattle.nr_laws_crash.proofs.SoundLaws.{read_is_image}
use Rattle.nr_laws_crash.proofs.FirmLaws.{some_told, written_size, firm_rests, rests_image, rests_kept, within_kept, within_left, firm_keeps_within}
use Rattle.nr_spec_log.specs.Authenticator.{digest_size}
use Rattle.nr_spec_store.specs.LogFile.{LogFile, log_of, born, most_log}
use Rattle.nr_spec_store.specs.StorePlans.{Refusal, Work, within_limit, loading, gate_plan, close_plan, birth_plan}
use Rattle.nr_spec_store.specs.StoreCrashes.{AwaitsBirth, IsUnbornOrBorn, Keeps}
use Rattle.nr_laws_store.proofs.LogLaws.{IsUnborn, none_unborn, unborn_none}
use Rattle.nr_laws_store.proofs.Grown.{born_length, born_reads, born_in, opened_after}
use Rattle.nr_laws_store.proofs.GateLaws.{AreImages, Never, firm_never, gate_crash, gate_never, gate_ok, limit_crash, limit_ok, limit_refuses, limit_stops, never_followed, done_value, opened_size}
use Rattle.nr_laws_store.proofs.Loads.{loads_as, read_as, small_as}
use Rattle.nr_laws_store.proofs.Lengths.{birth_each, crash_length, rests_within, run_small, within_more, IsSmall}

-- A file begins with an open birth gate and these bytes after it.
abbrev pub IsBorn : List ℕ → List ℕ → Type 0
IsBorn body file = (rest : List ℕ) × (file ≡ 1 ∷ (body ++ rest))

-- ---- the writes of a birth

starts : (x : ℕ) (rest body : List ℕ) → written 1 body (x ∷ rest) ≡ x ∷ (body ++ drop (length body) rest)
starts x rest body =
    append_assoc (take 1 (x ∷ rest)) body (drop (1 + length body) (x ∷ rest))
    ∙ ap (λ (l : List ℕ). l ++ (body ++ drop (1 + length body) (x ∷ rest))) (take_at (x ∷ []) rest 1 refl)
    ∙ ap (λ (l : List ℕ). (x ∷ []) ++ (body ++ l)) (drop-append-add (x ∷ []) rest (length body))

-- by the gate that is left
by_gate : (body rest image : List ℕ) (gate : ℕ) → get_or image 0 0 ≡ gate → image ≡ gate ∷ (body ++ rest) → IsUnborn image ⊎ IsBorn body image
by_gate body rest image gate is whole =
    ⊎_elim (λ (e : (eqb gate 1 ≡ true) × (gate ≡ 1)). inr (rest, whole ∙ ap (λ (g : ℕ). g ∷ (body ++ rest)) e.1)) (λ (e : (eqb gate 1 ≡ false) × (gate ≢ 1)). inl (inr (λ one. e.1 (sym is ∙ one)))) (eqb_tells gate 1)

born_images : (body file image : List ℕ) → 1 ≤ length file → get_or file 0 0 ≢ 1 → AreImages 1 body file image → IsUnborn image ⊎ IsBorn body image
born_images body file image some closed (inl torn) = inl (inr (λ one. closed (sym (place_of_take 1 image file 0 torn.before (omega arith)) ∙ one)))
born_images body [] image some closed (inr torn) = absurd (omega (arith, some))
born_images body (x ∷ rest) image some closed (inr torn) =
    let beyond : drop 1 image ≡ body ++ drop (length body) rest = torn.rest ∙ ap (drop 1) (starts x rest body) in
    let long : 1 ≤ length image = omega (arith, torn.no_shorter, ap length (starts x rest body), length-append body (drop (length body) rest)) in
    by_gate body (drop (length body) rest) image (get_or image 0 0) refl (drop_more image 0 0 (omega (arith, long)) ∙ ap (λ (l : List ℕ). get_or image 0 0 ∷ l) beyond)

opens_crash : (name body file image : List ℕ) (old : Disk) → Rests old name file → 1 ≤ length file → get_or file 0 0 ≢ 1 → Crashes (gate_plan name 1 body) old name image → IsUnborn image ⊎ IsBorn body image
opens_crash name body file image old rests some closed crash = born_images body file image some closed (gate_crash name 1 body file image old rests (omega arith) some crash)

-- ---- the birth

abbrev pub IsShort : List ℕ → Disk → Type 0
IsShort name d = IsWithin name 43 d

-- what a crash leaves where a birth is awaited has no log
awaits_left : (name image : List ℕ) (d : Disk) → AwaitsBirth d name → MayLeave d name image → IsUnborn image
awaits_left name image d (inl (file, rests, unborn)) left = subst IsUnborn (sym (rests_image d name file image rests left)) (none_unborn file (read_as file None unborn))
awaits_left name image d (inr within) left = inl (omega (arith, within_left d name image 43 within left))

-- what a crash leaves then loads as none
pub awaits_loads : (name image : List ℕ) (d : Disk) → AwaitsBirth d name → MayLeave d name image → loading image ≡ Ok None
awaits_loads name image d (inl (file, rests, unborn)) left = subst (λ (f : List ℕ). loading f ≡ Ok None) (sym (rests_image d name file image rests left)) unborn
awaits_loads name image d (inr within) left =
    let short = within_left d name image 43 within left in
    loads_as image None (omega (arith, short)) (unborn_none image (inl (omega (arith, short))))

-- it is within the limit
awaits_small : (name : List ℕ) (d : Disk) → AwaitsBirth d name → IsSmall name d
awaits_small name d (inl (file, rests, unborn)) = rests_within name file most_log d rests (small_as file None unborn)
awaits_small name d (inr within) = within_more name 43 most_log d (omega arith) within

pub awaits_kept : (name : List ℕ) (old new : Disk) → Kept name old.told new.told → AwaitsBirth old name → AwaitsBirth new name
awaits_kept name old new kept (inl (file, rests, unborn)) = inl (file, rests_kept old new name file kept rests, unborn)
awaits_kept name old new kept (inr within) = inr (within_kept name 43 old new kept within)

awaits_told : (name : List ℕ) (d : Disk) → AwaitsBirth d name → (t : Told) × (d.told ≡ Some t)
awaits_told name d (inl (file, rests, unborn)) = (rests.now, rests.told)
awaits_told name d (inr within) = (within.now, within.told)

same_told : (d : Disk) (t u : Told) → d.told ≡ Some t → d.told ≡ Some u → u ≡ t
same_told d t u is at = let e : Some u ≡ Some t = sym at ∙ is in cc

-- a short file
awaits_short : (name : List ℕ) (d : Disk) (t : Told) → d.told ≡ Some t → size_of t name < 44 → AwaitsBirth d name → IsWithin name 43 d
awaits_short name d t told less (inr within) = within
awaits_short name d t told less (inl (file, rests, unborn)) =
    let same = same_told d rests.now t rests.told told in
    let size : size_of rests.now name < 44 = subst (λ (t : Told). size_of t name < 44) same less in
    let len : length file < 44 = subst (λ (f : List ℕ). length f < 44) rests.bytes size in
    record { now = rests.now; told = rests.told; size = omega (arith, size); greatest = rw (rests.loose) (omega (arith, len)) }

-- a file with room for a birth
pub record HasRoom (d : Disk) (name : List ℕ) : Type 0 where
  pub file : List ℕ
  pub rests : Rests d name file
  pub some : 1 ≤ length file
  pub closed : get_or file 0 0 ≢ 1

awaits_long : (name : List ℕ) (d : Disk) (t : Told) → d.told ≡ Some t → 44 ≤ size_of t name → AwaitsBirth d name → HasRoom d name
awaits_long name d t told more (inr within) =
    let same = same_told d within.now t within.told told in
    let size : 44 ≤ size_of within.now name = subst (λ (t : Told). 44 ≤ size_of t name) same more in
    absurd (omega (arith, size, within.size))
awaits_long name d t told more (inl (file, rests, unborn)) =
    let same = same_told d rests.now t rests.told told in
    let size : 44 ≤ size_of rests.now name = subst (λ (t : Told). 44 ≤ size_of t name) same more in
    let len : 44 ≤ length file = subst (λ (f : List ℕ). 44 ≤ length f) rests.bytes size in
    record { file = file; rests = rests; some = omega (arith, len); closed = ⊎_elim (λ (short : length file < 44). absurd (omega (arith, short, len))) (λ (ne : get_or file 0 0 ≢ 1). ne) (none_unborn file (read_as file None unborn)) }

-- after the closed gate
closed_room : (name : List ℕ) (old new : Disk) (t : Told) → old.told ≡ Some t → Runs {E = Refusal} (firm name 0 (0 ∷ [])) old new (Ok tt) → HasRoom new name
closed_room name old new t told runs =
    let rests = firm_rests Refusal name 0 (0 ∷ []) old new t told runs in
    record { file = written 0 (0 ∷ []) (bytes_of (t.holds name)); rests = rests; some = omega arith; closed = λ is. cc }

pub sized : (h : Option (List ℕ)) → unwrap_or (option_map length h) 0 ≡ length (bytes_of h)
sized None = refl
sized (Some bytes) = refl

-- ---- a crash

-- a closed birth gate, where that is wanted, and then the birth
abbrev closing : (name : List ℕ) (size : ℕ) → LogFile → Work LogFile
closing name size log = close_plan name size >>= (λ closed. gate_plan name 1 (drop 1 log.front) >>= (λ opened. Done log))

-- the birth, once the size is known
abbrev sized_birth : (name : List ℕ) (size : ℕ) → LogFile → Work LogFile
sized_birth name size log = within_limit size >>= (λ fits. closing name size log)

close_then : (name image : List ℕ) (size : ℕ) (log : LogFile) (old : Disk) (t : Told) (b : Bool) → nat_lt size 44 ≡ b → old.told ≡ Some t → size ≡ size_of t name → AwaitsBirth old name
    → Sometime (closing name size log) old (λ m. IsImage m name image) → IsUnborn image ⊎ IsBorn (drop 1 log.front) image
unfolding close_plan followed_by
close_then name image size log old t true is told at awaits crash =
    let less : size_of t name < 44 = omega (arith, ltb-true _ _ is, at) in
    let within = awaits_short name old t told less awaits in
    let c = rw is at crash in
    let parts = crash_sequence (firm {E = Refusal} name 0 (0 ∷ [])) (λ closed. gate_plan name 1 (drop 1 log.front) >>= (λ opened. Done log)) old (λ m. IsImage m name image) c in
    ⊎_elim
    (λ first. let d = sometime_kept (IsWithin name 43) (λ m. IsImage m name image) (firm {E = Refusal} name 0 (0 ∷ [])) old (firm_keeps_within Refusal name 0 (0 ∷ []) 43 (omega arith)) within first in
    inl (inl (omega (arith, within_left d.0 name image 43 d.1 d.2))))
    (λ second.
    let room = closed_room name old second.1 t told second.2 in
    opens_crash name (drop 1 log.front) room.file image second.1 room.rests room.some room.closed (done_crash (gate_plan name 1 (drop 1 log.front)) log second.1 (λ m. IsImage m name image) second.3))
    parts
close_then name image size log old t false is told at awaits crash =
    let more : 44 ≤ size_of t name = omega (arith, ltb-false _ _ is, at) in
    let room = awaits_long name old t told more awaits in
    let c = rw is at crash in
    opens_crash name (drop 1 log.front) room.file image old room.rests room.some room.closed (done_crash (gate_plan name 1 (drop 1 log.front)) log old (λ m. IsImage m name image) c)

sized_crash : (name image : List ℕ) (size : ℕ) (log : LogFile) (old : Disk) (t : Told) → old.told ≡ Some t → size ≡ size_of t name → AwaitsBirth old name → Sometime (sized_birth name size log) old (λ m. IsImage m name image)
    → IsUnborn image ⊎ IsBorn (drop 1 log.front) image
sized_crash name image size log old t told at awaits crash =
    let Q : Moment → Type 0 = λ m. IsImage m name image in
    ⊎_elim (λ first. inl (awaits_left name image old awaits (limit_crash size old Q first)))
    (λ second.
    let fits = limit_ok size old second.1 second.0 second.2 in
    let rest = subst (λ (d : Disk). Sometime (closing name size log) d Q) fits.0 second.3 in
    close_then name image size log old t (nat_lt size 44) refl told at awaits rest)
    (crash_sequence (within_limit size) (λ fits. closing name size log) old Q crash)

-- what is told once the size was asked for
pub record Asked (name : List ℕ) (size : Option ℕ) (mid : Disk) : Type 0 where
  pub now : Told
  pub told : mid.told ≡ Some now
  pub size_is : unwrap_or size 0 ≡ size_of now name

asked_size : (name : List ℕ) (size : Option ℕ) (old mid : Disk) (t : Told) → old.told ≡ Some t → Acts (Ask name) old mid (Ok size) → Asked name size mid
asked_size name size old mid t told acts =
    let kept = step_keeps name (Ask name) old mid (Ok size) tt acts in
    let u = was_told (λ (t : Told). t.holds name) mid.told old.told t told (sym kept.holds) in
    let holds = field_kept (λ (t : Told). t.holds name) old.told mid.told t u.0 told u.1 kept.holds in
    record { now = u.0; told = u.1; size_is = ap (λ (s : Option ℕ). unwrap_or s 0) (acts.size t told) ∙ sized (t.holds name) ∙ ap (λ (h : Option (List ℕ)). length (bytes_of h)) (sym holds) }

birth_crash : (name : List ℕ) (asn : ℕ) (root image : List ℕ) (old : Disk) → AwaitsBirth old name → Crashes (birth_plan name asn root) old name image → IsUnborn image ⊎ IsBorn (drop 1 (born asn root).front) image
unfolding birth_plan Sometime followed_by
birth_crash name asn root image old awaits (inl left) = inl (awaits_left name image old awaits left)
birth_crash name asn root image old awaits (inr (mid, Err fault, acts, left)) = inl (awaits_left name image mid (awaits_kept name old mid (step_keeps name (Ask name) old mid (Err fault) tt acts) awaits) left)
birth_crash name asn root image old awaits (inr (mid, Ok size, acts, crash)) =
    let t = awaits_told name old awaits in
    let a = asked_size name size old mid t.0 t.1 acts in
    sized_crash name image (unwrap_or size 0) (born asn root) mid a.now a.told a.size_is (awaits_kept name old mid (step_keeps name (Ask name) old mid (Ok size) tt acts) awaits) crash

-- what is left loads as no log, or as one without entries
loads_either : (asn : ℕ) (root image : List ℕ) → asn < 2 ^ 32 → length root ≡ digest_size → length image ≤ most_log → IsUnborn image ⊎ IsBorn (drop 1 (born asn root).front) image → IsUnbornOrBorn (born asn root) image
loads_either asn root image small size length_is (inl unborn) = inl (loads_as image None length_is (unborn_none image unborn))
loads_either asn root image small size length_is (inr given) = inr (loads_as image (Some (born asn root)) length_is (ap log_of given.1 ∙ born_reads asn root given.0 small size))

-- A crash at any moment of a birth leaves no log, or one without entries.
pub birth_leaves : (name : List ℕ) (asn : ℕ) (root image : List ℕ) (old : Disk) → asn < 2 ^ 32 → length root ≡ digest_size → AwaitsBirth old name → Crashes (birth_plan name asn root) old name image → IsUnbornOrBorn (born asn root) image
birth_leaves name asn root image old small size awaits crash =
    loads_either asn root image small size (crash_length name image (birth_plan name asn root) old (birth_each name asn root size) (awaits_small name old awaits) crash) (birth_crash name asn root image old awaits crash)

-- However a birth ended, a crash after it leaves the same.
pub birth_stop_leaves : (name : List ℕ) (asn : ℕ) (root image : List ℕ) (old new : Disk) (result : Result LogFile (Halt Refusal)) → asn < 2 ^ 32 → length root ≡ digest_size → AwaitsBirth old name → Runs (birth_plan name asn root) old new result
    → MayLeave new name image → IsUnbornOrBorn (born asn root) image
birth_stop_leaves name asn root image old new result small size awaits runs left =
    birth_leaves name asn root image old small size awaits (crash_after (birth_plan name asn root) old new result (λ m. IsImage m name image) runs left)

-- ---- what a read gives

awaits_read : (name : List ℕ) (d : Disk) (t : Told) → d.told ≡ Some t → AwaitsBirth d name → IsUnborn (bytes_of (t.holds name))
awaits_read name d t told (inl (file, rests, unborn)) =
    let same = same_told d rests.now t rests.told told in
    subst (λ (t : Told). IsUnborn (bytes_of (t.holds name))) (sym same) (subst IsUnborn (sym rests.bytes) (none_unborn file (read_as file None unborn)))
awaits_read name d t told (inr within) =
    let same = same_told d within.now t within.told told in
    let size : size_of t name ≤ 43 = subst (λ (t : Told). size_of t name ≤ 43) (sym same) within.size in
    inl (omega (arith, size))

-- What a stop leaves to a read: no log, or one without entries; and where the name is absent a birth may be tried again.
pub record Stops (name body : List ℕ) (new : Disk) (u : Told) : Type 0 where
  pub reads : IsUnborn (bytes_of (u.holds name)) ⊎ IsBorn body (bytes_of (u.holds name))
  pub absent : u.holds name ≡ None → IsWithin name 43 new

awaits_absent : (name : List ℕ) (d : Disk) (t : Told) → d.told ≡ Some t → AwaitsBirth d name → t.holds name ≡ None → IsWithin name 43 d
awaits_absent name d t told (inr within) none = within
awaits_absent name d t told (inl (file, rests, unborn)) none =
    let same = same_told d rests.now t rests.told told in
    let size : size_of t name ≡ 0 = ap (λ (h : Option (List ℕ)). length (bytes_of h)) none in
    let now_size : size_of rests.now name ≡ 0 = subst (λ (u : Told). size_of u name ≡ 0) same size in
    rests_within name file 43 d rests (omega (arith, now_size, ap length rests.bytes))

awaits_stops : (name body : List ℕ) (d : Disk) (u : Told) → d.told ≡ Some u → AwaitsBirth d name → Stops name body d u
awaits_stops name body d u told awaits = record { reads = inl (awaits_read name d u told awaits); absent = awaits_absent name d u told awaits }

image_some : (body file image : List ℕ) → 1 ≤ length file → AreImages 1 body file image → 1 ≤ length image
image_some body file image some (inl torn) = omega (arith, some, torn.no_shorter)
image_some body file image some (inr torn) = omega (arith, some, torn.no_shorter, (written_torn 1 body file some).no_shorter)

-- of the writes of a birth into a file that rests
opens_stops : (name body : List ℕ) (old new : Disk) (u : Told) (result : Result (Unit {0}) (Halt Refusal)) → HasRoom old name → Runs (gate_plan name 1 body) old new result → new.told ≡ Some u → Stops name body new u
opens_stops name body old new u result room runs told =
    let r = room.rests in
    let size : size_of r.now name ≡ length room.file = ap length r.bytes in
    let sound : IsSound name old = record { now = r.now; told = r.told; least = rw (r.loose) (omega (arith, size)); greatest = rw (r.loose) (omega (arith, size)) } in
    let image = read_is_image name (gate_plan name 1 body) old new result sound runs in
    let same : u ≡ image.0 = some_told new.told image.0 u image.1 told in
    let crash = crash_after (gate_plan name 1 body) old new result (λ m. IsImage m name (bytes_of (image.0.holds name))) runs image.2 in
    let left : AreImages 1 body room.file (bytes_of (u.holds name)) = subst (λ (v : Told). AreImages 1 body room.file (bytes_of (v.holds name))) (sym same) (gate_crash name 1 body room.file (bytes_of (image.0.holds name)) old r (omega arith) room.some crash) in
    record {
      reads = born_images body room.file (bytes_of (u.holds name)) room.some room.closed left;
      absent = λ none.
          let size : length (bytes_of (u.holds name)) ≡ 0 = ap (λ (h : Option (List ℕ)). length (bytes_of h)) none in
          absurd (omega (arith, size, image_some body room.file (bytes_of (u.holds name)) room.some left));
    }

done_ran : (v : LogFile) (old new : Disk) (result : Result LogFile (Halt Refusal)) → Runs (Done v) old new result → new ≡ old
unfolding Runs
done_ran v old new result (same, is) = same

closed_room_by : (name : List ℕ) (old new : Disk) (t : Told) (x : Unit {0}) → old.told ≡ Some t → Runs {E = Refusal} (firm name 0 (0 ∷ [])) old new (Ok x) → HasRoom new name
closed_room_by name old new t tt told runs = closed_room name old new t told runs

gate_stops : (name : List ℕ) (log : LogFile) (old new : Disk) (u : Told) (result : Result LogFile (Halt Refusal)) → HasRoom old name → Runs (gate_plan name 1 (drop 1 log.front) >>= (λ opened. Done log)) old new result → new.told ≡ Some u
    → Stops name (drop 1 log.front) new u
gate_stops name log old new u result room runs told =
    let gate = gate_plan name 1 (drop 1 log.front) in
    ⊎_elim
    (λ w.
    let same = done_ran log w.0 new result w.3 in
    subst (λ (d : Disk). Stops name (drop 1 log.front) d u) (sym same) (opens_stops name (drop 1 log.front) old w.0 u (Ok w.1) room w.2 (ap (λ (d : Disk). d.told) (sym same) ∙ told)))
    (λ w. opens_stops name (drop 1 log.front) old new u (Err w.0) room w.1 told)
    (taken_apart gate (λ opened. Done log) old new result runs)

closing_stops : (name : List ℕ) (size : ℕ) (log : LogFile) (old new : Disk) (t u : Told) (result : Result LogFile (Halt Refusal)) (b : Bool) → nat_lt size 44 ≡ b → old.told ≡ Some t → size ≡ size_of t name → AwaitsBirth old name
    → Runs (closing name size log) old new result → new.told ≡ Some u → Stops name (drop 1 log.front) new u
unfolding close_plan followed_by
closing_stops name size log old new t u result true is told at awaits runs now =
    let less : size_of t name < 44 = omega (arith, ltb-true _ _ is, at) in
    let within = awaits_short name old t told less awaits in
    let r = rw is at runs in
    ⊎_elim
    (λ w. gate_stops name log w.0 new u result (closed_room_by name old w.0 t w.1 told w.2) w.3 now)
    (λ w.
    let still = run_keeps (IsWithin name 43) (firm {E = Refusal} name 0 (0 ∷ [])) old new (Err w.0) (firm_keeps_within Refusal name 0 (0 ∷ []) 43 (omega arith)) within w.1 in
    awaits_stops name (drop 1 log.front) new u now (inr still))
    (taken_apart (firm {E = Refusal} name 0 (0 ∷ [])) (λ closed. gate_plan name 1 (drop 1 log.front) >>= (λ opened. Done log)) old new result r)
closing_stops name size log old new t u result false is told at awaits runs now =
    let more : 44 ≤ size_of t name = omega (arith, ltb-false _ _ is, at) in
    let r = rw is at runs in
    gate_stops name log old new u result (awaits_long name old t told more awaits) r now

sized_stops : (name : List ℕ) (size : ℕ) (log : LogFile) (old new : Disk) (t u : Told) (result : Result LogFile (Halt Refusal)) → old.told ≡ Some t → size ≡ size_of t name → AwaitsBirth old name → Runs (sized_birth name size log) old new result → new.told ≡ Some u
    → Stops name (drop 1 log.front) new u
sized_stops name size log old new t u result told at awaits runs now =
    ⊎_elim
    (λ w. closing_stops name size log old new t u result (nat_lt size 44) refl told at awaits (subst (λ (d : Disk). Runs (closing name size log) d new result) (limit_ok size old w.0 w.1 w.2).0 w.3) now)
    (λ w. awaits_stops name (drop 1 log.front) new u now (subst (λ (d : Disk). AwaitsBirth d name) (sym (limit_stops size old new w.0 w.1).0) awaits))
    (taken_apart (within_limit size) (λ fits. closing name size log) old new result runs)

pub birth_stops : (name : List ℕ) (asn : ℕ) (root : List ℕ) (old new : Disk) (u : Told) (result : Result LogFile (Halt Refusal)) → AwaitsBirth old name → Runs (birth_plan name asn root) old new result → new.told ≡ Some u
    → Stops name (drop 1 (born asn root).front) new u
unfolding birth_plan Runs followed_by
birth_stops name asn root old new u result awaits (inl (same, is)) now = awaits_stops name (drop 1 (born asn root).front) new u now (subst (λ (d : Disk). AwaitsBirth d name) (sym same) awaits)
birth_stops name asn root old new u result awaits (inr (mid, Err fault, acts, (same, is))) now =
    awaits_stops name (drop 1 (born asn root).front) new u now (subst (λ (d : Disk). AwaitsBirth d name) (sym same) (awaits_kept name old mid (step_keeps name (Ask name) old mid (Err fault) tt acts) awaits))
birth_stops name asn root old new u result awaits (inr (mid, Ok size, acts, goes)) now =
    let t = awaits_told name old awaits in
    let a = asked_size name size old mid t.0 t.1 acts in
    sized_stops name (unwrap_or size 0) (born asn root) mid new a.now u result a.told a.size_is (awaits_kept name old mid (step_keeps name (Ask name) old mid (Ok size) tt acts) awaits) goes now

-- However a birth ended, what a read gives after it loads as no log, or as one without entries.
pub birth_read_leaves : (name : List ℕ) (asn : ℕ) (root : List ℕ) (old new : Disk) (u : Told) (result : Result LogFile (Halt Refusal)) → asn < 2 ^ 32 → length root ≡ digest_size → AwaitsBirth old name → Runs (birth_plan name asn root) old new result
    → new.told ≡ Some u → IsUnbornOrBorn (born asn root) (bytes_of (u.holds name))
birth_read_leaves name asn root old new u result small len awaits runs now =
    let still = run_small name (birth_plan name asn root) old new result (birth_each name asn root len) (awaits_small name old awaits) runs in
    let same : u ≡ still.now = some_told new.told still.now u still.told now in
    let size : size_of u name ≤ most_log = subst (λ (t : Told). size_of t name ≤ most_log) (sym same) still.size in
    loads_either asn root (bytes_of (u.holds name)) small len size (birth_stops name asn root old new u result awaits runs now).reads

-- ---- after Ok

-- a file that isn't empty, within the limit
pub record IsSome (d : Disk) (name : List ℕ) : Type 0 where
  pub now : Told
  pub told : d.told ≡ Some now
  pub some : 1 ≤ size_of now name
  pub small : size_of now name ≤ most_log

some_run : (name : List ℕ) (size : ℕ) (old new : Disk) (x : Unit {0}) (t : Told) (b : Bool) → nat_lt size 44 ≡ b → old.told ≡ Some t → size ≡ size_of t name → size ≤ most_log → Runs (close_plan name size) old new (Ok x) → IsSome new name
unfolding close_plan Runs
some_run name size old new tt t true is told at small runs =
    let r = rw is at runs in
    let rests = firm_rests Refusal name 0 (0 ∷ []) old new t told r in
    let file = written 0 (0 ∷ []) (bytes_of (t.holds name)) in
    let some : 1 ≤ length file = omega arith in
    let less : length file ≤ most_log = omega (arith, ltb-true _ _ is, at, written_size 0 (0 ∷ []) (bytes_of (t.holds name))) in
    record {
      now = rests.now;
      told = rests.told;
      some = subst (λ (f : List ℕ). 1 ≤ length f) (sym rests.bytes) some;
      small = subst (λ (f : List ℕ). length f ≤ most_log) (sym rests.bytes) less;
    }
some_run name size old new x t false is told at small runs =
    let r = rw is at runs in
    record { now = t; told = ap (λ (d : Disk). d.told) r.0 ∙ told; some = omega (arith, ltb-false _ _ is, at); small = omega (arith, at, small) }

born_keeps : (name : List ℕ) (asn : ℕ) (root : List ℕ) (value : LogFile) (old new : Disk) (x : Unit {0}) (mid : Disk) → asn < 2 ^ 32 → length root ≡ digest_size → IsSome old name → Runs (gate_plan name 1 (drop 1 (born asn root).front)) old mid (Ok x)
    → (new ≡ mid) × (value ≡ born asn root) → (value ≡ born asn root) × Keeps new name (born asn root)
born_keeps name asn root value old new tt mid small size some runs done =
    let body = drop 1 (born asn root).front in
    let before = bytes_of (some.now.holds name) in
    let file = opened_after 1 body before in
    let body_len : length body ≤ 43 = omega (arith, length-drop 1 (born asn root).front, born_length asn root size) in
    let len : length file ≤ most_log = opened_size 1 body before most_log (omega arith) (omega (arith, body_len)) some.small in (
      done.1,
      record {
        file = file;
        rests = subst (λ (d : Disk). Rests d name file) (sym done.0) (gate_ok name 1 body old mid some.now some.told runs);
        is_log = record { batches = []; gate = 0; closed = refl; fit = tt; asn = small; root = size; entries = refl; front = refl };
        loads = loads_as file (Some (born asn root)) len (born_in asn root before (born asn root).front small size some.some refl);
      },
    )

closing_ok : (name : List ℕ) (asn : ℕ) (root : List ℕ) (size : ℕ) (value : LogFile) (old new : Disk) (t : Told) → asn < 2 ^ 32 → length root ≡ digest_size → old.told ≡ Some t → size ≡ size_of t name → size ≤ most_log
    → Runs (closing name size (born asn root)) old new (Ok value) → (value ≡ born asn root) × Keeps new name (born asn root)
closing_ok name asn root size value old new t small len told at fits runs =
    let log = born asn root in
    ⊎_elim
    (λ w.
    let some = some_run name size old w.0 w.1 t (nat_lt size 44) refl told at fits w.2 in
    ⊎_elim (λ g. born_keeps name asn root value w.0 new g.1 g.0 small len some g.2 (done_value log g.0 new value g.3)) (λ g. absurd (let h = g.2 in cc)) (taken_apart (gate_plan name 1 (drop 1 log.front)) (λ opened. Done log) w.0 new (Ok value) w.3))
    (λ w. absurd (let h = w.2 in cc))
    (taken_apart (close_plan name size) (λ closed. gate_plan name 1 (drop 1 log.front) >>= (λ opened. Done log)) old new (Ok value) runs)

sized_ok : (name : List ℕ) (asn : ℕ) (root : List ℕ) (size : ℕ) (value : LogFile) (old new : Disk) (t : Told) → asn < 2 ^ 32 → length root ≡ digest_size → old.told ≡ Some t → size ≡ size_of t name
    → Runs (sized_birth name size (born asn root)) old new (Ok value) → (value ≡ born asn root) × Keeps new name (born asn root)
sized_ok name asn root size value old new t small len told at runs =
    let log = born asn root in
    ⊎_elim
    (λ w.
    let fits = limit_ok size old w.0 w.1 w.2 in
    closing_ok name asn root size value old new t small len told at fits.1 (subst (λ (d : Disk). Runs (closing name size log) d new (Ok value)) fits.0 w.3))
    (λ w. absurd (let h = w.2 in cc))
    (taken_apart (within_limit size) (λ fits. closing name size log) old new (Ok value) runs)

-- After Ok the file rests with a log without entries.
pub birth_keeps : (name : List ℕ) (asn : ℕ) (root : List ℕ) (value : LogFile) (old new : Disk) (t : Told) → asn < 2 ^ 32 → length root ≡ digest_size → old.told ≡ Some t → Runs (birth_plan name asn root) old new (Ok value)
    → (value ≡ born asn root) × Keeps new name (born asn root)
unfolding birth_plan Runs followed_by
birth_keeps name asn root value old new t small len told (inl (same, is)) = absurd cc
birth_keeps name asn root value old new t small len told (inr (mid, Err fault, acts, (same, is))) = absurd cc
birth_keeps name asn root value old new t small len told (inr (mid, Ok size, acts, goes)) = let a = asked_size name size old mid t told acts in sized_ok name asn root (unwrap_or size 0) value mid new a.now small len a.told a.size_is goes

-- ---- refusals

close_never : (name : List ℕ) (size : ℕ) → Never (close_plan name size)
unfolding close_plan
close_never name size = by_size (nat_lt size 44) refl
  where
    by_size : (b : Bool) → nat_lt size 44 ≡ b → Never (close_plan name size)
    by_size true is = rw is (firm_never name 0 (0 ∷ []))
    by_size false is = rw is tt

closing_never : (name : List ℕ) (size : ℕ) (log : LogFile) → Never (closing name size log)
closing_never name size log =
    let gate = gate_plan name 1 (drop 1 log.front) in
    never_followed (close_plan name size) (λ closed. gate >>= (λ opened. Done log)) (close_never name size) (λ closed. never_followed gate (λ opened. Done log) (gate_never name 1 (drop 1 log.front)) (λ opened. tt))

-- A birth that a load made way for is never refused.
pub birth_unrefused : (name : List ℕ) (asn : ℕ) (root : List ℕ) (old new : Disk) (r : Refusal) → AwaitsBirth old name → Runs (birth_plan name asn root) old new (Err (Refused r)) → ⊥
unfolding birth_plan Runs followed_by
birth_unrefused name asn root old new r awaits (inl (same, is)) = cc
birth_unrefused name asn root old new r awaits (inr (mid, Err fault, acts, (same, is))) = cc
birth_unrefused name asn root old new r awaits (inr (mid, Ok size, acts, goes)) =
    let small = awaits_small name mid (awaits_kept name old mid (step_keeps name (Ask name) old mid (Ok size) tt acts) awaits) in
    let t = awaits_told name old awaits in
    let a = asked_size name size old mid t.0 t.1 acts in
    let same : a.now ≡ small.now = some_told mid.told small.now a.now small.told a.told in
    let stops = limit_refuses (unwrap_or size 0) (closing name (unwrap_or size 0) (born asn root)) mid new r (closing_never name (unwrap_or size 0) (born asn root)) goes in
    let now_size : size_of a.now name ≡ size_of small.now name = ap (λ (t : Told). size_of t name) same in
    omega (arith, stops.2, a.size_is, now_size, small.size)
