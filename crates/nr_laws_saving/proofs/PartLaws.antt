-- A file that is written in pieces holds them all.
use Rattle.std.proofs.Common.{◌≡◌, ◌≢◌, ℕ, ◌+◌, ◌≤◌, List, [], ◌∷◌, ◌++◌, length, take, drop, Option, None, Some, Ok, Err, refl, sym, ap, ◌∙◌, inl, append_assoc, arith}
use Rattle.std.specs.List.{concat}
use Rattle.std.proofs.lemmas.List.{append-nil, length-append, take_all, drop_all}
use Rattle.nr_spec_plans.specs.Disk.{Disk, Told, IsSynced, bytes_of, cut_to, settled, written}
use Rattle.nr_spec_plans.specs.Plans.{Act, Action, Cut, Write, Sync, Plan, Runs, followed_by, refusing, save}
use Rattle.nr_spec_plans.specs.Laws.{Each, Saved, Spares, Touches}
use Rattle.nr_spec_saving.specs.Saving.{PartsSaved, PartsWritten, save_parts, write_parts}

-- ---- the steps

-- each write ends where all pieces do, or before
pub write_each : (E : Type 0) (kind : Action → Type 0) (name : List ℕ) (end : ℕ) → ((at : ℕ) (part : List ℕ) → at + length part ≤ end → kind (Write name at part)) → kind (Sync name)
    → (at : ℕ) (parts : List (List ℕ)) → at + length (concat parts) ≤ end → Each {E = E} kind (write_parts name at parts)
unfolding write_parts followed_by
write_each E kind name end write sync at [] less = (sync, λ x. tt)
write_each E kind name end write sync at (part ∷ others) less =
    let size = length-append part (concat others) in
    (write at part (omega (arith, less, size)), λ x. write_each E kind name end write sync (at + length part) others (omega (arith, less, size)))

pub save_each : (E : Type 0) (kind : Action → Type 0) (name : List ℕ) (parts : List (List ℕ)) → kind (Cut name 0) → ((at : ℕ) (part : List ℕ) → at + length part ≤ length (concat parts) → kind (Write name at part)) → kind (Sync name)
    → Each {E = E} kind (save_parts name parts)
unfolding save_parts followed_by
save_each E kind name parts cut write sync = (cut, λ x. write_each E kind name (length (concat parts)) write sync 0 parts (omega arith))

pub save_spares : (E : Type 0) (name other : List ℕ) (parts : List (List ℕ)) → other ≢ name → Each {E = E} (Spares other) (save_parts name parts)
save_spares E name other parts ne = save_each E (Spares other) name parts ne (λ at part less. ne) ne

pub save_touches : (E : Type 0) (name : List ℕ) (parts : List (List ℕ)) → Each {E = E} (Touches [] (name ∷ [])) (save_parts name parts)
save_touches E name parts = save_each E (Touches [] (name ∷ [])) name parts (inl refl) (λ at part less. inl refl) (inl refl)

-- ---- one piece

pub one_piece : (E : Type 0) (name bytes : List ℕ) → save_parts {E = E} name (bytes ∷ []) ≡ save name bytes
unfolding save_parts write_parts save followed_by
one_piece E name bytes = refl

-- ---- refusals of another kind

write_as : {E F : Type 0} (as_said : E → F) (name : List ℕ) (at : ℕ) (parts : List (List ℕ)) → refusing as_said (write_parts {E = E} name at parts) ≡ write_parts {E = F} name at parts
unfolding refusing write_parts followed_by
write_as as_said name at [] = refl
write_as {E = E} {F = F} as_said name at (part ∷ others) = ap (λ (p : Plan F (Unit {0})). Act (Write name at part) (λ x. p)) (write_as {E = E} {F = F} as_said name (at + length part) others)

-- A plan that saves pieces refuses nothing.
pub parts_as : {E F : Type 0} (as_said : E → F) (name : List ℕ) (parts : List (List ℕ)) → refusing as_said (save_parts {E = E} name parts) ≡ save_parts {E = F} name parts
unfolding refusing save_parts followed_by
parts_as {E = E} {F = F} as_said name parts = ap (λ (p : Plan F (Unit {0})). Act (Cut name 0) (λ x. p)) (write_as {E = E} {F = F} as_said name 0 parts)

-- ---- what went well was done

pub parts_written : (E : Type 0) (name : List ℕ) (at : ℕ) (parts : List (List ℕ)) (old new : Disk) → Runs {E = E} (write_parts name at parts) old new (Ok tt) → PartsWritten name at parts old new
unfolding Runs followed_by write_parts
parts_written E name at [] old new (mid, Ok x, syncs, (same, is)) = rw same syncs
parts_written E name at [] old new (mid, Err f, syncs, (same, is)) = absurd cc
parts_written E name at (part ∷ others) old new (mid, Ok x, writes, rest) = (mid, writes, parts_written E name (at + length part) others mid new rest)
parts_written E name at (part ∷ others) old new (mid, Err f, writes, (same, is)) = absurd cc

pub parts_saved : (E : Type 0) (name : List ℕ) (parts : List (List ℕ)) (old new : Disk) → Runs {E = E} (save_parts name parts) old new (Ok tt) → PartsSaved name parts old new
unfolding Runs followed_by save_parts
parts_saved E name parts old new (mid, Ok x, cuts, rest) = (mid, cuts, parts_written E name 0 parts mid new rest)
parts_saved E name parts old new (mid, Err f, cuts, (same, is)) = absurd cc

-- ---- and the file holds it

-- bytes that are written behind those of a file
pub written_behind : (at : ℕ) (file part : List ℕ) → at ≡ length file → written at part file ≡ file ++ part
written_behind at file part is =
    let front : take at file ≡ file = take_all at file (omega (arith, is)) in
    let back : drop (at + length part) file ≡ [] = drop_all (at + length part) file (omega (arith, is)) in
    rw (front, back) (append-nil (file ++ part))

behind : (at : ℕ) (file part : List ℕ) (found now : Option (List ℕ)) → at ≡ length file → found ≡ Some file → now ≡ Some (written at part (bytes_of found)) → now ≡ Some (file ++ part)
behind at file part found now is held wrote = wrote ∙ ap (λ (f : Option (List ℕ)). Some (written at part (bytes_of f))) held ∙ ap (λ (b : List ℕ). Some b) (written_behind at file part is)

-- what follows under other names
pub record Goes (name bytes : List ℕ) (t : Told) (d : Disk) : Type 0 where
  pub now : Told
  pub told : d.told ≡ Some now
  pub saved : Saved name bytes t now

synced_all : (name file : List ℕ) (t u : Told) → t.holds name ≡ Some file → IsSynced name t u → Saved name (file ++ concat []) t u
synced_all name file t u held c =
    let whole : file ++ [] ≡ file = append-nil file in
    record {
      holds = c.named ∙ held ∙ ap (λ (b : List ℕ). Some b) (sym whole);
      synced = c.loose ∙ ap (λ (f : Option (List ℕ)). settled (bytes_of f)) held ∙ ap settled (sym whole);
      others = λ other ne. c.others other ne;
    }

pub written_holds : (name file : List ℕ) (at : ℕ) (parts : List (List ℕ)) (old new : Disk) (t : Told) → at ≡ length file → old.told ≡ Some t → t.holds name ≡ Some file
    → PartsWritten name at parts old new → Goes name (file ++ concat parts) t new
written_holds name file at [] old new t is told held syncs =
    let u = syncs.told t told in
    record { now = u.0; told = u.1; saved = synced_all name file t u.0 held u.2 }
written_holds name file at (part ∷ others) old new t is told held (mid, writes, rest) =
    let u = writes.told t told in
    let now = behind at file part (t.holds name) (u.0.holds name) is held u.2.named in
    let more = written_holds name (file ++ part) (at + length part) others mid new u.0 (omega (arith, is, length-append file part)) u.1 now rest in
    let whole : (file ++ part) ++ concat others ≡ file ++ (part ++ concat others) = append_assoc file part (concat others) in
    record {
      now = more.now;
      told = more.told;
      saved = record {
        holds = more.saved.holds ∙ ap (λ (b : List ℕ). Some b) whole;
        synced = more.saved.synced ∙ ap settled whole;
        others = λ other ne. more.saved.others other ne ∙ u.2.others other ne;
      };
    }

emptied : (file : Option (List ℕ)) → cut_to 0 file ≡ Some []
emptied None = refl
emptied (Some bytes) = refl

pub save_holds : (name : List ℕ) (parts : List (List ℕ)) (old new : Disk) (t : Told) → old.told ≡ Some t → PartsSaved name parts old new → Goes name (concat parts) t new
save_holds name parts old new t told (mid, cuts, rest) =
    let u = cuts.told t told in
    let more = written_holds name [] 0 parts mid new u.0 refl u.1 (u.2.named ∙ emptied (t.holds name)) rest in
    record {
      now = more.now;
      told = more.told;
      saved = record { holds = more.saved.holds; synced = more.saved.synced; others = λ other ne. more.saved.others other ne ∙ u.2.others other ne };
    }
