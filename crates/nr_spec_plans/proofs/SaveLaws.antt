-- What a file that is written in whole may hold, whatever stopped the writing.
use Rattle.std.proofs.Common.{◌≡◌, ◌≢◌, ℕ, ◌+◌, List, [], ◌++◌, length, Option, None, Some, Result, Ok, Err, refl, sym, ap, subst, ◌∙◌, inl, inr, ◌⊎◌, ⊎_elim, arith}
use Rattle.std.proofs.lemmas.List.{append-nil}
use Rattle.std.proofs.Math.Seq.{drop-nil}
use Rattle.nr_spec_plans.specs.Disk.{Disk, Told, Fault, ReadFault, WriteFault, Memory, Writing, Leaves, ChangesOnly, IsSynced, Torn, TornCut, TornWrite, cut_to, written, bytes_of, ticking, Loose}
use Rattle.nr_spec_plans.specs.Plans.{Plan, Done, Refuse, Room, Act, Ask, Read, Cut, Write, Sync, Halt, Faulted, Runs, save, followed_by}
use Rattle.nr_spec_plans.specs.Laws.{Each, IsRead, IsLeftBy, outcome, answer_of}

-- ---- what stops a plan

-- a call that writes fails by a write fault, or finds no memory
writing_stops : (done torn : Told → Told → Type 0) (old new : Disk) (fault : Fault) → Writing done torn old new (Err fault) → (fault ≡ WriteFault) ⊎ (fault ≡ Memory)
writing_stops done torn old new ReadFault w = absurd (w.cause refl)
writing_stops done torn old new WriteFault w = inl refl
writing_stops done torn old new Memory w = inr refl

stopped : {E : Type 0} (halt : Halt E) (fault : Fault) → halt ≡ Faulted fault → (fault ≡ WriteFault) ⊎ (fault ≡ Memory) → (halt ≡ Faulted WriteFault) ⊎ (halt ≡ Faulted Memory)
stopped halt fault is by = ⊎_elim (λ w. inl (is ∙ ap Faulted w)) (λ w. inr (is ∙ ap Faulted w)) by

pub save_stops : (E : Type 0) (name bytes : List ℕ) (old new : Disk) (halt : Halt E) → Runs (save name bytes) old new (Err halt) → (halt ≡ Faulted WriteFault) ⊎ (halt ≡ Faulted Memory)
unfolding Runs followed_by save
save_stops E name bytes old new halt (m1, Err f, cuts, (same, is)) = stopped halt f (let h : halt ≡ Faulted f = cc in h) (writing_stops _ _ old m1 f cuts)
save_stops E name bytes old new halt (m1, Ok x, cuts, (m2, Err f, writes, (same, is))) = stopped halt f (let h : halt ≡ Faulted f = cc in h) (writing_stops _ _ m1 m2 f writes)
save_stops E name bytes old new halt (m1, Ok x, cuts, (m2, Ok y, writes, (m3, Err f, syncs, (same, is)))) = stopped halt f (let h : halt ≡ Faulted f = cc in h) (writing_stops _ _ m2 m3 f syncs)
save_stops E name bytes old new halt (m1, Ok x, cuts, (m2, Ok y, writes, (m3, Ok z, syncs, (same, is)))) = absurd cc

-- a plan of steps that read has no write fault
pub reads_alone : {E A : Type 0} (p : Plan E A) (old new : Disk) (result : Result A (Halt E)) → Each IsRead p → Runs p old new result → result ≢ Err (Faulted WriteFault)
unfolding Runs
reads_alone (Done value) old new result each (same, is) = λ e. absurd cc
reads_alone (Refuse refusal) old new result each (same, is) = λ e. absurd cc
reads_alone (Room next) old new result each (inl (same, is)) = λ e. absurd cc
reads_alone (Room next) old new result each (inr runs) = reads_alone next old new result each runs
reads_alone (Act action next) old new result (kind, each) (mid, Ok answer, acts, goes) = reads_alone (next answer) mid new result (each answer) goes
reads_alone (Act (Ask name) next) old new result (kind, each) (mid, Err ReadFault, acts, (same, is)) = λ e. absurd cc
reads_alone (Act (Ask name) next) old new result (kind, each) (mid, Err WriteFault, acts, (same, is)) = λ e. absurd acts.cause
reads_alone (Act (Ask name) next) old new result (kind, each) (mid, Err Memory, acts, (same, is)) = λ e. absurd cc
reads_alone (Act (Read name size) next) old new result (kind, each) (mid, Err fault, inl (f, rest), (same, is)) = λ e. absurd cc
reads_alone (Act (Read name size) next) old new result (kind, each) (mid, Err fault, inr stops, (same, is)) = let f = stops.cause in λ e. absurd cc
reads_alone (Act (Cut name len) next) old new result (kind, each) runs = absurd kind
reads_alone (Act (Write name at bytes) next) old new result (kind, each) runs = absurd kind
reads_alone (Act (Sync name) next) old new result (kind, each) runs = absurd kind

-- ---- what a save leaves

emptied : (file : Option (List ℕ)) → cut_to 0 file ≡ Some []
emptied None = refl
emptied (Some bytes) = refl

whole : (bytes : List ℕ) → Some (written 0 bytes (bytes_of (Some []))) ≡ Some bytes
whole bytes = ap (λ (b : List ℕ). Some b) (ap (λ (d : List ℕ). bytes ++ d) (drop-nil (0 + length bytes)) ∙ append-nil bytes)

cut_left : (name bytes : List ℕ) (now : Told → Loose) (t u : Told) (fault : Fault)
    → Leaves (Err fault) (λ t u. ChangesOnly name (λ file. file ≡ cut_to 0 (t.holds name)) (now t) t u) (λ t u. ChangesOnly name (Torn (TornCut 0) (t.holds name)) (now t) t u) t u
    → IsLeftBy bytes (t.holds name) (u.holds name)
cut_left name bytes now t u ReadFault left = absurd left
cut_left name bytes now t u WriteFault left = inr (inl left.named)
cut_left name bytes now t u Memory left = inl (ap (λ (v : Told). v.holds name) left)

nothing_written : (n : ℕ) → Torn (TornWrite 0 n) (Some []) (Some [])
nothing_written n = record { there = λ is. is; bytes = record { before = refl; rest = refl; no_shorter = omega arith; no_longer = omega arith } }

write_left : (name bytes : List ℕ) (now : Told → Loose) (old : Option (List ℕ)) (t u : Told) (fault : Fault) → t.holds name ≡ Some []
    → Leaves (Err fault) (λ t u. ChangesOnly name (λ file. file ≡ Some (written 0 bytes (bytes_of (t.holds name)))) (now t) t u) (λ t u. ChangesOnly name (Torn (TornWrite 0 (length bytes)) (t.holds name)) (now t) t u) t u
    → IsLeftBy bytes old (u.holds name)
write_left name bytes now old t u ReadFault empty left = absurd left
write_left name bytes now old t u WriteFault empty left = inr (inr (inl (subst (λ (f : Option (List ℕ)). Torn (TornWrite 0 (length bytes)) f (u.holds name)) empty left.named)))
write_left name bytes now old t u Memory empty left =
    inr (inr (inl (subst (λ (f : Option (List ℕ)). Torn (TornWrite 0 (length bytes)) (Some []) f) (sym (ap (λ (v : Told). v.holds name) left ∙ empty)) (nothing_written (length bytes)))))

sync_left : (name : List ℕ) (t u : Told) (fault : Fault) → Leaves (Err fault) (λ t u. IsSynced name t u) (λ t u. u ≡ ticking 1 t) t u → u.holds name ≡ t.holds name
sync_left name t u ReadFault left = absurd left
sync_left name t u WriteFault left = ap (λ (v : Told). v.holds name) left
sync_left name t u Memory left = ap (λ (v : Told). v.holds name) left

pub save_leaves : (E : Type 0) (name bytes : List ℕ) (old new : Disk) (t : Told) (result : Result (Unit {0}) (Halt E)) → old.told ≡ Some t → Runs {E = E} (save name bytes) old new result
    → (u : Told) × (new.told ≡ Some u) × IsLeftBy bytes (t.holds name) (u.holds name)
unfolding Runs followed_by save
save_leaves E name bytes old new t result told (m1, Err f, cuts, (same, is)) =
    let a = cuts.told t told in
    (a.0, ap (λ (d : Disk). d.told) same ∙ a.1, cut_left name bytes _ t a.0 f a.2)
save_leaves E name bytes old new t result told (m1, Ok x, cuts, (m2, Err f, writes, (same, is))) =
    let a = cuts.told t told in
    let b = writes.told a.0 a.1 in
    (b.0, ap (λ (d : Disk). d.told) same ∙ b.1, write_left name bytes _ (t.holds name) a.0 b.0 f (a.2.named ∙ emptied (t.holds name)) b.2)
save_leaves E name bytes old new t result told (m1, Ok x, cuts, (m2, Ok y, writes, (m3, Err f, syncs, (same, is)))) =
    let a = cuts.told t told in
    let b = writes.told a.0 a.1 in
    let c = syncs.told b.0 b.1 in
    let empty = a.2.named ∙ emptied (t.holds name) in
    (c.0, ap (λ (d : Disk). d.told) same ∙ c.1, inr (inr (inr (sync_left name b.0 c.0 f c.2 ∙ b.2.named ∙ ap (λ (h : Option (List ℕ)). Some (written 0 bytes (bytes_of h))) empty ∙ whole bytes))))
save_leaves E name bytes old new t result told (m1, Ok x, cuts, (m2, Ok y, writes, (m3, Ok z, syncs, (same, is)))) =
    let a = cuts.told t told in
    let b = writes.told a.0 a.1 in
    let c = syncs.told b.0 b.1 in
    let empty = a.2.named ∙ emptied (t.holds name) in
    (c.0, ap (λ (d : Disk). d.told) same ∙ c.1, inr (inr (inr (c.2.named ∙ b.2.named ∙ ap (λ (h : Option (List ℕ)). Some (written 0 bytes (bytes_of h))) empty ∙ whole bytes))))

-- ---- outcomes of plans one after another

pub outcome_goes : {E A B : Type 0} (held : List ℕ → Option (List ℕ)) (p : Plan E A) (f : A → Plan E B) (value : A) → outcome held p ≡ Ok value → outcome held (followed_by p f) ≡ outcome held (f value)
unfolding followed_by
outcome_goes held (Done v) f value is = let e : v ≡ value = cc in ap (λ a. outcome held (f a)) e
outcome_goes held (Refuse refusal) f value is = absurd cc
outcome_goes held (Room next) f value is = outcome_goes held next f value is
outcome_goes held (Act action next) f value is = outcome_goes held (next (answer_of held action)) f value is

pub outcome_stops : {E A B : Type 0} (held : List ℕ → Option (List ℕ)) (p : Plan E A) (f : A → Plan E B) (refusal : E) → outcome held p ≡ Err refusal → outcome held (followed_by p f) ≡ Err refusal
unfolding followed_by
outcome_stops held (Done v) f refusal is = absurd cc
outcome_stops held (Refuse r) f refusal is = let e : r ≡ refusal = cc in ap (λ a. Err a) e
outcome_stops held (Room next) f refusal is = outcome_stops held next f refusal is
outcome_stops held (Act action next) f refusal is = outcome_stops held (next (answer_of held action)) f refusal is
