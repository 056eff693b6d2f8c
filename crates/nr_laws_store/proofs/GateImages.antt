-- The images that a crash may leave at each of the two writes of an append.
use Rattle.std.proofs.Common.{◌≡◌, inl, inr, ℕ, ◌+◌, ◌-◌, ◌≤◌, Bool, true, false, List, [], ◌∷◌, ◌++◌, length, get_or, take, drop, Some, Ok, refl, sym, ap, subst, ◌∙◌, append_assoc, arith, ◌⊎◌}
use Rattle.std.proofs.lemmas.Bool.{eqb-true}
use Rattle.std.proofs.lemmas.List.{take_at, take-append-drop, length-append, drop_more}
use Rattle.std.proofs.Math.Seq.{drop-append-add}
use Rattle.nr_spec_plans.specs.Disk.{written, TornWrite}
use Rattle.nr_spec_log.specs.Chain.{LogEntry}
use Rattle.nr_spec_log.specs.Answer.{last_time}
use Rattle.nr_spec_store.specs.LogFile.{LogFile, IsLog, log_of, batch, is_open, with_batch}
use Rattle.nr_spec_store.specs.StoreCrashes.{HoldsEntries}
use Rattle.nr_laws_store.proofs.LogLaws.{IsGated, Follows, front_of, gated, open_gate, closed_gate, front_decides}

-- the log with the entries before, or with the whole batch
abbrev pub IsEither : LogFile → List LogEntry → List ℕ → Type 0
IsEither log es file = HoldsEntries file log log.entries ⊎ (log_of file ≡ Ok (Some (with_batch log es)))

-- After the front an image may hold any bytes.
pub torn_after : (log : LogFile) (es : List LogEntry) (n : ℕ) (file image : List ℕ) → IsLog log → log_of file ≡ Ok (Some log) → TornWrite (length log.front) n file image → IsEither log es image
torn_after log es n file image is e torn =
    let f = front_of file log e in
    let size = length log.front in
    let front : take size image ≡ log.front = torn.before ∙ ap (λ (t : List ℕ). take size t) f.parts ∙ take_at log.front f.rest size refl in
    let whole : image ≡ log.front ++ drop size image = sym (take-append-drop size image) ∙ ap (λ (t : List ℕ). t ++ drop size image) front in
    inl (record { front = log.front; holds = ap log_of whole ∙ front_decides log (drop size image) is })

-- either of the two gates
gate_cases : (log : LogFile) (es : List LogEntry) (image before : List ℕ) (gate : ℕ) (rest : List ℕ) (b : Bool) → is_open gate ≡ b → IsGated log before → Follows (last_time 0 log.entries) es
    → image ≡ before ++ gate ∷ (batch es ++ 0 ∷ rest) → IsEither log es image
gate_cases log es image before gate rest true opens g more whole =
    inr (ap log_of (whole ∙ ap (λ (x : ℕ). before ++ x ∷ (batch es ++ 0 ∷ rest)) (eqb-true _ _ opens)) ∙ open_gate log before es rest g more)
gate_cases log es image before gate rest false closed g more whole =
    inl (record { front = before ++ gate ∷ []; holds = ap log_of whole ∙ closed_gate log before gate (batch es ++ 0 ∷ rest) g closed })

-- The gate may hold any byte.
pub torn_gate : (log : LogFile) (es : List LogEntry) (file image : List ℕ) → IsLog log → Follows (last_time 0 log.entries) es → log_of file ≡ Ok (Some log)
    → TornWrite (length log.front - 1) 1 (written (length log.front) (batch es ++ 0 ∷ []) file) image → IsEither log es image
torn_gate log es file image is more e torn =
    let f = front_of file log e in
    let g = gated log is in
    let old = g.1.is_log.gate in
    let size = length log.front in
    let body = batch es ++ 0 ∷ [] in
    let less : size - 1 ≡ length g.0 = omega (arith, g.1.size_is) in
    let beyond = body ++ drop (length body) f.rest in
    let mid : written size body file ≡ g.0 ++ old ∷ beyond =
    ap (λ (t : List ℕ). written size body t) f.parts
    ∙ append_assoc (take size (log.front ++ f.rest)) body (drop (size + length body) (log.front ++ f.rest))
    ∙ ap (λ (t : List ℕ). t ++ (body ++ drop (size + length body) (log.front ++ f.rest))) (take_at log.front f.rest size refl)
    ∙ ap (λ (t : List ℕ). log.front ++ (body ++ t)) (drop-append-add log.front f.rest (length body))
    ∙ ap (λ (t : List ℕ). t ++ beyond) g.1.front_is ∙ append_assoc g.0 (old ∷ []) beyond in
    let front : take (size - 1) image ≡ g.0 =
    torn.before ∙ ap (λ (t : List ℕ). take (size - 1) t) mid ∙ ap (λ (k : ℕ). take k (g.0 ++ old ∷ beyond)) less ∙ take_at g.0 (old ∷ beyond) (length g.0) refl in
    let back : drop (size - 1 + 1) image ≡ beyond =
    torn.rest ∙ ap (λ (t : List ℕ). drop (size - 1 + 1) t) mid ∙ ap (λ (k : ℕ). drop (k + 1) (g.0 ++ old ∷ beyond)) less ∙ drop-append-add g.0 (old ∷ beyond) 1 in
    let long : length (g.0 ++ old ∷ beyond) ≤ length image = subst (λ (t : List ℕ). length t ≤ length image) mid torn.no_shorter in
    let gate = get_or image (size - 1) 0 in
    let rest : drop (size - 1) image ≡ gate ∷ beyond =
    drop_more image (size - 1) 0 (omega (arith, long, less, length-append g.0 (old ∷ beyond))) ∙ ap (λ (t : List ℕ). gate ∷ t) back in
    let whole : image ≡ g.0 ++ gate ∷ beyond = sym (take-append-drop (size - 1) image) ∙ ap (λ (t : List ℕ). t ++ drop (size - 1) image) front ∙ ap (λ (t : List ℕ). g.0 ++ t) rest in
    gate_cases log es image g.0 gate (drop (length body) f.rest) (is_open gate) refl g.1 more (whole ∙ ap (λ (t : List ℕ). g.0 ++ gate ∷ t) (append_assoc (batch es) (0 ∷ []) (drop (length body) f.rest)))
