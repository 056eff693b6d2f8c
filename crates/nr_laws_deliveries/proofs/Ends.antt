-- The head of a frame, as its receiver asks for it.
use Rattle.std.proofs.Common.{◌≡◌, ℕ, zero, suc, ◌+◌, ◌-◌, ◌^◌, ◌<◌, ◌≤◌, ◌&&◌, Bool, true, false, cond, List, [], ◌∷◌, ◌++◌, length, map, take, drop, refl, sym, ap, ◌∙◌, eq-eqb, arith}
use Rattle.std.specs.Str.{bytes_eq}
use Rattle.std.proofs.lemmas.Nat.{mod_below, pow_pos}
use Rattle.std.proofs.lemmas.List.{length-append, length-map, length-take-le, take-append-drop}
use Rattle.std.proofs.lemmas.Slice.Eq.{bytes_eq-Decides}
use Rattle.sha2.specs.Sha256.{sha256}
use Rattle.nr_spec_log.specs.Chain.{Chain, ChainItem, LogEntry, chained, shown, value_after}
use Rattle.nr_spec_log.specs.Answer.{last_time}
use Rattle.nr_spec_keys.proofs.TreeLemmas.{signature_by-leads}
use Rattle.nr_spec_history.specs.Conflicts.{is_signed}
use Rattle.nr_spec_history.specs.KeyFiles.{Key, key_root}
use Rattle.nr_spec_entry.specs.ContentReading.{content_of}
use Rattle.nr_spec_frames.specs.Frames.{FrameItem, Hidden, Shown, item_time}
use Rattle.nr_spec_frames.specs.Showing.{names, seen_by}
use Rattle.nr_spec_frames.specs.Verdicts.{chain_after, chain_item, frame_value, is_signed_end, last_item_time, last_seq}
use Rattle.nr_spec_steps.specs.Heads.{head_body, head_of, last_leaf, log_chain}
use Rattle.nr_spec_deliveries.specs.Sending.{frame_for}

-- ---- the items

as_shown : (b : Bool) (e : LogEntry) → chain_item (cond b (Shown e) (Hidden e.time e.kind (sha256 e.content))) ≡ shown e
as_shown true e = refl
as_shown false e = refl

at_time : (b : Bool) (e : LogEntry) → item_time (cond b (Shown e) (Hidden e.time e.kind (sha256 e.content))) ≡ e.time
at_time true e = refl
at_time false e = refl

chain_seen : (n : ℕ) (chain : Chain) (es : List LogEntry) → (chain_after chain (map (seen_by n) es)).value ≡ value_after chain es
chain_seen n chain [] = refl
chain_seen n chain (e ∷ es) =
    ap (λ (i : ChainItem). (chain_after (chained chain i) (map (seen_by n) es)).value) (as_shown (names n (content_of e)) e)
    ∙ chain_seen n (chained chain (shown e)) es

time_seen : (n before : ℕ) (es : List LogEntry) → last_item_time before (map (seen_by n) es) ≡ last_time before es
time_seen n before [] = refl
time_seen n before (e ∷ es) =
    ap (λ (t : ℕ). last_item_time t (map (seen_by n) es)) (at_time (names n (content_of e)) e) ∙ time_seen n e.time es

-- ---- what stands before them

value_behind : (chain : Chain) (first others : List LogEntry) → value_after (record { value = value_after chain first; seq = chain.seq + length first }) others ≡ value_after chain (first ++ others)
value_behind chain [] others =
    let same : chain.seq + 0 ≡ chain.seq = omega arith in
    ap (λ (k : ℕ). value_after (record { value = chain.value; seq = k }) others) same
value_behind chain (e ∷ es) others =
    let next : chain.seq + length (e ∷ es) ≡ chain.seq + 1 + length es = omega arith in
    ap (λ (k : ℕ). value_after (record { value = value_after (chained chain (shown e)) es; seq = k }) others) next
    ∙ value_behind (chained chain (shown e)) es others

time_behind : (before : ℕ) (first others : List LogEntry) → 0 < length others → last_time 0 others ≡ last_time before (first ++ others)
time_behind before [] [] some = absurd (omega arith)
time_behind before [] (e ∷ es) some = refl
time_behind before (x ∷ xs) others some = time_behind x.time xs others some

take_take : (k n : ℕ) (l : List LogEntry) → k ≤ n → take k (take n l) ≡ take k l
take_take zero n l less = refl
take_take (suc k) zero l less = absurd (omega arith)
take_take (suc k) (suc n) [] less = refl
take_take (suc k) (suc n) (x ∷ xs) less = ap (λ (t : List LogEntry). x ∷ t) (take_take k n xs (omega arith))

whole : {A : Type 0} (n : ℕ) (l : List A) → n ≡ length l → take n l ≡ l
whole zero [] is = refl
whole zero (x ∷ xs) is = absurd (omega arith)
whole (suc n) [] is = refl
whole (suc n) (x ∷ xs) is = ap (λ (t : List _). x ∷ t) (whole n xs (omega arith))

-- ---- the head

bytes_same : (x y : List ℕ) → x ≡ y → bytes_eq x y ≡ true
bytes_same x y is = (bytes_eq-Decides x y).1 is

head_is_signed : (key : Key) (log : List LogEntry) → is_signed (key_root key) (head_of key log) ≡ true
unfolding head_of key_root
head_is_signed key log =
    let body = head_body key.asn (length log) (last_time 0 log) (value_after (log_chain key.asn) log) in
    let leaf = last_leaf key.height log in
    bytes_same _ _ (signature_by-leads key.seed body key.height leaf (mod_below _ (2 ^ key.height) (pow_pos key.height)))

both : (a b : Bool) → a ≡ true → b ≡ true → (a && b) ≡ true
both true b one other = other
both false b one other = absurd cc

pub signed_end : (key : Key) (to_as n : ℕ) (log : List LogEntry) (after k : ℕ) → after < k → k ≤ length log → is_signed_end (key_root key) (frame_for key to_as n log after k) ≡ true
unfolding frame_for head_of
signed_end key to_as n log after k less within =
    let first = take after (take k log) in
    let others = drop after (take k log) in
    let upto : length (take k log) ≡ k = length-take-le k log within in
    let before : length first ≡ after = length-take-le after (take k log) (omega (arith, upto, less)) in
    let all : first ++ others ≡ take k log = take-append-drop after (take k log) in
    let long : length first + length others ≡ k = sym (length-append first others) ∙ ap length all ∙ upto in
    let many = length-map others (seen_by n) in
    let seq : length (take k log) ≡ after + 1 + length (map (seen_by n) others) - 1 = omega (arith, upto, before, long, many) in
    let taken : after + 1 + length (map (seen_by n) others) - 1 + 1 - (after + 1) ≡ length (map (seen_by n) others) = omega arith in
    let start : take after log ≡ first = sym (take_take after k log (omega (arith, less))) in
    let at : after + 1 ≡ 1 + length first = omega (arith, before) in
    let chain : Chain = record { value = value_after (log_chain key.asn) (take after log); seq = after + 1 } in
    let value : value_after (log_chain key.asn) (take k log) ≡ frame_value (frame_for key to_as n log after k) (last_seq (frame_for key to_as n log after k)) =
    ap (value_after (log_chain key.asn)) (sym all)
    ∙ sym (value_behind (log_chain key.asn) first others)
    ∙ (λ i. value_after (record { value = value_after (log_chain key.asn) (sym start i); seq = sym at i }) others)
    ∙ sym (chain_seen n chain others)
    ∙ ap (λ (l : List FrameItem). (chain_after chain l).value) (sym (whole (after + 1 + length (map (seen_by n) others) - 1 + 1 - (after + 1)) (map (seen_by n) others) taken)) in
    both _ _ (head_is_signed key (take k log))
    (both _ _ (eq-eqb key.asn key.asn refl)
    (both _ _ (eq-eqb _ _ seq)
    (both _ _ (eq-eqb _ _ (sym (time_seen n 0 others ∙ time_behind 0 first others (omega (arith, long, before, less)) ∙ ap (last_time 0) all)))
    (bytes_same _ _ value))))
