-- What it means that receipts stand among what was sent.
use Rattle.std.specs.Prelude.{◌≡◌, ℕ, suc, ◌+◌, ◌<◌, ◌≤◌, ◌⊎◌, List, [], ◌∷◌, ◌++◌, length, take}
use Rattle.std.specs.List.{filter_map}
use Rattle.nr_spec_log.specs.Chain.{LogEntry}
use Rattle.nr_spec_entry.specs.ContentReading.{content_of}
use Rattle.nr_spec_frames.specs.Verdicts.{received_from}

-- in order, and each equal to the message at which it stands
abbrev pub Among : (receipts sends : List (List ℕ)) → Type 0
Among [] ss = Unit {0}
Among (r ∷ rs) [] = ⊥
Among (r ∷ rs) (s ∷ ss) = ((r ≡ s) × Among rs ss) ⊎ Among (r ∷ rs) ss

-- the same, where the last stands at the end: no message is left after it
abbrev pub Tight : (receipts sends : List (List ℕ)) → Type 0
Tight [] [] = Unit {0}
Tight [] (s ∷ ss) = ⊥
Tight (r ∷ rs) [] = ⊥
Tight (r ∷ rs) (s ∷ ss) = ((r ≡ s) × Tight rs ss) ⊎ Tight (r ∷ rs) ss

-- What came stands in order among the first u messages; the last of it is the u-th, and where nothing came u is 0.
pub record Received (came sends : List (List ℕ)) (u : ℕ) : Type 0 where
  pub within : u ≤ length sends
  pub in_order : Among came (take u sends)
  pub last : (before : List (List ℕ)) (raw : List ℕ) → came ≡ before ++ raw ∷ []
      → (first : List (List ℕ)) × (take u sends ≡ first ++ raw ∷ [])
  pub none : came ≡ [] → u ≡ 0

-- Receipt j, counted from i, is disputed: those before it stand in order, and with it they don't.
pub record IsFirstLeft (i j : ℕ) (receipts sends : List (List ℕ)) : Type 0 where
  pub before : ℕ
  pub place : j ≡ i + before
  pub known : before < length receipts
  pub stand : Among (take before receipts) sends
  pub fails : Among (take (suc before) receipts) sends → ⊥

-- ---- the messages of a log

-- the messages of the RECV entries with this neighbour
abbrev pub recvs : ℕ → List LogEntry → List (List ℕ)
recvs n log = filter_map (λ e. received_from n (content_of e)) log

-- What came from neighbour n up to entry `seq` of a log stands tight in the first `upto` of these messages.
pub record Stands (n : ℕ) (log : List LogEntry) (sends : List (List ℕ)) (upto seq : ℕ) : Type 0 where
  pub known : seq ≤ length log
  pub within : upto ≤ length sends
  pub tight : Tight (recvs n (take seq log)) (take upto sends)
