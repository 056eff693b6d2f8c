-- Bytes drawn in order from the generator are words of its stream.
use Rattle.std.proofs.Common.{◌≡◌, ℕ, zero, suc, ◌+◌, ◌%◌, ◌^◌, ◌<◌, List, [], ◌++◌, take, sym, ap, ◌∙◌, add-zero, arith}
use Rattle.std.specs.Int.{w32, to_le_bytes}
use Rattle.std.proofs.lemmas.List.{take_all}
use Rattle.rand_core.specs.Steps.{word_bytes, fill_via_u32}
use Rattle.rand_chacha.specs.ChaCha.{ChaCha, word_at, next_word}
use Rattle.nr_spec_keys.specs.Pieces.{joined}
use Rattle.nr_spec_keys.specs.OneTime.{words_of}
use Rattle.nr_spec_keys.proofs.LeafLemmas.{length-words_of}

abbrev pub onward : ℕ → ChaCha → ChaCha
onward k g = record g { word_pos = g.word_pos + k }

pub word_bytes-next_word : (k : ℕ) (g : ChaCha) → g.word_pos + k < 2 ^ 68
    → word_bytes (to_le_bytes w32) (next_word 10) k g ≡ (joined (λ j. to_le_bytes w32 (word_at 10 g.key g.stream (g.word_pos + j))) k, onward k g)
unfolding word_bytes joined
word_bytes-next_word zero g room = ap (λ (n : ℕ). ([], record g { word_pos = n })) (sym (add-zero g.word_pos))
word_bytes-next_word (suc k) g room =
    let words = λ (j : ℕ). to_le_bytes w32 (word_at 10 g.key g.stream (g.word_pos + j)) in
    let before = word_bytes-next_word k g (omega arith) in
    let place : (g.word_pos + k + 1) % 2 ^ 68 ≡ g.word_pos + suc k = omega arith in
    ap (λ (p : List ℕ × ChaCha). (p.0 ++ to_le_bytes w32 (next_word 10 p.1).0, (next_word 10 p.1).1)) before
    ∙ ap (λ (n : ℕ). (joined words k ++ words k, record g { word_pos = n })) place

-- a secret's worth of bytes
pub fill-words_of : (g : ChaCha) → g.word_pos + 8 < 2 ^ 68 → fill_via_u32 (next_word 10) 32 g ≡ (words_of g.key g.stream g.word_pos, onward 8 g)
unfolding words_of
fill-words_of g room =
    ap (λ (p : List ℕ × ChaCha). (take 32 p.0, p.1)) (word_bytes-next_word 8 g room)
    ∙ ap (λ (xs : List ℕ). (xs, onward 8 g)) (take_all 32 (words_of g.key g.stream g.word_pos) (omega (arith, length-words_of g.key g.stream g.word_pos)))
