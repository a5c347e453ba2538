-- What is promised of the standard's definitions, each promise a type: `proofs/` has a theorem of each.
-- Assumes nothing.
use Rattle.std.specs.Prelude.{◌≡◌, Bool, true, ℕ, ◌*◌, ◌%◌, ◌≤◌, ◌<◌, length, take, get_or}
use mathlib.Core.List.{List, [], ◌∷◌, map, tail}
use Rattle.standard.specs.Rounds.{opposite, iterate}
use Rattle.standard.specs.declared.Direction.{Direction}
use Rattle.standard.specs.Spongent.{SpongentParameters}
use Rattle.standard.specs.Counters.{counter_in, reversal, stepped_counter, stepped_reversed}
use Rattle.standard.specs.Lesamnta.{cipher}
use Rattle.standard.specs.Families.{Permutation, spongent, sponge, is_sponge}
use Rattle.standard.specs.Sponge.{permutation}
use Rattle.standard.specs.Chain.{start_state, blocks_of, Blocks, DifferAt, step, run, end_state}
use Rattle.standard.specs.Messages.{message_bits}
use Rattle.standard.specs.PartBytes.{SameMessage}
use Rattle.standard.specs.Values.{DifferWithin, in_one_block, period, one_block_offsets}
use Rattle.standard.specs.Variants.{variants, variant, known}
use Rattle.standard.specs.KnownValues.{AllHold, known_rows}

-- Demand 2: the permutation of every sponge and its inverse undo each other, in both orders, on every state of t bits.
abbrev pub PermutationUndo : Type 0
PermutationUndo =
    (v : ℕ) (P : Permutation) (r' : ℕ) → (variant v).family ≡ sponge P r' → (w : Direction) (s : List Bool)
    → length s ≡ (variant v).t
    → permutation P (opposite w) (permutation P w s) ≡ s

-- Document 02, Q-7: the block cipher of Lesamnta-LW and its inverse undo each other, in both orders, under every key
-- and on every state of 256 bits.
abbrev pub CipherUndo : Type 0
CipherUndo = (w : Direction) (key s : List Bool) → length s ≡ 256 → cipher (opposite w) key (cipher w key s) ≡ s

-- Demand 3, first sentence: of two rows of blocks of a sponge, of equal count, that differ at exactly one place i, the
-- whole states after k blocks from the start state are equal up to that place, and differ from that block on.
abbrev pub OneChangedBlock : Type 0
OneChangedBlock = (v : ℕ) → is_sponge (variant v) ≡ true → (xs ys : List (List Bool)) (i k : ℕ)
    → Blocks (variant v).r xs → Blocks (variant v).r ys → DifferAt i xs ys → k ≤ length xs
    → (k ≤ i → run (variant v) (start_state (variant v)) (take k xs) ≡ run (variant v) (start_state (variant v)) (take k ys))
    × (i < k → run (variant v) (start_state (variant v)) (take k xs) ≡ run (variant v) (start_state (variant v)) (take k ys) → ⊥)

-- So, of a sponge, two messages whose padded rows have equal count and differ at exactly one place have different end
-- states,
abbrev pub OneChangedRow : Type 0
OneChangedRow =
    (v : ℕ) → is_sponge (variant v) ≡ true → (i : ℕ) (x y : List Bool)
    → DifferAt i (blocks_of (variant v) x) (blocks_of (variant v) y)
    → end_state (variant v) x ≡ end_state (variant v) y → ⊥

-- and so have two messages of equal length that differ, and only within the bits of one block (document 02, Q-6: inside
-- such traces).
abbrev pub OneChangedPart : Type 0
OneChangedPart =
    (v : ℕ) → is_sponge (variant v) ≡ true → (j : ℕ) (x y : List Bool)
    → DifferWithin (j * (variant v).r) (variant v).r x y
    → end_state (variant v) x ≡ end_state (variant v) y → ⊥

-- Document 02, Q-7: in every variant, from one state of t bits two different blocks never lead to one next state.
abbrev pub BlocksTell : Type 0
BlocksTell =
    (v : ℕ) → known v ≡ true → (s a b : List Bool) → length s ≡ (variant v).t → length a ≡ (variant v).r
    → length b ≡ (variant v).r
    → step (variant v) s a ≡ step (variant v) s b → a ≡ b

-- For document 02, Q-6: in every variant, two different bit strings never have the same padded row of blocks.
abbrev pub RowsTell : Type 0
RowsTell = (v : ℕ) → known v ≡ true → (x y : List Bool) → blocks_of (variant v) x ≡ blocks_of (variant v) y → x ≡ y

-- Document 02, Q-4: in each round of a SPONGENT variant's permutation, and of its inverse, the counter is the first
-- round's, stepped as many times,
abbrev pub CounterInEachRound : Type 0
CounterInEachRound =
    (v : ℕ) (p : SpongentParameters) (r' : ℕ) → (variant v).family ≡ sponge (spongent p) r' → (way : Direction) (k : ℕ)
    → k < p.R
    → counter_in p way k ≡ iterate k (stepped_counter way p.width p.taps) (counter_in p way 0)

-- and its reversal to t bits, which c_addition adds, is the first round's, stepped as many times from its own bits.
abbrev pub ReversedInEachRound : Type 0
ReversedInEachRound =
    (v : ℕ) (p : SpongentParameters) (r' : ℕ) → (variant v).family ≡ sponge (spongent p) r' → (way : Direction) (k : ℕ)
    → k < p.R
    → reversal p.t (counter_in p way k)
    ≡ iterate k (stepped_reversed way p.t p.width p.taps) (reversal p.t (counter_in p way 0))

-- Every known value of the list is what the definitions give.
abbrev pub KnownValuesHold : Type 0
KnownValuesHold = AllHold known_rows

-- For document 02, Q-6: two messages of bytes, of whose last ones k and l bits count, are one message where their
-- padded rows are equal.
abbrev pub MessageTold : Type 0
MessageTold =
    (v : ℕ) → known v ≡ true → (x y : List ℕ) → ((i : ℕ) → get_or x i 0 < 256) → ((i : ℕ) → get_or y i 0 < 256)
    → 0 < length x → 0 < length y
    → (k l : ℕ) → 1 ≤ k → k ≤ 8 → 1 ≤ l → l ≤ 8
    → blocks_of (variant v) (message_bits (variant v) x k) ≡ blocks_of (variant v) (message_bits (variant v) y l)
    → SameMessage (variant v) x k y l

-- Whether a value of n bytes lies in one block depends on its offset within the period alone,
abbrev pub InOneBlockMod : Type 0
InOneBlockMod =
    (v : ℕ) → known v ≡ true → (n p : ℕ)
    → in_one_block (variant v) p n ≡ in_one_block (variant v) (p % period (variant v)) n

-- and these are the periods of the ten sponges, each with the offsets at which a value of two bytes lies in one block.
abbrev pub TwoByteValues : Type 0
TwoByteValues =
    map (one_block_offsets 2) (take 10 (tail variants))
    ≡ (5, 0 ∷ 3 ∷ []) ∷ (2, 0 ∷ []) ∷ (9, 0 ∷ 1 ∷ 2 ∷ 5 ∷ 6 ∷ 7 ∷ []) ∷ (4, 0 ∷ 1 ∷ 2 ∷ []) ∷ (4, 0 ∷ 1 ∷ 2 ∷ [])
    ∷ (1, []) ∷ (1, []) ∷ (2, 0 ∷ []) ∷ (2, 0 ∷ []) ∷ (2, 0 ∷ []) ∷ []
