-- The cells of 4 or 8 bits in bytes.
-- Assumes nothing.
use mathlib.Core.Path.{◌≡◌, refl, sym, ap}
use mathlib.Core.Bool.{Bool}
use mathlib.Core.List.{List, append_assoc}
use mathlib.Core.Logic.{◌⊎◌, ⊎_elim}
use Prim.Native.Nat.{ℕ, ◌+◌, ◌*◌, ◌/◌, ◌%◌, ◌^◌, ◌≤◌, ◌<◌}
use native.Mathlib.Nat.{min-le_left, lt_of_lt_of_le}
use native.Mathlib.Omega.{arith}
use lib.ListN.{length, take, drop, get_or, drop_of_length-le, length-take}
use lib.Pow.{pow_mono}
use lib.Seq.{take_at, drop_at, drop-drop}
use Rattle.standard.specs.Bits.{high_first, ordered, bits_of, value_of, low_value, bits_in}
use Rattle.standard.proofs.BitLaws.{length-bits_of, length-bits_in, bits_in-drop, value_of-bits_of, value_of-lt}
use Rattle.standard.proofs.Tests.{lt-or-le}
use borrow.Author.Tests.{eq-eqb, ne_eqb}
use Rattle.standard.proofs.PutBits.{byte-halves}
use Rattle.octets.specs.Cells.{cell_in}
use Rattle.octets.specs.Nibbles.{nibble_of}
use Rattle.standard.proofs.HighBits.{value-mod}
use Rattle.octets.proofs.Clear.{first_byte}

module _ (s : List ℕ) (bytes : (i : ℕ) → get_or s i 0 < 256) (n : ℕ) where
  pub cell-wide : n < length s → cell_in 8 s n ≡ get_or s n 0
  unfolding cell_in
  cell-wide h =
      let e : n * 8 ≡ 8 * n = omega arith in
      rw (e, bits_in-drop, first_byte high_first s n h, take_at (bits_of high_first 8 _) _ 8 (length-bits_of high_first 8 _), value_of-bits_of high_first 8 (get_or s n 0) (bytes n))

  pub cell-past : length s ≤ n → cell_in 8 s n ≡ 0
  unfolding cell_in value_of ordered low_value
  cell-past h = ap (λ (l : List Bool). value_of high_first (take 8 l)) (drop_of_length-le (bits_in high_first s) {i = n * 8} (omega (arith, length-bits_in high_first s)))

  pub cell-even : n / 2 < length s → n % 2 ≡ 0 → cell_in 4 s n ≡ get_or s (n / 2) 0 / 16
  unfolding cell_in
  cell-even h z =
      let k : ℕ = n / 2 in
      let e : n * 4 ≡ 8 * k = omega arith in
      let x : ℕ = get_or s k 0 in
      rw (e, bits_in-drop, first_byte high_first s k h, byte-halves, append_assoc, take_at (bits_of high_first 4 _) _ 4 (length-bits_of high_first 4 _))
      (value_of-bits_of high_first 4 (x / 16) (omega (arith, bytes k)))

  pub cell-odd : n / 2 < length s → n % 2 ≡ 1 → cell_in 4 s n ≡ get_or s (n / 2) 0 % 16
  unfolding cell_in
  cell-odd h z =
      let k : ℕ = n / 2 in
      let e : n * 4 ≡ 8 * k + 4 = omega arith in
      let x : ℕ = get_or s k 0 in
      rw (e, ← drop-drop, bits_in-drop, first_byte high_first s k h, byte-halves, append_assoc)
      (rw (drop_at (bits_of high_first 4 (x / 16)) _ 4 (length-bits_of high_first 4 _), take_at (bits_of high_first 4 x) _ 4 (length-bits_of high_first 4 x), value-mod))

  -- a nibble is a cell of four bits
  pub nibble-is : n / 2 < length s → nibble_of (get_or s (n / 2) 0) n ≡ cell_in 4 s n
  nibble-is h =
      ⊎_elim (λ l. rw (eq-eqb (n % 2) 0 (omega arith)) (sym (cell-even h (omega arith))))
      (λ l. rw (ne_eqb (n % 2) 0 (λ z. omega arith)) (sym (cell-odd h (omega arith)))) (lt-or-le (n % 2) 1)

-- a width that is not 8 is 4
pub narrow : (w : ℕ) → (w ≡ 4) ⊎ (w ≡ 8) → (w ≡ 8 → ⊥) → w ≡ 4
narrow w h n = ⊎_elim (λ e. e) (λ e. absurd (n e)) h

-- a cell, and a nibble of a byte, are below their bound
pub cell-in-lt : (s : ℕ) (bytes : List ℕ) (n : ℕ) → cell_in s bytes n < 2 ^ s
unfolding cell_in
cell-in-lt s bytes n =
    let piece : List Bool = take s (drop (n * s) (bits_in high_first bytes)) in
    lt_of_lt_of_le (value_of-lt high_first (length piece) piece refl) (pow_mono (rw length-take (min-le_left s _)))

pub nibble-below : (x n : ℕ) → x < 256 → nibble_of x n < 16
nibble-below x n h =
    ⊎_elim (λ l. rw (eq-eqb (n % 2) 0 (omega arith)) (omega arith)) (λ l. rw (ne_eqb (n % 2) 0 (λ z. omega arith)) (omega arith)) (lt-or-le (n % 2) 1)
