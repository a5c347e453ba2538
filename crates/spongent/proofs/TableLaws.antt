-- The table of look-ups, made from a table of what each byte gives to the planes; and what look-ups sum up to.
-- Assumes nothing.
use mathlib.Core.Path.{◌≡◌, ap, ◌∙◌, refl, sym, ap₂}
use mathlib.Core.List.{List}
use mathlib.Core.Logic.{⊎_elim}
use Prim.Native.Nat.{ℕ, ◌+◌, ◌*◌, ◌/◌, ◌%◌, ◌^◌, ◌<◌, zero, suc, ◌≤◌}
use native.Mathlib.Omega.{arith}
use native.Mathlib.Nat.{add-mul, mul_right_comm, mod-eq_of_lt, lt_of_lt_of_le, zero-div, le_of_suc-le-suc, not-suc-le-zero, eq-or-lt_of_le}
use lib.Pow.{shl_exact, shl_lt, pow_mono, pow-add, high, low}
use lib.ListN.{get_or}
use lib.Arith.{digits_lt}
use lib.Bits.{bit_xor, xor_comm, xor_shifted}
use Rattle.standard.specs.Grid.{tab}
use Rattle.standard.proofs.Tab.{length-tab, get_d-tab}
use Rattle.standard.proofs.Tests.{zero-to-three}
use Rattle.octets.proofs.Upto.{Upto}
use Rattle.spongent.specs.Words.{s_box_byte, spread_of, look_up, ByteTable, word_table_size, WordTable, spread_word}
use Rattle.spongent.specs.Pairs.{plane_pair}
use Rattle.spongent.proofs.Places.{pair_lt}
use Rattle.spongent.proofs.Shifts.{masked, xored}

-- what a byte gives to the planes leaves room for the shift to each place
spread-lt : (y : ℕ) → spread_of y < 2 ^ 50
unfolding spread_of
spread-lt y = omega (arith, pair_lt 0 y, pair_lt 1 y, pair_lt 2 y, pair_lt 3 y)

-- the table that the rule makes. A table that is written out is held to it entry by entry, which is computed.
pub spread-table : (box : List ℕ) → ByteTable box (tab 256 (λ x. spread_of (s_box_byte box x)))
spread-table box = record { size = length-tab 256 (λ k. spread_of (s_box_byte box k)); entry = λ x h. get_d-tab 256 (λ k. spread_of (s_box_byte box k)) x 0 h }

pub look-up-shifted : (box table : List ℕ) → ByteTable box table → (i : ℕ) → i < word_table_size
    → get_or table (i % 256) 0 * 2 ^ (2 * (i / 256)) % 2 ^ 64 ≡ look_up box (i / 256) (i % 256)
unfolding look_up
look-up-shifted box table s i h =
    ap (λ (x : ℕ). x * 2 ^ (2 * (i / 256)) % 2 ^ 64) (s.entry (i % 256) (omega arith))
    ∙ shl_exact 50 (2 * (i / 256)) 64 (spread-lt (s_box_byte box (i % 256))) (omega arith)

-- the first i look-ups are written
abbrev pub Copied : List ℕ → ℕ → List ℕ → List ℕ → Type 0
Copied box i xs ys = Upto 0 (λ k y. y ≡ look_up box (k / 256) (k % 256)) word_table_size i xs ys

pub copied_all : (box xs ys : List ℕ) → Copied box word_table_size xs ys → WordTable box ys
copied_all box xs ys u =
    record {
      size = u.len;
      entry = λ k x hk hx.
          let j : ℕ = 256 * k + x in
          let ek : j / 256 ≡ k = omega arith in
          let ex : j % 256 ≡ x = omega arith in
          rw (ek, ex) at (u.done j (omega arith));
    }

-- ---- look-ups of the bytes of a word, summed: in each lane the pairs that they give to its plane, one after the other

-- ---- pairs one after the other

-- the number with the pair f k at place k, for each k below n
unfoldable pub row : (ℕ → ℕ) → ℕ → ℕ
row f zero = 0
row f (suc n) = f n * 2 ^ (2 * n) + row f n

module _ (f : ℕ → ℕ) (h : (k : ℕ) → f k < 4) where
  pub row_lt : (n : ℕ) → row f n < 2 ^ (2 * n)
  unfolding row
  row_lt zero = omega arith
  row_lt (suc n) =
      let e : 2 + 2 * n ≡ 2 * suc n = omega arith in
      let wide : 2 ^ (2 + 2 * n) ≡ 4 * 2 ^ (2 * n) = pow-add 2 2 (2 * n) in
      rw (← e, wide) (digits_lt (h n) (row_lt n))

  pub row_at : (n i : ℕ) → i < n → row f n / 2 ^ (2 * i) % 4 ≡ f i
  unfolding row
  row_at zero i l = absurd (not-suc-le-zero l)
  row_at (suc n) i l =
      ⊎_elim
      (λ (e : i ≡ n). rw e (ap (λ (y : ℕ). y % 4) (high (f n) (2 * n) (row_lt n)) ∙ mod-eq_of_lt (h n)))
      (λ (m : i < n).
      let x : ℕ = f n * 2 ^ (2 * n) + row f n in
      sym (masked x (2 * n) (2 * i) 2 (omega arith)) ∙ ap (λ (y : ℕ). y / 2 ^ (2 * i) % 4) (low (f n) (2 * n) (row_lt n)) ∙ row_at n i m)
      (eq-or-lt_of_le (le_of_suc-le-suc l))

-- ---- the lanes of a look-up

-- a lane of 16 bits
abbrev pub lane : ℕ → ℕ → ℕ
lane x b = x / 2 ^ (16 * b) % 65536

lanes-times : (x y z u f : ℕ) → (x + y * 2 ^ 16 + z * 2 ^ 32 + u * 2 ^ 48) * f ≡ x * f + y * f * 2 ^ 16 + z * f * 2 ^ 32 + u * f * 2 ^ 48
lanes-times x y z u f =
    add-mul (x + y * 2 ^ 16 + z * 2 ^ 32) (u * 2 ^ 48) f
    ∙ ap₂ (λ (k l : ℕ). k + l)
    (add-mul (x + y * 2 ^ 16) (z * 2 ^ 32) f
    ∙ ap₂ (λ (k l : ℕ). k + l) (add-mul x (y * 2 ^ 16) f ∙ ap (λ (l : ℕ). x * f + l) (mul_right_comm y (2 ^ 16) f)) (mul_right_comm z (2 ^ 32) f))
    (mul_right_comm u (2 ^ 48) f)

four_lanes : (x y z u : ℕ) → x < 65536 → y < 65536 → z < 65536 → u < 65536 → (P : ℕ → ℕ) → P 0 ≡ x → P 1 ≡ y → P 2 ≡ z → P 3 ≡ u
    → (b : ℕ) → b < 4 → lane (x + y * 2 ^ 16 + z * 2 ^ 32 + u * 2 ^ 48) b ≡ P b
four_lanes x y z u hx hy hz hu P ex ey ez eu =
    zero-to-three (λ b. lane (x + y * 2 ^ 16 + z * 2 ^ 32 + u * 2 ^ 48) b ≡ P b) (omega arith) (omega arith) (omega arith) (omega arith)

pub look-up-lane : (box : List ℕ) (k x b : ℕ) → k < 8 → b < 4 → lane (look_up box k x) b ≡ plane_pair b (s_box_byte box x) * 2 ^ (2 * k)
unfolding look_up spread_of
look-up-lane box k x b hk hb =
    let y : ℕ = s_box_byte box x in
    let f : ℕ = 2 ^ (2 * k) in
    ap (λ (l : ℕ). lane l b) (lanes-times (plane_pair 0 y) (plane_pair 1 y) (plane_pair 2 y) (plane_pair 3 y) f)
    ∙ four_lanes (plane_pair 0 y * f) (plane_pair 1 y * f) (plane_pair 2 y * f) (plane_pair 3 y * f) (fits 0) (fits 1) (fits 2) (fits 3)
    (λ (c : ℕ). plane_pair c y * f) refl refl refl refl b hb
  where
    fits : (c : ℕ) → plane_pair c (s_box_byte box x) * 2 ^ (2 * k) < 65536
    fits c = lt_of_lt_of_le (shl_lt 2 (2 * k) (pair_lt c (s_box_byte box x))) (pow_mono {i = 2 + 2 * k} {j = 16} (omega arith))

-- ---- the lanes of the sum

-- what the byte k of a word gives to plane b
abbrev pub given : List ℕ → ℕ → ℕ → ℕ → ℕ
given box w b k = plane_pair b (s_box_byte box (w / 2 ^ (8 * k) % 256))

pub spread-lane : (box : List ℕ) (w b n : ℕ) → b < 4 → n ≤ 8 → lane (spread_word box n w) b ≡ row (given box w b) n
unfolding spread_word row
spread-lane box w b zero hb hn = ap (λ (x : ℕ). x % 65536) (zero-div (2 ^ (16 * b)))
spread-lane box w b (suc n) hb hn =
    let p : ℕ = given box w b n in
    let r : ℕ = row (given box w b) n in
    xored (spread_word box n w) (look_up box n (w / 2 ^ (8 * n) % 256)) (16 * b) 16
    ∙ ap₂ bit_xor (spread-lane box w b n hb (omega arith)) (look-up-lane box n (w / 2 ^ (8 * n) % 256) b hn hb)
    ∙ xor_comm r (p * 2 ^ (2 * n))
    ∙ xor_shifted p (2 * n) r (row_lt (given box w b) (λ k. pair_lt b (s_box_byte box (w / 2 ^ (8 * k) % 256))) n)
