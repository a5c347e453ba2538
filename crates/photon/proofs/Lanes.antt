-- The cells of a row that is held in one number: a sum of rows sums the cells, the doubling of a row doubles each, and shifts by whole cells turn it.
-- Assumes nothing.
use mathlib.Core.Path.{◌≡◌, refl, sym, ap, ◌∙◌}
use mathlib.Core.Bool.{Bool, true, false, cond}
use mathlib.Core.Logic.{⊎_elim}
use Prim.Native.Nat.{ℕ, zero, suc, ◌+◌, ◌-◌, ◌*◌, ◌/◌, ◌%◌, ◌^◌, ◌≤◌, ◌<◌, suc-le-suc}
use native.Mathlib.Nat.{zero-add, mod-lt, mod-eq_of_lt, mod-eq-sub-mod, div-eq_of_lt, div-eq_of_lt-le, div-div-eq-div-mul, div-lt_iff_lt-mul, div-add-mod', add-zero, add-suc, add-mul, mul-one, mul_assoc, mul_comm, mul-div_cancel, mul-mod_left, div-one, le_of_suc-le-suc, mul_right_comm, one-mul, zero-mul, mul-le-mul, pow-suc, zero-lt-suc, not-suc-le-zero}
use native.Mathlib.Omega.{arith}
use lib.Arith.{lt-one, digits_div, digits_mod, mod-mul}
use lib.Pow.{pow_pos, pow_mono, pow-add}
use mathlib.Core.List.{List}
use lib.ListN.{length, get_or}
use lib.Dec.{ltb}
use lib.Bits.{bit_xor, bit_and, xor_zero_l, xor_zero_r, xor_shr, xor_mod, and_shr, and_mod, and_mask}
use Rattle.std.specs.Int.{byte_at, bytes_low_first, to_le_bytes, from_le_bytes}
use Rattle.std.proofs.Common.{w64}
use Rattle.std.proofs.lemmas.Nat.{le_bytes_8}
use borrow.Author.Tests.{ltb-true, ltb-false}
use Rattle.standard.specs.Field.{double}
use Rattle.standard.specs.ForCode.{Modulus}
use Rattle.standard.proofs.Tests.{same-below, lt-or-le}
use Rattle.standard.proofs.FieldLaws.{double-lt}
use Rattle.photon.specs.Rows.{lane}

pub lane-lt : (j x : ℕ) → lane j x < 256
unfolding lane
lane-lt zero x = mod-lt x (zero-lt-suc 255)
lane-lt (suc j) x = lane-lt j (x / 256)

pub lane-zero : (j : ℕ) → lane j 0 ≡ 0
unfolding lane
lane-zero zero = refl
lane-zero (suc j) = lane-zero j

pub lane_xor : (j a b : ℕ) → lane j (bit_xor a b) ≡ bit_xor (lane j a) (lane j b)
unfolding lane
lane_xor zero a b = xor_mod a b 8
lane_xor (suc j) a b = ap (lane j) (xor_shr a b 8) ∙ lane_xor j (a / 256) (b / 256)

lane_and : (j a b : ℕ) → lane j (bit_and a b) ≡ bit_and (lane j a) (lane j b)
unfolding lane
lane_and zero a b = and_mod a b 8
lane_and (suc j) a b = ap (lane j) (and_shr a b 8) ∙ lane_and j (a / 256) (b / 256)

split : (y c : ℕ) → y * c ≡ y / 256 * c * 256 + y % 256 * c
split y c = rw (← mul_right_comm (y / 256) 256 c, ← add-mul, div-add-mod')

-- a product whose cells all fit
lane-mul : (j y c : ℕ) → ((i : ℕ) → i ≤ j → lane i y * c < 256) → lane j (y * c) ≡ lane j y * c
unfolding lane
lane-mul zero y c h = rw (split y c, digits_mod (y / 256 * c) (h 0 (omega arith)))
lane-mul (suc j) y c h =
    rw (split y c, digits_div (y / 256 * c) (h 0 (omega arith))) (lane-mul j (y / 256) c (λ i l. h (suc i) (suc-le-suc l)))

-- bit k of each cell
pub lane-bit : (j x k : ℕ) → k < 8 → lane j (x / 2 ^ k) % 2 ≡ lane j x / 2 ^ k % 2
unfolding lane
lane-bit zero x k h =
    let m : ℕ = 2 ^ (7 - k) in
    let whole : 256 ≡ m * 2 * 2 ^ k = same-below (λ i. 256) (λ i. 2 ^ (7 - i) * 2 * 2 ^ i) 8 tt k h in
    let mpos : 0 < m = pow_pos (7 - k) in
    let cut : x % 256 ≡ x / 2 ^ k % (m * 2) * 2 ^ k + x % 2 ^ k = rw (← whole) at (mod-mul x {m = m * 2} {c = 2 ^ k} (omega arith) (pow_pos k)) in
    rw (cut, digits_div (x / 2 ^ k % (m * 2)) (mod-lt x (pow_pos k)), mod-mul (x / 2 ^ k) {m = m} {c = 2} mpos (zero-lt-suc 1)) (omega arith)
lane-bit (suc j) x k h =
    rw (div-div-eq-div-mul x (2 ^ k) 256, mul_comm (2 ^ k) 256, ← div-div-eq-div-mul x 256 (2 ^ k)) (lane-bit j (x / 256) k h)

-- ---- the doubling of a row

-- 127 in each cell, and 1 in each
abbrev pub sevens : ℕ
sevens = 0x7f7f7f7f7f7f7f7f

abbrev pub ones : ℕ
ones = 0x0101010101010101

-- each cell shifted by one bit, and reduced where its highest bit was set
abbrev pub doubled_row : ℕ → ℕ → ℕ → ℕ
doubled_row s poly x = bit_xor (bit_and x sevens * 2) (bit_and (x / 2 ^ (s - 1)) ones * (poly % 256))

lane-sevens : (j x : ℕ) → j < 8 → lane j (bit_and x sevens) ≡ lane j x % 128
unfolding lane
lane-sevens j x h = rw (lane_and, same-below (λ i. lane i sevens) (λ i. 127) 8 tt j h) (and_mask (lane j x) 7)

lane_ones : (j x : ℕ) → j < 8 → lane j (bit_and x ones) ≡ lane j x % 2
unfolding lane
lane_ones j x h = rw (lane_and, same-below (λ i. lane i ones) (λ i. 1) 8 tt j h) (and_mask (lane j x) 1)

-- the double of a cell, as the row's doubling makes it
double-cell : (k poly y : ℕ) → k < 8 → 2 ^ suc k ≤ poly → poly < 2 ^ suc k * 2 → y < 2 ^ suc k
    → bit_xor (y % 128 * 2) (y / 2 ^ k % 2 * (poly % 256)) ≡ double (2 ^ suc k) poly y
unfolding double
double-cell k poly y hk low high h = go (ltb (y * 2) (2 ^ suc k)) refl
  where
    twice : 2 ^ suc k ≡ 2 ^ k * 2
    twice = pow-suc 2 k

    byte : 2 ^ suc k ≤ 256
    byte = pow_mono {i = suc k} {j = 8} hk

    go : (b : Bool) → ltb (y * 2) (2 ^ suc k) ≡ b
        → bit_xor (y % 128 * 2) (y / 2 ^ k % 2 * (poly % 256)) ≡ cond b (y * 2) (bit_xor (y * 2) poly)
    go true e =
        let fits : y < 2 ^ k = omega (arith, twice, ltb-true (y * 2) (2 ^ suc k) e) in
        let same : y % 128 * 2 ≡ y * 2 = omega (arith, byte, twice) in
        rw (same, div-eq_of_lt fits, zero-mul, xor_zero_r)
    go false e =
        let over : 2 ^ suc k ≤ y * 2 = ltb-false (y * 2) (2 ^ suc k) e in
        let both : bit_xor (y * 2) poly < 2 ^ suc k = rw e at (double-lt (suc k) poly low high y h) in
        let one : y / 2 ^ k ≡ 1 = div-eq_of_lt-le (2 ^ k) (omega (arith, twice)) (omega (arith, twice)) in
        let same : y % 128 * 2 ≡ y * 2 % 256 = omega (arith, byte) in
        let small : bit_xor (y * 2) poly < 256 = omega (arith, byte) in
        rw (same, one, one-mul, ← xor_mod (y * 2) poly 8) (mod-eq_of_lt small)

pub lane-double : (s poly x j : ℕ) → 1 ≤ s → s ≤ 8 → Modulus (2 ^ s) poly → j < 8 → lane j x < 2 ^ s
    → lane j (doubled_row s poly x) ≡ double (2 ^ s) poly (lane j x)
lane-double zero poly x j l u m hj h = absurd (not-suc-le-zero l)
lane-double (suc k) poly x j l u m hj h =
    let less : suc k - 1 ≡ k = omega arith in
    rw (less, lane_xor, lane-mul j (bit_and x sevens) 2 (λ i hi. omega (arith, lane-sevens i x (omega arith))), lane-sevens j x hj)
    (rw (lane-mul j (bit_and (x / 2 ^ k) ones) (poly % 256) (λ i hi. bit-fits i (omega arith)), lane_ones j (x / 2 ^ k) hj, lane-bit j x k u)
    (double-cell k poly (lane j x) u m.low m.high h))
  where
    bit-fits : (i : ℕ) → i < 8 → lane i (bit_and (x / 2 ^ k) ones) * (poly % 256) < 256
    bit-fits i hi =
        let bit : ℕ = lane i (bit_and (x / 2 ^ k) ones) in
        let most : poly % 256 ≤ 255 = omega arith in
        omega (arith, mul-le-mul {n₁ = bit} {m₁ = poly % 256} {n₂ = 1} {m₂ = 255} (omega (arith, lane_ones i (x / 2 ^ k) hi)) most)

-- ---- a row's number in bytes

-- a cell is a byte of the number
lane-at : (j x : ℕ) → lane j x ≡ x / 256 ^ j % 256
unfolding lane
lane-at zero x = rw div-one
lane-at (suc j) x = lane-at j (x / 256) ∙ ap (λ (y : ℕ). y % 256) (rw (div-div-eq-div-mul x 256 (256 ^ j), mul_comm 256 (256 ^ j), ← pow-suc 256 j))

lane-byte : (j x : ℕ) → byte_at j x ≡ lane j x
unfolding lane
lane-byte zero x = refl
lane-byte (suc j) x = sym (lane-at (suc j) x)

byte-in : (k i j x : ℕ) → j < k → get_or (bytes_low_first i k x) j 0 ≡ byte_at (i + j) x
byte-in zero i j x h = absurd (not-suc-le-zero h)
byte-in (suc k) i zero x h = rw add-zero
byte-in (suc k) i (suc j) x h = let on : i + suc j ≡ suc i + j = omega arith in rw on (byte-in k (suc i) j x (le_of_suc-le-suc h))

pub byte-lane : (j x : ℕ) → j < 8 → get_or (to_le_bytes w64 x) j 0 ≡ lane j x
byte-lane j x h = rw zero-add at (byte-in 8 0 j x h) ∙ lane-byte j x

pub lane-of_bytes : (row : List ℕ) (x j : ℕ) → length row ≡ 8 → ((i : ℕ) → get_or row i 0 < 256) → x ≡ from_le_bytes w64 row → j < 8 → lane j x ≡ get_or row j 0
lane-of_bytes row x j len small e h = sym (byte-lane j x h) ∙ ap (λ (bytes : List ℕ). get_or bytes j 0) (le_bytes_8 row x len small e)

-- ---- a row shifted by whole cells

cells-suc : (e : ℕ) → 2 ^ (8 * suc e) ≡ 2 ^ (8 * e) * 256
cells-suc e = let more : 8 * suc e ≡ 8 * e + 8 = omega arith in rw more (pow-add 2 (8 * e) 8)

-- shifted up by e cells: those below are empty
lane-up : (j e x : ℕ) → lane (j + e) (x * 2 ^ (8 * e)) ≡ lane j x
unfolding lane
lane-up j zero x = rw (add-zero, mul-one)
lane-up j (suc e) x = rw (add-suc, cells-suc, ← mul_assoc) (ap (lane (j + e)) (mul-div_cancel (x * 2 ^ (8 * e)) (zero-lt-suc 255)) ∙ lane-up j e x)

lane_under : (j e x : ℕ) → j < e → lane j (x * 2 ^ (8 * e)) ≡ 0
unfolding lane
lane_under j zero x h = absurd (not-suc-le-zero h)
lane_under zero (suc e) x h = rw (cells-suc, ← mul_assoc, mul-mod_left)
lane_under (suc j) (suc e) x h =
    rw (cells-suc, ← mul_assoc, mul-div_cancel (x * 2 ^ (8 * e)) (zero-lt-suc 255)) (lane_under j e x (le_of_suc-le-suc h))

-- shifted down by e cells
lane-down : (j e x : ℕ) → lane j (x / 2 ^ (8 * e)) ≡ lane (j + e) x
unfolding lane
lane-down j zero x = rw (add-zero, div-one)
lane-down j (suc e) x =
    rw (add-suc, cells-suc, mul_comm (2 ^ (8 * e)) 256, ← div-div-eq-div-mul x 256 (2 ^ (8 * e))) (lane-down j e (x / 256))

-- cut to n cells
lane-cut : (j n x : ℕ) → j < n → lane j (x % 2 ^ (8 * n)) ≡ lane j x
unfolding lane
lane-cut j zero x h = absurd (not-suc-le-zero h)
lane-cut zero (suc n) x h =
    rw (cells-suc, mod-mul x {m = 2 ^ (8 * n)} {c = 256} (pow_pos (8 * n)) (zero-lt-suc 255)) (digits_mod (x / 256 % 2 ^ (8 * n)) (mod-lt x (zero-lt-suc 255)))
lane-cut (suc j) (suc n) x h =
    rw (cells-suc, mod-mul x {m = 2 ^ (8 * n)} {c = 256} (pow_pos (8 * n)) (zero-lt-suc 255), digits_div (x / 256 % 2 ^ (8 * n)) (mod-lt x (zero-lt-suc 255)))
    (lane-cut j n (x / 256) (le_of_suc-le-suc h))

lane_past : (j n x : ℕ) → x < 2 ^ (8 * n) → n ≤ j → lane j x ≡ 0
unfolding lane
lane_past j zero x h l = rw (lt-one h) (lane-zero j)
lane_past zero (suc n) x h l = absurd (not-suc-le-zero l)
lane_past (suc j) (suc n) x h l =
    lane_past j n (x / 256) ((div-lt_iff_lt-mul (zero-lt-suc 255)).1 (rw cells-suc at h)) (le_of_suc-le-suc l)

-- the first d cells turned: what lies above them is shifted out, the rest goes down, and the cells that fall out come in at the top
pub lane-turned : (d by j x : ℕ) → 0 < by → by < d → d ≤ 8 → j < d
    → lane j (bit_xor (x * 2 ^ (8 * (8 - d)) % 2 ^ 64 / 2 ^ (8 * (8 - d + by))) (x * 2 ^ (8 * (d - by)) % 2 ^ 64)) ≡ lane ((j + by) % d) x
lane-turned d by j x p q u hj =
    rw (lane_xor, lane-down j (8 - d + by) (y % 2 ^ 64), lane-cut j 8 w (omega arith)) (⊎_elim within past (lt-or-le (j + by) d))
  where
    y : ℕ
    y = x * 2 ^ (8 * (8 - d))

    w : ℕ
    w = x * 2 ^ (8 * (d - by))

    within : j + by < d → bit_xor (lane (j + (8 - d + by)) (y % 2 ^ 64)) (lane j w) ≡ lane ((j + by) % d) x
    within h =
        let place : j + (8 - d + by) ≡ j + by + (8 - d) = omega arith in
        rw (lane-cut (j + (8 - d + by)) 8 y (omega arith), place, lane-up (j + by) (8 - d) x, lane_under j (d - by) x (omega arith), mod-eq_of_lt h)
        (xor_zero_r (lane (j + by) x))

    past : d ≤ j + by → bit_xor (lane (j + (8 - d + by)) (y % 2 ^ 64)) (lane j w) ≡ lane ((j + by) % d) x
    past h =
        let place : j + by - d + (d - by) ≡ j = omega arith in
        let turn : (j + by) % d ≡ j + by - d = mod-eq-sub-mod h ∙ mod-eq_of_lt (omega arith) in
        let up : lane j w ≡ lane (j + by - d) x = rw place at (lane-up (j + by - d) (d - by) x) in
        rw (lane_past (j + (8 - d + by)) 8 (y % 2 ^ 64) (mod-lt y (pow_pos 64)) (omega arith), up, turn) (xor_zero_l (lane (j + by - d) x))
