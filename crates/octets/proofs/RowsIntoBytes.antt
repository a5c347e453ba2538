-- Cells written one after the other into bytes, two of four bits to a byte or one of eight.
-- Assumes nothing.
use mathlib.Core.Path.{◌≡◌, sym, ap, ap₂, ◌∙◌}
use mathlib.Core.Bool.{Bool, cond}
use mathlib.Core.List.{List, [], ◌∷◌, ◌++◌, append-nil, append_assoc, flat_map}
use mathlib.Core.Logic.{⊎_elim}
use Prim.Native.Nat.{ℕ, ◌+◌, ◌*◌, ◌/◌, ◌%◌, ◌≤◌, ◌<◌}
use native.Mathlib.Nat.{mul_left_comm}
use native.Mathlib.Numerals.{add-one}
use native.Mathlib.Omega.{arith}
use lib.Bits.{bit_xor}
use lib.Dec.{eqb}
use lib.ListN.{length, get_or, set, length-append}
use borrow.Author.Tests.{eq-eqb, ne_eqb}
use Rattle.standard.specs.Bits.{high_first, bits_of, pack, unpack}
use Rattle.standard.specs.Grid.{tab}
use Rattle.standard.proofs.Tab.{length-tab, tab-snoc}
use Rattle.standard.proofs.BitLaws.{length-unpack, length-bits_of, length-pack, unpack-pack}
use Rattle.standard.proofs.CutLaws.{length-flat_map, flat_map-append}
use Rattle.standard.specs.Layout.{state_room}
use Rattle.standard.proofs.PutBits.{put-bits, upper-byte, lower-byte, halves}
use Rattle.standard.proofs.Tests.{lt-or-le}

-- ---- one nibble

pub half-put : (out : List ℕ) (p x : ℕ) → p < 2 * length out → x < 16 → out ≡ pack high_first (length out) (unpack high_first (4 * p) out)
    → set out (p / 2) (bit_xor (get_or out (p / 2) 0) (cond (eqb (p % 2) 0) (x * 16) x)) ≡ pack high_first (length out) (unpack high_first (4 * p) out ++ bits_of high_first 4 x)
half-put out p x hp hx e =
    let l_x : length (unpack high_first (4 * p) out) ≡ 4 * p = length-unpack high_first (4 * p) out (omega arith) in
    let l_y : length (bits_of high_first 4 x) ≡ 4 = length-bits_of high_first 4 x in
    ⊎_elim
    (λ l. rw (eq-eqb (p % 2) 0 (omega arith))
    (put-bits (length out) out _ (bits_of high_first 4 x) (p / 2) (x * 16) 0 4 e (omega arith) (omega arith) (upper-byte x) (omega arith) (omega arith)))
    (λ l. rw (ne_eqb (p % 2) 0 (λ z. omega arith))
    (put-bits (length out) out _ (bits_of high_first 4 x) (p / 2) x 4 0 e (omega arith) (omega arith) (rw append-nil (lower-byte x hx)) (omega arith) (omega arith)))
    (lt-or-le (p % 2) 1)

-- ---- a row of cells of w bits

module _ (w : ℕ) (f : ℕ → ℕ) where
  pub row-length : (j : ℕ) → length (flat_map (bits_of high_first w) (tab j f)) ≡ j * w
  row-length j = length-flat_map w (bits_of high_first w) 0 (tab j f) (λ k l. length-bits_of high_first w _) ∙ ap (λ (n : ℕ). n * w) (length-tab j f)

  pub row_more : (j : ℕ) → flat_map (bits_of high_first w) (tab (j + 1) f) ≡ flat_map (bits_of high_first w) (tab j f) ++ bits_of high_first w (f j)
  unfolding flat_map
  row_more j =
      ap (flat_map (bits_of high_first w)) (ap (λ (n : ℕ). tab n f) (add-one j) ∙ tab-snoc j f)
      ∙ flat_map-append (bits_of high_first w) (tab j f) (f j ∷ [])
      ∙ ap (λ (Z : List Bool). flat_map (bits_of high_first w) (tab j f) ++ Z) (append-nil (bits_of high_first w (f j)))

-- what bytes hold, read back
pub read_back : (out : List ℕ) (Z : List Bool) (k : ℕ) → k ≤ 72 → length Z ≡ 4 * k → out ≡ pack high_first state_room Z → unpack high_first (4 * k) out ≡ Z
read_back out Z k h l e = ap₂ (unpack high_first) (sym l) e ∙ unpack-pack high_first state_room Z (omega arith)

pub kept_back : (out : List ℕ) (Z : List Bool) (k : ℕ) → k ≤ 72 → length Z ≡ 4 * k → out ≡ pack high_first state_room Z → out ≡ pack high_first state_room (unpack high_first (4 * k) out)
kept_back out Z k h l e = e ∙ ap (pack high_first state_room) (sym (read_back out Z k h l e))

-- j cells of w = 4 u bits each stand after the first p nibbles of what was there
abbrev pub row_behind : List ℕ → ℕ → ℕ → (ℕ → ℕ) → ℕ → List Bool
row_behind old u p f j = unpack high_first (4 * p) old ++ flat_map (bits_of high_first (4 * u)) (tab j f)

module _ (old : List ℕ) (lo : length old ≡ state_room) (u p : ℕ) (f : ℕ → ℕ) where
  behind-length : (j : ℕ) → p ≤ 72 → length (row_behind old u p f j) ≡ 4 * (p + j * u)
  behind-length j h =
      length-append (unpack high_first (4 * p) old) (flat_map (bits_of high_first (4 * u)) (tab j f))
      ∙ omega (arith, length-unpack high_first (4 * p) old (omega arith), row-length (4 * u) f j, mul_left_comm j 4 u)

  pub behind-none : old ≡ pack high_first state_room (unpack high_first (4 * p) old) → old ≡ pack high_first state_room (row_behind old u p f 0)
  unfolding flat_map
  behind-none e = e ∙ ap (pack high_first state_room) (sym (append-nil (unpack high_first (4 * p) old)))

  -- the nibbles are then k
  module _ (j k : ℕ) (ek : k ≡ p + j * u) (h : k ≤ 72) (out : List ℕ) (e : out ≡ pack high_first state_room (row_behind old u p f j)) where
    size : length (row_behind old u p f j) ≡ 4 * k
    size = behind-length j (omega arith) ∙ ap (λ (n : ℕ). 4 * n) (sym ek)

    pub behind-kept : out ≡ pack high_first state_room (unpack high_first (4 * k) out)
    behind-kept = kept_back out (row_behind old u p f j) k h size e

    pub behind-size : length out ≡ state_room
    behind-size = ap length e ∙ length-pack high_first state_room (row_behind old u p f j)

    pub behind_more : (next : List ℕ) (x : ℕ) → x ≡ f j → next ≡ pack high_first state_room (unpack high_first (4 * k) out ++ bits_of high_first (4 * u) x)
        → next ≡ pack high_first state_room (row_behind old u p f (j + 1))
    behind_more next x ex en =
        en ∙ ap₂ (λ (Z : List Bool) (y : ℕ). pack high_first state_room (Z ++ bits_of high_first (4 * u) y)) (read_back out (row_behind old u p f j) k h size e) ex
        ∙ ap (pack high_first state_room) (append_assoc (unpack high_first (4 * p) old) _ _ ∙ ap (λ (Z : List Bool). unpack high_first (4 * p) old ++ Z) (sym (row_more (4 * u) f j)))

-- ---- a byte by its nibbles

pub byte_put : (old mid new : List ℕ) (p x : ℕ) → length old ≡ state_room → p + 2 ≤ 72
    → mid ≡ pack high_first (length old) (unpack high_first (4 * p) old ++ bits_of high_first 4 (x / 16))
    → new ≡ pack high_first (length mid) (unpack high_first (4 * (p + 1)) mid ++ bits_of high_first 4 (x % 16))
    → new ≡ pack high_first state_room (unpack high_first (4 * p) old ++ bits_of high_first 8 x)
byte_put old mid new p x lo h em en =
    let X : List Bool = unpack high_first (4 * p) old in
    let Z : List Bool = X ++ bits_of high_first 4 (x / 16) in
    let l_z : length Z ≡ 4 * (p + 1) = length-append X (bits_of high_first 4 (x / 16)) ∙ omega (arith, length-unpack high_first (4 * p) old (omega arith), length-bits_of high_first 4 (x / 16)) in
    let em' : mid ≡ pack high_first state_room Z = em ∙ ap (λ (n : ℕ). pack high_first n Z) lo in
    let lm : length mid ≡ state_room = ap length em' ∙ length-pack high_first state_room Z in
    let whole : x / 16 * 16 + x % 16 ≡ x = omega arith in
    en
    ∙ ap₂ (λ (n : ℕ) (Y : List Bool). pack high_first n (Y ++ bits_of high_first 4 (x % 16))) lm (read_back mid Z (p + 1) (omega arith) l_z em')
    ∙ ap (pack high_first state_room)
    (append_assoc X _ _ ∙ ap (λ (Y : List Bool). X ++ Y) (sym (halves (x / 16) (x % 16) (omega arith)) ∙ ap (bits_of high_first 8) whole))

pub byte-mid : (old mid : List ℕ) (p x : ℕ) → length old ≡ state_room → p + 2 ≤ 72
    → mid ≡ pack high_first (length old) (unpack high_first (4 * p) old ++ bits_of high_first 4 x)
    → (length mid ≡ state_room) × (mid ≡ pack high_first (length mid) (unpack high_first (4 * (p + 1)) mid))
byte-mid old mid p x lo h em =
    let X : List Bool = unpack high_first (4 * p) old in
    let Z : List Bool = X ++ bits_of high_first 4 x in
    let l_z : length Z ≡ 4 * (p + 1) = length-append X (bits_of high_first 4 x) ∙ omega (arith, length-unpack high_first (4 * p) old (omega arith), length-bits_of high_first 4 x) in
    let em' : mid ≡ pack high_first state_room Z = em ∙ ap (λ (n : ℕ). pack high_first n Z) lo in
    let lm : length mid ≡ state_room = ap length em' ∙ length-pack high_first state_room Z in
    (lm, kept_back mid Z (p + 1) (omega arith) l_z em' ∙ ap (λ (n : ℕ). pack high_first n (unpack high_first (4 * (p + 1)) mid)) (sym lm))
