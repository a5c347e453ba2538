-- The half bytes of a bit string that comes as held half bytes, a piece and a last byte, and the bytes that they make.
-- Assumes nothing.
use mathlib.Core.Path.{◌≡◌, sym, ap, ap₂, ◌∙◌}
use mathlib.Core.Bool.{Bool, cond}
use mathlib.Core.List.{List, [], ◌∷◌, ◌++◌, append_assoc}
use mathlib.Core.Logic.{⊎_elim}
use Prim.Native.Nat.{ℕ, ◌+◌, ◌-◌, ◌*◌, ◌/◌, ◌%◌, ◌≤◌, ◌<◌}
use native.Mathlib.Omega.{arith}
use lib.ListN.{length, take, drop, get_or, length-append, length-drop, drop_of_length-le, take-append-drop}
use lib.Seq.{take-append-le, drop-append-le, drop-append-add, drop_at, take_at, drop-drop, ext_get_or, length-take-le}
use lib.Dec.{eqb}
use Rattle.octets.proofs.ByteLaws.{cons-bytes}
use Rattle.standard.specs.Bits.{high_first, value_of, bits_in, unpack, filled}
use Rattle.standard.proofs.Tests.{lt-or-le}
use Rattle.standard.proofs.BitLaws.{filled-take, length-bits_in, bits_in-append, bits_in-drop, length-unpack, length-filled, length-pack, filled-add, value_of-lt}
use Rattle.standard.specs.Layout.{block_room, packed_block}
use Rattle.octets.specs.Cells.{cell_in}
use Rattle.chain.specs.Blocks.{held_then}
use Rattle.octets.specs.Nibbles.{nibble_of, nibble_in}
use Rattle.octets.proofs.CellLaws.{nibble-is}
use Rattle.octets.proofs.Clear.{first_byte}
use Rattle.octets.proofs.PackedNibbles.{pack-halves, filled-nothing}

-- ---- half bytes of bits

pub half_lt : (x : ℕ) (bs : List Bool) → x ≡ value_of high_first (filled 4 bs) → x < 16
half_lt x bs e = rw e (value_of-lt high_first 4 (filled 4 bs) (length-filled 4 bs))

-- bits and zeros behind them, read in the middle
pub middle : (a w l : ℕ) (bs : List Bool) → a + w ≤ l → take w (drop a (filled l bs)) ≡ filled w (drop a bs)
middle a w l bs h =
    let e : l ≡ a + (w + (l - (a + w))) = omega arith in
    rw (e, filled-add, drop_at (filled a bs) _ a (length-filled a bs), filled-add, take_at (filled w (drop a bs)) _ w (length-filled w (drop a bs)))

module _ (n : ℕ) where
  -- inside the bits
  half-take : (bs : List Bool) → 4 * n + 4 ≤ length bs → nibble_in bs n ≡ value_of high_first (take 4 (drop (4 * n) bs))
  half-take bs h = ap (value_of high_first) (filled-take 4 (drop (4 * n) bs) (omega (arith, length-drop (4 * n) bs)))

  -- what stands behind changes nothing
  half-front : (x y : List Bool) → 4 * n + 4 ≤ length x → nibble_in x n ≡ nibble_in (x ++ y) n
  half-front x y h =
      let here : 4 * n ≤ length x = omega arith in
      let four : 4 ≤ length (drop (4 * n) x) = omega (arith, length-drop (4 * n) x) in
      rw (half-take x h, half-take (x ++ y) (omega (arith, length-append x y)), drop-append-le, take-append-le)

  -- past the first bits
  half-behind : (x y : List Bool) (p : ℕ) → length x ≡ 4 * p → p ≤ n → nibble_in y (n - p) ≡ nibble_in (x ++ y) n
  half-behind x y p e h =
      let k : length x + 4 * (n - p) ≡ 4 * n = omega arith in
      ap (λ (l : List Bool). value_of high_first (filled 4 l)) (sym (drop-append-add x y (4 * (n - p))) ∙ ap (λ (i : ℕ). drop i (x ++ y)) k)

  -- the first bits alone
  half-within : (c : ℕ) (bs : List Bool) → 4 * n + 4 ≤ c → c ≤ length bs → nibble_in (take c bs) n ≡ nibble_in bs n
  half-within c bs h l =
      half-front (take c bs) (drop c bs) (omega (arith, length-take-le c bs l))
      ∙ ap (λ (l : List Bool). nibble_in l n) (take-append-drop c bs)

  -- in bytes
  half-bytes : (s : List ℕ) → ((i : ℕ) → get_or s i 0 < 256) → n / 2 < length s → nibble_of (get_or s (n / 2) 0) n ≡ nibble_in (bits_in high_first s) n
  unfolding cell_in
  half-bytes s hb h =
      let e : n * 4 ≡ 4 * n = omega arith in
      nibble-is s hb n h ∙ rw (half-take (bits_in high_first s) (omega (arith, length-bits_in high_first s)), e)

  -- nothing past the bits
  pub half-past : (bs : List Bool) → length bs ≤ 4 * n → 0 ≡ nibble_in bs n
  half-past bs h = sym (ap (λ (l : List Bool). value_of high_first (filled 4 l)) (drop_of_length-le bs {i = 4 * n} h) ∙ filled-nothing 4)

-- in bytes of which the one that has it is a byte
half-byte : (n : ℕ) (s : List ℕ) → get_or s (n / 2) 0 < 256 → n / 2 < length s → nibble_of (get_or s (n / 2) 0) n ≡ nibble_in (bits_in high_first s) n
unfolding bits_in
half-byte n s hb h =
    let x : ℕ = get_or s (n / 2) 0 in
    let i : ℕ = n % 2 in
    let first : i / 2 ≡ 0 = omega arith in
    let side : n % 2 ≡ i % 2 = omega arith in
    let place : 4 * n ≡ 8 * (n / 2) + 4 * i = omega arith in
    let rest : List Bool = bits_in high_first (drop (n / 2 + 1) s) in
    ap₂ (λ (b k : ℕ). cond (eqb k 0) (b / 16) (b % 16)) (ap (λ (k : ℕ). get_or (x ∷ []) k 0) (sym first)) side
    ∙ half-bytes i (x ∷ []) (cons-bytes x [] hb (λ k. omega arith)) (omega arith)
    ∙ half-front i (bits_in high_first (x ∷ [])) rest (omega (arith, length-bits_in high_first (x ∷ [])))
    ∙ sym (rw (place, ← drop-drop (4 * i) (8 * (n / 2)) (bits_in high_first s), bits_in-drop, first_byte high_first s (n / 2) h) (ap (λ (bs : List Bool). nibble_in bs i) (bits_in-append high_first (x ∷ []) (drop (n / 2 + 1) s))))

-- ---- held half bytes, and bytes behind them

pub length-held_then : (held : List ℕ) (p : ℕ) (bytes : List ℕ) → p ≤ 2 * length held → length (held_then held p bytes) ≡ 4 * p + 8 * length bytes
length-held_then held p bytes h = rw (length-append, length-unpack high_first (4 * p) held (omega arith), length-bits_in)

module _ (held : List ℕ) (p : ℕ) (few : p ≤ 2 * length held) (n : ℕ) where
  abbrev front : List Bool
  front = unpack high_first (4 * p) held

  front-size : length front ≡ 4 * p
  front-size = length-unpack high_first (4 * p) held (omega arith)

  pub half-held : (bytes : List ℕ) → get_or held (n / 2) 0 < 256 → n < p → nibble_of (get_or held (n / 2) 0) n ≡ nibble_in (held_then held p bytes) n
  unfolding unpack
  half-held bytes hb h =
      half-byte n held hb (omega arith)
      ∙ sym (half-within n (4 * p) (bits_in high_first held) (omega arith) (omega (arith, length-bits_in high_first held)))
      ∙ half-front n front (bits_in high_first bytes) (omega (arith, front-size))

  -- a piece, and a last byte behind it
  module _ (piece : List ℕ) (last : ℕ) (h : p ≤ n) where
    abbrev end : List Bool
    end = bits_in high_first (last ∷ [])

    size : length (held_then held p piece) ≡ 4 * (p + 2 * length piece)
    size = length-held_then held p piece few ∙ omega arith

    parts : held_then held p piece ++ end ≡ held_then held p (piece ++ last ∷ [])
    parts =
        append_assoc front (bits_in high_first piece) end
        ∙ ap (λ (bs : List Bool). front ++ bs) (sym (bits_in-append high_first piece (last ∷ [])))

    pub half-piece : get_or piece ((n - p) / 2) 0 < 256 → (n - p) / 2 < length piece
        → nibble_of (get_or piece ((n - p) / 2) 0) (n - p) ≡ nibble_in (held_then held p (piece ++ last ∷ [])) n
    half-piece hb l =
        half-byte (n - p) piece hb l
        ∙ half-behind n front (bits_in high_first piece) p front-size h
        ∙ half-front n (held_then held p piece) end (omega (arith, size))
        ∙ ap (λ (bs : List Bool). nibble_in bs n) parts

    pub half-last : last < 256 → (n - p) / 2 ≡ length piece → nibble_of last (n - p) ≡ nibble_in (held_then held p (piece ++ last ∷ [])) n
    half-last hl e =
        let i : ℕ = n - (p + 2 * length piece) in
        let first : i / 2 ≡ 0 = omega arith in
        let side : (n - p) % 2 ≡ i % 2 = omega arith in
        ap₂ (λ (b k : ℕ). cond (eqb k 0) (b / 16) (b % 16)) (ap (λ (k : ℕ). get_or (last ∷ []) k 0) (sym first)) side
        ∙ half-bytes i (last ∷ []) (cons-bytes last [] hl (λ k. omega arith)) (omega arith)
        ∙ half-behind n (held_then held p piece) end (p + 2 * length piece) size (omega arith)
        ∙ ap (λ (bs : List Bool). nibble_in bs n) parts

    pub half-nothing : length piece < (n - p) / 2 → 0 ≡ nibble_in (held_then held p (piece ++ last ∷ [])) n
    half-nothing l =
        half-past n (held_then held p (piece ++ last ∷ []))
        (omega (arith, length-held_then held p (piece ++ last ∷ []) few, length-append piece (last ∷ [])))

-- ---- q half bytes in bytes

pub half-from : (bs : List Bool) (first i : ℕ) → nibble_in bs (first + i) ≡ nibble_in (drop (4 * first) bs) i
half-from bs first i =
    let e : 4 * (first + i) ≡ 4 * first + 4 * i = omega arith in
    rw (e, drop-drop)

module _ (bs : List Bool) (q : ℕ) where
  abbrev block : List Bool
  block = filled (4 * q) bs

  within : (i : ℕ) → i < q → nibble_in block i ≡ nibble_in bs i
  within i h =
      half-take i block (omega (arith, length-filled (4 * q) bs)) ∙ ap (value_of high_first) (middle (4 * i) 4 (4 * q) bs (omega arith))

  byte-is : (k : ℕ) → k < block_room → nibble_in block (2 * k) * 16 + nibble_in block (2 * k + 1) ≡ get_or (packed_block block) k 0
  byte-is k h =
      let first : 4 * (2 * k) ≡ k * 8 = omega arith in
      let second : 4 * (2 * k + 1) ≡ k * 8 + 4 = omega arith in
      rw (first, second, pack-halves block_room block k h)

  pub byte-both : (k : ℕ) → 2 * k + 1 < q → q ≤ 32 → nibble_in bs (2 * k) * 16 + nibble_in bs (2 * k + 1) ≡ get_or (packed_block block) k 0
  byte-both k h l =
      omega (arith, within (2 * k) (omega arith), within (2 * k + 1) h, byte-is k (omega arith))

  pub byte-upper : (k : ℕ) → q ≡ 2 * k + 1 → q ≤ 32 → nibble_in bs (2 * k) * 16 ≡ get_or (packed_block block) k 0
  byte-upper k e l =
      let z : 0 ≡ nibble_in block (2 * k + 1) = half-past (2 * k + 1) block (omega (arith, length-filled (4 * q) bs)) in
      omega (arith, within (2 * k) (omega arith), byte-is k (omega arith))

  byte-none : (k : ℕ) → q ≤ 2 * k → k < block_room → 0 ≡ get_or (packed_block block) k 0
  byte-none k h l =
      omega (
        arith,
        half-past (2 * k) block (omega (arith, length-filled (4 * q) bs)),
        half-past (2 * k + 1) block (omega (arith, length-filled (4 * q) bs)),
        byte-is k l,
      )

  -- the bytes that have half bytes, and zeros behind them
  pub bytes-are : (out : List ℕ) → length out ≡ block_room → ((k : ℕ) → k < (q + 1) / 2 → get_or out k 0 ≡ get_or (packed_block block) k 0)
      → ((k : ℕ) → (q + 1) / 2 ≤ k → k < block_room → get_or out k 0 ≡ 0) → out ≡ packed_block block
  bytes-are out l done rest =
      ext_get_or 0 out (packed_block block) (l ∙ sym (length-pack high_first block_room block))
      (λ k h. ⊎_elim (λ i. done k i) (λ i. rest k i (omega arith) ∙ byte-none k (omega arith) (omega arith)) (lt-or-le k ((q + 1) / 2)))
