-- A piece as the code takes it: whole bytes, and a last byte with the bits that count from its high end on and zeros behind them.
-- Assumes nothing.
use mathlib.Core.Path.{◌≡◌, sym, ap, ◌∙◌}
use mathlib.Core.Bool.{Bool, true, false}
use mathlib.Core.List.{List, [], ◌∷◌, ◌++◌, append_assoc, append-nil}
use Prim.Native.Nat.{ℕ, ◌+◌, ◌-◌, ◌*◌, ◌<◌}
use native.Mathlib.Omega.{arith}
use lib.ListN.{length, take, drop, replicate}
use lib.Seq.{take_at, drop_at}
use Rattle.standard.specs.Bits.{high_first, bits_of, bits_in, unpack}
use Rattle.standard.specs.Families.{Variant}
use Rattle.standard.specs.Messages.{byte_bits, counted_of, message_bits}
use Rattle.standard.specs.PartBytes.{before_last, last_of}
use Rattle.standard.proofs.BitLaws.{length-bits_in, bits_in-append, bits_in-zeros}
use Rattle.standard.proofs.PartBytes.{front-size, bits_are, bits-length}
use Rattle.standard.specs.Layout.{clear}
use Rattle.octets.proofs.Clear.{zeros-clear}

-- bytes that hold the bits m and zeros
module _ (m : List Bool) (z : ℕ) (bytes : List ℕ) (e : bits_in high_first bytes ≡ m ++ replicate z false) (n : ℕ) (en : n ≡ length m) where
  held-clear : clear (drop n (bits_in high_first bytes)) ≡ true
  held-clear = ap (λ (x : List Bool). clear (drop n x)) e ∙ ap clear (drop_at m (replicate z false) n (sym en)) ∙ zeros-clear z

  held-front : unpack high_first n bytes ≡ m
  unfolding unpack
  held-front = ap (take n) e ∙ take_at m (replicate z false) n (sym en)

-- ---- all bits count: the last byte has none

module _ (piece : List ℕ) where
  plain : bits_in high_first (piece ++ 0 ∷ []) ≡ byte_bits piece ++ replicate 8 false
  plain = bits_in-append high_first piece (0 ∷ []) ∙ ap (λ (x : List Bool). byte_bits piece ++ x) (bits_in-zeros high_first 1)

  size : 8 * length piece + 0 ≡ length (byte_bits piece)
  size = omega (arith, length-bits_in high_first piece)

  pub plain-clear : clear (drop (8 * length piece + 0) (bits_in high_first (piece ++ 0 ∷ []))) ≡ true
  plain-clear = held-clear (byte_bits piece) 8 (piece ++ 0 ∷ []) plain (8 * length piece + 0) size

  pub plain-front : unpack high_first (8 * length piece + 0) (piece ++ 0 ∷ []) ≡ byte_bits piece
  plain-front = held-front (byte_bits piece) 8 (piece ++ 0 ∷ []) plain (8 * length piece + 0) size

-- ---- k bits of the last byte count

module _ (H : Variant) (m : List ℕ) (some : 0 < length m) (k : ℕ) where
  pub part_length : 8 * length (before_last m) + k ≡ length (message_bits H m k)
  part_length = omega (arith, front-size m some, bits-length m some H k)

  module _ (x : ℕ) (e : bits_of high_first 8 x ≡ bits_of high_first k (counted_of H.family k (last_of m)) ++ replicate (8 - k) false) where
    part : bits_in high_first (before_last m ++ x ∷ []) ≡ message_bits H m k ++ replicate (8 - k) false
    unfolding bits_in
    part =
        let c : List Bool = bits_of high_first k (counted_of H.family k (last_of m)) in
        bits_in-append high_first (before_last m) (x ∷ [])
        ∙ ap (λ (y : List Bool). byte_bits (before_last m) ++ y) (append-nil (bits_of high_first 8 x) ∙ e)
        ∙ sym (append_assoc (byte_bits (before_last m)) c (replicate (8 - k) false))
        ∙ ap (λ (y : List Bool). y ++ replicate (8 - k) false) (sym (bits_are m some H k))

    pub part-clear : clear (drop (8 * length (before_last m) + k) (bits_in high_first (before_last m ++ x ∷ []))) ≡ true
    part-clear = held-clear (message_bits H m k) (8 - k) (before_last m ++ x ∷ []) part (8 * length (before_last m) + k) part_length

    pub part-front : unpack high_first (8 * length (before_last m) + k) (before_last m ++ x ∷ []) ≡ message_bits H m k
    part-front = held-front (message_bits H m k) (8 - k) (before_last m ++ x ∷ []) part (8 * length (before_last m) + k) part_length
