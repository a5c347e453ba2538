-- The blocks that the code runs through the state and what it holds after them, counted in half bytes, are those of the running hash that goes on or ends.
-- Assumes nothing.
use mathlib.Core.Path.{◌≡◌, refl, sym, ap, ap₂, ◌∙◌}
use mathlib.Core.Bool.{Bool, true, false}
use mathlib.Core.List.{List, [], ◌∷◌, ◌++◌, append_assoc, append-nil}
use Prim.Native.Nat.{ℕ, ◌+◌, ◌-◌, ◌*◌, ◌/◌, ◌%◌, ◌^◌, ◌≤◌, ◌<◌}
use native.Mathlib.Nat.{mod-lt, mod-eq_of_lt, div-le_self, div-mul-le_self, mul_left_comm}
use native.Mathlib.Omega.{arith}
use lib.ListN.{length, take, drop, get_or, replicate, length-append, take-append-drop}
use lib.Seq.{take-add, take-append-le, drop-append-le}
use Rattle.standard.specs.Bits.{high_first, bits_of, bits_in, unpack, filled}
use Rattle.standard.specs.Families.{Variant, state_in}
use Rattle.standard.specs.Chain.{padding, whole_blocks, rest_of, run}
use Rattle.standard.proofs.BitLaws.{length-bits_of, length-unpack, bits_in-drop, filled-short, pack-none}
use Rattle.standard.proofs.Streaming.{Streams, length_rest, run-append, run_length}
use Rattle.standard.proofs.Variants.{Bounds, bounds, streams}
use Rattle.answers.specs.Outputs.{max_bits}
use Rattle.standard.specs.Layout.{block_room, packed_state, packed_block, clear}
use Rattle.chain.specs.Holding.{Holds}
use Rattle.chain.specs.Padding.{data_blocks, length_blocks}
use Rattle.chain.specs.Blocks.{held_then, first_blocks}
use Rattle.octets.proofs.Clear.{first_byte, clear-zeros}
use Rattle.chain.proofs.BlockRows.{with_one, whole-first, first-zeros, filled-zeros, pack-zeros}
use Rattle.chain.proofs.LastBlocks.{ending-blocks}
use Rattle.chain.proofs.States.{stored, stored-ready}
use Rattle.hasher.specs.declared.Hasher.{Hasher}
use Rattle.hasher.specs.Running.{variant_of, held_count, whole_so_far, held_in, state_of, grown, ended}
use Rattle.hasher.specs.ForCode.{Open}
use Rattle.hasher.proofs.Owned.{Owned}
use Rattle.hasher.proofs.WellFormed.{Facts, facts, open-count, count-lt, count-quarters, state-long, held-long}

-- n bits in blocks of b: the numbers that the code counts with are small
pub record Small (n b : ℕ) : Type 0 where
  pub some : 0 < b
  pub count : n / b ≤ 2 ^ 32
  pub place : n / b * (b / 4) ≤ 2 ^ 40
  pub left : (n % b + 3) / 4 ≤ 32

-- c bits are held
module _ {h : Hasher} (w : Owned h) (o : Open h) {c : ℕ} (ec : c ≡ held_count h) where
  f : Facts h
  f = facts h o.0

  abbrev H : Variant
  H = variant_of h

  B : Bounds H
  B = bounds h.variant f.named

  S : Streams H
  S = streams h.variant f.named

  state-is : state_in H h.state ≡ state_of h
  unfolding state_of
  state-is = refl

  held-is : unpack high_first c h.held ≡ held_in h
  unfolding held_in
  held-is = ap (λ (k : ℕ). unpack high_first k h.held) ec

  pub held-few : c < 8 * block_room
  held-few = omega (arith, count-lt h f.named, B.rate-most)

  -- ---- a piece and k bits of a last byte, in blocks of b bits

  module _ (whole : whole_so_far h ≡ true) {b : ℕ} (eb : b ≡ (variant_of h).r) (piece : List ℕ) (last k : ℕ) where
    abbrev added : ℕ
    added = 8 * length piece + k

    abbrev n : ℕ
    n = c + added

    abbrev bytes : List ℕ
    bytes = piece ++ last ∷ []

    abbrev bits : List Bool
    bits = held_in h ++ unpack high_first (8 * length piece + k) bytes

    held-halves : 4 * (c / 4) ≡ c
    held-halves = omega (arith, count-quarters h f.named whole)

    rate : 4 * (b / 4) ≡ b
    rate = omega (arith, B.rate-quarters)

    pub small : k ≤ 8 → h.total + (8 * length piece + k) ≤ max_bits → Small (c + (8 * length piece + k)) b
    small hk few =
        let some : 0 < b = omega (arith, B.rate-least) in
        let room : n ≤ 2 ^ 32 = omega (arith, held-few) in
        let count : n / b ≤ n = div-le_self n b in
        let all : n / b * b ≤ n = div-mul-le_self n b in
        let quarters : 4 * (n / b * (b / 4)) ≡ n / b * b = mul_left_comm 4 (n / b) (b / 4) ∙ ap (λ (q : ℕ). n / b * q) rate in
        record {
          some = some;
          count = omega arith;
          place = omega arith;
          left = omega (arith, mod-lt n {m = b} some, B.rate-most);
        }

    module _ (hk : k ≤ 8) (zeros : clear (drop (8 * length piece + k) (bits_in high_first (piece ++ last ∷ []))) ≡ true) where
      abbrev spare : List Bool
      spare = drop added (bits_in high_first bytes)

      many : length bytes ≡ length piece + 1
      many = length-append piece (last ∷ [])

      -- the bits that the code sees: those that count, and zeros
      seen : held_then h.held (c / 4) bytes ≡ bits ++ replicate (length spare) false
      unfolding unpack
      seen =
          ap₂ (λ (x y : List Bool). x ++ y) (ap (λ (i : ℕ). unpack high_first i h.held) held-halves ∙ held-is) (sym (take-append-drop added (bits_in high_first bytes)))
          ∙ ap (λ (x : List Bool). held_in h ++ (take added (bits_in high_first bytes) ++ x)) (clear-zeros spare zeros)
          ∙ sym (append_assoc (held_in h) (take added (bits_in high_first bytes)) (replicate (length spare) false))

      size : length (unpack high_first (8 * length piece + k) bytes) ≡ 8 * length piece + k
      size = length-unpack high_first added bytes (omega (arith, many))

      long : length bits ≡ n
      long = length-append (held_in h) (unpack high_first added bytes) ∙ omega (arith, held-long h f w.sized, size)

      runs : first_blocks H.r (n / b) (held_then h.held (c / 4) bytes) ≡ whole_blocks H.r bits
      runs =
          ap₂ (first_blocks H.r) (sym (ap₂ (λ (x y : ℕ). x / y) long (sym eb))) seen ∙ whole-first H.r bits (replicate (length spare) false)

      -- what is left, and zeros up to whole half bytes
      rest : packed_block (filled (4 * ((n % b + 3) / 4)) (drop (4 * (n / b * (b / 4))) (held_then h.held (c / 4) bytes))) ≡ packed_block (rest_of H.r bits)
      unfolding rest_of
      rest =
          let w' : ℕ = 4 * ((n % b + 3) / 4) in
          let R : List Bool = drop (length bits / H.r * H.r) bits in
          let l_r : length R ≡ n % b = length_rest H.r bits ∙ ap₂ (λ (x y : ℕ). x % y) long (sym eb) in
          let at : 4 * (n / b * (b / 4)) ≡ length bits / H.r * H.r =
          mul_left_comm 4 (n / b) (b / 4) ∙ ap (λ (q : ℕ). n / b * q) rate ∙ ap₂ (λ (x y : ℕ). x / y * y) (sym long) eb in
          let fits : length bits / H.r * H.r ≤ length bits = div-mul-le_self (length bits) H.r in
          ap packed_block
          (ap₂ (λ (i : ℕ) (x : List Bool). filled w' (drop i x)) at seen
          ∙ ap (filled w') (drop-append-le (length bits / H.r * H.r) bits (replicate (length spare) false) fits)
          ∙ filled-zeros w' R (length spare)
          ∙ filled-short w' R (omega (arith, l_r)))
          ∙ pack-zeros high_first block_room R (w' - length R)

      pub piece-taken : (s r : List ℕ)
          → s ≡ packed_state (variant_of h) (run (variant_of h) (state_in (variant_of h) h.state) (first_blocks (variant_of h).r ((c + (8 * length piece + k)) / b) (held_then h.held (c / 4) (piece ++ last ∷ []))))
          → r ≡ packed_block (filled (4 * (((c + (8 * length piece + k)) % b + 3) / 4)) (drop (4 * ((c + (8 * length piece + k)) / b * (b / 4))) (held_then h.held (c / 4) (piece ++ last ∷ []))))
          → record { total = h.total + (8 * length piece + k); variant = h.variant; stage = h.stage; state = s; held = r } ≡ grown h (unpack high_first (8 * length piece + k) (piece ++ last ∷ []))
      unfolding grown
      piece-taken s r es er =
          ap₂ (λ (x y : List ℕ). record { total = h.total + added; variant = h.variant; stage = h.stage; state = x; held = y })
          (es ∙ ap₂ (λ (u : List Bool) (bs : List (List Bool)). packed_state H (run H u bs)) state-is runs)
          (er ∙ rest)
          ∙ ap (λ (t : ℕ). record { total = h.total + t; variant = h.variant; stage = h.stage; state = packed_state H (run H (state_of h) (whole_blocks H.r bits)); held = packed_block (rest_of H.r bits) }) (sym size)

  -- ---- the end

  -- the last byte has the bits that are held past the whole bytes, and the 1 bit
  module _ (x : ℕ) (ex : bits_of high_first 8 x ≡ take (c % 8) (bits_of high_first 8 (get_or h.held (c / 8) 0)) ++ true ∷ replicate (7 - c % 8) false) where
    abbrev part : List Bool
    part = take (c % 8) (bits_of high_first 8 (get_or h.held (c / 8) 0))

    held-parts : unpack high_first (4 * (2 * (c / 8))) h.held ++ part ≡ held_in h
    unfolding unpack
    held-parts =
        let i : ℕ = c / 8 in
        let b : List Bool = bits_of high_first 8 (get_or h.held i 0) in
        let rest : List Bool = bits_in high_first (drop (i + 1) h.held) in
        let whole : 4 * (2 * i) ≡ 8 * i = omega arith in
        let all : 8 * i + c % 8 ≡ c = omega arith in
        let behind : drop (8 * i) (bits_in high_first h.held) ≡ b ++ rest =
        bits_in-drop high_first i h.held ∙ first_byte high_first h.held i (omega (arith, held-few, w.sized.held-size)) in
        let at : take (c % 8) (drop (8 * i) (bits_in high_first h.held)) ≡ part =
        ap (take (c % 8)) behind ∙ take-append-le (c % 8) b rest (omega (arith, length-bits_of high_first 8 (get_or h.held i 0))) in
        ap₂ (λ (j : ℕ) (y : List Bool). take j (bits_in high_first h.held) ++ y) whole (sym at)
        ∙ sym (take-add (8 * i) (c % 8) (bits_in high_first h.held))
        ∙ ap (λ (j : ℕ). take j (bits_in high_first h.held)) all
        ∙ held-is

    marked : held_then h.held (2 * (c / 8)) (x ∷ []) ≡ with_one (held_in h) ++ replicate (7 - c % 8) false
    unfolding bits_in
    marked =
        let z : List Bool = replicate (7 - c % 8) false in
        let front : List Bool = unpack high_first (4 * (2 * (c / 8))) h.held in
        ap (λ (y : List Bool). front ++ y) (append-nil (bits_of high_first 8 x) ∙ ex)
        ∙ sym (append_assoc front part (true ∷ z))
        ∙ ap (λ (y : List Bool). y ++ true ∷ z) held-parts
        ∙ sym (append_assoc (held_in h) (true ∷ []) z)

    short : length (held_in h) < H.r
    short = omega (arith, held-long h f w.sized, count-lt h f.named)

    -- the held bits leave as much of a block as the message
    same_left : h.total % H.r ≡ length (held_in h) % H.r
    same_left = sym (mod-eq_of_lt short ∙ held-long h f w.sized ∙ open-count h o.1)

    -- the blocks that the code runs, and the length's behind them
    last-blocks : first_blocks H.r (data_blocks H c) (held_then h.held (2 * (c / 8)) (x ∷ [])) ++ length_blocks H h.total ≡ whole_blocks H.r (held_in h ++ padding H h.total)
    last-blocks =
        let many : c ≡ length (held_in h) = ec ∙ sym (held-long h f w.sized) in
        ap (λ (bs : List (List Bool)). bs ++ length_blocks H h.total)
        (ap (first_blocks H.r (data_blocks H c)) marked
        ∙ first-zeros H.r (data_blocks H c) (with_one (held_in h)) (7 - c % 8)
        ∙ ap (λ (k : ℕ). first_blocks H.r (data_blocks H k) (with_one (held_in h))) many)
        ∙ sym (ending-blocks h.variant f.named (held_in h) h.total same_left)

    -- s is the state after the blocks of the held bits, and e the one after the length's
    module _ (s e : List ℕ)
        (es : s ≡ packed_state (variant_of h) (run (variant_of h) (state_in (variant_of h) h.state) (first_blocks (variant_of h).r (data_blocks (variant_of h) c) (held_then h.held (2 * (c / 8)) (x ∷ []))))) where
      abbrev after : List Bool
      after = run H (state_in H h.state) (first_blocks H.r (data_blocks H c) (held_then h.held (2 * (c / 8)) (x ∷ [])))

      after-long : length after ≡ H.t
      after-long = run_length H S (first_blocks H.r (data_blocks H c) (held_then h.held (2 * (c / 8)) (x ∷ []))) (state_in H h.state) (ap length state-is ∙ state-long h f w.sized)

      pub marked-ready : Holds h.variant s
      marked-ready = stored-ready h.variant f.named s after after-long es

      pub end-taken : e ≡ packed_state (variant_of h) (run (variant_of h) (state_in (variant_of h) s) (length_blocks (variant_of h) h.total))
          → record { total = h.total; variant = h.variant; stage = 1; state = e; held = replicate block_room 0 } ≡ ended h
      unfolding ended
      end-taken ee =
          ap₂ (λ (x y : List ℕ). record { total = h.total; variant = h.variant; stage = 1; state = x; held = y })
          (ee
          ∙ ap (λ (u : List Bool). packed_state H (run H u (length_blocks H h.total))) (stored h.variant f.named s after after-long es)
          ∙ ap (packed_state H) (sym (run-append H (state_in H h.state) (first_blocks H.r (data_blocks H c) (held_then h.held (2 * (c / 8)) (x ∷ []))) (length_blocks H h.total)))
          ∙ ap₂ (λ (u : List Bool) (bs : List (List Bool)). packed_state H (run H u bs)) state-is last-blocks)
          (sym (pack-none high_first block_room))
