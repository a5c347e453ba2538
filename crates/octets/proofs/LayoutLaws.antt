-- A state and a block at the front of the bytes that hold them: reading, writing, and the block xored in.
-- Assumes nothing.
use mathlib.Core.Path.{◌≡◌, sym, ap, ap₂, ◌∙◌, subst}
use mathlib.Core.Bool.{Bool, true, false}
use mathlib.Core.List.{List, ◌++◌, append_assoc}
use mathlib.Core.Logic.{◌⊎◌, inr, ⊎_elim}
use Prim.Native.Nat.{ℕ, ◌+◌, ◌-◌, ◌*◌, ◌%◌, ◌≤◌, ◌<◌}
use native.Mathlib.Omega.{arith}
use lib.ListN.{length, take, drop, get_or, replicate, take-append-drop, length-append, length-drop, length-replicate, replicate-append-replicate}
use lib.Seq.{take_at, drop_at, take_all}
use Rattle.standard.specs.Bits.{Order, high_first, bits_in, pack, unpack, bytes_for, xor_into, turned}
use Rattle.standard.proofs.Turned.{length-turned, turned-high, turned-in}
use Rattle.standard.proofs.BitLaws.{length-bits_in, length-unpack, length-pack, unpack-pack, bits_in-pack, bits_in-append, bits_in-zeros, filled-short, image-eq, pack-whole, xor_into-behind, xor_into-front, length-xor_into}
use Rattle.standard.specs.Layout.{block_room, state_room, clear}
use Rattle.octets.proofs.Clear.{clear-zeros}

-- bits at the front of packed bytes
pub packed-bits : (o : Order) (n : ℕ) (bs : List Bool) → length bs ≤ n * 8 → bits_in o (pack o n bs) ≡ bs ++ replicate (n * 8 - length bs) false
packed-bits o n bs h = bits_in-pack o n bs ∙ filled-short (n * 8) bs h

-- the bits of a block's bytes in any order: the block laid out in that order, and zeros
pub block-bits : (o : Order) (b : List Bool) → (high_first ≡ o) ⊎ (length b % 8 ≡ 0) → length b ≤ block_room * 8
    → bits_in o (pack high_first block_room b) ≡ turned o b ++ replicate (block_room * 8 - length b) false
unfolding unpack
block-bits o b w h =
    ⊎_elim
    (λ e. subst (λ (p : Order). bits_in p (pack high_first block_room b) ≡ turned p b ++ replicate (block_room * 8 - length b) false) e
    (packed-bits high_first block_room b h ∙ ap (λ (l : List Bool). l ++ replicate (block_room * 8 - length b) false) (sym (turned-high b))))
    (λ e.
    let k : ℕ = bytes_for (length b) in
    let whole : length b ≡ 8 * k = omega arith in
    let bytes : List ℕ = pack high_first k b in
    let all : 8 * (block_room - k) ≡ block_room * 8 - length b = omega arith in
    ap (bits_in o) (pack-whole high_first k block_room b (omega arith) whole)
    ∙ bits_in-append o bytes (replicate (block_room - k) 0)
    ∙ ap₂ (λ (x y : List Bool). x ++ y)
    (sym (turned-in b o (inr e) ∙ take_all (length b) (bits_in o bytes) (omega (arith, length-bits_in o bytes, length-pack high_first k b))))
    (bits_in-zeros o (block_room - k) ∙ ap (λ (m : ℕ). replicate m false) all))
    w

module _ (o : Order) (t : ℕ) (small : t ≤ state_room * 8) where
  -- a state read back from the bytes that hold it
  pub state-back : (s : List Bool) → length s ≡ t → unpack o t (pack o state_room s) ≡ s
  state-back s e = ap (λ (m : ℕ). unpack o m (pack o state_room s)) (sym e) ∙ unpack-pack o state_room s (omega arith)

  -- state_room bytes hold the state P if their bits are P and zeros
  pub holds : (x : List ℕ) (P : List Bool) → ((i : ℕ) → get_or x i 0 < 256) → length x ≡ state_room → length P ≡ t
      → bits_in o x ≡ P ++ replicate (state_room * 8 - t) false → x ≡ pack o state_room P
  holds x P hx lx lp e =
      image-eq o state_room x P hx lx (omega arith) (rw lp e)

  -- a block xored in
  pub taken-bytes : (s x : List ℕ) (b : List Bool) → length s ≡ state_room → ((i : ℕ) → get_or x i 0 < 256) → length x ≡ state_room
      → s ≡ pack o state_room (unpack o t s) → (high_first ≡ o) ⊎ (length b % 8 ≡ 0) → length b ≤ block_room * 8 → length b ≤ t
      → bits_in o x ≡ xor_into (bits_in o s) (bits_in o (pack high_first block_room b))
      → x ≡ pack o state_room (xor_into (unpack o t s) (turned o b))
  taken-bytes s x b ls hx lx es w hb ht e =
      let S : List Bool = unpack o t s in
      let B : List Bool = turned o b in
      let l_s : length S ≡ t = length-unpack o t s (omega arith) in
      let l_b : length B ≡ length b = length-turned o b in
      let Z : List Bool = replicate (state_room * 8 - t) false in
      let bits : bits_in o s ≡ S ++ Z = ap (bits_in o) es ∙ rw (packed-bits o state_room S (omega arith), l_s) in
      holds x (xor_into S B) hx lx (length-xor_into S B ∙ l_s)
      (e
      ∙ rw (bits, block-bits o b w hb, xor_into-behind, xor_into-front t (S ++ Z) B (omega arith), take_at S Z t l_s, drop_at S Z t l_s))

  -- the bytes of an image, and zeros after them
  pub front-holds : (bytes : List ℕ) (n : ℕ) → n ≡ bytes_for t → length bytes ≡ n → ((i : ℕ) → get_or (bytes ++ replicate (state_room - length bytes) 0) i 0 < 256)
      → clear (drop t (bits_in o bytes)) ≡ true
      → bytes ++ replicate (state_room - length bytes) 0 ≡ pack o state_room (unpack o t bytes)
  unfolding unpack
  front-holds bytes n en el hb ec =
      let bits : List Bool = bits_in o bytes in
      let lb : length bits ≡ 8 * length bytes = length-bits_in o bytes in
      let x : List ℕ = bytes ++ replicate (state_room - length bytes) 0 in
      let lx : length x ≡ state_room = length-append bytes (replicate (state_room - length bytes) 0) ∙ omega (arith, length-replicate {A = ℕ} (state_room - length bytes) 0) in
      let spare : drop t bits ≡ replicate (8 * length bytes - t) false =
      clear-zeros (drop t bits) ec ∙ rw (length-drop, lb) in
      let sum : 8 * length bytes - t + 8 * (state_room - length bytes) ≡ state_room * 8 - t = omega arith in
      holds x (take t bits) hb lx (length-unpack o t bytes (omega arith))
      (bits_in-append o bytes (replicate (state_room - length bytes) 0)
      ∙ ap (λ (l : List Bool). l ++ bits_in o (replicate (state_room - length bytes) 0)) (sym (take-append-drop t bits))
      ∙ rw (spare, bits_in-zeros, append_assoc, replicate-append-replicate, sum))
