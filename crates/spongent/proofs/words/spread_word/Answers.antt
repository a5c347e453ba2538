-- `spread_word` sums the look-ups of n bytes. The loop's invariant: the sum of those of the first k.
-- Assumes nothing.
use mathlib.Core.Path.{refl, ap, ap₂, ◌∙◌}
use Prim.Native.Nat.{ℕ, ◌+◌, ◌*◌}
use native.Mathlib.Numerals.{add-one}
use native.Mathlib.Omega.{arith}
use lib.Bits.{bit_xor}
use lib.ListN.{get_or}
use Rattle.spongent.specs.Words.{spread_word}
use Rattle.spongent.proofs.words.spread_word.Goals as goal

pub loop-k-init : goal.loop-k-init
unfolding spread_word
loop-k-init c = refl

pub loop-k-preserved : goal.loop-k-preserved
unfolding spread_word
loop-k-preserved c =
    let k : ℕ = c.loop-k.k in
    let byte = c.from.ensures ∙ c.byte_of.ensures in
    let looked = ap (λ (x : ℕ). get_or c.args.table.now (256 * k + x) 0) byte ∙ c.requires.1.entry k _ (omega arith) (omega arith) in
    rw add-one (ap₂ bit_xor c.loop-k.invariant looked)
