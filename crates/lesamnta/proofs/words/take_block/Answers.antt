-- `take_block` is the step of the chain.
-- Assumes nothing.
use mathlib.Core.Path.{ap, ◌∙◌}
use mathlib.Core.List.{List}
use Prim.Native.Nat.{ℕ}
use native.Mathlib.Omega.{arith}
use Rattle.standard.specs.Bits.{high_first, bits_in}
use Rattle.standard.specs.Lesamnta.{bits_of_words}
use Rattle.standard.proofs.BitLaws.{length-bits_in}
use Rattle.standard.proofs.Tab.{tab-self}
use Rattle.lesamnta.specs.Words.{state_of_four}
use Rattle.lesamnta.proofs.WordLaws.{stepped-is}
use Rattle.lesamnta.proofs.words.take_block.Goals as goal

pub returns : goal.returns
unfolding state_of_four
returns c =
    let bytes : List ℕ = c.args.bytes.now in
    ap (bits_of_words 64) (tab-self 4 c.enciphered-x.result 0 (omega arith))
    ∙ stepped-is (bits_in high_first bytes) c.args.at _ _ (omega (arith, length-bits_in high_first bytes, c.requires.at_in_bounds)) c.u64_at.ensures c.u64_at-2.ensures
    c.args.w.now _ c.enciphered-x.result c.fits-w c.halves-key.ensures c.enciphered-x.ensures
