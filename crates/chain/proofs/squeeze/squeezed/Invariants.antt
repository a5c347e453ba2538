-- `chain::squeeze::squeezed` meets its contract: what is out and what the state still gives make the digest, and the permutations that are left lead to the last block. Assumes nothing.
use Prim.Native.Nat.{◌*◌}
use Rattle.standard.specs.Variants.{variant}
use Rattle.chain.specs.Words.{state_in_words}
use Rattle.chain.proofs.SqueezeLaws.{Squeezing}
use Rattle.chain.proofs.squeeze.squeezed.Given as goal

abbrev pub invariant-loop-i : goal.invariant-loop-i
invariant-loop-i l = Squeezing l.v (state_in_words (variant l.v) l.initial.w) l.n l.q l.out (state_in_words (variant l.v) l.w) (l.i * l.q)
