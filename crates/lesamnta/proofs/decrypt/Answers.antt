-- `decrypt` is the inverse of the cipher under the same key.
-- Assumes nothing.
use mathlib.Core.Path.{ap₂, ◌∙◌}
use mathlib.Core.Bool.{Bool}
use mathlib.Core.List.{List}
use Prim.Native.Nat.{ℕ}
use native.Mathlib.Omega.{arith}
use lib.Seq.{take_all}
use Rattle.standard.specs.Bits.{high_first, bits_in, pack}
use Rattle.standard.specs.declared.Direction.TheVariants.{Backward}
use Rattle.standard.specs.Lesamnta.{cipher}
use Rattle.standard.proofs.BitLaws.{length-bits_in}
use Rattle.lesamnta.specs.Cipher.{ciphered}
use Rattle.lesamnta.proofs.decrypt.Goals as goal

pub returns : goal.returns
unfolding ciphered
returns c =
    let key : List ℕ = c.args.key in
    let state : List ℕ = c.args.state in
    c.decrypt_front.ensures
    ∙ ap₂ (λ (k x : List Bool). pack high_first 32 (cipher Backward k x))
    (take_all 128 (bits_in high_first key) (omega (arith, length-bits_in high_first key)))
    (take_all 256 (bits_in high_first state) (omega (arith, length-bits_in high_first state)))
