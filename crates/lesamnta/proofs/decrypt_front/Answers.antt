-- `decrypt_front` is the inverse of the cipher, under the key and on the state at the front of bytes.
-- Assumes nothing.
use mathlib.Core.Path.{ap, ◌∙◌}
use mathlib.Core.List.{List, append-nil}
use Prim.Native.Nat.{ℕ}
use native.Mathlib.Omega.{arith}
use lib.ListN.{take}
use Rattle.standard.specs.Bits.{high_first, bits_in, pack}
use Rattle.standard.specs.Rounds.{rounds}
use Rattle.standard.specs.declared.Direction.TheVariants.{Backward}
use Rattle.standard.specs.Lesamnta.{mixing}
use Rattle.standard.proofs.BitLaws.{length-bits_in}
use Rattle.lesamnta.proofs.WordLaws.{words-front, cipher-is}
use Rattle.lesamnta.proofs.decrypt_front.Goals as goal

pub returns : goal.returns
returns c =
    let key : List ℕ = c.args.key.now in
    let state : List ℕ = c.args.state.now in
    c.put_state.ensures
    ∙ append-nil _
    ∙ ap (pack high_first 32)
    (cipher-is Backward (take 128 (bits_in high_first key)) (take 256 (bits_in high_first state)) _ _ _
    (c.key_words.ensures ∙ words-front 32 (bits_in high_first key) (omega (arith, length-bits_in high_first key, c.requires.0)))
    (c.state_words.ensures ∙ words-front 64 (bits_in high_first state) (omega (arith, length-bits_in high_first state, c.requires.1)))
    (c.deciphered-x.ensures ∙ ap (λ (ks : List ℕ). rounds mixing Backward ks c.state_words.result) c.round_keys-keys.ensures))
