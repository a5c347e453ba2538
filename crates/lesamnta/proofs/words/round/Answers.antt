-- `round` is a round.
-- Assumes nothing.
use mathlib.Core.Path.{ap}
use mathlib.Core.List.{[], ◌∷◌}
use Prim.Native.Nat.{ℕ}
use lib.Bits.{bit_xor}
use lib.ListN.{get_or}
use Rattle.standard.specs.Lesamnta.{feistel, mixing}
use Rattle.lesamnta.proofs.words.round.Goals as goal

pub returns : goal.returns
unfolding mixing feistel
returns c =
    let x = c.args.x in
    ap (λ (g : ℕ). bit_xor (get_or x 3 0) g ∷ get_or x 0 0 ∷ get_or x 1 0 ∷ get_or x 2 0 ∷ []) c.word_g.ensures
