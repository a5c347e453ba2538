-- `schedule_round` is a round of the key schedule.
-- Assumes nothing.
use mathlib.Core.Path.{ap}
use mathlib.Core.List.{[], ◌∷◌}
use Prim.Native.Nat.{ℕ}
use lib.Bits.{bit_xor}
use lib.ListN.{get_or}
use Rattle.standard.specs.Lesamnta.{feistel, scheduled}
use Rattle.lesamnta.proofs.words.schedule_round.Goals as goal

pub returns : goal.returns
unfolding scheduled feistel
returns c =
    let x = c.args.key in
    ap (λ (g : ℕ). bit_xor (get_or x 3 0) g ∷ get_or x 0 0 ∷ get_or x 1 0 ∷ get_or x 2 0 ∷ []) c.word_q.ensures.0
