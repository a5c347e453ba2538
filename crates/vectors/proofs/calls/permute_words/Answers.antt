-- `vectors::calls::permute_words` is safe and ends. Assumes nothing.
use native.Mathlib.Omega.{arith}
use Rattle.standard.proofs.Variants.{known-true, sponge-true}
use Rattle.vectors.proofs.calls.permute_words.Goals as goal

pub permuted_by_words-requires : goal.permuted_by_words-requires
permuted_by_words-requires g c =
    let v = c.small-v.result in
    (known-true v (omega arith) (omega arith), sponge-true v (omega arith) (omega arith))
