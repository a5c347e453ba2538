-- Of the operations: what enciphering under a key makes of a state, deciphering under it takes back, and the other way round, for every key and every state.
-- Assumes nothing.
use mathlib.Core.Path.{◌≡◌, sym, ap, ◌∙◌}
use mathlib.Core.Bool.{Bool, false}
use mathlib.Core.List.{List, ◌++◌, append-nil}
use Prim.Native.Nat.{ℕ, ◌-◌}
use native.Mathlib.Omega.{arith}
use lib.ListN.{length, replicate}
use Rattle.standard.specs.Bits.{high_first, bits_in, filled, pack}
use Rattle.standard.specs.Rounds.{opposite}
use Rattle.standard.specs.Lesamnta.{cipher}
use Rattle.standard.proofs.BitLaws.{length-bits_in, bits_in-pack, pack-bits_in, filled-short}
use Rattle.standard.proofs.LesamntaLaws.{cipher-length, cipher-undo}
use Rattle.lesamnta.specs.Promises.{CipheredBack}
use Rattle.lesamnta.specs.Cipher.{ciphered}

-- bits that are as many as are asked for
whole : (n : ℕ) (bs : List Bool) → length bs ≡ n → filled n bs ≡ bs
whole n bs e =
    let none : n - length bs ≡ 0 = omega arith in
    filled-short n bs (omega arith) ∙ ap (λ (k : ℕ). bs ++ replicate k false) none ∙ append-nil bs

pub ciphered-back : CipheredBack
unfolding ciphered
ciphered-back w key state size small =
    let k : List Bool = bits_in high_first key in
    let s : List Bool = bits_in high_first state in
    let long : length s ≡ 256 = length-bits_in high_first state ∙ omega arith in
    let back : bits_in high_first (pack high_first 32 (cipher w k s)) ≡ cipher w k s = bits_in-pack high_first 32 (cipher w k s) ∙ whole 256 (cipher w k s) (cipher-length w k s) in
    ap (λ (x : List Bool). pack high_first 32 (cipher (opposite w) k x)) back
    ∙ ap (pack high_first 32) (cipher-undo w k s long)
    ∙ ap (λ (n : ℕ). pack high_first n s) (sym size)
    ∙ pack-bits_in high_first state small
