-- `chain::padding::length_block` meets its contract: the first byte, zeros and the length's eight bytes. Assumes nothing.
use mathlib.Core.Path.{ap, ◌∙◌}
use mathlib.Core.List.{List, ◌∷◌, ◌++◌, append-nil}
use Prim.Native.Nat.{ℕ}
use native.Mathlib.Omega.{arith}
use lib.ListN.{replicate}
use Rattle.std.specs.Int.{w64, to_be_bytes}
use Rattle.octets.specs.Numbers.{Bytes}
use Rattle.octets.proofs.Elements.{bytes_lt}
use Rattle.chain.proofs.LastBlocks.{length-bytes}
use Rattle.chain.proofs.padding.length_block.Goals as goal

pub returns : goal.returns
returns c =
    let x : ℕ = c.first_byte.result in
    let are = c.to_be_bytes.ensures ∙ ap (to_be_bytes w64) c.from.ensures in
    let bytes : Bytes (to_be_bytes w64 c.args.bits) = rw are at (bytes_lt 8 c.to_be_bytes.result _ c.to_be_bytes.type_inv) in
    ap (λ (eight : List ℕ). x ∷ replicate 7 0 ++ eight) (append-nil _ ∙ c.copy_from_slice.ensures.after ∙ are)
    ∙ length-bytes c.args.bits x c.first_byte.ensures (omega arith) bytes
