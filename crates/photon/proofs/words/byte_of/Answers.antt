-- `photon::words::byte_of` meets its contract: the bytes of the lower half of a word are those of the word. Assumes nothing.
use mathlib.Core.Path.{◌≡◌}
use Prim.Native.Nat.{ℕ, ◌*◌, ◌/◌, ◌%◌, ◌^◌, ◌<◌}
use native.Mathlib.Omega.{arith}
use Rattle.standard.proofs.Tests.{zero-to-three}
use Rattle.photon.proofs.words.byte_of.Goals as goal

byte : (w : ℕ) (k : ℕ) → k < 4 → w % 0x100000000 / 2 ^ (8 * k) % 256 ≡ w / 2 ^ (8 * k) % 256
byte w = zero-to-three (λ k. w % 0x100000000 / 2 ^ (8 * k) % 256 ≡ w / 2 ^ (8 * k) % 256) (omega arith) (omega arith) (omega arith) (omega arith)

pub returns : goal.returns
returns c = byte c.args.w c.args.k (omega arith)
