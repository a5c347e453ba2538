-- `photon::words::put` meets its contract: a nibble, or the upper nibble of a byte and then the lower. Assumes nothing.
use mathlib.Core.Path.{◌≡◌}
use Prim.Native.Nat.{ℕ, ◌*◌, ◌/◌}
use native.Mathlib.Omega.{arith}
use Rattle.octets.proofs.RowsIntoBytes.{byte_put, byte-mid}
use Rattle.photon.proofs.words.put.Goals as goal

pub put_nibble-requires : goal.put_nibble-requires
put_nibble-requires c =
    let q = rw c.in-Nibble.is at c.requires.out_len in
    record { p_bound = (omega (arith, q.0, q.1), q.2); out_value = rw c.requires.out_len.0 (rw c.in-Nibble.is at c.requires.out_value) }

pub returns-in-Nibble : goal.returns-in-Nibble
returns-in-Nibble c = rw c.in-Nibble.is (rw c.requires.out_len.0 at c.put_nibble.ensures)

-- a byte is two nibbles
twice : (n : ℕ) → 8 * n ≡ 4 * (2 * n)
twice n = omega arith

pub put_nibble-requires-in-Byte : goal.put_nibble-requires-in-Byte
put_nibble-requires-in-Byte c =
    let q = rw c.in-Byte.is at c.requires.out_len in
    record { p_bound = (omega (arith, q.0, q.1), omega arith); out_value = rw c.requires.out_len.0 (rw (c.in-Byte.is, twice c.args.n) at c.requires.out_value) }

pub put_nibble-requires-in-Byte-2 : goal.put_nibble-requires-in-Byte-2
put_nibble-requires-in-Byte-2 c =
    let q = rw c.in-Byte.is at c.requires.out_len in
    let m = byte-mid c.args.out.now _ (2 * c.args.n) (c.args.x / 16) q.0 (omega (arith, q.1)) c.put_nibble-in-Byte.ensures in
    record { p_bound = (omega (arith, m.0, q.1), omega arith); out_value = m.1 }

pub returns-in-Byte : goal.returns-in-Byte
returns-in-Byte c =
    let q = rw c.in-Byte.is at c.requires.out_len in
    rw (c.in-Byte.is, twice c.args.n) (byte_put c.args.out.now _ _ (2 * c.args.n) c.args.x q.0 (omega (arith, q.1)) c.put_nibble-in-Byte.ensures c.put_nibble-in-Byte-2.ensures)
