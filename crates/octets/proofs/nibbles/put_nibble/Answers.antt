-- `octets::nibbles::put_nibble` meets its contract: an xor into the upper or the lower half of a byte. Assumes nothing.
use Rattle.octets.proofs.RowsIntoBytes.{half-put}
use Rattle.octets.proofs.nibbles.put_nibble.Goals as goal

pub returns : goal.returns
returns c =
    let a = c.args in
    rw c.shifted_nibble.ensures (half-put a.out.now a.p a.x c.requires.p_bound.0 c.requires.p_bound.1 c.requires.out_value)
