-- `octets::numbers::u16_bytes` meets its contract. Assumes nothing.
use Rattle.octets.specs.Numbers.{in_bytes}
use Rattle.octets.proofs.numbers.u16_bytes.Goals as goal

pub returns : goal.returns
unfolding in_bytes
returns c = c.to_be_bytes.ensures
