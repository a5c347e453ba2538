-- `in_reverse` is the byte whose bits are those of b in the reverse order: computed at each byte.
-- Assumes nothing.
use mathlib.Core.Path.{◌∙◌}
use native.Mathlib.Omega.{arith}
use Rattle.std.specs.Int.{w8, reverse_bits, reverse_bits_onto}
use Rattle.standard.specs.Bits.{low_bits, low_value, ordered, bits_of}
use Rattle.standard.specs.Counters.{reversal}
use Rattle.standard.proofs.Tests.{same-below}
use Rattle.spongent.proofs.steps.in_reverse.Goals as goal

pub returns : goal.returns
unfolding reverse_bits_onto reversal bits_of ordered low_bits low_value
returns c = c.reverse_bits.ensures ∙ same-below (reverse_bits w8) (reversal 8) 256 tt c.args.b (omega arith)
