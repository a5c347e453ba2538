-- `s_box_layer` is s_box_layer on the first n bytes. The loop's invariant: the first i bytes are replaced.
-- Assumes nothing.
use mathlib.Core.Path.{◌≡◌}
use Rattle.octets.proofs.Mapped.{mapped}
use Rattle.spongent.proofs.Layers.{byte_by}
use Rattle.spongent.proofs.steps.s_box_layer.Given as goal

abbrev pub invariant-loop-i : goal.invariant-loop-i
invariant-loop-i l = (l.out ≡ mapped (byte_by l.table) l.i l.initial.out)
