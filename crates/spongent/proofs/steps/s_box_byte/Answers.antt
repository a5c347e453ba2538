-- `s_box_byte` is s_box_layer on the eight bits of a byte.
-- Assumes nothing.
use Prim.Native.Nat.{◌/◌, ◌%◌}
use native.Mathlib.Omega.{arith}
use Rattle.spongent.proofs.Layers.{byte-nibbles}
use Rattle.spongent.proofs.steps.s_box_byte.Goals as goal

pub overflow_mul-result : goal.overflow_mul-result
overflow_mul-result c = omega (arith, c.requires (c.args.b / 16) (omega arith))

pub overflow_add-result : goal.overflow_add-result
overflow_add-result c = omega (arith, c.requires (c.args.b % 16) (omega arith), c.requires (c.args.b / 16) (omega arith))

pub returns : goal.returns
returns c = byte-nibbles c.args.table.now c.requires c.args.b (omega arith)
