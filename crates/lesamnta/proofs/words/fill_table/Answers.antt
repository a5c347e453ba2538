-- `fill_table` makes the table. `BOXES` and `CONSTANTS` are held to their rules by one test each, computed at each entry.
-- Assumes nothing.
use mathlib.Core.Path.{ap, ◌∙◌}
use Prim.Native.Nat.{ℕ, ◌+◌, ◌*◌, ◌^◌}
use native.Mathlib.Nat.{zero-add, mul-one}
use native.Mathlib.Omega.{arith}
use lib.ListN.{get_or}
use Rattle.standard.specs.Field.{double, times, mul}
use Rattle.standard.specs.Photon.{aes}
use Rattle.standard.specs.Lesamnta.{generated, shifted}
use Rattle.lesamnta.specs.CipherTables.{boxed_byte, BoxTable, ConstantTable}
use Rattle.lesamnta.specs.declared.tables.TheConstants.{BOXES, CONSTANTS}
use Rattle.lesamnta.proofs.CipherTableLaws.{box-table, constant-table}
use Rattle.lesamnta.proofs.words.fill_table.Goals as goal

boxes : BoxTable BOXES
unfolding boxed_byte mul times double aes
boxes = box-table

constants : ConstantTable CONSTANTS
unfolding generated shifted
constants = constant-table

pub returns : goal.returns
returns c =
    let first = c.put.ensures in
    let second = c.put-2.ensures in
    record {
      size = omega arith;
      box = λ x h. second.before x h ∙ rw zero-add at (first.written x h) ∙ ap (λ (y : ℕ). y * (2 ^ 32 + 1)) (boxes.entry x h);
      constant = λ r h. second.written r h ∙ mul-one (get_or CONSTANTS r 0) ∙ constants.entry r h;
    }
