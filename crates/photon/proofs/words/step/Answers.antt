-- `photon::words::step` meets its contract: each variant's cells are added to their rows, and its rounds run. Assumes nothing.
use mathlib.Core.Path.{◌≡◌, refl}
use Prim.Native.Nat.{◌+◌, ◌/◌, ◌%◌}
use native.Mathlib.Omega.{arith}
use lib.Dec.{lit<, lit≤}
use Rattle.standard.specs.Variants.{variant}
use Rattle.photon_tables.specs.Columns.{place_of}
use Rattle.photon.specs.Parameters.{photon_of}
use Rattle.photon.proofs.WordSteps.{past-size, row1, row2, row3, row4, row_block, row-even, row-table, one-row, two-rows, row8-block, one-row8}
use Rattle.photon.proofs.words.step.Goals as goal

-- nine cells: seven in row 0, and two in row 1
second-place : 4 ≡ place_of (photon_of 3) 1
unfolding photon_of variant
second-place = refl

pub add_cells-requires : goal.add_cells-requires
add_cells-requires c = (omega arith, omega arith, omega (arith, past-size (c.args.m / 2) c.args.bytes.now, row_block row1 c.in-1.is c.args.m _ c.requires.le_v.2))

pub rounds4-requires : goal.rounds4-requires
rounds4-requires c = row-table row1 c.in-1.is _ c.requires.table_for

pub returns-in-1 : goal.returns-in-1
returns-in-1 c =
    let a = c.add_cells in
    one-row row1 c.in-1.is c.args.bytes.now c.args.m c.requires.le_v.2 refl (c.args.m / 2) (c.args.m % 2) (omega arith) (lit≤ tt)
    a.new.w c.rounds4.new.w a.ensures c.rounds4.ensures

pub add_cells-requires-in-2 : goal.add_cells-requires-in-2
add_cells-requires-in-2 c = (omega arith, omega arith, omega (arith, past-size (c.args.m / 2) c.args.bytes.now, row_block row2 c.in-2.is c.args.m _ c.requires.le_v.2))

pub rounds4-requires-in-2 : goal.rounds4-requires-in-2
rounds4-requires-in-2 c = row-table row2 c.in-2.is _ c.requires.table_for

pub returns-in-2 : goal.returns-in-2
returns-in-2 c =
    let a = c.add_cells-in-2 in
    one-row row2 c.in-2.is c.args.bytes.now c.args.m c.requires.le_v.2 refl (c.args.m / 2) 0 (row-even row2 c.in-2.is c.args.m 2 refl c.requires.le_v.3) (lit≤ tt)
    a.new.w c.rounds4-in-2.new.w a.ensures c.rounds4-in-2.ensures

pub add_cells-requires-in-3 : goal.add_cells-requires-in-3
add_cells-requires-in-3 c = (omega arith, omega arith, omega (arith, past-size (c.args.m / 2) c.args.bytes.now, row_block row3 c.in-3.is c.args.m _ c.requires.le_v.2))

pub add_cells-requires-in-3-2 : goal.add_cells-requires-in-3-2
add_cells-requires-in-3-2 c = (omega arith, omega arith, omega (arith, past-size (c.args.m / 2) c.args.bytes.now, row_block row3 c.in-3.is c.args.m _ c.requires.le_v.2))

pub rounds4-requires-in-3 : goal.rounds4-requires-in-3
rounds4-requires-in-3 c = row-table row3 c.in-3.is _ c.requires.table_for

pub returns-in-3 : goal.returns-in-3
returns-in-3 c =
    let a = c.add_cells-in-3 in
    let b = c.add_cells-in-3-2 in
    two-rows row3 c.in-3.is c.args.bytes.now c.args.m c.requires.le_v.2 refl (c.args.m / 2) (c.args.m % 2) (c.args.m % 2 + 7) 2 4
    (omega arith) refl refl (lit≤ tt) (lit< tt) second-place a.new.w b.new.w c.rounds4-in-3.new.w a.ensures b.ensures c.rounds4-in-3.ensures

pub add_cells-requires-in-4 : goal.add_cells-requires-in-4
add_cells-requires-in-4 c = (omega arith, omega arith, omega (arith, past-size (c.args.m / 2) c.args.bytes.now, row_block row4 c.in-4.is c.args.m _ c.requires.le_v.2))

pub rounds4-requires-in-4 : goal.rounds4-requires-in-4
rounds4-requires-in-4 c = row-table row4 c.in-4.is _ c.requires.table_for

pub returns-in-4 : goal.returns-in-4
returns-in-4 c =
    let a = c.add_cells-in-4 in
    one-row row4 c.in-4.is c.args.bytes.now c.args.m c.requires.le_v.2 refl (c.args.m / 2) 0 (row-even row4 c.in-4.is c.args.m 4 refl c.requires.le_v.3) (lit≤ tt)
    a.new.w c.rounds4-in-4.new.w a.ensures c.rounds4-in-4.ensures

-- what is not 1 to 4 is 5
pub add_cells-requires-in_default : goal.add_cells-requires-in_default
add_cells-requires-in_default c =
    let five : c.args.v ≡ 5 = omega arith in
    (omega arith, omega arith, omega (arith, past-size (c.args.m / 2) c.args.bytes.now, row8-block c.args.v c.args.m _ five c.requires.le_v.2 c.requires.le_v.3))

pub rounds8-requires : goal.rounds8-requires
rounds8-requires c = c.requires.table_for.shares (omega arith)

pub returns-in_default : goal.returns-in_default
returns-in_default c =
    let a = c.add_cells-in_default in
    one-row8 c.args.v (omega arith) c.args.bytes.now c.args.m c.requires.le_v.2 c.requires.le_v.3 refl a.new.w c.rounds8.new.w a.ensures c.rounds8.ensures
