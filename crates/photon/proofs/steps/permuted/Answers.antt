-- `photon::steps::permuted` meets its contract: read as a matrix, permuted, and written back. Assumes nothing.
use native.Mathlib.Omega.{arith}
use Rattle.photon.proofs.ParametersOf.{sound, fits}
use Rattle.photon.proofs.MatrixStates.{cells-room, matrix-ready, rounds-ready, photon-state}
use Rattle.photon.proofs.steps.permuted.Goals as goal

pub grid_of-g-requires : goal.grid_of-g-requires
grid_of-g-requires c =
    let v = c.args.v in
    (omega (arith, (fits v (omega arith) (omega arith)).most), cells-room v (omega arith) (omega arith) _ _ c.size_of-d.ensures c.cell_kind-cell.ensures)

pub rounds-h-requires : goal.rounds-h-requires
rounds-h-requires c =
    let v = c.args.v in
    record { le_v = (omega arith, omega arith); small = matrix-ready v (omega arith) (omega arith) _ _ c.size_of-d.ensures c.cell_kind-cell.ensures _ _ c.grid_of-g.ensures }

pub bytes_of-requires : goal.bytes_of-requires
bytes_of-requires c =
    let v = c.args.v in
    let ed = c.size_of-d.ensures in
    let es = c.cell_kind-cell.ensures in
    record { d_nonzero = (omega (arith, (sound v (omega arith) (omega arith)).pos), omega (arith, (fits v (omega arith) (omega arith)).most)); small = rounds-ready v (omega arith) (omega arith) _ _ ed es _ _ _ _ c.grid_of-g.ensures c.rounds-h.ensures }

pub returns : goal.returns
returns c =
    let a = c.args in
    photon-state a.v (omega arith) (omega arith) _ _ c.size_of-d.ensures c.cell_kind-cell.ensures
    a.s c.bytes_of.result a.way _ _ c.grid_of-g.ensures c.rounds-h.ensures c.bytes_of.ensures
