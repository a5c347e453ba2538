-- `photon::steps::cell_at` meets its contract: row n / d, column n % d. Assumes nothing.
use mathlib.Core.Path.{sym}
use native.Mathlib.Omega.{arith}
use Rattle.standard.proofs.Tab.{at-window, window-square}
use Rattle.photon.proofs.MatrixImage.{square_le, row_lt, col-lt, past}
use Rattle.photon.proofs.steps.cell_at.Goals as goal

pub overflow_mul-d : goal.overflow_mul-d
overflow_mul-d c = omega (arith, square_le c.args.d (omega arith))

pub returns-then-d-n : goal.returns-then-d-n
returns-then-d-n c =
    let a = c.args in
    sym (past a.d _ (window-square a.d a.g) a.n c.if-d-n.true (omega arith))

pub offset_bounds-g-i : goal.offset_bounds-g-i
offset_bounds-g-i c = omega (arith, row_lt c.args.d c.args.n c.if-d-n.false)

pub bounds-g-i : goal.bounds-g-i
bounds-g-i c = omega (arith, row_lt c.args.d c.args.n c.if-d-n.false)

pub bounds-g-j : goal.bounds-g-j
bounds-g-j c = omega (arith, col-lt c.args.d c.args.n c.if-d-n.false)

pub returns : goal.returns
returns c =
    let a = c.args in
    sym (at-window a.d a.g _ _ (row_lt a.d a.n c.if-d-n.false) (col-lt a.d a.n c.if-d-n.false))
