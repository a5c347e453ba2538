-- `photon::steps::mix_columns` meets its contract: after n turns n steps are made. Assumes nothing.
use Prim.Native.Nat.{◌+◌}
use native.Mathlib.Omega.{arith}
use Rattle.photon.proofs.StepRows.{stepped-none, stepped-more, stepped-all}
use Rattle.photon.proofs.steps.mix_columns.Goals as goal

pub loop-n-init : goal.loop-n-init
loop-n-init c =
    let a = c.args in
    (c.requires.mixing.most, stepped-none a.d a.s a.poly c.requires.mixing a.z _ a.g c.requires.small c.packed_rows-rows.type_inv.1.0.1 c.packed_rows-rows.ensures)

pub row_sum-requires : goal.row_sum-requires
row_sum-requires c =
    let m = c.requires.mixing in
    record { n_bound = (omega arith, (m.bits, m.byte)); modulus = m.modulus }

pub loop-n-preserved : goal.loop-n-preserved
loop-n-preserved c =
    let a = c.args in
    let l = c.loop-n in (
      omega arith,
      stepped-more a.d a.s a.poly c.requires.mixing a.z _ l.n l.rows c.row_sum.result (omega arith)
          (λ j hj. c.row_sum.ensures a.d j c.requires.mixing c.requires.none_from (record { cell = λ i k hi hk. l.invariant.1.small (l.n + i) k (omega arith) hk }) hj) l.invariant.1,
    )

pub unpacked_rows-requires : goal.unpacked_rows-requires
unpacked_rows-requires c = c.requires.mixing.most

pub returns : goal.returns
returns c =
    let a = c.args in
    let l = c.loop-n in
    stepped-all a.d a.s a.poly c.requires.mixing a.z _ a.g c.unpacked_rows.result l.n l.rows (omega arith) l.invariant.1
    c.packed_rows-rows.ensures c.unpacked_rows.ensures
