-- `photon::steps::row_sum` meets its contract: before a turn the sum is that of the bits from bit b on. Assumes nothing.
use mathlib.Core.Path.{◌≡◌}
use Prim.Native.Nat.{◌+◌, ◌-◌, ◌^◌}
use native.Mathlib.Nat.{div-one}
use native.Mathlib.Omega.{arith}
use lib.ListN.{get_or}
use Rattle.photon.specs.Rows.{lane}
use Rattle.photon.proofs.BitSums.{no_bits, bit-taken}
use Rattle.photon.proofs.steps.row_sum.Goals as goal

pub loop-b-init : goal.loop-b-init
loop-b-init c =
    let a = c.args in
    λ d j m e k hj. no_bits (2 ^ a.s) a.poly d j a.z (λ i. lane j (get_or a.rows.now (a.n + i) 0))

pub doubled-twice-requires : goal.doubled-twice-requires
doubled-twice-requires c = record { le_s = c.requires.n_bound.1; modulus = c.requires.modulus }

pub loop-b-preserved : goal.loop-b-preserved
loop-b-preserved c =
    let l = c.loop-b in
    let a = c.args in
    let up : l.b ≡ l.b - 1 + 1 = omega arith in
    λ d j m e k hj.
    bit-taken d a.s a.poly m a.rows.now a.n k j hj a.z (l.b - 1) (omega arith) e _ _ _ c.bit_sum.ensures
    (rw up at (l.invariant d j m e k hj)) c.doubled-twice.ensures

pub returns : goal.returns
returns c = λ d j m e k hj.
    let l = c.loop-b in
    let end : l.b ≡ 0 = omega arith in
    simp div-one at (rw end at (l.invariant d j m e k hj))
