-- `photon::steps::shift_rows` meets its contract: before turn i of the loop the rows above row i are rotated. A rotation by d - i places is one by (d - 1) * i. Rows past the matrix do not count.
-- Assumes nothing.
use mathlib.Core.Path.{◌≡◌, refl}
use mathlib.Core.Logic.{◌⊎◌, inl, inr}
use Prim.Native.Nat.{ℕ, zero, suc, ◌+◌, ◌-◌, ◌*◌, ◌%◌, ◌<◌}
use native.Mathlib.Nat.{mod-lt, mod-eq_of_lt, add-mul-mod_self_left, mul-zero, add-zero, one-mul, mul-suc, suc-mul, not-suc-le-zero}
use native.Mathlib.Omega.{arith}
use lib.Arith.{lt-one}
use Rattle.standard.specs.declared.Direction.{Direction}
use Rattle.standard.specs.declared.Direction.TheVariants.{Forward, Backward}
use Rattle.standard.specs.Photon.{shift_rows}
use Rattle.standard.proofs.Tab.{at-window, window-is}
use Rattle.octets.proofs.Upto.{upto-more}
use Rattle.photon.specs.Parameters.{rotation_from, distance, shift_factor}
use Rattle.photon.proofs.steps.shift_rows.Invariants.{Rotated}
use Rattle.photon.proofs.steps.shift_rows.Goals as goal

either-row : (d : ℕ) (w : Direction) → (rotation_from d w ≡ 0) ⊎ (rotation_from d w ≡ d)
either-row d Forward = inl refl
either-row d Backward = inr refl

same-rotation : (d : ℕ) (w : Direction) (i j : ℕ) → i < d → (j + distance i (rotation_from d w)) % d ≡ (j + shift_factor d w * i) % d
same-rotation d Forward i j h =
    let far : j + (i - 0 + (0 - i)) ≡ j + 1 * i = omega (arith, one-mul i) in
    rw far
same-rotation zero Backward i j h = absurd (not-suc-le-zero h)
same-rotation (suc e) Backward zero j h =
    let far : j + (0 - suc e + (suc e - 0)) ≡ j + suc e * 1 = omega arith in
    rw (far, add-mul-mod_self_left, mul-zero, add-zero)
same-rotation (suc e) Backward (suc i) j h =
    let less : suc e - 1 ≡ e = omega arith in
    let far : suc i - suc e + (suc e - suc i) ≡ suc e - suc i = omega arith in
    let round : j + e * suc i ≡ j + (suc e - suc i) + suc e * i = omega (arith, mul-suc e i, suc-mul e i) in
    rw (less, far, round, add-mul-mod_self_left)

pub loop-i-init : goal.loop-i-init
loop-i-init c =
    record {
      len = c.well_formed.0.1.0.1;
      done = λ k l hk j hj. rw (c.rotation_from-from.ensures, lt-one l, same-rotation c.args.d c.args.way 0 j (omega arith), mul-zero, add-zero, mod-eq_of_lt hj);
      rest = λ k l. refl;
    }

pub rotation_of-by-requires : goal.rotation_of-by-requires
rotation_of-by-requires c = record { le_d = (omega arith, omega arith); fact = rw c.rotation_from-from.ensures (either-row c.args.d c.args.way) }

pub rotate_row-requires : goal.rotate_row-requires
rotate_row-requires c = record { by_nonzero = c.rotation_of-by.ensures.0; d_bound = omega arith }

pub loop-i-preserved : goal.loop-i-preserved
loop-i-preserved c =
    let l = c.loop-i in
    let a = c.args in
    let row : Rotated a.d c.rotation_from-from.result a.g l.i c.rotate_row.result = λ hi j h. rw (← c.rotation_of-by.ensures.1 hi, ← l.invariant.rest l.i (omega arith)) (c.rotate_row.ensures j h) in
    upto-more l.i _ l.out _ (omega arith) row l.invariant

pub returns : goal.returns
unfolding shift_rows
returns c =
    let a = c.args in
    window-is a.d _ _
    (λ i j hi hj.
    rw (at-window a.d a.g i _ hi (mod-lt (j + shift_factor a.d a.way * i) (omega arith)), ← same-rotation a.d a.way i j hi, ← c.rotation_from-from.ensures)
    (c.loop-i.invariant.done i (omega arith) hi j hj))
