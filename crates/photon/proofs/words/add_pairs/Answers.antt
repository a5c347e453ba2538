-- `photon::words::add_pairs` meets its contract: after m turns the first m sums have what their column gives. Assumes nothing.
use mathlib.Core.Path.{ap, ap₂, ◌∙◌}
use Prim.Native.Nat.{ℕ, ◌+◌, ◌*◌, ◌/◌, ◌%◌, ◌^◌, ◌<◌}
use native.Mathlib.Nat.{mod-lt}
use native.Mathlib.Omega.{arith}
use lib.Bits.{bit_xor}
use lib.ListN.{get_or}
use Rattle.octets.proofs.Upto.{upto-none, upto-more}
use Rattle.photon.proofs.words.add_pairs.Goals as goal

place-lt : (m k d : ℕ) → 0 < d → (m + 2 * k) % d < d
place-lt m k d pos = mod-lt _ pos

pub loop-m-init : goal.loop-m-init
loop-m-init c = upto-none _ (omega arith)

pub offset_bounds-w-m : goal.offset_bounds-w-m
offset_bounds-w-m c = omega (arith, place-lt c.loop-m.m c.args.k c.args.d (omega arith))

pub bounds-w-m : goal.bounds-w-m
bounds-w-m c = omega (arith, place-lt c.loop-m.m c.args.k c.args.d (omega arith))

pub byte_of-requires : goal.byte_of-requires
byte_of-requires c = c.spot.ensures.1

pub loop-m-preserved : goal.loop-m-preserved
loop-m-preserved c =
    let l = c.loop-m in
    let a = c.args in
    upto-more l.m _ l.f _ (omega arith)
    (ap₂ (λ (x y : ℕ). bit_xor x (get_or a.table.now (16 + 256 * a.k + y) 0)) (l.invariant.rest l.m (omega arith))
    (c.byte_of.ensures ∙ ap (λ (x : ℕ). get_or a.w.now ((l.m + 2 * a.k) % a.d) 0 / 2 ^ (8 * x) % 256) c.spot.ensures.0))
    l.invariant

pub returns : goal.returns
returns c m h = c.loop-m.invariant.done m (omega arith)
