-- `photon::words::round4` meets its contract: after k turns the first k bytes of each column are summed. Assumes nothing.
use mathlib.Core.Path.{◌≡◌}
use Prim.Native.Nat.{ℕ, ◌≤◌}
use native.Mathlib.Omega.{arith}
use Rattle.photon.specs.Parameters.{photon_of}
use Rattle.photon.proofs.ParametersOf.{size_fits}
use Rattle.photon.proofs.WordRounds.{summed-none, summed-more, round-done}
use Rattle.photon.proofs.words.round4.Goals as goal

-- the size lies between 2 and 8
size : (v d : ℕ) → 1 ≤ v → v ≤ 4 → d ≡ (photon_of v).d → (2 ≤ d) × (d ≤ 8)
size v d low high e = size_fits v d (low, omega arith) e

pub overflow_add-k-end : goal.overflow_add-k-end
overflow_add-k-end c = omega (arith, size c.args.v c.size_of-d.result c.requires.le_v.0 c.requires.le_v.1 c.size_of-d.ensures)

pub loop-k-init : goal.loop-k-init
loop-k-init c = summed-none c.args.v c.args.w.now c.args.c

pub add_pairs-requires : goal.add_pairs-requires
add_pairs-requires c =
    let few = size c.args.v c.size_of-d.result c.requires.le_v.0 c.requires.le_v.1 c.size_of-d.ensures in
    (omega arith, few.1, omega arith, omega (arith, c.requires.pairs.size, c.size_of-d.ensures))

pub loop-k-preserved : goal.loop-k-preserved
loop-k-preserved c =
    let l = c.loop-k in
    let q = c.requires.le_v in
    summed-more c.args.v q.0 q.1 c.args.table.now c.requires.pairs c.args.w.now c.args.c l.k (omega (arith, c.size_of-d.ensures))
    l.f _ l.invariant (omega arith) (rw c.size_of-d.ensures at c.add_pairs.ensures)

pub bounds-f-d : goal.bounds-f-d
bounds-f-d c = omega (arith, size c.args.v c.size_of-d.result c.requires.le_v.0 c.requires.le_v.1 c.size_of-d.ensures)

pub join-requires : goal.join-requires
join-requires c = (size c.args.v c.size_of-d.result c.requires.le_v.0 c.requires.le_v.1 c.size_of-d.ensures).1

pub returns : goal.returns
returns c =
    let l = c.loop-k in
    let q = c.requires.le_v in
    round-done c.args.v q.0 q.1 c.args.table.now c.requires.pairs c.args.w.now c.args.c l.k (omega (arith, c.size_of-d.ensures)) (omega (arith, c.size_of-d.ensures))
    (omega (arith, c.size_of-d.ensures, (size c.args.v c.size_of-d.result c.requires.le_v.0 c.requires.le_v.1 c.size_of-d.ensures).1)) q.2 l.f c.join.new.w l.invariant (rw c.size_of-d.ensures at c.join.ensures)
