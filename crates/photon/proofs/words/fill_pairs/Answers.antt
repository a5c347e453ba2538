-- `photon::words::fill_pairs` meets its contract: after h turns the first 16 h pairs are made. Assumes nothing.
use mathlib.Core.Path.{◌≡◌, ap, ◌∙◌}
use Prim.Native.Nat.{ℕ, ◌+◌, ◌*◌, ◌/◌, ◌%◌, ◌^◌, ◌≤◌}
use native.Mathlib.Omega.{arith}
use lib.Bits.{bit_xor}
use lib.ListN.{get_or}
use Rattle.photon_tables.specs.Tables.{Entries}
use Rattle.photon.specs.Parameters.{photon_of}
use Rattle.photon.proofs.ParametersOf.{size_fits, photon-variant}
use Rattle.photon.proofs.WordPlaces.{side_by_side}
use Rattle.photon.proofs.PairTables.{paired_none, paired-more, pairs_of}
use Rattle.photon.proofs.words.fill_pairs.Goals as goal

-- no variant has more than eight rows
few : (v n : ℕ) → 1 ≤ v → v ≤ 4 → n ≡ (photon_of v).d → n ≤ 8
few v n low high e = (size_fits v n (low, omega arith) e).1

pub overflow_add-n : goal.overflow_add-n
overflow_add-n c = omega (arith, few c.args.v _ c.requires.0 c.requires.1 c.size_of.ensures)

pub overflow_mul-h-end : goal.overflow_mul-h-end
overflow_mul-h-end c = omega (arith, few c.args.v _ c.requires.0 c.requires.1 c.size_of.ensures)

pub loop-h-init : goal.loop-h-init
loop-h-init c =
    let f = c.fill.ensures in
    (omega (arith, few c.args.v _ c.requires.0 c.requires.1 c.size_of.ensures), paired_none _ _ (omega (arith, f.0)) f.1)

pub fill-requires-in-loop-h : goal.fill-requires-in-loop-h
fill-requires-in-loop-h c = (omega (arith, c.loop-h.invariant.1.len), omega arith, omega arith)

pub loop-h-preserved : goal.loop-h-preserved
loop-h-preserved c =
    let l = c.loop-h in
    let f = c.fill-in-loop-h.ensures in
    (l.invariant.0, paired-more c.shares_of-shares.result.now l.out _ l.h l.invariant.1 f.0 (λ x h. f.1 x h ∙ ap (λ (y : ℕ). bit_xor (get_or c.shares_of-shares.result.now (16 + 32 * (l.h / 16) + x) 0) (y * 2 ^ 32 % 2 ^ 64)) c.from.ensures) f.2)

pub shape_of-out : goal.shape_of-out
shape_of-out c = omega (arith, c.loop-h.invariant.1.len)

pub returns : goal.returns
returns c =
    let v = c.args.v in
    let q = c.requires in
    let d = c.size_of.ensures in
    let entries : Entries 144 (photon_of v) c.shares_of-shares.result.now = c.shares_of-shares.ensures (photon_of v) _ (photon-variant v q.0 (omega arith)) in
    pairs_of (photon_of v) (side_by_side v q.0 q.1) c.shares_of-shares.result.now entries _ (ap (λ (n : ℕ). (n + 1) / 2) d)
    (omega (arith, few v _ q.0 q.1 d, d)) c.loop-h.h (omega arith) _ c.loop-h.invariant.1
