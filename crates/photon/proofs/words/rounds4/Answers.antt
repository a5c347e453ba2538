-- `photon::words::rounds4` meets its contract: after r turns r rounds are made. Assumes nothing.
use mathlib.Core.Path.{◌≡◌}
use Prim.Native.Nat.{◌+◌, ◌≤◌, ◌<◌, ◌^◌}
use native.Mathlib.Omega.{arith}
use lib.ListN.{get_or}
use Rattle.photon_tables.specs.Columns.{place_of}
use Rattle.photon_tables.proofs.LookUps.{first-added}
use Rattle.photon.specs.Parameters.{photon_of}
use Rattle.photon.proofs.ParametersOf.{sound}
use Rattle.photon.proofs.WordPlaces.{rising-places, constants-low}
use Rattle.photon.proofs.WordRounds.{rounded-none, rounded-more, rounded-all}
use Rattle.photon.proofs.words.rounds4.Goals as goal

pub loop-r-init : goal.loop-r-init
loop-r-init c = rounded-none c.args.v c.requires.le_v.0 (omega arith) _

pub round4-requires : goal.round4-requires
round4-requires c =
    let l = c.loop-r in
    let q = c.requires.le_v in
    let low : get_or c.args.table.now (l.r + 1) 0 < 2 ^ 32 = rw (c.requires.pairs.constant (l.r + 1) (omega arith)) (constants-low c.args.v q.0 q.1 (l.r + 1)) in
    record { le_v = (q.0, q.1, low); pairs = c.requires.pairs }

pub loop-r-preserved : goal.loop-r-preserved
loop-r-preserved c =
    let l = c.loop-r in
    let q = c.requires.le_v in
    rounded-more c.args.v q.0 (omega arith) l.r _ (omega arith) (c.requires.pairs.constant (l.r + 1) (omega arith)) _ l.w c.round4.new.w l.invariant c.round4.ensures

pub returns : goal.returns
returns c =
    let l = c.loop-r in
    let q = c.requires.le_v in
    let v = c.args.v in
    let high : v ≤ 5 = omega arith in
    let twelve : l.r ≡ 12 = omega arith in
    rounded-all v q.0 high _ l.w c.args.w.now _ (c.requires.pairs.constant 0 (omega arith))
    (first-added (photon_of v) (sound v q.0 high) (place_of (photon_of v)) (rising-places v q.0 high) c.args.w.now _ (omega arith)) (rw twelve at l.invariant)
