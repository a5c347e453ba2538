-- `photon::words::rounds8` meets its contract: after r turns r rounds are made. Assumes nothing.
use mathlib.Core.Path.{◌≡◌}
use Prim.Native.Nat.{◌+◌}
use native.Mathlib.Omega.{arith}
use lib.Dec.{lit≤}
use Rattle.photon_tables.specs.Columns.{place_of}
use Rattle.photon_tables.proofs.LookUps.{first-added}
use Rattle.photon_tables.proofs.EntryTests.{entry-constant}
use Rattle.photon.specs.Parameters.{photon_of}
use Rattle.photon.proofs.ParametersOf.{sound}
use Rattle.photon.proofs.WordPlaces.{rising-places}
use Rattle.photon.proofs.WordRounds.{rounded-none, rounded-more, rounded-all}
use Rattle.photon.proofs.words.rounds8.Goals as goal

pub loop-r-init : goal.loop-r-init
loop-r-init c = rounded-none 5 (lit≤ tt) (lit≤ tt) _

pub round8-requires : goal.round8-requires
round8-requires c = c.requires

pub loop-r-preserved : goal.loop-r-preserved
loop-r-preserved c =
    let l = c.loop-r in
    rounded-more 5 (lit≤ tt) (lit≤ tt) l.r _ (omega arith) (entry-constant 1552 (photon_of 5) c.args.table.now c.requires (l.r + 1) (omega arith) (omega arith)) _ l.w
    c.round8.new.w l.invariant c.round8.ensures

pub returns : goal.returns
returns c =
    let l = c.loop-r in
    let twelve : l.r ≡ 12 = omega arith in
    rounded-all 5 (lit≤ tt) (lit≤ tt) _ l.w c.args.w.now _ (entry-constant 1552 (photon_of 5) c.args.table.now c.requires 0 (omega arith) (omega arith))
    (first-added (photon_of 5) (sound 5 (lit≤ tt) (lit≤ tt)) (place_of (photon_of 5)) (rising-places 5 (lit≤ tt) (lit≤ tt)) c.args.w.now _ (omega arith))
    (rw twelve at l.invariant)
