-- `photon::words::fill_pairs` meets its contract: after h turns the first 16 h pairs are made. Assumes nothing.
use Prim.Native.Nat.{◌≤◌}
use Rattle.photon.proofs.PairTables.{Paired}
use Rattle.photon.proofs.words.fill_pairs.Given as goal

abbrev pub invariant-loop-h : goal.invariant-loop-h
invariant-loop-h l = (l.n ≤ 4) × Paired l.shares l.h l.out
