-- `photon::words::round8` meets its contract: after k turns the first k rows of each column are summed. Assumes nothing.
use native.Mathlib.Omega.{arith}
use Rattle.photon.proofs.WordRounds.{shared-none, shared-more, shared-done}
use Rattle.photon.proofs.words.round8.Goals as goal

pub loop-k-init : goal.loop-k-init
loop-k-init c = shared-none c.args.w.now c.args.c

pub add_shares-requires : goal.add_shares-requires
add_shares-requires c = (omega arith, c.requires.size)

pub loop-k-preserved : goal.loop-k-preserved
loop-k-preserved c =
    let l = c.loop-k in
    shared-more c.args.w.now c.args.table.now c.requires c.args.c l.k (omega arith) l.f _ l.invariant c.add_shares.ensures

pub returns : goal.returns
returns c =
    let l = c.loop-k in
    shared-done c.args.w.now c.args.c l.k (omega arith) l.f l.invariant
