-- `words_of` holds the bytes of s. The loop's invariant: the first i bytes are in the words, and the others are zero.
-- Assumes nothing.
use mathlib.Core.Path.{◌≡◌, refl}
use mathlib.Core.List.{List}
use Prim.Native.Nat.{ℕ}
use native.Mathlib.Omega.{arith}
use lib.ListN.{get_or, length-set}
use Rattle.octets.proofs.Upto.{upto-none}
use Rattle.spongent.proofs.WordLaws.{filled_more, filled-all, length-bytes_in}
use Rattle.spongent.proofs.WordStates.{state-read}
use Rattle.spongent.proofs.words.words_of.Goals as goal

pub loop-i-init : goal.loop-i-init
loop-i-init c = (refl, upto-none _ (length-bytes_in _))

pub loop-i-preserved : goal.loop-i-preserved
loop-i-preserved c =
    let l = c.loop-i in
    let s : List ℕ = c.args.s.now in (
      simp length-set l.invariant.0,
      rw c.byte_at.ensures.0 (filled_more s l.out l.i (get_or s l.i 0) (omega arith) (omega arith) c.byte_at.ensures.1 refl l.invariant.1),
    )

pub returns : goal.returns
returns c =
    let l = c.loop-i in
    let e : l.i ≡ 36 = omega arith in
    state-read c.args.v c.requires.0 c.requires.1 c.args.s.now l.out (filled-all c.args.s.now l.out (omega arith) (rw e at l.invariant.1))
