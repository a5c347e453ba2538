-- `pairs_in` has the pairs of n bytes. The loop's invariant: those of the first k bytes are written.
-- Assumes nothing.
use mathlib.Core.Path.{◌≡◌, sym}
use mathlib.Core.List.{List}
use Prim.Native.Nat.{ℕ, ◌+◌, ◌*◌, ◌/◌, ◌%◌, ◌<◌}
use native.Mathlib.Nat.{div-one}
use native.Mathlib.Omega.{arith}
use lib.ListN.{get_or, set}
use Rattle.octets.proofs.Upto.{Upto, upto-none, upto-more}
use Rattle.spongent.specs.Pairs.{pair_at}
use Rattle.spongent.proofs.Places.{pair_at-in}
use Rattle.spongent.proofs.steps.pairs_in.Invariants.{Right}
use Rattle.spongent.proofs.steps.pairs_in.Goals as goal

-- the four pairs of byte k more
module _ (s start out : List ℕ) (k : ℕ) (hk : k < 36) (u : Upto 0 (Right s) 144 (4 * k) start out) where
  one_more : (j m y : ℕ) (ys : List ℕ) → j + 1 ≡ m → j < 144 → y ≡ pair_at s j → Upto 0 (Right s) 144 j start ys → Upto 0 (Right s) 144 m start (set ys j y)
  one_more j m y ys e h ey v = rw (← e) (upto-more j start ys y h ey v)

  first : get_or s k 0 % 4 ≡ pair_at s (4 * k)
  first =
      let e : 4 * k ≡ 4 * k + 0 = omega arith in
      rw (e, pair_at-in s k 0 (omega arith), div-one)

  byte_more : Upto 0 (Right s) 144 (4 * (k + 1)) start
      (set (set (set (set out (4 * k) (get_or s k 0 % 4)) (4 * k + 1) (get_or s k 0 / 4 % 4)) (4 * k + 2) (get_or s k 0 / 16 % 4)) (4 * k + 3) (get_or s k 0 / 64 % 4))
  byte_more =
      one_more (4 * k + 3) _ _ _ (omega arith) (omega arith) (sym (pair_at-in s k 3 (omega arith)))
      (one_more (4 * k + 2) _ _ _ (omega arith) (omega arith) (sym (pair_at-in s k 2 (omega arith)))
      (one_more (4 * k + 1) _ _ _ (omega arith) (omega arith) (sym (pair_at-in s k 1 (omega arith)))
      (one_more (4 * k) _ _ _ (omega arith) (omega arith) first u)))

pub loop-k-init : goal.loop-k-init
loop-k-init c = upto-none _ (omega arith)

pub loop-k-preserved : goal.loop-k-preserved
loop-k-preserved c =
    let l = c.loop-k in
    let a = c.args in
    byte_more a.s _ l.out l.k (omega arith) l.invariant

pub returns : goal.returns
returns c =
    let l = c.loop-k in
    λ j h. l.invariant.done j (omega arith)
