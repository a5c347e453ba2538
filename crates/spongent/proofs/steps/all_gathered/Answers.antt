-- `all_gathered` gathers n bytes from the planes. The loop's invariant: the first i bytes have their pairs, and the others are zero.
-- Assumes nothing.
use mathlib.Core.Path.{◌≡◌, ◌∙◌}
use Prim.Native.Nat.{ℕ, ◌+◌, ◌*◌, ◌<◌}
use native.Mathlib.Omega.{arith}
use lib.ListN.{get_or}
use Rattle.octets.proofs.FilledFrom.{zeros-at}
use Rattle.octets.proofs.Upto.{upto-none, upto-more}
use Rattle.spongent.specs.Pairs.{plane_pair}
use Rattle.spongent.proofs.Places.{Gathered, in-planes}
use Rattle.spongent.proofs.steps.all_gathered.Goals as goal

pub loop-i-init : goal.loop-i-init
loop-i-init c = upto-none _ (omega arith)

pub gathered-requires : goal.gathered-requires
gathered-requires c =
    let i : ℕ = c.loop-i.i in
    let n : ℕ = c.args.n in
    let small : (j : ℕ) → j < 4 * n → get_or c.args.pairs j 0 < 4 = c.requires.1 in
    (small i (omega arith), (small (n + i) (omega arith), (small (2 * n + i) (omega arith), small (3 * n + i) (omega arith))))

pub loop-i-preserved : goal.loop-i-preserved
loop-i-preserved c =
    let l = c.loop-i in
    upto-more l.i _ l.out c.gathered.result (omega arith) c.gathered.ensures l.invariant

pub returns : goal.returns
returns c =
    let l = c.loop-i in
    let a = c.args in
    let at : (i : ℕ) → i < a.n → Gathered a.n a.pairs i (get_or l.out i 0) = λ i h. l.invariant.done i (omega arith) in (
      in-planes a.n (λ j b i. plane_pair b (get_or l.out i 0) ≡ get_or a.pairs j 0)
          (λ i h. (at i h).0) (λ i h. (at i h).1.0) (λ i h. (at i h).1.1.0) (λ i h. (at i h).1.1.1),
      (λ k h. l.invariant.rest k (omega arith) ∙ zeros-at 36 k),
    )
