-- `all_joined` packs pairs in n bytes. The loop's invariant: the first k bytes have their pairs, or are zero past the n.
-- Assumes nothing.
use mathlib.Core.Path.{◌∙◌}
use mathlib.Core.Logic.{⊎_elim}
use Prim.Native.Nat.{◌/◌}
use native.Mathlib.Omega.{arith}
use Rattle.standard.proofs.Tests.{lt-or-le}
use Rattle.octets.proofs.FilledFrom.{zeros-at}
use Rattle.octets.proofs.Upto.{upto-none, upto-more}
use Rattle.spongent.proofs.Places.{joined_at}
use Rattle.spongent.proofs.steps.all_joined.Goals as goal

pub loop-k-init : goal.loop-k-init
loop-k-init c = upto-none _ (omega arith)

pub joined_at-requires : goal.joined_at-requires
joined_at-requires c = (omega arith, c.requires.1)

pub loop-k-preserved : goal.loop-k-preserved
loop-k-preserved c =
    let l = c.loop-k in
    upto-more l.k _ l.byte-items c.joined_at.result (omega arith) c.joined_at.ensures l.invariant

pub returns : goal.returns
returns c =
    let l = c.loop-k in
    let a = c.args in (
      (λ j h. joined_at a.pairs l.byte-items j ((l.invariant.done (j / 4) (omega arith)).0 (omega arith))),
      (λ k h. ⊎_elim (λ m. (l.invariant.done k (omega arith)).1 h) (λ m. l.invariant.rest k (omega arith) ∙ zeros-at 36 k) (lt-or-le k 36)),
    )
