-- `deciphered` takes all rounds back. The loop's invariant: the first r rounds, taken back, make of the words what all make of the first ones.
-- Assumes nothing.
use mathlib.Core.Path.{refl, sym, ap, ◌∙◌}
use mathlib.Core.List.{List}
use Prim.Native.Nat.{ℕ, ◌-◌}
use native.Mathlib.Omega.{arith}
use Rattle.lesamnta.proofs.RoundLaws.{back_to, back-all, back_none, back_more}
use Rattle.lesamnta.proofs.words.deciphered.Goals as goal

pub loop-r-init : goal.loop-r-init
loop-r-init c = refl

pub round_back-before-requires : goal.round_back-before-requires
round_back-before-requires c = c.requires

pub loop-r-preserved : goal.loop-r-preserved
loop-r-preserved c =
    let l = c.loop-r in
    let keys : List ℕ = c.args.keys in
    ap (back_to (l.r - 1) keys) c.round_back-before.ensures ∙ back_more l.r keys l.words (omega arith) (omega arith) ∙ l.invariant

pub returns : goal.returns
returns c =
    let l = c.loop-r in
    sym (back_none l.r c.args.keys l.words (omega arith)) ∙ l.invariant ∙ back-all c.args.keys c.args.x (omega arith)
