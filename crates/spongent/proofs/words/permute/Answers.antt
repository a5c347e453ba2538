-- `permute` runs the rounds of the variant.
-- Assumes nothing.
use mathlib.Core.Path.{◌≡◌}
use native.Mathlib.Omega.{arith}
use Rattle.spongent.proofs.words.permute.Goals as goal

pub returns-in-6 : goal.returns-in-6
returns-in-6 c =
    let e : c.args.v ≡ 6 = omega arith in
    rw e c.rounds.ensures

pub returns-in-7 : goal.returns-in-7
returns-in-7 c =
    let e : c.args.v ≡ 7 = omega arith in
    rw e c.rounds-in-7.ensures

pub returns-in-8 : goal.returns-in-8
returns-in-8 c =
    let e : c.args.v ≡ 8 = omega arith in
    rw e c.rounds-in-8.ensures

pub returns-in-9 : goal.returns-in-9
returns-in-9 c =
    let e : c.args.v ≡ 9 = omega arith in
    rw e c.rounds-in-9.ensures

pub returns-in_default : goal.returns-in_default
returns-in_default c =
    let e : c.args.v ≡ 10 = omega arith in
    rw e c.rounds-in_default.ensures
