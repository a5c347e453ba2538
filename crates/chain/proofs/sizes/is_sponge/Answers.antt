-- `chain::sizes::is_sponge` meets its contract: 1 to 10 are. Assumes nothing.
use mathlib.Core.Path.{sym}
use native.Mathlib.Omega.{arith}
use borrow.Author.Tests.{le-leb, lt-leb}
use Rattle.standard.proofs.Variants.{sponge-is}
use Rattle.chain.proofs.sizes.is_sponge.Goals as goal

pub returns-in-1-to-10 : goal.returns-in-1-to-10
returns-in-1-to-10 c =
    let v = c.args.v in
    sym (rw (sponge-is v, le-leb 1 v (omega arith), le-leb v 10 (omega arith)))

pub returns-in_default : goal.returns-in_default
returns-in_default c =
    let v = c.args.v in
    sym (rw (sponge-is v, lt-leb 1 v (omega arith)))

pub returns-in_default-2 : goal.returns-in_default-2
returns-in_default-2 c =
    let v = c.args.v in
    sym (rw (sponge-is v, le-leb 1 v (omega arith), lt-leb v 10 (omega arith)))
