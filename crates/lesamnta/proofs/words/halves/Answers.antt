-- `halves` cuts two words into halves.
-- Assumes nothing.
use native.Mathlib.Omega.{arith}
use Rattle.lesamnta.proofs.WordLaws.{halves_are}
use Rattle.lesamnta.proofs.words.halves.Goals as goal

pub returns : goal.returns
returns c = halves_are c.args.a c.args.b (omega arith) (omega arith)
