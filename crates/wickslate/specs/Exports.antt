-- How the exported functions read a choice, and what they write through the numbers that a caller lends.
-- Assumes nothing.
use Rattle.std.specs.Prelude.{cond, ℕ, eqb, Ok, Err}
use Rattle.standard.specs.declared.Wanted.{Wanted}
use Rattle.standard.specs.declared.Wanted.TheVariants.{Digest, EndState}
use Rattle.segments.specs.Steps.{Step}

-- 0 asks for the digest, any other number for the end state
abbrev pub wanted_of : ℕ → Wanted
wanted_of n = cond (eqb n 0) Digest EndState

-- an entry's offset, and its length; a refusal leaves what was there
abbrev pub offset_given : Step → ℕ → ℕ
offset_given (Ok entry) old = entry.offset
offset_given (Err r) old = old

abbrev pub length_given : Step → ℕ → ℕ
length_given (Ok entry) old = entry.length
length_given (Err r) old = old
