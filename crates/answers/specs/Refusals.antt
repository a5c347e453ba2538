-- The refusals of documents 01 and 02 by number, and a call's answer as one number.
-- Assumes nothing.
use Rattle.std.specs.Prelude.{ℕ, ◌+◌, ◌*◌, Result, Ok, Err}
use Rattle.answers.specs.declared.Refusal.{Refusal}
use Rattle.answers.specs.declared.Refusal.TheVariants.{UnknownVariant, Malformed, WrongStage, TooLong, OutputTooShort, BadImage, OutOfRange, NoBlock, BadList, Misordered, PastEnd, BadManifest, BadRecord, NotRising, BadBitNumber, InsideByte, NotSponge}

-- the number of a refusal
abbrev pub number : Refusal → ℕ
number UnknownVariant = 1
number Malformed = 2
number WrongStage = 3
number TooLong = 4
number OutputTooShort = 5
number BadImage = 6
number OutOfRange = 7
number NoBlock = 8
number BadList = 9
number (Misordered k) = 10
number (PastEnd k) = 11
number BadManifest = 12
number BadRecord = 13
number NotRising = 14
number BadBitNumber = 15
number InsideByte = 16
number NotSponge = 17

-- the entry of a list that refusals 10 and 11 name, and 0 for the others
abbrev pub entry : Refusal → ℕ
entry UnknownVariant = 0
entry Malformed = 0
entry WrongStage = 0
entry TooLong = 0
entry OutputTooShort = 0
entry BadImage = 0
entry OutOfRange = 0
entry NoBlock = 0
entry BadList = 0
entry (Misordered k) = k
entry (PastEnd k) = k
entry BadManifest = 0
entry BadRecord = 0
entry NotRising = 0
entry BadBitNumber = 0
entry InsideByte = 0
entry NotSponge = 0

-- what a call answers: it is done, or refused
abbrev pub Status : Type 0
Status = Result (Unit {0}) Refusal

pattern abbrev pub Done : Status
Done = Ok tt

pattern abbrev pub Refused : Refusal → Status
Refused r = Err r

-- an answer as one number: that of its refusal, 0 for none, in the low byte, and the entry above it
abbrev pub answer : Status → ℕ
answer Done = 0
answer (Refused r) = number r + 256 * entry r
