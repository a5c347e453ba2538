-- What each read of standard input makes of the running hash, and whether a further one follows (document 01: a variant
-- byte, then the message, to the end of the input). A read answers the number of bytes that it brought, which is 0 at the
-- end of the input, or that it failed.
-- Assumes nothing.
use Rattle.std.specs.Prelude.{Bool, cond, ◌&&◌, List, ℕ, ltb, take, Result, Ok, Err}
use Rattle.standard.specs.Messages.{bytes}
use Rattle.answers.specs.Refusals.{Status}
use Rattle.answers.specs.Outputs.{is_done}
use Rattle.hasher.specs.declared.Hasher.{Hasher}
use Rattle.hasher.specs.declared.Advanced.{Advanced}
use Rattle.hasher.specs.Running.{started, updated}
use Rattle.reads.specs.declared.Fed.{Fed}
use Rattle.reads.specs.declared.Fed.TheVariants.{More, Ended, Failed}

-- a read that brought something is followed by a further one, if the call that took it was Done
abbrev pub goes_on : Status → ℕ → Bool
goes_on status n = ltb 0 n && is_done status

-- how the input stands after a read that brought n bytes, by the answer of the call that took them
abbrev pub standing : Advanced → ℕ → Fed Advanced
standing answer n = cond (goes_on answer.status n) (More answer) (Ended answer)

-- the variant's number: the byte that the first read brought, and 0, which is no variant's, if it brought none
abbrev pub variant_read : ℕ → ℕ → ℕ
variant_read byte n = cond (ltb 0 n) byte 0

-- after the first read, of one byte: the hash is started
abbrev pub after_first : {E : Type 0} → ℕ → Result ℕ E → Fed Advanced
after_first byte (Ok n) = standing (started (variant_read byte n)) n
after_first byte (Err e) = Failed

-- after a later read: the hash is updated with what it brought, which stands at the front of the buffer
abbrev pub after_piece : {E : Type 0} → Hasher → List ℕ → Result ℕ E → Fed Advanced
after_piece h buffer (Ok n) = standing (updated h (bytes (take n buffer))) n
after_piece h buffer (Err e) = Failed
