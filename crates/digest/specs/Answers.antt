-- What the program prints (document 01): one line, the message's digest in hexadecimal, or "refused" and the number.
-- Assumes nothing.
use Rattle.std.specs.Prelude.{List, ◌++◌, ℕ}
use Rattle.standard.specs.Chain.{digest_from}
use Rattle.answers.specs.Refusals.{Status, Done, Refused}
use Rattle.octets.specs.Text.{ascii, hex_of}
use Rattle.answers.specs.Lines.{refused_line}
use Rattle.hasher.specs.declared.Hasher.{Hasher}
use Rattle.hasher.specs.declared.Advanced.{Advanced}
use Rattle.standard.specs.declared.Wanted.TheVariants.{Digest}
use Rattle.hasher.specs.Running.{variant_of, state_of, finished}
use Rattle.hasher.specs.Reading.{read_status}

-- the line of a digest: its digits, and a line end
unfoldable pub digest_line : List ℕ → List ℕ
digest_line digest = hex_of digest ++ ascii "\n"

-- the line for an answer: that of the digest if it is Done, else that of the refusal
abbrev pub line_for : Status → List ℕ → List ℕ
line_for Done digest = digest_line digest
line_for (Refused r) digest = refused_line r

-- the digest that a closed running hash has
abbrev pub digest_in : Hasher → List ℕ
digest_in h = digest_from (variant_of h) (state_of h)

-- the line for a running hash that has taken the whole message: it is closed, and its digest read into 32 bytes
unfoldable pub closed_line : Hasher → List ℕ
closed_line h = line_for (read_status (finished h).hasher Digest 32) (digest_in (finished h).hasher)

-- the line for the answer of the last call that took input, a start or an update: a refusal is printed, and a running
-- hash closed and read
abbrev pub line_after : Status → Hasher → List ℕ
line_after Done h = closed_line h
line_after (Refused r) h = refused_line r

abbrev pub answer_line : Advanced → List ℕ
answer_line answer = line_after answer.status answer.hasher
