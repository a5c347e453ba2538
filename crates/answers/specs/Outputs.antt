-- What a call leaves: the new value if it is Done, the old one if it is refused; and the limit of a message.
-- Assumes nothing.
use Rattle.std.specs.Prelude.{Bool, true, false, List, ◌++◌, ℕ, ◌*◌, length, drop}
use Rattle.answers.specs.Refusals.{Status, Done, Refused}

-- the new value if the answer is Done, and the old one if it is a refusal
abbrev pub when_done : {A : Type 0} → Status → A → A → A
when_done Done new old = new
when_done (Refused r) new old = old

-- the answer is Done
abbrev pub is_done : Status → Bool
is_done s = when_done s true false

-- the result over the front of the caller's output; bytes after it stay, and all of them if the call is refused
abbrev pub written : Status → List ℕ → List ℕ → List ℕ
written s result out = when_done s (result ++ drop (length result) out) out

-- the maximum length of a message in bytes
abbrev pub max_bytes : ℕ
max_bytes = 16777215

-- and in bits (document 02, Q-6): those of as many bytes
abbrev pub max_bits : ℕ
max_bits = 8 * max_bytes
