-- When two messages that may end inside a byte are one message.
-- Assumes nothing.
use Rattle.std.specs.Prelude.{◌≡◌, List, ℕ, ◌-◌, length, take, get_or}
use Rattle.standard.specs.Families.{Variant}
use Rattle.standard.specs.Messages.{counted_of}

-- the bytes before the last one, and the last
abbrev pub before_last : List ℕ → List ℕ
before_last m = take (length m - 1) m

abbrev pub last_of : List ℕ → ℕ
last_of m = get_or m (length m - 1) 0

-- as many bytes, as many bits of the last one that count, the same bytes before it, and the same bits of it that count
pub record SameMessage (H : Variant) (x : List ℕ) (k : ℕ) (y : List ℕ) (l : ℕ) : Type 0 where
  pub bytes : length x ≡ length y
  pub bits : k ≡ l
  pub before : before_last x ≡ before_last y
  pub counted : counted_of H.family k (last_of x) ≡ counted_of H.family k (last_of y)
