-- A value within a message of bytes: when it lies in one block of a variant, and two messages that differ in it only.
-- Assumes nothing.
use Rattle.std.specs.Prelude.{◌≡◌, Bool, cond, List, [], ◌∷◌, ◌++◌, ℕ, zero, suc, ◌+◌, ◌*◌, ◌/◌, ◌%◌, leb, eqb, length, take, drop}
use Rattle.standard.specs.Families.{Variant}

-- two strings, of bits or of bytes, that are of equal length and differ, and only in the n places from p on
pub record DifferWithin {A : Type 0} (p n : ℕ) (x y : List A) : Type 0 where
  pub size : length x ≡ length y
  pub differ : x ≡ y → ⊥
  pub before : take p x ≡ take p y
  pub behind : drop (p + n) x ≡ drop (p + n) y

-- the n bytes from the byte p on lie in one block: they begin at its bit 8 p mod r, and end within it
unfoldable pub in_one_block : Variant → ℕ → ℕ → Bool
in_one_block H p n = leb (8 * p % H.r + 8 * n) H.r

-- the bytes after which blocks begin as they did, for a rate of whole nibbles: one block or two
unfoldable pub period : Variant → ℕ
period H = cond (eqb (H.r % 8) 0) (H.r / 8) (H.r / 4)

-- the offsets below k at which a value of n bytes lies in one block
unfoldable pub offsets : Variant → ℕ → ℕ → List ℕ
offsets H n zero = []
offsets H n (suc k) = offsets H n k ++ cond (in_one_block H k n) (k ∷ []) []

-- of how many bytes, and at which of them, a value of n bytes may begin so that it lies in one block
abbrev pub one_block_offsets : ℕ → Variant → ℕ × List ℕ
one_block_offsets n H = (period H, offsets H n (period H))
