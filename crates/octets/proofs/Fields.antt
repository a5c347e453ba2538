-- What owning a struct by value tells of a field that is an array of bytes: each element is a byte. The struct's own laws give the facts `s`.
-- Assumes nothing.
use mathlib.Core.List.{List, [], ◌∷◌}
use Prim.Native.Nat.{ℕ, zero, suc, ◌<◌}
use lib.Dec.{lit<}
use lib.ListN.{get_or}
use mir.Val.{Val}
use denote.Array.{each}
use denote.Builtin.{u8}
use denote.Shadow.{shadow}

pub field-bytes : (xs : List ℕ) (us : List Val) → shadow (each ℕ u8.own_val xs us) → (i : ℕ) → get_or xs i 0 < 256
field-bytes [] us s i = lit< tt
field-bytes (x ∷ xs) [] s i = absurd s
field-bytes (x ∷ xs) (u ∷ us) s zero = s.0.1
field-bytes (x ∷ xs) (u ∷ us) s (suc i) = field-bytes xs us s.1 i
