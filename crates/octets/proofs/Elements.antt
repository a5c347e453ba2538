-- What owning an array of numbers by value tells: that each element fits its width.
-- `c.well_formed.N` of a parameter, and `.type_inv` of a call, are such facts.
-- Assumes nothing.
use mathlib.Core.List.{List, [], ◌∷◌}
use Prim.Native.Nat.{ℕ, zero, suc, ◌^◌, ◌<◌}
use lib.Pow.{pow_pos}
use lib.ListN.{get_or}
use mir.Syntax.{Width, w8}
use mir.Val.{Val, bits}
use denote.Laws.{Is}
use denote.Shadow.{shadow}
use denote.Array.{Array, each}
use denote.Plain.{UInt}

-- an array of numbers: each element, and the 0 past the end, fits their width
each_fits : (w : Width) (xs : List ℕ) (us : List Val) → shadow (each ℕ (UInt w).own_val xs us) → (i : ℕ) → get_or xs i 0 < 2 ^ bits w
each_fits w [] us h i = pow_pos (bits w)
each_fits w (x ∷ xs) [] h i = absurd h
each_fits w (x ∷ xs) (u ∷ us) h zero = h.0.1
each_fits w (x ∷ xs) (u ∷ us) h (suc i) = each_fits w xs us h.1 i

pub numbers-lt : (w : Width) (n : ℕ) (xs : List ℕ) (vs : List Val) → Is (Array (UInt w) n) xs vs → (i : ℕ) → get_or xs i 0 < 2 ^ bits w
numbers-lt w n xs vs p i = each_fits w xs p.0 p.1.1 i

-- [u8; n]
pub bytes_lt : (n : ℕ) (xs : List ℕ) (vs : List Val) → Is (Array (UInt w8) n) xs vs → (i : ℕ) → get_or xs i 0 < 256
bytes_lt n xs vs p i = numbers-lt w8 n xs vs p i
