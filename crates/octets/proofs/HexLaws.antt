-- Bytes in hexadecimal: how many digits, and those of one byte more.
-- Assumes nothing.
use mathlib.Core.Path.{◌≡◌, refl, ap, ◌∙◌}
use mathlib.Core.List.{List, [], ◌∷◌, ◌++◌}
use Prim.Native.Nat.{ℕ, ◌+◌, ◌*◌, ◌/◌, ◌%◌, ◌≤◌, ◌<◌}
use native.Mathlib.Numerals.{add-one}
use native.Mathlib.Omega.{arith}
use lib.ListN.{length, get_or, take}
use lib.Seq.{length-take-le, take-suc}
use Rattle.octets.specs.Slices.{written_at}
use Rattle.octets.specs.Text.{hex_digit, hex_of}
use Rattle.octets.proofs.WrittenAt.{written_at-none, written_at-after}

pub length-hex_of : (bytes : List ℕ) → length (hex_of bytes) ≡ 2 * length bytes
unfolding hex_of
length-hex_of [] = refl
length-hex_of (b ∷ bytes) = omega (arith, length-hex_of bytes)

hex_of-snoc : (bytes : List ℕ) (b : ℕ) → hex_of (bytes ++ b ∷ []) ≡ hex_of bytes ++ hex_digit (b / 16) ∷ hex_digit (b % 16) ∷ []
unfolding hex_of
hex_of-snoc [] b = refl
hex_of-snoc (x ∷ bytes) b = ap (λ (l : List ℕ). hex_digit (x / 16) ∷ hex_digit (x % 16) ∷ l) (hex_of-snoc bytes b)

pub hex-none : (at : ℕ) (bytes out : List ℕ) → written_at at (hex_of (take 0 bytes)) out ≡ out
unfolding hex_of
hex-none at bytes out = written_at-none at out

-- the two digits of the byte i, after those of the bytes before it
pub hex-more : (at : ℕ) (bytes out : List ℕ) (i p : ℕ) → i < length bytes → at + 2 * length bytes ≤ length out → p ≡ at + 2 * i
    → written_at p (hex_digit (get_or bytes i 0 / 16) ∷ hex_digit (get_or bytes i 0 % 16) ∷ []) (written_at at (hex_of (take i bytes)) out)
    ≡ written_at at (hex_of (take (i + 1) bytes)) out
hex-more at bytes out i p hi h e =
    let n : length (hex_of (take i bytes)) ≡ 2 * i = length-hex_of (take i bytes) ∙ ap (λ (k : ℕ). 2 * k) (length-take-le i bytes (omega arith)) in
    let place : p ≡ at + length (hex_of (take i bytes)) = omega (arith, n) in
    rw (place, add-one, take-suc bytes i 0, hex_of-snoc) (written_at-after at (hex_of (take i bytes)) _ out (omega (arith, n)))
