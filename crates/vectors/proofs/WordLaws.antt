-- What the loops over a word's digits make, one turn at a time. Assumes nothing.
use mathlib.Core.Path.{◌≡◌, sym, ap, ◌∙◌}
use mathlib.Core.List.{List, [], ◌∷◌, ◌++◌, foldl-append}
use Prim.Native.Nat.{ℕ, ◌+◌, ◌-◌, ◌*◌, ◌/◌, ◌%◌, ◌<◌}
use native.Mathlib.Nat.{zero-add}
use native.Mathlib.Numerals.{add-one}
use native.Mathlib.Omega.{arith}
use lib.ListN.{length, get_or, set, take, drop}
use lib.Seq.{take-suc, paste-suc}
use Rattle.standard.proofs.Tab.{length-tab, get_d-tab}
use Rattle.octets.specs.Text.{from_decimal}
use Rattle.std.specs.Prelude.{unwrap_or}
use Rattle.vectors.specs.Words.{digit_value, pair_value, said_bytes}

-- one element more over the front
front-more : (d s : List ℕ) (i : ℕ) → i < length d → i < length s → set (take i s ++ drop i d) i (get_or s i 0) ≡ take (i + 1) s ++ drop (i + 1) d
front-more d s i hd hs = rw add-one (simp zero-add at (paste-suc d 0 s i 0 (rw zero-add hd) hs))

-- one decimal digit more
digit-more : (word : List ℕ) (i : ℕ) → i < length word → from_decimal (take (i + 1) word) ≡ from_decimal (take i word) * 10 + (get_or word i 0 - 48)
unfolding from_decimal
digit-more word i h = rw (add-one, take-suc word i 0 h) (foldl-append (λ (n code : ℕ). n * 10 + (code - 48)) 0 (take i word) (get_or word i 0 ∷ []))

-- and the same in 32 bits
number-more-low : (x d : ℕ) → (x % 4294967296 * 10 + d) % 4294967296 ≡ (x * 10 + d) % 4294967296
number-more-low x d = omega arith

pub number_more : (word : List ℕ) (i n r : ℕ) → i < length word → n ≡ from_decimal (take i word) % 4294967296
    → r ≡ (n * 10 + (get_or word i 0 - 48)) % 4294967296 → r ≡ from_decimal (take (i + 1) word) % 4294967296
number_more word i n r h e er =
    er ∙ ap (λ (m : ℕ). (m * 10 + (get_or word i 0 - 48)) % 4294967296) e
    ∙ number-more-low (from_decimal (take i word)) (get_or word i 0 - 48)
    ∙ sym (ap (λ (m : ℕ). m % 4294967296) (digit-more word i h))

-- a digit is less than 16
pub digit-small : (c : ℕ) → unwrap_or (digit_value c) 0 < 16
unfolding digit_value
digit-small c = grind arith

-- one byte more
pub byte_more : (word out₀ out : List ℕ) (i b : ℕ) → i < length word / 2 → i < length out₀
    → out ≡ take i (said_bytes word) ++ drop i out₀
    → b ≡ pair_value (get_or word (2 * i) 0) (get_or word (2 * i + 1) 0)
    → set out i b ≡ take (i + 1) (said_bytes word) ++ drop (i + 1) out₀
unfolding said_bytes
byte_more word out₀ out i b hw ho e eb =
    rw (e, eb ∙ sym (get_d-tab (length word / 2) (λ k. pair_value (get_or word (2 * k) 0) (get_or word (2 * k + 1) 0)) i 0 hw))
    (front-more out₀ (said_bytes word) i ho (rw length-tab hw))
