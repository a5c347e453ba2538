-- The rule of a table, at all of its entries, by one test that is computed from the first entry to the last.
-- Assumes nothing.
use mathlib.Core.Path.{◌≡◌, sym, ◌∙◌, subst}
use mathlib.Core.Bool.{Bool, true, ◌&&◌}
use mathlib.Core.List.{List, [], ◌∷◌}
use Prim.Native.Nat.{ℕ, zero, suc, ◌+◌, ◌-◌, ◌*◌, ◌^◌, ◌<◌}
use native.Mathlib.Nat.{add-zero, zero-add, add-suc, suc-add, le_of_suc-le-suc, not-suc-le-zero, mul_comm}
use native.Mathlib.Omega.{arith}
use lib.Arith.{digits_div, digits_mod}
use lib.Dec.{T, eqb, eqb→eq}
use lib.ListN.{length, get_or}
use borrow.Author.Tests.{lt-ltb, le-ltb}
use Rattle.standard.specs.Photon.{PhotonParameters}
use Rattle.standard.proofs.Tests.{and_left, and_right}
use Rattle.photon_tables.specs.Columns.{place_of, share, constant_column}
use Rattle.photon_tables.specs.Tables.{entry_of, Entries}

-- each entry is what f says of its place, counted from i
abbrev pub ruled : (ℕ → ℕ) → ℕ → List ℕ → Bool
ruled f i [] = true
ruled f i (x ∷ xs) = eqb x (f i) && ruled f (suc i) xs

from : (f : ℕ → ℕ) (xs : List ℕ) (i : ℕ) → T (ruled f i xs) → (k : ℕ) → k < length xs → get_or xs k 0 ≡ f (i + k)
from f [] i t k h = absurd (not-suc-le-zero h)
from f (x ∷ xs) i t zero h = subst (λ (m : ℕ). x ≡ f m) (sym (add-zero i)) (eqb→eq x (f i) (and_left (eqb x (f i)) (ruled f (suc i) xs) t))
from f (x ∷ xs) i t (suc k) h =
    subst (λ (m : ℕ). get_or xs k 0 ≡ f m) (suc-add i k ∙ sym (add-suc i k))
    (from f xs (suc i) (and_right (eqb x (f i)) (ruled f (suc i) xs) t) k (le_of_suc-le-suc h))

pub entries-of : (n : ℕ) (p : PhotonParameters) (table : List ℕ) → length table ≡ n → T (ruled (entry_of p) 0 table) → Entries n p table
entries-of n p table e t =
    record {
      size = e;
      entry = λ k h.
          subst (λ (m : ℕ). get_or table k 0 ≡ entry_of p m) (zero-add k) (from (entry_of p) table 0 t k (subst (λ (m : ℕ). k < m) (sym e) h));
    }

-- ---- what the entries are

pub entry-constant : (n : ℕ) (p : PhotonParameters) (table : List ℕ) → Entries n p table → (r : ℕ) → r < 16 → r < n → get_or table r 0 ≡ constant_column (place_of p) p r
unfolding entry_of
entry-constant n p table e r h l = e.entry r l ∙ rw (lt-ltb r 16 h)

pub entry-share : (n : ℕ) (p : PhotonParameters) (table : List ℕ) → Entries n p table → (i x : ℕ) → x < 2 ^ p.s → 16 + 2 ^ p.s * i + x < n
    → get_or table (16 + 2 ^ p.s * i + x) 0 ≡ share (place_of p) p i x
unfolding entry_of
entry-share n p table e i x hx l =
    let past : 16 + 2 ^ p.s * i + x - 16 ≡ i * 2 ^ p.s + x = omega (arith, mul_comm (2 ^ p.s) i) in
    e.entry (16 + 2 ^ p.s * i + x) l ∙ rw (le-ltb (16 + 2 ^ p.s * i + x) 16 (omega arith), past, digits_div i hx, digits_mod i hx)
