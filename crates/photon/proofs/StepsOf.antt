-- The steps of a variant as the code makes them, with its size, tables and coefficients looked up; and what each asks of the state.
-- Assumes nothing.
use mathlib.Core.Path.{◌≡◌, refl, ◌∙◌}
use mathlib.Core.List.{List, [], reverse}
use Prim.Native.Nat.{ℕ, ◌-◌, ◌^◌, ◌≤◌, ◌<◌}
use native.Mathlib.Omega.{arith}
use Rattle.standard.specs.declared.Direction.{Direction}
use Rattle.standard.specs.ForCode.{Modulus, cells, window, Square, Small}
use Rattle.standard.specs.Grid.{Grid, at}
use Rattle.standard.specs.Photon.{PhotonParameters, in_first, add_constants, sub_cells, shift_rows, mix_columns}
use lib.Bits.{bit_xor}
use lib.Pow.{pow_mono}
use Rattle.standard.proofs.Tab.{get_d-tab, get_d_reverse, at-window, window-is, window-square, window-small, small-window}
use Rattle.standard.proofs.PhotonLaws.{Sound}
use Rattle.photon.specs.Parameters.{shift_factor}
use Rattle.photon.specs.Rows.{lanes, Mixing, NoneFrom}
use lib.ListN.{get_or, length}

-- parameters that the code has room for: sound ones, with at most eight rows and columns and cells of at most eight bits
pub record Fits (p : PhotonParameters) : Type 0 where
  pub sound : Sound p
  pub most : p.d ≤ 8
  pub byte : p.s ≤ 8

-- the steps that work on all eight rows and columns
module _ (p : PhotonParameters) (h : Fits p) (g r : Grid) where
  pub add_at : (rc : ℕ) (ic : List ℕ) → cells p.d ic ≡ p.ic
      → ((i j : ℕ) → i < 8 → j < 8 → at r i j ≡ in_first j (bit_xor (at g i 0) (bit_xor rc (get_or ic i 0))) (at g i j))
      → window p.d r ≡ add_constants p.d rc p.ic (window p.d g)
  unfolding add_constants
  add_at rc ic ei f =
      window-is p.d r _
      (λ i j hi hj.
      rw (at-window p.d g i 0 hi (omega arith), at-window p.d g i j hi hj, ← ei, get_d-tab p.d (λ k. get_or ic k 0) i 0 hi)
      (f i j (omega (arith, h.most)) (omega (arith, h.most))))

  pub sub_at : (table box : List ℕ) → ((k : ℕ) → get_or table k 0 ≡ get_or box k 0)
      → ((i j : ℕ) → i < 8 → j < 8 → at r i j ≡ get_or table (at g i j) 0)
      → window p.d r ≡ sub_cells p.d box (window p.d g)
  unfolding sub_cells
  sub_at table box e f =
      window-is p.d r _ (λ i j hi hj. rw (at-window p.d g i j hi hj) (f i j (omega (arith, h.most)) (omega (arith, h.most)) ∙ e (at g i j)))

module _ {n d : ℕ} (e : n ≡ d) (g r : Grid) where
  pub shift-at : (w : Direction) → window n r ≡ shift_rows n (shift_factor n w) (window n g)
      → window d r ≡ shift_rows d (shift_factor d w) (window d g)
  shift-at w f = rw (← e) f

  pub flip-at : window n r ≡ reverse (window n g) → window d r ≡ reverse (window d g)
  flip-at f = rw (← e) f

-- the numbers that a call of the mixing has are those of the variant, and zs its coefficients
pub record MixedBy (p : PhotonParameters) (zs : List ℕ) (d s poly z : ℕ) : Type 0 where
  pub fits : Fits p
  pub size : d ≡ p.d
  pub bits : s ≡ p.s
  pub modulo : poly ≡ p.poly
  pub coefficients : lanes d z ≡ zs
  pub none : NoneFrom d z

module _ {p : PhotonParameters} {zs : List ℕ} {d s poly z : ℕ} (m : MixedBy p zs d s poly z) (g : Grid) where
  pub mix-ready : Small p.d (2 ^ p.s) g → record { mixing : Mixing d s poly; none_from : NoneFrom d z; small : Small d (2 ^ s) g }
  mix-ready k =
      let h = m.fits in
      let modulus : Modulus (2 ^ p.s) p.poly =
      record { s = p.s; is = refl; most = pow_mono {i = p.s} {j = 8} h.byte; low = h.sound.poly-low; high = h.sound.poly-high } in
      record {
        mixing = record {
          some = omega (arith, h.sound.pos);
          most = omega (arith, h.most);
          bits = omega (arith, h.sound.nibble);
          byte = omega (arith, h.byte);
          modulus = rw (m.bits, m.modulo) modulus;
        };
        none_from = m.none;
        small = rw (m.size, m.bits) k;
      }

  pub mix-at : (r : Grid) → window d r ≡ mix_columns (2 ^ s) poly d (lanes d z) (window d g)
      → window p.d r ≡ mix_columns (2 ^ p.s) p.poly p.d zs (window p.d g)
  mix-at r f = rw (← m.coefficients, ← m.size, ← m.bits, ← m.modulo) f

-- the rows in reverse are as small
pub flip-small : {d top : ℕ} {g : Grid} (f : Grid) → window d f ≡ reverse (window d g) → Small d top g → Small d top f
flip-small {d} {top} {g} f e m =
    let q : Square d (window d g) = window-square d g in
    small-window d top f
    (record {
      cell = λ i j hi hj.
          rw (e, get_d_reverse (window d g) i [] (omega (arith, q.rows)))
          ((window-small d top g m).cell (length (window d g) - 1 - i) j (omega (arith, q.rows)) hj);
    })
