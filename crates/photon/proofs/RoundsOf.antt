-- What the steps of a round make together, in either direction; each keeps the cells below their bound; and one round more of twelve.
-- Assumes nothing.
use mathlib.Core.Path.{◌≡◌, refl, ap}
use mathlib.Core.List.{foldl, foldl-append}
use Prim.Native.Nat.{ℕ, ◌+◌, ◌-◌, ◌^◌, ◌<◌}
use native.Mathlib.Numerals.{add-one}
use native.Mathlib.Omega.{arith}
use lib.ListN.{length, get_or, take}
use lib.Seq.{take-suc, take_all}
use Rattle.standard.specs.Rounds.{in_turn, rounds}
use Rattle.standard.specs.declared.Direction.{Direction}
use Rattle.standard.specs.declared.Direction.TheVariants.{Forward, Backward}
use Rattle.standard.specs.Grid.{Grid}
use Rattle.standard.specs.ForCode.{window, Small}
use Rattle.standard.specs.Photon.{PhotonParameters, add_constants, sub_cells, shift_rows, mix_columns, unmix_columns, round_constants, photon_round, photon_rounds}
use Rattle.standard.proofs.Tests.{bound-below}
use Rattle.standard.proofs.PhotonLaws.{Sound, constant-room, window-state, state-small, add-state, sub-state, shift-state, round-state}

module _ (p : PhotonParameters) (h : Sound p) (g : Grid) (m : Small p.d (2 ^ p.s) g) (rc : ℕ) (hr : rc < 16) where
  pub unmixed-small : (a b s : Grid)
      → window p.d a ≡ add_constants p.d rc p.ic (window p.d g)
      → window p.d b ≡ sub_cells p.d p.box (window p.d a)
      → window p.d s ≡ shift_rows p.d 1 (window p.d b)
      → Small p.d (2 ^ p.s) s
  unmixed-small a b s e₁ e₂ e₃ =
      let added = add-state p h rc (omega (arith, constant-room p h)) (window p.d g) (window-state p g m) in
      state-small p s _ (rw (e₂, e₁) at e₃) (shift-state p h 1 _ (sub-state p h Forward _ added))

  pub round-small : (w : Direction) (r : Grid) → window p.d r ≡ photon_round p w (window p.d g) rc → Small p.d (2 ^ p.s) r
  round-small w r e = state-small p r _ e (round-state p h w (window p.d g) rc (window-state p g m) (omega (arith, constant-room p h)))

module _ (p : PhotonParameters) (rc : ℕ) (g r : Grid) where
  pub round_is : (a b s : Grid)
      → window p.d a ≡ add_constants p.d rc p.ic (window p.d g)
      → window p.d b ≡ sub_cells p.d p.box (window p.d a)
      → window p.d s ≡ shift_rows p.d 1 (window p.d b)
      → window p.d r ≡ mix_columns (2 ^ p.s) p.poly p.d p.z (window p.d s)
      → window p.d r ≡ photon_round p Forward (window p.d g) rc
  unfolding photon_round
  round_is a b s e₁ e₂ e₃ e₄ = rw (e₄, e₃, e₂, e₁)

  pub unround-is : (m s b : Grid)
      → window p.d m ≡ unmix_columns (2 ^ p.s) p.poly p.d p.unz (window p.d g)
      → window p.d s ≡ shift_rows p.d (p.d - 1) (window p.d m)
      → window p.d b ≡ sub_cells p.d p.unbox (window p.d s)
      → window p.d r ≡ add_constants p.d rc p.ic (window p.d b)
      → window p.d r ≡ photon_round p Backward (window p.d g) rc
  unfolding photon_round
  unround-is m s b e₁ e₂ e₃ e₄ = rw (e₄, e₃, e₂, e₁)

-- ---- the constants, and one round more

pub constant-lt : (w : Direction) (n : ℕ) → n < 12 → get_or (in_turn w round_constants) n 0 < 16
constant-lt Forward = bound-below (λ n. get_or (in_turn Forward round_constants) n 0) 16 12 tt
constant-lt Backward = bound-below (λ n. get_or (in_turn Backward round_constants) n 0) 16 12 tt

twelve : (w : Direction) → length (in_turn w round_constants) ≡ 12
twelve Forward = refl
twelve Backward = refl

module _ (p : PhotonParameters) (w : Direction) (x : Grid) where
  -- the first n rounds
  abbrev pub first : ℕ → Grid
  first n = foldl (photon_round p w) x (take n (in_turn w round_constants))

  pub first_more : (n : ℕ) → n < 12 → photon_round p w (first n) (get_or (in_turn w round_constants) n 0) ≡ first (n + 1)
  first_more n h =
      rw (add-one, take-suc (in_turn w round_constants) n 0 (omega (arith, twelve w)), foldl-append)

  pub first-all : (n : ℕ) → n ≡ 12 → first n ≡ photon_rounds p w x
  unfolding photon_rounds rounds
  first-all n e = ap (foldl (photon_round p w) x) (take_all n (in_turn w round_constants) (omega (arith, twelve w)))
