-- `photon::steps::with_first` meets its contract: in the sum of two rows each cell is a sum, and the second has no cell but the first. Assumes nothing.
use mathlib.Core.Path.{◌≡◌, ap, ap₂, ◌∙◌}
use mathlib.Core.List.{List}
use Prim.Native.Nat.{ℕ, zero, suc, ◌/◌, ◌%◌, ◌<◌}
use native.Mathlib.Nat.{mod-eq_of_lt, div-eq_of_lt}
use native.Mathlib.Omega.{arith}
use lib.Bits.{bit_xor, xor_zero_r}
use lib.ListN.{get_or}
use Rattle.standard.specs.Photon.{in_first}
use Rattle.photon.specs.Rows.{lane}
use Rattle.photon.proofs.Lanes.{lane-zero, lane_xor}
use Rattle.photon.proofs.steps.with_first.Goals as goal

first-only : (row : List ℕ) (p w x : ℕ) → ((j : ℕ) → j < 8 → lane j p ≡ get_or row j 0) → w ≡ x → x < 256
    → (j : ℕ) → j < 8 → bit_xor (lane j p) (lane j w) ≡ in_first j (bit_xor (get_or row 0 0) x) (get_or row j 0)
unfolding lane
first-only row p w x e ew hx zero h = ap₂ bit_xor (e 0 h) (ap (λ (n : ℕ). n % 256) ew ∙ mod-eq_of_lt hx)
first-only row p w x e ew hx (suc j) h =
    ap₂ bit_xor (e (suc j) h) (ap (λ (n : ℕ). lane j (n / 256)) ew ∙ ap (lane j) (div-eq_of_lt hx) ∙ lane-zero j) ∙ xor_zero_r (get_or row (suc j) 0)

pub returns : goal.returns
returns c = λ j h.
    let w = c.from in
    let p = c.packed in
    let a = c.args in
    c.unpacked.ensures j h ∙ lane_xor j p.result w.result ∙ first-only a.row p.result w.result a.x p.ensures w.ensures (omega arith) j h
