-- What is left of equal elements after the front.
-- Assumes nothing.
use mathlib.Core.Path.{◌≡◌, sym, ap}
use Prim.Native.Nat.{ℕ, zero, suc, ◌-◌}
use native.Mathlib.Nat.{sub-zero, suc-sub-suc}
use native.Mathlib.Omega.{arith}
use lib.ListN.{drop, replicate}

pub drop-replicate : {A : Type 0} (n m : ℕ) (x : A) → drop n (replicate m x) ≡ replicate (m - n) x
drop-replicate zero m x = ap (λ (k : ℕ). replicate k x) (sym (sub-zero m))
drop-replicate (suc n) zero x =
    let none : 0 - suc n ≡ 0 = omega arith in
    rw none
drop-replicate (suc n) (suc m) x = rw suc-sub-suc (drop-replicate n m x)
