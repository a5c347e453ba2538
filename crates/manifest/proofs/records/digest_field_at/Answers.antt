-- `manifest::records::digest_field_at` meets its contract: 32 bytes from the fourth of the record on. Assumes nothing.
use mathlib.Core.Path.{◌≡◌, ap}
use Prim.Native.Nat.{ℕ, ◌+◌, ◌*◌, ◌-◌}
use native.Mathlib.Omega.{arith}
use lib.ListN.{take, drop}
use Rattle.manifest.proofs.records.digest_field_at.Goals as goal

pub returns : goal.returns
returns c =
    let a = c.args in
    let e : 35 * a.k + 3 + 32 - (35 * a.k + 3) ≡ 32 = omega arith in
    ap (λ (n : ℕ). take n (drop (35 * a.k + 3) a.manifest.now)) e
