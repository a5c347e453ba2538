-- For the code: what its contracts ask of a running hash.
-- Assumes nothing.
use Rattle.std.specs.Prelude.{◌≡◌, true, false}
use Rattle.hasher.specs.declared.Hasher.{Hasher}
use Rattle.hasher.specs.Running.{closed, well_formed}

-- well formed and open: the end may come, and after whole bytes a piece
abbrev pub Open : Hasher → Type 0
Open h = (well_formed h ≡ true) × (closed h ≡ false)
