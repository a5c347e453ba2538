-- For the code: a stride is a number of bytes of a table of which only the last can end it, and which its running hash
-- takes all or not at all.
-- Assumes nothing.
use Rattle.std.specs.Prelude.{◌≡◌, ℕ, ◌+◌, ◌*◌, ◌≤◌, ◌<◌}
use Rattle.answers.specs.Outputs.{max_bits}
use Rattle.manifest.specs.declared.current.Current.{Current}
use Rattle.manifest.specs.Tables.{header_bytes}

pub record Stride (c : Current) (n : ℕ) : Type 0 where
  pub some : 1 ≤ n
  pub header : c.got < header_bytes → n ≡ 1
  pub inside : 1 < n → n ≤ c.left
  pub room : c.hasher.total + 8 ≤ max_bits → c.hasher.total + 8 * n ≤ max_bits
