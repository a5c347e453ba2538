-- What is promised of the cipher's two calls together. Assumes nothing.
use Rattle.std.specs.Prelude.{◌≡◌, List, ℕ, ◌<◌, length, get_or}
use Rattle.standard.specs.Rounds.{opposite}
use Rattle.standard.specs.declared.Direction.{Direction}
use Rattle.lesamnta.specs.Cipher.{ciphered}

-- Document 02, Q-7: under every key, what one of the two calls makes of 32 bytes the other takes back.
abbrev pub CipheredBack : Type 0
CipheredBack =
    (w : Direction) (key state : List ℕ) → length state ≡ 32 → ((i : ℕ) → get_or state i 0 < 256)
    → ciphered (opposite w) key (ciphered w key state) ≡ state
