-- The cipher of Lesamnta-LW on bytes.
-- Assumes nothing.
use Rattle.std.specs.Prelude.{List, ℕ}
use Rattle.standard.specs.Bits.{high_first, bits_in, pack}
use Rattle.standard.specs.declared.Direction.{Direction}
use Rattle.standard.specs.Lesamnta.{cipher}

-- E_K on the 32 bytes of a state, under the 16 of a key, or its inverse
unfoldable pub ciphered : Direction → List ℕ → List ℕ → List ℕ
ciphered w key state = pack high_first 32 (cipher w (bits_in high_first key) (bits_in high_first state))
