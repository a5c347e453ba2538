-- For the code: the parameters of PHOTON by a variant's number.
-- Assumes nothing.
use Rattle.std.specs.Prelude.{List, [], ℕ, ◌+◌, ◌-◌}
use Rattle.standard.specs.declared.Direction.{Direction}
use Rattle.standard.specs.declared.Direction.TheVariants.{Forward, Backward}
use Rattle.standard.specs.Photon.{PhotonParameters}
use Rattle.standard.specs.Families.{photon, spongent, Family, sponge, lesamnta}
use Rattle.standard.specs.Variants.{variant}
use Rattle.photon.specs.declared.Cell.{Cell}
use Rattle.photon.specs.declared.Cell.TheVariants.{Nibble, Byte}

abbrev no_parameters : PhotonParameters
no_parameters = record { d = 0; s = 0; poly = 0; box = []; unbox = []; ic = []; z = []; unz = [] }

-- the parameters of a family that is PHOTON; none of the others
abbrev pub photon_in : Family → PhotonParameters
photon_in (sponge (photon p) r') = p
photon_in (sponge (spongent p) r') = no_parameters
photon_in lesamnta = no_parameters

-- the parameters of the variant v, 1 to 5
unfoldable pub photon_of : ℕ → PhotonParameters
photon_of v = photon_in (variant v).family

-- the bits of a cell
abbrev pub width : Cell → ℕ
width Nibble = 4
width Byte = 8

-- ---- what a direction takes of them

-- 5.2.4.3: the S-box, or its inverse
abbrev pub box_of : PhotonParameters → Direction → List ℕ
box_of p Forward = p.box
box_of p Backward = p.unbox

-- 5.2.4.4: the factor of ShiftRows
abbrev pub shift_factor : ℕ → Direction → ℕ
shift_factor d Forward = 1
shift_factor d Backward = d - 1

-- the row from which the others count how far they rotate left
abbrev pub rotation_from : ℕ → Direction → ℕ
rotation_from d Forward = 0
rotation_from d Backward = d

-- which is as far as the two rows are apart
abbrev pub distance : ℕ → ℕ → ℕ
distance i k = i - k + (k - i)
