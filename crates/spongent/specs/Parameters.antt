-- For the code: the parameters of SPONGENT by the number of a variant, and the taps by the width of the counter.
-- Assumes nothing.
use Rattle.std.specs.Prelude.{cond, List, [], ◌∷◌, ℕ, eqb}
use Rattle.standard.specs.Spongent.{SpongentParameters}
use Rattle.standard.specs.Families.{photon, spongent, Family, sponge, lesamnta}
use Rattle.standard.specs.Variants.{variant}

abbrev no_parameters : SpongentParameters
no_parameters = record { t = 0; R = 0; width = 0; first = 0; taps = [] }

-- the parameters of a family that is SPONGENT; none of the others
abbrev pub spongent_in : Family → SpongentParameters
spongent_in (sponge (spongent p) r') = p
spongent_in (sponge (photon p) r') = no_parameters
spongent_in lesamnta = no_parameters

-- the parameters of the variant v, 6 to 10
unfoldable pub spongent_of : ℕ → SpongentParameters
spongent_of v = spongent_in (variant v).family

-- Table 9 has one polynomial for each width, 6 to 8
unfoldable pub taps_of : ℕ → List ℕ
taps_of w = cond (eqb w 6) (5 ∷ 4 ∷ []) (cond (eqb w 7) (6 ∷ 5 ∷ []) (7 ∷ 3 ∷ 2 ∷ 1 ∷ []))
