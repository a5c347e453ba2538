-- For the code: the families as it tells them apart.
-- Assumes nothing.
use Rattle.standard.specs.Families as standard
use Rattle.standard.specs.Families.{photon, spongent, sponge, lesamnta}
use Rattle.chain.specs.declared.sizes.Family.{Family}
use Rattle.chain.specs.declared.sizes.Family.TheVariants.{Photon, Spongent, Lesamnta}

abbrev pub family_of : standard.Family → Family
family_of (sponge (photon p) r') = Photon
family_of (sponge (spongent p) r') = Spongent
family_of lesamnta = Lesamnta
