-- `photon::steps::unmix_columns_of` meets its contract: the rows are reversed, mixed, and reversed again. Assumes nothing.
use Rattle.standard.specs.Photon.{unmix_columns}
use Rattle.photon.proofs.ParametersOf.{size_fits}
use Rattle.photon.proofs.StepsOf.{flip-at, flip-small}
use Rattle.photon.proofs.steps.unmix_columns_of.Goals as goal

pub flipped-requires : goal.flipped-requires
flipped-requires c = (size_fits _ _ c.requires.le_v c.size_of-d.ensures).1

pub mix_back_of-m-requires : goal.mix_back_of-m-requires
mix_back_of-m-requires c = record { le_v = c.requires.le_v; small = flip-small _ (flip-at c.size_of-d.ensures _ _ c.flipped.ensures) c.requires.small }

pub flipped-requires-2 : goal.flipped-requires-2
flipped-requires-2 c = (size_fits _ _ c.requires.le_v c.size_of-d.ensures).1

pub returns : goal.returns
unfolding unmix_columns
returns c =
    let size = c.size_of-d.ensures in
    rw (flip-at size _ _ c.flipped-2.ensures, c.mix_back_of-m.ensures, flip-at size _ _ c.flipped.ensures)
